-- The newline of a valid document has at most two bytes.
--
-- Theorem: `newline_short`.
use Rattle.std.proofs.Common.{ℕ, ◌≤◌, List, length, ap, arith, inl, inr}
use Rattle.keep_types.specs.declared.leaf.Leaf.TheVariants as leaf
use Rattle.keep_types.specs.declared.leaf.Profile.{Profile}
use Rattle.keep_types.specs.declared.leaf.Profile.TheVariants.{Strict}
use Rattle.keep_token.specs.Leaves.{IsLeaf}
use Rattle.keep_syntax.specs.Tree.{Document}
use Rattle.keep_syntax.specs.Grammar.{IsDocument}
use Rattle.keep_edit_spec.specs.Lines.{newline_of}
use Rattle.keep_edit_spec.proofs.Common.NewLines.{newline_is}

short_newline : (t : List ℕ) → IsLeaf Strict leaf.Newline t → length t ≤ 2
short_newline t (inl e) = omega (arith, ap (λ (l : List ℕ). length l) e)
short_newline t (inr e) = omega (arith, ap (λ (l : List ℕ). length l) e)

pub newline_short : (profile : Profile) (s : Document) → IsDocument profile s → length (newline_of s).text ≤ 2
newline_short profile s h = short_newline (newline_of s).text (newline_is profile s h).newline
