-- Where no line is the keyval of a path, a remove of that path takes no line of its own, nor clears one.
--
-- Theorems: `none_own`, `bare`.
use Rattle.std.proofs.Common.{◌≡◌, ℕ, List, ◌∷◌, ◌++◌, refl, subst, Option, Some, None}
use Rattle.keep_syntax.specs.Tree.{Line, Document}
use Rattle.keep_path.specs.Path.{Part}
use Rattle.keep_meaning.specs.Marks.{start}
use Rattle.keep_meaning.specs.Meaning.{lines, reading_after_lines}
use Rattle.keep_edit_spec.specs.Changed.{Changed}
use Rattle.keep_edit_spec.specs.Edits.{clear_line}
use Rattle.keep_edit_spec.specs.Lines.{Page, in_lines, last_line}
use Rattle.keep_edit_spec.proofs.Common.SetDocument.{page_lines}
use Rattle.keep_edit_spec.proofs.Common.SetLaw.{EachTo}
use Rattle.keep_edit_spec.proofs.Lists.RemovedPlaces.{mine}
use Rattle.keep_edit_spec.proofs.Remove.RemoveLines.{IsFound, IsLastLine, IsOwnLine, LinesCleared, found, lines_cleared}
use Rattle.keep_edit_spec.proofs.Remove.RemoveLines.{own_line}

module _ (s : Document) (path : List Part)
    (not_own : (pre : List Line) (l : Line) (post : List Line) → lines s ≡ pre ++ l ∷ post
    → IsOwnLine (reading_after_lines start pre).body path l.content → ⊥) where
  pub none_own : last_line (mine path) start (lines s) ≡ None
  none_own = by (last_line (mine path) start (lines s)) refl
    where
      by : (o : Option ℕ) → last_line (mine path) start (lines s) ≡ o → last_line (mine path) start (lines s) ≡ None
      by None e = e
      by (Some n) e =
          let h : IsLastLine (mine path) start (lines s) n =
          subst (IsFound (mine path) start (lines s)) e (found (mine path) start (lines s)) in
          absurd (not_own h.pre h.line h.post h.was
          (own_line path (reading_after_lines start h.pre) h.line.content h.passes))

  pub bare : in_lines (clear_line path) start s.ended s.last ≡ None
  bare = by (in_lines (clear_line path) start s.ended s.last) refl (lines_cleared path start s.ended s.last)
    where
      by : (o : Option (Changed Page)) → in_lines (clear_line path) start s.ended s.last ≡ o
          → EachTo (λ p. LinesCleared start path (lines s) (page_lines p)) o
          → in_lines (clear_line path) start s.ended s.last ≡ None
      by None e h = e
      by (Some p) e h = absurd (not_own h.pre h.old h.post h.was h.own)
