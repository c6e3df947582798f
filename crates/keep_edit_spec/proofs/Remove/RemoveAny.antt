-- `remove`, where it is not refused: there is a change, and it is right.
--
-- Theorem: `remove_any`.
use Rattle.std.proofs.Common.{◌≡◌, ℕ, Bool, true, false, not, ◌&&◌, ◌||◌, List, refl, None, ◌⊎◌, inl, inr}
use Rattle.keep_types.specs.declared.leaf.Profile.{Profile}
use Rattle.keep_syntax.specs.Tree.{Document}
use Rattle.keep_syntax.specs.Grammar.{IsDocument}
use Rattle.keep_path.specs.Path.{Part}
use Rattle.keep_meaning.specs.Rules.{ObeysRules}
use Rattle.keep_meaning.specs.Marks.{Mention, start, marks}
use Rattle.keep_meaning.specs.Meaning.{lines, mentions_in}
use Rattle.keep_meaning.specs.Nodes.{has, is_define, is_through, is_begun, is_passed}
use Rattle.keep_edit_spec.specs.Edits.{remove, change}
use Rattle.keep_edit_spec.specs.Refusals.{refusal, has_value}
use Rattle.keep_edit_spec.proofs.Common.Runs.{SomeOf, Rules}
use Rattle.keep_edit_spec.proofs.Common.LineTexts.{change-is}
use Rattle.keep_edit_spec.proofs.Common.SetWhole.{together}
use Rattle.keep_edit_spec.proofs.Common.Marks.{rules_of_document}
use Rattle.keep_edit_spec.proofs.Common.ValueThere.{alone_of_has}
use Rattle.keep_edit_spec.proofs.Common.Doubles.{IsMentioned, has_some}
use Rattle.keep_edit_spec.proofs.Common.TableThere.{defined_ends}
use Rattle.keep_edit_spec.proofs.Remove.RemoveValid.{valid_remove}
use Rattle.keep_edit_spec.proofs.Remove.RemoveLaw.{remove_by}
use Rattle.keep_edit_spec.proofs.Remove.RemoveRefusal.{lines_begun, never_begun}
use Rattle.keep_edit_spec.proofs.Remove.RemoveWhole.{IsRemovedWhole, removable, whole_of, remove_whole}
use Rattle.keep_edit_spec.proofs.Remove.RemoveElement.{element_dropped}
use Rattle.keep_edit_spec.proofs.Remove.ElementThere.{some_of_element, begun_alone}

three_pieces : (v d t b q : Bool) → (v || ((d && not t) || (b && not q))) ≡ true
    → (v ≡ true) ⊎ ((d ≡ true) ⊎ (q ≡ false))
three_pieces true d t b q h = inl refl
three_pieces false true t b q h = inr (inl refl)
three_pieces false false t b false h = inr (inr refl)
three_pieces false false t true true h = absurd cc
three_pieces false false t false true h = absurd cc

-- no header goes past an element that may be removed
not_passed : (profile : Profile) (limit : ℕ) (s : Document) (path : List Part) → Rules (mentions_in s)
    → SomeOf (IsMentioned is_begun path) (mentions_in s) → refusal profile limit s (remove path) ≡ None
    → has is_passed path (mentions_in s) ≡ false
not_passed profile limit s path rules there allowed =
    let ms : List Mention = mentions_in s in
    let piece = (removable profile limit s path allowed).piece in
    elim (three_pieces (has_value path ms) (has is_define path ms) (has is_through path ms) (has is_begun path ms)
    (has is_passed path ms) piece) [
      | inl valued ↦ absurd (begun_alone s path rules there (alone_of_has path ms valued))
      | inr more ↦ (elim more [
        | inl defined ↦
            absurd (never_begun path ms (lines_begun path (defined_ends s path (has_some is_define path ms defined))
            start (lines s)) there)
        | inr free ↦ free
      ])
    ]

remove_element_whole : (profile : Profile) (limit : ℕ) (s : Document) (path : List Part) → IsDocument profile s
    → ObeysRules (marks (mentions_in s)) → has is_begun path (mentions_in s) ≡ true
    → refusal profile limit s (remove path) ≡ None → IsRemovedWhole profile s path
remove_element_whole profile limit s path valid obeys begins allowed =
    let rules : Rules (mentions_in s) = rules_of_document s obeys in
    let there : SomeOf (IsMentioned is_begun path) (mentions_in s) = has_some is_begun path (mentions_in s) begins in
    whole_of profile s path (some_of_element s path there)
    (together profile s (remove path) (change s (remove path)) (valid_remove profile s path valid)
    (change-is s (remove path))
    (remove_by profile s path valid rules
    (element_dropped s path rules there (not_passed profile limit s path rules there allowed))))

pub remove_any : (profile : Profile) (limit : ℕ) (s : Document) (path : List Part) → IsDocument profile s
    → ObeysRules (marks (mentions_in s)) → refusal profile limit s (remove path) ≡ None → IsRemovedWhole profile s path
remove_any profile limit s path valid obeys allowed = by (has is_begun path (mentions_in s)) refl
  where
    by : (b : Bool) → has is_begun path (mentions_in s) ≡ b → IsRemovedWhole profile s path
    by true e = remove_element_whole profile limit s path valid obeys e allowed
    by false e = remove_whole profile limit s path valid obeys e allowed
