-- Edits of a list that are made at once, and one more that does again what one of them did, whatever that is.
--
-- Theorems: `made_once_more`; `each_put`: what holds of each change holds with its change in the place of one;
-- `done_once_more`: the edit is not refused after the edits.
use Rattle.std.proofs.Common.{◌≡◌, ◌<◌, ◌++◌, ℕ, suc, List, length, get_or, sym}
use Rattle.std.proofs.Common.{subst, All, IsUtf8, inl, inr, true}
use Rattle.std.specs.Prelude.{◌⊎◌}
use Rattle.std.proofs.lemmas.List.{append-nil}
use Rattle.std.proofs.lemmas.List.Elements.{All-weaker}
use Rattle.std.proofs.lemmas.Str.{IsUtf8-string_bytes}
use Rattle.keep_syntax.specs.Tree.{Document}
use Rattle.keep_edit_spec.specs.Runs as runs
use Rattle.keep_edit_spec.specs.TextChanges.{TextChange}
use Rattle.keep_edit_plan.proofs.Shared.{change_in}
use Rattle.keep_edit_plan.specs.TextEdits.{IsChangeIn, change_of}
use Rattle.keep_edit_plan.specs.declared.edit.Edit.{Edit}
use Rattle.keep_edit_plan.specs.declared.text_edit.TextEdit.{TextEdit}
use Rattle.keep_edit_runs.specs.Again.{AllowAgain, IsAgainHere, IsPutAgain, LetsAgain, edit_of, outlines_of}
use Rattle.keep_edit_plan.specs.Reading.{IsTextOfTree, ProfiledText}
use Rattle.keep_edit_runs.specs.Newlines.{LeavesHere}
use Rattle.keep_edit_runs.specs.Runs.{Allows, IsRunTo, LeavesAlone, outlined}
use Rattle.keep_edit_runs.specs.declared.added_lines.AddedLines.{AddedLines}
use Rattle.keep_edit_runs.specs.declared.again.Again.{Again}
use Rattle.keep_edit_runs.specs.declared.again.Again.TheVariants as again
use Rattle.keep_edit_runs.specs.declared.outline.Outline.{Outline}
use Rattle.keep_edit_runs.proofs.InsertAgainSteps.{IsAlike, each_instead, inserted_again}
use Rattle.keep_edit_runs.proofs.InsertAgainSteps.{done_there as line_there}
use Rattle.keep_edit_runs.proofs.LineKeySteps.{done_there as line_key_there, renamed_there}
use Rattle.keep_edit_runs.proofs.RenameAgainSteps.{done_there as key_there, renamed_again}
use Rattle.keep_edit_runs.proofs.RunSteps.{AreMadeTo}
use Rattle.keep_edit_runs.proofs.SetAgainSteps.{IsDoneThere, changes_again, each_replaced}
use Rattle.keep_edit_runs.proofs.SetAgainSteps.{done_there as set_there}

pub each_put : (P : TextChange → Type 0) (a : Again) (old new : List TextChange) → IsPutAgain a old new → All P old
    → P (change_of (edit_of a)) → All P new
each_put P (again.Value t) old new is all its = each_replaced P old new (change_of t) is all its
each_put P (again.Key o t) old new is all its = each_replaced P old new (change_of t) is all its
each_put P (again.Line number was t) old new is all its =
    each_instead P old new (change_of was) (change_of t) is all its
each_put P (again.LineKey o giving was t) old new is all its =
    each_instead P old new (change_of was) (change_of t) is all its

-- what is known of all edits before, and not of one alone
alike : (now : ProfiledText) (P : Outline → Type 0) (outlines : List Outline) (t : TextEdit)
    → LeavesHere now (change_of t) ⊎ ((other : Outline) → P other → runs.is_insert (outlined other) ≡ true)
    → All P outlines → IsAlike now outlines t
alike now P outlines t (inl leaves) all = inl leaves
alike now P outlines t (inr inserts) all =
    inr (All-weaker P (λ y. runs.is_insert (outlined y) ≡ true) inserts outlines all)

pub made_once_more : (edits : List Edit) (first end : ℕ) (now : ProfiledText) (outlines : List Outline)
    (changes new : List TextChange) (adds : AddedLines) (d x : Edit) (a : Again) (P : Outline → Type 0)
    → AreMadeTo edits first end now outlines changes adds → end < length edits → get_or edits end d ≡ x
    → IsAgainHere now x outlines changes a → AllowAgain (LeavesHere now) P a → LetsAgain adds a → All P outlines
    → IsPutAgain a changes new
    → AreMadeTo edits first (suc end) now (outlines ++ outlines_of a) new adds
made_once_more edits first end now outlines changes new adds d x (again.Value t) P so_far lt here is allow lets seen
    put =
    subst (λ (os : List Outline). AreMadeTo edits first (suc end) now os new adds) (sym (append-nil outlines))
    (changes_again edits first end now outlines changes new adds d x t so_far lt here is put)
made_once_more edits first end now outlines changes new adds d x (again.Key o t) P so_far lt here is allow lets seen
    put =
    renamed_again edits first end now outlines changes new adds d x o t so_far lt here is
    (All-weaker P (λ y. Allows y o) allow outlines seen) put
made_once_more edits first end now outlines changes new adds d x (again.Line number was t) P so_far lt here is allow
    lets seen put =
    subst (λ (os : List Outline). AreMadeTo edits first (suc end) now os new adds) (sym (append-nil outlines))
    (inserted_again edits first end now outlines changes new adds d x was t so_far lt here is
    (alike now P outlines t allow seen) lets put)
made_once_more edits first end now outlines changes new adds d x (again.LineKey o giving was t) P so_far lt here is
    allow lets seen put =
    renamed_there edits first end now outlines changes new adds d x o was t so_far lt here is
    (alike now P outlines t allow.0 seen) (All-weaker P (λ y. LeavesAlone y o) allow.1 outlines seen) lets put

-- ---- in the document after the edits

module _ (s : Document) (edits : List Edit) (n : ℕ) (old now : ProfiledText) (before : Document)
    (outlines : List Outline) (changes new : List TextChange) (adds : AddedLines) (read : IsTextOfTree now before)
    (h : IsRunTo s edits n old now before outlines changes adds) (utf8 : All (λ c. IsUtf8 c.new) changes)
    (within : All (IsChangeIn now.text) changes) (d x : Edit) (lt : n < length edits) (here : get_or edits n d ≡ x)
    (P : Outline → Type 0) (seen : All P outlines) where
  pub done_once_more : (a : Again) → IsAgainHere now x outlines changes a → AllowAgain (LeavesHere now) P a
      → LetsAgain adds a
      → IsPutAgain a changes new → IsDoneThere now.profile h.made.tree x
  done_once_more (again.Value t) is allow lets put =
      set_there s edits n old now before outlines changes new adds read h d x lt here t is put
      (each_replaced (λ b. IsUtf8 b.new) changes new (change_of t) put utf8 (IsUtf8-string_bytes t.new))
      (each_replaced (IsChangeIn now.text) changes new (change_of t) put within (change_in now.text t is.within))
  done_once_more (again.Key o t) is allow lets put =
      key_there s edits n old now before outlines changes new adds read h d x lt here o t is
      (All-weaker P (λ y. Allows y o) allow outlines seen) put
      (each_replaced (λ b. IsUtf8 b.new) changes new (change_of t) put utf8 (IsUtf8-string_bytes t.new))
      (each_replaced (IsChangeIn now.text) changes new (change_of t) put within (change_in now.text t is.within))
  done_once_more (again.Line number was t) is allow lets put =
      line_there s edits n old now before outlines changes new adds read h d x lt here was t is
      (alike now P outlines t allow seen) lets put
      (each_instead (λ b. IsUtf8 b.new) changes new (change_of was) (change_of t) put utf8
      (IsUtf8-string_bytes t.new))
      (each_instead (IsChangeIn now.text) changes new (change_of was) (change_of t) put within
      (change_in now.text t is.within))
  done_once_more (again.LineKey o giving was t) is allow lets put =
      line_key_there s edits n old now before outlines changes new adds read h d x lt here o was t is
      (alike now P outlines t allow.0 seen) (All-weaker P (λ y. LeavesAlone y o) allow.1 outlines seen) lets put
      (each_instead (λ b. IsUtf8 b.new) changes new (change_of was) (change_of t) put utf8
      (IsUtf8-string_bytes t.new))
      (each_instead (IsChangeIn now.text) changes new (change_of was) (change_of t) put within
      (change_in now.text t is.within))
