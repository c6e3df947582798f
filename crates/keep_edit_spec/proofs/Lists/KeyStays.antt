-- A rename of the key of a line that was added goes on after other edits, which leave alone the insert of the line, and
-- one of the new key there: each law of two kinds has what it asks, as both paths are apart from those of the edit.
--
-- Theorems: `left_back`: what leaves an insert alone is left alone by it; `rename_still`.
use Rattle.std.proofs.Common.{◌≡◌, ◌≢◌, ℕ, List, [], sym, ap, subst, ◌∙◌, None, Some, inl, inr, true, false}
use Rattle.keep_types.specs.declared.leaf.Profile.{Profile}
use Rattle.keep_syntax.specs.Tree.{Document, Value}
use Rattle.keep_path.specs.Path.{Part, beside, strip}
use Rattle.keep_edit_spec.specs.AddedLines.{first_new}
use Rattle.keep_edit_spec.specs.Edits.{Edit, append_element, append_table, edited_document, insert, remove, rename, set}
use Rattle.keep_edit_spec.specs.ElementRuns.{changed_path}
use Rattle.keep_edit_spec.specs.Laws.{IsEditable}
use Rattle.keep_edit_spec.specs.RenamedKeys.{RenamesKey}
use Rattle.keep_edit_spec.specs.Runs.{AreApart, IsSeenStill, LeavesAlone, MakesChange, PassesBy, seen}
use Rattle.keep_edit_spec.specs.TextChanges.{IsBeside, TextChange, moved}
use Rattle.keep_edit_spec.specs.declared.line_kind.LineKind.TheVariants.{LastInBody, OfDotted, WithHeader}
use Rattle.keep_edit_spec.proofs.Lists.ApartPaths.{apart_renamed}
use Rattle.keep_edit_spec.proofs.Lists.ExchangedEdits.{passes_whole, whole_apart}
use Rattle.keep_edit_spec.proofs.Lists.LineKinds.{keys_of_line}
use Rattle.keep_edit_spec.proofs.Lists.NewPaths.{InsertsKeys, first_clear}
use Rattle.keep_edit_spec.proofs.Lists.RenameAfterBrought.{rename_after_brought}
use Rattle.keep_edit_spec.proofs.Lists.RenameAfterClear.{rename_after_clear}
use Rattle.keep_edit_spec.proofs.Lists.RenameAfterHeader.{rename_after_element, rename_after_table}
use Rattle.keep_edit_spec.proofs.Lists.RenameAfterInsert.{rename_after_insert}
use Rattle.keep_edit_spec.proofs.Lists.RenameAfterRemove.{rename_after_remove}
use Rattle.keep_edit_spec.proofs.Lists.RenameAfterSet.{rename_after_set}
use Rattle.keep_edit_spec.proofs.Lists.RenameAfterTaken.{rename_after_taken}
use Rattle.keep_edit_spec.proofs.Lists.StillRenames.{still_renames}
use Rattle.keep_edit_spec.proofs.Lists.TakenGone.{table_changed}
use Rattle.keep_edit_spec.proofs.Rename.RenamedParts.{strip_self}

-- ---- what leaves an insert alone

pub left_back : (path : List Part) (value : Value) (f : Edit) → LeavesAlone f (insert path value)
    → LeavesAlone (insert path value) f
left_back path value (insert other new) h = λ same. h (sym same)
left_back path value (remove other) h = (h.1, h.0)
left_back path value (set other new) h = (h.1, h.0)
left_back path value (rename other name) h = ((h.0.1, h.0.0), h.1)
left_back path value (append_table keys) h = h
left_back path value (append_element keys) h = h

-- ---- the rename

module _ (profile : Profile) (limit : ℕ) (s : Document) (path : List Part) (value : Value)
    (own : InsertsKeys profile limit s path value) where
  -- An edit that the insert leaves alone has its paths apart from that one.
  abbrev pub IsApart : Edit → Type 0
  IsApart (insert other new) = AreApart (first_new s other) path
  IsApart (remove other) = AreApart other path
  IsApart (set other new) = AreApart other path
  IsApart (rename other name) = AreApart other path × AreApart path (beside other name)
  IsApart (append_table keys) = PassesBy keys path
  IsApart (append_element keys) = PassesBy keys path

  pub paths_apart : (f : Edit) (z : TextChange) → MakesChange profile limit s f z
      → LeavesAlone (seen s (insert path value)) (seen s f) → IsApart f
  paths_apart (insert other new) z (kind, k) alone =
      let its : InsertsKeys profile limit s other new = keys_of_line kind profile limit s other new z k in
      whole_apart profile limit s path value own (first_new s other) (
        first_clear profile limit s path value other new own its alone,
        first_clear profile limit s other new path value its own (λ same. alone (sym same)),
      )
  paths_apart (remove other) z k alone = whole_apart profile limit s path value own other alone
  paths_apart (set other new) z k alone = whole_apart profile limit s path value own other alone
  paths_apart (rename other name) z k alone =
      let new : AreApart (beside other name) path =
      whole_apart profile limit s path value own (beside other name)
      (apart_renamed (first_new s path) other name alone.0 alone.1) in
      (whole_apart profile limit s path value own other alone.0, (new.1, new.0))
  paths_apart (append_table keys) z k alone = passes_whole profile limit s path value own keys alone
  paths_apart (append_element keys) z k alone = passes_whole profile limit s path value own keys alone

module _ (profile : Profile) (limit : ℕ) (s now : Document) (path : List Part) (name : List ℕ) (value : Value)
    (own : InsertsKeys profile limit s path value) (new : InsertsKeys profile limit s (beside path name) value)
    (y : TextChange) (fine : IsEditable profile limit now) (renames : RenamesKey profile limit now path name y) where
  abbrev b : List Part
  b = beside path name

  abbrev IsRenameStill : Edit → TextChange → Type 0
  IsRenameStill f x = RenamesKey profile limit (edited_document now f) path name (moved x y)

  by_paths : (f : Edit) (x : TextChange) → IsApart profile limit s path value own f
      → IsApart profile limit s b value new f → MakesChange profile limit now f x → IsSeenStill s now f
      → IsBeside x y → IsRenameStill f x
  by_paths (insert other more) x one two (LastInBody, k) same side =
      rename_after_insert profile limit now other more x false path name y fine k renames
      (subst (λ (q : List Part). AreApart q path) (sym same.0) one)
      (subst (λ (q : List Part). AreApart q b) (sym same.0) two) side
  by_paths (insert other more) x one two (OfDotted, k) same side =
      rename_after_insert profile limit now other more x true path name y fine k renames
      (subst (λ (q : List Part). AreApart q path) (sym same.0) one)
      (subst (λ (q : List Part). AreApart q b) (sym same.0) two) side
  by_paths (insert other more) x one two (WithHeader, k) same side =
      rename_after_brought profile limit now other more x path name y fine k renames
      (subst (λ (q : List Part). AreApart q path) (sym same.0) one)
      (subst (λ (q : List Part). AreApart q b) (sym same.0) two) side
  by_paths (remove other) x one two (inl k) same side =
      rename_after_remove profile limit now other x path name y fine k renames one two side
  by_paths (remove other) x one two (inr (inl k)) same side =
      rename_after_clear profile limit now other x path name y fine k renames one two side
  by_paths (remove other) x one two (inr (inr k)) same side =
      let at : changed_path other ≡ other = table_changed profile limit now other x fine k in
      rename_after_taken profile limit now other x path name y fine (inl k) renames
      (subst (λ (q : List Part). AreApart q path) (sym at) one)
      (subst (λ (q : List Part). AreApart q b) (sym at) two) side
  by_paths (set other more) x one two k same side =
      rename_after_set profile limit now other more x path name y fine k renames one two side
  by_paths (rename other more) x one two k same side =
      still_renames profile limit now other more x path name y fine k renames
      (record { below = one.0.0; new = differs }) side
    where
      differs : beside other more ≢ b
      differs is =
          let no : None ≡ Some [] = sym two.1.0 ∙ ap (strip b) is ∙ strip_self b in absurd cc
  by_paths (append_table keys) x one two k same side =
      rename_after_table profile limit now keys x path name y fine k renames one two
  by_paths (append_element keys) x one two k same side =
      rename_after_element profile limit now keys x path name y fine k renames one two

  -- The rename makes its change after an edit that both inserts leave alone.
  pub rename_still : (f : Edit) (x z : TextChange) → MakesChange profile limit s f z
      → LeavesAlone (seen s (insert path value)) (seen s f) → LeavesAlone (seen s (insert b value)) (seen s f)
      → MakesChange profile limit now f x → IsSeenStill s now f → IsBeside x y → IsRenameStill f x
  rename_still f x z was alone other makes same side =
      by_paths f x (paths_apart profile limit s path value own f z was alone)
      (paths_apart profile limit s b value new f z was other) makes same side
