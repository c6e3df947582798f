-- An edit and the remove of a table or an element with its header: one law for each kind of edit, joined here.
--
-- The remove makes its change after an edit that is elsewhere than at the changed path and below it, so that is apart
-- from the header's own path, too (ChangedPath). Of two such removes the first leaves the path of the second as it is
-- (`header_after_header`). A table stays one, as its path ends in a key (`still_table`). And the edit makes its change
-- after the remove.
--
-- Theorems: `still_removes_after`; `table_still`: of a table; `still_makes_without`.
use Rattle.std.proofs.Common.{◌≡◌, ℕ, true, false, List, [], refl, sym, ap, subst, ◌∙◌, Some, None, inl, inr}
use Rattle.keep_types.specs.declared.leaf.Profile.{Profile}
use Rattle.keep_syntax.specs.Tree.{Document}
use Rattle.keep_path.specs.Path.{Part, beside, strip}
use Rattle.keep_edit_spec.specs.Edits.{Edit, append_element, append_table, edited_document, insert, remove, rename, set}
use Rattle.keep_edit_spec.specs.ElementRuns.{IsElsewhere, StillMakesChangeWithout, StillRemovesHeaderAfter}
use Rattle.keep_edit_spec.specs.ElementRuns.{changed_path}
use Rattle.keep_edit_spec.specs.Laws.{IsEditable}
use Rattle.keep_edit_spec.specs.RemovedHeaders.{RemovesHeader, path_before}
use Rattle.keep_edit_spec.specs.RemovedSections.{RemovesSection}
use Rattle.keep_edit_spec.specs.Runs.{AreApart, MakesChange, seen}
use Rattle.keep_edit_spec.specs.TextChanges.{IsBeside, TextChange, moved}
use Rattle.keep_edit_spec.specs.declared.line_kind.LineKind.TheVariants.{LastInBody, OfDotted, WithHeader}
use Rattle.keep_edit_spec.proofs.Lists.ApartPaths.{apart_renamed}
use Rattle.keep_edit_spec.proofs.Lists.BroughtAfterTaken.{brought_after_taken}
use Rattle.keep_edit_spec.proofs.Lists.ChangedPath.{apart_from, passes_from}
use Rattle.keep_edit_spec.proofs.Lists.DottedAfterTaken.{dotted_after_taken}
use Rattle.keep_edit_spec.proofs.Lists.HeaderAfterTaken.{element_after_taken, table_after_taken}
use Rattle.keep_edit_spec.proofs.Lists.HeaderTaken.{element_ends, table_ends}
use Rattle.keep_edit_spec.proofs.Lists.InsertAfterTaken.{insert_after_taken}
use Rattle.keep_edit_spec.proofs.Lists.MadeStill.{line_after, not_in_place, remove_after}
use Rattle.keep_edit_spec.proofs.Lists.PathsBefore.{before_table, unchanged_before}
use Rattle.keep_edit_spec.proofs.Lists.RemoveAfterTaken.{clear_after_taken, remove_after_taken}
use Rattle.keep_edit_spec.proofs.Lists.RenameAfterTaken.{rename_after_taken}
use Rattle.keep_edit_spec.proofs.Lists.SetAfterTaken.{set_after_taken}
use Rattle.keep_edit_spec.proofs.Lists.StillRemovesHeader.{still_removes_header}
use Rattle.keep_edit_spec.proofs.Lists.TakenAfterBrought.{taken_after_brought}
use Rattle.keep_edit_spec.proofs.Lists.TakenAfterClear.{taken_after_clear}
use Rattle.keep_edit_spec.proofs.Lists.TakenAfterHeader.{taken_after_element, taken_after_table}
use Rattle.keep_edit_spec.proofs.Lists.TakenAfterInsert.{taken_after_insert}
use Rattle.keep_edit_spec.proofs.Lists.TakenAfterRemove.{taken_after_remove}
use Rattle.keep_edit_spec.proofs.Lists.TakenAfterRename.{taken_after_rename}
use Rattle.keep_edit_spec.proofs.Lists.TakenAfterSet.{taken_after_set}
use Rattle.keep_edit_spec.proofs.Lists.TakenGone.{table_changed}
use Rattle.keep_edit_spec.proofs.Rename.RenamedParts.{strip_self}

-- ---- two headers

-- A header that goes at a path that another leaves as it is still goes after it.
header_after_header : (profile : Profile) (limit : ℕ) (s : Document) (path : List Part) (c : TextChange)
    (other : List Part) (d : TextChange) → IsEditable profile limit s → RemovesHeader profile limit s path c
    → RemovesHeader profile limit s other d → path_before path other ≡ other → strip other path ≡ None
    → RemovesHeader profile limit (edited_document s (remove path)) other (moved c d)
header_after_header profile limit s path c other d fine h k stays apart =
    still_removes_header profile limit s path c other d fine h
    (subst (λ (q : List Part). RemovesHeader profile limit s q d) (sym stays) k)
    (λ same.
    (let self : strip other path ≡ Some [] = ap (strip other) (same ∙ stays) ∙ strip_self other in
    let both : None ≡ Some [] = sym apart ∙ self in
    absurd cc))

-- ---- the remove after the edit

pub still_removes_after : StillRemovesHeaderAfter
still_removes_after profile limit s (insert path value) c other d fine (LastInBody, h) k elsewhere beside =
    taken_after_insert profile limit s path value c false other d fine h k (apart_from other _ elsewhere) beside
still_removes_after profile limit s (insert path value) c other d fine (OfDotted, h) k elsewhere beside =
    taken_after_insert profile limit s path value c true other d fine h k (apart_from other _ elsewhere) beside
still_removes_after profile limit s (insert path value) c other d fine (WithHeader, h) k elsewhere beside =
    taken_after_brought profile limit s path value c other d fine h k (apart_from other _ elsewhere) beside
still_removes_after profile limit s (remove path) c other d fine (inl h) k elsewhere beside =
    taken_after_remove profile limit s path c other d fine h k (apart_from other path elsewhere) beside
still_removes_after profile limit s (remove path) c other d fine (inr (inl h)) k elsewhere beside =
    taken_after_clear profile limit s path c other d fine h k (apart_from other path elsewhere) beside
still_removes_after profile limit s (remove path) c other d fine (inr (inr h)) k elsewhere beside =
    let ends = table_ends profile limit s path c fine h in
    header_after_header profile limit s path c other d fine (inl h) k (before_table path other ends)
    (apart_from other path elsewhere).1
still_removes_after profile limit s (set path value) c other d fine h k elsewhere beside =
    taken_after_set profile limit s path value c other d fine h k (apart_from other path elsewhere) beside
still_removes_after profile limit s (rename path name) c other d fine h k elsewhere side =
    taken_after_rename profile limit s path name c other d fine h k (apart_from other path elsewhere.0)
    (apart_from other (beside path name) (apart_renamed (changed_path other) path name elsewhere.0 elsewhere.1)) side
still_removes_after profile limit s (append_table keys) c other d fine h k elsewhere beside =
    taken_after_table profile limit s keys c other d fine h k (passes_from keys other elsewhere)
still_removes_after profile limit s (append_element keys) c other d fine h k elsewhere beside =
    taken_after_element profile limit s keys c other d fine h k (passes_from keys other elsewhere)

-- ---- a table

-- a header that goes at a table's path is a table's
still_table : (profile : Profile) (limit : ℕ) (s now : Document) (path : List Part) (c d : TextChange)
    → IsEditable profile limit s → RemovesSection profile limit s path c → RemovesHeader profile limit now path d
    → RemovesSection profile limit now path d
still_table profile limit s now path c d fine h (inl k) = k
still_table profile limit s now path c d fine h (inr k) =
    absurd (element_ends now path k.begun (table_ends profile limit s path c fine h))

-- after an edit elsewhere
pub table_still : (profile : Profile) (limit : ℕ) (s : Document) (e : Edit) (c : TextChange) (other : List Part)
    (d : TextChange) → IsEditable profile limit s → MakesChange profile limit s e c
    → RemovesSection profile limit s other d → IsElsewhere other (seen s e) → IsBeside c d
    → RemovesSection profile limit (edited_document s e) other (moved c d)
table_still profile limit s e c other d fine h k elsewhere beside =
    still_table profile limit s (edited_document s e) other d (moved c d) fine k
    (still_removes_after profile limit s e c other d fine h (inl k)
    (subst (λ (q : List Part). IsElsewhere q (seen s e)) (sym (table_changed profile limit s other d fine k)) elsewhere)
    beside)

-- after a remove of another table or an element, elsewhere
table_after_header : (profile : Profile) (limit : ℕ) (s : Document) (path : List Part) (c : TextChange)
    (other : List Part) (d : TextChange) → IsEditable profile limit s → RemovesHeader profile limit s path c
    → RemovesSection profile limit s other d → AreApart (changed_path path) other
    → RemovesSection profile limit (edited_document s (remove path)) other (moved c d)
table_after_header profile limit s path c other d fine h k apart =
    still_table profile limit s (edited_document s (remove path)) other d (moved c d) fine k
    (header_after_header profile limit s path c other d fine h (inl k) (unchanged_before path other apart.0)
    (apart_from path other apart).0)

-- ---- the edit after the remove

pub still_makes_without : StillMakesChangeWithout
still_makes_without profile limit s path c (insert other more) d fine h (kind, k) elsewhere beside placed =
    let newline = (placed.0 refl).0 in
    line_after kind profile limit s (edited_document s (remove path)) c other more d k ((placed.0 refl).1 refl)
    (λ x place. insert_after_taken profile limit s path c other more d fine h x elsewhere beside newline)
    (λ x far. dotted_after_taken profile limit s path c other more d fine h x elsewhere beside newline far)
    (λ x far. brought_after_taken profile limit s path c other more d fine h x elsewhere beside newline far)
still_makes_without profile limit s path c (remove other) d fine h k elsewhere beside placed = (
  remove_after profile limit s (edited_document s (remove path)) other c d
      (λ x. remove_after_taken profile limit s path c other d fine h x elsewhere beside)
      (λ x. clear_after_taken profile limit s path c other d fine h x elsewhere beside)
      (λ x. table_after_header profile limit s path c other d fine h x elsewhere) k,
  tt,
)
still_makes_without profile limit s path c (set other more) d fine h k elsewhere beside placed =
    (set_after_taken profile limit s path c other more d fine h k elsewhere beside, tt)
still_makes_without profile limit s path c (rename other more) d fine h k elsewhere beside placed = (
  rename_after_taken profile limit s path c other more d fine h k elsewhere.0
      (apart_renamed (changed_path path) other more elsewhere.0 elsewhere.1) beside,
  tt,
)
still_makes_without profile limit s path c (append_table more) d fine h k elsewhere beside placed = (
  table_after_taken profile limit s path c more d fine h k elsewhere (placed.0 refl).0
      (not_in_place s c (append_table more) d refl ((placed.0 refl).1 refl)),
  tt,
)
still_makes_without profile limit s path c (append_element more) d fine h k elsewhere beside placed = (
  element_after_taken profile limit s path c more d fine h k elsewhere (placed.0 refl).0
      (not_in_place s c (append_element more) d refl ((placed.0 refl).1 refl)),
  tt,
)
