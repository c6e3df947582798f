-- An edit makes its change after another that leaves it alone: one law for each two kinds, joined here.
--
-- A line that is added comes in the place of one that was taken only after a remove that took it: what any other edit
-- writes has bytes (GivenBytes). Others see the edit as before: an insert as one of the same first new key.
--
-- Theorem: `still_makes`.
use Rattle.std.proofs.Common.{◌≡◌, ◌≢◌, ℕ, Bool, true, false, List, refl, sym, ap, subst, ◌∙◌, arith, inl, inr}
use Rattle.keep_types.specs.declared.leaf.Profile.{Profile}
use Rattle.keep_syntax.specs.Tree.{Document, Value}
use Rattle.keep_path.specs.Path.{Part, beside}
use Rattle.keep_edit_spec.specs.AddedLines.{first_new}
use Rattle.keep_edit_spec.specs.BroughtHeaders.{BringsHeader}
use Rattle.keep_edit_spec.specs.ClearedLines.{ClearsLine}
use Rattle.keep_edit_spec.specs.DottedLines.{AddsLineTo, AreInOrder, added_at}
use Rattle.keep_edit_spec.specs.Edits.{Edit, append_element, append_table, edited_document, insert, place, remove}
use Rattle.keep_edit_spec.specs.Edits.{rename, set}
use Rattle.keep_edit_spec.specs.ElementRuns.{IsElsewhere, changed_path}
use Rattle.keep_edit_spec.specs.InsertKinds.{AddsAs, IsAfterAs, added_as, kind_of}
use Rattle.keep_edit_spec.specs.Laws.{IsEditable}
use Rattle.keep_edit_spec.specs.Look.{keys_in}
use Rattle.keep_edit_spec.specs.RemovedLines.{RemovesLine}
use Rattle.keep_edit_spec.specs.RemovedSections.{RemovesSection}
use Rattle.keep_edit_spec.specs.Runs.{AreApart, IsStillPlaced, LeavesAlone, MakesChange, PassesBy}
use Rattle.keep_edit_spec.specs.Runs.{StillMakesChange, seen}
use Rattle.keep_edit_spec.specs.TextChanges.{IsBeside, TextChange, moved}
use Rattle.keep_edit_spec.specs.declared.line_kind.LineKind.{LineKind}
use Rattle.keep_edit_spec.specs.declared.line_kind.LineKind.TheVariants.{LastInBody, OfDotted, WithHeader}
use Rattle.keep_edit_spec.proofs.Lists.ApartPaths.{apart_renamed, renamed_apart}
use Rattle.keep_edit_spec.proofs.Lists.BroughtAfterHeader.{brought_after_element, brought_after_table}
use Rattle.keep_edit_spec.proofs.Lists.BroughtAfterLine.{brought_after_line}
use Rattle.keep_edit_spec.proofs.Lists.BroughtAfterRemove.{brought_after_clear, brought_after_remove}
use Rattle.keep_edit_spec.proofs.Lists.BroughtAfterRename.{brought_after_rename}
use Rattle.keep_edit_spec.proofs.Lists.BroughtAfterSet.{brought_after_set}
use Rattle.keep_edit_spec.proofs.Lists.ClearAfterRename.{clear_after_rename}
use Rattle.keep_edit_spec.proofs.Lists.DottedAfterClear.{dotted_after_clear}
use Rattle.keep_edit_spec.proofs.Lists.DottedAfterHeader.{dotted_after_element, dotted_after_table}
use Rattle.keep_edit_spec.proofs.Lists.DottedAfterRemove.{dotted_after_remove}
use Rattle.keep_edit_spec.proofs.Lists.DottedAfterRename.{dotted_after_rename}
use Rattle.keep_edit_spec.proofs.Lists.DottedAfterSet.{dotted_after_set}
use Rattle.keep_edit_spec.proofs.Lists.GivenBytes.{clear_gives, rename_gives, set_gives}
use Rattle.keep_edit_spec.proofs.Lists.HeaderAfterBrought.{element_after_brought, table_after_brought}
use Rattle.keep_edit_spec.proofs.Lists.HeaderAfterClear.{element_after_clear, table_after_clear}
use Rattle.keep_edit_spec.proofs.Lists.HeaderAfterInsert.{element_after_insert, table_after_insert}
use Rattle.keep_edit_spec.proofs.Lists.HeaderAfterRemove.{element_after_remove, table_after_remove}
use Rattle.keep_edit_spec.proofs.Lists.HeaderAfterRename.{element_after_rename, table_after_rename}
use Rattle.keep_edit_spec.proofs.Lists.HeaderAfterSet.{element_after_set, table_after_set}
use Rattle.keep_edit_spec.proofs.Lists.InsertAfterClear.{insert_after_clear}
use Rattle.keep_edit_spec.proofs.Lists.InsertAfterHeader.{insert_after_element, insert_after_table}
use Rattle.keep_edit_spec.proofs.Lists.InsertAfterRemove.{insert_after_remove}
use Rattle.keep_edit_spec.proofs.Lists.InsertAfterRename.{insert_after_rename}
use Rattle.keep_edit_spec.proofs.Lists.InsertAfterSet.{insert_after_set}
use Rattle.keep_edit_spec.proofs.Lists.InsertInPlace.{insert_in_place}
use Rattle.keep_edit_spec.proofs.Lists.LineAfterBrought.{dotted_after_brought, line_after_brought}
use Rattle.keep_edit_spec.proofs.Lists.LineApart.{cleared_apart, line_apart}
use Rattle.keep_edit_spec.proofs.Lists.LineKinds.{as_kind, keys_of_line, kind_is, line_kind, of_table, table_is}
use Rattle.keep_edit_spec.proofs.Lists.MadeChanges.{removes_there}
use Rattle.keep_edit_spec.proofs.Lists.MadeStill.{MakesStill, adds_still, brings_still, line_after, none_in_place}
use Rattle.keep_edit_spec.proofs.Lists.MadeStill.{not_in_place, remove_after}
use Rattle.keep_edit_spec.proofs.Lists.OtherHeader.{element_after_table, table_after_element}
use Rattle.keep_edit_spec.proofs.Lists.RemoveAfterBrought.{clear_after_brought, remove_after_brought}
use Rattle.keep_edit_spec.proofs.Lists.RemoveAfterClear.{clear_after_clear, remove_after_clear}
use Rattle.keep_edit_spec.proofs.Lists.RemoveAfterHeader.{clear_after_element, clear_after_table, remove_after_element}
use Rattle.keep_edit_spec.proofs.Lists.RemoveAfterHeader.{remove_after_table}
use Rattle.keep_edit_spec.proofs.Lists.RemoveAfterInsert.{clear_after_insert, remove_after_insert}
use Rattle.keep_edit_spec.proofs.Lists.RemoveAfterRename.{remove_after_rename}
use Rattle.keep_edit_spec.proofs.Lists.RemoveAfterSet.{clear_after_set, remove_after_set}
use Rattle.keep_edit_spec.proofs.Lists.RemoveAfterTaken.{clear_after_taken, remove_after_taken}
use Rattle.keep_edit_spec.proofs.Lists.RenameAfterBrought.{rename_after_brought}
use Rattle.keep_edit_spec.proofs.Lists.RenameAfterClear.{rename_after_clear}
use Rattle.keep_edit_spec.proofs.Lists.RenameAfterHeader.{rename_after_element, rename_after_table}
use Rattle.keep_edit_spec.proofs.Lists.RenameAfterInsert.{rename_after_insert}
use Rattle.keep_edit_spec.proofs.Lists.RenameAfterRemove.{rename_after_remove}
use Rattle.keep_edit_spec.proofs.Lists.RenameAfterSet.{rename_after_set}
use Rattle.keep_edit_spec.proofs.Lists.SetAfterBrought.{set_after_brought}
use Rattle.keep_edit_spec.proofs.Lists.SetAfterClear.{set_after_clear}
use Rattle.keep_edit_spec.proofs.Lists.SetAfterHeader.{set_after_element, set_after_table}
use Rattle.keep_edit_spec.proofs.Lists.SetAfterInsert.{set_after_insert}
use Rattle.keep_edit_spec.proofs.Lists.SetAfterRemove.{set_after_remove}
use Rattle.keep_edit_spec.proofs.Lists.SetAfterRename.{set_after_rename}
use Rattle.keep_edit_spec.proofs.Lists.StillAddsLineTo.{still_adds_line_to}
use Rattle.keep_edit_spec.proofs.Lists.StillAppends.{still_appends_element, still_appends_table}
use Rattle.keep_edit_spec.proofs.Lists.StillBringsHeader.{still_brings_header}
use Rattle.keep_edit_spec.proofs.Lists.StillRemoves.{clear_after_remove, still_removes}
use Rattle.keep_edit_spec.proofs.Lists.StillRemovesHeader.{still_removes_table}
use Rattle.keep_edit_spec.proofs.Lists.StillRenames.{still_renames}
use Rattle.keep_edit_spec.proofs.Lists.StillSets.{still_sets}
use Rattle.keep_edit_spec.proofs.Lists.StillWithout.{still_makes_without, table_still}
use Rattle.keep_edit_spec.proofs.Lists.TakenGone.{table_changed}

-- Two removes that change lines beside one another are of two paths: of one path they would change one line.
other_path : (profile : Profile) (limit : ℕ) (s : Document) (path : List Part) (c : TextChange) (other : List Part)
    (d : TextChange) → IsEditable profile limit s → MakesChange profile limit s (remove path) c
    → MakesChange profile limit s (remove other) d → IsBeside c d → path ≢ other
other_path profile limit s path c other d fine h k beside same =
    let (first, some) = removes_there profile limit s path c fine h in
    let starts : c.at ≡ d.at =
    first.start ∙ ap (λ (p : List Part). (place s (remove p)).start) same
    ∙ sym (removes_there profile limit s other d fine k).0.start in
    elim beside [ inl ends ↦ omega (arith, ends, starts, some) | inr before ↦ omega (arith, before.0, starts) ]

swapped : (path other : List Part) → AreApart path other → AreApart other path
swapped path other apart = (apart.1, apart.0)

-- after a remove that took its line
after_taken : (profile : Profile) (limit : ℕ) (s : Document) (path : List Part) (c : TextChange) (f : Edit)
    (d : TextChange) → IsEditable profile limit s → RemovesLine profile limit s path c → MakesChange profile limit s f d
    → LeavesAlone (remove path) (seen s f) → IsBeside c d → IsStillPlaced s (remove path) c f d
    → MakesStill profile limit s (edited_document s (remove path)) f (moved c d)
after_taken profile limit s path c (insert other more) d fine h (kind, k) alone beside placed =
    let newline = (placed.0 refl).0 in
    line_after kind profile limit s (edited_document s (remove path)) c other more d k ((placed.0 refl).1 refl)
    (λ x place. elim place [
      | inl far ↦ insert_after_remove profile limit s path c other more d fine h x alone beside newline far
      | inr here ↦ insert_in_place profile limit s path c other more d fine h x alone newline here.next here.said
    ])
    (λ x far. dotted_after_remove profile limit s path c other more d fine h x alone beside newline far)
    (λ x far. brought_after_remove profile limit s path c other more d fine h x alone beside newline far)
after_taken profile limit s path c (remove other) d fine h k alone beside placed =
    let differs : path ≢ other = other_path profile limit s path c other d fine (inl h) k beside in (
      remove_after profile limit s (edited_document s (remove path)) other c d
          (λ x. still_removes profile limit s path c other d fine h x differs)
          (λ x. clear_after_remove profile limit s path c other d fine h x differs beside)
          (λ x. table_still profile limit s (remove path) c other d fine (inl h) x
          (swapped path other (line_apart profile limit s path c other d fine h x (inl beside))) beside) k,
      tt,
    )
after_taken profile limit s path c (set other more) d fine h k alone beside placed =
    (set_after_remove profile limit s path c other more d fine h k alone beside, tt)
after_taken profile limit s path c (rename other more) d fine h k alone beside placed = (
  rename_after_remove profile limit s path c other more d fine h k alone.0
      (apart_renamed path other more alone.0 alone.1) beside,
  tt,
)
after_taken profile limit s path c (append_table more) d fine h k alone beside placed = (
  table_after_remove profile limit s path c more d fine h k (placed.0 refl).0
      (not_in_place s c (append_table more) d refl ((placed.0 refl).1 refl)),
  tt,
)
after_taken profile limit s path c (append_element more) d fine h k alone beside placed = (
  element_after_remove profile limit s path c more d fine h k (placed.0 refl).0
      (not_in_place s c (append_element more) d refl ((placed.0 refl).1 refl)),
  tt,
)

-- after one that left it with its comment
after_cleared : (profile : Profile) (limit : ℕ) (s : Document) (path : List Part) (c : TextChange) (f : Edit)
    (d : TextChange) → IsEditable profile limit s → ClearsLine profile limit s path c → MakesChange profile limit s f d
    → LeavesAlone (remove path) (seen s f) → IsBeside c d → IsStillPlaced s (remove path) c f d
    → MakesStill profile limit s (edited_document s (remove path)) f (moved c d)
after_cleared profile limit s path c (insert other more) d fine h (kind, k) alone beside placed =
    let newline = (placed.0 refl).0 in
    line_after kind profile limit s (edited_document s (remove path)) c other more d k ((placed.0 refl).1 refl)
    (λ x place. insert_after_clear profile limit s path c other more d fine h x alone beside newline
    (none_in_place s c (insert other more) d (λ here. clear_gives profile limit s path c fine h here.takes) place))
    (λ x far. dotted_after_clear profile limit s path c other more d fine h x alone beside newline far)
    (λ x far. brought_after_clear profile limit s path c other more d fine h x alone beside newline far)
after_cleared profile limit s path c (remove other) d fine h k alone beside placed =
    let differs : path ≢ other = other_path profile limit s path c other d fine (inr (inl h)) k beside in (
      remove_after profile limit s (edited_document s (remove path)) other c d
          (λ x. remove_after_clear profile limit s path c other d fine h x differs beside)
          (λ x. clear_after_clear profile limit s path c other d fine h x differs beside)
          (λ x. table_still profile limit s (remove path) c other d fine (inr (inl h)) x
          (swapped path other (cleared_apart profile limit s path c other d fine h x (inl beside))) beside) k,
      tt,
    )
after_cleared profile limit s path c (set other more) d fine h k alone beside placed =
    (set_after_clear profile limit s path c other more d fine h k alone beside, tt)
after_cleared profile limit s path c (rename other more) d fine h k alone beside placed = (
  rename_after_clear profile limit s path c other more d fine h k alone.0
      (apart_renamed path other more alone.0 alone.1) beside,
  tt,
)
after_cleared profile limit s path c (append_table more) d fine h k alone beside placed = (
  table_after_clear profile limit s path c more d fine h k (placed.0 refl).0
      (not_in_place s c (append_table more) d refl ((placed.0 refl).1 refl)),
  tt,
)
after_cleared profile limit s path c (append_element more) d fine h k alone beside placed = (
  element_after_clear profile limit s path c more d fine h k (placed.0 refl).0
      (not_in_place s c (append_element more) d refl ((placed.0 refl).1 refl)),
  tt,
)

-- after one that took a table: the edit is elsewhere than at its path and below it, and on the way there
without_table : (profile : Profile) (limit : ℕ) (s : Document) (path : List Part) (c : TextChange) (f : Edit)
    (d : TextChange) → IsEditable profile limit s → RemovesSection profile limit s path c
    → MakesChange profile limit s f d → IsElsewhere path (seen s f) → IsBeside c d → IsStillPlaced s (remove path) c f d
    → MakesStill profile limit s (edited_document s (remove path)) f (moved c d)
without_table profile limit s path c f d fine h k elsewhere beside placed =
    still_makes_without profile limit s path c f d fine (inl h) k
    (subst (λ (q : List Part). IsElsewhere q (seen s f)) (sym (table_changed profile limit s path c fine h)) elsewhere)
    beside placed

-- and so is a line that goes beside it (LineApart)
after_section : (profile : Profile) (limit : ℕ) (s : Document) (path : List Part) (c : TextChange) (f : Edit)
    (d : TextChange) → IsEditable profile limit s → RemovesSection profile limit s path c
    → MakesChange profile limit s f d
    → LeavesAlone (remove path) (seen s f) → IsBeside c d → IsStillPlaced s (remove path) c f d
    → MakesStill profile limit s (edited_document s (remove path)) f (moved c d)
after_section profile limit s path c (remove other) d fine h k alone beside placed =
    let differs : path ≢ other = other_path profile limit s path c other d fine (inr (inr h)) k beside in (
      remove_after profile limit s (edited_document s (remove path)) other c d
          (λ x. remove_after_taken profile limit s path c other d fine (inl h) x
          (there (line_apart profile limit s other d path c fine x h (inr beside))) beside)
          (λ x. clear_after_taken profile limit s path c other d fine (inl h) x
          (there (cleared_apart profile limit s other d path c fine x h (inr beside))) beside)
          (λ x. still_removes_table profile limit s path c fine other d differs h x) k,
      tt,
    )
  where
    there : AreApart other path → AreApart (changed_path path) other
    there apart =
        subst (λ (q : List Part). AreApart q other) (sym (table_changed profile limit s path c fine h))
        (swapped other path apart)
after_section profile limit s path c (insert other more) d fine h k alone beside placed =
    without_table profile limit s path c (insert other more) d fine h k alone beside placed
after_section profile limit s path c (set other more) d fine h k alone beside placed =
    without_table profile limit s path c (set other more) d fine h k alone beside placed
after_section profile limit s path c (rename other more) d fine h k alone beside placed =
    without_table profile limit s path c (rename other more) d fine h k alone beside placed
after_section profile limit s path c (append_table more) d fine h k alone beside placed =
    without_table profile limit s path c (append_table more) d fine h k alone beside placed
after_section profile limit s path c (append_element more) d fine h k alone beside placed =
    without_table profile limit s path c (append_element more) d fine h k alone beside placed

-- ---- after an insert that adds a line

-- two lines that are in order, neither of which brings a header
in_order : (to dotted : Bool) (s : Document) (path other : List Part) (c d : TextChange)
    → kind_of s path ≡ line_kind to → first_new s path ≢ first_new s other
    → IsAfterAs (line_kind dotted) (added_as s path c) (added_as s other d)
    → AreInOrder (added_at s path c to) (added_at s other d dotted)
in_order to false s path other c d kind differs order = record { other = differs; table = λ is same. absurd cc }
in_order to true s path other c d kind differs order = record {
  other = differs;
  table = λ is same. (is_dotted to (sym kind ∙ (order same).0), (order same).1);
}
  where
    is_dotted : (b : Bool) → line_kind b ≡ OfDotted → b ≡ true
    is_dotted true e = refl
    is_dotted false e = absurd cc

-- after one that brings no header
after_line : (to : Bool) (profile : Profile) (limit : ℕ) (s : Document) (path : List Part) (value : Value)
    (c : TextChange) (kind : LineKind) (other : List Part) (more : Value) (d : TextChange)
    → IsEditable profile limit s → AddsLineTo to profile limit s path value c → AddsAs kind profile limit s other more d
    → first_new s path ≢ first_new s other → IsAfterAs kind (added_as s path c) (added_as s other d)
    → MakesStill profile limit s (edited_document s (insert path value)) (insert other more) (moved c d)
after_line to profile limit s path value c LastInBody other more d fine h k alone order =
    adds_still LastInBody profile limit s (edited_document s (insert path value)) other more d (moved c d) k
    (still_adds_line_to profile limit s path value c to other more d false fine h k
    (in_order to false s path other c d
    (kind_is (line_kind to) profile limit s path value c (as_kind to profile limit s path value c h)) alone order))
after_line to profile limit s path value c OfDotted other more d fine h k alone order =
    adds_still OfDotted profile limit s (edited_document s (insert path value)) other more d (moved c d) k
    (still_adds_line_to profile limit s path value c to other more d true fine h k
    (in_order to true s path other c d
    (kind_is (line_kind to) profile limit s path value c (as_kind to profile limit s path value c h)) alone order))
after_line to profile limit s path value c WithHeader other more d fine h k alone order =
    brings_still profile limit s (edited_document s (insert path value)) other more d (moved c d) k
    (brought_after_line profile limit s path value c to other more d fine h k alone)

after_line_to : (to : Bool) (profile : Profile) (limit : ℕ) (s : Document) (path : List Part) (value : Value)
    (c : TextChange) (f : Edit) (d : TextChange) → IsEditable profile limit s
    → AddsLineTo to profile limit s path value c → MakesChange profile limit s f d
    → LeavesAlone (seen s (insert path value)) (seen s f) → IsBeside c d
    → IsStillPlaced s (insert path value) c f d
    → MakesStill profile limit s (edited_document s (insert path value)) f (moved c d)
after_line_to to profile limit s path value c (insert other more) d fine h (kind, k) alone beside placed =
    after_line to profile limit s path value c kind other more d fine h k alone
    (subst (λ (a : LineKind). IsAfterAs a (added_as s path c) (added_as s other d))
    (kind_is kind profile limit s other more d k) placed.1)
after_line_to to profile limit s path value c (remove other) d fine h k alone beside placed = (
  remove_after profile limit s (edited_document s (insert path value)) other c d
      (λ x. remove_after_insert profile limit s path value c to other d fine h x alone beside)
      (λ x. clear_after_insert profile limit s path value c to other d fine h x alone beside)
      (λ x. table_still profile limit s (insert path value) c other d fine
      (line_kind to, as_kind to profile limit s path value c h) x (swapped (first_new s path) other alone) beside) k,
  tt,
)
after_line_to to profile limit s path value c (set other more) d fine h k alone beside placed =
    (set_after_insert profile limit s path value c to other more d fine h k alone beside, tt)
after_line_to to profile limit s path value c (rename other more) d fine h k alone beside placed = (
  rename_after_insert profile limit s path value c to other more d fine h k alone.0
      (apart_renamed (first_new s path) other more alone.0 alone.1) beside,
  tt,
)
after_line_to to profile limit s path value c (append_table more) d fine h k alone beside placed =
    (table_after_insert profile limit s path value c to more d fine h k alone (placed.0 refl).0, tt)
after_line_to to profile limit s path value c (append_element more) d fine h k alone beside placed =
    (element_after_insert profile limit s path value c to more d fine h k alone (placed.0 refl).0, tt)

-- after one that brings a header
after_header : (profile : Profile) (limit : ℕ) (s : Document) (path : List Part) (value : Value) (c : TextChange)
    (kind : LineKind) (other : List Part) (more : Value) (d : TextChange) → IsEditable profile limit s
    → BringsHeader profile limit s path value c → AddsAs kind profile limit s other more d
    → first_new s path ≢ first_new s other → IsAfterAs kind (added_as s path c) (added_as s other d)
    → MakesStill profile limit s (edited_document s (insert path value)) (insert other more) (moved c d)
after_header profile limit s path value c LastInBody other more d fine h k alone order =
    adds_still LastInBody profile limit s (edited_document s (insert path value)) other more d (moved c d) k
    (line_after_brought profile limit s path value c other more d fine h k alone
    (λ same. order same (kind_is WithHeader profile limit s path value c h)))
after_header profile limit s path value c OfDotted other more d fine h k alone order =
    adds_still OfDotted profile limit s (edited_document s (insert path value)) other more d (moved c d) k
    (dotted_after_brought profile limit s path value c other more d fine h k alone
    (λ same.
    (let both : WithHeader ≡ OfDotted = sym (kind_is WithHeader profile limit s path value c h) ∙ (order same).0 in
    absurd cc)))
after_header profile limit s path value c WithHeader other more d fine h k alone order =
    let others = order (kind_is WithHeader profile limit s path value c h) in
    brings_still profile limit s (edited_document s (insert path value)) other more d (moved c d) k
    (still_brings_header profile limit s path value c other more d fine h k (record {
      table = λ same. others.1
          (table_is profile limit s path value c (keys_of_line WithHeader profile limit s path value c h) ∙ same
          ∙ sym (table_is profile limit s other more d (keys_of_line WithHeader profile limit s other more d k)));
      at = others.0;
    }))

after_brought : (profile : Profile) (limit : ℕ) (s : Document) (path : List Part) (value : Value) (c : TextChange)
    (f : Edit) (d : TextChange) → IsEditable profile limit s → BringsHeader profile limit s path value c
    → MakesChange profile limit s f d → LeavesAlone (seen s (insert path value)) (seen s f) → IsBeside c d
    → IsStillPlaced s (insert path value) c f d
    → MakesStill profile limit s (edited_document s (insert path value)) f (moved c d)
after_brought profile limit s path value c (insert other more) d fine h (kind, k) alone beside placed =
    after_header profile limit s path value c kind other more d fine h k alone
    (subst (λ (a : LineKind). IsAfterAs a (added_as s path c) (added_as s other d))
    (kind_is kind profile limit s other more d k) placed.1)
after_brought profile limit s path value c (remove other) d fine h k alone beside placed = (
  remove_after profile limit s (edited_document s (insert path value)) other c d
      (λ x. remove_after_brought profile limit s path value c other d fine h x alone beside)
      (λ x. clear_after_brought profile limit s path value c other d fine h x alone beside)
      (λ x. table_still profile limit s (insert path value) c other d fine (WithHeader, h) x
      (swapped (first_new s path) other alone) beside) k,
  tt,
)
after_brought profile limit s path value c (set other more) d fine h k alone beside placed =
    (set_after_brought profile limit s path value c other more d fine h k alone beside, tt)
after_brought profile limit s path value c (rename other more) d fine h k alone beside placed = (
  rename_after_brought profile limit s path value c other more d fine h k alone.0
      (apart_renamed (first_new s path) other more alone.0 alone.1) beside,
  tt,
)
after_brought profile limit s path value c (append_table more) d fine h k alone beside placed = (
  table_after_brought profile limit s path value c more d fine h k alone
      (of_table (λ p. more ≢ keys_in p) profile limit s path value c h placed.1) (placed.0 refl).0,
  tt,
)
after_brought profile limit s path value c (append_element more) d fine h k alone beside placed = (
  element_after_brought profile limit s path value c more d fine h k alone
      (of_table (λ p. more ≢ keys_in p) profile limit s path value c h placed.1) (placed.0 refl).0,
  tt,
)

pub still_makes : StillMakesChange
still_makes profile limit s (insert path value) c f d fine (LastInBody, h) k alone beside placed =
    after_line_to false profile limit s path value c f d fine h k alone beside placed
still_makes profile limit s (insert path value) c f d fine (OfDotted, h) k alone beside placed =
    after_line_to true profile limit s path value c f d fine h k alone beside placed
still_makes profile limit s (insert path value) c f d fine (WithHeader, h) k alone beside placed =
    after_brought profile limit s path value c f d fine h k alone beside placed
still_makes profile limit s (remove path) c f d fine (inl h) k alone beside placed =
    after_taken profile limit s path c f d fine h k alone beside placed
still_makes profile limit s (remove path) c f d fine (inr (inl h)) k alone beside placed =
    after_cleared profile limit s path c f d fine h k alone beside placed
still_makes profile limit s (remove path) c f d fine (inr (inr h)) k alone beside placed =
    after_section profile limit s path c f d fine h k alone beside placed
still_makes profile limit s (set path value) c (insert other more) d fine h (kind, k) alone beside placed =
    let newline = (placed.0 refl).0 in
    line_after kind profile limit s (edited_document s (set path value)) c other more d k ((placed.0 refl).1 refl)
    (λ x place. insert_after_set profile limit s path value c other more d fine h x alone beside newline
    (none_in_place s c (insert other more) d (λ here. set_gives profile limit s path value c fine h here.takes) place))
    (λ x far. dotted_after_set profile limit s path value c other more d fine h x alone beside newline far)
    (λ x far. brought_after_set profile limit s path value c other more d fine h x alone beside newline far)
still_makes profile limit s (set path value) c (remove other) d fine h k alone beside placed = (
  remove_after profile limit s (edited_document s (set path value)) other c d
      (λ x. remove_after_set profile limit s path value c other d fine h x alone beside)
      (λ x. clear_after_set profile limit s path value c other d fine h x alone beside)
      (λ x. table_still profile limit s (set path value) c other d fine h x (swapped path other alone) beside) k,
  tt,
)
still_makes profile limit s (set path value) c (set other more) d fine h k alone beside placed =
    (still_sets profile limit s path value c other more d fine h k beside, tt)
still_makes profile limit s (set path value) c (rename other more) d fine h k alone beside placed = (
  rename_after_set profile limit s path value c other more d fine h k alone.0
      (apart_renamed path other more alone.0 alone.1) beside,
  tt,
)
still_makes profile limit s (set path value) c (append_table more) d fine h k alone beside placed = (
  table_after_set profile limit s path value c more d fine h k alone (placed.0 refl).0
      (not_in_place s c (append_table more) d refl ((placed.0 refl).1 refl)),
  tt,
)
still_makes profile limit s (set path value) c (append_element more) d fine h k alone beside placed = (
  element_after_set profile limit s path value c more d fine h k alone (placed.0 refl).0
      (not_in_place s c (append_element more) d refl ((placed.0 refl).1 refl)),
  tt,
)
still_makes profile limit s (rename path name) c (insert other more) d fine h (kind, k) alone side placed =
    let newline = (placed.0 refl).0 in
    let renamed : AreApart (beside path name) (first_new s other) =
    renamed_apart path name (first_new s other) alone.0 alone.1 in
    line_after kind profile limit s (edited_document s (rename path name)) c other more d k
    ((placed.0 refl).1 refl)
    (λ x place. insert_after_rename profile limit s path name c other more d fine h x alone.0 renamed side newline
    (none_in_place s c (insert other more) d (λ here. rename_gives profile limit s path name c fine h here.takes)
    place))
    (λ x far. dotted_after_rename profile limit s path name c other more d fine h x alone.0 renamed side newline far)
    (λ x far. brought_after_rename profile limit s path name c other more d fine h x alone.0 renamed side newline far)
still_makes profile limit s (rename path name) c (remove other) d fine h k alone beside placed = (
  remove_after profile limit s (edited_document s (rename path name)) other c d
      (λ x. remove_after_rename profile limit s path name c other d fine h x alone.0
      (renamed_apart path name other alone.0 alone.1) beside)
      (λ x. clear_after_rename profile limit s path name c other d fine h x alone.0
      (renamed_apart path name other alone.0 alone.1) beside)
      (λ x. table_still profile limit s (rename path name) c other d fine h x
      (swapped path other alone.0, alone.1) beside) k,
  tt,
)
still_makes profile limit s (rename path name) c (set other more) d fine h k alone beside placed = (
  set_after_rename profile limit s path name c other more d fine h k alone.0
      (renamed_apart path name other alone.0 alone.1) beside,
  tt,
)
still_makes profile limit s (rename path name) c (rename other more) d fine h k alone beside placed =
    (still_renames profile limit s path name c other more d fine h k alone beside, tt)
still_makes profile limit s (rename path name) c (append_table more) d fine h k alone beside placed = (
  table_after_rename profile limit s path name c more d fine h k alone.0 alone.1 (placed.0 refl).0
      (not_in_place s c (append_table more) d refl ((placed.0 refl).1 refl)),
  tt,
)
still_makes profile limit s (rename path name) c (append_element more) d fine h k alone beside placed = (
  element_after_rename profile limit s path name c more d fine h k alone.0 alone.1 (placed.0 refl).0
      (not_in_place s c (append_element more) d refl ((placed.0 refl).1 refl)),
  tt,
)
still_makes profile limit s (append_table keys) c (insert other more) d fine h (kind, k) alone beside placed =
    let newline = (placed.0 refl).0 in
    line_after kind profile limit s (edited_document s (append_table keys)) c other more d k
    ((placed.0 refl).1 refl)
    (λ x place. insert_after_table profile limit s keys c other more d fine h x alone
    (λ e. none_in_place s c (insert other more) d (λ here. omega (arith, here.some, h.adds)) place
    (omega (arith, e, h.adds))) newline)
    (λ x far. dotted_after_table profile limit s keys c other more d fine h x alone
    (λ e. far (omega (arith, e, h.adds))) newline)
    (λ x far. brought_after_table profile limit s keys c other more d fine h x alone
    (of_table (PassesBy keys) profile limit s other more d x placed.1) (λ e. far (omega (arith, e, h.adds))) newline)
still_makes profile limit s (append_table keys) c (remove other) d fine h k alone beside placed = (
  remove_after profile limit s (edited_document s (append_table keys)) other c d
      (λ x. remove_after_table profile limit s keys c other d fine h x)
      (λ x. clear_after_table profile limit s keys c other d fine h x)
      (λ x. table_still profile limit s (append_table keys) c other d fine h x alone beside) k,
  tt,
)
still_makes profile limit s (append_table keys) c (set other more) d fine h k alone beside placed =
    (set_after_table profile limit s keys c other more d fine h k alone, tt)
still_makes profile limit s (append_table keys) c (rename other more) d fine h k alone beside placed =
    (rename_after_table profile limit s keys c other more d fine h k alone.0 alone.1, tt)
still_makes profile limit s (append_table keys) c (append_table more) d fine h k alone beside placed =
    (still_appends_table profile limit s keys c more d fine h k alone, tt)
still_makes profile limit s (append_table keys) c (append_element more) d fine h k alone beside placed =
    (element_after_table profile limit s keys c more d fine h k alone, tt)
still_makes profile limit s (append_element keys) c (insert other more) d fine h (kind, k) alone beside placed =
    let newline = (placed.0 refl).0 in
    line_after kind profile limit s (edited_document s (append_element keys)) c other more d k
    ((placed.0 refl).1 refl)
    (λ x place. insert_after_element profile limit s keys c other more d fine h x alone
    (λ e. none_in_place s c (insert other more) d (λ here. omega (arith, here.some, h.adds)) place
    (omega (arith, e, h.adds))) newline)
    (λ x far. dotted_after_element profile limit s keys c other more d fine h x alone
    (λ e. far (omega (arith, e, h.adds))) newline)
    (λ x far. brought_after_element profile limit s keys c other more d fine h x alone
    (of_table (PassesBy keys) profile limit s other more d x placed.1) (λ e. far (omega (arith, e, h.adds))) newline)
still_makes profile limit s (append_element keys) c (remove other) d fine h k alone beside placed = (
  remove_after profile limit s (edited_document s (append_element keys)) other c d
      (λ x. remove_after_element profile limit s keys c other d fine h x)
      (λ x. clear_after_element profile limit s keys c other d fine h x)
      (λ x. table_still profile limit s (append_element keys) c other d fine h x alone beside) k,
  tt,
)
still_makes profile limit s (append_element keys) c (set other more) d fine h k alone beside placed =
    (set_after_element profile limit s keys c other more d fine h k alone, tt)
still_makes profile limit s (append_element keys) c (rename other more) d fine h k alone beside placed =
    (rename_after_element profile limit s keys c other more d fine h k alone.0 alone.1, tt)
still_makes profile limit s (append_element keys) c (append_table more) d fine h k alone beside placed =
    (table_after_element profile limit s keys c more d fine h k alone, tt)
still_makes profile limit s (append_element keys) c (append_element more) d fine h k alone beside placed =
    (still_appends_element profile limit s keys c more d fine h k alone, tt)
