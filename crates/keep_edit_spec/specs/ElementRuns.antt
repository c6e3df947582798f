-- Runs of edits of all kinds between which elements of arrays of tables are removed. Once an element is removed, the
-- numbers of the later ones of its array are one lower. An edit that is elsewhere than in the array is as before.
use Rattle.std.specs.Prelude.{◌≡◌, ⊤, ℕ, ◌+◌, ◌≤◌, List, [], ◌∷◌, ◌++◌, length, take, drop, All, Some, None}
use Rattle.keep_types.specs.declared.leaf.Profile.{Profile}
use Rattle.keep_syntax.specs.Tree as tree
use Rattle.keep_syntax.specs.Tree.{Document, Value, text}
use Rattle.keep_path.specs.Path.{Part, key, index, last_part, without_last}
use Rattle.keep_edit_spec.specs.Edits.{Edit, append_element, append_table, edited_document, insert, remove}
use Rattle.keep_edit_spec.specs.Edits.{rename, set}
use Rattle.keep_edit_spec.specs.EntryEdits.{MakesSet}
use Rattle.keep_edit_spec.specs.InsertKinds.{Added, added_as}
use Rattle.keep_edit_spec.specs.Laws.{IsEditable, IsLawfulEdit}
use Rattle.keep_edit_spec.specs.Refusals.{refusal}
use Rattle.keep_edit_spec.specs.RemovedHeaders.{RemovesHeader, first_path}
use Rattle.keep_edit_spec.specs.RunLists.{AreAtOnce, MadeEdit, changes_of, document_after, lines_of, seen_of}
use Rattle.keep_edit_spec.specs.Runs.{AreApart, IsBeforeHeaders, IsInOrder, IsNoStep, IsSeenStill, IsStillPlaced}
use Rattle.keep_edit_spec.specs.Runs.{LeaveNewline, LeaveNewlineBefore, LeavesAlone, LetsCome, MakesChange}
use Rattle.keep_edit_spec.specs.Runs.{IsNoSecond, PassesBy, path_of, seen, with_line}
use Rattle.keep_edit_spec.specs.TextChanges.{Follow, IsBeside, TextChange, moved, moved_by_all, moved_past}
use Rattle.keep_edit_spec.specs.TextChanges.{text_with, with_change}

-- At this path and below it is all whose path changes, or which goes, by a remove with a header: the table, or the
-- array of the element.
abbrev pub changed_path : List Part → List Part
changed_path path = elim (last_part path) [
  | None ↦ path
  | Some part ↦ elim part [ key text ↦ path | index n ↦ without_last path ]
]

-- The edit is elsewhere: neither at the path nor below it, nor on the way there, and a header passes by it.
abbrev pub IsElsewhere : List Part → Edit → Type 0
IsElsewhere path (rename other name) = AreApart path other × IsNoStep name path
IsElsewhere path (append_table keys) = PassesBy keys path
IsElsewhere path (append_element keys) = PassesBy keys path
IsElsewhere path e = AreApart path (path_of e)

-- ---- two edits, one of which removes a table or an element with its header

-- An edit elsewhere makes its change beside that of the remove, after it.
abbrev pub StillMakesChangeWithout : Type 0
StillMakesChangeWithout =
    (profile : Profile) (limit : ℕ) (s : Document) (path : List Part) (c : TextChange) (f : Edit) (d : TextChange)
    → IsEditable profile limit s → RemovesHeader profile limit s path c → MakesChange profile limit s f d
    → IsElsewhere (changed_path path) (seen s f) → IsBeside c d → IsStillPlaced s (remove path) c f d
    → MakesChange profile limit (edited_document s (remove path)) f (moved c d)
    × IsSeenStill s (edited_document s (remove path)) f

-- The remove makes the same change after an edit elsewhere made its own beside it.
abbrev pub StillRemovesHeaderAfter : Type 0
StillRemovesHeaderAfter =
    (profile : Profile) (limit : ℕ) (s : Document) (e : Edit) (c : TextChange) (path : List Part) (d : TextChange)
    → IsEditable profile limit s → MakesChange profile limit s e c → RemovesHeader profile limit s path d
    → IsElsewhere (changed_path path) (seen s e) → IsBeside c d
    → RemovesHeader profile limit (edited_document s e) path (moved c d)

-- ---- a run

-- A new line or header is written after these changes as before them, and after the same line.
abbrev pub KeepsPlaceAmong : Document → List Edit → List TextChange → List Added → Edit → TextChange → Type 0
KeepsPlaceAmong s edits changes lines (insert path value) c =
    IsInOrder edits changes lines (added_as s path c)
    × (LeaveNewline s changes
    × (All (LetsCome (text s) changes c.at) changes × IsBeforeHeaders (text s) edits c.at))
KeepsPlaceAmong s edits changes lines (append_table keys) c =
    All (IsNoSecond keys) lines × LeaveNewlineBefore s changes c.at
KeepsPlaceAmong s edits changes lines (append_element keys) c =
    All (IsNoSecond keys) lines × LeaveNewlineBefore s changes c.at
KeepsPlaceAmong s edits changes lines e c = ⊤

-- The document after these edits, and after elements at the paths `gone` were removed between them, one after another.
-- The text is that of the first with all the changes, and bytes beside these are there still. An edit that the others
-- leave alone, elsewhere than in the arrays, makes its change beside them still, and is seen as before. An element, or
-- a table, is removed still, at the path that it has now, where the edits are elsewhere.
pub record IsElementRun (profile : Profile) (limit : ℕ) (s : Document) (edits : List Edit) (changes : List TextChange)
    (lines : List Added) (gone : List (List Part)) (now : Document) : Type 0 where
  pub first : IsEditable profile limit s
  pub editable : IsEditable profile limit now
  pub follow : Follow 0 changes
  pub text : text now ≡ text_with 0 (text s) changes
  pub kept : (r : TextChange) → All (λ d. IsBeside d r) changes → r.at + r.size ≤ length (tree.text s)
      → take r.size (drop (moved_by_all changes r.at) (tree.text now)) ≡ take r.size (drop r.at (tree.text s))
  pub later : (e : Edit) (c : TextChange) → MakesChange profile limit s e c
      → All (λ f. LeavesAlone f (seen s e)) edits → All (λ path. IsElsewhere (changed_path path) (seen s e)) gone
      → All (λ d. IsBeside d c) changes → KeepsPlaceAmong s edits changes lines e c
      → MakesChange profile limit now e (moved_past changes c) × IsSeenStill s now e
  pub removes : (path : List Part) (c : TextChange) → RemovesHeader profile limit s (first_path gone path) c
      → All (IsElsewhere (changed_path path)) edits → All (λ d. IsBeside d c) changes
      → RemovesHeader profile limit now path (moved_past changes c)

-- one edit more: it is not refused, and the run is longer
pub record IsElementRunLonger (profile : Profile) (limit : ℕ) (s : Document) (edits : List Edit)
    (changes : List TextChange) (lines : List Added) (gone : List (List Part)) (now : Document) (e : Edit)
    (c : TextChange) : Type 0 where
  pub allowed : refusal profile limit now e ≡ None
  pub lawful : IsLawfulEdit profile limit now e
  pub run : IsElementRun profile limit s (seen s e ∷ edits) (with_change changes c) (with_line s e c lines) gone
      (edited_document now e)

-- one element, or table, less
pub record IsElementRunWithout (profile : Profile) (limit : ℕ) (s : Document) (edits : List Edit)
    (changes : List TextChange) (lines : List Added) (gone : List (List Part)) (now : Document) (path : List Part)
    (c : TextChange) : Type 0 where
  pub allowed : refusal profile limit now (remove path) ≡ None
  pub lawful : IsLawfulEdit profile limit now (remove path)
  pub run : IsElementRun profile limit s edits (with_change changes c) lines (gone ++ path ∷ [])
      (edited_document now (remove path))

-- an edit of an entry more, which makes what the set of its value makes
pub record IsElementRunByEntry (profile : Profile) (limit : ℕ) (s : Document) (edits : List Edit)
    (changes : List TextChange) (lines : List Added) (gone : List (List Part)) (now : Document) (e : Edit)
    (holder : List Part) (value : Value) (c : TextChange) : Type 0 where
  pub allowed : refusal profile limit now e ≡ None
  pub lawful : IsLawfulEdit profile limit now e
  pub run : IsElementRun profile limit s (set holder value ∷ edits) (with_change changes c) lines gone
      (edited_document now e)

-- Edits that are made at once are such a run, from which no element is gone.
abbrev pub RunIsElementRun : Type 0
RunIsElementRun =
    (profile : Profile) (limit : ℕ) (s : Document) (ms : List MadeEdit)
    → IsEditable profile limit s → AreAtOnce profile limit s ms
    → IsElementRun profile limit s (seen_of s ms) (changes_of ms) (lines_of s ms) [] (document_after s ms)

abbrev pub ElementRunGoesOn : Type 0
ElementRunGoesOn =
    (profile : Profile) (limit : ℕ) (s : Document) (edits : List Edit) (changes : List TextChange)
    (lines : List Added) (gone : List (List Part)) (now : Document) (e : Edit) (c : TextChange)
    → IsElementRun profile limit s edits changes lines gone now → MakesChange profile limit s e c
    → All (λ f. LeavesAlone f (seen s e)) edits → All (λ path. IsElsewhere (changed_path path) (seen s e)) gone
    → All (λ d. IsBeside d c) changes → KeepsPlaceAmong s edits changes lines e c
    → IsElementRunLonger profile limit s edits changes lines gone now e c

abbrev pub ElementRunGoesOnWithout : Type 0
ElementRunGoesOnWithout =
    (profile : Profile) (limit : ℕ) (s : Document) (edits : List Edit) (changes : List TextChange)
    (lines : List Added) (gone : List (List Part)) (now : Document) (path : List Part) (c : TextChange)
    → IsElementRun profile limit s edits changes lines gone now
    → RemovesHeader profile limit s (first_path gone path) c
    → All (IsElsewhere (changed_path path)) edits → All (λ d. IsBeside d c) changes
    → IsElementRunWithout profile limit s edits changes lines gone now path c

abbrev pub ElementRunGoesOnByEntry : Type 0
ElementRunGoesOnByEntry =
    (profile : Profile) (limit : ℕ) (s : Document) (edits : List Edit) (changes : List TextChange)
    (lines : List Added) (gone : List (List Part)) (now : Document) (e : Edit) (holder : List Part) (value : Value)
    (c : TextChange)
    → IsElementRun profile limit s edits changes lines gone now → MakesSet profile limit s e holder value c
    → All (λ f. LeavesAlone f (set holder value)) edits
    → All (λ path. IsElsewhere (changed_path path) (set holder value)) gone
    → All (λ d. IsBeside d c) changes
    → IsElementRunByEntry profile limit s edits changes lines gone now e holder value c
