-- Inserts of several keys, of which the first new one is the same: after the first of them its dotted keys make the
-- table into which the others go.
use Rattle.std.specs.Prelude.{◌≡◌, ◌≢◌, ℕ, All, List, [], ◌∷◌, ◌++◌, None}
use Rattle.keep_types.specs.declared.leaf.Profile.{Profile}
use Rattle.keep_syntax.specs.Tree.{Value, Document}
use Rattle.keep_path.specs.Path.{Part, key}
use Rattle.keep_edit_spec.specs.AddedLines.{first_new}
use Rattle.keep_edit_spec.specs.DottedLines.{AddsDotted}
use Rattle.keep_edit_spec.specs.Edits.{Edit, edited_document, insert}
use Rattle.keep_edit_spec.specs.ElementRuns.{IsElementRun, KeepsPlaceAmong}
use Rattle.keep_edit_spec.specs.InsertKinds.{Added, AddsAs}
use Rattle.keep_edit_spec.specs.Laws.{IsEditable, IsLawfulEdit}
use Rattle.keep_edit_spec.specs.Refusals.{refusal}
use Rattle.keep_edit_spec.specs.Runs.{LeavesAlone, seen}
use Rattle.keep_edit_spec.specs.TextChanges.{IsBeside, TextChange, moved, moved_past, with_change}
use Rattle.keep_edit_spec.specs.declared.line_kind.LineKind.{LineKind}
use Rattle.keep_edit_spec.specs.declared.line_kind.LineKind.TheVariants.{LastInBody, WithHeader}

-- ---- two inserts

-- Two paths go on from one, each by another key.
pub record GoOnApart (first path other : List Part) : Type 0 where
  pub own : List ℕ
  pub own_rest : List Part
  pub path_is : path ≡ first ++ key own ∷ own_rest
  pub next : List ℕ
  pub rest : List Part
  pub other_is : other ≡ first ++ key next ∷ rest
  pub differ : own ≢ next

-- the path of a further key, right below that of a first new one
abbrev pub key_below : List Part → List ℕ → List Part
key_below first text = first ++ key text ∷ []

-- An insert that adds a line without a header adds the same one right behind that of another of the same first new key,
-- after that was made: as one of the table that its dotted keys made, if the two go on by other keys from there. Its
-- first new key is the next one then.
abbrev pub AddsMoreKey : Type 0
AddsMoreKey =
    (profile : Profile) (limit : ℕ) (s : Document) (path : List Part) (value : Value) (c : TextChange) (kind : LineKind)
    (other : List Part) (more : Value) (d : TextChange)
    → IsEditable profile limit s → kind ≢ WithHeader
    → AddsAs kind profile limit s path value c → AddsAs kind profile limit s other more d
    → first_new s path ≡ first_new s other → (apart : GoOnApart (first_new s path) path other)
    → AddsDotted profile limit (edited_document s (insert path value)) other more (moved c d)
    × (first_new (edited_document s (insert path value)) other ≡ key_below (first_new s path) apart.next)

-- ---- in a run of edits from which no element is gone

-- After these edits, the last of which inserted this path by a line of that kind, or others since that have the same
-- first new key: each insert that goes on from there by another key adds its line to the table of that first new key,
-- where the edits leave alone an insert of the next one.
pub record IsOpen (profile : Profile) (limit : ℕ) (s : Document) (edits : List Edit) (changes : List TextChange)
    (now : Document) (path : List Part) (kind : LineKind) : Type 0 where
  pub more : (other : List Part) (value : Value) (d : TextChange) → AddsAs kind profile limit s other value d
      → first_new s path ≡ first_new s other → (apart : GoOnApart (first_new s path) path other)
      → All (λ f. LeavesAlone f (insert (key_below (first_new s path) apart.next) value)) edits
      → All (λ x. IsBeside x d) changes
      → AddsDotted profile limit now other value (moved_past changes d)
      × (first_new now other ≡ key_below (first_new s path) apart.next)

-- So it is once an insert added its line without a header.
abbrev pub RunIsOpen : Type 0
RunIsOpen =
    (profile : Profile) (limit : ℕ) (s : Document) (edits : List Edit) (changes : List TextChange)
    (lines : List Added) (now : Document) (path : List Part) (value : Value) (c : TextChange) (kind : LineKind)
    → IsElementRun profile limit s edits changes lines [] now → kind ≢ WithHeader
    → AddsAs kind profile limit s path value c
    → All (λ f. LeavesAlone f (seen s (insert path value))) edits → All (λ x. IsBeside x c) changes
    → KeepsPlaceAmong s edits changes lines (insert path value) c
    → IsOpen profile limit s (seen s (insert path value) ∷ edits) (with_change changes c)
    (edited_document now (insert path value)) path kind

-- the line of a further key, as those after it come behind it: at the end of a body
abbrev pub inner_line : List Part → ℕ → Added
inner_line first at = record { first = first; at = at; kind = LastInBody }

-- One such insert more: it is not refused, others see it as the insert of that next key, and so it is still.
pub record IsRunInside (profile : Profile) (limit : ℕ) (s : Document) (edits : List Edit) (changes : List TextChange)
    (lines : List Added) (now : Document) (path : List Part) (kind : LineKind) (other below : List Part)
    (value : Value) (d : TextChange) : Type 0 where
  pub allowed : refusal profile limit now (insert other value) ≡ None
  pub lawful : IsLawfulEdit profile limit now (insert other value)
  pub run : IsElementRun profile limit s (insert below value ∷ edits) (with_change changes d)
      (inner_line below d.at ∷ lines) [] (edited_document now (insert other value))
  pub still : IsOpen profile limit s (insert below value ∷ edits) (with_change changes d)
      (edited_document now (insert other value)) path kind

abbrev pub RunGoesOnInside : Type 0
RunGoesOnInside =
    (profile : Profile) (limit : ℕ) (s : Document) (edits : List Edit) (changes : List TextChange)
    (lines : List Added) (now : Document) (path : List Part) (kind : LineKind) (other : List Part) (value : Value)
    (d : TextChange)
    → IsElementRun profile limit s edits changes lines [] now → IsOpen profile limit s edits changes now path kind
    → AddsAs kind profile limit s other value d → first_new s path ≡ first_new s other
    → (apart : GoOnApart (first_new s path) path other)
    → All (λ f. LeavesAlone f (insert (key_below (first_new s path) apart.next) value)) edits
    → All (λ x. IsBeside x d) changes
    → IsRunInside profile limit s edits changes lines now path kind other (key_below (first_new s path) apart.next)
    value d
