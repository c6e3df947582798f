-- Sets of a list: the place of each is known by the first document alone, as long as none is in another. What is set
-- twice is as if the second value alone was set.
use Rattle.std.specs.Prelude.{◌≡◌, ℕ, ◌<◌, List, length, None}
use Rattle.keep_types.specs.declared.leaf.Profile.{Profile}
use Rattle.keep_types.specs.declared.leaf.Profile.TheVariants.{Wide}
use Rattle.keep_syntax.specs.Tree.{Document, Value}
use Rattle.keep_path.specs.Path.{Part}
use Rattle.keep_edit_spec.specs.Edits.{edited_document, place, set}
use Rattle.keep_edit_spec.specs.Laws.{IsEditable, IsGivenValue}
use Rattle.keep_edit_spec.specs.Refusals.{refusal}
use Rattle.keep_edit_spec.specs.TextChanges.{IsBeside, TextChange, change_at, moved, place_of_change}

-- A set that is not refused, and the change of the text that it makes. The value that goes has bytes.
pub record SetsValue (profile : Profile) (limit : ℕ) (s : Document) (path : List Part) (value : Value) (c : TextChange)
    : Type 0 where
  pub given : IsGivenValue Wide value
  pub allowed : refusal profile limit s (set path value) ≡ None
  pub some : 0 < c.size
  pub is : place s (set path value) ≡ place_of_change c

-- A set makes the same change after another set made its own, elsewhere.
abbrev pub StillSetsValue : Type 0
StillSetsValue =
    (profile : Profile) (limit : ℕ) (s : Document) (path : List Part) (value : Value) (c : TextChange)
    (other : List Part) (more : Value) (d : TextChange)
    → IsEditable profile limit s → SetsValue profile limit s path value c → SetsValue profile limit s other more d
    → IsBeside c d → SetsValue profile limit (edited_document s (set path value)) other more (moved c d)

-- The same value set again, after it was set: it replaces what the first set wrote, is not refused, and the document is
-- the one that the second set alone makes.
pub record IsSetAgain (profile : Profile) (limit : ℕ) (s : Document) (path : List Part) (value : Value) (c : TextChange)
    (more : Value) (d : TextChange) : Type 0 where
  pub at : d.at ≡ c.at
  pub size : d.size ≡ c.size
  pub sets : SetsValue profile limit (edited_document s (set path value)) path more
      (change_at c.at (length c.new) d.new)
  pub same : edited_document (edited_document s (set path value)) (set path more) ≡ edited_document s (set path more)

-- A set of what was set before is as if it alone had been made.
abbrev pub SetsAgain : Type 0
SetsAgain =
    (profile : Profile) (limit : ℕ) (s : Document) (path : List Part) (value : Value) (c : TextChange) (more : Value)
    (d : TextChange)
    → IsEditable profile limit s → SetsValue profile limit s path value c → SetsValue profile limit s path more d
    → IsSetAgain profile limit s path value c more d
