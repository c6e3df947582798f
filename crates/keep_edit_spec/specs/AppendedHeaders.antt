-- Headers that a list appends: the place of each is known by the first document alone, if its text ends in a newline.
use Rattle.std.specs.Prelude.{◌≡◌, ◌≢◌, ◌⊎◌, ℕ, true, List, map, None, IsUtf8}
use Rattle.std.specs.List.{AllByRecursion}
use Rattle.keep_types.specs.declared.leaf.Profile.{Profile}
use Rattle.keep_syntax.specs.Tree.{Document, text}
use Rattle.keep_path.specs.Path.{key, strip}
use Rattle.keep_edit_spec.specs.Edits.{append_element, append_table, edited_document, place}
use Rattle.keep_edit_spec.specs.Laws.{IsEditable}
use Rattle.keep_edit_spec.specs.Refusals.{refusal}
use Rattle.keep_edit_spec.specs.TextChanges.{TextChange, moved, place_of_change}
use Rattle.keep_edit_spec.specs.TextEnds.{ends_in_newline}

-- The header of a table that is not refused, and the change of the text that it makes: at the end, after a newline.
pub record AppendsTable (profile : Profile) (limit : ℕ) (s : Document) (keys : List (List ℕ)) (c : TextChange)
    : Type 0 where
  pub utf8 : AllByRecursion IsUtf8 keys
  pub allowed : refusal profile limit s (append_table keys) ≡ None
  pub closed : ends_in_newline (text s) ≡ true
  pub adds : c.size ≡ 0
  pub is : place s (append_table keys) ≡ place_of_change c

-- the same of the header of an element
pub record AppendsElement (profile : Profile) (limit : ℕ) (s : Document) (keys : List (List ℕ)) (c : TextChange)
    : Type 0 where
  pub utf8 : AllByRecursion IsUtf8 keys
  pub allowed : refusal profile limit s (append_element keys) ≡ None
  pub closed : ends_in_newline (text s) ≡ true
  pub adds : c.size ≡ 0
  pub is : place s (append_element keys) ≡ place_of_change c

-- The keys are the same, or neither are the first of the others.
abbrev pub AreSameOrApart : List (List ℕ) → List (List ℕ) → Type 0
AreSameOrApart keys more =
    (keys ≡ more) ⊎ ((strip (map key keys) (map key more) ≡ None) × (strip (map key more) (map key keys) ≡ None))

-- A table makes the same change after another made its own. (None may be defined twice.)
abbrev pub StillAppendsTable : Type 0
StillAppendsTable =
    (profile : Profile) (limit : ℕ) (s : Document) (keys : List (List ℕ)) (c : TextChange)
    (more : List (List ℕ)) (d : TextChange)
    → IsEditable profile limit s → AppendsTable profile limit s keys c → AppendsTable profile limit s more d
    → keys ≢ more
    → AppendsTable profile limit (edited_document s (append_table keys)) more (moved c d)

-- An element makes the same change after another made its own. (Each of the same array is a new one.)
abbrev pub StillAppendsElement : Type 0
StillAppendsElement =
    (profile : Profile) (limit : ℕ) (s : Document) (keys : List (List ℕ)) (c : TextChange)
    (more : List (List ℕ)) (d : TextChange)
    → IsEditable profile limit s → AppendsElement profile limit s keys c → AppendsElement profile limit s more d
    → AreSameOrApart keys more
    → AppendsElement profile limit (edited_document s (append_element keys)) more (moved c d)
