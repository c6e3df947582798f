-- Inserts of a list that add items to one array, each after all others of it.
use Rattle.std.specs.Prelude.{◌≡◌, ℕ, zero, suc, ◌+◌, ◌≤◌, true, false, List, [], ◌∷◌, ◌++◌, codes, length, None}
use Rattle.std.specs.Prelude.{All, IsUtf8}
use Rattle.std.specs.List.{AllByRecursion}
use Rattle.keep_types.specs.declared.leaf.Profile.{Profile}
use Rattle.keep_types.specs.declared.leaf.Profile.TheVariants.{Wide}
use Rattle.keep_syntax.specs.Tree.{Value, Document, text, value_text}
use Rattle.keep_path.specs.Path.{Part, index}
use Rattle.keep_meaning.specs.Meaning.{mentions_in}
use Rattle.keep_edit_spec.specs.Edits.{edited_document, insert, place}
use Rattle.keep_edit_spec.specs.Insertion.{put_in}
use Rattle.keep_edit_spec.specs.Laws.{IsEditable, IsGivenValue}
use Rattle.keep_edit_spec.specs.Look.{is_array_at, item_count, keys_in}
use Rattle.keep_edit_spec.specs.Refusals.{is_foreign, is_too_deep, refusal}
use Rattle.keep_edit_spec.specs.TextChanges.{Follow, TextChange, change_at, moved_by_all, text_with, with_change}

-- what is written before an item, by how many are before it
abbrev pub separator : ℕ → List ℕ
separator zero = []
separator (suc n) = codes ", "

abbrev pub item_path : List Part → ℕ → List Part
item_path array n = array ++ index n ∷ []

-- The value may be an item of the array: by the profile, and by how deep it is there.
pub record CanBeItem (profile : Profile) (limit : ℕ) (s : Document) (array : List Part) (value : Value) : Type 0 where
  pub given : IsGivenValue Wide value
  pub shallow : is_too_deep limit (item_path array 0) value (mentions_in s) ≡ false
  pub own : is_foreign profile value ≡ false

-- A static array with so many items. One more comes there after them.
pub record HasItems (profile : Profile) (limit : ℕ) (s : Document) (array : List Part) (n at : ℕ) : Type 0 where
  pub utf8 : AllByRecursion IsUtf8 (keys_in array)
  pub array_is : is_array_at array (mentions_in s) ≡ true
  pub counted : item_count array (mentions_in s) ≡ n
  pub next : (value : Value)
      → place s (insert (item_path array n) value) ≡ put_in at (separator n ++ value_text value)

-- One item more is inserted after them: it is not refused, and then there is one more, and the next comes after it.
pub record AddsItem (profile : Profile) (limit : ℕ) (s : Document) (array : List Part) (n at : ℕ) (value : Value)
    : Type 0 where
  pub allowed : refusal profile limit s (insert (item_path array n) value) ≡ None
  pub more : HasItems profile limit (edited_document s (insert (item_path array n) value)) array (suc n)
      (at + length (separator n ++ value_text value))
  pub others : (other : Value) → CanBeItem profile limit s array other
      → CanBeItem profile limit (edited_document s (insert (item_path array n) value)) array other

abbrev pub ItemIsAdded : Type 0
ItemIsAdded =
    (profile : Profile) (limit : ℕ) (s : Document) (array : List Part) (n at : ℕ) (value : Value)
    → IsEditable profile limit s → HasItems profile limit s array n at → CanBeItem profile limit s array value
    → AddsItem profile limit s array n at value

-- ---- a run of inserts

-- The insert of this value as the item of that path, which is the next of its array, adds this text; where `before`
-- other items were added before it, it is a text for after them.
pub record AddsNextItem (profile : Profile) (limit : ℕ) (s : Document) (path : List Part) (before : ℕ) (value : Value)
    (c : TextChange) : Type 0 where
  pub array : List Part
  pub number : ℕ
  pub whole : path ≡ item_path array number
  pub items : HasItems profile limit s array number c.at
  pub can : CanBeItem profile limit s array value
  pub adds : c.size ≡ 0
  pub is : c.new ≡ separator (number + before) ++ value_text value

-- a text that comes at this place
abbrev pub ComesAt : ℕ → TextChange → Type 0
ComesAt at c = (c.at ≡ at) × (c.size ≡ 0)

-- The document after items were added to an array, each with its text at one place of the first document's.
pub record IsItemRun (profile : Profile) (limit : ℕ) (s : Document) (array : List Part) (n at : ℕ)
    (texts : List TextChange) (now : Document) : Type 0 where
  pub editable : IsEditable profile limit now
  pub start : at ≤ length (text s)
  pub here : All (ComesAt at) texts
  pub follow : Follow 0 texts
  pub text : text now ≡ text_with 0 (text s) texts
  pub items : HasItems profile limit now array (n + length texts) (moved_by_all texts at)
  pub others : (value : Value) → CanBeItem profile limit s array value → CanBeItem profile limit now array value

-- one item more: it is not refused, and the run is longer
pub record IsItemRunLonger (profile : Profile) (limit : ℕ) (s : Document) (array : List Part) (n at : ℕ)
    (texts : List TextChange) (now : Document) (value : Value) (c : TextChange) : Type 0 where
  pub allowed : refusal profile limit now (insert (item_path array (n + length texts)) value) ≡ None
  pub is : place now (insert (item_path array (n + length texts)) value)
      ≡ put_in (moved_by_all texts at) c.new
  pub run : IsItemRun profile limit s array n at (with_change texts c)
      (edited_document now (insert (item_path array (n + length texts)) value))

abbrev pub NoneIsItemRun : Type 0
NoneIsItemRun =
    (profile : Profile) (limit : ℕ) (s : Document) (array : List Part) (n at : ℕ) → IsEditable profile limit s
    → HasItems profile limit s array n at → IsItemRun profile limit s array n at [] s

abbrev pub ItemRunGoesOn : Type 0
ItemRunGoesOn =
    (profile : Profile) (limit : ℕ) (s : Document) (array : List Part) (n at : ℕ) (texts : List TextChange)
    (now : Document) (value : Value) (c : TextChange)
    → IsItemRun profile limit s array n at texts now → CanBeItem profile limit s array value
    → c ≡ change_at at 0 (separator (n + length texts) ++ value_text value)
    → IsItemRunLonger profile limit s array n at texts now value c
