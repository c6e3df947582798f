-- Removes of a list that take tables and elements of arrays of tables, each a header with its body: each is known by
-- the first document alone. Once an element is removed, the numbers of the later ones of its array are one lower, so
-- the path of a remove is traced back to the first document, remove by remove.
use Rattle.std.specs.Prelude.{◌≡◌, ◌≢◌, ◌⊎◌, ℕ, ◌+◌, nat_lt, true, if◌then◌else◌, List, [], ◌∷◌, ◌++◌, All}
use Rattle.std.specs.Prelude.{Some, None}
use Rattle.keep_types.specs.declared.leaf.Profile.{Profile}
use Rattle.keep_syntax.specs.Tree as tree
use Rattle.keep_syntax.specs.Tree.{Document}
use Rattle.keep_path.specs.Path.{Part, key, index, last_part, strip, without_last}
use Rattle.keep_meaning.specs.Meaning.{mentions_in}
use Rattle.keep_meaning.specs.Nodes.{has, is_begun}
use Rattle.keep_edit_spec.specs.Edits.{edited_document, place, remove}
use Rattle.keep_edit_spec.specs.Laws.{IsEditable}
use Rattle.keep_edit_spec.specs.Refusals.{refusal}
use Rattle.keep_edit_spec.specs.RemovedSections.{RemovesSection}
use Rattle.keep_edit_spec.specs.TextChanges.{Follow, IsBeside, TextChange, moved, moved_past, place_of_change}
use Rattle.keep_edit_spec.specs.TextChanges.{text_with, with_change}
use Rattle.keep_edit_spec.specs.TextEnds.{ends_in_newline}

-- A remove of an element that a `[[..]]` line begins, which is not refused, and the change of the text that it makes.
-- The text ends in a newline, so each line that goes has one.
pub record RemovesElement (profile : Profile) (limit : ℕ) (s : Document) (path : List Part) (c : TextChange)
    : Type 0 where
  pub allowed : refusal profile limit s (remove path) ≡ None
  pub begun : has is_begun path (mentions_in s) ≡ true
  pub closed : ends_in_newline (tree.text s) ≡ true
  pub is : place s (remove path) ≡ place_of_change c

-- of a table or of an element
abbrev pub RemovesHeader : Profile → ℕ → Document → List Part → TextChange → Type 0
RemovesHeader profile limit s path c = RemovesSection profile limit s path c ⊎ RemovesElement profile limit s path c

-- ---- paths before a remove

-- the path that this was before number `n` was taken out of an array: one number higher from there on
abbrev pub raised : List Part → ℕ → List Part → List Part
raised array n path = elim (strip array path) [
  | None ↦ path
  | Some more ↦ elim more [
    | [] ↦ path
    | part ∷ rest ↦ elim part [
      | key text ↦ path
      | index m ↦ (if nat_lt m n then path else array ++ index (m + 1) ∷ rest)
    ]
  ]
]

-- the path that this was before the node at `gone` was removed
abbrev pub path_before : List Part → List Part → List Part
path_before gone path = elim (last_part gone) [
  | None ↦ path
  | Some part ↦ elim part [ key text ↦ path | index n ↦ raised (without_last gone) n path ]
]

-- the path that this was before all of these were removed, one after another
abbrev pub first_path : List (List Part) → List Part → List Part
first_path [] path = path
first_path (gone ∷ more) path = path_before gone (first_path more path)

-- ---- two removes

-- A remove of a table or an element makes the same change after a remove of another made its own.
abbrev pub StillRemovesHeader : Type 0
StillRemovesHeader =
    (profile : Profile) (limit : ℕ) (s : Document) (path : List Part) (c : TextChange) (other : List Part)
    (d : TextChange)
    → IsEditable profile limit s → RemovesHeader profile limit s path c
    → RemovesHeader profile limit s (path_before path other) d → path ≢ path_before path other
    → RemovesHeader profile limit (edited_document s (remove path)) other (moved c d)

-- ---- a run of removes

-- The document after tables and elements at these paths were removed, one after another, each with its change of the
-- first document's text. A table or an element of the first document whose change is beside theirs is removed by it
-- still, at the path that it has now.
pub record IsHeaderRun (profile : Profile) (limit : ℕ) (s : Document) (gone : List (List Part))
    (changes : List TextChange) (now : Document) : Type 0 where
  pub editable : IsEditable profile limit now
  pub follow : Follow 0 changes
  pub text : tree.text now ≡ text_with 0 (tree.text s) changes
  pub later : (path : List Part) (c : TextChange) → RemovesHeader profile limit s (first_path gone path) c
      → All (λ d. IsBeside d c) changes → RemovesHeader profile limit now path (moved_past changes c)

-- one more is removed: it is not refused, and the run is longer
pub record IsHeaderRunLonger (profile : Profile) (limit : ℕ) (s : Document) (gone : List (List Part))
    (changes : List TextChange) (now : Document) (path : List Part) (c : TextChange) : Type 0 where
  pub allowed : refusal profile limit now (remove path) ≡ None
  pub is : place now (remove path) ≡ place_of_change (moved_past changes c)
  pub run : IsHeaderRun profile limit s (gone ++ path ∷ []) (with_change changes c)
      (edited_document now (remove path))

abbrev pub NoneIsHeaderRun : Type 0
NoneIsHeaderRun = (profile : Profile) (limit : ℕ) (s : Document) → IsEditable profile limit s
    → IsHeaderRun profile limit s [] [] s

abbrev pub HeaderRunGoesOn : Type 0
HeaderRunGoesOn =
    (profile : Profile) (limit : ℕ) (s : Document) (gone : List (List Part)) (changes : List TextChange)
    (now : Document) (path : List Part) (c : TextChange)
    → IsHeaderRun profile limit s gone changes now → RemovesHeader profile limit s (first_path gone path) c
    → All (λ d. IsBeside d c) changes
    → IsHeaderRunLonger profile limit s gone changes now path c
