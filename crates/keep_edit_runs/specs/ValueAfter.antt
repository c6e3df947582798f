-- The value that an edit of an entry makes of the value that holds the entry, whatever document that is in.
use Rattle.std.specs.Prelude.{◌≡◌, ℕ, List, [], ◌∷◌, ◌++◌, IsUtf8, codes, drop, string_bytes, take}
use Rattle.std.specs.List.{AllByRecursion}
use Rattle.keep_types.specs.declared.leaf.Profile.{Profile}
use Rattle.keep_syntax.specs.Tree.{Document, Value, text}
use Rattle.keep_path.specs.Path.{Part, key}
use Rattle.keep_edit_spec.specs.Edits as law
use Rattle.keep_edit_spec.specs.EntryEdits.{MakesSet}
use Rattle.keep_edit_spec.specs.Laws.{IsEditable}
use Rattle.keep_edit_spec.specs.Look.{keys_in}
use Rattle.keep_edit_spec.specs.Runs.{path_of}
use Rattle.keep_edit_spec.specs.SetValues.{SetsValue}
use Rattle.keep_edit_spec.specs.TextChanges.{TextChange}
use Rattle.keep_edit_plan.specs.Given.{IsEdit}
use Rattle.keep_edit_plan.specs.declared.edit.Edit.{Edit}
use Rattle.keep_edit_plan.specs.declared.edit.Edit.TheVariants.{Insert, Remove, Rename, Set}
use Rattle.keep_edit_plan.specs.Reading.{IsTextOfValue, limit}

-- The edit is of an entry. In any document in which the value that holds the entry has the text `was`, and can be set
-- to the new value, it is not refused and makes what that set makes. The new text is that of the new value.
pub record MakesValue (profile : Profile) (was : List ℕ) (x : Edit) (new : List ℕ) : Type 0 where
  pub edit : law.Edit
  pub is : IsEdit x edit
  pub value : Value
  pub text_is : IsTextOfValue new value
  pub makes : (u : Document) (path : List Part) (part : Part) (d : TextChange) → path_of edit ≡ path ++ part ∷ []
      → IsEditable profile limit u → SetsValue profile limit u path value d → take d.size (drop d.at (text u)) ≡ was
      → MakesSet profile limit u edit path value d

-- a path that the edit has
abbrev pub HasPath : Edit → List Part → Type 0
HasPath x path = (e : law.Edit) → IsEdit x e → path_of e ≡ path

-- a path with that last step
abbrev pub EndsInStep : List Part → Part → Type 0
EndsInStep path part = (before : List Part) × (path ≡ before ++ part ∷ [])

-- ---- in a document that has no more than the value

-- A path of an entry, with its keys in UTF-8, and that of the entry with the same last step in the value at the root's
-- key `v`.
pub record IsAlonePath (path alone : List Part) : Type 0 where
  pub before : List Part
  pub part : Part
  pub whole : path ≡ before ++ part ∷ []
  pub is : alone ≡ key (codes "v") ∷ part ∷ []
  pub utf8 : AllByRecursion IsUtf8 (keys_in path)

-- an edit of an entry, and the edit that does the same there
abbrev pub IsAlone : Edit → Edit → Type 0
IsAlone (Insert path value) (Insert alone same) = (same ≡ value) × IsAlonePath path alone
IsAlone (Set path value) (Set alone same) = (same ≡ value) × IsAlonePath path alone
IsAlone (Rename path name) (Rename alone same) = (string_bytes same ≡ string_bytes name) × IsAlonePath path alone
IsAlone (Remove path) (Remove alone) = IsAlonePath path alone
IsAlone _ _ = ⊥
