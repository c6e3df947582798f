-- Edits of entries, in a list of edits: what one makes of a document, the set of the value that holds it makes of it.
use Rattle.std.specs.Prelude.{◌≡◌, ℕ, true, List, [], ◌∷◌, ◌++◌, All, IsUtf8, Option, None, Some, drop, take}
use Rattle.std.specs.List.{AllByRecursion}
use Rattle.keep_types.specs.declared.leaf.Profile.{Profile}
use Rattle.keep_types.specs.declared.leaf.Profile.TheVariants.{Wide}
use Rattle.keep_syntax.specs.Tree as tree
use Rattle.keep_syntax.specs.Tree.{Document, Value}
use Rattle.keep_path.specs.Path.{Part, index, key}
use Rattle.keep_meaning.specs.Fact as fact
use Rattle.keep_meaning.specs.Fact.{Fact}
use Rattle.keep_meaning.specs.Meaning.{mentions_in}
use Rattle.keep_meaning.specs.Nodes.{fact_at}
use Rattle.keep_edit_spec.specs.InsertKinds.{Added}
use Rattle.keep_edit_spec.specs.Edits.{Edit, edited_document, insert, remove, rename, set}
use Rattle.keep_edit_spec.specs.Laws.{IsEditable, IsGivenValue, IsLawfulEdit}
use Rattle.keep_edit_spec.specs.Look.{keys_in}
use Rattle.keep_edit_spec.specs.Refusals.{has_value, refusal}
use Rattle.keep_edit_spec.specs.Runs.{IsRun, LeavesAlone}
use Rattle.keep_edit_spec.specs.SetValues.{SetsValue}
use Rattle.keep_edit_spec.specs.TextChanges.{IsBeside, TextChange, with_change}

-- ---- an entry of a value

-- such a value can have an entry of that step: an array has items, an inline table keyvals
abbrev pub CanHold : Option Fact → Part → Type 0
CanHold o (index n) = o ≡ Some fact.array
CanHold o (key text) = o ≡ Some fact.inline

-- an entry comes in the value at that path
pub record InsertsEntry (s : Document) (holder path : List Part) (value : Value) : Type 0 where
  pub part : Part
  pub is : path ≡ holder ++ part ∷ []
  pub holds : CanHold (fact_at holder (mentions_in s)) part
  pub given : IsGivenValue Wide value
  pub utf8 : AllByRecursion IsUtf8 (keys_in path)

-- one goes, which has a value, so it is none of an array of tables
pub record RemovesEntry (s : Document) (holder path : List Part) : Type 0 where
  pub part : Part
  pub is : path ≡ holder ++ part ∷ []
  pub holds : CanHold (fact_at holder (mentions_in s)) part
  pub valued : has_value path (mentions_in s) ≡ true

-- the value of one is set
pub record SetsEntry (s : Document) (holder path : List Part) (value : Value) : Type 0 where
  pub part : Part
  pub is : path ≡ holder ++ part ∷ []
  pub holds : CanHold (fact_at holder (mentions_in s)) part
  pub given : IsGivenValue Wide value

-- the key of one gets another name, or the first part of it
pub record RenamesEntry (s : Document) (holder path : List Part) (name : List ℕ) : Type 0 where
  pub part : Part
  pub is : path ≡ holder ++ part ∷ []
  pub holds : CanHold (fact_at holder (mentions_in s)) part
  pub utf8 : IsUtf8 name

abbrev pub IsOfEntry : Document → List Part → Edit → Type 0
IsOfEntry s holder (insert path value) = InsertsEntry s holder path value
IsOfEntry s holder (remove path) = RemovesEntry s holder path
IsOfEntry s holder (set path value) = SetsEntry s holder path value
IsOfEntry s holder (rename path name) = RenamesEntry s holder path name
IsOfEntry s holder _ = ⊥

-- ---- as a set

-- The edit is of an entry, and not refused. It makes the same of the document as the set of its holder to this value,
-- which changes the text so.
pub record MakesSet (profile : Profile) (limit : ℕ) (s : Document) (e : Edit) (holder : List Part) (value : Value)
    (c : TextChange) : Type 0 where
  pub of_entry : IsOfEntry s holder e
  pub allowed : refusal profile limit s e ≡ None
  pub sets : SetsValue profile limit s holder value c
  pub same : edited_document s e ≡ edited_document s (set holder value)

-- `path` is of an entry of the value at `holder`, and `more` of the same entry of the value at `other`: both go on by
-- the same step.
pub record AreSameEntry (holder path other more : List Part) : Type 0 where
  pub part : Part
  pub is : path ≡ holder ++ part ∷ []
  pub there : more ≡ other ++ part ∷ []

-- edits of the same entry of these two values: both insert the same value, or set it, or rename to the same key, or
-- both remove
abbrev pub AreOfSameEntry : List Part → Edit → List Part → Edit → Type 0
AreOfSameEntry holder (insert path value) other (insert more new) =
    AreSameEntry holder path other more × (new ≡ value) × AllByRecursion IsUtf8 (keys_in more)
AreOfSameEntry holder (remove path) other (remove more) = AreSameEntry holder path other more
AreOfSameEntry holder (set path value) other (set more new) = AreSameEntry holder path other more × (new ≡ value)
AreOfSameEntry holder (rename path name) other (rename more new) = AreSameEntry holder path other more × (new ≡ name)
AreOfSameEntry holder _ other _ = ⊥

-- So does the edit of the same entry in another document, of a value with the same bytes, at whatever path it is there.
abbrev pub StillMakesSet : Type 0
StillMakesSet =
    (profile : Profile) (limit : ℕ) (s : Document) (e : Edit) (holder : List Part) (value : Value) (c : TextChange)
    (now : Document) (f : Edit) (other : List Part) (d : TextChange)
    → IsEditable profile limit s → IsEditable profile limit now → MakesSet profile limit s e holder value c
    → SetsValue profile limit now other value d
    → take d.size (drop d.at (tree.text now)) ≡ take c.size (drop c.at (tree.text s))
    → AreOfSameEntry holder e other f
    → MakesSet profile limit now f other value d

-- ---- in a run

-- It is one edit more, as that set is: it is not refused, and the run is longer.
pub record IsRunLongerByEntry (profile : Profile) (limit : ℕ) (s : Document) (edits : List Edit)
    (changes : List TextChange) (lines : List Added) (now : Document) (e : Edit) (holder : List Part) (value : Value)
    (c : TextChange) : Type 0 where
  pub allowed : refusal profile limit now e ≡ None
  pub lawful : IsLawfulEdit profile limit now e
  pub run : IsRun profile limit s (set holder value ∷ edits) (with_change changes c) lines (edited_document now e)

abbrev pub RunGoesOnByEntry : Type 0
RunGoesOnByEntry =
    (profile : Profile) (limit : ℕ) (s : Document) (edits : List Edit) (changes : List TextChange)
    (lines : List Added) (now : Document) (e : Edit) (holder : List Part) (value : Value) (c : TextChange)
    → IsRun profile limit s edits changes lines now → MakesSet profile limit s e holder value c
    → All (λ f. LeavesAlone f (set holder value)) edits → All (λ d. IsBeside d c) changes
    → IsRunLongerByEntry profile limit s edits changes lines now e holder value c
