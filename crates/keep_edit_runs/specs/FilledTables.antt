-- Tables and elements that edits of a list append, with keys that they insert into the last of them, as far as they are
-- gone through.
use Rattle.std.specs.Prelude.{◌≡◌, ◌⊎◌, ◌+◌, ◌==◌, ℕ, suc, All, Any, IfSome, IsTrue, List, None, Option, Some, String}
use Rattle.std.specs.Prelude.{map, take}
use Rattle.std.specs.HashSet.{contains_by}
use Rattle.std.specs.Borrow.{Bor}
use Rattle.std.specs.Global.{Global}
use Rattle.keep_types.specs.declared.leaf.Profile.{Profile}
use Rattle.keep_syntax.specs.Tree.{Document, Value}
use Rattle.keep_path.specs.Path.{Part, key, without_last}
use Rattle.keep_meaning.specs.Marks.{elements_of}
use Rattle.keep_meaning.specs.Meaning.{mentions_in}
use Rattle.keep_edit_spec.specs.Edits as law
use Rattle.keep_edit_spec.specs.FilledTables.{IsFilledRun, IsOpen, LetsElementCome, element_at, elements_among, key_in}
use Rattle.keep_edit_spec.specs.Lines.{newline_of}
use Rattle.keep_edit_spec.specs.Refusals.{tables_in}
use Rattle.keep_edit_spec.specs.TextChanges.{IsBeside, TextChange, with_change}
use Rattle.keep_edit_plan.specs.Answers.{IsSpanOf}
use Rattle.keep_edit_plan.specs.Headers.{key_texts}
use Rattle.keep_edit_plan.specs.NewTables.{AppendsNewElementHere, AppendsNewTableHere, IsKeyLine}
use Rattle.keep_edit_plan.specs.TextEdits.{change_of}
use Rattle.keep_edit_plan.specs.declared.edit.Edit.{Edit}
use Rattle.keep_edit_plan.specs.declared.text_edit.TextEdit.{TextEdit}
use Rattle.keep_edit_runs.specs.LastElements.{IsLastKept, array_keys, array_number, last_at}
use Rattle.keep_edit_runs.specs.Lists.{AreMade, IsEdit}
use Rattle.keep_edit_plan.specs.Reading.{IsTextOfTree, ProfiledText, limit}
use Rattle.keep_edit_runs.specs.Runs.{changed_text}
use Rattle.keep_edit_runs.specs.SeenHeaders.{HasAppended, HasBrought, HasHeader, HasTableOf, IsArrayAppended}
use Rattle.keep_edit_runs.specs.SeenHeaders.{IsHeaderAppended, IsHeaderBrought}
use Rattle.keep_edit_runs.specs.SeenPaths.{BeginsInKey, keys_number}
use Rattle.keep_edit_runs.specs.declared.filled_tables.FilledTables.{FilledTables}
use Rattle.keep_edit_runs.specs.declared.filled_tables.Opened.{Opened}
use Rattle.keep_edit_runs.specs.declared.last_elements.LastElement.{LastElement}
use Rattle.keep_edit_runs.specs.declared.seen_headers.SeenHeaders.{SeenHeaders}

-- the keys of a header, and the path of what it makes
abbrev pub opened_keys : Opened → List (List ℕ)
opened_keys o = key_texts o.keys.now

abbrev pub opened_path : List (List ℕ) → Option ℕ → List Part
opened_path keys None = map key keys
opened_path keys (Some number) = element_at keys number

abbrev pub last_path : Opened → List Part
last_path o = opened_path (opened_keys o) o.element

-- ---- one more

-- The header of a table is added, beside the changes before it. No header before it is of that table or of one below
-- it, and its keys begin with the path of no key that was inserted, and with no array of which an element came. The
-- table is the last one then.
pub record IsTableAdded (old : FilledTables) (keys : Bor (List (String Global))) (c : TextChange) (new : FilledTables)
    : Type 0 where
  pub lacks : ¬ HasAppended old.seen (map key (key_texts keys.now))
  pub header : IsHeaderAppended old.seen (map key (key_texts keys.now)) new.seen
  pub last : new.last ≡ Some (record { keys = keys; element = None })
  pub arrays : new.arrays ≡ old.arrays
  pub beside : All (λ b. IsBeside b c) old.changes
  pub changes : new.changes ≡ with_change old.changes c

-- An element of the array of tables with these keys came, and the number is the one after that of the last of them.
pub record IsAfterLast (old : FilledTables) (keys : List (List ℕ)) (seen : SeenHeaders) (number : ℕ) : Type 0 where
  pub last : LastElement
  pub is : last_at old.arrays (keys_number (map key keys)) ≡ Some last
  pub same : array_keys last ≡ keys
  pub next : number ≡ suc last.number
  pub seen_is : seen ≡ old.seen

-- An element of that array has this number: the one after the last, or the first of an array whose keys are apart from
-- all headers before it.
abbrev pub IsNextElement : FilledTables → List (List ℕ) → ℕ → SeenHeaders → ℕ → Type 0
IsNextElement old keys first seen number =
    IsAfterLast old keys seen number ⊎ (IsArrayAppended old.seen (map key keys) seen × (number ≡ first))

-- The header of an element is added, beside the changes before it. It is the last one then, and the last of its array.
pub record IsElementAdded (old : FilledTables) (keys : Bor (List (String Global))) (first : ℕ) (c : TextChange)
    (new : FilledTables) : Type 0 where
  pub number : ℕ
  pub next : IsNextElement old (key_texts keys.now) first new.seen number
  pub last : new.last ≡ Some (record { keys = keys; element = Some number })
  pub kept : IsLastKept old.arrays (record { keys = keys; number = number }) new.arrays
  pub beside : All (λ b. IsBeside b c) old.changes
  pub changes : new.changes ≡ with_change old.changes c

-- the number is that of the path of a key that was inserted into the last one
abbrev pub HasOwn : FilledTables → List Part → Type 0
HasOwn tables path = IsTrue (contains_by (λ n. keys_number path == n) tables.own)

-- A path is one more of those of the last one's keys, and was none.
pub record IsOwnKept (old : FilledTables) (path : List Part) (new : FilledTables) : Type 0 where
  pub lacks : ¬ HasOwn old path
  pub here : HasOwn new path
  pub more : (other : List Part) → HasOwn old other → HasOwn new other

-- So it is, and no header before is of a table with that path or of one below it.
pub record IsKeyKept (old : FilledTables) (path : List Part) (new : FilledTables) : Type 0 where
  pub own : IsOwnKept old path new
  pub brought : IsHeaderBrought old.seen path new.seen

-- A key of the last table or element is added, beside the changes before it, with a path that none of its keys has.
-- What was the last one stays so.
pub record IsKeyAdded (old : FilledTables) (path : List Part) (c : TextChange) (new : FilledTables) : Type 0 where
  pub last : Opened
  pub of_last : old.last ≡ Some last
  pub holder : without_last path ≡ last_path last
  pub kept : IsKeyKept old path new
  pub last_is : new.last ≡ old.last
  pub arrays : new.arrays ≡ old.arrays
  pub beside : All (λ b. IsBeside b c) old.changes
  pub changes : new.changes ≡ with_change old.changes c

-- The edit appends a table that is new in the document of this text, and the table is added.
pub record AddsTableHere (now : ProfiledText) (old : FilledTables) (x : Edit) (new : FilledTables) : Type 0 where
  pub made : TextEdit
  pub keys : Bor (List (String Global))
  pub is : IsEdit x (law.append_table (key_texts keys.now))
  pub appends : AppendsNewTableHere now (key_texts keys.now) made
  pub added : IsTableAdded old keys (change_of made) new

-- The edit appends an element to the document of this text, and the element is added.
pub record AddsElementHere (now : ProfiledText) (old : FilledTables) (x : Edit) (new : FilledTables) : Type 0 where
  pub made : TextEdit
  pub keys : Bor (List (String Global))
  pub first : ℕ
  pub is : IsEdit x (law.append_element (key_texts keys.now))
  pub appends : AppendsNewElementHere now (key_texts keys.now) first made
  pub added : IsElementAdded old keys first (change_of made) new

-- The edit inserts a key, whose line comes at the end of this text, and the key is added.
pub record AddsKeyHere (now : ProfiledText) (old : FilledTables) (x : Edit) (new : FilledTables) : Type 0 where
  pub made : TextEdit
  pub path : List Part
  pub value : Value
  pub is : IsEdit x (law.insert path value)
  pub line : (s : Document) → IsTextOfTree now s → IsKeyLine now.profile s path value (change_of made)
  pub within : IsSpanOf now.text made.place
  pub added : IsKeyAdded old path (change_of made) new

abbrev pub FillsHere : ProfiledText → FilledTables → Edit → FilledTables → Type 0
FillsHere now old x new = AddsTableHere now old x new ⊎ AddsElementHere now old x new ⊎ AddsKeyHere now old x new

-- ---- so far

-- What the edit makes is known: all that a header's keys begin with, the path of a key, and that of an array.
abbrev pub IsMadeKnown : SeenHeaders → law.Edit → Type 0
IsMadeKnown seen (law.append_table keys) = BeginsInKey (map key keys) × HasHeader seen (map key keys)
IsMadeKnown seen (law.append_element keys) = HasTableOf seen (map key keys) × HasHeader seen (map key keys)
IsMadeKnown seen (law.insert path value) = HasTableOf seen path
IsMadeKnown seen e = ⊥

-- The element is the last that the edits append of its array, by the number that stands for the array's keys, and they
-- let one more come.
pub record IsLastElement (before : Document) (seen : SeenHeaders) (es : List law.Edit) (n : ℕ) (l : LastElement)
    : Type 0 where
  pub numbered : array_number l ≡ n
  pub begins : BeginsInKey (map key (array_keys l))
  pub header : HasHeader seen (map key (array_keys l))
  pub brought : HasBrought seen (map key (array_keys l))
  pub came : Any (λ e. e ≡ law.append_element (array_keys l)) es
  pub lets : All (LetsElementCome (array_keys l)) es
  pub counts : elements_among (array_keys l) es + elements_of (map key (array_keys l)) (tables_in (mentions_in before))
      ≡ suc l.number

-- so it is of each array
abbrev pub AreLastElements : Document → SeenHeaders → List law.Edit → (ℕ → Option LastElement) → Type 0
AreLastElements before seen es at = (n : ℕ) → IfSome (at n) (IsLastElement before seen es n)

-- The last one takes more keys at the end of the text, but for some that are its own.
pub record TakesKeys (profile : Profile) (before now : Document) (own : List Part → Type 0) (last : Opened)
    : Type 0 where
  pub names : List (List ℕ)
  pub known : All (λ name. own (key_in (last_path last) name)) names
  pub takes : IsOpen profile limit (newline_of before).text now (last_path last) names

-- The edits up to number `end` are made, on a document in which those before are: they append tables that are new and
-- elements, and insert keys into the last of them, which takes more. What each makes is known, and the last element of
-- each array.
pub record IsFilledRunTo (s : Document) (edits : List Edit) (end : ℕ) (old now : ProfiledText) (before : Document)
    (seen : SeenHeaders) (own : List Part → Type 0) (last : Option Opened) (arrays : ℕ → Option LastElement)
    (changes : List TextChange) : Type 0 where
  pub made : AreMade s (take end edits) old (changed_text now changes)
  pub es : List law.Edit
  pub run : IsFilledRun now.profile limit before es changes made.tree
  pub known : All (IsMadeKnown seen) es
  pub elements : AreLastElements before seen es arrays
  pub last_takes : IfSome last (λ o. TakesKeys now.profile before made.tree own o)
