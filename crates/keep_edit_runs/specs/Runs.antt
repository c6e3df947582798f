-- Edits of a list that are made at once: each makes its change of the document before all of them.
use Rattle.std.specs.Prelude.{◌≡◌, ◌≢◌, ◌⊎◌, ⊤, ℕ, suc, ◌+◌, Bool, true, false, ◌||◌, IsTrue, List, [], ◌∷◌}
use Rattle.std.specs.Prelude.{◌++◌, ◌<◌, ◌==◌, All, Any, IsUtf8, Option, Some, drop, length, map, take, String}
use Rattle.std.specs.Prelude.{string_bytes}
use Rattle.std.specs.Global.{Global}
use Rattle.std.specs.List.{list_any}
use Rattle.keep_types.specs.declared.leaf.Profile.{Profile}
use Rattle.keep_token.specs.Encoded.{encoded_key}
use Rattle.keep_syntax.specs.Tree.{Document, Value, inline, none, text}
use Rattle.keep_path.specs.Path.{Part, beside, key, strip, without_last}
use Rattle.keep_meaning.specs.Meaning.{mentions_in}
use Rattle.keep_types.specs.declared.leaf.Profile.TheVariants.{Wide}
use Rattle.keep_edit_spec.specs.BroughtHeaders.{BringsLine}
use Rattle.keep_edit_spec.specs.AddedItems.{AddsNextItem, IsItemRun, item_path}
use Rattle.keep_edit_spec.specs.Edits as law
use Rattle.keep_edit_spec.specs.EntryEdits.{MakesSet}
use Rattle.keep_edit_spec.specs.InsertKinds.{Added, IsAfterLine, IsHeaderAt, kind_of, table_of}
use Rattle.keep_edit_spec.specs.Laws.{IsEditable}
use Rattle.keep_edit_spec.specs.LinesAhead.{comes_before}
use Rattle.keep_edit_spec.specs.LinesInPlace.{IsPutBefore}
use Rattle.keep_edit_spec.specs.Look.{holder, keys_in}
use Rattle.keep_edit_spec.specs.RemovedHeaders.{IsHeaderRun, RemovesHeader, first_path}
use Rattle.keep_edit_spec.specs.RenameLists.{AllowsKey, IsRenameIn}
use Rattle.keep_edit_spec.specs.RenamedKeys.{RenamesKey}
use Rattle.keep_edit_spec.specs.Runs as runs
use Rattle.keep_edit_spec.specs.RunLists.{AreAtOnce, IsSetIn, MadeEdit, changes_of, document_after, lines_of}
use Rattle.keep_edit_spec.specs.RunLists.{seen_of}
use Rattle.keep_edit_spec.specs.Runs.{IsNoSecond, LetsCome, LetsTable, MakesChange, takes_up_to}
use Rattle.keep_edit_spec.specs.SetValues.{SetsValue}
use Rattle.keep_edit_spec.specs.TextChanges.{IsBeside, TextChange, change_at, text_with, with_change}
use Rattle.keep_edit_spec.specs.declared.line_kind.LineKind.{LineKind}
use Rattle.keep_edit_spec.specs.declared.line_kind.LineKind.TheVariants.{LastInBody, OfDotted, WithHeader}
use Rattle.keep_edit_plan.specs.Headers.{key_texts}
use Rattle.keep_edit_plan.specs.TextEdits.{HasChange, IsPutAhead, MakesChangeHere, change_of}
use Rattle.keep_edit_runs.specs.AddedLines.{IsCountBehind, IsCounted, IsCountedMore, IsHeaderKnown, IsKnownAt}
use Rattle.keep_edit_runs.specs.AddedLines.{PassesHeaderAt, brought_at, line_of, table_by}
use Rattle.keep_edit_runs.specs.Counts.{IsOneMore}
use Rattle.keep_edit_plan.specs.Answers.{IsSpanOf}
use Rattle.keep_edit_runs.specs.Gone.{IsGoneWith}
use Rattle.keep_edit_runs.specs.Lists.{AreMade, IsEdit}
use Rattle.keep_edit_runs.specs.Newlines.{LeavesHere}
use Rattle.keep_edit_runs.specs.SeenHeaders.{HasTableOf}
use Rattle.keep_edit_plan.specs.Reading.{IsAcceptedValue, IsTextOfTree, IsTextOfValue, ProfiledText}
use Rattle.keep_edit_plan.specs.Reading.{limit, text_in}
use Rattle.keep_edit_plan.specs.declared.edit.Edit.{Edit}
use Rattle.keep_edit_plan.specs.declared.text_edit.TextEdit.{TextEdit}
use Rattle.keep_edit_plan.specs.declared.edit.Edit.TheVariants.{Element, Insert, Remove, Rename, Set, Table}
use Rattle.keep_edit_runs.specs.declared.added_lines.AddedLines.{AddedLines}
use Rattle.keep_edit_runs.specs.declared.outline.Outline.{Outline}
use Rattle.keep_edit_runs.specs.declared.outline.Outline.TheVariants as kind
use Rattle.keep_edit_runs.specs.declared.outline.SeenAs.{SeenAs}
use Rattle.keep_edit_runs.specs.declared.outline.SeenAs.TheVariants.{Entry, FirstKey, Itself}

-- a value that stands for any
abbrev pub no_value : Value
no_value = record { body = inline []; nested = none }

-- an edit without its value
abbrev pub plain : law.Edit → law.Edit
plain (law.set path value) = law.set path no_value
plain (law.insert path value) = law.insert path no_value
plain e = e

-- An edit, as far as it tells which others it leaves alone: what it does, and its path and keys. One of an entry of a
-- value sets that value, and an insert is that of its first new key.
abbrev pub outline : Edit → SeenAs → law.Edit
outline (Set path value) how = elim how [
  | Entry ↦ law.set (without_last path) no_value
  | _ ↦ law.set path no_value
]
outline (Insert path value) how = elim how [
  | Itself ↦ law.insert path no_value
  | Entry ↦ law.set (without_last path) no_value
  | FirstKey n ↦ law.insert (take n path) no_value
]
outline (Rename path name) how = elim how [
  | Entry ↦ law.set (without_last path) no_value
  | _ ↦ law.rename path (string_bytes name)
]
outline (Remove path) how = elim how [
  | Entry ↦ law.set (without_last path) no_value
  | _ ↦ law.remove path
]
outline (Table keys) how = law.append_table (key_texts keys.items)
outline (Element keys) how = law.append_element (key_texts keys.items)

-- So others see it in the document of this text: an insert of a line by the path of its first new key.
abbrev pub IsSeenAs : ProfiledText → Edit → SeenAs → Type 0
IsSeenAs now (Insert path value) how = elim how [
  | Itself ↦ ⊥
  | Entry ↦ ⊤
  | FirstKey n ↦ ((s : Document) → IsTextOfTree now s → n ≡ suc (length (holder path (mentions_in s))))
]
IsSeenAs now x how = ⊤

-- what is stored of it
abbrev pub outlined : Outline → law.Edit
outlined (kind.Set path) = law.set path no_value
outlined (kind.Insert path) = law.insert path no_value
outlined (kind.Rename path name) = law.rename path name.now
outlined (kind.Remove path) = law.remove path
outlined (kind.Table keys) = law.append_table (key_texts keys.now)
outlined (kind.Element keys) = law.append_element (key_texts keys.now)

-- The first edit leaves the second alone, which comes after it.
abbrev pub LeavesAlone : Outline → Outline → Type 0
LeavesAlone x y = runs.LeavesAlone (outlined x) (outlined y)

-- The second edit is a rename, to a key that the first one allows.
abbrev pub AllowsRename : law.Edit → law.Edit → Type 0
AllowsRename e (law.rename path name) = AllowsKey path name e
AllowsRename e f = ⊥

abbrev pub Allows : Outline → Outline → Type 0
Allows x y = AllowsRename (outlined x) (outlined y)

-- the edit writes a line or a header with a newline of its own
abbrev pub writes_anew : Outline → Bool
writes_anew x = runs.is_insert (outlined x) || runs.is_header (outlined x)

-- A line comes after those that are known, and is known then. One that does not end a body comes after no change that
-- takes the byte before it; and headers that are known to be appended pass by the table of one with a header.
pub record IsKnownThen (old : AddedLines) (changes : List TextChange) (line : Added) (new : AddedLines)
    : Type 0 where
  pub stays : line.kind ≢ LastInBody → list_any (takes_up_to line.at) changes ≡ false
  pub passed : (e : law.Edit) → IsHeaderKnown old e → LetsTable line e
  pub after : (l : Added) → IsKnownAt old l → IsAfterLine l line
  pub here : IsKnownAt new line

-- the header that the edit appends, if it does, is no second one of the table of such a line
abbrev pub IsNoSecondOf : Added → law.Edit → Type 0
IsNoSecondOf l (law.append_table keys) = IsNoSecond keys l
IsNoSecondOf l (law.append_element keys) = IsNoSecond keys l
IsNoSecondOf l e = ⊤

-- The header of a table came at a byte, or comes there with the line that an edit with this outline adds.
abbrev pub IsBroughtThen : AddedLines → Outline → ℕ → Option LineKind → ℕ → List Part → Type 0
IsBroughtThen old x at line n table =
    (brought_at old n ≡ Some table)
    ⊎ ((n ≡ at) × ((line ≡ Some WithHeader) × ((first : List Part) × (outlined x ≡ law.insert first no_value))))

-- An edit with this outline comes after these changes, with the line of this kind that it adds at this byte, if it adds
-- one. All lines and headers that were known are known then, and headers come where they came, or with that line. If it
-- appends a header, that is no second one of a table of those lines with headers, and is known.
pub record IsLineKept (old : AddedLines) (changes : List TextChange) (x : Outline) (at : ℕ) (line : Option LineKind)
    (new : AddedLines) : Type 0 where
  pub others : (l : Added) → IsKnownAt old l → IsKnownAt new l
  pub headers : (e : law.Edit) → IsHeaderKnown old e → IsHeaderKnown new e
  pub own : (first : List Part) (kind : LineKind) → outlined x ≡ law.insert first no_value → line ≡ Some kind
      → IsKnownThen old changes (line_of first at kind) new
  pub brought : (n : ℕ) (table : List Part) → brought_at new n ≡ Some table → IsBroughtThen old x at line n table
  pub follower : new.has_follower ≡ old.has_follower
  pub counts : IsCountedMore old (outlined x) at line new
  pub tables : (table : List Part) → HasTableOf old.headers table → HasTableOf new.headers table
  pub passes : (l : Added) → IsKnownAt old l → IsNoSecondOf l (outlined x)
  pub header : IsHeaderKnown new (outlined x)

-- An edit with this outline adds a line of this kind at this byte, where lines or headers have to come behind it: all
-- others there come before it. No header that is known to be appended is of its table or goes through it, if it has a
-- header; nor one of these edits of a table whose header comes there, unless that is the end of the text. No change
-- takes the byte before. The line is known then, and all that were known.
pub record IsKeptAhead (old : AddedLines) (changes : List TextChange) (x : Outline) (at : ℕ) (line : Option LineKind)
    (is_at_end : Bool) (new : AddedLines) : Type 0 where
  pub passed : is_at_end ≡ false → PassesHeaderAt old at
  pub clear : list_any (takes_up_to at) changes ≡ false
  pub first : List Part
  pub is : outlined x ≡ law.insert first no_value
  pub kind : LineKind
  pub line_is : line ≡ Some kind
  pub lets : (e : law.Edit) → IsHeaderKnown old e → LetsTable (line_of first at kind) e
  pub after : (l : Added) → IsKnownAt old l
      → IsAfterLine l (line_of first at kind)
      ⊎ ((l.at ≡ at) × (comes_before kind (without_last first) l.kind (table_of l) ≡ true))
  pub here : IsKnownAt new (line_of first at kind)
  pub others : (l : Added) → IsKnownAt old l → IsKnownAt new l
  pub headers : (e : law.Edit) → IsHeaderKnown old e → IsHeaderKnown new e
  pub brought : (n : ℕ) (table : List Part) → brought_at new n ≡ Some table → IsBroughtThen old x at line n table
  pub follower : new.has_follower ≡ old.has_follower
  pub counts : IsCountedMore old (outlined x) at line new
  pub tables : (table : List Part) → HasTableOf old.headers table → HasTableOf new.headers table

-- An edit with this outline, this change and a line of this kind is added to edits with these changes and lines: behind
-- all others where it begins, and not at the end of the text, if headers are appended there;
pub record IsAddedBehind (bytes : List ℕ) (old : AddedLines) (changes : List TextChange) (x : Outline) (c : TextChange)
    (line : Option LineKind) (new : AddedLines) (with_it : List TextChange) : Type 0 where
  pub kept : IsLineKept old changes x c.at line new
  pub ends : (kind : LineKind) → line ≡ Some kind → (c.at ≢ length bytes) ⊎ (old.appended ≡ 0)
  pub beside : All (λ d. IsBeside d c) changes
  pub changes_are : with_it ≡ with_change changes c

-- or before those that have to come behind it there.
pub record IsAddedAhead (now : ProfiledText) (old : AddedLines) (changes : List TextChange) (x : Outline)
    (c : TextChange) (line : Option LineKind) (new : AddedLines) (with_it : List TextChange) : Type 0 where
  pub kept : IsKeptAhead old changes x c.at line (c.at == length now.text) new
  pub count : ℕ
  pub count_is : IsCountBehind old (table_by (outlined x)) line c.at (c.at == length now.text) count
  pub some : 0 < count
  pub put : IsPutAhead changes c count with_it
  pub leaves : LeavesHere now c

-- An edit with this outline inserts a new key of the table whose header comes at that byte.
pub record IsOfBrought (added : AddedLines) (x : Outline) (at : ℕ) : Type 0 where
  pub table : List Part
  pub header : brought_at added at ≡ Some table
  pub first : List Part
  pub is : outlined x ≡ law.insert first no_value
  pub table_is : table ≡ without_last first

-- Its line comes behind that of the header, where no change takes the byte before. It is one more there.
pub record IsKeptBehind (old : AddedLines) (changes : List TextChange) (x : Outline) (at : ℕ) (new : AddedLines)
    : Type 0 where
  pub of : IsOfBrought old x at
  pub clear : list_any (takes_up_to at) changes ≡ false
  pub one : IsOneMore old.headed at new.headed
  pub rest : new ≡ record old { headed = new.headed; has_follower = true }

-- This is the line alone of the edit, which is an insert that would bring the header of its table to the document of
-- this text.
pub record AddsLineAlone (now : ProfiledText) (x : Edit) (t : TextEdit) : Type 0 where
  pub path : List Part
  pub given : List ℕ
  pub is : x ≡ Insert path given
  pub accepted : IsAcceptedValue Wide given
  pub adds : (s : Document) → IsTextOfTree now s → (v : Value) → IsTextOfValue given v
      → BringsLine now.profile limit s path v (change_of t)
  pub within : IsSpanOf now.text t.place

-- An edit with this outline is added to edits with these changes and lines by its line alone, which comes at this byte
-- behind the header there.
pub record IsAddedFollowing (now : ProfiledText) (x : Edit) (old : AddedLines) (changes : List TextChange) (o : Outline)
    (at : ℕ) (new : AddedLines) (with_it : List TextChange) : Type 0 where
  pub line : TextEdit
  pub alone : AddsLineAlone now x line
  pub place : (change_of line).at ≡ at
  pub ends : (at ≢ length now.text) ⊎ (old.appended ≡ 0)
  pub kept : IsKeptBehind old changes o at new
  pub leaves : LeavesHere now (change_of line)
  pub beside : All (λ d. IsBeside d (change_of line)) changes
  pub changes_are : with_it ≡ with_change changes (change_of line)

-- An edit with this outline, this change and a line of a table that dotted keys make is added to edits with these
-- changes and lines, right before the change that takes bytes from its place on.
pub record IsAddedRightBefore (now : ProfiledText) (old : AddedLines) (changes : List TextChange) (x : Outline)
    (c : TextChange) (line : Option LineKind) (new : AddedLines) (with_it : List TextChange) : Type 0 where
  pub kept : IsLineKept old changes x c.at line new
  pub line_is : line ≡ Some OfDotted
  pub first : List Part
  pub is : outlined x ≡ law.insert first no_value
  pub put : IsPutBefore changes c with_it
  pub leaves : LeavesHere now c

-- It is added in one of these four ways; behind all others, if elements went.
abbrev pub IsAddedInOrder : ProfiledText → Edit → AddedLines → List TextChange → Outline → TextChange
    → Option LineKind → Bool → AddedLines → List TextChange → Type 0
IsAddedInOrder now x old changes o c line none_gone new with_it =
    IsAddedBehind now.text old changes o c line new with_it
    ⊎ ((none_gone ≡ true)
    × (IsAddedAhead now old changes o c line new with_it
    ⊎ (IsAddedFollowing now x old changes o c.at new with_it
    ⊎ IsAddedRightBefore now old changes o c line new with_it)))

-- what is left of keys after so many, and after those of the steps of a path
abbrev pub rest_from : List (String Global) → ℕ → List Part
rest_from keys n = drop n (map key (key_texts keys))

abbrev pub rest_after : List (String Global) → List Part → Option (List Part)
rest_after keys path = strip (map key (keys_in path)) (map key (key_texts keys))

-- the text with these changes
abbrev pub changed_text : ProfiledText → List TextChange → ProfiledText
changed_text now changes = text_in now.profile (text_with 0 now.text changes)

-- With the edits before number `first` made, this is the text; with those up to number `end`, it is that with the
-- changes.
abbrev pub MakeChanges : List Edit → ℕ → ℕ → ProfiledText → List TextChange → Type 0
MakeChanges edits first end now changes =
    (s : Document) (old : ProfiledText) → AreMade s (take first edits) old now
    → AreMade s (take end edits) old (changed_text now changes)

-- This change of the document of this text sets the value from which the last step of a path leads.
pub record SetsHolderHere (now : ProfiledText) (path : List Part) (value : List ℕ) (t : TextEdit) : Type 0 where
  pub holder : List Part
  pub part : Part
  pub whole : path ≡ holder ++ part ∷ []
  pub sets : MakesChangeHere now (Set holder value) t

-- If it is an insert of a line, this is the kind of it.
abbrev pub IsOfKind : Document → law.Edit → Option LineKind → Type 0
IsOfKind s (law.insert path value) line = line ≡ Some (kind_of s path)
IsOfKind s e line = ⊤

-- The edit makes its own change, or is of an entry and makes what the set of a value makes, and so others see it in a
-- run. That changes the text so; a line that it adds is of this kind.
abbrev pub MakesInRun : Profile → Document → law.Edit → law.Edit → TextChange → Option LineKind → Type 0
MakesInRun profile s e a c line =
    ((a ≡ runs.seen s e) × MakesChange profile limit s e c × IsOfKind s e line)
    ⊎ ((holder : List Part) × (value : Value) × (a ≡ law.set holder value) × MakesSet profile limit s e holder value c)

-- so it does in the document of this text, and as it is seen it has that outline
pub record MakesInRunHere (now : ProfiledText) (x : Edit) (outline : law.Edit) (t : TextEdit)
    (line : Option LineKind)
    : Type 0 where
  pub edit : law.Edit
  pub is : IsEdit x edit
  pub in_run : Document → law.Edit
  pub outline_is : (s : Document) → IsTextOfTree now s → plain (in_run s) ≡ outline
  pub makes : (s : Document) → IsTextOfTree now s → MakesInRun now.profile s edit (in_run s) (change_of t) line
  pub within : IsSpanOf now.text t.place

-- The edit makes its own change, in the document of this text; a line that it adds is of this kind.
pub record MakesItselfHere (now : ProfiledText) (x : Edit) (t : TextEdit) (line : Option LineKind)
    : Type 0 where
  pub edit : law.Edit
  pub is : IsEdit x edit
  pub makes : (s : Document) → IsTextOfTree now s
      → MakesChange now.profile limit s edit (change_of t) × IsOfKind s edit line
  pub within : IsSpanOf now.text t.place

-- One of the edits with these outlines sets the value at that path.
abbrev pub IsSetBy : List Outline → List Part → Type 0
IsSetBy outlines path = Any (λ o. outlined o ≡ law.set path no_value) outlines

-- One of the edits with these outlines renames the key of that path to this one.
abbrev pub IsRenamedBy : List Outline → List Part → List ℕ → Type 0
IsRenamedBy outlines path name = Any (λ o. outlined o ≡ law.rename path name) outlines

-- One of the changes has the place of this one, and writes the text of a value. Where that is a value's text and this
-- change sets the value, the edit is of an entry of it and makes what the set makes.
pub record MakesOfEarlier (profile : Profile) (changes : List TextChange) (e : law.Edit) (path : List Part)
    (value : Value) (c : TextChange) : Type 0 where
  pub was : List ℕ
  pub earlier : HasChange changes (change_at c.at c.size was)
  pub makes : (u : Document) (d : TextChange) → IsEditable profile limit u → SetsValue profile limit u path value d
      → take d.size (drop d.at (text u)) ≡ was → MakesSet profile limit u e path value d

-- By this change of the document of this text the edit sets a value that an edit with one of these outlines sets too.
-- It is that set itself, or it is of an entry of the value that these changes write.
pub record SetsAgainHere (now : ProfiledText) (x : Edit) (outlines : List Outline) (changes : List TextChange)
    (t : TextEdit) : Type 0 where
  pub edit : law.Edit
  pub is : IsEdit x edit
  pub path : List Part
  pub value : Value
  pub makes : (edit ≡ law.set path value) ⊎ MakesOfEarlier now.profile changes edit path value (change_of t)
  pub already : IsSetBy outlines path
  pub sets : (s : Document) → IsTextOfTree now s → SetsValue now.profile limit s path value (change_of t)
  pub within : IsSpanOf now.text t.place

-- The edit renames a key to which one of these changes renames another, as an edit with one of these outlines does.
-- This change of the document of this text renames that other key so; that is what the outline says.
pub record RenamesAgainHere (now : ProfiledText) (x : Edit) (outlines : List Outline) (changes : List TextChange)
    (o : Outline) (t : TextEdit) : Type 0 where
  pub path : List Part
  pub name : List ℕ
  pub more : List ℕ
  pub is : IsEdit x (law.rename (beside path name) more)
  pub outline_is : outlined o ≡ law.rename path more
  pub utf8 : IsUtf8 name
  pub other : name ≢ more
  pub already : IsRenamedBy outlines path name
  pub wrote : HasChange changes (change_at (change_of t).at (change_of t).size (encoded_key name))
  pub renames : (s : Document) → IsTextOfTree now s → RenamesKey now.profile limit s path more (change_of t)
  pub within : IsSpanOf now.text t.place

-- With the edits up to number `end` made, this is the text with the changes. It is known of the document that it is
-- after a list of edits that are made at once, which leave alone what each of these outlines does, and whose lines and
-- headers are known.
pub record IsRunTo (s : Document) (edits : List Edit) (end : ℕ) (old now : ProfiledText) (before : Document)
    (outlines : List Outline) (changes : List TextChange) (added : AddedLines) : Type 0 where
  pub made : AreMade s (take end edits) old (changed_text now changes)
  pub ms : List MadeEdit
  pub alone : (f : law.Edit) → All (λ x. runs.LeavesAlone (outlined x) (plain f)) outlines
      → All (λ e. runs.LeavesAlone e f) (seen_of before ms)
  pub inserts : All (λ x. runs.is_insert (outlined x) ≡ true) outlines
      → All (λ e. IsTrue (runs.is_insert e)) (seen_of before ms)
  pub headers : All (λ x. runs.is_header (outlined x) ≡ true) outlines
      → All (λ e. IsTrue (runs.is_header e)) (seen_of before ms)
  pub sets : (path : List Part) → IsSetBy outlines path → IsSetIn path ms
  pub renames : (path : List Part) (name : List ℕ) → IsRenamedBy outlines path name → IsRenameIn path ms
  pub allow : (path : List Part) (name : List ℕ) → All (λ x. AllowsKey path name (outlined x)) outlines
      → All (AllowsKey path name) (seen_of before ms)
  pub lines : All (IsKnownAt added) (lines_of before ms)
  pub counts : IsCounted added (lines_of before ms) (seen_of before ms)
  pub followed : added.has_follower ≡ false → All (λ m. MakesChange now.profile limit before m.edit m.change) ms
  pub headed : (n : ℕ) (table : List Part) → brought_at added n ≡ Some table
      → Any (IsHeaderAt n) (lines_of before ms)
  pub headers_known : All (IsHeaderKnown added) (seen_of before ms)
  pub at_once : AreAtOnce now.profile limit before ms
  pub changes_are : changes_of ms ≡ changes
  pub tree_is : document_after before ms ≡ made.tree

-- ---- items

-- The edit is the insert of the item so many numbers after the one of this path, and adds this to the document of this
-- text, of which the path's item is the next of its array.
pub record AddsItemHere (now : ProfiledText) (edit : Edit) (path : List Part) (before : ℕ) (t : TextEdit)
    : Type 0 where
  pub value : Value
  pub insert_is : (array : List Part) (n : ℕ) → path ≡ item_path array n
      → IsEdit edit (law.insert (item_path array (n + before)) value)
  pub adds : (s : Document) → IsTextOfTree now s → AddsNextItem now.profile limit s path before value (change_of t)
  pub within : IsSpanOf now.text t.place

-- The edits from number `first` up to number `end` are made, on a document in which those before are: they are inserts
-- of items of one array, which had so many, and each adds its text to that document at this place.
pub record IsItemRunTo (s : Document) (edits : List Edit) (first end : ℕ) (old now : ProfiledText) (before : Document)
    (array : List Part) (n at : ℕ) (texts : List TextChange) : Type 0 where
  pub made : AreMade s (take end edits) old (changed_text now texts)
  pub run : IsItemRun now.profile limit before array n at texts made.tree

-- ---- tables and elements

-- The edit is the remove of a table or an element, after those at these paths were removed. It takes this from the
-- document of this text: the header with its body, which are at another path there. After it the paths lead back to
-- that document by `next`.
pub record RemovesHeaderHere (now : ProfiledText) (gone next : List (List Part)) (edit : Edit) (t : TextEdit)
    : Type 0 where
  pub path : List Part
  pub is : IsEdit edit (law.remove path)
  pub removes : (s : Document) → IsTextOfTree now s
      → RemovesHeader now.profile limit s (first_path gone path) (change_of t)
  pub gone_with : IsGoneWith gone path next
  pub within : IsSpanOf now.text t.place

-- The edits from number `first` up to number `end` are made, on a document in which those before are: they are removes
-- of tables and elements at the paths `all`, and each takes its bytes of that document. Paths lead back to it by `gone`
-- alone.
pub record IsHeaderRunTo (s : Document) (edits : List Edit) (first end : ℕ) (old now : ProfiledText)
    (before : Document) (gone : List (List Part)) (changes : List TextChange) : Type 0 where
  pub made : AreMade s (take end edits) old (changed_text now changes)
  pub all : List (List Part)
  pub run : IsHeaderRun now.profile limit before all changes made.tree
  pub leads : (q : List Part) → first_path all q ≡ first_path gone q
