-- Edits of a list that are made at once, and one more that does again what one of them did: its change comes in the
-- place of that one's.
use Rattle.std.specs.Prelude.{◌≡◌, ◌⊎◌, ⊤, ℕ, false, true, IsUtf8, List, [], ◌∷◌}
use Rattle.keep_syntax.specs.Tree.{Document, Value}
use Rattle.keep_path.specs.Path.{Part, beside}
use Rattle.keep_edit_spec.specs.AddedLines.{AddsLine, first_new}
use Rattle.keep_edit_spec.specs.Edits as law
use Rattle.keep_edit_spec.specs.InsertKinds.{AddsAs}
use Rattle.keep_edit_spec.specs.Runs as runs
use Rattle.keep_edit_spec.specs.TextChanges.{TextChange}
use Rattle.keep_edit_spec.specs.declared.line_kind.LineKind.{LineKind}
use Rattle.keep_edit_plan.specs.TextEdits.{HasInstead, IsReplaced, change_of}
use Rattle.keep_edit_plan.specs.declared.edit.Edit.{Edit}
use Rattle.keep_edit_plan.specs.declared.text_edit.TextEdit.{TextEdit}
use Rattle.keep_edit_plan.specs.Answers.{IsSpanOf}
use Rattle.keep_edit_runs.specs.Lists.{IsEdit}
use Rattle.keep_edit_plan.specs.Reading.{IsTextOfTree, ProfiledText, limit}
use Rattle.keep_edit_runs.specs.Runs.{Allows, LeavesAlone, RenamesAgainHere, SetsAgainHere, no_value, outlined}
use Rattle.keep_edit_runs.specs.declared.added_lines.AddedLines.{AddedLines}
use Rattle.keep_edit_runs.specs.declared.again.Again.{Again}
use Rattle.keep_edit_runs.specs.declared.again.Again.TheVariants as again
use Rattle.keep_edit_runs.specs.declared.outline.Outline.{Outline}

-- The edit sets the value at a path. An insert of some value there adds a line to the document of this text by the
-- first change, and an insert of this value by the second; both lines are of one kind.
pub record InsertsAgainHere (now : ProfiledText) (x : Edit) (was t : TextEdit) : Type 0 where
  pub path : List Part
  pub value : Value
  pub more : Value
  pub is : IsEdit x (law.set path more)
  pub kind : LineKind
  pub added : (s : Document) → IsTextOfTree now s → AddsAs kind now.profile limit s path value (change_of was)
  pub adds : (s : Document) → IsTextOfTree now s → AddsAs kind now.profile limit s path more (change_of t)
  pub within : IsSpanOf now.text t.place

-- The edit renames the key of a path. An insert of some value there adds a line of that one new key at the end of a
-- body of the document of this text, by the first change, and an insert of that value at the new path adds one by the
-- second. That insert is what the outline says.
pub record RenamesLineHere (now : ProfiledText) (x : Edit) (o : Outline) (was t : TextEdit) : Type 0 where
  pub path : List Part
  pub name : List ℕ
  pub value : Value
  pub is : IsEdit x (law.rename path name)
  pub outline_is : outlined o ≡ law.insert (beside path name) no_value
  pub utf8 : IsUtf8 name
  pub added : (s : Document) → IsTextOfTree now s → AddsLine now.profile limit s path value (change_of was)
  pub one : (s : Document) → IsTextOfTree now s → first_new s path ≡ path
  pub adds : (s : Document) → IsTextOfTree now s
      → AddsLine now.profile limit s (beside path name) value (change_of t)
  pub within : IsSpanOf now.text t.place

-- So the edit does it again, after edits with these outlines and changes; a line that is added is one of theirs if the
-- first change is one of these.
abbrev pub IsAgainHere : ProfiledText → Edit → List Outline → List TextChange → Again → Type 0
IsAgainHere now x outlines changes (again.Value t) = SetsAgainHere now x outlines changes t
IsAgainHere now x outlines changes (again.Key o t) = RenamesAgainHere now x outlines changes o t
IsAgainHere now x outlines changes (again.Line number was t) = InsertsAgainHere now x was t
IsAgainHere now x outlines changes (again.LineKey o giving was t) = RenamesLineHere now x o was t

-- what it changes
abbrev pub edit_of : Again → TextEdit
edit_of (again.Value t) = t
edit_of (again.Key o t) = t
edit_of (again.Line number was t) = t
edit_of (again.LineKey o giving was t) = t

-- what is known of it beside the outlines of the edits before
abbrev pub outlines_of : Again → List Outline
outlines_of (again.Value t) = []
outlines_of (again.Key o t) = o ∷ []
outlines_of (again.Line number was t) = []
outlines_of (again.LineKey o giving was t) = o ∷ []

-- its change comes in the place of one
abbrev pub IsPutAgain : Again → List TextChange → List TextChange → Type 0
IsPutAgain (again.Value t) old new = IsReplaced old (change_of t) new
IsPutAgain (again.Key o t) old new = IsReplaced old (change_of t) new
IsPutAgain (again.Line number was t) old new = HasInstead old (change_of was) (change_of t) new
IsPutAgain (again.LineKey o giving was t) old new = HasInstead old (change_of was) (change_of t) new

-- edits of which this is known allow a line in the place of another: it leaves the first newline, or all add lines
abbrev pub AllowLine : (TextChange → Type 0) → (Outline → Type 0) → TextEdit → Type 0
AllowLine Leaves P t = Leaves (change_of t) ⊎ ((other : Outline) → P other → runs.is_insert (outlined other) ≡ true)

-- They allow what is done again: a key's new name, and such a line; and they leave alone the insert of one with another
-- key.
abbrev pub AllowAgain : (TextChange → Type 0) → (Outline → Type 0) → Again → Type 0
AllowAgain Leaves P (again.Value t) = ⊤
AllowAgain Leaves P (again.Key o t) = (other : Outline) → P other → Allows other o
AllowAgain Leaves P (again.Line number was t) = AllowLine Leaves P t
AllowAgain Leaves P (again.LineKey o giving was t) =
    AllowLine Leaves P t × ((other : Outline) → P other → LeavesAlone other o)

-- A line is put in the place of another only where none comes behind a header's.
abbrev pub LetsAgain : AddedLines → Again → Type 0
LetsAgain added (again.Line number was t) = added.has_follower ≡ false
LetsAgain added (again.LineKey o giving was t) = added.has_follower ≡ false
LetsAgain added a = ⊤
