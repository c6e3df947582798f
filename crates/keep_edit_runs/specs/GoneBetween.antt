-- Elements of arrays of tables that are removed between edits of all kinds.
use Rattle.std.specs.Prelude.{◌≡◌, ℕ, All, Any, List, take, true}
use Rattle.std.specs.List.{count_by}
use Rattle.keep_syntax.specs.Tree.{Document}
use Rattle.keep_path.specs.Path.{Part}
use Rattle.keep_edit_spec.specs.ElementRuns.{IsElementRun, IsElsewhere, changed_path}
use Rattle.keep_edit_spec.specs.Edits as law
use Rattle.keep_edit_spec.specs.InsertKinds.{Added}
use Rattle.keep_edit_spec.specs.RemovedHeaders.{first_path}
use Rattle.keep_edit_spec.specs.Runs as runs
use Rattle.keep_edit_runs.specs.Newlines.{LeavesHere}
use Rattle.keep_edit_spec.specs.TextChanges.{IsBeside, TextChange, with_change}
use Rattle.keep_edit_plan.specs.TextEdits.{change_of}
use Rattle.keep_edit_plan.specs.declared.edit.Edit.{Edit}
use Rattle.keep_edit_plan.specs.declared.text_edit.TextEdit.{TextEdit}
use Rattle.keep_edit_runs.specs.AddedLines.{IsHeaderKnown, IsKnownAt}
use Rattle.keep_edit_runs.specs.Lists.{AreMade}
use Rattle.keep_edit_plan.specs.Reading.{ProfiledText, limit}
use Rattle.keep_edit_runs.specs.Runs.{RemovesHeaderHere, changed_text, outlined, plain}
use Rattle.keep_edit_runs.specs.declared.added_lines.AddedLines.{AddedLines}
use Rattle.keep_edit_runs.specs.declared.at_once.AtOnce.{AtOnce}
use Rattle.keep_edit_runs.specs.declared.gone_between.GoneBetween.{GoneBetween}
use Rattle.keep_edit_runs.specs.declared.outline.Outline.{Outline}

-- the array is one of these
abbrev pub HasArray : List (List Part) → List Part → Type 0
HasArray arrays array = Any (λ other. other ≡ array) arrays

-- The edits with these outlines are elsewhere than in each of the arrays.
abbrev pub AreElsewhere : List (List Part) → List Outline → Type 0
AreElsewhere arrays outlines = All (λ array. All (λ o. IsElsewhere array (outlined o)) outlines) arrays

-- The edit is the remove of an element, after those went. It takes this from the document of this text. Its array is
-- one of those then, and the edits with these outlines are elsewhere than in it.
pub record RemovesElementHere (now : ProfiledText) (old new : GoneBetween) (outlines : List Outline) (edit : Edit)
    (t : TextEdit) : Type 0 where
  pub header : RemovesHeaderHere now old.elements new.elements edit t
  pub array : HasArray new.arrays.items (changed_path header.path)
  pub elsewhere : All (λ o. IsElsewhere (changed_path header.path) (outlined o)) outlines

-- So it does after these edits that are made at once: what it takes is one change more, beside theirs, and each array
-- is there still. If they are known to leave the first newline, so they were before.
pub record TakesElement (now : ProfiledText) (old new : GoneBetween) (before after : AtOnce) (edit : Edit)
    : Type 0 where
  pub change : TextEdit
  pub removes : RemovesElementHere now old new before.outlines.items edit change
  pub arrays : (a : List Part) → HasArray old.arrays.items a → HasArray new.arrays.items a
  pub beside : All (λ c. IsBeside c (change_of change)) before.changes
  pub changes : after.changes ≡ with_change before.changes (change_of change)
  pub newline : after.leave_newline ≡ true → (before.leave_newline ≡ true) × LeavesHere now (change_of change)

-- With the edits up to number `end` made, this is the text with the changes. It is known of the document that it is
-- after a run of edits, which leave alone what each of these outlines does, and whose lines and headers are known, and
-- that elements of these arrays alone are gone; paths lead back to the first document by `gone`.
pub record IsElementRunTo (s : Document) (edits : List Edit) (end : ℕ) (old now : ProfiledText) (before : Document)
    (outlines : List Outline) (changes : List TextChange) (added : AddedLines) (arrays gone : List (List Part))
    : Type 0 where
  pub made : AreMade s (take end edits) old (changed_text now changes)
  pub es : List law.Edit
  pub lines : List Added
  pub paths : List (List Part)
  pub alone : (f : law.Edit) → All (λ x. runs.LeavesAlone (outlined x) (plain f)) outlines
      → All (λ e. runs.LeavesAlone e f) es
  pub elsewhere : (path : List Part) → All (λ x. IsElsewhere path (outlined x)) outlines → All (IsElsewhere path) es
  pub known : All (IsKnownAt added) lines
  pub counted : count_by runs.is_header es ≡ added.appended
  pub headers_known : All (IsHeaderKnown added) es
  pub of_arrays : All (λ path. HasArray arrays (changed_path path)) paths
  pub leads : (q : List Part) → first_path paths q ≡ first_path gone q
  pub run : IsElementRun now.profile limit before es changes lines paths made.tree
