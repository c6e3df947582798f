-- What becomes of a document by an edit that was decided for it.
use Rattle.std.specs.Prelude.{◌≡◌, ℕ, ◌+◌, ◌-◌, length, slice_range, string_bytes, Result, Ok, Err}
use Rattle.keep_types.specs.declared.syntax.Span.{Span}
use Rattle.keep_syntax.specs.declared.syntax.Syntax.{Syntax}
use Rattle.keep_syntax.specs.Contract.{IsSyntaxOf}
use Rattle.keep_syntax.specs.Tree.{Document}
use Rattle.keep_syntax.specs.WholeLines as lines
use Rattle.keep_edit_spec.specs.declared.fault.EditFault.{EditFault}
use Rattle.keep_edit_spec.specs.declared.fault.EditFault.TheVariants.{Memory}
use Rattle.keep_edit_spec.specs.declared.splice.Splice.{Splice}
use Rattle.keep_edit_spec.specs.Changed.{Place}
use Rattle.keep_edit_spec.specs.TouchedLines as touched
use Rattle.keep_path.specs.NodeInfos.{NodeInfos}
use Rattle.keep_edit_plan.specs.Answers.{IsMadeAt, splice_of, text_after}
use Rattle.keep_edit_plan.specs.declared.text_edit.TextEdit.{TextEdit}
use Rattle.keep_edit.specs.Reading.{ProfiledText, Holds, IsTextOfTree, text_in}
pub use Rattle.keep_edit_plan.specs.Places.{IsOfEdit}

-- the text after the edit, in the document's profile
abbrev pub after : ProfiledText → TextEdit → ProfiledText
after old made = text_in old.profile (text_after old.text made)

-- The edit was written into the text of a document, of which syntax and index are what they were.
pub record IsPatched (old : ProfiledText) (made : TextEdit) (syntax : Syntax) (index : NodeInfos) (new : ProfiledText)
    : Type 0 where
  pub holds : Holds old syntax index
  pub edit : IsOfEdit old made
  pub is : new ≡ after old made

-- where the lines end that come in the place of a span of whole lines
abbrev pub end_by : Span → TextEdit → ℕ
end_by whole made = whole.end - (made.place.end - made.place.start) + length (string_bytes made.new)

-- All that is scanned of the text after an edit: `new` are the lines of it that replace `whole`, the lines that the
-- edit touches in the document of which syntax and index are.
pub record IsScanned (old : ProfiledText) (made : TextEdit) (syntax : Syntax) (index : NodeInfos) (whole : Span)
    (new : ProfiledText) : Type 0 where
  pub holds : Holds old syntax index
  pub edit : IsOfEdit old made
  pub touched_are : (d : Document) → IsSyntaxOf syntax d → whole ≡ lines.touched d made.place
  pub profile_is : new.profile ≡ old.profile
  pub lines_are : new.text ≡ slice_range (text_after old.text made) whole.start (end_by whole made)

-- Syntax and index are those of the text after the edit, with so many bytes scanned; or memory ran out, and they still
-- are those of the old text.
abbrev pub IsTaken : ProfiledText → TextEdit → Syntax → NodeInfos → Result ℕ EditFault → Type 0
IsTaken old made syntax index (Ok scanned) =
    Holds (after old made) syntax index
    × ((s : Document) (p : Place) → IsTextOfTree old s → IsMadeAt p made → scanned ≡ touched.scanned s p)
IsTaken old made syntax index (Err f) = (f ≡ Memory) × Holds old syntax index

-- The document has the text after the edit, and the splice is that of its place; or memory ran out and it is as before.
abbrev pub IsMovedIn : TextEdit → ProfiledText → ProfiledText → Result Splice EditFault → Type 0
IsMovedIn made old new (Ok splice) =
    ((s : Document) (p : Place) → IsTextOfTree old s → IsMadeAt p made → splice ≡ splice_of s p)
    × (new ≡ after old made)
IsMovedIn made old new (Err f) = (f ≡ Memory) × (new ≡ old)
