-- Where an edit is done in the text, and what it writes there.
use Rattle.std.specs.Prelude.{◌≡◌, ℕ, List, Some, None, Result, Ok, Err}
use Rattle.keep_syntax.specs.Tree.{Document}
use Rattle.keep_types.specs.declared.syntax.Span.{Span}
use Rattle.keep_edit_spec.specs.declared.fault.EditFault.{EditFault}
use Rattle.keep_edit_spec.specs.Changed.{Changed, Place, place_of}
use Rattle.keep_edit_spec.specs.Edits.{Edit, change, place}
use Rattle.keep_edit_plan.specs.Reading.{ProfiledText, IsTextOfTree, text_in}
use Rattle.keep_edit_plan.specs.Answers.{IsMadeAt, IsSpanOf, text_after, refusal_in}
use Rattle.keep_edit_plan.specs.declared.text_edit.TextEdit.{TextEdit}

-- a span, with the bytes that take its place
abbrev pub place_at : Span → List ℕ → Place
place_at span given = record { start = span.start; end = span.end; new = given }

-- The edit is done at this span of the text, by these bytes, or it is refused.
abbrev pub IsDoneAt : Document → Edit → ProfiledText → List ℕ → Result Span EditFault → Type 0
IsDoneAt s e old given (Ok span) =
    (refusal_in old s e ≡ None) × (place s e ≡ place_at span given) × IsSpanOf old.text span
IsDoneAt s e old given (Err f) = refusal_in old s e ≡ Some f

-- It was made by an edit that changes the document of the old text: the text with it is read as the new document.
pub record IsOfEdit (old : ProfiledText) (made : TextEdit) : Type 0 where
  pub tree : Document
  pub edit : Edit
  pub changed : Changed Document
  pub read : IsTextOfTree old tree
  pub is : change tree edit ≡ Some changed
  pub new : IsTextOfTree (text_in old.profile (text_after old.text made)) changed.to
  pub at : IsMadeAt (place_of changed) made
  pub within : IsSpanOf old.text made.place
