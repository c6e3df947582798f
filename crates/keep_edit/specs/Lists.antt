-- Edits that are given as values, and what a list of them answers.
use Rattle.std.specs.Prelude.{◌≡◌, ◌⊎◌, ℕ, suc, ◌<◌, All, List, length, take, Result, Ok, Err}
use Rattle.std.specs.List.{AllZip}
use Rattle.keep_types.specs.declared.leaf.Profile.{Profile}
use Rattle.keep_syntax.specs.Tree.{Document}
use Rattle.keep_edit_spec.specs.declared.fault.EditFault.{EditFault}
use Rattle.keep_edit_spec.specs.declared.fault.EditFault.TheVariants.{Memory}
use Rattle.keep_edit_spec.specs.Answers.{applied_edits}
use Rattle.keep_edit_spec.specs.Edits as law
use Rattle.keep_edit_spec.specs.TextChanges.{text_with}
use Rattle.keep_edit_plan.specs.TextEdits.{IsChangeIn}
use Rattle.keep_edit.specs.Answers.{IsSpanOf, text_after}
use Rattle.keep_edit.specs.Reading.{limit, ProfiledText, text_in}
pub use Rattle.keep_edit_runs.specs.Lists.{IsEdit, growth_of, AreMade}
use Rattle.keep_edit_plan.specs.declared.edit.Edit.{Edit}
use Rattle.keep_edit.specs.declared.lists.LastEdits.{LastEdits}
use Rattle.keep_edit.specs.declared.lists.LastEdits.TheVariants.{AtOnce, One}

-- The edit with this number, from 0, is the first that is refused, on the document after those before it, and this is
-- why.
pub record IsRefusedAt (s : Document) (edits : List Edit) (profile : Profile) (number : ℕ) (f : EditFault)
    : Type 0 where
  pub es : List law.Edit
  pub are : AllZip IsEdit (take (suc number) edits) es
  pub refused : applied_edits profile limit es s ≡ Err (record { number = number; fault = f })

-- Memory ran out at the edit with this number: neither it nor one before it is refused.
pub record IsOutOfMemoryAt (s : Document) (edits : List Edit) (profile : Profile) (number : ℕ) (f : EditFault)
    : Type 0 where
  pub memory : f ≡ Memory
  pub here : number < length edits
  pub es : List law.Edit
  pub are : AllZip IsEdit (take (suc number) edits) es
  pub tree : Document
  pub allowed : applied_edits profile limit es s ≡ Ok tree

-- Memory ran out for the copy that a list of edits is made on, which is reported as that of its first edit.
pub record IsNotCopied (edits : List Edit) (number : ℕ) (f : EditFault) : Type 0 where
  pub memory : f ≡ Memory
  pub first : number ≡ 0
  pub some : 0 < length edits

-- why edits that are made one after another stop at the edit with this number
abbrev pub StopsAt : Document → List Edit → Profile → ℕ → EditFault → Type 0
StopsAt s edits profile number f = IsRefusedAt s edits profile number f ⊎ IsOutOfMemoryAt s edits profile number f

-- what edits answer that are made one after another
abbrev pub EachDone : {T : Type 0} → Document → List Edit → ProfiledText → ProfiledText → Result T (ℕ × EditFault)
    → Type 0
EachDone s edits old new (Ok done) = AreMade s edits old new
EachDone s edits old new (Err stop) = StopsAt s edits old.profile stop.0 stop.1

-- what edits answer that are made all or none
abbrev pub AllDone : {T : Type 0} → Document → List Edit → ProfiledText → ProfiledText → Result T (ℕ × EditFault)
    → Type 0
AllDone s edits old new (Ok done) = AreMade s edits old new
AllDone s edits old new (Err stop) = StopsAt s edits old.profile stop.0 stop.1 ⊎ IsNotCopied edits stop.0 stop.1

-- ---- the last edits, which are not made in the document

-- its text after them
abbrev pub text_after_last : List ℕ → LastEdits → List ℕ
text_after_last text (One made) = text_after text made
text_after_last text (AtOnce changes) = text_with 0 text changes

-- each changes a part of it
abbrev pub AreWithin : List ℕ → LastEdits → Type 0
AreWithin text (One made) = IsSpanOf text made.place
AreWithin text (AtOnce changes) = All (IsChangeIn text) changes

-- What edits answer of which all but the last ones are made: with what these change, the text is the one after all.
abbrev pub AllWritten : Document → List Edit → ProfiledText → ProfiledText → Result LastEdits (ℕ × EditFault) → Type 0
AllWritten s edits old new (Ok last) = AreMade s edits old (text_in new.profile (text_after_last new.text last))
AllWritten s edits old new (Err stop) = StopsAt s edits old.profile stop.0 stop.1
