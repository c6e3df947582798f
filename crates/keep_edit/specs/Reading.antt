-- What is read: whole texts, in a profile, to the standard depth. What is read of single values is defined by
-- keep_rules.
use Rattle.std.specs.Prelude.{◌≡◌, ℕ, List, ◌⊎◌, Result, Err, IsUtf8}
use Rattle.std.specs.Str.Lossy.{utf8_valid_len}
use Rattle.keep_types.specs.declared.leaf.Profile.{Profile}
use Rattle.keep_syntax.specs.declared.fault.ReadFault.{ReadFault}
use Rattle.keep_syntax.specs.declared.fault.ReadFault.TheVariants.{Memory, Utf8}
use Rattle.keep_syntax.specs.declared.syntax.Syntax.{Syntax}
use Rattle.keep_syntax.specs.Tree.{Document}
use Rattle.keep_syntax.specs.Grammar.{Reads}
use Rattle.keep_syntax.specs.Contract.{IsSyntaxOf, IsTextOf}
use Rattle.keep_meaning.specs.ReadText.{IsReadFault}
pub use Rattle.keep_rules.specs.ValueTexts.{limit, IsTextOfValue, IsAcceptedValue, IsTextOfFact, IsRefusedValue}
pub use Rattle.keep_edit_plan.specs.Reading.{ProfiledText, text_in, IsTextOfTree, IsAccepted, telling_in, Holds}

-- The text is that of some document, by the grammar of its profile and to the standard depth, and this is its syntax.
pub record IsSyntaxIn (t : ProfiledText) (syntax : Syntax) : Type 0 where
  pub tree : Document
  pub reads : Reads t.profile limit t.text tree
  pub is : IsSyntaxOf syntax tree
  pub of_text : IsTextOf syntax t.text

-- why a text is none, or out of memory
abbrev pub IsRefused : ProfiledText → ReadFault → Type 0
IsRefused t fault = (fault ≡ Memory) ⊎ IsReadFault t.profile limit t.text fault

-- If the bytes are no text, this is reported, with the length of their longest prefix that is text.
abbrev pub ReportsNoText : {T : Type 0} → List ℕ → Result T ReadFault → Type 0
ReportsNoText bytes result = ¬ (IsUtf8 bytes) → result ≡ Err (Utf8 (utf8_valid_len bytes))

-- the text of this document, in a profile, of which this is the syntax
pub record IsReadAs (profile : Profile) (bytes : List ℕ) (syntax : Syntax) (d : Document) : Type 0 where
  pub read : IsTextOfTree (text_in profile bytes) d
  pub is : IsSyntaxOf syntax d
