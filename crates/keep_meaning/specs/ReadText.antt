-- What reading a text gives: its tree, or the fault.
use Rattle.std.specs.Prelude.{◌≡◌, ℕ, List, IsUtf8}
use Rattle.std.specs.Str.Lossy.{utf8_valid_len}
use Rattle.keep_types.specs.declared.leaf.Profile.{Profile}
use Rattle.keep_syntax.specs.declared.fault.ReadFault.{ReadFault}
use Rattle.keep_syntax.specs.declared.fault.ReadFault.TheVariants.{Utf8, Syntax, TooDeep, Define, Memory}
use Rattle.keep_syntax.specs.Tree.{Value, Document}
use Rattle.keep_syntax.specs.Grammar.{Reads, ReadsValue}
use Rattle.keep_syntax.specs.Deep.{IsTooDeep, IsValueTooDeep, IsNoDocument, IsNoValue}
use Rattle.keep_meaning.specs.Rules.{ObeysRules}
use Rattle.keep_meaning.specs.Marks.{marks}
use Rattle.keep_meaning.specs.Meaning.{mentions_in, mentions_of_value}
use Rattle.keep_meaning.specs.Faults.{IsFaultIn, IsFaultInValue}

-- The bytes are the text of this document, and its rules hold.
pub record IsRead (profile : Profile) (limit : ℕ) (bytes : List ℕ) (s : Document) : Type 0 where
  pub utf8 : IsUtf8 bytes
  pub reads : Reads profile limit bytes s
  pub obeys : ObeysRules (marks (mentions_in s))

-- Why bytes are no document, unless memory runs out. (Where and why the grammar fails is not said here.)
abbrev pub IsReadFault : Profile → ℕ → List ℕ → ReadFault → Type 0
IsReadFault profile limit bytes (Utf8 at) = (¬ (IsUtf8 bytes)) × (at ≡ utf8_valid_len bytes)
IsReadFault profile limit bytes (Syntax at what) = IsUtf8 bytes × IsNoDocument profile limit bytes
IsReadFault profile limit bytes (TooDeep at) = IsUtf8 bytes × IsTooDeep profile limit bytes at
IsReadFault profile limit bytes (Define at why) =
    IsUtf8 bytes × ((s : Document) × Reads profile limit bytes s × IsFaultIn s at why)
IsReadFault profile limit bytes Memory = ⊥

-- the text is that of this value, and its rules hold
pub record IsValueText (profile : Profile) (limit : ℕ) (bytes : List ℕ) (v : Value) : Type 0 where
  pub reads : ReadsValue profile limit bytes v
  pub obeys : ObeysRules (marks (mentions_of_value v))

-- why a text is no value's, unless memory runs out
abbrev pub IsValueFault : Profile → ℕ → List ℕ → ReadFault → Type 0
IsValueFault profile limit bytes (Syntax at what) = IsNoValue profile limit bytes
IsValueFault profile limit bytes (TooDeep at) = IsValueTooDeep profile limit bytes at
IsValueFault profile limit bytes (Define at why) =
    (v : Value) × ReadsValue profile limit bytes v × IsFaultInValue v at why
IsValueFault profile limit bytes (Utf8 at) = ⊥
IsValueFault profile limit bytes Memory = ⊥
