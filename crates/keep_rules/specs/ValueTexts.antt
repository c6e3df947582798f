-- The texts of single values: what is read, in a profile, to the standard depth.
use Rattle.std.specs.Prelude.{◌≡◌, ◌↔◌, ℕ, IsTrue, List, [], ◌⊎◌, Some}
use Rattle.keep_types.specs.declared.leaf.Leaf.{Leaf}
use Rattle.keep_types.specs.declared.leaf.Profile.{Profile}
use Rattle.keep_types.specs.declared.leaf.Profile.TheVariants.{Strict, Wide}
use Rattle.keep_token.specs.Leaves.{IsLeaf, is_scalar_leaf}
use Rattle.keep_syntax.specs.declared.fault.ReadFault.{ReadFault}
use Rattle.keep_syntax.specs.declared.fault.ReadFault.TheVariants.{Memory}
use Rattle.keep_syntax.specs.Limit.{standard_depth}
use Rattle.keep_syntax.specs.Tree.{Value, value_depth}
use Rattle.keep_syntax.specs.Grammar.{IsValue}
use Rattle.keep_types.specs.declared.node.Kind.{Kind}
use Rattle.keep_meaning.specs.Fact.{Fact}
use Rattle.keep_meaning.specs.Meaning.{mentions_of_value, body_fact}
use Rattle.keep_meaning.specs.Nodes.{fact_at, fact_kind}
use Rattle.keep_meaning.specs.ReadText.{IsValueText, IsValueFault}

-- how many arrays and inline tables may enclose one another
abbrev pub limit : ℕ
limit = standard_depth

-- The text is that of this value, in either profile: Wide's grammar has all that Strict's has.
abbrev pub IsTextOfValue : List ℕ → Value → Type 0
IsTextOfValue bytes v = IsValueText Wide limit bytes v

-- the text of some value of the profile
abbrev pub IsAcceptedValue : Profile → List ℕ → Type 0
IsAcceptedValue profile bytes = (v : Value) × IsValueText profile limit bytes v

-- the text of a scalar: a string, a number, a truth value, a date or a time
abbrev pub IsScalarText : Profile → List ℕ → Type 0
IsScalarText profile bytes = (l : Leaf) × IsTrue (is_scalar_leaf l) × IsLeaf profile l bytes

-- the text of a value that means this: a string, an integer, a truth value, ..
abbrev pub IsTextOfFact : List ℕ → Fact → Type 0
IsTextOfFact bytes fact = (v : Value) × IsTextOfValue bytes v × (fact_at [] (mentions_of_value v) ≡ Some fact)

-- why a text is none, or out of memory
abbrev pub IsRefusedValue : Profile → List ℕ → ReadFault → Type 0
IsRefusedValue profile bytes fault = (fault ≡ Memory) ⊎ IsValueFault profile limit bytes fault

-- Of this text some value was read. These are its kind and its depth, and the profile is Strict exactly if Strict's
-- grammar has it.
pub record HoldsValue (bytes : List ℕ) (kind : Kind) (depth : ℕ) (profile : Profile) : Type 0 where
  pub value : Value
  pub read : IsTextOfValue bytes value
  pub is : kind ≡ fact_kind (body_fact value.body)
  pub deep : depth ≡ value_depth value
  pub strict : (profile ≡ Strict) ↔ IsValue Strict value
