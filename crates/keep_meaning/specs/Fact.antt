-- What is at a path, with what it means.
use Rattle.std.specs.Prelude.{ℕ, ℤ, Bool, true, false, List}
use Rattle.keep_types.specs.declared.leaf.Leaf.{Leaf}

pub data Fact : Type 0 where
  string : (value : List ℕ) → Fact
  integer : (value : ℤ) → Fact
  boolean : (value : Bool) → Fact
  float : (text : List ℕ) → Fact  -- its text is its value
  moment : (kind : Leaf) (text : List ℕ) → Fact  -- of a date, a time or both: kind and text
  array : Fact
  inline : Fact
  table : Fact

-- what is stated by the text of a value: all but a table of headers
abbrev pub is_value_fact : Fact → Bool
is_value_fact table = false
is_value_fact _ = true

-- an array or an inline table
abbrev pub is_bracket : Fact → Bool
is_bracket array = true
is_bracket inline = true
is_bracket _ = false
