-- Which profile's grammar a value is of, as a test on its text.
use Rattle.std.specs.Prelude.{Bool, true, is_ok}
use Rattle.keep_types.specs.declared.leaf.Profile.{Profile}
use Rattle.keep_types.specs.declared.leaf.Profile.TheVariants.{Strict, Wide}
use Rattle.keep_syntax.specs.Tree.{Value, value_text, value_depth}
use Rattle.keep_syntax.specs.Reading.{read_one_value}

-- Its text is read as TOML v1.0.0.
abbrev pub is_strict : Value → Bool
is_strict v = is_ok (read_one_value Strict (value_depth v) (value_text v))

-- For a value of Wide's grammar: this profile's grammar has it too. (Wide's has all of Strict's.)
abbrev pub is_allowed_in : Profile → Value → Bool
is_allowed_in Strict v = is_strict v
is_allowed_in Wide v = true
