-- How deep arrays and inline tables may enclose one another, where nothing else is asked for.
use Rattle.std.specs.Prelude.{ℕ}

-- a value itself counted
abbrev pub standard_depth : ℕ
standard_depth = 128
