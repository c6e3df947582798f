-- How many brackets of arrays and inline tables are open in the values of a list.
use Rattle.std.specs.Prelude.{ℕ, suc, ◌≤◌, max, if◌then◌else◌, List, [], ◌∷◌}
use Rattle.keep_types.specs.declared.syntax.ValueInfo.{ValueInfo}
use Rattle.keep_syntax.specs.Deep.{is_opening}

-- those that are open in a value, its own counted
abbrev pub open_in : ValueInfo → ℕ
open_in v = if is_opening v.leaf then suc v.depth else v.depth

-- a value with so many brackets open at most, its own counted
abbrev pub IsWithin : ℕ → ValueInfo → Type 0
IsWithin limit v = open_in v ≤ limit

-- the most of them
abbrev pub deepest : List ValueInfo → ℕ
deepest [] = 0
deepest (v ∷ vs) = max (open_in v) (deepest vs)
