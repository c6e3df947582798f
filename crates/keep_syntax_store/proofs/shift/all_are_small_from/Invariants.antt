use Rattle.std.proofs.Common.{drop}
use Rattle.std.specs.List.{AllByRecursion}
use Rattle.keep_syntax_store.proofs.shift.all_are_small_from.Given as goal

-- the one that they were joined into is small, and all from this number on are, exactly if all from `from` on are
abbrev pub invariant-items : goal.invariant-items
invariant-items g l =
    (g.T.Grow.IsSmallFrom l.at l.all × AllByRecursion (g.T.Grow.IsSmallFrom l.at) (drop l.number l.items)
    → AllByRecursion (g.T.Grow.IsSmallFrom l.at) (drop l.from l.items))
    × (AllByRecursion (g.T.Grow.IsSmallFrom l.at) (drop l.from l.items)
    → g.T.Grow.IsSmallFrom l.at l.all × AllByRecursion (g.T.Grow.IsSmallFrom l.at) (drop l.number l.items))
