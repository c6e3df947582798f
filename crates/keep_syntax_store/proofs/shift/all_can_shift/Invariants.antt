use Rattle.std.proofs.Common.{drop}
use Rattle.std.specs.List.{AllByRecursion}
use Rattle.keep_syntax_store.proofs.shift.all_can_shift.Given as goal

-- all from `from` on can be moved exactly if all from this number on can
abbrev pub invariant-items : goal.invariant-items
invariant-items g l =
    (AllByRecursion (g.T.Shift.CanShift l.old l.new) (drop l.number l.items)
    → AllByRecursion (g.T.Shift.CanShift l.old l.new) (drop l.from l.items))
    × (AllByRecursion (g.T.Shift.CanShift l.old l.new) (drop l.from l.items)
    → AllByRecursion (g.T.Shift.CanShift l.old l.new) (drop l.number l.items))
