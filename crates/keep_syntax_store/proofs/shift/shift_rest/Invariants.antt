use Rattle.std.proofs.Common.{◌≡◌, ◌++◌, length, take, drop, map}
use Rattle.std.specs.List.{AllByRecursion}
use Rattle.keep_syntax_store.proofs.shift.shift_rest.Given as goal

abbrev pub invariant-items : goal.invariant-items
invariant-items g l =
    (take l.number l.items ++ map (g.T.Shift.shifted l.old l.new) (drop l.number l.items) ≡ take l.from l.fn.items
    ++ map (g.T.Shift.shifted l.old l.new) (drop l.from l.fn.items))
    × (length l.items ≡ length l.fn.items) × AllByRecursion (g.T.Shift.CanShift l.old l.new) (drop l.number l.items)
