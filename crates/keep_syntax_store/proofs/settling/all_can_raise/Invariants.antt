use Rattle.std.proofs.Common.{drop}
use Rattle.std.specs.List.{AllByRecursion}
use Rattle.keep_syntax_store.proofs.settling.all_can_raise.Given as goal

-- all can be moved on exactly if all from this number on can
abbrev pub invariant-items : goal.invariant-items
invariant-items g l =
    (AllByRecursion (g.T.Entry.CanRaise l.by) (drop l.number l.items)
    → AllByRecursion (g.T.Entry.CanRaise l.by) l.items)
    × (AllByRecursion (g.T.Entry.CanRaise l.by) l.items
    → AllByRecursion (g.T.Entry.CanRaise l.by) (drop l.number l.items))
