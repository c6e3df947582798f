use Rattle.std.proofs.Common.{◌≡◌, ◌++◌, length, take, drop, map}
use Rattle.std.specs.List.{AllByRecursion}
use Rattle.keep_syntax_store.proofs.settling.raise_all.Given as goal

-- those before this number are moved on, and the others are as they were
abbrev pub invariant-items : goal.invariant-items
invariant-items g l =
    (map g.T.Entry.unpacked (take l.number l.items)
    ++ map (g.T.Entry.raise l.by) (map g.T.Entry.unpacked (drop l.number l.items))
    ≡ map (g.T.Entry.raise l.by) (map g.T.Entry.unpacked l.fn.items))
    × (length l.items ≡ length l.fn.items) × AllByRecursion (g.T.Entry.CanRaise l.by) (drop l.number l.items)
