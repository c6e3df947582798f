use Rattle.std.proofs.Common.{List, ℕ}
use Rattle.std.specs.List.{AllByRecursion}
use Rattle.keep_syntax_store.specs.Starts.{CanMoveOn, IsMilestone}
use Rattle.keep_syntax_store.proofs.starts.moved_milestones.Given as goal

abbrev pub invariant-milestones : goal.invariant-milestones
invariant-milestones l =
    (steps far : List ℕ) → AllByRecursion (CanMoveOn l.low l.high l.at steps far) l.milestones
    → AllByRecursion (IsMilestone steps far) l.out.items
