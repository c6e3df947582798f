use Rattle.std.proofs.Common.{◌-◌, length}
use Rattle.keep_syntax_store.specs.Flat.{flat}
use Rattle.keep_syntax.proofs.LineLoopLaws.{LinesSoFar}
use Rattle.keep_syntax.proofs.line.lines.Given as goal

abbrev pub invariant-lines : goal.invariant-lines
invariant-lines l =
    LinesSoFar l.limits.profile l.limits.depth l.text l.fn.begin l.at (flat l.fn.out) (flat l.out) l.fn.starts l.starts

abbrev pub decreases-lines : goal.decreases-lines
decreases-lines l = length l.text - l.at
