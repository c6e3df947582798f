use Rattle.std.proofs.Common.{◌+◌, ◌*◌, ◌-◌, length}
use Rattle.keep_syntax_store.specs.Flat.{flat}
use Rattle.keep_syntax.proofs.NestingLaws.{SoFar}
use Rattle.keep_syntax.proofs.value.+nesting.Given as goal

abbrev pub decreases-bracket : goal.decreases-bracket
decreases-bracket l = 4 * (length l.text.now - l.at)

abbrev pub decreases-value : goal.decreases-value
decreases-value l = 4 * (length l.text.now - l.at) + 1

abbrev pub decreases-item : goal.decreases-item
decreases-item l = 4 * (length l.text.now - l.start.now.at) + 2

abbrev pub decreases-entries : goal.decreases-entries
decreases-entries l = 4 * (length l.text.now - l.start.now.at) + 3

-- what was read so far
abbrev pub invariant-entries-items : goal.invariant-entries-items
invariant-entries-items l =
    SoFar l.brackets l.limits.profile l.limits.depth l.text l.fn.start (flat l.fn.out) (flat l.out) l.here

abbrev pub decreases-entries-items : goal.decreases-entries-items
decreases-entries-items l = length l.text - l.here.at
