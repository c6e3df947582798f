-- It is the last of the blocks so far whose header goes through the table.
use Rattle.std.proofs.Common.{take}
use Rattle.keep_edit_runs.proofs.BlockLaws.{LastOf}
use Rattle.keep_edit_runs.proofs.tail.Tail.last_through.Given as goal

abbrev pub invariant-loop-number : goal.invariant-loop-number
invariant-loop-number l = LastOf (take l.number l.self.blocks.items) l.table l.last
