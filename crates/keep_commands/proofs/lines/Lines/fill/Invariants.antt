-- The block has the lines from the first number to this one, and the room that it had.
use Rattle.std.proofs.Common.{◌≡◌, ◌-◌, ◌≤◌, ◌++◌, length, take, string_bytes, string_capacity}
use Rattle.keep_syntax.specs.Tree.{Document}
use Rattle.keep_edit.specs.Answers.{entries_of}
use Rattle.keep_edit.specs.Reading.{IsTextOfTree}
use Rattle.keep_commands.specs.Answer.{lines_of}
use Rattle.keep_commands.specs.Lines.{HasBlockRoom}
use Rattle.keep_commands.proofs.lines.Lines.fill.Given as goal

abbrev pub invariant-loop-next : goal.invariant-loop-next
invariant-loop-next l = record {
  same : l.self-inside.document ≡ l.fn.self.document;
  least : l.number ≤ l.next;
  none : l.next ≡ l.number → length (string_bytes l.self-inside.block) ≡ 0;
  lines : (s : Document) → IsTextOfTree l.fn.self.document s
      → lines_of (take l.number (entries_of s)) ++ string_bytes l.self-inside.block
      ≡ lines_of (take l.next (entries_of s));
  room : (s : Document) → IsTextOfTree l.fn.self.document s
      → HasBlockRoom s l.self-inside.room (string_capacity l.self-inside.block);
}

abbrev pub decreases-loop-next : goal.decreases-loop-next
decreases-loop-next l = l.count - l.next
