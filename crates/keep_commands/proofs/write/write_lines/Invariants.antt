-- The lines before a number are written.
use Rattle.std.proofs.Common.{◌≡◌, ◌-◌, false, length, take}
use Rattle.std.specs.Io.KnownBytes.{Appends}
use Rattle.keep_syntax.specs.Tree.{Document}
use Rattle.keep_edit.specs.Answers.{entries_of}
use Rattle.keep_edit.specs.Reading.{IsTextOfTree}
use Rattle.keep_commands.specs.Answer.{lines_of}
use Rattle.keep_commands.proofs.write.write_lines.Given as goal

abbrev pub invariant-loop-number : goal.invariant-loop-number
invariant-loop-number g l = record {
  going : l.output.failed ≡ false;
  same : l.lines.document ≡ l.fn.lines.document;
  written : (s : Document) → IsTextOfTree l.fn.lines.document s
      → (l.written ≡ length (lines_of (take l.number (entries_of s))))
      × Appends (g.W.Write.contents l.fn.output.inner) (g.W.Write.contents l.output.inner)
      (lines_of (take l.number (entries_of s)));
  silent : l.written ≡ 0 → l.output.calls ≡ l.fn.output.calls;
}

abbrev pub decreases-loop-number : goal.decreases-loop-number
decreases-loop-number g l = l.count - l.number
