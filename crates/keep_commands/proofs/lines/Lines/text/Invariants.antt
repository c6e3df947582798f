-- The text has the lines before a number.
use Rattle.std.proofs.Common.{◌≡◌, ◌-◌, string_bytes, take}
use Rattle.keep_syntax.specs.Tree.{Document}
use Rattle.keep_edit.specs.Answers.{entries_of}
use Rattle.keep_edit.specs.Reading.{IsTextOfTree}
use Rattle.keep_commands.specs.Answer.{lines_of}
use Rattle.keep_commands.proofs.lines.Lines.text.Given as goal

abbrev pub invariant-loop-number : goal.invariant-loop-number
invariant-loop-number l = record {
  same : l.self.document ≡ l.fn.self.document;
  text : (s : Document) → IsTextOfTree l.fn.self.document s
      → string_bytes l.text ≡ lines_of (take l.number (entries_of s));
}

abbrev pub decreases-loop-number : goal.decreases-loop-number
decreases-loop-number l = l.count - l.number
