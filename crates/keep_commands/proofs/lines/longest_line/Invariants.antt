-- The lines before a number have room, and their lengths are added up.
use Rattle.std.proofs.Common.{◌≡◌, ◌<◌, ◌^◌, length, take}
use Rattle.keep_syntax.specs.Tree.{Document}
use Rattle.keep_edit.specs.Answers.{entries_of}
use Rattle.keep_edit.specs.Reading.{IsTextOfTree}
use Rattle.keep_commands.specs.Answer.{lines_of}
use Rattle.keep_commands.proofs.ListRooms.{FitBefore}
use Rattle.keep_commands.proofs.lines.longest_line.Given as goal

abbrev pub invariant-loop-number : goal.invariant-loop-number
invariant-loop-number l =
    (s : Document) → IsTextOfTree l.document s
    → FitBefore (entries_of s) l.number l.room l.longest
    × (l.total ≡ length (lines_of (take l.number (entries_of s)))) × (l.total < 2 ^ 64)
