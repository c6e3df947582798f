use Rattle.std.proofs.Common.{◌-◌, ◌≤◌, length, take}
use Rattle.keep_syntax.specs.Tree.{Document}
use Rattle.keep_edit.specs.Lists.{AreMade}
use Rattle.keep_edit.specs.Reading.{ProfiledText}
use Rattle.keep_edit.proofs.document.Document.apply_from.Given as goal

abbrev pub decreases-loop-next : goal.decreases-loop-next
decreases-loop-next l = length l.edits - l.next

abbrev pub invariant-loop-next : goal.invariant-loop-next
invariant-loop-next l =
    ((s : Document) (old : ProfiledText) → AreMade s (take l.first l.edits) old l.fn.self
    → AreMade s (take l.next l.edits) old l.self)
    × (l.next ≤ length l.edits)
