-- The edits before the next one are made, and the last one is not among them.
use Rattle.std.proofs.Common.{◌-◌, ◌≤◌, take}
use Rattle.keep_syntax.specs.Tree.{Document}
use Rattle.keep_edit.specs.Lists.{AreMade}
use Rattle.keep_edit.specs.Reading.{IsTextOfTree}
use Rattle.keep_edit.proofs.document.Document.apply_but_last.Given as goal

abbrev pub decreases-loop-first : goal.decreases-loop-first
decreases-loop-first l = l.last - l.first

abbrev pub invariant-loop-first : goal.invariant-loop-first
invariant-loop-first l =
    ((s : Document) → IsTextOfTree l.fn.self s → AreMade s (take l.first l.edits) l.fn.self l.self)
    × (l.first ≤ l.last)
