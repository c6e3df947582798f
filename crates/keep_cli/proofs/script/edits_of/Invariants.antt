-- The edits so far.
use Rattle.std.proofs.Common.{◌≡◌, length}
use Rattle.keep_syntax.specs.Tree as tree
use Rattle.keep_edit.specs.Reading.{IsTextOfTree}
use Rattle.keep_cli.specs.Script.{AreEntries}
use Rattle.keep_cli.proofs.script.edits_of.Given as goal

abbrev pub invariant-loop-index : goal.invariant-loop-index
invariant-loop-index l =
    (length l.edits.items ≡ l.index)
    × ((s : tree.Document) → IsTextOfTree l.document s → AreEntries l.profile s 0 l.edits.items)
