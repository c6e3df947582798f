-- The nodes so far have their entries.
use Rattle.std.proofs.Common.{◌≡◌}
use Rattle.keep_syntax.specs.Tree.{Document}
use Rattle.keep_edit.specs.Reading.{IsTextOfTree}
use Rattle.keep_edit.proofs.ListLaws.{entries_before}
use Rattle.keep_edit.proofs.document.Document.list.Given as goal

abbrev pub invariant-loop-number : goal.invariant-loop-number
invariant-loop-number l = (s : Document) → IsTextOfTree l.self s → l.entries.items ≡ entries_before s l.number
