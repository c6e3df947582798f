use Rattle.keep_edit_runs.proofs.ItemSteps.{AreItemsAdded}
use Rattle.keep_edit_runs.proofs.before.Before.items_by.Given as goal

abbrev pub invariant-loop-number : goal.invariant-loop-number
invariant-loop-number l = AreItemsAdded l.edits l.first l.number l.fn.self l.path l.items
