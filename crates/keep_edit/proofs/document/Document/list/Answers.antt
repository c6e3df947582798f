use Rattle.std.proofs.Common.{◌∙◌, arith}
use Rattle.keep_edit_plan.proofs.Shared.{seen}
use Rattle.keep_edit.proofs.ListLaws.{entries_none, entries_more, entries_all}
use Rattle.keep_edit.proofs.document.Document.list.Goals as goal

pub loop-number-init : goal.loop-number-init
loop-number-init c = λ s read. c.new-entries.ensures.items ∙ entries_none s

pub loop-number-preserved : goal.loop-number-preserved
loop-number-preserved c = λ s read.
    c.in_ok-push.ensures.items
    ∙ entries_more _ _ _ s c.loop-number.entries.items c.loop-number.number c.in_ok-path.path c.node-kind.result
    (seen c.self.view_is c.self.invariant) read
    (c.loop-number.invariant s read) (omega arith) (omega arith) c.in_ok-path.ensures c.node-kind.ensures

pub returns-clause-entries : goal.returns-clause-entries
returns-clause-entries c = λ s read.
    entries_all _ _ _ s c.loop-number.entries.items c.loop-number.number (seen c.self.view_is c.self.invariant) read
    (c.loop-number.invariant s read) (omega arith)
