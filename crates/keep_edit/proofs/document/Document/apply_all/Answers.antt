use Rattle.keep_edit.proofs.FoldLaws.{nothing_made}
use Rattle.keep_edit.proofs.document.Document.apply_all.Goals as goal

pub returns-then-is_empty-clause-done : goal.returns-then-is_empty-clause-done
returns-then-is_empty-clause-done c = λ s h. nothing_made s c.args.edits.now c.args.self.now c.if-is_empty.ensures h

pub returns-clause-done : goal.returns-clause-done
returns-clause-done c = λ s h. rw c.drop.view_is (c.in_ok-self-inside.ensures.done s h)
