use Rattle.std.proofs.Common.{◌∙◌}
use Rattle.keep_edit_plan.proofs.Shared.{seen}
use Rattle.keep_edit.proofs.ChildLaws.{all_children, no_children}
use Rattle.keep_edit.proofs.document.Document.child_count.Goals as goal

pub returns-in_err-id-clause-count : goal.returns-in_err-id-clause-count
returns-in_err-id-clause-count c = λ s read.
    c.from_residual.ensures
    ∙ no_children _ _ _ _ s (seen c.self.view_is c.self.invariant) read _ c.find.ensures.found c.in_err-id.was

pub returns-clause-count : goal.returns-clause-count
returns-clause-count c = λ s read.
    all_children _ _ _ _ s (seen c.self.view_is c.self.invariant) read _ c.find.ensures.found _ _ c.in_ok-id.was
    c.child_count.ensures
