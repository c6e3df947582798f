use Rattle.std.proofs.Common.{◌∙◌}
use Rattle.keep_edit_plan.proofs.Shared.{seen, none_found, one_found}
use Rattle.keep_edit.proofs.PathLaws.{no_kind, its_kind}
use Rattle.keep_edit.proofs.document.Document.kind.Goals as goal

pub returns-in_err-id-clause-kind : goal.returns-in_err-id-clause-kind
returns-in_err-id-clause-kind c = λ s read.
    c.from_residual.ensures
    ∙ no_kind _ s (none_found _ _ _ _ s (seen c.self.view_is c.self.invariant) read _ c.in_err-id.was
    c.find.ensures.found)

pub returns-clause-kind : goal.returns-clause-kind
returns-clause-kind c = λ s read.
    its_kind _ s _ (one_found _ _ _ _ s (seen c.self.view_is c.self.invariant) read _ _ _ c.in_ok-id.was
    c.find.ensures.found c.node.ensures)
