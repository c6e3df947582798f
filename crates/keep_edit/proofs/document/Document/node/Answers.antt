use Rattle.std.proofs.Common.{Option, subst, sym}
use Rattle.keep_edit_plan.proofs.Shared.{none_found, seen}
use Rattle.keep_edit.specs.NodeRefs.{FindsNode}
use Rattle.keep_edit.specs.declared.nodes.NodeRef.{NodeRef}
use Rattle.keep_edit.proofs.NodeRefLaws.{number_found_at}
use Rattle.keep_edit.proofs.document.Document.node.Goals as goal

pub returns-in_err-node : goal.returns-in_err-node
returns-in_err-node c = λ s read.
    subst (λ (o : Option NodeRef). FindsNode s c.args.path.now o) (sym c.from_residual.ensures)
    (none_found _ _ _ c.args.path.now s (seen c.self.view_is c.self.invariant) read _ c.in_err-node.was
    c.find.ensures.found)

pub returns : goal.returns
returns c = λ s read. record {
  of = read;
  numbered = number_found_at _ _ _ s (seen c.self.view_is c.self.invariant) read c.args.path.now _ c.in_ok-node.node
      c.in_ok-node.was c.find.ensures.found;
}
