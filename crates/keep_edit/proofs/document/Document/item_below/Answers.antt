use Rattle.keep_edit_plan.proofs.Shared.{seen}
use Rattle.keep_edit.proofs.NodeRefLaws.{item_found, path_of, same_node, same_number, there}
use Rattle.keep_edit.proofs.document.Document.item_below.Goals as goal

pub returns-in_err-id : goal.returns-in_err-id
returns-in_err-id c = λ s path read is.
    absurd (there c.args.node.0 _ _ c.in_err-id.was c.node_at.ensures.found
    (path_of _ _ _ s (seen c.self.view_is c.self.invariant) read path c.args.node is).0)

pub returns : goal.returns
returns c = λ s path read is.
    item_found _ _ _ s (seen c.self.view_is c.self.invariant) read path c.in_ok-id.id c.args.number c.step.result
    (same_node path s c.args.node c.in_ok-id.id (same_number c.args.node.0 _ _ _ c.in_ok-id.was c.node_at.ensures.found)
    is) c.step.ensures.node.found c.step.ensures.none
