use Rattle.keep_edit_plan.proofs.Shared.{seen}
use Rattle.keep_edit.proofs.NodeRefLaws.{counted, path_of, same_node, same_number, there}
use Rattle.keep_edit.proofs.document.Document.count_below.Goals as goal

pub returns-in-Some : goal.returns-in-Some
returns-in-Some c = λ s path read is.
    counted _ _ _ s (seen c.self.view_is c.self.invariant) read path c.in-Some.id _
    (same_node path s c.args.node c.in-Some.id
    (same_number c.args.node.0 _ _ _ c.in-Some.is c.node_at.ensures.found) is) c.child_count.ensures

pub returns-in-None : goal.returns-in-None
returns-in-None c = λ s path read is.
    absurd (there c.args.node.0 _ _ c.in-None.is c.node_at.ensures.found
    (path_of _ _ _ s (seen c.self.view_is c.self.invariant) read path c.args.node is).0)
