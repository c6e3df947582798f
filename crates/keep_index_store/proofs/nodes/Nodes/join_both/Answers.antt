-- The second's facts are made, then the first's are joined, and then the second's are stored.
use Rattle.std.proofs.Common.{◌∙◌, ap, List, Option}
use Rattle.keep_types.specs.declared.role.Role.{Role}
use Rattle.keep_index_store.specs.AllNodes.{Node, node_at, with_facts}
use Rattle.keep_index_store.specs.declared.facts.NodeFacts.{NodeFacts}
use Rattle.keep_index_store.specs.Facts.{joined_facts}
use Rattle.keep_index_store.proofs.nodes.Nodes.join_both.Goals as goal

pub returns-clause-ok : goal.returns-clause-ok
returns-clause-ok c =
    let nodes = c.args.self.now.items in
    let own = (node_at nodes c.args.first).facts in
    let with_role : Option Role → List Node =
    λ r. with_facts nodes c.args.first (record (joined_facts own c.args.more) { role = r }) in
    c.set_facts.ensures
    ∙ ap (λ (ns : List Node). with_facts ns c.args.second c.in_ok-joined.joined)
    (c.in_ok-join_facts.ensures.ok ∙ ap with_role c.role-role.ensures)
    ∙ ap (λ (t : NodeFacts). with_facts (with_facts nodes c.args.first (joined_facts own c.args.more)) c.args.second t)
    c.in_ok-joined.ensures
