use Rattle.std.proofs.Common.{◌≡◌, ◌∷◌, ◌++◌, [], List, ap, ◌∙◌, arith, length, length-append}
use Rattle.keep_index_store.specs.AllNodes.{Node}
use Rattle.keep_index_store.specs.declared.facts.NodeFacts.{NodeFacts}
use Rattle.keep_index_store.specs.declared.links.ParentLink.{ParentLink}
use Rattle.keep_index_store.specs.declared.nodes.Node.{Node as StoredNode}
use Rattle.keep_index_store.specs.Children.{ChildList, holding, no_children}
use Rattle.keep_index_store.specs.NodeRows.{node_rows}
use Rattle.keep_index_store.proofs.NodeRowLemmas.{node_pushed}
use Rattle.keep_index_store.proofs.nodes.Nodes.push.Goals as goal

-- the parent link of the new node
link : goal.After-push_reserved → ParentLink
link c = record { parent = c.args.parent; number = c.args.number }

-- the lists then
nodes : (c : goal.After-push_reserved)
    → c.push_reserved.new.self.items ≡ c.self.inside.list.items ++ c.in_ok-node.node ∷ []
nodes c =
    c.push_reserved.ensures.items
    ∙ ap (λ (ns : List StoredNode). ns ++ c.in_ok-node.node ∷ []) c.in_ok-reserve.ensures.items

links : (c : goal.After-push_reserved) → c.push.new.self ≡ c.self.inside.links ++ link c ∷ []
unfolding link
links c = c.in_ok-push.ensures.ok

pub invariant_of-self-2 : goal.invariant_of-self-2
invariant_of-self-2 c =
    omega (
      arith,
      c.self.invariant,
      ap (λ (ns : List StoredNode). length ns) (nodes c),
      ap (λ (hs : List ParentLink). length hs) (links c),
      length-append c.self.inside.list.items (c.in_ok-node.node ∷ []),
      length-append c.self.inside.links (link c ∷ []),
    )

pub returns-clause-ok : goal.returns-clause-ok
unfolding link
returns-clause-ok c =
    ap (λ (ns : List StoredNode). node_rows ns c.push.new.self) (nodes c)
    ∙ ap (node_rows (c.self.inside.list.items ++ c.in_ok-node.node ∷ [])) (links c)
    ∙ node_pushed _ _ _ c.self.view_is c.self.invariant c.in_ok-node.node (link c)
    ∙ ap (λ (k : ChildList). let r : Node =
    record { parent = c.args.parent; number = c.args.number; children = k; facts = c.in_ok-node.node.facts } in
    c.args.self.now.items ++ r ∷ []) c.in_ok-node.ensures.children
    ∙ ap (λ (t : NodeFacts). let r : Node =
    record {
      parent = c.args.parent;
      number = c.args.number;
      children = no_children (holding c.args.holds);
      facts = t;
    } in c.args.self.now.items ++ r ∷ []) c.in_ok-node.ensures.facts
