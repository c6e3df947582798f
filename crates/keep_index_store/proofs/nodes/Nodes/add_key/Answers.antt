use Rattle.std.proofs.Common.{◌∷◌, ◌++◌, [], List, length, ap, ◌∙◌}
use Rattle.keep_index_store.specs.AllNodes.{Node, no_node, node_at, with_children, and_key}
use Rattle.keep_index_store.specs.Children.{child_named, holding, holds_of, no_children}
use Rattle.keep_index_store.proofs.StoredLemmas.{above_pushed, linked}
use Rattle.keep_index_store.proofs.nodes.Nodes.add_key.Goals as goal

pub link_key-requires-clause-holds : goal.link_key-requires-clause-holds
link_key-requires-clause-holds c =
    ap (λ (x : Node). holds_of x.children)
    (above_pushed c.args.self.now.items c.push.new.self.items c.args.parent no_node _ c.requires.within
    c.in_ok-push.ensures.ok) ∙ c.requires.keyed

pub link_key-requires-clause-fresh : goal.link_key-requires-clause-fresh
link_key-requires-clause-fresh c =
    ap (λ (x : Node). child_named x.children c.args.text.now)
    (above_pushed c.args.self.now.items c.push.new.self.items c.args.parent no_node _ c.requires.within
    c.in_ok-push.ensures.ok) ∙ c.requires.fresh

pub returns-clause-ok : goal.returns-clause-ok
returns-clause-ok c =
    let nodes : List Node = c.args.self.now.items in
    let pushed : List Node = c.push.new.self.items in
    let new : Node =
    record {
      parent = c.args.parent;
      number = c.child_count-number.result;
      children = no_children (holding c.args.holds);
      facts = c.args.facts;
    } in
    c.in_default.ensures.ok
    ∙ ap (λ (x : Node). with_children pushed c.args.parent (and_key x.children c.args.text.now c.len-id.result))
    (above_pushed nodes pushed c.args.parent no_node new c.requires.within c.in_ok-push.ensures.ok)
    ∙ linked nodes pushed c.args.parent no_node
    (and_key (node_at nodes c.args.parent).children c.args.text.now c.len-id.result) new c.requires.within
    c.in_ok-push.ensures.ok
    ∙ ap (λ n.
    with_children nodes c.args.parent (and_key (node_at nodes c.args.parent).children c.args.text.now n) ++ new ∷ [])
    c.len-id.ensures
    ∙ ap (λ n. let own : Node =
    record {
      parent = c.args.parent;
      number = n;
      children = no_children (holding c.args.holds);
      facts = c.args.facts;
    } in with_children nodes c.args.parent
    (and_key (node_at nodes c.args.parent).children c.args.text.now (length nodes)) ++ own ∷ [])
    c.child_count-number.ensures
