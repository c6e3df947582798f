-- What was pushed is linked.
use Rattle.std.proofs.Common.{List, ◌∷◌, ◌++◌, [], ◌∙◌, ap}
use Rattle.keep_index_store.specs.AllNodes.{Node, and_item, no_node, node_at, with_children}
use Rattle.keep_index_store.specs.Children.{ChildList, holds_of, no_children}
use Rattle.keep_index_store.specs.Trie.{by_key}
use Rattle.keep_index_store.proofs.StoredLemmas.{above_pushed, linked}
use Rattle.keep_index_store.proofs.nodes.Nodes.add_element.Goals as goal

pub link_item-requires-clause-holds : goal.link_item-requires-clause-holds
link_item-requires-clause-holds c =
    ap (λ (x : Node). holds_of x.children)
    (above_pushed c.args.self.now.items c.push.new.self.items c.args.array no_node _ c.requires.within
    c.in_ok-push.ensures.ok) ∙ c.requires.listed

pub returns-clause-ok : goal.returns-clause-ok
returns-clause-ok c =
    let nodes : List Node = c.args.self.now.items in
    let pushed : List Node = c.push.new.self.items in
    let row : Node =
    record { parent = c.args.array; number = 0; children = no_children by_key; facts = c.args.facts } in
    let above : ChildList = (node_at nodes c.args.array).children in
    c.in_default.ensures.ok
    ∙ ap (λ (x : Node). with_children pushed c.args.array (and_item x.children c.len-id.result))
    (above_pushed nodes pushed c.args.array no_node row c.requires.within c.in_ok-push.ensures.ok)
    ∙ linked nodes pushed c.args.array no_node (and_item above c.len-id.result) row c.requires.within
    c.in_ok-push.ensures.ok
    ∙ ap (λ n. with_children nodes c.args.array (and_item above n) ++ row ∷ []) c.len-id.ensures
