use Rattle.std.proofs.Common.{◌≡◌, ◌<◌, ℕ, List, length, ap, subst, sym, ◌∙◌}
use Rattle.indexmap.proofs.MapLemmas.{OnOk-map}
use Rattle.keep_index_store.specs.AllNodes.{Node, no_node}
use Rattle.keep_index_store.specs.Trie.{holdings_of, paths_of, path_at}
use Rattle.keep_index_store.specs.Stored.{IsStored, trie_of}
use Rattle.keep_index_store.proofs.SetKeyLemmas.{IsKeyed, as_written, holdings_stay, infos_moved, key_fresh, number_low}
use Rattle.keep_index_store.proofs.SetKeyLemmas.{parent_keyed, parent_low, stored_moved}
use Rattle.std.specs.Prelude.{Contains}
use Rattle.keep_path.specs.Path.{EndsInKey, beside}
use Rattle.keep_path.specs.NodeInfos.{with_path}
use Rattle.keep_index_store.specs.Tree.{TrieInfos, tree_of, node_infos}
use Rattle.keep_index_store.proofs.TreeLemmas.{low, on_both}
use Rattle.keep_index_store.proofs.tree.Tree.set_key.Goals as goal

-- a node of the tree whose path ends in a key is one of the stored nodes, with such a path
keyed_node : (nodes : List Node) (seen : TrieInfos) (id : ℕ) → tree_of nodes ≡ seen → IsStored nodes
    → (id < length seen.trie) × EndsInKey (path_at seen.trie id) → IsKeyed nodes id
keyed_node nodes seen id view stored node = record {
  stored = stored;
  within = low nodes seen view stored id node.0;
  ends = subst (λ (t : TrieInfos). EndsInKey (path_at t.trie id)) (sym view) node.1;
}

node : (c : goal.After-set_child_key-arg-1) → IsKeyed c.self.inside.nodes.items c.args.id
node c =
    keyed_node c.self.inside.nodes.items c.args.self.now c.args.id c.self.view_is c.self.invariant c.requires.node

pub set_child_key-requires-clause-within : goal.set_child_key-requires-clause-within
set_child_key-requires-clause-within c =
    parent_low c.self.inside.nodes.items c.args.id no_node c.args.text.now (node c) c.parent-parent.result
    c.parent-parent.ensures

pub set_child_key-requires-clause-holds : goal.set_child_key-requires-clause-holds
set_child_key-requires-clause-holds c =
    parent_keyed c.self.inside.nodes.items c.args.id no_node c.args.text.now (node c) c.parent-parent.result
    c.parent-parent.ensures

pub set_child_key-requires-clause-counted : goal.set_child_key-requires-clause-counted
set_child_key-requires-clause-counted c =
    number_low c.self.inside.nodes.items c.args.id no_node c.args.text.now (node c) c.parent-parent.result
    c.number-number.result c.parent-parent.ensures c.number-number.ensures

pub set_child_key-requires-clause-fresh : goal.set_child_key-requires-clause-fresh
set_child_key-requires-clause-fresh c =
    key_fresh c.self.inside.nodes.items c.args.id no_node c.args.text.now (node c) c.parent-parent.result
    c.parent-parent.ensures (subst
    (λ (t : TrieInfos). Contains (paths_of t.trie) (beside (path_at t.trie c.args.id) c.args.text.now) → ⊥)
    (sym c.self.view_is) c.requires.fresh)

pub returns-clause-moved : goal.returns-clause-moved
returns-clause-moved c =
    let nodes : List Node = c.self.inside.nodes.items in
    let node : IsKeyed nodes c.args.id =
    keyed_node nodes c.args.self.now c.args.id c.self.view_is c.self.invariant c.requires.node in
    OnOk-map c.set_child_key.result _ _ (λ is.
    ap (λ (ns : List Node). node_infos (tree_of ns))
    (as_written nodes c.args.id no_node c.args.text.now node c.parent-parent.result c.number-number.result
    c.set_child_key.new.self.items c.parent-parent.ensures c.number-number.ensures is)
    ∙ infos_moved nodes c.args.id no_node c.args.text.now node
    ∙ ap (λ (t : TrieInfos).
    with_path (node_infos t) (path_at t.trie c.args.id) (beside (path_at t.trie c.args.id) c.args.text.now))
    c.self.view_is) c.set_child_key.ensures.ok

pub returns-clause-trie : goal.returns-clause-trie
returns-clause-trie c =
    let nodes : List Node = c.self.inside.nodes.items in
    let node : IsKeyed nodes c.args.id =
    keyed_node nodes c.args.self.now c.args.id c.self.view_is c.self.invariant c.requires.node in
    OnOk-map c.set_child_key.result _ _ (λ is.
    (subst IsStored (sym (as_written nodes c.args.id no_node c.args.text.now node c.parent-parent.result
    c.number-number.result c.set_child_key.new.self.items c.parent-parent.ensures c.number-number.ensures is))
    (stored_moved nodes c.args.id no_node c.args.text.now node
    (subst (λ (t : TrieInfos). Contains (paths_of t.trie) (beside (path_at t.trie c.args.id) c.args.text.now) → ⊥)
    (sym c.self.view_is) c.requires.fresh))).trie) c.set_child_key.ensures.ok

pub invariant_of-self : goal.invariant_of-self
invariant_of-self c =
    let nodes : List Node = c.self.inside.nodes.items in
    let node : IsKeyed nodes c.args.id =
    keyed_node nodes c.args.self.now c.args.id c.self.view_is c.self.invariant c.requires.node in
    on_both c.set_child_key.result (λ is.
    subst IsStored (sym (as_written nodes c.args.id no_node c.args.text.now node c.parent-parent.result
    c.number-number.result c.set_child_key.new.self.items c.parent-parent.ensures c.number-number.ensures is))
    (stored_moved nodes c.args.id no_node c.args.text.now node
    (subst (λ (t : TrieInfos). Contains (paths_of t.trie) (beside (path_at t.trie c.args.id) c.args.text.now) → ⊥)
    (sym c.self.view_is) c.requires.fresh))) (λ is. subst IsStored (sym is) c.self.invariant) c.set_child_key.ensures.ok
    c.set_child_key.ensures.err

pub returns-clause-holdings : goal.returns-clause-holdings
returns-clause-holdings c =
    let nodes : List Node = c.self.inside.nodes.items in
    let node : IsKeyed nodes c.args.id =
    keyed_node nodes c.args.self.now c.args.id c.self.view_is c.self.invariant c.requires.node in
    OnOk-map c.set_child_key.result _ _ (λ is.
    ap (λ (ns : List Node). holdings_of (trie_of ns))
    (as_written nodes c.args.id no_node c.args.text.now node c.parent-parent.result c.number-number.result
    c.set_child_key.new.self.items c.parent-parent.ensures c.number-number.ensures is)
    ∙ holdings_stay nodes c.args.id no_node c.args.text.now node
    ∙ ap (λ (t : TrieInfos). holdings_of t.trie) c.self.view_is) c.set_child_key.ensures.ok
