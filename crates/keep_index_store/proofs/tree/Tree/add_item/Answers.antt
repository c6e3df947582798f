use Rattle.std.proofs.Common.{◌≡◌, ◌∷◌, ◌++◌, [], List, length, ap, sym, refl, ◌∙◌, subst, None}
use Rattle.keep_index_store.specs.AllNodes.{Node, no_node, node_at, with_children, and_item}
use Rattle.keep_path.specs.Path.{index}
use Rattle.keep_index_store.specs.Children.{ChildList, holding, no_children, holds_of, child_ids}
use Rattle.keep_index_store.specs.Trie.{by_index, children_of, paths_of, path_at}
use Rattle.keep_index_store.specs.Stored.{trie_of, IsStored, infos_of}
use Rattle.keep_index_store.proofs.StoredLemmas.{IsAdded, above_pushed, linked, with_one, no_names, item_step, none_ids}
use Rattle.keep_index_store.proofs.StoredLemmas.{none_holds, grows_with, stored_added, infos_added}
use Rattle.std.specs.Prelude.{Contains}
use Rattle.keep_index_store.specs.Facts.{info_of}
use Rattle.keep_index_store.specs.Growth.{Grows}
use Rattle.keep_index_store.specs.Tree.{TrieInfos}
use Rattle.keep_index_store.proofs.TreeLemmas.{low, holds_seen, next_fresh}
use Rattle.keep_index_store.proofs.tree.Tree.add_item.Goals as goal

pub link_item-requires-clause-holds : goal.link_item-requires-clause-holds
link_item-requires-clause-holds c =
    let nodes : List Node = c.self.inside.nodes.items in
    ap (λ (x : Node). holds_of x.children)
    (above_pushed nodes c.push.new.self.items c.args.parent no_node _
    (low c.self.inside.nodes.items c.args.self.now c.self.view_is c.self.invariant c.args.parent c.requires.within)
    c.in_ok-push.ensures.ok)
    ∙ holds_seen c.self.inside.nodes.items c.args.self.now c.self.view_is c.self.invariant c.args.parent
    c.requires.within ∙ c.requires.listed

new : goal.In_default → Node
new c = record {
  parent = c.args.parent;
  number = c.child_count-number.result;
  children = no_children (holding c.args.holds);
  facts = record c.args.facts { role = None };
}

kids : goal.In_default → ChildList
kids c = and_item (node_at c.self.inside.nodes.items c.args.parent).children c.len-id.result

added : (c : goal.In_default)
    → IsAdded c.self.inside.nodes.items c.args.parent no_node (kids c) (new c)
    (index (length (children_of (trie_of c.self.inside.nodes.items) c.args.parent)))
unfolding new kids
added c =
    let nodes : List Node = c.self.inside.nodes.items in
    let above : ChildList = (node_at nodes c.args.parent).children in
    let listed : holds_of above ≡ by_index =
    holds_seen c.self.inside.nodes.items c.args.self.now c.self.view_is c.self.invariant c.args.parent c.requires.within
    ∙ c.requires.listed in
    record {
      stored = c.self.invariant;
      within =
          low c.self.inside.nodes.items c.args.self.now c.self.view_is c.self.invariant c.args.parent c.requires.within;
      holds = sym listed;
      ids = ap (λ n. child_ids above ++ n ∷ []) c.len-id.ensures;
      names = [];
      named_is = sym (ap (λ ns. ns ++ []) (no_names above listed));
      parent_is = refl;
      last = c.child_count-number.ensures;
      step = item_step (kids c) c.child_count-number.result _ refl
          (c.child_count-number.ensures
          ∙ ap length (c.self.invariant.kids c.args.parent no_node
          (low c.self.inside.nodes.items c.args.self.now c.self.view_is c.self.invariant c.args.parent
          c.requires.within)));
      bare = none_ids (holding c.args.holds);
    }

items : (c : goal.In_default)
    → c.link_item.new.self.items ≡ with_one c.self.inside.nodes.items c.args.parent no_node (kids c) (new c)
unfolding new kids
items c =
    let nodes : List Node = c.self.inside.nodes.items in
    let pushed : List Node = c.push.new.self.items in
    c.in_default.ensures.ok
    ∙ ap (λ (x : Node). with_children pushed c.args.parent (and_item x.children c.len-id.result))
    (above_pushed nodes pushed c.args.parent no_node (new c)
    (low c.self.inside.nodes.items c.args.self.now c.self.view_is c.self.invariant c.args.parent c.requires.within)
    c.in_ok-push.ensures.ok)
    ∙ linked nodes pushed c.args.parent no_node (kids c) (new c)
    (low c.self.inside.nodes.items c.args.self.now c.self.view_is c.self.invariant c.args.parent c.requires.within)
    c.in_ok-push.ensures.ok

-- no node has the path yet
fresh : (c : goal.In_default)
    → Contains (paths_of (trie_of c.self.inside.nodes.items))
    (path_at (trie_of c.self.inside.nodes.items) c.args.parent
    ++ index (length (children_of (trie_of c.self.inside.nodes.items) c.args.parent)) ∷ []) → ⊥
fresh c =
    next_fresh c.self.inside.nodes.items c.self.invariant c.args.parent
    (low c.self.inside.nodes.items c.args.self.now c.self.view_is c.self.invariant c.args.parent c.requires.within)

pub returns-clause-grows : goal.returns-clause-grows
unfolding new kids
returns-clause-grows c =
    let after : List Node = c.link_item.new.self.items in
    subst (λ (t : TrieInfos).
    Grows t.trie (trie_of after) c.args.parent
    (path_at t.trie c.args.parent ++ index (length (children_of t.trie c.args.parent)) ∷ []) (None)
    (holding c.args.holds)) c.self.view_is
    (grows_with _ _ _ _ _ _ _ _ (added c) (fresh c) (items c) (none_holds (holding c.args.holds)))

pub invariant_of-self-in_default : goal.invariant_of-self-in_default
invariant_of-self-in_default c = subst IsStored (sym (items c)) (stored_added _ _ _ _ _ _ (added c) (fresh c))

pub returns-clause-infos : goal.returns-clause-infos
unfolding new kids
returns-clause-infos c =
    ap infos_of (items c) ∙ infos_added c.self.inside.nodes.items c.args.parent no_node (kids c) (new c)
    ∙ ap (λ (t : TrieInfos). t.infos ++ info_of c.args.facts ∷ []) c.self.view_is
