-- No node is below the new one, and where its value is refused, it is taken out as it was put in.
use Rattle.std.proofs.Common.{◌≡◌, [], ◌∷◌, ◌++◌, ◌∙◌, ap, ap₂, arith, length, subst, sym}
use Rattle.keep_path.specs.NodeInfos.{NodeInfos}
use Rattle.keep_path.specs.NodesBelow.{with_value}
use Rattle.keep_path.specs.Path.{key}
use Rattle.keep_index_store.specs.AllNodes.{AllNodes}
use Rattle.keep_index_store.specs.Below.{totals_in}
use Rattle.keep_index_store.specs.Children.{holding}
use Rattle.keep_index_store.specs.Facts.{info_of}
use Rattle.keep_index_store.specs.Inserted.{with_one}
use Rattle.keep_index_store.specs.Removed.{removed_nodes}
use Rattle.keep_index_store.specs.Stored.{IsStored, trie_of}
use Rattle.keep_index_store.specs.Tree.{TrieInfos, node_infos, tree_of}
use Rattle.keep_index_store.specs.Trie.{holds_at, path_at}
use Rattle.keep_index_store.proofs.InsertedValueLemmas.{infos_back, none_below, paths_back, root_back, root_then}
use Rattle.keep_index_store.proofs.InsertedValueLemmas.{stored_back}
use Rattle.keep_index_store.proofs.StoredLemmas.{length_trie_of}
use Rattle.keep_index_store.proofs.tree.Tree.insert_with_value.Goals as goal

removed : (c : goal.After-remove) → c.remove.new.self.items ≡ removed_nodes c.insert_leaf.new.nodes.items c.args.at
removed c =
    c.remove.ensures
    ∙ ap (λ (x : AllNodes). removed_nodes x.items c.args.at)
    (c.replace_value.ensures.refused c.if-not-replace_value.true)

pub invariant_of-self-then-not-replace_value : goal.invariant_of-self-then-not-replace_value
invariant_of-self-then-not-replace_value c =
    subst IsStored (sym (removed c))
    (stored_back c.self.inside.nodes.items c.insert_leaf.new.nodes.items c.args.at
    (path_at (trie_of c.self.inside.nodes.items) c.args.parent ++ key c.args.text.now ∷ [])
    (holding c.holds_of-holds.result) (info_of c.args.facts)
    (omega (
      arith,
      c.requires.within,
      ap (λ (x : TrieInfos). length x.trie) c.self.view_is,
      length_trie_of c.self.inside.nodes.items,
    ))
    (omega (arith, c.self.invariant.trie.root, length_trie_of c.self.inside.nodes.items))
    (c.insert_leaf.ensures.inserted c.if-not-insert_leaf.false))

pub returns-then-not-replace_value-clause-trie : goal.returns-then-not-replace_value-clause-trie
returns-then-not-replace_value-clause-trie c = (invariant_of-self-then-not-replace_value c).trie

pub returns-then-not-replace_value-clause-root : goal.returns-then-not-replace_value-clause-root
returns-then-not-replace_value-clause-root c =
    ap (λ ns. holds_at (trie_of ns) 0) (removed c)
    ∙ root_back c.self.inside.nodes.items c.insert_leaf.new.nodes.items c.args.at
    (path_at (trie_of c.self.inside.nodes.items) c.args.parent ++ key c.args.text.now ∷ [])
    (holding c.holds_of-holds.result) (info_of c.args.facts)
    (omega (
      arith,
      c.requires.within,
      ap (λ (x : TrieInfos). length x.trie) c.self.view_is,
      length_trie_of c.self.inside.nodes.items,
    ))
    (omega (arith, c.self.invariant.trie.root, length_trie_of c.self.inside.nodes.items))
    (c.insert_leaf.ensures.inserted c.if-not-insert_leaf.false)
    ∙ ap (λ (x : TrieInfos). holds_at x.trie 0) c.self.view_is

pub returns-then-not-replace_value-clause-refused : goal.returns-then-not-replace_value-clause-refused
returns-then-not-replace_value-clause-refused c done =
    ap (λ ns. node_infos (tree_of ns)) (removed c)
    ∙ ap₂ (λ ps is. let t : NodeInfos = record { paths = ps; infos = is } in t)
    (paths_back c.self.inside.nodes.items c.insert_leaf.new.nodes.items c.args.at
    (path_at (trie_of c.self.inside.nodes.items) c.args.parent ++ key c.args.text.now ∷ [])
    (holding c.holds_of-holds.result) (info_of c.args.facts)
    (omega (
      arith,
      c.requires.within,
      ap (λ (x : TrieInfos). length x.trie) c.self.view_is,
      length_trie_of c.self.inside.nodes.items,
    ))
    (omega (arith, c.self.invariant.trie.root, length_trie_of c.self.inside.nodes.items))
    (c.insert_leaf.ensures.inserted c.if-not-insert_leaf.false))
    (infos_back c.self.inside.nodes.items c.insert_leaf.new.nodes.items c.args.at
    (path_at (trie_of c.self.inside.nodes.items) c.args.parent ++ key c.args.text.now ∷ [])
    (holding c.holds_of-holds.result) (info_of c.args.facts)
    (omega (
      arith,
      c.requires.within,
      ap (λ (x : TrieInfos). length x.trie) c.self.view_is,
      length_trie_of c.self.inside.nodes.items,
    ))
    (omega (arith, c.self.invariant.trie.root, length_trie_of c.self.inside.nodes.items))
    (c.insert_leaf.ensures.inserted c.if-not-insert_leaf.false))
    ∙ ap node_infos c.self.view_is

pub returns-clause-inserted : goal.returns-clause-inserted
returns-clause-inserted c done =
    let inserted = c.insert_leaf.ensures.inserted c.if-not-insert_leaf.false in
    c.replace_value.ensures.replaced c.if-not-replace_value.false 0
    (none_below c.insert_leaf.new.nodes.items c.args.at inserted.leaf)
    ∙ ap (λ t.
    with_value t c.args.at 0 (totals_in c.args.value.old) (totals_in c.args.value.new) (node_infos c.args.value.inside)
    c.args.value.kind)
    (ap₂ (λ ps is. let t : NodeInfos = record { paths = ps; infos = is } in t) inserted.paths inserted.infos
    ∙ ap (λ (x : TrieInfos).
    with_one (node_infos x) c.args.at (path_at x.trie c.args.parent ++ key c.args.text.now ∷ []) (info_of c.args.facts))
    c.self.view_is)

pub returns-clause-root : goal.returns-clause-root
returns-clause-root c =
    c.replace_value.ensures.root
    ∙ root_then c.self.inside.nodes.items c.insert_leaf.new.nodes.items c.args.at
    (path_at (trie_of c.self.inside.nodes.items) c.args.parent ++ key c.args.text.now ∷ [])
    (holding c.holds_of-holds.result) (info_of c.args.facts)
    (omega (
      arith,
      c.requires.within,
      ap (λ (x : TrieInfos). length x.trie) c.self.view_is,
      length_trie_of c.self.inside.nodes.items,
    ))
    (omega (arith, c.self.invariant.trie.root, length_trie_of c.self.inside.nodes.items))
    (c.insert_leaf.ensures.inserted c.if-not-insert_leaf.false)
    ∙ ap (λ (x : TrieInfos). holds_at x.trie 0) c.self.view_is
