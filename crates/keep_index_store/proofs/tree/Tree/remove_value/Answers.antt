-- The nodes below the one of the line went, and it went; the paths tell as many as the run of those nodes did.
use Rattle.std.proofs.Common.{◌≡◌, ℕ, length, map, refl, ◌∙◌, ap, subst}
use Rattle.keep_types.specs.declared.node.Kind.TheVariants as kind
use Rattle.keep_path.specs.NodeInfos.{LineNumbers, earlier_number, root_infos, without_node}
use Rattle.keep_path.specs.NodesBelow.{AreBelow, Totals, with_value}
use Rattle.keep_index_store.specs.Below.{replaced_below, totals_in, with_shifted_facts}
use Rattle.keep_index_store.specs.Removed.{removed_nodes}
use Rattle.keep_index_store.specs.Renumbering.{numbers_of, renumbered_node}
use Rattle.keep_index_store.specs.Tree.{TrieInfos, node_infos, tree_of}
use Rattle.keep_index_store.specs.Trie.{IsTrie, paths_of}
use Rattle.keep_index_store.proofs.DotsLeftLemmas.{above_left, below_run, count_infos, givers_left, nodes_left}
use Rattle.keep_index_store.proofs.DotsLeftLemmas.{small_left}
use Rattle.keep_index_store.proofs.RemovedValueLemmas.{alone_there, root_there, stored_there, value_gone}
use Rattle.keep_index_store.proofs.tree.Tree.remove_value.Goals as goal

pub take_out-requires-clause-alone : goal.take_out-requires-clause-alone
take_out-requires-clause-alone c = alone_there c.root.inside.nodes.items _ _ c.root.view_is c.in-Ok.ensures

-- the nodes then
items_then : (c : goal.After-renumber_earlier)
    → c.renumber_earlier.new.self.items ≡ map (renumbered_node earlier_number c.args.line) (removed_nodes
    (replaced_below (map (with_shifted_facts c.in-Some-value_shifts.by.beside) c.self.inside.nodes.items) c.args.id
    c.in-Some.gone (map (with_shifted_facts c.in-Some-value_shifts.by.inside) c.root.inside.nodes.items)) c.args.id)
items_then c =
    c.renumber_earlier.ensures
    ∙ ap (map (renumbered_node earlier_number c.args.line)) (c.if-not-take_out.ensures.removed refl)

pub invariant_of-self-2 : goal.invariant_of-self-2
invariant_of-self-2 c =
    stored_there _ _ _ _ c.in-Some.ensures.run c.root.invariant
    (alone_there c.root.inside.nodes.items _ _ c.root.view_is c.in-Ok.ensures) _ _ c.args.line _ (items_then c)

pub returns-clause-removed : goal.returns-clause-removed
returns-clause-removed c =
    value_gone _ _ _ _ c.in-Some.ensures.run c.root.invariant
    (alone_there c.root.inside.nodes.items _ _ c.root.view_is c.in-Ok.ensures) _ _ c.args.line _ (items_then c) _ _
    c.self.view_is c.root.view_is _ c.args.old c.args.bare c.info.ensures c.in-Some-value_shifts.ensures.beside
    c.in-Some-value_shifts.ensures.inside c.in-Ok.ensures.facts

pub returns-clause-trie : goal.returns-clause-trie
returns-clause-trie c =
    (stored_there _ _ _ _ c.in-Some.ensures.run c.root.invariant
    (alone_there c.root.inside.nodes.items _ _ c.root.view_is c.in-Ok.ensures) _ _ c.args.line _ (items_then c)).trie

pub returns-clause-root : goal.returns-clause-root
returns-clause-root c =
    root_there _ _ _ _ c.in-Some.ensures.run c.root.invariant
    (alone_there c.root.inside.nodes.items _ _ c.root.view_is c.in-Ok.ensures) _ _ c.args.line _ (items_then c) _ _
    c.self.view_is c.root.view_is

pub returns-clause-tables : goal.returns-clause-tables
returns-clause-tables c =
    let t : TrieInfos = c.args.self.now in
    let items = c.renumber_earlier.new.self.items in
    let u : TrieInfos = tree_of items in
    let id : ℕ = c.args.id in
    let gone : ℕ = c.in-Some.gone in
    let nodes = c.self.inside.nodes.items in
    let below : AreBelow (paths_of t.trie) id gone =
    subst (λ (x : TrieInfos). AreBelow (paths_of x.trie) id gone) c.self.view_is
    (below_run nodes id gone c.in-Some.ensures.run) in
    let trie : IsTrie t.trie = subst (λ (x : TrieInfos). IsTrie x.trie) c.self.view_is c.self.invariant.trie in
    let alone : length c.root.inside.nodes.items ≡ 1 =
    alone_there c.root.inside.nodes.items _ _ c.root.view_is c.in-Ok.ensures in
    let then : IsTrie u.trie =
    (stored_there _ _ _ _ c.in-Some.ensures.run c.root.invariant alone _ _ c.args.line _ (items_then c)).trie in
    let many : length t.infos ≡ length t.trie = count_infos nodes t c.self.view_is in
    let old : Totals = totals_in c.args.old in
    let bare : Totals = totals_in c.args.bare in
    let line : LineNumbers = numbers_of c.args.line in
    let is : node_infos u ≡ without_node (with_value (node_infos t) id gone old bare root_infos kind.Table) id line =
    value_gone _ _ _ _ c.in-Some.ensures.run c.root.invariant alone _ _ c.args.line _ (items_then c) _ _
    c.self.view_is c.root.view_is _ c.args.old c.args.bare c.info.ensures c.in-Some-value_shifts.ensures.beside
    c.in-Some-value_shifts.ensures.inside c.in-Ok.ensures.facts gone kind.Table below in
    record {
      within = nodes_left t u id gone old bare kind.Table line trie then many c.requires is;
      givers = givers_left t u id gone old bare kind.Table line trie then many c.requires is;
      above = above_left t u id gone old bare kind.Table line trie then many c.requires is;
      small = small_left t u id gone old bare kind.Table line trie then many c.requires is;
    }
