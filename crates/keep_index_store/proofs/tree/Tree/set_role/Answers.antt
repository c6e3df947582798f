use Rattle.std.proofs.Common.{slice_set, List, ap, sym, refl, ◌∙◌, subst, Some}
use Rattle.indexmap.proofs.MapLemmas.{OnOk-map}
use Rattle.keep_types.specs.declared.node.NodeInfo.{NodeInfo}
use Rattle.keep_index_store.specs.AllNodes.{Node, no_node, node_at}
use Rattle.keep_index_store.specs.Growth.{Restates}
use Rattle.keep_index_store.specs.Stored.{IsStored, trie_of, infos_of}
use Rattle.keep_index_store.specs.Facts.{joined_facts, joined_info, info_of}
use Rattle.keep_index_store.proofs.PackedLemmas.{info_joined}
use Rattle.keep_index_store.proofs.StoredLemmas.{IsChanged, restates_changed, stored_changed, infos_changed}
use Rattle.keep_index_store.specs.Tree.{TrieInfos, info_at}
use Rattle.keep_index_store.proofs.TreeLemmas.{low, on_both}
use Rattle.keep_index_store.proofs.tree.Tree.set_role.Goals as goal

old : goal.After-join_facts → Node
old c = node_at c.self.inside.nodes.items c.args.id

changed : goal.After-join_facts → Node
changed c = record (old c) { facts = record (joined_facts (old c).facts c.args.more) { role = Some c.args.role } }

is_changed : (c : goal.After-join_facts) → IsChanged c.self.inside.nodes.items c.args.id no_node (changed c)
unfolding old changed
is_changed c =
    record {
      stored = c.self.invariant;
      within = (low c.self.inside.nodes.items c.args.self.now c.self.view_is c.self.invariant c.args.id c.requires);
      parent = refl;
      number = refl;
      children = refl;
    }

pub returns-clause-restates : goal.returns-clause-restates
unfolding old changed
returns-clause-restates c =
    let nodes = c.self.inside.nodes.items in
    OnOk-map c.join_facts.result _ _
    (λ is. subst (λ (t : TrieInfos). Restates t.trie (trie_of c.join_facts.new.self.items) c.args.id c.args.role)
    c.self.view_is (subst (λ (ns : List Node). Restates (trie_of nodes) (trie_of ns) c.args.id c.args.role) (sym is)
    (restates_changed nodes c.args.id no_node (changed c) c.args.role (is_changed c) refl))) c.join_facts.ensures.ok

pub invariant_of-self : goal.invariant_of-self
unfolding old changed
invariant_of-self c =
    on_both c.join_facts.result (λ is.
    subst IsStored (sym is) (stored_changed c.self.inside.nodes.items c.args.id no_node (changed c) c.args.role
    (is_changed c) refl)) (λ is. subst IsStored (sym is) c.self.invariant) c.join_facts.ensures.ok
    c.join_facts.ensures.err

pub returns-clause-infos : goal.returns-clause-infos
unfolding old changed
returns-clause-infos c =
    OnOk-map c.join_facts.result _ _
    (λ is. ap infos_of is
    ∙ infos_changed (λ (i : NodeInfo). joined_info i (info_of c.args.more)) c.self.inside.nodes.items c.args.id no_node
    (changed c) (low c.self.inside.nodes.items c.args.self.now c.self.view_is c.self.invariant c.args.id c.requires)
    (info_joined (old c).facts c.args.more)
    ∙ ap (λ (t : TrieInfos). slice_set t.infos c.args.id (joined_info (info_at t c.args.id) (info_of c.args.more)))
    c.self.view_is) c.join_facts.ensures.ok
