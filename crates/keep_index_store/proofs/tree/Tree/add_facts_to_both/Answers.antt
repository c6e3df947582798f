-- The stored nodes keep their tree of steps.
use Rattle.std.proofs.Common.{◌<◌, length, slice_set, ap, sym, ◌∙◌, subst}
use Rattle.indexmap.proofs.MapLemmas.{OnOk-map}
use Rattle.keep_index_store.specs.Stored.{IsStored, trie_of, infos_of}
use Rattle.keep_index_store.specs.Facts.{joined_info, info_of}
use Rattle.keep_index_store.specs.Tree.{TrieInfos, info_at}
use Rattle.keep_index_store.proofs.BothLemmas.{both_stored, both_trie, both_infos}
use Rattle.keep_index_store.proofs.TreeLemmas.{low, on_both}
use Rattle.keep_index_store.proofs.tree.Tree.add_facts_to_both.Goals as goal

first_low : (c : goal.After-join_both) → c.args.first < length c.self.inside.nodes.items
first_low c =
    low c.self.inside.nodes.items c.args.self.now c.self.view_is c.self.invariant c.args.first c.requires.first

second_low : (c : goal.After-join_both) → c.args.second < length c.self.inside.nodes.items
second_low c =
    low c.self.inside.nodes.items c.args.self.now c.self.view_is c.self.invariant c.args.second c.requires.second

pub returns-clause-same : goal.returns-clause-same
returns-clause-same c =
    let nodes = c.self.inside.nodes.items in
    OnOk-map c.join_both.result _ _
    (λ is. ap trie_of is
    ∙ both_trie nodes c.self.invariant c.args.first c.args.second c.args.more c.args.further (first_low c)
    (second_low c)
    ∙ ap (λ (t : TrieInfos). t.trie) c.self.view_is) c.join_both.ensures.ok

pub invariant_of-self : goal.invariant_of-self
invariant_of-self c =
    let nodes = c.self.inside.nodes.items in
    on_both c.join_both.result (λ is.
    subst IsStored (sym is) (both_stored nodes c.self.invariant c.args.first c.args.second c.args.more c.args.further
    (first_low c) (second_low c)))
    (λ is. subst IsStored (sym is) c.self.invariant) c.join_both.ensures.ok c.join_both.ensures.err

pub returns-clause-infos : goal.returns-clause-infos
returns-clause-infos c =
    let nodes = c.self.inside.nodes.items in
    OnOk-map c.join_both.result _ _
    (λ is. ap infos_of is
    ∙ both_infos nodes c.self.invariant c.args.first c.args.second c.args.more c.args.further (first_low c)
    (second_low c)
    ∙ ap (λ (t : TrieInfos).
    slice_set (slice_set t.infos c.args.first (joined_info (info_at t c.args.first) (info_of c.args.more)))
    c.args.second (joined_info (info_at t c.args.second) (info_of c.args.further))) c.self.view_is)
    c.join_both.ensures.ok
