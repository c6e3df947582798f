-- The steps stay, and of the facts that kind alone is another.
use Rattle.std.proofs.Common.{slice_set, ap, sym, ◌∙◌, subst}
use Rattle.keep_index_store.specs.Stored.{IsStored, trie_of, infos_of}
use Rattle.keep_index_store.specs.Tree.{TrieInfos, info_at}
use Rattle.keep_index_store.proofs.KindLemmas.{infos_kind, stored_kind, trie_kind}
use Rattle.keep_index_store.proofs.TreeLemmas.{low}
use Rattle.keep_index_store.proofs.tree.Tree.set_kind.Goals as goal

pub returns-clause-same : goal.returns-clause-same
returns-clause-same c =
    ap trie_of c.set_kind.ensures
    ∙ trie_kind c.self.inside.nodes.items c.self.invariant c.args.id
    (low c.self.inside.nodes.items c.args.self.now c.self.view_is c.self.invariant c.args.id c.requires) c.args.kind
    ∙ ap (λ (t : TrieInfos). t.trie) c.self.view_is

pub invariant_of-self : goal.invariant_of-self
invariant_of-self c =
    subst IsStored (sym c.set_kind.ensures)
    (stored_kind c.self.inside.nodes.items c.self.invariant c.args.id
    (low c.self.inside.nodes.items c.args.self.now c.self.view_is c.self.invariant c.args.id c.requires) c.args.kind)

pub returns-clause-infos : goal.returns-clause-infos
returns-clause-infos c =
    ap infos_of c.set_kind.ensures
    ∙ infos_kind c.self.inside.nodes.items c.self.invariant c.args.id
    (low c.self.inside.nodes.items c.args.self.now c.self.view_is c.self.invariant c.args.id c.requires) c.args.kind
    ∙ ap (λ (t : TrieInfos). slice_set t.infos c.args.id (record (info_at t c.args.id) { kind = c.args.kind }))
    c.self.view_is
