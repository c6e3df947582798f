-- The nodes below the one are a run, and the paths give as many.
use Rattle.std.proofs.Common.{◌<◌, List, length, refl, sym, ◌∙◌, ap, subst, Some}
use Rattle.keep_index_store.specs.AllNodes.{Node}
use Rattle.keep_index_store.specs.Facts.{info_of}
use Rattle.keep_index_store.specs.Stored.{IsStored, infos_of, trie_of}
use Rattle.keep_index_store.specs.Tree.{tree_of}
use Rattle.keep_index_store.specs.Trie.{TrieNode, holds_at}
use Rattle.keep_index_store.proofs.BelowTreeLemmas.{low_there, root_there, stored_there, value_there}
use Rattle.keep_index_store.proofs.KindLemmas.{info_read, infos_kind, stored_kind, trie_kind}
use Rattle.keep_index_store.proofs.StoredLemmas.{length_trie_of}
use Rattle.keep_index_store.proofs.tree.replacing.replace_value.Goals as goal

pub set_kind-requires : goal.set_kind-requires
set_kind-requires c =
    subst (λ n. c.args.id < n) (length_trie_of c.take_in.new.nodes.items)
    (low_there _ _ _ _ c.in-Some.ensures.run c.inside.invariant _ _ _ (c.if-not-take_in.ensures.taken refl))

pub returns-clause-stored : goal.returns-clause-stored
returns-clause-stored c =
    let items : List Node = c.take_in.new.nodes.items in
    let stored : IsStored items =
    stored_there _ _ _ _ c.in-Some.ensures.run c.inside.invariant _ _ _ (c.if-not-take_in.ensures.taken refl) in
    let low : c.args.id < length items = subst (λ n. c.args.id < n) (length_trie_of items)
    (low_there _ _ _ _ c.in-Some.ensures.run c.inside.invariant _ _ _ (c.if-not-take_in.ensures.taken refl)) in
    subst IsStored (sym c.set_kind.ensures) (stored_kind items stored c.args.id low c.args.kind)

pub returns-clause-root : goal.returns-clause-root
returns-clause-root c =
    let items : List Node = c.take_in.new.nodes.items in
    let stored : IsStored items =
    stored_there _ _ _ _ c.in-Some.ensures.run c.inside.invariant _ _ _ (c.if-not-take_in.ensures.taken refl) in
    let low : c.args.id < length items = subst (λ n. c.args.id < n) (length_trie_of items)
    (low_there _ _ _ _ c.in-Some.ensures.run c.inside.invariant _ _ _ (c.if-not-take_in.ensures.taken refl)) in
    ap (λ (ts : List TrieNode). holds_at ts 0)
    (ap trie_of c.set_kind.ensures ∙ trie_kind items stored c.args.id low c.args.kind)
    ∙ root_there _ _ _ _ c.in-Some.ensures.run c.inside.invariant _ _ _ (c.if-not-take_in.ensures.taken refl)
    (tree_of c.args.nodes.now.items) c.args.inside refl c.inside.view_is

pub returns-clause-replaced : goal.returns-clause-replaced
returns-clause-replaced c done =
    let items : List Node = c.take_in.new.nodes.items in
    let stored : IsStored items =
    stored_there _ _ _ _ c.in-Some.ensures.run c.inside.invariant _ _ _ (c.if-not-take_in.ensures.taken refl) in
    let low : c.args.id < length items = subst (λ n. c.args.id < n) (length_trie_of items)
    (low_there _ _ _ _ c.in-Some.ensures.run c.inside.invariant _ _ _ (c.if-not-take_in.ensures.taken refl)) in
    value_there _ _ _ _ c.in-Some.ensures.run c.inside.invariant _ _ _ (c.if-not-take_in.ensures.taken refl)
    (tree_of c.args.nodes.now.items) c.args.inside refl c.inside.view_is c.info.result c.args.old c.args.new c.args.kind
    (tree_of c.set_kind.new.self.items)
    (ap trie_of c.set_kind.ensures ∙ trie_kind items stored c.args.id low c.args.kind)
    (ap infos_of c.set_kind.ensures ∙ infos_kind items stored c.args.id low c.args.kind)
    (info_read c.args.nodes.now.items c.args.id c.requires.within
    ∙ ap Some (sym (c.info.ensures ∙ ap info_of c.facts.ensures)))
    c.in-Some-value_shifts.ensures.beside c.in-Some-value_shifts.ensures.inside
