use Rattle.std.proofs.Common.{List, ◌∷◌, ◌++◌, [], ◌∙◌, ap, subst, sym, Some}
use Rattle.keep_path.specs.Path.{key}
use Rattle.keep_index_store.specs.AllNodes.{Node}
use Rattle.keep_index_store.specs.Children.{holding}
use Rattle.keep_index_store.specs.Growth.{Grows}
use Rattle.keep_index_store.specs.Stored.{IsStored, trie_of, infos_of}
use Rattle.keep_index_store.specs.Trie.{path_at}
use Rattle.keep_index_store.proofs.KeyBelowLemmas.{key_fresh, key_grows, key_infos, key_stored, parent_keyed}
use Rattle.keep_index_store.proofs.KeyBelowLemmas.{parent_low}
use Rattle.keep_index_store.proofs.tree.Tree.add_key.Goals as goal

pub add_key-requires-clause-within : goal.add_key-requires-clause-within
add_key-requires-clause-within c =
    parent_low c.self.inside.nodes.items c.args.self.now c.args.parent c.args.text.now (holding c.args.holds)
    (record c.args.facts { role = Some c.args.role })
    (record { view = c.self.view_is; stored = c.self.invariant; above = c.requires.parent; fresh = c.requires.fresh })

pub add_key-requires-clause-keyed : goal.add_key-requires-clause-keyed
add_key-requires-clause-keyed c =
    parent_keyed c.self.inside.nodes.items c.args.self.now c.args.parent c.args.text.now (holding c.args.holds)
    (record c.args.facts { role = Some c.args.role })
    (record { view = c.self.view_is; stored = c.self.invariant; above = c.requires.parent; fresh = c.requires.fresh })

pub add_key-requires-clause-fresh : goal.add_key-requires-clause-fresh
add_key-requires-clause-fresh c =
    key_fresh c.self.inside.nodes.items c.args.self.now c.args.parent c.args.text.now (holding c.args.holds)
    (record c.args.facts { role = Some c.args.role })
    (record { view = c.self.view_is; stored = c.self.invariant; above = c.requires.parent; fresh = c.requires.fresh })

pub invariant_of-self-2 : goal.invariant_of-self-2
invariant_of-self-2 c =
    subst IsStored (sym c.in_ok-add_key.ensures.ok)
    (key_stored c.self.inside.nodes.items c.args.self.now c.args.parent c.args.text.now (holding c.args.holds)
    (record c.args.facts { role = Some c.args.role })
    (record { view = c.self.view_is; stored = c.self.invariant; above = c.requires.parent; fresh = c.requires.fresh }))

pub returns-clause-grows : goal.returns-clause-grows
returns-clause-grows c =
    subst (λ (ns : List Node).
    Grows c.args.self.now.trie (trie_of ns) c.args.parent
    (path_at c.args.self.now.trie c.args.parent ++ key c.args.text.now ∷ []) (Some c.args.role) (holding c.args.holds))
    (sym c.in_ok-add_key.ensures.ok)
    (key_grows c.self.inside.nodes.items c.args.self.now c.args.parent c.args.text.now (holding c.args.holds)
    (record c.args.facts { role = Some c.args.role })
    (record { view = c.self.view_is; stored = c.self.invariant; above = c.requires.parent; fresh = c.requires.fresh }))

pub returns-clause-infos : goal.returns-clause-infos
returns-clause-infos c =
    ap infos_of c.in_ok-add_key.ensures.ok
    ∙ key_infos c.self.inside.nodes.items c.args.self.now c.args.parent c.args.text.now (holding c.args.holds)
    (record c.args.facts { role = Some c.args.role })
    (record { view = c.self.view_is; stored = c.self.invariant; above = c.requires.parent; fresh = c.requires.fresh })
