-- The nodes that come are stored, and are what the tree has more.
use Rattle.std.proofs.Common.{List, map, subst, sym, []}
use Rattle.std.specs.Prelude.{string_bytes}
use Rattle.std.proofs.lemmas.Result.{on_ok_weaker}
use Rattle.keep_types.specs.declared.role.Role.{Role}
use Rattle.std.proofs.Common.{Option, ◌≡◌, ◌++◌}
use Rattle.keep_index_store.specs.AllNodes.{Node}
use Rattle.keep_index_store.specs.KeysBelow.{AddsKeys}
use Rattle.keep_index_store.specs.Stored.{IsStored, trie_of}
use Rattle.keep_index_store.specs.Tree.{tree_of}
use Rattle.keep_index_store.specs.Trie.{by_key, states_of}
use Rattle.keep_index_store.proofs.KeyBelowLemmas.{key_fresh, parent_keyed}
use Rattle.keep_index_store.proofs.KeysStoredLemmas.{adds_keys, are_stored, first_place, states_more}
use Rattle.keep_index_store.proofs.TreeLemmas.{on_both}
use Rattle.keep_index_store.proofs.tree.Tree.add_keys.Goals as goal

pub add_keys-requires-clause-keyed : goal.add_keys-requires-clause-keyed
add_keys-requires-clause-keyed c =
    parent_keyed _ _ _ _ by_key c.args.facts.own
    (first_place c.self.inside.nodes.items c.args.self.now c.self.view_is c.self.invariant c.args.parent c.args.facts
    (map string_bytes c.args.leading.now) c.args.last.now c.requires.parent c.requires.fresh)

pub add_keys-requires-clause-fresh : goal.add_keys-requires-clause-fresh
add_keys-requires-clause-fresh c =
    key_fresh _ _ _ _ by_key c.args.facts.own
    (first_place c.self.inside.nodes.items c.args.self.now c.self.view_is c.self.invariant c.args.parent c.args.facts
    (map string_bytes c.args.leading.now) c.args.last.now c.requires.parent c.requires.fresh)

pub invariant_of-self : goal.invariant_of-self
invariant_of-self c =
    on_both c.add_keys.result
    (λ is.
    subst IsStored (sym is)
    (are_stored c.self.inside.nodes.items c.args.self.now c.self.view_is c.self.invariant c.args.parent c.args.facts
    (map string_bytes c.args.leading.now) c.args.last.now c.requires.parent c.requires.fresh).stored)
    (λ is. subst IsStored (sym is) c.self.invariant) c.add_keys.ensures.ok c.add_keys.ensures.err

pub returns-clause-added : goal.returns-clause-added
returns-clause-added c =
    on_ok_weaker c.add_keys.result (λ is.
    subst (λ (ns : List Node).
    AddsKeys c.args.self.now (tree_of ns) [] c.args.parent (map string_bytes c.args.leading.now) c.args.last.now
    c.args.facts) (sym is)
    (adds_keys c.self.inside.nodes.items c.args.self.now c.self.view_is c.self.invariant c.args.parent c.args.facts
    (map string_bytes c.args.leading.now) c.args.last.now c.requires.parent c.requires.fresh)) c.add_keys.ensures.ok

pub returns-clause-states : goal.returns-clause-states
returns-clause-states c =
    on_ok_weaker c.add_keys.result (λ is.
    subst (λ (ns : List Node).
    (more : List (Option Role)) × (states_of (trie_of ns) ≡ states_of c.args.self.now.trie ++ more)) (sym is)
    (states_more c.self.inside.nodes.items c.args.self.now c.self.view_is c.self.invariant c.args.parent c.args.facts
    (map string_bytes c.args.leading.now) c.args.last.now c.requires.parent c.requires.fresh)) c.add_keys.ensures.ok
