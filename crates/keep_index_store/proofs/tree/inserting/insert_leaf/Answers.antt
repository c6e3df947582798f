-- The node is added as the last, and then comes to its place.
use Rattle.std.proofs.Common.{◌≡◌, ◌∷◌, ◌++◌, [], List, All, ◌∙◌, refl, ap, rules, subst, sym}
use Rattle.keep_index_store.specs.AllNodes.{HasSmallLink, Node, with_key_below}
use Rattle.keep_index_store.specs.Children.{holding}
use Rattle.keep_index_store.specs.Facts.{info_of}
use Rattle.keep_index_store.specs.Inserted.{IsInserted}
use Rattle.keep_index_store.specs.Moved.{IsLast, moved_nodes, reordered}
use Rattle.keep_index_store.specs.Stored.{IsStored, trie_of}
use Rattle.keep_index_store.specs.Tree.{tree_of}
use Rattle.keep_index_store.specs.Trie.{path_at}
use Rattle.keep_path.specs.Path.{key}
use Rattle.keep_index_store.proofs.InsertedLemmas.{IsCounted, is_last_there, key_place, small_there}
use Rattle.keep_index_store.proofs.InsertedValueLemmas.{is_inserted}
use Rattle.keep_index_store.proofs.KeyBelowLemmas.{key_fresh, key_stored, parent_keyed}
use Rattle.keep_index_store.proofs.tree.inserting.insert_leaf.Goals as goal

pub add_key-requires-clause-keyed : goal.add_key-requires-clause-keyed
add_key-requires-clause-keyed c =
    parent_keyed _ _ _ _ (holding c.args.holds) c.args.facts
    (key_place c.args.nodes.now.items (tree_of c.args.nodes.now.items) refl c.requires.stored c.args.parent
    c.args.text.now c.args.at c.requires.place (holding c.args.holds) c.args.facts)

pub add_key-requires-clause-fresh : goal.add_key-requires-clause-fresh
add_key-requires-clause-fresh c =
    key_fresh _ _ _ _ (holding c.args.holds) c.args.facts
    (key_place c.args.nodes.now.items (tree_of c.args.nodes.now.items) refl c.requires.stored c.args.parent
    c.args.text.now c.args.at c.requires.place (holding c.args.holds) c.args.facts)

pub children_before-place-requires-clause-stored : goal.children_before-place-requires-clause-stored
children_before-place-requires-clause-stored c =
    let mid : c.add_key.new.self.items
    ≡ with_key_below c.args.nodes.now.items c.args.parent c.args.text.now (holding c.args.holds) c.args.facts =
    search rules in
    subst (λ (ns : List Node). IsStored ns) (sym mid)
    (key_stored c.args.nodes.now.items (tree_of c.args.nodes.now.items) c.args.parent c.args.text.now
    (holding c.args.holds) c.args.facts
    (key_place c.args.nodes.now.items (tree_of c.args.nodes.now.items) refl c.requires.stored c.args.parent
    c.args.text.now c.args.at c.requires.place (holding c.args.holds) c.args.facts))

pub move_last-requires-clause-last : goal.move_last-requires-clause-last
move_last-requires-clause-last c =
    let mid : c.add_key.new.self.items
    ≡ with_key_below c.args.nodes.now.items c.args.parent c.args.text.now (holding c.args.holds) c.args.facts =
    search rules in
    let last : IsLast (with_key_below c.args.nodes.now.items c.args.parent c.args.text.now (holding c.args.holds)
    c.args.facts) c.args.at c.children_before-place.result =
    is_last_there c.args.nodes.now.items (tree_of c.args.nodes.now.items) refl c.requires.stored c.args.parent
    c.args.text.now c.args.at c.requires.place (holding c.args.holds) c.args.facts c.children_before-place.result
    (subst (λ (ns : List Node). IsCounted ns c.args.parent c.args.at c.children_before-place.result) mid
    (record {
      within = c.children_before-place.ensures.within;
      before = c.children_before-place.ensures.before;
      stops = c.children_before-place.ensures.stops;
    })) in
    subst (λ (ns : List Node). IsLast ns c.args.at c.children_before-place.result) (sym mid) last

pub move_last-requires-clause-small : goal.move_last-requires-clause-small
move_last-requires-clause-small c =
    let mid : c.add_key.new.self.items
    ≡ with_key_below c.args.nodes.now.items c.args.parent c.args.text.now (holding c.args.holds) c.args.facts =
    search rules in
    let small : All HasSmallLink (with_key_below c.args.nodes.now.items c.args.parent c.args.text.now
    (holding c.args.holds) c.args.facts) =
    small_there c.args.nodes.now.items (tree_of c.args.nodes.now.items) refl c.requires.stored c.args.parent
    c.args.text.now c.args.at c.requires.place (holding c.args.holds) c.args.facts
    (c.can_grow_below.ensures.each c.if-not-can_grow_below.false)
    (c.can_grow_below.ensures.next c.if-not-can_grow_below.false) in
    subst (λ (ns : List Node). All HasSmallLink ns) (sym mid) small

pub returns-clause-inserted : goal.returns-clause-inserted
returns-clause-inserted c done =
    let mid : c.add_key.new.self.items
    ≡ with_key_below c.args.nodes.now.items c.args.parent c.args.text.now (holding c.args.holds) c.args.facts =
    search rules in
    let last : IsLast (with_key_below c.args.nodes.now.items c.args.parent c.args.text.now (holding c.args.holds)
    c.args.facts) c.args.at c.children_before-place.result =
    is_last_there c.args.nodes.now.items (tree_of c.args.nodes.now.items) refl c.requires.stored c.args.parent
    c.args.text.now c.args.at c.requires.place (holding c.args.holds) c.args.facts c.children_before-place.result
    (subst (λ (ns : List Node). IsCounted ns c.args.parent c.args.at c.children_before-place.result) mid
    (record {
      within = c.children_before-place.ensures.within;
      before = c.children_before-place.ensures.before;
      stops = c.children_before-place.ensures.stops;
    })) in
    let small : All HasSmallLink (with_key_below c.args.nodes.now.items c.args.parent c.args.text.now
    (holding c.args.holds) c.args.facts) =
    small_there c.args.nodes.now.items (tree_of c.args.nodes.now.items) refl c.requires.stored c.args.parent
    c.args.text.now c.args.at c.requires.place (holding c.args.holds) c.args.facts
    (c.can_grow_below.ensures.each c.if-not-can_grow_below.false)
    (c.can_grow_below.ensures.next c.if-not-can_grow_below.false) in
    subst
    (λ (ns : List Node).
    IsInserted c.args.nodes.now.items ns c.args.at
    (path_at (trie_of c.args.nodes.now.items) c.args.parent ++ key c.args.text.now ∷ []) (holding c.args.holds)
    (info_of c.args.facts))
    (sym (c.move_last.ensures ∙ ap (λ ns. moved_nodes (reordered ns c.children_before-place.result) c.args.at) mid))
    (is_inserted c.args.nodes.now.items c.requires.stored c.args.parent c.args.text.now c.args.at c.requires.place
    (holding c.args.holds) c.args.facts c.children_before-place.result last small)
