-- The stored nodes with one more below a table, by a key that no node has there yet.
--
-- Theorems: `key_stored`, `key_grows` and `key_infos`.
use Rattle.std.proofs.Common.{◌≡◌, ◌<◌, ℕ, List, [], ◌∷◌, ◌++◌, length, refl, sym, ◌∙◌, ap, subst, None}
use Rattle.std.specs.Prelude.{Contains}
use Rattle.keep_path.specs.Path.{key}
use Rattle.keep_index_store.specs.declared.facts.NodeFacts.{NodeFacts}
use Rattle.keep_index_store.specs.AllNodes.{Node, and_key, no_node, node_at, with_key_below}
use Rattle.keep_index_store.specs.Children.{ChildList, child_ids, child_named, holds_of, no_children}
use Rattle.keep_index_store.specs.Facts.{info_of}
use Rattle.keep_index_store.specs.Growth.{Grows}
use Rattle.keep_index_store.specs.Stored.{IsStored, infos_of, trie_of}
use Rattle.keep_index_store.specs.Tree.{TrieInfos, tree_of}
use Rattle.keep_index_store.specs.Trie.{Holding, by_key, holds_at, path_at, paths_of}
use Rattle.keep_index_store.proofs.StoredLemmas.{IsAdded, grows_with, infos_added, key_ids, key_step, none_holds}
use Rattle.keep_index_store.proofs.StoredLemmas.{none_ids, stored_added}
use Rattle.keep_index_store.proofs.TreeLemmas.{fresh_key, holds_seen, low}

-- the nodes are these, and one of them may have this key and has none
pub record HasKeyPlace (nodes : List Node) (t : TrieInfos) (parent : ℕ) (text : List ℕ) : Type 0 where
  pub view : tree_of nodes ≡ t
  pub stored : IsStored nodes
  pub above : (parent < length t.trie) × (holds_at t.trie parent ≡ by_key)
  pub fresh : Contains (paths_of t.trie) (path_at t.trie parent ++ key text ∷ []) → ⊥

module _ (nodes : List Node) (t : TrieInfos) (parent : ℕ) (text : List ℕ) (holds : Holding) (facts : NodeFacts)
    (place : HasKeyPlace nodes t parent text) where
  abbrev above : ChildList
  above = (node_at nodes parent).children

  abbrev kids : ChildList
  kids = and_key above text (length nodes)

  abbrev new : Node
  new = record { parent = parent; number = length (child_ids above); children = no_children holds; facts = facts }

  pub parent_low : parent < length nodes
  parent_low = low nodes t place.view place.stored parent place.above.0

  pub parent_keyed : holds_of above ≡ by_key
  parent_keyed = holds_seen nodes t place.view place.stored parent place.above.0 ∙ place.above.1

  pub key_fresh : child_named above text ≡ None
  key_fresh = fresh_key nodes t place.view place.stored parent place.above.0 text place.above.1 place.fresh

  added : IsAdded nodes parent no_node kids new (key text)
  added = record {
    stored = place.stored;
    within = parent_low;
    holds = sym parent_keyed;
    ids = key_ids above text (length nodes) parent_keyed;
    names = (text, length nodes) ∷ [];
    named_is = refl;
    parent_is = refl;
    last = refl;
    step = key_step above kids text text (length nodes) (length (child_ids above)) parent_keyed refl refl refl refl;
    bare = none_ids holds;
  }

  fresh : Contains (paths_of (trie_of nodes)) (path_at (trie_of nodes) parent ++ key text ∷ []) → ⊥
  fresh = subst (λ (x : TrieInfos). Contains (paths_of x.trie) (path_at x.trie parent ++ key text ∷ []) → ⊥)
      (sym place.view) place.fresh

  pub key_stored : IsStored (with_key_below nodes parent text holds facts)
  key_stored = stored_added nodes parent no_node kids new (key text) added fresh

  pub trie_grows : Grows (trie_of nodes) (trie_of (with_key_below nodes parent text holds facts)) parent
      (path_at (trie_of nodes) parent ++ key text ∷ []) facts.role holds
  trie_grows = grows_with _ _ _ _ _ _ _ _ added fresh refl (none_holds holds)

  pub key_grows : Grows t.trie (trie_of (with_key_below nodes parent text holds facts)) parent
      (path_at t.trie parent ++ key text ∷ []) facts.role holds
  key_grows =
      subst (λ (x : TrieInfos).
      Grows x.trie (trie_of (with_key_below nodes parent text holds facts)) parent
      (path_at x.trie parent ++ key text ∷ []) facts.role holds) place.view trie_grows

  pub key_infos : infos_of (with_key_below nodes parent text holds facts) ≡ t.infos ++ info_of facts ∷ []
  key_infos =
      infos_added nodes parent no_node kids new ∙ ap (λ (x : TrieInfos). x.infos ++ info_of facts ∷ []) place.view
