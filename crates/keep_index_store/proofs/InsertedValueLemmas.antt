-- A line's node with no children among the others: what replaces its value, and what takes it out again.
--
-- Each number of its parent link is at most one greater than before (`links_there`), and no node is below it, since its
-- key is the last step of no other path (`leaf_inserted`). So the nodes below it are none (`none_below`), and where it
-- is taken out, the nodes are as before (`paths_back`, `infos_back`, `root_back`).
--
-- Theorems: `is_inserted`; `none_below`; `paths_back`, `infos_back`, `stored_back`, `root_back` and `root_then`.
use Rattle.std.proofs.Common.{◌≡◌, ℕ, suc, ◌+◌, ◌-◌, ◌<◌, ◌≤◌, ◌^◌, ◌==◌, cond, true, false, List, [], ◌∷◌, ◌++◌}
use Rattle.std.proofs.Common.{length}
use Rattle.std.proofs.Common.{get_or, map, take, drop, refl, sym, ◌∙◌, ap, ap₂, arith, inl, inr}
use Rattle.std.specs.Prelude.{All}
use Rattle.std.specs.List.{insert, remove}
use Rattle.std.proofs.lemmas.Bool.{cases_lt}
use Rattle.std.proofs.lemmas.List.{append-nil, drop-drop, drop_at, get_or-map, length-map, length-take-le}
use Rattle.std.proofs.lemmas.List.{take-append-drop, take_at, nil_from_length}
use Rattle.std.proofs.lemmas.List.Edits.{get_or-insert_at, get_or-insert_below, length-insert}
use Rattle.std.proofs.lemmas.List.Elements.{All-append, All-cons, All-drop, All-map, All-set, All-take, All-weaker}
use Rattle.keep_types.specs.declared.node.NodeInfo.{NodeInfo}
use Rattle.keep_path.specs.NodesBelow.{AreBelow}
use Rattle.keep_path.specs.Path.{Part, key}
use Rattle.keep_index_store.specs.declared.facts.NodeFacts.{NodeFacts}
use Rattle.keep_index_store.specs.AllNodes.{HasSmallLink, Node, no_node, node_at, with_key_below}
use Rattle.keep_index_store.specs.Below.{IsRunBelow}
use Rattle.keep_index_store.specs.Children.{ChildList, Keyed, child_ids, named}
use Rattle.keep_index_store.specs.Facts.{info_of}
use Rattle.keep_index_store.specs.Inserted.{HasPlace, IsInserted}
use Rattle.keep_index_store.specs.Moved.{IsLast, moved_node, moved_nodes, moved_number, reordered, reordered_node}
use Rattle.keep_index_store.specs.Moved.{with_keys_reordered, with_last_at}
use Rattle.keep_index_store.specs.Removed.{HasStoredLink, IsLeaf, removed_nodes}
use Rattle.keep_index_store.specs.Stored.{IsStored, infos_of, trie_of}
use Rattle.keep_index_store.specs.Tree.{IsKeyLeaf, tree_of}
use Rattle.keep_index_store.specs.Trie.{Holding, TrieNode, nothing, by_key, holds_at, holdings_of, parent_at, path_at}
use Rattle.keep_index_store.specs.Trie.{paths_of}
use Rattle.keep_index_store.proofs.BelowPathLemmas.{IsWithin, is_below}
use Rattle.keep_index_store.proofs.InsertedLemmas.{holdings_all, infos_all, parent_from_path, paths_all, stored_all}
use Rattle.keep_index_store.proofs.MovedListLemmas.{later_most, length-last, moved_most, read_last}
use Rattle.keep_index_store.proofs.MovedNodeLemmas.{IsReady, ids_moved}
use Rattle.keep_index_store.proofs.MovedReadyLemmas.{above_within, own_number, ready}
use Rattle.keep_index_store.proofs.RemovedNodeLemmas as gone
use Rattle.keep_index_store.proofs.RemovedTreeLemmas.{leaf_there, stored_all as stored_removed}
use Rattle.keep_index_store.proofs.StoredLemmas.{IsPlaced, length_trie_of, node_placed}
use Rattle.keep_index_store.proofs.TreeLemmas.{kids_seen}
use Rattle.keep_index_store.proofs.TrieLemmas.{length-paths_of, one_node}

-- ---- lists

remove_inserted : {X : Type 0} (xs : List X) (i : ℕ) (x : X) → i ≤ length xs → remove (insert xs i x) i ≡ xs
remove_inserted xs i x h =
    let many : length (take i xs) ≡ i = length-take-le i xs h in
    let next : i + 1 ≡ suc i = omega arith in
    ap₂ (λ ys zs. ys ++ zs) (take_at (take i xs) (x ∷ drop i xs) i many)
    (ap (λ n. drop n (insert xs i x)) (sym next) ∙ sym (drop-drop 1 i (insert xs i x))
    ∙ ap (drop 1) (drop_at (take i xs) (x ∷ drop i xs) i many))
    ∙ take-append-drop i xs

All-last : {X : Type 0} (P : X → Type 0) (none : X) (xs : List X) (at : ℕ) → at < length xs → All P xs
    → All P (with_last_at none xs at)
All-last P none xs at within all =
    let n : ℕ = length xs - 1 in
    let front : All P (take n xs) = All-take P n xs all in
    All-append P (take at (take n xs)) (get_or xs n none ∷ drop at (take n xs)) (All-take P at (take n xs) front)
    (All-cons P (get_or xs n none) (drop at (take n xs)) (all n none (omega (arith, within)))
    (All-drop P at (take n xs) front))

-- ---- the links of the nodes, where the last comes to its place

-- the parent link while the siblings have their new numbers, and the nodes not yet
HasNextLink : Node → Type 0
HasNextLink n = (n.parent < 2 ^ 32 - 1) × (n.number < 2 ^ 32)

reordered_link : (last : Node) (n : ℕ) → n ≤ last.number → (x : Node) → HasSmallLink x
    → HasNextLink (reordered_node last n x)
unfolding HasNextLink
reordered_link last n order x small = (
  small.0,
  elim (x.parent == last.parent) as (λ b. cond b (moved_number last.number n x.number) x.number < 2 ^ 32) [
    | true ↦ omega (arith, small.1, moved_most last.number n x.number order)
    | false ↦ omega (arith, small.1)
  ],
)

moved_link : (last at : ℕ) (x : Node) → HasNextLink x → HasStoredLink (moved_node last at x)
unfolding HasNextLink
moved_link last at x small = (omega (arith, small.0, later_most at x.parent), small.1)

module _ (mid : List Node) (at n : ℕ) (r : IsLast mid at n) where
  abbrev own : Node
  own = node_at mid (length mid - 1)

  abbrev above : Node
  above = node_at mid own.parent

  abbrev kids : ChildList
  kids = Keyed (with_last_at ([], 0) (named above.children) n)

  pub links_there : All HasSmallLink mid → All HasStoredLink (moved_nodes (reordered mid n) at)
  links_there small =
      let order : n ≤ own.number = omega (arith, own_number mid at n r, r.place) in
      let written : All HasSmallLink (with_keys_reordered mid own.parent n) =
      All-set HasSmallLink mid own.parent (record above { children = kids })
      (small own.parent no_node (above_within mid at n r)) small in
      let next : All HasNextLink (reordered mid n) =
      All-map HasNextLink (reordered_node own n) (with_keys_reordered mid own.parent n)
      (All-weaker HasSmallLink (λ x. HasNextLink (reordered_node own n x)) (reordered_link own n order)
      (with_keys_reordered mid own.parent n) written) in
      let last : ℕ = length (reordered mid n) - 1 in
      All-map HasStoredLink (moved_node last at) (with_last_at no_node (reordered mid n) at)
      (All-weaker HasNextLink (λ x. HasStoredLink (moved_node last at x)) (moved_link last at)
      (with_last_at no_node (reordered mid n) at)
      (All-last HasNextLink no_node (reordered mid n) at (ready mid at n r).within next))

  -- the node has no children at its place either
  pub bare_there : child_ids (node_at (moved_nodes (reordered mid n) at) at).children ≡ []
  bare_there =
      let nodes : List Node = reordered mid n in
      let is : IsReady nodes at = ready mid at n r in
      let last : ℕ = length nodes - 1 in
      let many : length (with_last_at no_node nodes at) ≡ length nodes = length-last no_node nodes at is.within in
      ap (λ (x : Node). child_ids x.children)
      (get_or-map (moved_node last at) (with_last_at no_node nodes at) at no_node no_node
      (omega (arith, many, is.within))
      ∙ ap (moved_node last at) (read_last no_node nodes at is.within no_node))
      ∙ ids_moved last at (node_at nodes last).children ∙ ap (map (moved_number last at)) is.bare

-- ---- the node as it is then

module _ (nodes : List Node) (stored : IsStored nodes) (parent : ℕ) (text : List ℕ) (at : ℕ)
    (place : HasPlace (trie_of nodes) parent text at) (holds : Holding) (facts : NodeFacts) (n : ℕ)
    (last : IsLast (with_key_below nodes parent text holds facts) at n)
    (small : All HasSmallLink (with_key_below nodes parent text holds facts)) where
  abbrev all : List Node
  all = moved_nodes (reordered (with_key_below nodes parent text holds facts) n) at

  abbrev path : List Part
  path = path_at (trie_of nodes) parent ++ key text ∷ []

  paths_then : paths_of (trie_of all) ≡ insert (paths_of (trie_of nodes)) at path
  paths_then = paths_all nodes (tree_of nodes) refl stored parent text at place holds facts n last

  holdings_then : holdings_of (trie_of all) ≡ insert (holdings_of (trie_of nodes)) at holds
  holdings_then = holdings_all nodes (tree_of nodes) refl stored parent text at place holds facts n last

  stored_then : IsStored all
  stored_then = stored_all nodes (tree_of nodes) refl stored parent text at place holds facts n last

  low : at ≤ length (paths_of (trie_of nodes))
  low = omega (arith, place.within, length-paths_of (trie_of nodes) stored.trie.root)

  within : at < length (trie_of all)
  within =
      omega (
        arith,
        low,
        ap length paths_then,
        length-insert (paths_of (trie_of nodes)) at path low,
        length-paths_of (trie_of all) stored_then.trie.root,
      )

  parent_then : parent_at (trie_of all) at ≡ parent
  parent_then =
      parent_from_path (trie_of all) stored_then.trie at parent (key text) (omega (arith, place.below)) within
      (omega (arith, place.below, within))
      (ap (λ ps. get_or ps at []) paths_then ∙ get_or-insert_at (paths_of (trie_of nodes)) at path [] low
      ∙ ap (λ p. p ++ key text ∷ [])
      (sym (ap (λ ps. get_or ps parent []) paths_then
      ∙ get_or-insert_below (paths_of (trie_of nodes)) at path [] parent place.below low)))

  keyed_then : holds_at (trie_of all) parent ≡ by_key
  keyed_then =
      ap (λ hs. get_or hs parent nothing) holdings_then
      ∙ get_or-insert_below (holdings_of (trie_of nodes)) at holds nothing parent place.below
      (omega (arith, place.within, length-map (trie_of nodes) (λ (x : TrieNode). x.holds)))
      ∙ place.keyed

  key_leaf : IsKeyLeaf (trie_of all) at
  key_leaf = record {
    later = omega (arith, place.below);
    bare =
        sym (kids_seen all (tree_of all) refl stored_then at within)
        ∙ bare_there (with_key_below nodes parent text holds facts) at n last;
    keyed = ap (holds_at (trie_of all)) parent_then ∙ keyed_then;
  }

  pub is_inserted : IsInserted nodes all at path holds (info_of facts)
  is_inserted = record {
    paths = paths_then;
    infos = infos_all nodes (tree_of nodes) refl stored parent text at place holds facts n last;
    holdings = holdings_then;
    leaf = leaf_there all (tree_of all) refl stored_then at within key_leaf;
    links = links_there (with_key_below nodes parent text holds facts) at n last small;
  }

-- ---- a node with no children

module _ (nodes : List Node) (at : ℕ) (leaf : IsLeaf nodes at) where
  no_child : (j : ℕ) → 0 < j → j < length nodes → (node_at nodes j).parent ≡ at → ⊥
  no_child j later h is =
      let placed : IsPlaced nodes j no_node = node_placed nodes leaf.stored j no_node later h in
      let none : child_ids (node_at nodes (node_at nodes j).parent).children ≡ [] =
      ap (λ i. child_ids (node_at nodes i).children) is ∙ leaf.bare in
      omega (arith, placed.low, ap length none)

  run : IsRunBelow nodes at 0
  run = record {
    stored = leaf.stored;
    later = leaf.later;
    within = omega (arith, leaf.within);
    keyed = leaf.keyed;
    below = λ j from to. absurd (omega (arith, from, to));
    others = λ j from h. elim (cases_lt (node_at nodes j).parent at) [
      | inl before ↦ inl before
      | inr after ↦ elim (cases_lt at (node_at nodes j).parent) [
        | inl past ↦ inr (omega (arith, past))
        | inr same ↦ absurd (no_child j (omega (arith, from)) h (omega (arith, after, same)))
      ]
    ];
  }

  count : length (paths_of (trie_of nodes)) ≡ length nodes
  count =
      omega (arith, length_trie_of nodes, length-paths_of (trie_of nodes) leaf.stored.trie.root)

  pub none_below : AreBelow (paths_of (trie_of nodes)) at 0
  none_below = record {
    within = omega (arith, leaf.within, count);
    below = λ j from to. absurd (omega (arith, from, to));
    others = λ j from h more is. elim (cases_lt 0 (length more)) [
      | inl some ↦
          let w : IsWithin at 0 j = is_below nodes at 0 run j (omega (arith, h, count)) more some is in
          absurd (omega (arith, w.up_to, from))
      | inr none ↦
          let alone : more ≡ [] = nil_from_length more (omega (arith, none)) in
          let same : j ≡ at = one_node (trie_of nodes) leaf.stored.trie j at
          (omega (arith, h, count, length_trie_of nodes)) (omega (arith, leaf.within, length_trie_of nodes))
          (is ∙ ap (λ ms. path_at (trie_of nodes) at ++ ms) alone ∙ append-nil (path_at (trie_of nodes) at)) in
          absurd (omega (arith, same, from))
    ];
  }

-- ---- the node is taken out again

module _ (old new : List Node) (at : ℕ) (path : List Part) (holds : Holding) (info : NodeInfo) (low : at ≤ length old)
    (root : 0 < length old) (inserted : IsInserted old new at path holds info) where
  pub paths_back : paths_of (trie_of (removed_nodes new at)) ≡ paths_of (trie_of old)
  paths_back =
      gone.paths_all new at inserted.leaf ∙ ap (λ ps. remove ps at) inserted.paths
      ∙ remove_inserted (paths_of (trie_of old)) at path
      (omega (arith, low, length_trie_of old, length-paths_of (trie_of old) (omega (arith, root, length_trie_of old))))

  pub infos_back : infos_of (removed_nodes new at) ≡ infos_of old
  infos_back =
      gone.infos_all new at inserted.leaf ∙ ap (λ is. remove is at) inserted.infos
      ∙ remove_inserted (infos_of old) at info (omega (arith, low, length-map old (λ (n : Node). info_of n.facts)))

  pub stored_back : IsStored (removed_nodes new at)
  stored_back = stored_removed new at inserted.leaf

  pub root_back : holds_at (trie_of (removed_nodes new at)) 0 ≡ holds_at (trie_of old) 0
  root_back =
      ap (λ hs. get_or hs 0 nothing)
      (gone.holdings_all new at inserted.leaf ∙ ap (λ hs. remove hs at) inserted.holdings
      ∙ remove_inserted (holdings_of (trie_of old)) at holds
      (omega (arith, low, length_trie_of old, length-map (trie_of old) (λ (x : TrieNode). x.holds))))

  pub root_then : holds_at (trie_of new) 0 ≡ holds_at (trie_of old) 0
  root_then =
      ap (λ hs. get_or hs 0 nothing) inserted.holdings
      ∙ get_or-insert_below (holdings_of (trie_of old)) at holds nothing 0 inserted.leaf.later
      (omega (arith, low, length_trie_of old, length-map (trie_of old) (λ (x : TrieNode). x.holds)))
