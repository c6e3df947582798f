-- The nodes with one more, of a key below a table: first as the last one, and then under its own number.
--
-- Where a node is added last, the parents of all others stay, since a path has only one parent (`parent_from_path`). So
-- what was asked before of the nodes about the place holds of all (`movable`).
--
-- Theorems: `stored_all`, `paths_all`, `holdings_all` and `infos_all`.
use Rattle.std.proofs.Common.{◌≡◌, ℕ, ◌+◌, ◌-◌, ◌<◌, ◌≤◌, ◌^◌, List, [], ◌∷◌, ◌++◌, length, get_or, refl, sym, ◌∙◌, ap}
use Rattle.std.proofs.Common.{subst, arith, inl, inr, Option}
use Rattle.std.specs.Prelude.{All}
use Rattle.std.specs.List.{insert}
use Rattle.std.proofs.lemmas.Bool.{cases_lt}
use Rattle.std.proofs.lemmas.List.{get_or-map}
use Rattle.keep_types.specs.declared.role.Role.{Role}
use Rattle.keep_path.specs.NodeInfos.{no_info}
use Rattle.keep_path.specs.Path.{Part, key}
use Rattle.keep_index_store.specs.declared.facts.NodeFacts.{NodeFacts}
use Rattle.keep_index_store.specs.AllNodes.{HasSmallLink, Node, and_key, no_node, node_at, with_key_below}
use Rattle.keep_index_store.specs.Children.{ChildList, child_ids, no_children}
use Rattle.keep_index_store.specs.Facts.{info_of}
use Rattle.keep_index_store.specs.Growth.{Grows}
use Rattle.keep_index_store.specs.Inserted.{HasPlace}
use Rattle.keep_index_store.specs.Moved.{CanTake, IsLast, moved_nodes, reordered, with_last_at}
use Rattle.keep_index_store.specs.Stored.{IsStored, infos_of, trie_of}
use Rattle.keep_index_store.specs.Tree.{TrieInfos, tree_of}
use Rattle.keep_index_store.specs.Trie.{TrieNode, Holding, nothing, by_key, IsTrie, children_of, holds_at, holdings_of}
use Rattle.keep_index_store.specs.Trie.{link, parent_at, path_at, paths_of}
use Rattle.keep_index_store.proofs.MovedListLemmas.{last_inserted}
use Rattle.keep_index_store.proofs.MovedNodeLemmas.{infos_moved, moves_last, stored_moved}
use Rattle.keep_index_store.proofs.MovedReadyLemmas.{infos_stay, moves_from, ready}
use Rattle.keep_index_store.proofs.MovedTreeLemmas.{is_last}
use Rattle.keep_index_store.proofs.NewNodeLemmas.{children_last, holds_below, longer, path_below, path_last}
use Rattle.keep_index_store.proofs.KeyBelowLemmas.{HasKeyPlace, key_stored, parent_low, trie_grows}
use Rattle.keep_index_store.proofs.StoredLemmas.{infos_added, last_added, length_added, preserved_added}
use Rattle.keep_index_store.proofs.TrieLemmas.{one_node, path_at-link, push_same}

some_node : (nodes : List TrieNode) (i : ℕ) → i < length nodes → TrieNode
some_node [] i h = absurd (omega (arith, h))
some_node (n ∷ ns) i h = n

parent_read : (nodes : List TrieNode) (i : ℕ) (d : TrieNode) → i < length nodes
    → parent_at nodes i ≡ (get_or nodes i d).parent
parent_read nodes i d h = get_or-map (λ (n : TrieNode). n.parent) nodes i d 0 h

-- a node whose path begins with another's, and has one step more, is below it
pub parent_from_path : (nodes : List TrieNode) → IsTrie nodes → (i p : ℕ) (x : Part) → 0 < i → i < length nodes
    → p < length nodes → path_at nodes i ≡ path_at nodes p ++ x ∷ [] → parent_at nodes i ≡ p
parent_from_path nodes trie i p x later h g is =
    let d : TrieNode = some_node nodes i h in
    let up : (get_or nodes i d).parent < i = trie.parents i d later h in
    let split = push_same _ _ _ _ (sym (path_at-link nodes trie i d later h) ∙ is) in
    parent_read nodes i d h ∙ one_node nodes trie _ p (omega (arith, up, h)) g split.0

module _ (old new : List TrieNode) (parent : ℕ) (text : List ℕ) (state : Option Role) (holds : Holding)
    (grows : Grows old new parent (path_at old parent ++ key text ∷ []) state holds) where
  count : length new ≡ length old + 1
  count = longer grows

  -- the root's parent is never followed
  parent_stays : (i : ℕ) → 0 < i → i < length old → parent_at new i ≡ parent_at old i
  parent_stays i later h =
      let d : TrieNode = some_node old i h in
      let up : (get_or old i d).parent < i = grows.trie.parents i d later h in
      let p : ℕ = (get_or old i d).parent in
      parent_from_path new grows.trie' i p (link (get_or old i d)).1 later (omega (arith, h, count))
      (omega (arith, up, h, count))
      (path_below grows i h ∙ path_at-link old grows.trie i d later h
      ∙ ap (λ path. path ++ (link (get_or old i d)).1 ∷ []) (sym (path_below grows p (omega (arith, up, h)))))
      ∙ sym (parent_read old i d h)

  parent_earlier : (i : ℕ) → 0 < i → i < length old → parent_at old i < i
  parent_earlier i later h =
      let d : TrieNode = some_node old i h in
      omega (arith, parent_read old i d h, grows.trie.parents i d later h)

  parent_last : parent_at new (length old) ≡ parent
  parent_last =
      parent_from_path new grows.trie' (length old) parent (key text) (omega (arith, grows.within))
      (omega (arith, count)) (omega (arith, grows.within, count))
      (path_last grows ∙ ap (λ path. path ++ key text ∷ []) (sym (path_below grows parent grows.within)))

  -- the new node can have its number
  movable : (at : ℕ) → HasPlace old parent text at → CanTake new at
  movable at place =
      let last : length new - 1 ≡ length old = omega (arith, count) in
      let above : parent_at new (length new - 1) ≡ parent = ap (parent_at new) last ∙ parent_last in
      let keyed : holds_at new parent ≡ by_key = holds_below grows parent grows.within ∙ place.keyed in
      record {
        within = omega (arith, place.within, count);
        below = omega (arith, above, place.below);
        bare = ap (λ i. children_of new i) last ∙ children_last grows;
        keyed = ap (holds_at new) above ∙ keyed;
        apart = λ same. elim (cases_lt at (length old)) [
          | inl before ↦
              let below : parent_at new at ≡ parent_at old at = parent_stays at (omega (arith, place.below)) before in
              let up : parent_at old at < at = parent_earlier at (omega (arith, place.below)) before in
              ap (holds_at new) below ∙ holds_below grows (parent_at old at) (omega (arith, up, before))
              ∙ elim (cases_lt 1 at) [
                | inl later ↦
                    let one : parent_at old (at - 1) ≡ parent_at old at =
                    sym (parent_stays (at - 1) (omega (arith, later)) (omega (arith, before))) ∙ same ∙ below in
                    place.apart before one
                | inr first ↦
                    let root : parent_at old at ≡ parent = omega (arith, first, up, place.below) in
                    ap (holds_at old) root ∙ place.keyed
              ]
          | inr end ↦
              let is : at ≡ length old = omega (arith, end, place.within) in
              ap (λ i. holds_at new (parent_at new i)) is ∙ ap (holds_at new) parent_last ∙ keyed
        ];
      }

-- ---- the nodes as they are stored

-- so many children of a node come before the first from `at` on, of all but the last
pub record IsCounted (nodes : List Node) (parent at n : ℕ) : Type 0 where
  pub within : n < length (child_ids (node_at nodes parent).children)
  pub before : (k : ℕ) → k < n → get_or (child_ids (node_at nodes parent).children) k 0 < at
  pub stops : n + 1 < length (child_ids (node_at nodes parent).children)
      → at ≤ get_or (child_ids (node_at nodes parent).children) n 0

module _ (nodes : List Node) (t : TrieInfos) (view : tree_of nodes ≡ t) (stored : IsStored nodes) (parent : ℕ)
    (text : List ℕ) (at : ℕ)
    (place : HasPlace t.trie parent text at) (holds : Holding) (facts : NodeFacts) where
  abbrev kids : ChildList
  kids = and_key (node_at nodes parent).children text (length nodes)

  abbrev new : Node
  new = record {
    parent = parent;
    number = length (child_ids (node_at nodes parent).children);
    children = no_children holds;
    facts = facts;
  }

  abbrev mid : List Node
  mid = with_key_below nodes parent text holds facts

  within : parent < length t.trie
  within = omega (arith, place.below, place.within)

  there : HasPlace (trie_of nodes) parent text at
  there = subst (λ (x : TrieInfos). HasPlace x.trie parent text at) (sym view) place

  pub key_place : HasKeyPlace nodes t parent text
  key_place = record { view = view; stored = stored; above = (within, place.keyed); fresh = place.fresh }

  can : CanTake (trie_of mid) at
  can = movable (trie_of nodes) (trie_of mid) parent text facts.role holds
      (trie_grows nodes t parent text holds facts key_place) at there

  last_is : length mid - 1 ≡ length nodes
  last_is = omega (arith, length_added nodes parent (record (node_at nodes parent) { children = kids }) new)

  own_parent : (node_at mid (length mid - 1)).parent ≡ parent
  own_parent =
      ap (λ (n : Node).
      n.parent) (last_added nodes parent (record (node_at nodes parent) { children = kids }) new (length mid - 1)
      no_node last_is)

  same_ids : child_ids (node_at mid (node_at mid (length mid - 1)).parent).children
      ≡ child_ids (node_at mid parent).children
  same_ids = ap (λ p. child_ids (node_at mid p).children) own_parent

  pub is_last_there : (n : ℕ) → IsCounted mid parent at n → IsLast mid at n
  is_last_there n counted =
      is_last mid (key_stored nodes t parent text holds facts key_place) at can n
      (omega (arith, counted.within, ap length same_ids))
      (λ k h. omega (arith, counted.before k h, ap (λ ids. get_or ids k 0) same_ids))
      (λ h. omega (arith, counted.stops (omega (arith, h, ap length same_ids)), ap (λ ids. get_or ids n 0) same_ids))

  pub small_there : All HasSmallLink nodes
      → (parent < 2 ^ 32 - 1) × (length (child_ids (node_at nodes parent).children) < 2 ^ 32 - 1) → All HasSmallLink mid
  small_there small next k d h =
      let changed : Node = record (node_at nodes parent) { children = kids } in
      let many : length mid ≡ length nodes + 1 = length_added nodes parent changed new in
      elim (cases_lt k (length nodes)) [
        | inl before ↦
            let same : (get_or mid k d).parent ≡ (get_or nodes k d).parent =
            preserved_added (λ (n : Node). n.parent) nodes parent no_node changed new
            (parent_low nodes t parent text holds facts key_place) refl k d before in
            let same' : (get_or mid k d).number ≡ (get_or nodes k d).number =
            preserved_added (λ (n : Node). n.number) nodes parent no_node changed new
            (parent_low nodes t parent text holds facts key_place) refl k d before in
            let s = small k d before in
            (omega (arith, same, s.0), omega (arith, same', s.1))
        | inr end ↦
            subst HasSmallLink (sym (last_added nodes parent changed new k d (omega (arith, end, h, many)))) next
      ]

  -- under its own number
  module _ (n : ℕ) (last : IsLast mid at n) where
    abbrev all : List Node
    all = moved_nodes (reordered mid n) at

    pub stored_all : IsStored all
    stored_all = stored_moved (reordered mid n) at (ready mid at n last)

    pub paths_all : paths_of (trie_of all) ≡ insert (paths_of t.trie) at (path_at t.trie parent ++ key text ∷ [])
    paths_all =
        (moves_from mid at n last (trie_of all) (moves_last (reordered mid n) at (ready mid at n last))).paths
        ∙ ap (λ ps. with_last_at [] ps at) (trie_grows nodes t parent text holds facts key_place).paths
        ∙ last_inserted [] (paths_of (trie_of nodes)) (path_at (trie_of nodes) parent ++ key text ∷ []) at
        ∙ ap (λ (x : TrieInfos). insert (paths_of x.trie) at (path_at x.trie parent ++ key text ∷ [])) view

    pub holdings_all : holdings_of (trie_of all) ≡ insert (holdings_of t.trie) at holds
    holdings_all =
        (moves_from mid at n last (trie_of all) (moves_last (reordered mid n) at (ready mid at n last))).holdings
        ∙ ap (λ hs. with_last_at nothing hs at) (trie_grows nodes t parent text holds facts key_place).holdings
        ∙ last_inserted nothing (holdings_of (trie_of nodes)) holds at
        ∙ ap (λ (x : TrieInfos). insert (holdings_of x.trie) at holds) view

    pub infos_all : infos_of all ≡ insert t.infos at (info_of facts)
    infos_all =
        infos_moved (reordered mid n) at (ready mid at n last)
        ∙ ap (λ is. with_last_at no_info is at) (infos_stay mid at n last ∙ infos_added nodes parent no_node kids new)
        ∙ last_inserted no_info (infos_of nodes) (info_of facts) at
        ∙ ap (λ (x : TrieInfos). insert x.infos at (info_of facts)) view
