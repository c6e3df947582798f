-- Where the last node can take an earlier number by the tree of steps, it can by the stored nodes too.
--
-- Theorem: `is_last`.
use Rattle.std.proofs.Common.{◌≡◌, ℕ, ◌+◌, ◌-◌, ◌<◌, ◌≤◌, List, [], ◌∷◌, ◌++◌, length, get_or, refl, sym, ◌∙◌, ap}
use Rattle.std.proofs.Common.{arith, length-append, inl, inr}
use Rattle.std.proofs.lemmas.List.{get_or_append_left, get_or-append_right, get_or-map}
use Rattle.std.proofs.lemmas.Bool.{cases_lt}
use Rattle.keep_index_store.specs.AllNodes.{Node, no_node, node_at}
use Rattle.keep_index_store.specs.Children.{child_ids}
use Rattle.keep_index_store.specs.Moved.{CanTake, IsLast}
use Rattle.keep_index_store.specs.Stored.{trie_node_in, trie_of, IsStored}
use Rattle.keep_index_store.specs.Trie.{TrieNode, children_of, holds_at, parent_at}
use Rattle.keep_index_store.proofs.StoredLemmas.{here, keyed_node, length_trie_of}
use Rattle.keep_index_store.proofs.MovedTrieLemmas.{IsMovable, moved_answers}

-- of all but the last, those after the first from `at` on are too
rest_after : (low high : List ℕ) (last at n k : ℕ) → ((j : ℕ) → j < length low → get_or low j 0 < at)
    → ((j : ℕ) → j < length high → at ≤ get_or high j 0)
    → (n + 1 < length ((low ++ high) ++ last ∷ []) → at ≤ get_or ((low ++ high) ++ last ∷ []) n 0) → n ≤ k
    → k + 1 < length ((low ++ high) ++ last ∷ []) → at ≤ get_or ((low ++ high) ++ last ∷ []) k 0
rest_after low high last at n k lows highs stops after within =
    let both : length (low ++ high) ≡ length low + length high = length-append low high in
    let all : length ((low ++ high) ++ last ∷ []) ≡ length low + length high + 1 =
    omega (arith, both, length-append (low ++ high) (last ∷ [])) in
    elim (cases_lt k (length low)) [
      | inl less ↦
          let own : get_or ((low ++ high) ++ last ∷ []) n 0 ≡ get_or low n 0 =
          get_or_append_left (low ++ high) (last ∷ []) 0 n (omega (arith, less, after, both))
          ∙ get_or_append_left low high 0 n (omega (arith, less, after)) in
          absurd (omega (arith, own, lows n (omega (arith, less, after)), stops (omega (arith, after, within))))
      | inr more ↦
          let own : get_or ((low ++ high) ++ last ∷ []) k 0 ≡ get_or high (k - length low) 0 =
          get_or_append_left (low ++ high) (last ∷ []) 0 k (omega (arith, within, all, both))
          ∙ get_or-append_right low high (length low) k 0 refl more in
          omega (arith, own, highs (k - length low) (omega (arith, within, all, more)))
    ]

module _ (nodes : List Node) (stored : IsStored nodes) (at : ℕ) (can : CanTake (trie_of nodes) at) where
  abbrev last : ℕ
  last = length nodes - 1

  abbrev above : ℕ
  above = (node_at nodes (length nodes - 1)).parent

  top : TrieNode
  top = trie_node_in nodes no_node

  within : at < length nodes
  within = omega (arith, can.within, length_trie_of nodes)

  parent_read : (i : ℕ) → i < length nodes → parent_at (trie_of nodes) i ≡ (node_at nodes i).parent
  parent_read i h =
      get_or-map (λ (t : TrieNode). t.parent) (trie_of nodes) i top 0 (omega (arith, h, length_trie_of nodes))
      ∙ ap (λ (t : TrieNode). t.parent) (here nodes i no_node top h)

  above_is : parent_at (trie_of nodes) (length (trie_of nodes) - 1) ≡ above
  above_is =
      ap (λ k. parent_at (trie_of nodes) (k - 1)) (length_trie_of nodes) ∙ parent_read last (omega (arith, within))

  below : above < at
  below = omega (arith, above_is, can.below)

  above_low : above < length nodes
  above_low = omega (arith, below, within)

  movable : IsMovable (trie_of nodes) at
  movable = record {
    trie = stored.trie;
    later = omega (arith, below);
    within = can.within;
    below = λ u.
        let own : (get_or (trie_of nodes) (length (trie_of nodes) - 1) u).parent ≡ above =
        ap (λ k. (get_or (trie_of nodes) (k - 1) u).parent) (length_trie_of nodes)
        ∙ ap (λ (t : TrieNode). t.parent) (here nodes last no_node u (omega (arith, within))) in
        omega (arith, own, below);
  }

  after : (n k : ℕ)
      → (n + 1 < length (child_ids (node_at nodes above).children)
      → at ≤ get_or (child_ids (node_at nodes above).children) n 0)
      → n ≤ k → k + 1 < length (child_ids (node_at nodes above).children)
      → at ≤ get_or (child_ids (node_at nodes above).children) k 0
  after n k stops later low =
      let s = (moved_answers top (trie_of nodes) at movable).above above top
      (ap (λ m. (get_or (trie_of nodes) (m - 1) top).parent) (length_trie_of nodes)
      ∙ ap (λ (t : TrieNode). t.parent) (here nodes last no_node top (omega (arith, within)))) in
      let ids : child_ids (node_at nodes above).children ≡ (s.low ++ s.high) ++ last ∷ [] =
      stored.kids above no_node above_low ∙ s.before
      ∙ ap (λ m. (s.low ++ s.high) ++ (m - 1) ∷ []) (length_trie_of nodes) in
      let is : at ≤ get_or ((s.low ++ s.high) ++ last ∷ []) k 0 =
      rest_after s.low s.high last at n k s.low_all s.high_all
      (λ h. omega (arith, stops (omega (arith, h, ap length ids)), ap (λ xs. get_or xs n 0) ids)) later
      (omega (arith, low, ap length ids)) in
      omega (arith, is, ap (λ xs. get_or xs k 0) ids)

  pub is_last : (n : ℕ) → n < length (child_ids (node_at nodes above).children)
      → ((k : ℕ) → k < n → get_or (child_ids (node_at nodes above).children) k 0 < at)
      → (n + 1 < length (child_ids (node_at nodes above).children)
      → at ≤ get_or (child_ids (node_at nodes above).children) n 0) → IsLast nodes at n
  is_last n low before stops = record {
    stored = stored;
    within = within;
    below = below;
    bare = stored.kids last no_node (omega (arith, within))
        ∙ ap (λ k. children_of (trie_of nodes) (k - 1)) (sym (length_trie_of nodes)) ∙ can.bare;
    keyed = sym (keyed_node nodes above no_node above_low) ∙ ap (holds_at (trie_of nodes)) (sym above_is) ∙ can.keyed;
    place = low;
    before = before;
    after = λ k. after n k stops;
    apart = λ same.
        let one : parent_at (trie_of nodes) (at - 1) ≡ (node_at nodes (at - 1)).parent =
        parent_read (at - 1) (omega (arith, within)) in
        let two : parent_at (trie_of nodes) at ≡ (node_at nodes at).parent = parent_read at within in
        let up : (node_at nodes at).parent < at =
        omega (
          arith,
          ap (λ (t : TrieNode). t.parent) (here nodes at no_node top within),
          stored.trie.parents at top (omega (arith, below)) (omega (arith, within, length_trie_of nodes)),
        ) in
        sym (keyed_node nodes (node_at nodes at).parent no_node (omega (arith, up, within)))
        ∙ ap (holds_at (trie_of nodes)) (sym two) ∙ can.apart (one ∙ same ∙ sym two);
  }
