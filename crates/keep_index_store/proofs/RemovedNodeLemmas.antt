-- The stored nodes, where one that has no children and is a child by key goes, and the tree of steps then.
--
-- Each step stays, as a later sibling has its key and its number both one place before (`part_stays`). So the tree of
-- steps is the old one without the node (`alike`), of which RemovedTrieLemmas knows all.
--
-- Theorems: `trie_all`, `paths_all`, `holdings_all` and `infos_all`.
use Rattle.std.proofs.Common.{◌≡◌, ℕ, ◌+◌, ◌<◌, List, [], length, get_or, refl, sym, ◌∙◌, ap, arith, inl, inr}
use Rattle.std.specs.Prelude.{slice_get}
use Rattle.std.specs.List.{remove}
use Rattle.std.proofs.lemmas.List.{get_or-map, length-map}
use Rattle.std.proofs.lemmas.Bool.{cases_eq}
use Rattle.keep_path.specs.NodeInfos.{earlier_number, later_number}
use Rattle.keep_path.specs.Path.{key}
use Rattle.keep_index_store.specs.AllNodes.{Node, no_node}
use Rattle.keep_index_store.specs.Children.{ChildList, Keyed, holds_of, named}
use Rattle.keep_index_store.specs.Facts.{info_of}
use Rattle.keep_index_store.specs.Removed.{IsLeaf, removed_nodes}
use Rattle.keep_index_store.specs.Stored.{step_at, step_in, trie_node_in, trie_of, infos_of}
use Rattle.keep_index_store.specs.Trie.{TrieNode, by_key, IsTrie, children_from, children_of, holdings_of, paths_of}
use Rattle.keep_index_store.proofs.GrowthLemmas.{IsAlike, links_alike, paths_alike, rest_same, trie_alike}
use Rattle.keep_index_store.proofs.StoredLemmas.{IsPlaced, here, holdings_are, length_trie_of, node_placed}
use Rattle.keep_index_store.proofs.StoredLemmas.{same_trie_node, states_are, step_below}
use Rattle.keep_index_store.proofs.MovedNodeLemmas.{map_through}
use Rattle.keep_index_store.proofs.RemovedListLemmas.{earlier_later, has_later, length-removed, map-removed}
use Rattle.keep_index_store.proofs.RemovedListLemmas.{read_earlier}
use Rattle.keep_index_store.proofs.RemovedPathLemmas.{IsRemovable, earlier_trie_node, removed_answers, removed_trie}
use Rattle.keep_index_store.proofs.RemovedReadLemmas.{children_other, children_own, count, earlier_within, gone_low}
use Rattle.keep_index_store.proofs.RemovedReadLemmas.{holds_is, holds_stay, leaves, number_far, number_near}
use Rattle.keep_index_store.proofs.RemovedReadLemmas.{number_other, parent_is, parent_other, role_is, step_stays}
use Rattle.keep_index_store.proofs.RemovedTrieLemmas.{trie_removed}

module _ (nodes : List Node) (at : ℕ) (r : IsLeaf nodes at) where
  abbrev all : List Node
  all = removed_nodes nodes at

  abbrev above : ℕ
  above = (get_or nodes at no_node).parent

  abbrev kids : ChildList
  kids = (get_or nodes above no_node).children

  abbrev place : ℕ
  place = (get_or nodes at no_node).number

  abbrev entries : List (List ℕ × ℕ)
  entries = remove (named kids) place

  top : TrieNode
  top = trie_node_in nodes no_node

  -- ---- the steps

  part_stays : (i : ℕ) → 0 < i → i < length nodes → (i ≡ at → ⊥)
      → step_in (slice_get all (get_or all (earlier_number at i) no_node).parent)
      (get_or all (earlier_number at i) no_node).number
      ≡ step_in (slice_get nodes (get_or nodes i no_node).parent) (get_or nodes i no_node).number
  part_stays i later h other =
      let p : ℕ = (get_or nodes i no_node).parent in
      let k : ℕ = (get_or nodes i no_node).number in
      let n : ℕ = (get_or all (earlier_number at i) no_node).number in
      let own : IsPlaced nodes i no_node = node_placed nodes r.stored i no_node later h in
      let low : p < length nodes = omega (arith, own.earlier, h) in
      let apart : p ≡ at → ⊥ = parent_other nodes at r i later h in
      ap (λ q. step_in (slice_get all q) n) (parent_is nodes at r i no_node h other)
      ∙ step_below all (earlier_number at p) no_node n (earlier_within nodes at r p low apart)
      ∙ (elim (cases_eq p above) [
        | inl near ↦
            ap (λ c. step_at (named c) (holds_of c) n) (children_own nodes at r p no_node near)
            ∙ step_stays at (Keyed entries) n
            ∙ ap (step_at entries by_key) (number_near nodes at r i no_node h other near)
            ∙ ap (λ (e : List ℕ × ℕ). key e.0)
            (read_earlier (named kids) place (gone_low nodes at r) k ([], 0)
            (number_other nodes at r i later h other near))
            ∙ ap (λ b. step_at (named kids) b k) (sym r.keyed)
            ∙ ap (λ q. step_at (named (get_or nodes q no_node).children) (holds_of (get_or nodes q no_node).children) k)
            (sym near)
        | inr far ↦
            ap (λ c. step_at (named c) (holds_of c) n) (children_other nodes at r p no_node low apart far)
            ∙ step_stays at (get_or nodes p no_node).children n
            ∙ ap (step_at (named (get_or nodes p no_node).children) (holds_of (get_or nodes p no_node).children))
            (number_far nodes at r i no_node h other far)
      ])
      ∙ sym (step_below nodes p no_node k low)

  pub removable : IsRemovable (trie_of nodes) at
  removable = record {
    trie = r.stored.trie;
    later = r.later;
    within = omega (arith, r.within, length_trie_of nodes);
    bare = sym (r.stored.kids at no_node r.within) ∙ r.bare;
  }

  abbrev steps : List TrieNode
  steps = removed_trie (trie_of nodes) at

  count_less : length (remove (trie_of nodes) at) + 1 ≡ length nodes
  count_less = omega (arith, length-removed (trie_of nodes) at removable.within, length_trie_of nodes)

  count_steps : length steps ≡ length all
  count_steps =
      let less : length steps ≡ length (remove (trie_of nodes) at) =
      length-map (remove (trie_of nodes) at) (earlier_trie_node at) in
      omega (arith, less, count_less, count nodes at r)

  steps_at : (i : ℕ) (u : TrieNode) → i < length nodes → (i ≡ at → ⊥)
      → get_or steps (earlier_number at i) u ≡ earlier_trie_node at (trie_node_in nodes (get_or nodes i no_node))
  steps_at i u h other =
      get_or-map (earlier_trie_node at) (remove (trie_of nodes) at) (earlier_number at i) top u
      (omega (arith, earlier_within nodes at r i h other, count nodes at r, count_less))
      ∙ ap (earlier_trie_node at)
      (read_earlier (trie_of nodes) at removable.within i top other ∙ here nodes i no_node top h)

  alike : IsAlike (trie_of all) steps
  alike = record {
    many = length_trie_of all ∙ sym count_steps;
    rest = rest_same (trie_of all) steps (length_trie_of all ∙ sym count_steps) (λ j u later h.
        let i : ℕ = later_number at j in
        let back : earlier_number at i ≡ j = earlier_later at j in
        let low : i < length nodes = omega (arith, h, length_trie_of all, count nodes at r, (has_later at j).near) in
        let first : 0 < i = omega (arith, later, (has_later at j).low) in
        let other : i ≡ at → ⊥ = (has_later at j).other in
        here all j no_node u (omega (arith, h, length_trie_of all))
        ∙ ap (λ k. trie_node_in all (get_or all k no_node)) (sym back)
        ∙ same_trie_node (parent_is nodes at r i no_node low other) (part_stays i first low other)
        (role_is nodes at r i no_node low other) (holds_is nodes at r i no_node low other)
        ∙ sym (ap (λ k. get_or steps k u) (sym back) ∙ steps_at i u low other));
    states = states_are all ∙ leaves nodes at r (λ (x : Node). x.facts.role) (λ x. refl) refl
        ∙ sym (map_through (λ (t : TrieNode). t.state) (earlier_trie_node at) (λ t. refl) (remove (trie_of nodes) at)
        ∙ map-removed (λ (t : TrieNode). t.state) (trie_of nodes) at ∙ ap (λ ss. remove ss at) (states_are nodes));
    holdings =
        holdings_are all
        ∙ leaves nodes at r (λ (x : Node). holds_of x.children) (λ x. holds_stay at x.children) (sym r.keyed)
        ∙ sym (map_through (λ (t : TrieNode). t.holds) (earlier_trie_node at) (λ t. refl) (remove (trie_of nodes) at)
        ∙ map-removed (λ (t : TrieNode). t.holds) (trie_of nodes) at ∙ ap (λ hs. remove hs at) (holdings_are nodes));
  }

  pub children_then : (i : ℕ) → children_of (trie_of all) i ≡ children_of steps i
  children_then i = ap (children_from 1 i) (links_alike alike)

  pub trie_all : IsTrie (trie_of all)
  trie_all = trie_alike alike (trie_removed (trie_of nodes) at removable)

  pub paths_all : paths_of (trie_of all) ≡ remove (paths_of (trie_of nodes)) at
  paths_all = paths_alike alike ∙ (removed_answers (trie_of nodes) at removable).paths

  pub holdings_all : holdings_of (trie_of all) ≡ remove (holdings_of (trie_of nodes)) at
  holdings_all =
      holdings_are all
      ∙ leaves nodes at r (λ (x : Node). holds_of x.children) (λ x. holds_stay at x.children) (sym r.keyed)
      ∙ ap (λ hs. remove hs at) (sym (holdings_are nodes))

  pub infos_all : infos_of all ≡ remove (infos_of nodes) at
  infos_all = leaves nodes at r (λ (x : Node). info_of x.facts) (λ x. refl) refl
