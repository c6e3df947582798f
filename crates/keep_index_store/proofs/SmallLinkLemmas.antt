-- In a stored tree each parent is an earlier node, and the number of a node among its siblings is less than how many
-- nodes there are. So where there are few nodes, each parent link can grow in 32 bits, but for the root's, of which
-- nothing is known.
--
-- Theorems: `few_kids` and `links_small_below`.
use Rattle.std.proofs.Common.{◌≡◌, ℕ, ◌+◌, ◌-◌, ◌<◌, ◌≤◌, ◌^◌, true, false, cond, All, List, [], ◌∷◌, length}
use Rattle.std.proofs.Common.{get_or, drop, map, ap, arith, inl, inr, subst}
use Rattle.std.specs.Prelude.{◌==◌}
use Rattle.std.proofs.lemmas.Bool.{cases_lt}
use Rattle.std.proofs.lemmas.List.{get_or_default, length-drop, length-map}
use Rattle.keep_path.specs.Path.{Part}
use Rattle.keep_index_store.specs.AllNodes.{HasSmallLink, Node, no_node, node_at}
use Rattle.keep_index_store.specs.Children.{child_ids}
use Rattle.keep_index_store.specs.Stored.{IsStored, trie_of}
use Rattle.keep_index_store.specs.Trie.{children_from, link}
use Rattle.keep_index_store.proofs.StoredLemmas.{IsPlaced, length_trie_of, node_placed}

few_from : (n i : ℕ) (ls : List (ℕ × Part)) → length (children_from n i ls) ≤ length ls
few_from n i [] = omega arith
few_from n i (l ∷ ls) =
    let rest : List ℕ = children_from (n + 1) i ls in
    let few : length rest ≤ length ls = few_from (n + 1) i ls in
    elim (l.0 == i) as (λ b. length (cond b (n ∷ rest) rest) ≤ length (l ∷ ls)) [
      | true ↦ omega (arith, few)
      | false ↦ omega (arith, few)
    ]

module _ (nodes : List Node) (stored : IsStored nodes) where
  pub few_kids : (i : ℕ) (d : Node) → i < length nodes → length (child_ids (get_or nodes i d).children) < length nodes
  few_kids i d low =
      omega (
        arith,
        low,
        ap length (stored.kids i d low),
        few_from 1 i (drop 1 (map link (trie_of nodes))),
        length-drop 1 (map link (trie_of nodes)),
        length-map (trie_of nodes) link,
        length_trie_of nodes,
      )

  pub links_small_below : length nodes < 2 ^ 32 - 1 → HasSmallLink (node_at nodes 0) → All HasSmallLink nodes
  links_small_below few root k d low = elim (cases_lt 0 k) [
    | inl later ↦
        let placed : IsPlaced nodes k d = node_placed nodes stored k d later low in
        let kids = few_kids (get_or nodes k d).parent d (omega (arith, placed.earlier, low)) in
        (omega (arith, placed.earlier, low, few), omega (arith, placed.low, kids, few))
    | inr none ↦
        let first : 0 ≡ k = omega (arith, none) in
        subst (λ (j : ℕ). HasSmallLink (get_or nodes j d)) first
        (subst HasSmallLink (get_or_default nodes 0 no_node d (omega (arith, first, low))) root)
  ]
