-- The tree of steps, where a node that has no children goes, is one.
--
-- Theorems: `above_removed` and `trie_removed`.
use Rattle.std.proofs.Common.{◌≡◌, ◌≢◌, ℕ, ◌+◌, ◌<◌, ◌≤◌, List, ◌∷◌, ◌++◌, length, get_or, map, sym, ◌∙◌, ap}
use Rattle.std.proofs.Common.{refl, subst, arith, inl, inr}
use Rattle.std.specs.Prelude.{AllPairs}
use Rattle.std.specs.List.{remove}
use Rattle.std.proofs.lemmas.List.{get_or-map, length-map}
use Rattle.std.proofs.lemmas.Bool.{cases_lt}
use Rattle.keep_path.specs.NodeInfos.{earlier_number, later_number}
use Rattle.keep_path.specs.Path.{Part}
use Rattle.keep_index_store.specs.Trie.{TrieNode, paths_of, children_of, IsTrie}
use Rattle.keep_index_store.proofs.TrieLemmas.{length-paths_of}
use Rattle.keep_index_store.proofs.RemovedListLemmas.{distinct_removed, earlier_high, has_earlier, has_later}
use Rattle.keep_index_store.proofs.RemovedListLemmas.{length-removed, read_removed, removed_between}
use Rattle.keep_index_store.proofs.RemovedPathLemmas.{IsRemovable, earlier_trie_node, parent_other, removed_answers}
use Rattle.keep_index_store.proofs.RemovedPathLemmas.{removed_trie}

-- the children of the parent but for the node that goes, which has that number among them
pub above_removed : (ts : List TrieNode) (at : ℕ) → IsRemovable ts at → (u : TrieNode) (n : ℕ)
    → n < length (children_of ts (get_or ts at u).parent) → get_or (children_of ts (get_or ts at u).parent) n 0 ≡ at
    → children_of (removed_trie ts at) (get_or ts at u).parent
    ≡ map (earlier_number at) (remove (children_of ts (get_or ts at u).parent) n)
above_removed ts at m u n h is =
    let s = (removed_answers ts at m).above (get_or ts at u).parent u refl in
    let there : get_or (s.low ++ at ∷ s.high) n 0 ≡ at = ap (λ (ks : List ℕ). get_or ks n 0) (sym s.before) ∙ is in
    let without : remove (children_of ts (get_or ts at u).parent) n ≡ s.low ++ s.high =
    ap (λ (ks : List ℕ). remove ks n) s.before
    ∙ removed_between s.low s.high at n s.low_all s.high_all (omega (arith, h, ap length s.before)) there in
    s.after ∙ ap (map (earlier_number at)) (sym without)

-- the tree is one
pub trie_removed : (ts : List TrieNode) (at : ℕ) → IsRemovable ts at → IsTrie (removed_trie ts at)
trie_removed ts at m =
    let many : length (removed_trie ts at) ≡ length (remove ts at) = length-map (remove ts at) (earlier_trie_node at) in
    let count : length (remove ts at) + 1 ≡ length ts = length-removed ts at m.within in
    let seen : length (paths_of ts) ≡ length ts = length-paths_of ts m.trie.root in
    record {
      root = omega (arith, many, count, m.later, m.within);
      parents = λ j u low h.
          let i : ℕ = later_number at j in
          let later : 0 < i = omega (arith, low, (has_later at j).low) in
          let inside : i < length ts = omega (arith, h, many, count, (has_later at j).near) in
          let own : (get_or (removed_trie ts at) j u).parent ≡ earlier_number at (get_or ts i u).parent =
          ap (λ (t : TrieNode). t.parent)
          (get_or-map (earlier_trie_node at) (remove ts at) j u u (omega (arith, h, many)))
          ∙ ap (λ (t : TrieNode). earlier_number at t.parent) (read_removed ts at m.within j u) in
          let e = has_earlier at (get_or ts i u).parent (parent_other ts at m i u later inside) in
          let up : (get_or ts i u).parent < i = m.trie.parents i u later inside in
          elim (cases_lt j at) [
            | inl below ↦ omega (arith, own, e.low, up, (has_later at j).below below)
            | inr past ↦ elim (cases_lt (get_or ts i u).parent at) [
              | inl near ↦ omega (arith, own, e.low, near, past)
              | inr far ↦
                  parent_past j (get_or ts i u).parent at far (parent_other ts at m i u later inside) own
                  (omega (arith, up, (has_later at j).near))
            ]
          ];
      distinct =
          let P : List (List Part) → Type 0 = AllPairs (λ p q. p ≢ q) in
          subst P (sym (removed_answers ts at m).paths)
          (distinct_removed (paths_of ts) at (omega (arith, seen, m.within)) m.trie.distinct);
    }
  where
    parent_past : (j p at : ℕ) → at ≤ p → (p ≡ at → ⊥) → {n : ℕ} → n ≡ earlier_number at p → p < j + 1 → n < j
    parent_past j p at high far {n = n} is up = elim (cases_lt at p) [
      | inl more ↦ omega (arith, is, earlier_high at p more, up, more)
      | inr same ↦ absurd (far (omega (arith, high, same)))
    ]
