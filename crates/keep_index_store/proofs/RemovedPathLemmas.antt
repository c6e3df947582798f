-- The paths and the children of the nodes of a tree, where a node that has no children goes.
--
-- The links then are those from which the old ones come where the link of that node is put in (`links_back`): the
-- parent of no other node is the one that goes, so each number leads back. So what MovedTrieLemmas knows of a link that
-- is put in tells of the paths (`paths_removed`), and of the children: those of the parent but for the one that goes
-- (`own_children`), and all of the others (`other_children`), under the numbers that they have then.
--
-- Theorem: `removed_answers`.
use Rattle.std.proofs.Common.{◌≡◌, ℕ, zero, suc, ◌+◌, ◌-◌, ◌<◌, ◌≤◌, cond, List, [], ◌∷◌, ◌++◌, length, get_or}
use Rattle.std.proofs.Common.{take, drop, map, refl, sym, ◌∙◌, ap, subst, arith}
use Rattle.std.specs.Prelude.{fold, ◌==◌}
use Rattle.std.specs.List.{insert, remove}
use Rattle.std.proofs.lemmas.List.{get_or-map, length-map, length-take-le, map-append, take-append-drop}
use Rattle.std.proofs.lemmas.Bool.{eq-eqb, ne_eqb}
use Rattle.std.proofs.lemmas.Simd.{map-map}
use Rattle.keep_path.specs.NodeInfos.{earlier_number, later_number}
use Rattle.keep_path.specs.Path.{Part, index}
use Rattle.keep_index_store.specs.Trie.{TrieNode, link, path_after, paths_of, children_from, children_of, IsTrie}
use Rattle.keep_index_store.proofs.TrieLemmas.{IsAmongChildren, child_placed, children_at, length-paths}
use Rattle.keep_index_store.proofs.MovedListLemmas.{later_low, map-inserted}
use Rattle.keep_index_store.proofs.MovedTrieLemmas.{children_append, children_later, fold_inserted, later_link}
use Rattle.keep_index_store.proofs.MovedTrieLemmas.{map_cond}
use Rattle.keep_index_store.proofs.RemovedListLemmas.{earlier_high, earlier_low, has_earlier, has_later}
use Rattle.keep_index_store.proofs.RemovedListLemmas.{inserted_back, length-removed, map-removed, map_fixed}
use Rattle.keep_index_store.proofs.RemovedListLemmas.{read_removed, removed_back}

abbrev pub earlier_trie_node : ℕ → TrieNode → TrieNode
earlier_trie_node at u = record u { parent = earlier_number at u.parent }

abbrev pub removed_trie : List TrieNode → ℕ → List TrieNode
removed_trie ts at = map (earlier_trie_node at) (remove ts at)

-- a link whose parent has the number that it has then
abbrev earlier_link : ℕ → ℕ × Part → ℕ × Part
earlier_link at l = (earlier_number at l.0, l.1)

-- the node can go
pub record IsRemovable (ts : List TrieNode) (at : ℕ) : Type 0 where
  pub trie : IsTrie ts
  pub later : 0 < at
  pub within : at < length ts
  pub bare : children_of ts at ≡ []

-- ---- the children of links

children_same : (at n i : ℕ) (ls : List (ℕ × Part)) → n + length ls ≤ at
    → map (earlier_number at) (children_from n i ls) ≡ children_from n i ls
children_same at n i [] h = refl
children_same at n i (l ∷ ls) h =
    map_cond (earlier_number at) (l.0 == i) n n (children_from (n + 1) i ls) (children_from (n + 1) i ls)
    (earlier_low at n (omega (arith, h))) (children_same at (n + 1) i ls (omega (arith, h)))

children_less : (at n m i : ℕ) (ls : List (ℕ × Part)) → at < n → m + 1 ≡ n
    → map (earlier_number at) (children_from n i ls) ≡ children_from m i ls
children_less at n m i [] h is = refl
children_less at n m i (l ∷ ls) h is =
    map_cond (earlier_number at) (l.0 == i) n m (children_from (n + 1) i ls) (children_from (m + 1) i ls)
    (earlier_high at n h ∙ (let e : n - 1 ≡ m = omega (arith, is) in e))
    (children_less at (n + 1) (m + 1) i ls (omega (arith, h)) (omega (arith, is)))

-- the children of the parent of the node that goes, before and after
pub record IsAboveGone (ts : List TrieNode) (at i : ℕ) : Type 0 where
  pub low : List ℕ
  pub high : List ℕ
  pub before : children_of ts i ≡ low ++ at ∷ high
  pub after : children_of (removed_trie ts at) i ≡ map (earlier_number at) (low ++ high)
  pub low_all : (k : ℕ) → k < length low → get_or low k 0 < at
  pub high_all : (k : ℕ) → k < length high → at < get_or high k 0

-- all that is known of the tree then
pub record IsRemovedTrie (ts : List TrieNode) (at : ℕ) : Type 0 where
  pub paths : paths_of (removed_trie ts at) ≡ remove (paths_of ts) at
  pub other : (i : ℕ) (u : TrieNode) → ((get_or ts at u).parent ≡ i → ⊥)
      → children_of (removed_trie ts at) i ≡ map (earlier_number at) (children_of ts (later_number at i))
  pub above : (i : ℕ) (u : TrieNode) → (get_or ts at u).parent ≡ i → IsAboveGone ts at i

-- no node has it as its parent
pub parent_other : (ts : List TrieNode) (at : ℕ) → IsRemovable ts at → (i : ℕ) (u : TrieNode) → 0 < i → i < length ts
    → (get_or ts i u).parent ≡ at → ⊥
parent_other ts at m i u later h is =
    let r : IsAmongChildren i (children_of ts at) =
    subst (λ (p : ℕ). IsAmongChildren i (children_of ts p)) is (child_placed ts i u later h) in
    omega (arith, r.nested, ap length m.bare)

module _ (r : TrieNode) (rest : List TrieNode) (a : ℕ) (m : IsRemovable (r ∷ rest) (suc a)) where
  abbrev ts : List TrieNode
  ts = r ∷ rest

  abbrev at : ℕ
  at = suc a

  abbrev us : List TrieNode
  us = removed_trie (r ∷ rest) (suc a)

  abbrev links : List (ℕ × Part)
  links = map link rest

  abbrev l : ℕ × Part
  l = get_or (map link rest) a (0, index 0)

  abbrev ks : List (ℕ × Part)
  ks = map (earlier_link (suc a)) (remove (map link rest) a)

  few : length links ≡ length rest
  few = length-map rest link

  within : a < length links
  within = omega (arith, m.within, few)

  many : length ks + 1 ≡ length links
  many = omega (arith, length-map (remove links a) (earlier_link at), length-removed links a within)

  read : (j : ℕ) → j < length links → get_or links j (0, index 0) ≡ link (get_or ts (suc j) r)
  read j h = get_or-map link rest j r (0, index 0) (omega (arith, h, few))

  parent_low : (j : ℕ) → j < length links → (get_or links j (0, index 0)).0 < suc j
  parent_low j h =
      let up : (get_or ts (suc j) r).parent < suc j = m.trie.parents (suc j) r (omega arith) (omega (arith, h, few)) in
      omega (arith, ap (λ (k : ℕ × Part). k.0) (read j h), up)

  parent_far : (j : ℕ) → j < length links → (get_or links j (0, index 0)).0 ≡ at → ⊥
  parent_far j h is =
      parent_other ts at m (suc j) r (omega arith) (omega (arith, h, few))
      (sym (ap (λ (k : ℕ × Part). k.0) (read j h)) ∙ is)

  links_removed : drop 1 (map link us) ≡ ks
  links_removed =
      map-map link (earlier_trie_node at) (remove rest a) ∙ sym (map-map (earlier_link at) link (remove rest a))
      ∙ ap (map (earlier_link at)) (map-removed link rest a)

  -- each other link comes back, and so do all with the one that goes
  link_back : (j : ℕ) → j < length (remove links a)
      → later_link at (earlier_link at (get_or (remove links a) j (0, index 0)))
      ≡ get_or (remove links a) j (0, index 0)
  unfolding later_link
  link_back j h =
      let was : ℕ = later_number a j in
      let low : was < length links = omega (arith, h, (has_later a j).near, length-removed links a within) in
      ap (λ (k : ℕ × Part). later_link at (earlier_link at k)) (read_removed links a within j (0, index 0))
      ∙ ap (λ (n : ℕ). let k : ℕ × Part = (n, (get_or links was (0, index 0)).1) in k)
      (has_earlier at (get_or links was (0, index 0)).0 (parent_far was low)).back
      ∙ sym (read_removed links a within j (0, index 0))

  links_back : map (later_link at) (insert ks a l) ≡ links
  unfolding later_link
  links_back =
      map-inserted (later_link at) ks a l
      ∙ ap (λ (ls : List (ℕ × Part)). insert ls a (later_link at l))
      (map-map (later_link at) (earlier_link at) (remove links a)
      ∙ map_fixed (λ (k : ℕ × Part). later_link at (earlier_link at k)) (remove links a) (0, index 0) link_back)
      ∙ ap (λ (n : ℕ). let k : ℕ × Part = (n, l.1) in insert (remove links a) a k)
      (later_low at l.0 (parent_low a within))
      ∙ inserted_back links a (0, index 0) within

  low_links : (j : ℕ) (e : ℕ × Part) → j < a → (get_or ks j e).0 < suc a
  low_links j e h =
      let same : get_or ks j e ≡ earlier_link at (get_or links j (0, index 0)) =
      get_or-map (earlier_link at) (remove links a) j (0, index 0) e
      (omega (arith, h, within, length-removed links a within))
      ∙ ap (earlier_link at)
      (read_removed links a within j (0, index 0) ∙ ap (λ n. get_or links n (0, index 0)) ((has_later a j).below h)) in
      let up : (get_or links j (0, index 0)).0 < suc j = parent_low j (omega (arith, h, within)) in
      let stays : earlier_number at (get_or links j (0, index 0)).0 ≡ (get_or links j (0, index 0)).0 =
      earlier_low at (get_or links j (0, index 0)).0 (omega (arith, up, h)) in
      omega (arith, ap (λ (k : ℕ × Part). k.0) same, stays, up, h)

  paths_removed : paths_of us ≡ remove (paths_of ts) at
  paths_removed =
      let root : List (List Part) = [] ∷ [] in
      let p : List Part = get_or (fold path_after root ks) l.0 [] ++ l.1 ∷ [] in
      let was : paths_of ts ≡ insert (fold path_after root ks) at p =
      ap (fold path_after root) (sym links_back)
      ∙ fold_inserted ks l a (omega (arith, many, within)) (parent_low a within) low_links in
      ap (fold path_after root) links_removed
      ∙ sym (ap (λ (ps : List (List Part)). remove ps at) was
      ∙ removed_back (fold path_after root ks) at p (omega (arith, length-paths root ks, many, within)))

  -- the children before that node, and those after it as they were
  low : ℕ → List ℕ
  low i = children_from 1 i (take a ks)

  high : ℕ → List ℕ
  high i = children_from (suc a + 1) i (drop a ks)

  count : length (take a ks) ≡ a
  count = length-take-le a ks (omega (arith, many, within))

  low_stays : (i : ℕ) → map (earlier_number at) (low i) ≡ low i
  unfolding low
  low_stays i = children_same at 1 i (take a ks) (omega (arith, count))

  high_less : (i : ℕ) → map (earlier_number at) (high i) ≡ children_from (suc a) i (drop a ks)
  unfolding high
  high_less i = children_less at (suc a + 1) (suc a) i (drop a ks) (omega arith) (omega arith)

  children_before : (i : ℕ) → children_of ts (later_number at i) ≡ low i ++ cond (l.0 == i) (at ∷ high i) (high i)
  unfolding low high
  children_before i =
      ap (children_from 1 (later_number at i)) (sym links_back) ∙ children_later at 1 i (insert ks a l)
      ∙ children_append 1 i (take a ks) (l ∷ drop a ks) (suc a) (omega (arith, count))

  children_after : (i : ℕ) → children_of us i ≡ map (earlier_number at) (low i ++ high i)
  unfolding low
  children_after i =
      ap (children_from 1 i) (links_removed ∙ sym (take-append-drop a ks))
      ∙ children_append 1 i (take a ks) (drop a ks) (suc a) (omega (arith, count))
      ∙ ap (λ (ns : List ℕ). low i ++ ns) (sym (high_less i))
      ∙ ap (λ (ns : List ℕ). ns ++ map (earlier_number at) (high i)) (sym (low_stays i))
      ∙ sym (map-append (earlier_number at) (low i) (high i))

  other_children : (i : ℕ) → (l.0 ≡ i → ⊥)
      → children_of us i ≡ map (earlier_number at) (children_of ts (later_number at i))
  other_children i far =
      children_after i
      ∙ ap (map (earlier_number at))
      (sym (children_before i ∙ ap (λ b. low i ++ cond b (at ∷ high i) (high i)) (ne_eqb l.0 i far)))

  own_children : IsAboveGone ts at l.0
  unfolding low high
  own_children = record {
    low = low l.0;
    high = high l.0;
    before =
        ap (children_of ts) (sym (later_low at l.0 (parent_low a within))) ∙ children_before l.0
        ∙ ap (λ b. low l.0 ++ cond b (at ∷ high l.0) (high l.0)) (eq-eqb l.0 l.0 refl);
    after = children_after l.0;
    low_all = λ k h. let c = children_at 1 l.0 (take a ks) (0, index 0) k h in omega (arith, c.number, c.nested, count);
    high_all = λ k h. let c = children_at (suc a + 1) l.0 (drop a ks) (0, index 0) k h in omega (arith, c.number);
  }

  own_parent : (u : TrieNode) → (get_or ts at u).parent ≡ l.0
  own_parent u = ap (λ (k : ℕ × Part). k.0) (sym (get_or-map link rest a u (0, index 0) (omega (arith, within, few))))

  tells : IsRemovedTrie ts at
  tells = record {
    paths = paths_removed;
    other = λ i u far. other_children i (λ e. far (own_parent u ∙ e));
    above = λ i u is. subst (IsAboveGone ts at) (sym (own_parent u) ∙ is) own_children;
  }

pub removed_answers : (ts : List TrieNode) (at : ℕ) → IsRemovable ts at → IsRemovedTrie ts at
removed_answers [] at m = absurd (omega (arith, m.within))
removed_answers (r ∷ rest) zero m = absurd (omega (arith, m.later))
removed_answers (r ∷ rest) (suc a) m = tells r rest a m
