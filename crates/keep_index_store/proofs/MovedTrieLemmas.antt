-- The tree of steps, where the last node takes the number of an earlier one.
--
-- The paths are built from the links in their order. The new link is put before those from `at` on, whose parents have
-- their new numbers, so each is read where it then is, and the path is put in the same place (`paths_moved`). The
-- children of a node are those that it had, under their new numbers, but that the new node comes in front of its later
-- siblings (`children_moved`); the new node has none (`children_none`).
--
-- Theorems: `paths_moved`, `trie_moved`, `children_moved`, `children_none`.
use Rattle.std.proofs.Common.{◌≡◌, ◌≢◌, ℕ, zero, suc, ◌+◌, ◌-◌, ◌<◌, ◌≤◌, true, false, cond, Bool, List, [], ◌∷◌, ◌++◌}
use Rattle.std.proofs.Common.{length, get_or, take, drop, map, refl, sym, ◌∙◌, ap, subst, arith, length-append, inl}
use Rattle.std.proofs.Common.{inr}
use Rattle.std.specs.Prelude.{fold, ◌==◌, AllPairs}
use Rattle.std.specs.List.{insert}
use Rattle.std.proofs.lemmas.List.{append-nil, get_or_append_left, get_or-map, get_or-take, get_or_push, length-map}
use Rattle.std.proofs.lemmas.List.{length-take-le, length-drop, map-append, take-append-drop}
use Rattle.std.proofs.lemmas.List.Edits.{insert_end, insert-append_left, get_or-insert_below, get_or-insert_above}
use Rattle.std.proofs.lemmas.List.Sums.{fold-append}
use Rattle.std.proofs.lemmas.Bool.{cases_lt, cases_eq, ne_eqb}
use Rattle.std.proofs.lemmas.Bool.Decides.{Decides-eqb}
use Rattle.keep_path.specs.Path.{Part}
use Rattle.keep_path.specs.NodeInfos.{later_number}
use Rattle.keep_index_store.specs.Moved.{with_last_at, moved_number}
use Rattle.keep_index_store.specs.Trie.{TrieNode, link, path_after, paths_of, path_at, children_from, children_of}
use Rattle.keep_index_store.specs.Trie.{IsTrie}
use Rattle.keep_index_store.proofs.TrieLemmas.{length-paths, length-paths_of, preserved, children_at}
use Rattle.keep_index_store.proofs.GrowthLemmas.{paths_pushed}
use Rattle.keep_index_store.proofs.MovedListLemmas.{later_low, later_high, moved_last, moved_other, ends_in}
use Rattle.keep_index_store.proofs.MovedListLemmas.{last_inserted, map-inserted, length-last, read_last, from}
use Rattle.keep_index_store.proofs.MovedListLemmas.{distinct_last}

-- a link whose parent has its new number
unfoldable pub later_link : ℕ → ℕ × Part → ℕ × Part
later_link at l = (later_number at l.0, l.1)

abbrev pub later_trie_node : ℕ → TrieNode → TrieNode
later_trie_node at u = record u { parent = later_number at u.parent }

-- ---- the paths of links

get_later : (q : List (List Part)) (at : ℕ) (p : List Part) (c : ℕ) → at ≤ length q
    → get_or (insert q at p) (later_number at c) [] ≡ get_or q c []
get_later q at p c h = elim (cases_lt c at) [
  | inl below ↦ ap (λ j. get_or (insert q at p) j []) (later_low at c below) ∙ get_or-insert_below q at p [] c below h
  | inr above ↦
      ap (λ j. get_or (insert q at p) j []) (later_high at c above ∙ (let e : suc c ≡ c + 1 = omega arith in e))
      ∙ get_or-insert_above q at p [] c above h
]

fold_later : (at : ℕ) (q : List (List Part)) (p : List Part) (ls : List (ℕ × Part)) → at ≤ length q
    → fold path_after (insert q at p) (map (later_link at) ls) ≡ insert (fold path_after q ls) at p
unfolding later_link
fold_later at q p [] h = refl
fold_later at q p (l ∷ ls) h =
    let own : List Part = get_or q l.0 [] ++ l.1 ∷ [] in
    let step : path_after (insert q at p) (later_link at l) ≡ insert (path_after q l) at p =
    ap (λ (above : List Part). insert q at p ++ (above ++ l.1 ∷ []) ∷ []) (get_later q at p l.0 h)
    ∙ sym (insert-append_left q (own ∷ []) at p h) in
    ap (λ (qs : List (List Part)). fold path_after qs (map (later_link at) ls)) step
    ∙ fold_later at (path_after q l) p ls (omega (arith, length-append q (own ∷ [])))

links_low : (at : ℕ) (ls : List (ℕ × Part)) → ((j : ℕ) (e : ℕ × Part) → j < length ls → (get_or ls j e).0 < at)
    → map (later_link at) ls ≡ ls
unfolding later_link
links_low at [] low = refl
links_low at (l ∷ ls) low =
    let more : map (later_link at) ls ≡ ls = links_low at ls (λ j e h. low (suc j) e (omega arith)) in
    ap (λ (n : ℕ). (n, l.1) ∷ map (later_link at) ls) (later_low at l.0 (low 0 l (omega arith)))
    ∙ ap (λ (ks : List (ℕ × Part)). l ∷ ks) more

pub fold_inserted : (ls : List (ℕ × Part)) (l : ℕ × Part) (a : ℕ) → a ≤ length ls → l.0 < suc a
    → ((j : ℕ) (e : ℕ × Part) → j < a → (get_or ls j e).0 < suc a)
    → fold path_after ([] ∷ []) (map (later_link (suc a)) (insert ls a l))
    ≡ insert (fold path_after ([] ∷ []) ls) (suc a) (get_or (fold path_after ([] ∷ []) ls) l.0 [] ++ l.1 ∷ [])
unfolding later_link
fold_inserted ls l a within up low =
    let at : ℕ = suc a in
    let root : List (List Part) = [] ∷ [] in
    let few : length (take a ls) ≡ a = length-take-le a ls within in
    let P : List (List Part) = fold path_after root (take a ls) in
    let count : length P ≡ at = omega (arith, length-paths root (take a ls), few) in
    let all : fold path_after P (drop a ls) ≡ fold path_after root ls =
    sym (fold-append path_after root (take a ls) (drop a ls)) ∙ ap (fold path_after root) (take-append-drop a ls) in
    let q : List Part = get_or P l.0 [] ++ l.1 ∷ [] in
    let q_is : q ≡ get_or (fold path_after root ls) l.0 [] ++ l.1 ∷ [] =
    ap (λ (above : List Part). above ++ l.1 ∷ [])
    (sym (preserved P (drop a ls) l.0 [] (omega (arith, up, count)))
    ∙ ap (λ (qs : List (List Part)). get_or qs l.0 []) all) in
    let first : map (later_link at) (take a ls) ≡ take a ls =
    links_low at (take a ls) (λ j e h.
    omega (
      arith,
      low j e (omega (arith, h, few)),
      ap (λ (k : ℕ × Part). k.0) (get_or-take a ls j e (omega (arith, h, few))),
    )) in
    let step : path_after P (later_link at l) ≡ insert P at q =
    ap (λ (n : ℕ). P ++ (get_or P n [] ++ l.1 ∷ []) ∷ []) (later_low at l.0 up) ∙ sym (insert_end P q)
    ∙ ap (λ (n : ℕ). insert P n q) count in
    ap (fold path_after root) (map-append (later_link at) (take a ls) (l ∷ drop a ls)
    ∙ ap (λ (ks : List (ℕ × Part)). ks ++ later_link at l ∷ map (later_link at) (drop a ls)) first)
    ∙ fold-append path_after root (take a ls) (later_link at l ∷ map (later_link at) (drop a ls))
    ∙ ap (λ (qs : List (List Part)). fold path_after qs (map (later_link at) (drop a ls))) step
    ∙ fold_later at P q (drop a ls) (omega (arith, count))
    ∙ ap (λ (qs : List (List Part)). insert qs at q) all ∙ ap (insert (fold path_after root ls) at) q_is

-- ---- the children of links

same_test : (a b c d : ℕ) → (a ≡ b → c ≡ d) → (c ≡ d → a ≡ b) → (a == b) ≡ (c == d)
same_test a b c d there back = elim (cases_eq a b) [
  | inl same ↦ (Decides-eqb a b).1 same ∙ sym ((Decides-eqb c d).1 (there same))
  | inr other ↦ ne_eqb a b other ∙ sym (ne_eqb c d (λ e. other (back e)))
]

later_injective : (at a b : ℕ) → later_number at a ≡ later_number at b → a ≡ b
later_injective at a b same = elim (cases_lt a at) [
  | inl low ↦ elim (cases_lt b at) [
    | inl low' ↦ omega (arith, same, later_low at a low, later_low at b low')
    | inr high ↦ absurd (omega (arith, same, later_low at a low, later_high at b high))
  ]
  | inr high ↦ elim (cases_lt b at) [
    | inl low ↦ absurd (omega (arith, same, later_high at a high, later_low at b low))
    | inr high' ↦ omega (arith, same, later_high at a high, later_high at b high')
  ]
]

never_at : (at a : ℕ) → later_number at a ≡ at → ⊥
never_at at a is = elim (cases_lt a at) [
  | inl low ↦ absurd (omega (arith, is, later_low at a low))
  | inr high ↦ absurd (omega (arith, is, later_high at a high))
]

pub children_later : (at n i : ℕ) (ls : List (ℕ × Part))
    → children_from n (later_number at i) (map (later_link at) ls) ≡ children_from n i ls
unfolding later_link
children_later at n i [] = refl
children_later at n i (l ∷ ls) =
    let more = children_later at (n + 1) i ls in
    let rest : List ℕ = children_from (n + 1) (later_number at i) (map (later_link at) ls) in
    ap (λ b. cond b (n ∷ rest) rest)
    (same_test (later_number at l.0) (later_number at i) l.0 i (later_injective at l.0 i) (ap (later_number at)))
    ∙ ap (λ (ks : List ℕ). cond (l.0 == i) (n ∷ ks) ks) more

children_of_new : (at n : ℕ) (ls : List (ℕ × Part)) → children_from n at (map (later_link at) ls) ≡ []
unfolding later_link
children_of_new at n [] = refl
children_of_new at n (l ∷ ls) =
    let rest : List ℕ = children_from (n + 1) at (map (later_link at) ls) in
    ap (λ b. cond b (n ∷ rest) rest) (ne_eqb (later_number at l.0) at (never_at at l.0)) ∙ children_of_new at (n + 1) ls

pub children_append : (n i : ℕ) (ls ks : List (ℕ × Part)) (m : ℕ) → n + length ls ≡ m
    → children_from n i (ls ++ ks) ≡ children_from n i ls ++ children_from m i ks
children_append n i [] ks m is = ap (λ k. children_from k i ks) (let e : n ≡ m = omega arith in e)
children_append n i (l ∷ ls) ks m is =
    let more = children_append (n + 1) i ls ks m (omega arith) in
    elim (l.0 == i) as (λ b. cond b (n ∷ children_from (n + 1) i (ls ++ ks)) (children_from (n + 1) i (ls ++ ks))
    ≡ cond b (n ∷ children_from (n + 1) i ls) (children_from (n + 1) i ls) ++ children_from m i ks) [
      | true ↦ ap (λ hs. n ∷ hs) more
      | false ↦ more
    ]

pub map_cond : (f : ℕ → ℕ) (b : Bool) (n m : ℕ) (xs ys : List ℕ) → f n ≡ m → map f xs ≡ ys
    → map f (cond b (n ∷ xs) xs) ≡ cond b (m ∷ ys) ys
map_cond f true n m xs ys e more = ap (λ (k : ℕ). k ∷ map f xs) e ∙ ap (λ (ks : List ℕ). m ∷ ks) more
map_cond f false n m xs ys e more = more

children_low : (last at n i : ℕ) (ls : List (ℕ × Part)) → n + length ls ≤ at → at ≤ last
    → map (moved_number last at) (children_from n i ls) ≡ children_from n i ls
children_low last at n i [] h g = refl
children_low last at n i (l ∷ ls) h g =
    map_cond (moved_number last at) (l.0 == i) n n (children_from (n + 1) i ls) (children_from (n + 1) i ls)
    (moved_other last at n (λ e. absurd (omega arith)) ∙ later_low at n (omega arith))
    (children_low last at (n + 1) i ls (omega arith) g)

children_high : (last at n m i : ℕ) (ls : List (ℕ × Part)) → at ≤ n → n + length ls ≤ last → n + 1 ≡ m
    → map (moved_number last at) (children_from n i ls) ≡ children_from m i ls
children_high last at n m i [] h g is = refl
children_high last at n m i (l ∷ ls) h g is =
    map_cond (moved_number last at) (l.0 == i) n m (children_from (n + 1) i ls) (children_from (m + 1) i ls)
    (moved_other last at n (λ e. absurd (omega arith)) ∙ later_high at n h
    ∙ (let e : suc n ≡ m = omega (arith, is) in e))
    (children_high last at (n + 1) (m + 1) i ls (omega arith) (omega arith) (omega (arith, is)))

-- ---- the nodes of a tree

-- the last node can take that number
pub record IsMovable (ts : List TrieNode) (at : ℕ) : Type 0 where
  pub trie : IsTrie ts
  pub later : 0 < at
  pub within : at < length ts
  pub below : (u : TrieNode) → (get_or ts (length ts - 1) u).parent < at

abbrev pub moved_trie : TrieNode → List TrieNode → ℕ → List TrieNode
moved_trie d ts at = map (later_trie_node at) (with_last_at d ts at)

links_later : (at : ℕ) (us : List TrieNode) → map link (map (later_trie_node at) us) ≡ map (later_link at) (map link us)
unfolding later_link
links_later at [] = refl
links_later at (u ∷ us) = ap (λ (ls : List (ℕ × Part)). later_link at (link u) ∷ ls) (links_later at us)

-- the root, the others but the last, and the last
record IsSplit (ts : List TrieNode) (at : ℕ) : Type 0 where
  pub root : TrieNode
  pub rest : List TrieNode
  pub last : TrieNode
  pub before : ℕ
  pub is : ts ≡ (root ∷ rest) ++ last ∷ []
  pub at_is : at ≡ suc before

split_front : (front : List TrieNode) (l : TrieNode) (at : ℕ) → 0 < at → at ≤ length front
    → IsSplit (front ++ l ∷ []) at
split_front [] l at later within = absurd (omega arith)
split_front (r ∷ rest) l zero later within = absurd (omega arith)
split_front (r ∷ rest) l (suc a) later within =
    record { root = r; rest = rest; last = l; before = a; is = refl; at_is = refl }

split : (ts : List TrieNode) (at : ℕ) → IsMovable ts at → IsSplit ts at
split ts at m =
    let r = ends_in ts (omega (arith, m.within)) in
    subst (λ (xs : List TrieNode). IsSplit xs at) (sym r.is)
    (split_front r.front r.last at m.later
    (omega (arith, m.within, ap length r.is, length-append r.front (r.last ∷ []))))

module _ (d r : TrieNode) (rest : List TrieNode) (l : TrieNode) (a : ℕ)
    (m : IsMovable ((r ∷ rest) ++ l ∷ []) (suc a)) where
  abbrev ts : List TrieNode
  ts = (r ∷ rest) ++ l ∷ []

  abbrev us : List TrieNode
  us = moved_trie d ts (suc a)

  abbrev links : List (ℕ × Part)
  links = map link rest

  few : length links ≡ length rest
  few = length-map rest link

  within : a ≤ length rest
  within = omega (arith, m.within, length-append rest (l ∷ []))

  own : (u : TrieNode) → get_or ts (length ts - 1) u ≡ l
  own u = get_or_push (r ∷ rest) l u (length ts - 1) (omega (arith, length-append rest (l ∷ [])))

  below : l.parent < suc a
  below = omega (arith, m.below l, ap (λ (t : TrieNode). t.parent) (own l))

  links_moved : drop 1 (map link us) ≡ map (later_link (suc a)) (insert links a (link l))
  links_moved =
      ap (λ (xs : List TrieNode). drop 1 (map link (map (later_trie_node (suc a)) xs)))
      (last_inserted d (r ∷ rest) l (suc a))
      ∙ links_later (suc a) (insert rest a l) ∙ ap (map (later_link (suc a))) (map-inserted link rest a l)

  paths_split : paths_of us ≡ with_last_at [] (paths_of ts) (suc a)
  paths_split =
      ap (fold path_after ([] ∷ [])) links_moved
      ∙ fold_inserted links (link l) a (omega (arith, within, few)) below (λ j e h.
      let same : get_or links j e ≡ link (get_or ts (suc j) l) =
      get_or-map link rest j l e (omega (arith, h, within))
      ∙ ap link (sym (get_or_append_left rest (l ∷ []) l j (omega (arith, h, within)))) in
      omega (
        arith,
        h,
        ap (λ (k : ℕ × Part). k.0) same,
        m.trie.parents (suc j) l (omega arith) (omega (arith, h, m.within)),
      ))
      ∙ sym (ap (λ (ps : List (List Part)). with_last_at [] ps (suc a)) (paths_pushed (r ∷ rest) l (omega arith))
      ∙ last_inserted [] (paths_of (r ∷ rest)) (path_at (r ∷ rest) l.parent ++ l.part ∷ []) (suc a))

  -- the children before `at` and those from it on, and the new node if it is a child
  low : ℕ → List ℕ
  low i = children_from 1 i (take a links)

  high : ℕ → List ℕ
  high i = children_from (suc a) i (drop a links)

  last_alone : ℕ → List ℕ
  last_alone i = cond (l.parent == i) ((length ts - 1) ∷ []) []

  new_alone : ℕ → List ℕ
  new_alone i = cond (l.parent == i) (suc a ∷ []) []

  renumbered : ℕ → ℕ
  renumbered = moved_number (length ts - 1) (suc a)

  count : length (take a links) ≡ a
  count = length-take-le a links (omega (arith, within, few))

  children_before : (i : ℕ) → children_of ts i ≡ (low i ++ high i) ++ last_alone i
  unfolding low high last_alone
  children_before i =
      ap (children_from 1 i) (map-append link rest (l ∷ []))
      ∙ children_append 1 i links (link l ∷ []) (length ts - 1) (omega (arith, few, length-append rest (l ∷ [])))
      ∙ ap (λ (ks : List ℕ). ks ++ last_alone i)
      (ap (children_from 1 i) (sym (take-append-drop a links))
      ∙ children_append 1 i (take a links) (drop a links) (suc a) (omega (arith, count)))

  cond_first : (b : Bool) (n : ℕ) (ns : List ℕ) → cond b (n ∷ ns) ns ≡ cond b (n ∷ []) [] ++ ns
  cond_first true n ns = refl
  cond_first false n ns = refl

  low_stays : (i : ℕ) → map renumbered (low i) ≡ low i
  unfolding low renumbered
  low_stays i = children_low (length ts - 1) (suc a) 1 i (take a links) (omega (arith, count)) (omega (arith, m.within))

  high_moves : (i : ℕ) → map renumbered (high i) ≡ children_from (suc (suc a)) i (drop a links)
  unfolding high renumbered
  high_moves i =
      children_high (length ts - 1) (suc a) (suc a) (suc (suc a)) i (drop a links) (omega arith)
      (omega (arith, within, few, length-drop a links, length-append rest (l ∷ []))) (omega arith)

  children_after : (i : ℕ)
      → children_of us (later_number (suc a) i) ≡ map renumbered (low i) ++ (new_alone i ++ map renumbered (high i))
  unfolding low high new_alone
  children_after i =
      ap (children_from 1 (later_number (suc a) i)) links_moved ∙ children_later (suc a) 1 i (insert links a (link l))
      ∙ children_append 1 i (take a links) (link l ∷ drop a links) (suc a) (omega (arith, count))
      ∙ ap (λ (ks : List ℕ). low i ++ ks)
      (cond_first (l.parent == i) (suc a) (children_from (suc a + 1) i (drop a links)))
      ∙ ap (λ (ks : List ℕ). low i ++ (new_alone i ++ ks))
      (ap (λ n. children_from n i (drop a links)) (let e : suc a + 1 ≡ suc (suc a) = omega arith in e)
      ∙ sym (high_moves i))
      ∙ ap (λ (ks : List ℕ). ks ++ (new_alone i ++ map renumbered (high i))) (sym (low_stays i))

  none_split : children_of us (suc a) ≡ []
  none_split = ap (children_from 1 (suc a)) links_moved ∙ children_of_new (suc a) 1 (insert links a (link l))

  high_all : (i k : ℕ) → k < length (high i) → suc a ≤ get_or (high i) k 0
  unfolding high
  high_all i k h = omega (arith, (children_at (suc a) i (drop a links) (link l) k h).number)

  low_all : (i k : ℕ) → k < length (low i) → get_or (low i) k 0 < suc a
  unfolding low
  low_all i k h = let r = children_at 1 i (take a links) (link l) k h in omega (arith, r.number, r.nested, count)

  -- below a node that is not the parent of the last
  other_split : (i : ℕ) → (l.parent ≡ i → ⊥)
      → children_of us (later_number (suc a) i) ≡ map renumbered (children_of ts i)
  unfolding last_alone new_alone
  other_split i other =
      children_after i
      ∙ ap (λ b. map renumbered (low i) ++ (cond b (suc a ∷ []) [] ++ map renumbered (high i)))
      (ne_eqb l.parent i other)
      ∙ sym (ap (map renumbered) (children_before i
      ∙ ap (λ b. (low i ++ high i) ++ cond b ((length ts - 1) ∷ []) []) (ne_eqb l.parent i other)
      ∙ append-nil (low i ++ high i))
      ∙ map-append renumbered (low i) (high i))

  -- below its parent
  own_before : children_of ts l.parent ≡ (low l.parent ++ high l.parent) ++ (length ts - 1) ∷ []
  unfolding last_alone
  own_before =
      children_before l.parent
      ∙ ap (λ b. (low l.parent ++ high l.parent) ++ cond b ((length ts - 1) ∷ []) [])
      ((Decides-eqb l.parent l.parent).1 refl)

  own_after : children_of us (later_number (suc a) l.parent)
      ≡ map renumbered (low l.parent ++ (length ts - 1) ∷ high l.parent)
  unfolding new_alone renumbered
  own_after =
      children_after l.parent
      ∙ ap (λ b. map renumbered (low l.parent) ++ (cond b (suc a ∷ []) [] ++ map renumbered (high l.parent)))
      ((Decides-eqb l.parent l.parent).1 refl)
      ∙ ap (λ n. map renumbered (low l.parent) ++ n ∷ map renumbered (high l.parent))
      (sym (moved_last (length ts - 1) (suc a) (length ts - 1) refl))
      ∙ sym (map-append renumbered (low l.parent) ((length ts - 1) ∷ high l.parent))

-- the parent of the last node: its children before and after, of which `low` and `high` are those before `at` and from
-- it on
pub record IsAbove (d : TrieNode) (ts : List TrieNode) (at i : ℕ) : Type 0 where
  pub low : List ℕ
  pub high : List ℕ
  pub before : children_of ts i ≡ (low ++ high) ++ (length ts - 1) ∷ []
  pub after : children_of (moved_trie d ts at) (later_number at i)
      ≡ map (moved_number (length ts - 1) at) (low ++ (length ts - 1) ∷ high)
  pub low_all : (k : ℕ) → k < length low → get_or low k 0 < at
  pub high_all : (k : ℕ) → k < length high → at ≤ get_or high k 0

-- all that is known of the tree then
pub record IsMovedTrie (d : TrieNode) (ts : List TrieNode) (at : ℕ) : Type 0 where
  pub paths : paths_of (moved_trie d ts at) ≡ with_last_at [] (paths_of ts) at
  pub none : children_of (moved_trie d ts at) at ≡ []
  pub other : (i : ℕ) (u : TrieNode) → ((get_or ts (length ts - 1) u).parent ≡ i → ⊥)
      → children_of (moved_trie d ts at) (later_number at i) ≡ map (moved_number (length ts - 1) at) (children_of ts i)
  pub above : (i : ℕ) (u : TrieNode) → (get_or ts (length ts - 1) u).parent ≡ i → IsAbove d ts at i

moved_split : (d r : TrieNode) (rest : List TrieNode) (l : TrieNode) (a : ℕ) → IsMovable ((r ∷ rest) ++ l ∷ []) (suc a)
    → IsMovedTrie d ((r ∷ rest) ++ l ∷ []) (suc a)
unfolding renumbered
moved_split d r rest l a m = record {
  paths = paths_split d r rest l a m;
  none = none_split d r rest l a m;
  other = λ i u far.
      other_split d r rest l a m i (λ e. far (ap (λ (t : TrieNode). t.parent) (own d r rest l a m u) ∙ e));
  above = λ i u is.
      subst (IsAbove d ((r ∷ rest) ++ l ∷ []) (suc a))
      (sym (ap (λ (t : TrieNode). t.parent) (own d r rest l a m u)) ∙ is)
      (let p : IsAbove d ((r ∷ rest) ++ l ∷ []) (suc a) l.parent = record {
        low = low d r rest l a m l.parent;
        high = high d r rest l a m l.parent;
        before = own_before d r rest l a m;
        after = own_after d r rest l a m;
        low_all = low_all d r rest l a m l.parent;
        high_all = high_all d r rest l a m l.parent;
      } in p);
}

pub moved_answers : (d : TrieNode) (ts : List TrieNode) (at : ℕ) → IsMovable ts at → IsMovedTrie d ts at
moved_answers d ts at m =
    let s = split ts at m in
    let cut : List TrieNode = (s.root ∷ s.rest) ++ s.last ∷ [] in
    let m' : IsMovable cut (suc s.before) =
    subst (λ (n : ℕ). IsMovable cut n) s.at_is (subst (λ (xs : List TrieNode). IsMovable xs at) s.is m) in
    subst (λ (xs : List TrieNode). IsMovedTrie d xs at) (sym s.is)
    (subst (λ (n : ℕ). IsMovedTrie d cut n) (sym s.at_is) (moved_split d s.root s.rest s.last s.before m'))

-- the tree is one
pub trie_moved : (d : TrieNode) (ts : List TrieNode) (at : ℕ) → IsMovable ts at → IsTrie (moved_trie d ts at)
trie_moved d ts at m =
    let ws : List TrieNode = with_last_at d ts at in
    let many : length ws ≡ length ts = length-last d ts at m.within in
    let count : length (moved_trie d ts at) ≡ length ts = length-map ws (later_trie_node at) ∙ many in
    let seen : length (paths_of ts) ≡ length ts = length-paths_of ts m.trie.root in
    record {
      root = omega (arith, count, m.trie.root);
      parents = λ j u low h.
          let own : (get_or (moved_trie d ts at) j u).parent ≡ later_number at (get_or ws j d).parent =
          ap (λ (t : TrieNode). t.parent) (get_or-map (later_trie_node at) ws j d u (omega (arith, h, count, many))) in
          elim (cases_eq j at) [
            | inl same ↦
                let up : (get_or ws j d).parent ≡ (get_or ts (length ts - 1) d).parent =
                ap (λ k. (get_or ws k d).parent) same
                ∙ ap (λ (t : TrieNode). t.parent) (read_last d ts at m.within d) in
                omega (
                  arith,
                  own,
                  up,
                  later_low at (get_or ws j d).parent (omega (arith, up, m.below d)),
                  m.below d,
                  same,
                )
            | inr other ↦
                let r = from d ts at m.within j (omega (arith, h, count)) in
                let up : (get_or ws j d).parent ≡ (get_or ts r.was d).parent =
                ap (λ (t : TrieNode). t.parent) (r.read d) in
                parent_before ts at m d j r.was low other r.within r.moved (own ∙ ap (later_number at) up)
          ];
      distinct =
          let P : List (List Part) → Type 0 = AllPairs (λ p q. p ≢ q) in
          subst P (sym (moved_answers d ts at m).paths)
          (distinct_last [] (paths_of ts) at (omega (arith, seen, m.within)) m.trie.distinct);
    }
  where
    parent_before : (ts : List TrieNode) (at : ℕ) → IsMovable ts at → (d : TrieNode) (j was : ℕ) → 0 < j → (j ≡ at → ⊥)
        → was < length ts → moved_number (length ts - 1) at was ≡ j
        → {n : ℕ} → n ≡ later_number at (get_or ts was d).parent → n < j
    parent_before ts at m d j was low other within moved {n = n} is =
        let not_last : was ≡ length ts - 1 → ⊥ = λ e. other (sym moved ∙ moved_last (length ts - 1) at was e) in
        let later_was : later_number at was ≡ j = sym (moved_other (length ts - 1) at was not_last) ∙ moved in
        let p : ℕ = (get_or ts was d).parent in
        let some : 0 < was = elim (cases_lt 0 was) [
          | inl more ↦ more
          | inr none ↦ absurd (omega (arith, none, low, later_was, later_low at was (omega (arith, none, m.later))))
        ] in
        let up : p < was = m.trie.parents was d some within in
        elim (cases_lt was at) [
          | inl below ↦
              omega (arith, is, later_low at p (omega (arith, up, below)), up, later_was, later_low at was below)
          | inr above ↦ elim (cases_lt p at) [
            | inl near ↦ omega (arith, is, later_low at p near, up, later_was, later_high at was above)
            | inr far ↦ omega (arith, is, later_high at p far, up, later_was, later_high at was above)
          ]
        ]
