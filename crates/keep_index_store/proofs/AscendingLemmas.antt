-- Nodes that list their children in ascending order, each child by the place that it says of itself, are stored as they
-- have to be.
--
-- The children of a node of the tree ascend (`children_ascend`), and two lists that ascend and have the same elements
-- are one (`one_list`). So what a node lists is what the tree says, without a look at the order in which the tree
-- counts them.
--
-- Theorems: `stored_in_order`; `stored_ascend`: the children of a stored node ascend; `ascending_ends`: where numbers
-- ascend and one of them is not less than another number, nor is the last of them.
use Rattle.std.proofs.Common.{◌≡◌, ℕ, zero, suc, ◌+◌, ◌-◌, ◌<◌, ◌≤◌, true, false, cond, List, [], ◌∷◌, length, get_or}
use Rattle.std.proofs.Common.{drop, map, refl, sym, ◌∙◌, ap, subst, arith, inl, inr}
use Rattle.std.proofs.lemmas.Bool.{cases_lt}
use Rattle.std.specs.Prelude.{◌==◌, AllPairs}
use Rattle.std.proofs.lemmas.List.{get_or_default}
use Rattle.std.proofs.lemmas.List.Kept.{AllPairs-cons}
use Rattle.keep_path.specs.Path.{Part}
use Rattle.keep_index_store.specs.AllNodes.{Node, no_node}
use Rattle.keep_index_store.specs.Children.{child_ids}
use Rattle.keep_index_store.specs.Moved.{EndsLate}
use Rattle.keep_index_store.specs.Stored.{IsStored, trie_node_in, trie_of}
use Rattle.keep_index_store.specs.Trie.{TrieNode, IsTrie, children_from, children_of, link}
use Rattle.keep_index_store.proofs.StoredLemmas.{here, length_trie_of}
use Rattle.keep_index_store.proofs.TrieLemmas.{IsAmongChildren, IsChildOf, child_at, child_placed, children_at}

-- ---- lists that ascend

abbrev pub Ascends : List ℕ → Type 0
Ascends ids = AllPairs (λ a b. a < b) ids

least : (y : ℕ) (ys : List ℕ) → Ascends (y ∷ ys) → (x k : ℕ) → k < length (y ∷ ys) → get_or (y ∷ ys) k 0 ≡ x → y ≤ x
least y ys a x zero h is = omega (arith, is)
least y ys a x (suc k) h is = omega (arith, is, a 0 (suc k) 0 (omega arith) h)

later : (y : ℕ) (ys : List ℕ) (x k : ℕ) → y < x → k < length (y ∷ ys) → get_or (y ∷ ys) k 0 ≡ x → IsAmongChildren x ys
later y ys x zero more h is = absurd (omega (arith, more, is))
later y ys x (suc k) more h is = record { place = k; nested = omega (arith, h); number = is }

tail : (x : ℕ) (xs : List ℕ) → Ascends (x ∷ xs) → Ascends xs
tail x xs a i j d low h = a (suc i) (suc j) d (omega (arith, low)) (omega (arith, h))

one_list : (xs ys : List ℕ) → Ascends xs → Ascends ys
    → ((k : ℕ) → k < length xs → IsAmongChildren (get_or xs k 0) ys)
    → ((k : ℕ) → k < length ys → IsAmongChildren (get_or ys k 0) xs) → xs ≡ ys
one_list [] [] a b there back = refl
one_list [] (y ∷ ys) a b there back = absurd (omega (arith, (back 0 (omega arith)).nested))
one_list (x ∷ xs) [] a b there back = absurd (omega (arith, (there 0 (omega arith)).nested))
one_list (x ∷ xs) (y ∷ ys) a b there back =
    let t = there 0 (omega arith) in
    let s = back 0 (omega arith) in
    let same : x ≡ y =
    omega (arith, least y ys b x t.place t.nested t.number, least x xs a y s.place s.nested s.number) in
    ap (λ n. n ∷ xs) same
    ∙ ap (λ ns. y ∷ ns) (one_list xs ys (tail x xs a) (tail y ys b)
    (λ k h.
    let m = there (suc k) (omega (arith, h)) in
    later y ys (get_or xs k 0) m.place
    (omega (arith, same, a 0 (suc k) 0 (omega arith) (omega (arith, h)))) m.nested m.number)
    (λ k h.
    let m = back (suc k) (omega (arith, h)) in
    later x xs (get_or ys k 0) m.place
    (omega (arith, same, b 0 (suc k) 0 (omega arith) (omega (arith, h)))) m.nested m.number))

-- if one of them is not less than a number, nor is the last
pub ascending_ends : (ids : List ℕ) → Ascends ids → (at : ℕ) → EndsLate at ids
ascending_ends ids ascend at k low late = elim (cases_lt k (length ids - 1)) [
  | inl less ↦ omega (arith, late, ascend k (length ids - 1) 0 less (omega (arith, low)))
  | inr same ↦
      let is : k ≡ length ids - 1 = omega (arith, same, low) in
      omega (arith, late, ap (λ i. get_or ids i 0) is)
]

-- ---- the children of a node of a tree

children_ascend : (n i : ℕ) (ls : List (ℕ × Part)) → Ascends (children_from n i ls)
children_ascend n i [] = λ a b d low h. absurd (omega (arith, h))
children_ascend n i (l ∷ ls) =
    let rest : List ℕ = children_from (n + 1) i ls in
    let more : Ascends rest = children_ascend (n + 1) i ls in
    elim (l.0 == i) as (λ b. Ascends (cond b (n ∷ rest) rest)) [
      | true ↦
          AllPairs-cons (λ a b. a < b) n rest
          (λ k d h. omega (arith, get_or_default rest k d 0 h, (children_at (n + 1) i ls l k h).number)) more
      | false ↦ more
    ]

pub ascend_of : (ts : List TrieNode) (i : ℕ) → Ascends (children_of ts i)
ascend_of ts i = children_ascend 1 i (drop 1 (map link ts))

pub stored_ascend : (nodes : List Node) → IsStored nodes → (i : ℕ) → i < length nodes
    → Ascends (child_ids (get_or nodes i no_node).children)
stored_ascend nodes stored i h = subst Ascends (sym (stored.kids i no_node h)) (ascend_of (trie_of nodes) i)

-- ---- the nodes

-- the node with that number is the k-th child of the node i
pub record IsRowOf (nodes : List Node) (i k id : ℕ) : Type 0 where
  pub later : 0 < id
  pub within : id < length nodes
  pub parent : (get_or nodes id no_node).parent ≡ i
  pub number : (get_or nodes id no_node).number ≡ k

-- each node lists its children in order, each of them says so, and each node but the root is one
pub record IsInOrder (nodes : List Node) : Type 0 where
  pub trie : IsTrie (trie_of nodes)
  pub ascend : (i : ℕ) → i < length nodes → Ascends (child_ids (get_or nodes i no_node).children)
  pub child : (i k : ℕ) → i < length nodes → k < length (child_ids (get_or nodes i no_node).children)
      → IsRowOf nodes i k (get_or (child_ids (get_or nodes i no_node).children) k 0)
  pub place : (i : ℕ) → 0 < i → i < length nodes
      → IsAmongChildren i (child_ids (get_or nodes (get_or nodes i no_node).parent no_node).children)

module _ (nodes : List Node) (r : IsInOrder nodes) where
  seen : (i : ℕ) (u : TrieNode) → i < length nodes
      → (get_or (trie_of nodes) i u).parent ≡ (get_or nodes i no_node).parent
  seen i u h = ap (λ (t : TrieNode). t.parent) (here nodes i no_node u h)

  low : {i : ℕ} → i < length nodes → i < length (trie_of nodes)
  low h = omega (arith, h, length_trie_of nodes)

  abbrev ids : ℕ → List ℕ
  ids i = child_ids (get_or nodes i no_node).children

  there : (i k : ℕ) → i < length nodes → k < length (ids i)
      → IsAmongChildren (get_or (ids i) k 0) (children_of (trie_of nodes) i)
  there i k h few =
      let c = r.child i k h few in
      let u : TrieNode = trie_node_in nodes no_node in
      let id : ℕ = get_or (ids i) k 0 in
      subst (λ (p : ℕ). IsAmongChildren id (children_of (trie_of nodes) p)) (seen id u c.within ∙ c.parent)
      (child_placed (trie_of nodes) id u c.later (low c.within))

  back : (i k : ℕ) → i < length nodes → k < length (children_of (trie_of nodes) i)
      → IsAmongChildren (get_or (children_of (trie_of nodes) i) k 0) (ids i)
  back i k h few =
      let u : TrieNode = trie_node_in nodes no_node in
      let id : ℕ = get_or (children_of (trie_of nodes) i) k 0 in
      let c : IsChildOf (trie_of nodes) i id = child_at (trie_of nodes) r.trie i k u (low h) few in
      let within : id < length nodes = omega (arith, c.nested, length_trie_of nodes) in
      subst (λ (p : ℕ). IsAmongChildren id (ids p)) (sym (seen id u within) ∙ c.parent u) (r.place id c.later within)

  same : (i : ℕ) → i < length nodes → ids i ≡ children_of (trie_of nodes) i
  same i h =
      one_list (ids i) (children_of (trie_of nodes) i) (r.ascend i h) (ascend_of (trie_of nodes) i)
      (λ k few. there i k h few) (λ k few. back i k h few)

  pub stored_in_order : IsStored nodes
  stored_in_order = record {
    trie = r.trie;
    kids = λ i d h. ap (λ (x : Node). child_ids x.children) (get_or_default nodes i d no_node h) ∙ same i h;
    numbers = λ i d h k e few.
        let own : child_ids (get_or nodes i d).children ≡ ids i =
        ap (λ (x : Node). child_ids x.children) (get_or_default nodes i d no_node h) in
        let c = r.child i k h (omega (arith, few, ap length own)) in
        ap (λ (ns : List ℕ). (get_or nodes (get_or ns k 0) e).number) own
        ∙ ap (λ (x : Node). x.number) (get_or_default nodes (get_or (ids i) k 0) e no_node c.within) ∙ c.number;
  }
