-- Facts about a list of nodes as paths.
--
-- The paths are built from the links, parent and step, in the order of the nodes. What is built later changes no path
-- before it (`preserved`), and a parent is before its children; so the path of a node is that of its parent and its own
-- step (`path_at-link`). The children of a node are the numbers of the links that name it, in order: each of them has
-- it as its parent (`child_at`), and each node is among the children of its parent (`child_placed`). As no two paths
-- are the same (`one_node`), a path that ends in a step belongs to a child by that step, or to no node (`no_child`).
--
-- Theorems: `path_at-link`, `child_at`, `child_placed`, `one_node`, `no_child` and `closed`.
use Rattle.std.proofs.Common.{◌≡◌, ◌≢◌, ℕ, suc, zero, ◌+◌, ◌-◌, ◌<◌, ◌≤◌, true, false, cond, List, [], ◌∷◌, ◌++◌}
use Rattle.std.proofs.Common.{length, get_or, drop, map, refl, sym, ◌∙◌, ap, subst, arith, length-append, inl, inr}
use Rattle.std.specs.Prelude.{fold, ◌==◌, Contains}
use Rattle.std.proofs.lemmas.List.{get_or_append_left, length-map, length-drop, get_or-map, get_or-drop, get_or_default}
use Rattle.std.proofs.lemmas.List.{append-nil, append_assoc}
use Rattle.std.proofs.lemmas.List.Elements.{Contains-get_or}
use Rattle.std.proofs.lemmas.Bool.Decides.{Decides-eqb}
use Rattle.std.proofs.lemmas.Bool.{cases_lt}
use Rattle.std.proofs.Math.Seq.{get_or-append_seam}
use Rattle.keep_path.specs.Path.{Part}
use Rattle.keep_index_store.specs.Trie.{TrieNode, link, path_after, paths_of, path_at, children_from, children_of}
use Rattle.keep_index_store.specs.Trie.{IsTrie}

-- the paths of a list of links
pub length-paths : (ps : List (List Part)) (ls : List (ℕ × Part))
    → length (fold path_after ps ls) ≡ length ps + length ls
length-paths ps [] = omega arith
length-paths ps (l ∷ ls) =
    let p : List Part = get_or ps l.0 [] ++ l.1 ∷ [] in
    omega (arith, length-paths (path_after ps l) ls, length-append ps (p ∷ []))

pub preserved : (ps : List (List Part)) (ls : List (ℕ × Part)) (i : ℕ) (d : List Part) → i < length ps
    → get_or (fold path_after ps ls) i d ≡ get_or ps i d
preserved ps [] i d h = refl
preserved ps (l ∷ ls) i d h =
    let p : List Part = get_or ps l.0 [] ++ l.1 ∷ [] in
    preserved (path_after ps l) ls i d (omega (arith, length-append ps (p ∷ []))) ∙ get_or_append_left ps (p ∷ []) d i h

at_link : (ps : List (List Part)) (ls : List (ℕ × Part)) (j n : ℕ) (e : ℕ × Part) (d : List Part) → length ps + j ≡ n
    → j < length ls → (get_or ls j e).0 < n
    → get_or (fold path_after ps ls) n d ≡ get_or (fold path_after ps ls) (get_or ls j e).0 [] ++ (get_or ls j e).1 ∷ []
at_link ps [] j n e d a h g = absurd (omega arith)
at_link ps (l ∷ ls) zero n e d a h g =
    let p : List Part = get_or ps l.0 [] ++ l.1 ∷ [] in
    let longer : length (path_after ps l) ≡ length ps + 1 = omega (arith, length-append ps (p ∷ [])) in
    let same : n ≡ length ps = omega arith in
    let own : get_or (fold path_after (path_after ps l) ls) n d ≡ p =
    rw same (preserved (path_after ps l) ls (length ps) d (omega arith) ∙ get_or-append_seam ps p [] d) in
    let up : get_or (fold path_after (path_after ps l) ls) l.0 [] ≡ get_or ps l.0 [] =
    preserved (path_after ps l) ls l.0 [] (omega arith) ∙ get_or_append_left ps (p ∷ []) [] l.0 (omega arith) in
    own ∙ ap (λ q. q ++ l.1 ∷ []) (sym up)
at_link ps (l ∷ ls) (suc j) n e d a h g =
    let p : List Part = get_or ps l.0 [] ++ l.1 ∷ [] in
    at_link (path_after ps l) ls j n e d (omega (arith, length-append ps (p ∷ []))) (omega arith) g

-- the children of a node
pub record IsChildLink (n i : ℕ) (children : List ℕ) (ls : List (ℕ × Part)) (k : ℕ) (e : ℕ × Part) : Type 0 where
  pub place : ℕ
  pub nested : place < length ls
  pub number : get_or children k 0 ≡ n + place
  pub parent : (get_or ls place e).0 ≡ i

children_first : (n i : ℕ) (l : ℕ × Part) (ls : List (ℕ × Part)) (rest : List ℕ) (e : ℕ × Part)
    → ((k : ℕ) → k < length rest → IsChildLink (n + 1) i rest ls k e)
    → l.0 ≡ i → (k : ℕ) → k < length (n ∷ rest) → IsChildLink n i (n ∷ rest) (l ∷ ls) k e
children_first n i l ls rest e more is zero h =
    record { place = 0; nested = omega arith; number = omega arith; parent = is }
children_first n i l ls rest e more is (suc k) h =
    let r = more k (omega arith) in
    record { place = suc r.place; nested = omega arith; number = omega arith; parent = r.parent }

pub children_at : (n i : ℕ) (ls : List (ℕ × Part)) (e : ℕ × Part) (k : ℕ) → k < length (children_from n i ls)
    → IsChildLink n i (children_from n i ls) ls k e
children_at n i [] e k h = absurd (omega arith)
children_at n i (l ∷ ls) e k h =
    (elim (l.0 == i) as (λ b. (l.0 == i) ≡ b
    → k < length (cond b (n ∷ children_from (n + 1) i ls) (children_from (n + 1) i ls))
    → IsChildLink n i (cond b (n ∷ children_from (n + 1) i ls) (children_from (n + 1) i ls)) (l ∷ ls) k e) [
      | true ↦
          λ is h. children_first n i l ls (children_from (n + 1) i ls) e (children_at (n + 1) i ls e)
          ((Decides-eqb l.0 i).0 is) k h
      | false ↦ λ is h. let r =
          children_at (n + 1) i ls e k h in
          record { place = suc r.place; nested = omega arith; number = omega arith; parent = r.parent }
    ]) refl h

pub record IsAmongChildren (n : ℕ) (children : List ℕ) : Type 0 where
  pub place : ℕ
  pub nested : place < length children
  pub number : get_or children place 0 ≡ n

children_all : (n i : ℕ) (ls : List (ℕ × Part)) (j : ℕ) (e : ℕ × Part) → j < length ls → (get_or ls j e).0 ≡ i
    → IsAmongChildren (n + j) (children_from n i ls)
children_all n i [] j e h is = absurd (omega arith)
children_all n i (l ∷ ls) zero e h is =
    (elim (l.0 == i) as (λ b. b ≡ true
    → IsAmongChildren (n + 0) (cond b (n ∷ children_from (n + 1) i ls) (children_from (n + 1) i ls))) [
      | true ↦ λ _. record { place = 0; nested = omega arith; number = omega arith }
      | false ↦ λ e. cc
    ]) ((Decides-eqb l.0 i).1 is)
children_all n i (l ∷ ls) (suc j) e h is =
    let r = children_all (n + 1) i ls j e (omega arith) is in
    elim (l.0 == i) as (λ b.
    IsAmongChildren (n + suc j) (cond b (n ∷ children_from (n + 1) i ls) (children_from (n + 1) i ls))) [
      | true ↦ record { place = suc r.place; nested = omega arith; number = omega arith }
      | false ↦ record { place = r.place; nested = r.nested; number = omega arith }
    ]

-- in a list of nodes
pub length-paths_of : (nodes : List TrieNode) → 0 < length nodes → length (paths_of nodes) ≡ length nodes
length-paths_of nodes h =
    omega (
      arith,
      length-paths ([] ∷ []) (drop 1 (map link nodes)),
      length-drop 1 (map link nodes),
      length-map nodes link,
    )

-- a node's path is that of its parent and its own step
pub path_at-below : (nodes : List TrieNode) (i : ℕ) (d : TrieNode) → 0 < i → i < length nodes
    → (get_or nodes i d).parent < i
    → path_at nodes i ≡ path_at nodes (get_or nodes i d).parent ++ (link (get_or nodes i d)).1 ∷ []
path_at-below nodes i d low h up =
    let ls : List (ℕ × Part) = drop 1 (map link nodes) in
    let many : length ls ≡ length nodes - 1 = omega (arith, length-drop 1 (map link nodes), length-map nodes link) in
    let same : get_or ls (i - 1) (link d) ≡ link (get_or nodes i d) =
    get_or-drop 1 (map link nodes) (i - 1) (link d)
    ∙ ap (λ k. get_or (map link nodes) k (link d)) (let k : 1 + (i - 1) ≡ i = omega arith in k)
    ∙ get_or-map link nodes i d (link d) h in
    let below : (get_or ls (i - 1) (link d)).0 < i = subst (λ (l : ℕ × Part). l.0 < i) (sym same) up in
    at_link ([] ∷ []) ls (i - 1) i (link d) [] (omega arith) (omega arith) below
    ∙ ap (λ (l : ℕ × Part). path_at nodes l.0 ++ l.1 ∷ []) same

pub path_at-link : (nodes : List TrieNode) → IsTrie nodes → (i : ℕ) (d : TrieNode) → 0 < i → i < length nodes
    → path_at nodes i ≡ path_at nodes (get_or nodes i d).parent ++ (link (get_or nodes i d)).1 ∷ []
path_at-link nodes trie i d low h = path_at-below nodes i d low h (trie.parents i d low h)

pub record IsChildOf (nodes : List TrieNode) (i c : ℕ) : Type 0 where
  pub later : 0 < c
  pub nested : c < length nodes
  pub parent : (d : TrieNode) → (get_or nodes c d).parent ≡ i
  pub path : (d : TrieNode) → path_at nodes c ≡ path_at nodes i ++ (link (get_or nodes c d)).1 ∷ []

-- what the list of children says of a child
pub child_at : (nodes : List TrieNode) → IsTrie nodes → (i k : ℕ) (d : TrieNode) → i < length nodes
    → k < length (children_of nodes i) → IsChildOf nodes i (get_or (children_of nodes i) k 0)
child_at nodes trie i k d h g =
    let ls : List (ℕ × Part) = drop 1 (map link nodes) in
    let r = children_at 1 i ls (link d) k g in
    let many : length ls ≡ length nodes - 1 = omega (arith, length-drop 1 (map link nodes), length-map nodes link) in
    let c : ℕ = get_or (children_of nodes i) k 0 in
    let here : c < length nodes = omega (arith, r.number, r.nested) in
    let low : 0 < c = omega (arith, r.number) in
    let own : (x : TrieNode) → (get_or nodes c x).parent ≡ i = λ x.
    let same : get_or ls r.place (link d) ≡ link (get_or nodes c x) =
    get_or-drop 1 (map link nodes) r.place (link d)
    ∙ ap (λ m. get_or (map link nodes) m (link d)) (let m : 1 + r.place ≡ c = omega (arith, r.number) in m)
    ∙ get_or-map link nodes c x (link d) here in
    ap (λ (l : ℕ × Part). l.0) (sym same) ∙ r.parent in
    record {
      later = low;
      nested = here;
      parent = own;
      path = λ x. path_at-link nodes trie c x low here
          ∙ ap (λ m. path_at nodes m ++ (link (get_or nodes c x)).1 ∷ []) (own x);
    }

-- each node but the root is among the children of its parent
pub child_placed : (nodes : List TrieNode) (j : ℕ) (d : TrieNode) → 0 < j → j < length nodes
    → IsAmongChildren j (children_of nodes (get_or nodes j d).parent)
child_placed nodes j d low h =
    let ls : List (ℕ × Part) = drop 1 (map link nodes) in
    let few : length ls ≡ length nodes - 1 = omega (arith, length-drop 1 (map link nodes), length-map nodes link) in
    let placed : get_or ls (j - 1) (link d) ≡ link (get_or nodes j d) =
    get_or-drop 1 (map link nodes) (j - 1) (link d)
    ∙ ap (λ m. get_or (map link nodes) m (link d)) (let m : 1 + (j - 1) ≡ j = omega arith in m)
    ∙ get_or-map link nodes j d (link d) h in
    let at : 1 + (j - 1) ≡ j = omega arith in
    subst (λ (n : ℕ).
    IsAmongChildren n (children_of nodes (get_or nodes j d).parent)) at (children_all 1 (get_or nodes j d).parent ls
    (j - 1) (link d) (omega arith) (ap (λ (l : ℕ × Part). l.0) placed))

pub push_same : {X : Type 0} (a b : List X) (x y : X) → a ++ x ∷ [] ≡ b ++ y ∷ [] → (a ≡ b) × (x ≡ y)
push_same [] [] x y h = (refl, cc)
push_same [] (c ∷ []) x y h = cc
push_same [] (c ∷ e ∷ b) x y h = cc
push_same (c ∷ []) [] x y h = cc
push_same (c ∷ e ∷ a) [] x y h = cc
push_same (c ∷ a) (e ∷ b) x y h =
    let tails : a ++ x ∷ [] ≡ b ++ y ∷ [] = cc in
    let heads : c ≡ e = cc in
    let r = push_same a b x y tails in
    (let ta : a ≡ b = r.0 in cc, r.1)

-- two nodes of one path are one
pub one_node : (nodes : List TrieNode) → IsTrie nodes → (i j : ℕ) → i < length nodes → j < length nodes
    → path_at nodes i ≡ path_at nodes j → i ≡ j
one_node nodes trie i j h g same =
    let many : length (paths_of nodes) ≡ length nodes = length-paths_of nodes trie.root in
    elim (cases_lt i j) [
      | inl below ↦ absurd (trie.distinct i j [] below (omega arith) same)
      | inr above ↦ elim (cases_lt j i) [
        | inl below ↦ absurd (trie.distinct j i [] below (omega arith) (sym same))
        | inr above' ↦ omega arith
      ]
    ]

-- where no child has the part, no node has the path
pub no_child : (nodes : List TrieNode) → IsTrie nodes → (i : ℕ) (p : Part) (e : TrieNode) → i < length nodes
    → ((k : ℕ) → k < length (children_of nodes i) → (link (get_or nodes (get_or (children_of nodes i) k 0) e)).1 ≢ p)
    → Contains (paths_of nodes) (path_at nodes i ++ p ∷ []) → ⊥
no_child nodes trie i p e h none there =
    let ls : List (ℕ × Part) = drop 1 (map link nodes) in
    let j : ℕ = there.0 in
    let many : length (paths_of nodes) ≡ length nodes = length-paths_of nodes trie.root in
    let here : j < length nodes = omega (arith, there.1) in
    let is : path_at nodes j ≡ path_at nodes i ++ p ∷ [] =
    get_or_default (paths_of nodes) j [] (path_at nodes i ++ p ∷ []) there.1 ∙ there.2 in
    elim (cases_lt 0 j) [
      | inr none ↦
          let top : j ≡ 0 = omega arith in
          let root : path_at nodes j ≡ [] = rw top (preserved ([] ∷ []) ls 0 [] (omega arith)) in
          absurd (omega (arith, ap length (sym root ∙ is), length-append (path_at nodes i) (p ∷ [])))
      | inl low ↦
          let up : (get_or nodes j e).parent < j = trie.parents j e low here in
          let split = push_same _ _ _ _ (sym (path_at-link nodes trie j e low here) ∙ is) in
          let same : (get_or nodes j e).parent ≡ i = one_node nodes trie _ i (omega arith) h split.0 in
          let r = subst (λ (m : ℕ). IsAmongChildren j (children_of nodes m)) same (child_placed nodes j e low here) in
          none r.place r.nested (ap (λ m. (link (get_or nodes m e)).1) r.number ∙ split.1)
    ]

pub children-push : (n i : ℕ) (ls : List (ℕ × Part)) (l : ℕ × Part) (m : ℕ) → n + length ls ≡ m
    → children_from n i (ls ++ l ∷ []) ≡ children_from n i ls ++ cond (l.0 == i) (m ∷ []) []
children-push n i [] l m e = let same : n ≡ m = omega arith in rw same refl
children-push n i (k ∷ ls) l m e =
    let more = children-push (n + 1) i ls l m (omega arith) in
    elim (k.0 == i) as (λ b.
    cond b (n ∷ children_from (n + 1) i (ls ++ l ∷ [])) (children_from (n + 1) i (ls ++ l ∷ []))
    ≡ cond b (n ∷ children_from (n + 1) i ls) (children_from (n + 1) i ls) ++ cond (l.0 == i) (m ∷ []) []) [
      | true ↦ ap (λ hs. n ∷ hs) more
      | false ↦ more
    ]

empty_list : {X : Type 0} (xs : List X) → length xs ≤ 0 → xs ≡ []
empty_list [] h = refl
empty_list (x ∷ xs) h = absurd (omega arith)

-- a node that is not there yet has no children
pub no_children_past_end : (nodes : List TrieNode) → IsTrie nodes → (d : TrieNode) → (i : ℕ) → length nodes ≤ i
    → children_of nodes i ≡ []
no_children_past_end nodes trie d i h =
    elim (cases_lt 0 (length (children_of nodes i))) [
      | inr none ↦ empty_list (children_of nodes i) none
      | inl some ↦
          let ls : List (ℕ × Part) = drop 1 (map link nodes) in
          let many : length ls ≡ length nodes - 1 =
          omega (arith, length-drop 1 (map link nodes), length-map nodes link) in
          let r = children_at 1 i ls (link d) 0 some in
          let here : 1 + r.place < length nodes = omega (arith, r.nested) in
          let same : get_or ls r.place (link d) ≡ link (get_or nodes (1 + r.place) d) =
          get_or-drop 1 (map link nodes) r.place (link d) ∙ get_or-map link nodes (1 + r.place) d (link d) here in
          absurd (omega (
            arith,
            trie.parents (1 + r.place) d (omega arith) here,
            ap (λ (l : ℕ × Part). l.0) same,
            r.parent,
          ))
    ]

-- the root's path, and what is above a node
pub path_at-root : (nodes : List TrieNode) → path_at nodes 0 ≡ []
path_at-root nodes = preserved ([] ∷ []) (drop 1 (map link nodes)) 0 [] (omega arith)

closed_once : (nodes : List TrieNode) → IsTrie nodes → (p : List Part) (x : Part)
    → Contains (paths_of nodes) (p ++ x ∷ []) → Contains (paths_of nodes) p
closed_once [] trie p x there = absurd (omega (arith, trie.root))
closed_once (e ∷ rest) trie p x there =
    let nodes : List TrieNode = e ∷ rest in
    let j : ℕ = there.0 in
    let many : length (paths_of nodes) ≡ length nodes = length-paths_of nodes trie.root in
    let here : j < length nodes = omega (arith, there.1) in
    let is : path_at nodes j ≡ p ++ x ∷ [] = get_or_default (paths_of nodes) j [] (p ++ x ∷ []) there.1 ∙ there.2 in
    elim (cases_lt 0 j) [
      | inr none ↦
          let top : j ≡ 0 = omega arith in
          let root : path_at nodes j ≡ [] = rw top (path_at-root nodes) in
          absurd (omega (arith, ap length (sym root ∙ is), length-append p (x ∷ [])))
      | inl low ↦
          let up : (get_or nodes j e).parent < j = trie.parents j e low here in
          let split = push_same _ _ _ _ (sym (path_at-link nodes trie j e low here) ∙ is) in
          subst (Contains (paths_of nodes)) split.0
          (Contains-get_or (paths_of nodes) (get_or nodes j e).parent [] (omega arith))
    ]

pub closed : (nodes : List TrieNode) → IsTrie nodes → (q p : List Part) → Contains (paths_of nodes) (p ++ q)
    → Contains (paths_of nodes) p
closed nodes trie [] p there = subst (Contains (paths_of nodes)) (append-nil p) there
closed nodes trie (x ∷ q) p there =
    closed_once nodes trie p x (closed nodes trie q (p ++ x ∷ [])
    (subst (Contains (paths_of nodes)) (sym (append_assoc p (x ∷ []) q)) there))

-- a node's path is among the paths
pub path_met : (nodes : List TrieNode) → IsTrie nodes → (i : ℕ) → i < length nodes
    → Contains (paths_of nodes) (path_at nodes i)
path_met nodes trie i h = Contains-get_or (paths_of nodes) i [] (omega (arith, length-paths_of nodes trie.root))

-- the children follow from the parents alone
children_alike : (n i : ℕ) (ls ks : List (ℕ × Part)) → length ls ≡ length ks
    → ((j : ℕ) (e : ℕ × Part) → j < length ls → (get_or ls j e).0 ≡ (get_or ks j e).0)
    → children_from n i ls ≡ children_from n i ks
children_alike n i [] [] many same = refl
children_alike n i [] (k ∷ ks) many same = absurd (omega arith)
children_alike n i (l ∷ ls) [] many same = absurd (omega arith)
children_alike n i (l ∷ ls) (k ∷ ks) many same =
    let more = children_alike (n + 1) i ls ks (omega arith) (λ j e h. same (suc j) e (omega arith)) in
    ap (λ p. cond (p == i) (n ∷ children_from (n + 1) i ls) (children_from (n + 1) i ls)) (same 0 l (omega arith))
    ∙ ap (λ rest. cond (k.0 == i) (n ∷ rest) rest) more

pub children_of-alike : (us ts : List TrieNode) (d : TrieNode) → length us ≡ length ts
    → ((i : ℕ) (d : TrieNode) → 0 < i → i < length us → (get_or us i d).parent ≡ (get_or ts i d).parent)
    → (i : ℕ) → children_of us i ≡ children_of ts i
children_of-alike us ts d many same i =
    let few : length (drop 1 (map link us)) ≡ length us - 1 =
    omega (arith, length-drop 1 (map link us), length-map us link) in
    let few' : length (drop 1 (map link ts)) ≡ length ts - 1 =
    omega (arith, length-drop 1 (map link ts), length-map ts link) in
    children_alike 1 i (drop 1 (map link us)) (drop 1 (map link ts)) (omega (arith, few, few', many)) (λ j e h.
    ap (λ (l : ℕ × Part). l.0) (get_or-drop 1 (map link us) j e
    ∙ get_or-map link us (1 + j) d e (omega (arith, h, few)))
    ∙ same (1 + j) d (omega arith) (omega (arith, h, few))
    ∙ ap (λ (l : ℕ × Part).
    l.0) (sym (get_or-drop 1 (map link ts) j e ∙ get_or-map link ts (1 + j) d e (omega (arith, h, few, many)))))
