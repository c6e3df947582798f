-- Numbers of paths, and the paths one step below, in a tree of steps.
--
-- The number of a path is the place of the first path that is the same. In a tree of steps no two nodes have one path
-- (`one_node`), so the path of a node has that node's number (`number_some`), and a path of no node has none
-- (`number_none`); `number_is` and `none_there` go the other way. Below a path of no node there is none
-- (`none_longer`). A path is one step below another exactly if it is that path and one step more (`child_push`), so a
-- node is one step below another exactly if it is a child of it (`is_child_there`). Thus the paths one step below a
-- node are those of its children, in order (`below_from`, `children_are`): as many (`count_is`), and each with its
-- child's number (`nth_is`).
--
-- Theorems: `number_some`: the path of a node has its number; `number_is`: the number of a path is that of a node with
-- this path; `nth_is`: the n-th path one step below has the number of the n-th child.
use Rattle.std.proofs.Common.{◌≡◌, ℕ, suc, zero, ◌+◌, ◌-◌, ◌<◌, ◌≤◌, Bool, true, false, cond, List, [], ◌∷◌, ◌++◌}
use Rattle.std.proofs.Common.{length, get_or, drop, map, refl, sym, ◌∙◌, ap, arith, Some, None}
use Rattle.std.specs.Prelude.{◌==◌, ◌&&◌, Contains, position, filter, slice_get}
use Rattle.std.specs.List.{position_or_len}
use Rattle.std.specs.Option.{option_and_then}
use Rattle.std.proofs.lemmas.Grind.{common_steps}
use Rattle.std.proofs.lemmas.List.{length-map, length-drop, get_or-map, get_or-drop}
use Rattle.std.proofs.lemmas.List.Quantifiers.{position-Some}
use Rattle.std.proofs.lemmas.List.Sums.{fails_before_first}
use Rattle.std.proofs.lemmas.Bool.Decides.{Decides-eqb, same_from_decides}
use Rattle.keep_path.specs.Path.{Part, same_part, same_path}
use Rattle.keep_meaning.specs.Nodes.{node_number, is_child, children}
use Rattle.keep_index_store.specs.Trie.{TrieNode, link, paths_of, path_at, children_from, children_of, IsTrie}
use Rattle.keep_path.proofs.Shared.{path_decides}
use Rattle.keep_index_store.proofs.Shared.{length-paths_of, path_at-link, path_at-root, one_node, child_at, closed}

-- ---- the number of a path

position_none : {X : Type 0} (p : X → Bool) (xs : List X) (k : ℕ) (d : X) → position p xs ≡ None → k < length xs
    → p (get_or xs k d) ≡ false
position_none p xs k d e h =
    let past : length xs ≤ position_or_len p xs = grind (arith, common_steps) in
    fails_before_first p xs k d (omega arith)

-- of a path that is no node's
pub number_none : (paths : List (List Part)) (path : List Part) → (Contains paths path → ⊥)
    → node_number paths path ≡ None
number_none paths path none = (elim (node_number paths path) as (λ o. node_number paths path ≡ o → o ≡ None) [
  | None ↦ λ is. refl
  | Some i ↦ λ is.
      let r = position-Some (same_path path) paths i path is in
      absurd (none (i, r.0, sym ((path_decides path (get_or paths i path)).0 r.1)))
]) refl

-- of the path of a node
pub number_some : (nodes : List TrieNode) → IsTrie nodes → (i : ℕ) → i < length nodes
    → node_number (paths_of nodes) (path_at nodes i) ≡ Some i
number_some nodes trie i h =
    let paths : List (List Part) = paths_of nodes in
    let path : List Part = path_at nodes i in
    let many : length paths ≡ length nodes = length-paths_of nodes trie.root in
    (elim (node_number paths path) as (λ o. node_number paths path ≡ o → o ≡ Some i) [
      | None ↦ λ is.
          let no : same_path path (get_or paths i []) ≡ false =
          position_none (same_path path) paths i [] is (omega arith) in
          let yes : same_path path (get_or paths i []) ≡ true = (path_decides path (get_or paths i [])).1 refl in
          absurd cc
      | Some j ↦ λ is.
          let r = position-Some (same_path path) paths j [] is in
          ap Some (one_node nodes trie j i (omega (arith, r.0)) h (sym ((path_decides path (get_or paths j [])).0 r.1)))
    ]) refl

-- the path of a number
pub number_is : (paths : List (List Part)) (path : List Part) (i : ℕ) → node_number paths path ≡ Some i
    → (i < length paths) × (get_or paths i [] ≡ path)
number_is paths path i is =
    let r = position-Some (same_path path) paths i [] is in
    (r.0, sym ((path_decides path (get_or paths i [])).0 r.1))

pub none_there : (paths : List (List Part)) (path : List Part) → node_number paths path ≡ None → Contains paths path → ⊥
none_there paths path is there =
    let no : same_path path (get_or paths there.0 path) ≡ false =
    position_none (same_path path) paths there.0 path is there.1 in
    let yes : same_path path (get_or paths there.0 path) ≡ true =
    (path_decides path (get_or paths there.0 path)).1 (sym there.2) in
    absurd cc

-- below no node there is none
pub none_longer : (nodes : List TrieNode) → IsTrie nodes → (path more : List Part)
    → node_number (paths_of nodes) path ≡ None → node_number (paths_of nodes) (path ++ more) ≡ None
none_longer nodes trie path more is =
    number_none (paths_of nodes) (path ++ more)
    (λ there. none_there (paths_of nodes) path is (closed nodes trie more path there))

-- ---- the paths one step below

-- one step more
pub child_push : (p q : List Part) (x : Part) → is_child p (q ++ x ∷ []) ≡ same_path p q
child_push [] [] x = refl
child_push [] (b ∷ []) x = refl
child_push [] (b ∷ c ∷ q) x = refl
child_push (a ∷ []) [] x = (elim (same_part a x) as (λ s. s && false ≡ false) [ true ↦ refl | false ↦ refl ])
child_push (a ∷ c ∷ p) [] x = (elim (same_part a x) as (λ s. s && false ≡ false) [ true ↦ refl | false ↦ refl ])
child_push (a ∷ p) (b ∷ q) x = ap (λ s. same_part a b && s) (child_push p q x)

pub no_child_root : (p : List Part) → is_child p [] ≡ false
no_child_root [] = refl
no_child_root (a ∷ p) = refl

-- the paths of the children of a node
below_from : (p : List Part) (i n : ℕ) (paths rest : List (List Part)) (ls : List (ℕ × Part)) (e : ℕ × Part)
    → length rest ≡ length ls
    → ((k : ℕ) → k < length ls
    → (get_or rest k [] ≡ get_or paths (n + k) []) × (is_child p (get_or rest k []) ≡ ((get_or ls k e).0 == i)))
    → filter (is_child p) rest ≡ map (λ j. get_or paths j []) (children_from n i ls)
below_from p i n paths [] [] e same are = refl
below_from p i n paths [] (l ∷ ls) e same are = absurd (omega arith)
below_from p i n paths (q ∷ rest) [] e same are = absurd (omega arith)
below_from p i n paths (q ∷ rest) (l ∷ ls) e same are =
    let first = are 0 (omega arith) in
    let more : filter (is_child p) rest ≡ map (λ j. get_or paths j []) (children_from (n + 1) i ls) =
    below_from p i (n + 1) paths rest ls e (omega arith) (λ k h.
    let r = are (suc k) (omega arith) in
    (r.0 ∙ ap (λ m. get_or paths m []) (let m : n + suc k ≡ n + 1 + k = omega arith in m), r.1)) in
    let own : q ≡ get_or paths n [] = first.0 ∙ ap (λ m. get_or paths m []) (let m : n + 0 ≡ n = omega arith in m) in
    ap (λ b. cond b (q ∷ filter (is_child p) rest) (filter (is_child p) rest)) first.1
    ∙ (elim (l.0 == i) as (λ b.
    cond b (q ∷ filter (is_child p) rest) (filter (is_child p) rest)
    ≡ map (λ j. get_or paths j []) (cond b (n ∷ children_from (n + 1) i ls) (children_from (n + 1) i ls))) [
      | true ↦ ap (λ qs. q ∷ qs) more ∙ ap (λ x. x ∷ map (λ j. get_or paths j []) (children_from (n + 1) i ls)) own
      | false ↦ more
    ])

rest_filter : (p : List Part) (paths : List (List Part)) → get_or paths 0 [] ≡ []
    → filter (is_child p) paths ≡ filter (is_child p) (drop 1 paths)
rest_filter p [] root = refl
rest_filter p (q ∷ paths) root =
    ap (λ b. cond b (q ∷ filter (is_child p) paths) (filter (is_child p) paths))
    (ap (is_child p) root ∙ no_child_root p)

-- a node is one step below another exactly if it is a child of it
pub is_child_there : (nodes : List TrieNode) → IsTrie nodes → (i j : ℕ) (d : TrieNode) → i < length nodes → 0 < j
    → j < length nodes → is_child (path_at nodes i) (path_at nodes j) ≡ ((get_or nodes j d).parent == i)
is_child_there nodes trie i j d h low g =
    let up : (get_or nodes j d).parent < j = trie.parents j d low g in
    let path : List Part = path_at nodes (get_or nodes j d).parent in
    ap (is_child (path_at nodes i)) (path_at-link nodes trie j d low g)
    ∙ child_push (path_at nodes i) path (link (get_or nodes j d)).1
    ∙ same_from_decides (same_path (path_at nodes i) path) ((get_or nodes j d).parent == i)
    (path_decides (path_at nodes i) path) (
      λ is. ap (path_at nodes) (sym ((Decides-eqb (get_or nodes j d).parent i).0 is)),
      λ is. (Decides-eqb (get_or nodes j d).parent i).1
          (sym (one_node nodes trie i (get_or nodes j d).parent h (omega arith) is)),
    )

-- the paths one step below a node are those of its children, in order
pub children_are : (nodes : List TrieNode) → IsTrie nodes → (i : ℕ) (d : TrieNode) → i < length nodes
    → children (path_at nodes i) (paths_of nodes) ≡ map (path_at nodes) (children_of nodes i)
children_are nodes trie i d h =
    let paths : List (List Part) = paths_of nodes in
    let ls : List (ℕ × Part) = drop 1 (map link nodes) in
    let many : length paths ≡ length nodes = length-paths_of nodes trie.root in
    let few : length ls ≡ length nodes - 1 = omega (arith, length-drop 1 (map link nodes), length-map nodes link) in
    rest_filter (path_at nodes i) paths (path_at-root nodes)
    ∙ below_from (path_at nodes i) i 1 paths (drop 1 paths) ls (link d) (omega (arith, length-drop 1 paths)) (λ k g.
    let own : get_or (drop 1 paths) k [] ≡ get_or paths (1 + k) [] = get_or-drop 1 paths k [] in
    let here : 1 + k < length nodes = omega arith in
    let linked : get_or ls k (link d) ≡ link (get_or nodes (1 + k) d) =
    get_or-drop 1 (map link nodes) k (link d) ∙ get_or-map link nodes (1 + k) d (link d) here in (
      own,
      ap (is_child (path_at nodes i)) own ∙ is_child_there nodes trie i (1 + k) d h (omega arith) here
          ∙ ap (λ (l : ℕ × Part). l.0 == i) (sym linked),
    ))

-- the number of the child at a place
numbered_each : (nodes : List TrieNode) → (ids : List ℕ) (n : ℕ)
    → ((k : ℕ) → k < length ids → node_number (paths_of nodes) (path_at nodes (get_or ids k 0)) ≡ Some (get_or ids k 0))
    → option_and_then (node_number (paths_of nodes)) (slice_get (map (path_at nodes) ids) n) ≡ slice_get ids n
numbered_each nodes [] n are = refl
numbered_each nodes (x ∷ ids) zero are = are 0 (omega arith)
numbered_each nodes (x ∷ ids) (suc n) are = numbered_each nodes ids n (λ k h. are (suc k) (omega arith))

pub nth_is : (nodes : List TrieNode) → IsTrie nodes → (i n : ℕ) (d : TrieNode) → i < length nodes
    → option_and_then (node_number (paths_of nodes)) (slice_get (children (path_at nodes i) (paths_of nodes)) n)
    ≡ slice_get (children_of nodes i) n
nth_is nodes trie i n d h =
    ap (λ ps. option_and_then (node_number (paths_of nodes)) (slice_get ps n)) (children_are nodes trie i d h)
    ∙ numbered_each nodes (children_of nodes i) n
    (λ k g. let c = child_at nodes trie i k d h g in number_some nodes trie (get_or (children_of nodes i) k 0) c.nested)

pub count_is : (nodes : List TrieNode) → IsTrie nodes → (i : ℕ) (d : TrieNode) → i < length nodes
    → length (children (path_at nodes i) (paths_of nodes)) ≡ length (children_of nodes i)
count_is nodes trie i d h = ap length (children_are nodes trie i d h) ∙ length-map (children_of nodes i) (path_at nodes)
