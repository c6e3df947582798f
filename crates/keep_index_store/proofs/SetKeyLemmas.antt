-- The stored nodes, with another key of one.
--
-- The key of a node is stored with the children of its parent, so the parent alone is written: its children have the
-- other key at the number of the node (`changed`). The parents and numbers of all nodes stay. So do the steps of all
-- nodes but this one, since it alone has that number there (`own_number`, `part_stays`), and its own step is the new
-- key (`part_own`): the tree is renamed at one node (`renamed`). That the paths below it move with it, and that no two
-- are the same if the new path is none of the others, is known of such a tree (NewKeyLemmas).
--
-- Theorems: `infos_moved`, `holdings_stay` and `stored_moved`; `key_fresh` and `as_written`.
use Rattle.std.proofs.Common.{◌≡◌, ℕ, ◌<◌, List, [], ◌∷◌, ◌++◌, length, get_or, set, map, refl, sym, ◌∙◌, ap, subst}
use Rattle.std.proofs.Common.{arith, inl, inr, Some, None}
use Rattle.std.specs.Prelude.{Contains, slice_get}
use Rattle.std.proofs.lemmas.List.{get_or-set_same, get_or-set_other, length-set}
use Rattle.std.proofs.lemmas.Bool.{cases_lt, cases_eq}
use Rattle.std.proofs.Math.Seq.{map-set_same}
use Rattle.keep_path.specs.Path.{Part, key, EndsInKey, beside, last_part, moved_path}
use Rattle.keep_path.proofs.Shared.{beside_pushed, last_pushed}
use Rattle.keep_index_store.specs.AllNodes.{Node, with_key}
use Rattle.keep_index_store.specs.Children.{ChildList, holds_of, named, child_ids, child_named}
use Rattle.keep_path.specs.NodeInfos.{NodeInfos, with_path}
use Rattle.keep_index_store.specs.Facts.{info_of}
use Rattle.keep_index_store.specs.Trie.{TrieNode, Holding, nothing, by_key, by_index, holdings_of, paths_of, path_at}
use Rattle.keep_index_store.specs.Stored.{step_at, step_in, trie_node_in, trie_of, IsStored, infos_of}
use Rattle.keep_index_store.specs.Tree.{tree_of, node_infos}
use Rattle.keep_index_store.proofs.TrieLemmas.{path_at-root}
use Rattle.keep_index_store.proofs.NewKeyLemmas.{IsRenamed, from, to, own_path as own_path_of, beside_is, paths_moved}
use Rattle.keep_index_store.proofs.NewKeyLemmas.{children_stay, trie_renamed}
use Rattle.keep_index_store.proofs.StoredLemmas.{IsPlaced, IsStoredChild, count_named, here, holdings_are, ids_named}
use Rattle.keep_index_store.proofs.StoredLemmas.{length_trie_of, node_placed, not_named, preserved_changed, step_below}
use Rattle.keep_index_store.proofs.StoredLemmas.{stored_child}

-- a step that is a key is that of a child by key
key_holds : (names : List (List ℕ × ℕ)) (h : Holding) (n : ℕ) (text : List ℕ) → step_at names h n ≡ key text
    → h ≡ by_key
key_holds names by_key n text is = refl
key_holds names nothing n text is = cc
key_holds names by_index n text is = cc

some_part : (p q : Part) → Some p ≡ Some q → p ≡ q
some_part p q e = cc

-- the children with another key of one
key_other : (c : ChildList) (n m : ℕ) (text : List ℕ) → holds_of c ≡ by_key → (m ≡ n → ⊥)
    → step_at (named (with_key c n text)) (holds_of (with_key c n text)) m ≡ step_at (named c) (holds_of c) m
key_other c n m text keyed other =
    ap (λ (e : List ℕ × ℕ). key e.0)
    (get_or-set_other (named c) n m (text, (get_or (named c) n ([], 0)).1) ([], 0) other)
    ∙ ap (λ h. step_at (named c) h m) (sym keyed)

key_own : (c : ChildList) (n : ℕ) (text : List ℕ) → n < length (named c)
    → step_at (named (with_key c n text)) (holds_of (with_key c n text)) n ≡ key text
key_own c n text low =
    ap (λ (e : List ℕ × ℕ). key e.0) (get_or-set_same (named c) n (text, (get_or (named c) n ([], 0)).1) ([], 0) low)

ids_stay : (c : ChildList) (n : ℕ) (text : List ℕ) → holds_of c ≡ by_key → child_ids (with_key c n text) ≡ child_ids c
ids_stay c n text keyed =
    map-set_same (λ (e : List ℕ × ℕ). e.1) (named c) n (text, (get_or (named c) n ([], 0)).1) ([], 0) refl
    ∙ sym (ids_named c keyed)

-- a node whose path ends in a key
pub record IsKeyed (nodes : List Node) (id : ℕ) : Type 0 where
  pub stored : IsStored nodes
  pub within : id < length nodes
  pub ends : EndsInKey (path_at (trie_of nodes) id)

module _ (nodes : List Node) (id : ℕ) (d : Node) (text : List ℕ) (k : IsKeyed nodes id) where
  -- its parent, its number there, and the children there
  parent : ℕ
  parent = (get_or nodes id d).parent

  number : ℕ
  number = (get_or nodes id d).number

  kids : ChildList
  kids = (get_or nodes parent d).children

  later : 0 < id
  later = elim (cases_lt 0 id) [
    | inl low ↦ low
    | inr none ↦
        let root : id ≡ 0 = omega arith in
        let empty : path_at (trie_of nodes) id ≡ [] =
        ap (path_at (trie_of nodes)) root ∙ path_at-root (trie_of nodes) in
        let last = ap last_part (sym empty) ∙ k.ends.1 in
        absurd cc
  ]

  placed : IsPlaced nodes id d
  placed = node_placed nodes k.stored id d later k.within

  parent_within : parent < length nodes
  unfolding parent
  parent_within = omega (arith, placed.earlier, k.within)

  step : Part
  step = step_at (named kids) (holds_of kids) number

  own_path : path_at (trie_of nodes) id ≡ path_at (trie_of nodes) parent ++ step ∷ []
  unfolding step kids parent number
  own_path =
      let child : IsStoredChild nodes parent number id d =
      subst (λ (n : ℕ). IsStoredChild nodes parent number n d) placed.found
      (stored_child nodes k.stored parent number d parent_within placed.low) in
      child.path

  keyed : holds_of kids ≡ by_key
  unfolding step
  keyed = key_holds (named kids) (holds_of kids) number k.ends.0
      (some_part step (key k.ends.0)
      (sym (last_pushed (path_at (trie_of nodes) parent) step) ∙ ap last_part (sym own_path) ∙ k.ends.1))

  low : number < length (named kids)
  unfolding kids parent number
  low = omega (arith, placed.low, count_named kids keyed)

  -- the path with the other key
  new_path : beside (path_at (trie_of nodes) id) text ≡ path_at (trie_of nodes) parent ++ key text ∷ []
  new_path = ap (λ p. beside p text) own_path ∙ beside_pushed (path_at (trie_of nodes) parent) step text

  not_there : (Contains (paths_of (trie_of nodes)) (beside (path_at (trie_of nodes) id) text) → ⊥)
      → child_named kids text ≡ None
  unfolding kids
  not_there fresh =
      not_named nodes k.stored parent d text parent_within keyed
      (λ there. fresh (subst (Contains (paths_of (trie_of nodes))) (sym new_path) there))

  -- the parent with the other key there, and all nodes with it
  changed : Node
  changed = record (get_or nodes parent d) { children = with_key kids number text }

  pub all : List Node
  all = set nodes parent changed

  count : length all ≡ length nodes
  unfolding all
  count = length-set nodes parent changed

  -- what the change leaves as it was
  stays : {X : Type 0} (f : Node → X) → f changed ≡ f (get_or nodes parent d) → (i : ℕ) (e : Node)
      → f (get_or all i e) ≡ f (get_or nodes i e)
  unfolding all
  stays f same = preserved_changed f nodes parent d changed parent_within same

  -- the step of each node
  part_in : (ns : List Node) (i : ℕ) (u : TrieNode) → i < length ns
      → (get_or (trie_of ns) i u).part ≡ step_in (slice_get ns (get_or ns i d).parent) (get_or ns i d).number
  part_in ns i u h = ap (λ (t : TrieNode). t.part) (here ns i d u h)

  part_after : (i : ℕ) (u : TrieNode) → 0 < i → i < length nodes
      → (get_or (trie_of all) i u).part
      ≡ step_at (named (get_or all (get_or nodes i d).parent d).children)
      (holds_of (get_or all (get_or nodes i d).parent d).children) (get_or nodes i d).number
  unfolding changed
  part_after i u after h =
      let p : ℕ = (get_or nodes i d).parent in
      part_in all i u (omega (arith, h, count))
      ∙ ap (λ q. step_in (slice_get all q) (get_or all i d).number) (stays (λ (n : Node). n.parent) refl i d)
      ∙ ap (λ n. step_in (slice_get all p) n) (stays (λ (n : Node). n.number) refl i d)
      ∙ step_below all p d (get_or nodes i d).number
      (omega (arith, (node_placed nodes k.stored i d after h).earlier, h, count))

  part_before : (i : ℕ) (u : TrieNode) → 0 < i → i < length nodes
      → (get_or (trie_of nodes) i u).part
      ≡ step_at (named (get_or nodes (get_or nodes i d).parent d).children)
      (holds_of (get_or nodes (get_or nodes i d).parent d).children) (get_or nodes i d).number
  part_before i u after h =
      part_in nodes i u h
      ∙ step_below nodes (get_or nodes i d).parent d (get_or nodes i d).number
      (omega (arith, (node_placed nodes k.stored i d after h).earlier, h))

  at_parent : (i : ℕ) → i ≡ parent → (get_or all i d).children ≡ with_key kids number text
  unfolding all changed
  at_parent i at =
      ap (λ q. (get_or all q d).children) at
      ∙ ap (λ (n : Node). n.children) (get_or-set_same nodes parent changed d parent_within)

  not_at_parent : (i : ℕ) → (i ≡ parent → ⊥) → (get_or all i d).children ≡ (get_or nodes i d).children
  unfolding all
  not_at_parent i other = ap (λ (n : Node). n.children) (get_or-set_other nodes parent i changed d other)

  -- of the children of the parent this one alone has that number
  own_number : (i : ℕ) → 0 < i → i < length nodes → (get_or nodes i d).parent ≡ parent
      → (get_or nodes i d).number ≡ number → i ≡ id
  unfolding parent number
  own_number i after h same at =
      sym (node_placed nodes k.stored i d after h).found
      ∙ ap (λ p. get_or (child_ids (get_or nodes p d).children) (get_or nodes i d).number 0) same
      ∙ ap (λ n. get_or (child_ids (get_or nodes parent d).children) n 0) at ∙ placed.found

  part_stays : (i : ℕ) (u : TrieNode) → 0 < i → i < length nodes → (i ≡ id → ⊥)
      → (get_or (trie_of all) i u).part ≡ (get_or (trie_of nodes) i u).part
  unfolding kids
  part_stays i u after h other =
      let p : ℕ = (get_or nodes i d).parent in
      let n : ℕ = (get_or nodes i d).number in
      let same : step_at (named (get_or all p d).children) (holds_of (get_or all p d).children) n
      ≡ step_at (named (get_or nodes p d).children) (holds_of (get_or nodes p d).children) n =
      (elim (cases_eq p parent) [
        | inl at ↦
            ap (λ c. step_at (named c) (holds_of c) n) (at_parent p at)
            ∙ key_other kids number n text keyed (λ is. other (own_number i after h at is))
            ∙ ap (λ q. step_at (named (get_or nodes q d).children) (holds_of (get_or nodes q d).children) n) (sym at)
        | inr far ↦ ap (λ c. step_at (named c) (holds_of c) n) (not_at_parent p far)
      ]) in
      part_after i u after h ∙ same ∙ sym (part_before i u after h)

  part_own : (u : TrieNode) → (get_or (trie_of all) id u).part ≡ key text
  unfolding parent number
  part_own u =
      part_after id u later k.within ∙ ap (λ c. step_at (named c) (holds_of c) number) (at_parent parent refl)
      ∙ key_own kids number text low

  parent_in : (ns : List Node) (i : ℕ) (u : TrieNode) → i < length ns
      → (get_or (trie_of ns) i u).parent ≡ (get_or ns i d).parent
  parent_in ns i u h = ap (λ (t : TrieNode). t.parent) (here ns i d u h)

  renamed : IsRenamed (trie_of nodes) (trie_of all) id (key text)
  unfolding changed
  renamed = record {
    trie = k.stored.trie;
    later = later;
    within = omega (arith, k.within, length_trie_of nodes);
    many = length_trie_of all ∙ count ∙ sym (length_trie_of nodes);
    parents = λ i u after h.
        let inside : i < length nodes = omega (arith, h, length_trie_of nodes) in
        parent_in all i u (omega (arith, inside, count)) ∙ stays (λ (n : Node). n.parent) refl i d
        ∙ sym (parent_in nodes i u inside);
    parts = λ i u after h other. part_stays i u after (omega (arith, h, length_trie_of nodes)) other;
    own = part_own;
  }

  same_ids : child_ids changed.children ≡ child_ids (get_or nodes parent d).children
  unfolding changed kids
  same_ids = ids_stay kids number text keyed

  -- the trie's own names of the two paths
  top : TrieNode
  top = trie_node_in nodes d

  from_is : from (trie_of nodes) (trie_of all) id (key text) top renamed ≡ path_at (trie_of nodes) id
  from_is = sym (own_path_of (trie_of nodes) (trie_of all) id (key text) top renamed)

  to_is : to (trie_of nodes) (trie_of all) id (key text) top renamed ≡ beside (path_at (trie_of nodes) id) text
  to_is = beside_is (trie_of nodes) (trie_of all) id (key text) top renamed text refl

  pub infos_moved : node_infos (tree_of all)
      ≡ with_path (node_infos (tree_of nodes)) (path_at (trie_of nodes) id) (beside (path_at (trie_of nodes) id) text)
  unfolding all changed
  infos_moved =
      ap (λ ps. let t : NodeInfos = record { paths = ps; infos = infos_of all } in t)
      (paths_moved (trie_of nodes) (trie_of all) id (key text) top renamed)
      ∙ ap (λ p. let t : NodeInfos =
      record {
        paths = map (moved_path p (to (trie_of nodes) (trie_of all) id (key text) top renamed))
            (paths_of (trie_of nodes));
        infos = infos_of all;
      } in t) from_is
      ∙ ap (λ p. let t : NodeInfos =
      record {
        paths = map (moved_path (path_at (trie_of nodes) id) p) (paths_of (trie_of nodes));
        infos = infos_of all;
      } in t) to_is
      ∙ ap (λ is. let t : NodeInfos =
      record {
        paths = map (moved_path (path_at (trie_of nodes) id) (beside (path_at (trie_of nodes) id) text))
            (paths_of (trie_of nodes));
        infos = is;
      } in t)
      (map-set_same (λ (n : Node). info_of n.facts) nodes parent changed d refl)

  pub holdings_stay : holdings_of (trie_of all) ≡ holdings_of (trie_of nodes)
  unfolding all changed kids
  holdings_stay =
      holdings_are all ∙ map-set_same (λ (n : Node). holds_of n.children) nodes parent changed d (sym keyed)
      ∙ sym (holdings_are nodes)

  pub stored_moved : (Contains (paths_of (trie_of nodes)) (beside (path_at (trie_of nodes) id) text) → ⊥) → IsStored all
  unfolding changed
  stored_moved fresh = record {
    trie = trie_renamed (trie_of nodes) (trie_of all) id (key text) top renamed
        (λ there. fresh (subst (Contains (paths_of (trie_of nodes))) to_is there));
    kids = λ i e h.
        stays (λ (n : Node). child_ids n.children) same_ids i e ∙ k.stored.kids i e (omega (arith, h, count))
        ∙ sym (children_stay (trie_of nodes) (trie_of all) id (key text) top renamed i);
    numbers = λ i e h m u few.
        let ids : List ℕ = child_ids (get_or nodes i e).children in
        let same : child_ids (get_or all i e).children ≡ ids =
        stays (λ (n : Node). child_ids n.children) same_ids i e in
        ap (λ ks. (get_or all (get_or ks m 0) u).number) same ∙ stays (λ (n : Node). n.number) refl (get_or ids m 0) u
        ∙ k.stored.numbers i e (omega (arith, h, count)) m u (omega (arith, few, ap length same));
  }

  -- the parent and the number as they were read, and the nodes as they were written
  pub parent_low : (p : ℕ) → p ≡ (get_or nodes id d).parent → p < length nodes
  unfolding parent
  parent_low p is = omega (arith, is, parent_within)

  pub parent_keyed : (p : ℕ) → p ≡ (get_or nodes id d).parent → holds_of (get_or nodes p d).children ≡ by_key
  unfolding kids parent
  parent_keyed p is = ap (λ q. holds_of (get_or nodes q d).children) is ∙ keyed

  pub number_low : (p n : ℕ) → p ≡ (get_or nodes id d).parent → n ≡ (get_or nodes id d).number
      → n < length (named (get_or nodes p d).children)
  unfolding kids parent number
  number_low p n p_is n_is = omega (arith, n_is, low, ap (λ q. length (named (get_or nodes q d).children)) p_is)

  pub key_fresh : (p : ℕ) → p ≡ (get_or nodes id d).parent
      → (Contains (paths_of (trie_of nodes)) (beside (path_at (trie_of nodes) id) text) → ⊥)
      → child_named (get_or nodes p d).children text ≡ None
  unfolding kids parent
  key_fresh p is fresh = ap (λ q. child_named (get_or nodes q d).children text) is ∙ not_there fresh

  pub as_written : (p n : ℕ) (items : List Node) → p ≡ (get_or nodes id d).parent → n ≡ (get_or nodes id d).number
      → items ≡ set nodes p (record (get_or nodes p d) { children = with_key (get_or nodes p d).children n text })
      → items ≡ all
  unfolding all changed kids parent number
  as_written p n items p_is n_is is =
      is ∙ ap (λ q. let c : Node =
      record (get_or nodes q d) { children = with_key (get_or nodes q d).children n text } in set nodes q c) p_is
      ∙ ap (λ m. let c : Node = record (get_or nodes parent d) { children = with_key kids m text } in
      set nodes parent c) n_is
