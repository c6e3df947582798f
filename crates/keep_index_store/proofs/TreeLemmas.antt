-- What the stored nodes answer and become, by the tree of steps that contracts see.
--
-- Contracts see the tree that the stored nodes represent (`tree_of`). It has as many nodes (`count`), so each number of
-- a node in it is that of a stored node (`low`). What is stored there is what the tree has: the parent, the role and
-- the children (`parent_seen`, `role_seen`, `holds_seen`, `kids_seen`). A child by a step is the node of the longer
-- path, or there is none (`key_seen`, `item_seen`). A node's own step is read at its parent (`part_seen`): it is its
-- key there (`own_key`), or else its number (`own_number`). A key whose path no node has is not among the children
-- (`fresh_key`), and no node has the path of the next item (`next_fresh`).
--
-- Theorems: `low`: a node of the tree is stored; `holds_seen`: what children it may have; `kids_seen`: which children
-- it has.
use Rattle.std.proofs.Common.{◌≡◌, ◌≢◌, ℕ, ◌-◌, ◌<◌, ◌≤◌, List, [], ◌∷◌, ◌++◌, length, get_or, refl, sym, ◌∙◌, ap}
use Rattle.std.proofs.Common.{subst, arith, Option, Some, None}
use Rattle.std.specs.Prelude.{Contains, OnErr, OnOk, Result, Ok, Err, slice_get}
use Rattle.std.specs.Option.{option_map}
use Rattle.std.proofs.lemmas.List.{get_or-map}
use Rattle.std.proofs.lemmas.Option.{slice_get_past}
use Rattle.keep_path.specs.Path.{key, index}
use Rattle.keep_index_store.specs.AllNodes.{Node, no_node, node_at}
use Rattle.keep_index_store.specs.Children.{ChildList, Bare, Keyed, Listed, holds_of, named, child_ids, child_named}
use Rattle.keep_index_store.specs.Children.{child_numbered}
use Rattle.keep_index_store.specs.Stored.{step_at, trie_node_in, trie_of, IsStored}
use Rattle.keep_index_store.specs.Tree.{TrieInfos, tree_of, IsChild}
use Rattle.keep_index_store.specs.Trie.{TrieNode, Holding, nothing, by_key, by_index, children_of, holds_at, parent_at}
use Rattle.keep_index_store.specs.Trie.{part_at, paths_of, path_at, state_at}
use Rattle.keep_index_store.proofs.StoredLemmas.{here, keyed_node, length_trie_of, node_placed, not_named, role_read}
use Rattle.keep_index_store.proofs.StoredLemmas.{step_below, stored_child}
use Rattle.keep_index_store.proofs.ChildLemmas.{child_by, child_met, child_only, index_is_place, key_step, no_key_step}

same_index : (m n : ℕ) → index m ≡ index n → m ≡ n
same_index m n e = cc

-- a step that is a number is the number
number_is : (names : List (List ℕ × ℕ)) (h : Holding) (m n : ℕ) → step_at names h m ≡ index n → m ≡ n
number_is names by_key m n is = cc
number_is names nothing m n is = same_index m n is
number_is names by_index m n is = same_index m n is

-- what holds after a call either way
pub on_both : {T E A B C : Type 0} (r : Result T E) → (A → C) → (B → C) → OnOk r A → OnErr r B → C
on_both (Ok x) f g a b = f a
on_both (Err e) f g a b = g b

-- the next item of an array, or element of an array of tables, has a path that no node has yet
item_missing : (c : ChildList) (n : ℕ) → length (child_ids c) ≤ n → child_by c (index n) ≡ None
item_missing Bare n past = refl
item_missing (Keyed pairs) n past = refl
item_missing (Listed ids) n past = slice_get_past ids n past

pub next_fresh : (nodes : List Node) → IsStored nodes → (i : ℕ) → i < length nodes
    → Contains (paths_of (trie_of nodes))
    (path_at (trie_of nodes) i ++ index (length (children_of (trie_of nodes) i)) ∷ []) → ⊥
next_fresh nodes stored i h =
    let n : ℕ = length (children_of (trie_of nodes) i) in
    child_met nodes stored i no_node (index n) None h
    (sym (item_missing (node_at nodes i).children n (omega (arith, ap length (stored.kids i no_node h)))))

-- the nodes, as they are seen
module _ (nodes : List Node) (t : TrieInfos) (view : tree_of nodes ≡ t) (stored : IsStored nodes) where
  pub count : length t.trie ≡ length nodes
  count = ap (λ (x : TrieInfos). length x.trie) (sym view) ∙ length_trie_of nodes

  module _ (i : ℕ) (within : i < length t.trie) where
    pub low : i < length nodes
    low = omega (arith, within, count)

    there : i < length (trie_of nodes)
    there = omega (arith, low, length_trie_of nodes)

    at : (u : TrieNode) → get_or (trie_of nodes) i u ≡ trie_node_in nodes (node_at nodes i)
    at u = here nodes i no_node u low

    pub parent_seen : (node_at nodes i).parent ≡ parent_at t.trie i
    parent_seen =
        let u : TrieNode = trie_node_in nodes no_node in
        sym (get_or-map (λ (x : TrieNode). x.parent) (trie_of nodes) i u 0 there
        ∙ ap (λ (x : TrieNode). x.parent) (at u))
        ∙ ap (λ (x : TrieInfos). parent_at x.trie i) view

    pub role_seen : (node_at nodes i).facts.role ≡ state_at t.trie i
    role_seen = sym (role_read nodes i no_node low) ∙ ap (λ (x : TrieInfos). state_at x.trie i) view

    pub holds_seen : holds_of (node_at nodes i).children ≡ holds_at t.trie i
    holds_seen = sym (keyed_node nodes i no_node low) ∙ ap (λ (x : TrieInfos). holds_at x.trie i) view

    pub kids_seen : child_ids (node_at nodes i).children ≡ children_of t.trie i
    kids_seen = stored.kids i no_node low ∙ ap (λ (x : TrieInfos). children_of x.trie i) view

    -- the last child
    pub last_low : (last : ℕ)
        → (0 < length (child_ids (node_at nodes i).children))
        × (last ≡ get_or (child_ids (node_at nodes i).children) (length (child_ids (node_at nodes i).children) - 1) 0)
        → last < length t.trie
    last_low last was =
        let kids : List ℕ = child_ids (node_at nodes i).children in
        omega (
          arith,
          was.1,
          (stored_child nodes stored i (length kids - 1) no_node low (omega (arith, was.0))).nested,
          count,
        )

    -- the children by a key and by a number
    pub key_seen : (text : List ℕ) (o : Option ℕ) → o ≡ child_named (node_at nodes i).children text
        → IsChild t.trie i (key text) o
    key_seen text o is =
        subst (λ (x : TrieInfos). IsChild x.trie i (key text) o) view
        (child_met nodes stored i no_node (key text) o low is)

    pub item_seen : (n : ℕ) (o : Option ℕ) → o ≡ child_numbered (node_at nodes i).children n
        → IsChild t.trie i (index n) o
    item_seen n o is =
        subst (λ (x : TrieInfos). IsChild x.trie i (index n) o) view
        (child_met nodes stored i no_node (index n) o low is)

    pub indexed_seen : (n k : ℕ) → IsChild t.trie i (index n) (Some k)
        → slice_get (child_ids (node_at nodes i).children) n ≡ Some k
    indexed_seen n k is =
        index_is_place (node_at nodes i).children n k
        (child_only nodes stored i no_node (index n) k low
        (subst (λ (x : TrieInfos). IsChild x.trie i (index n) (Some k)) (sym view) is))

    -- a path that no node has yet
    pub fresh_key : (text : List ℕ) → holds_at t.trie i ≡ by_key
        → (Contains (paths_of t.trie) (path_at t.trie i ++ key text ∷ []) → ⊥)
        → child_named (node_at nodes i).children text ≡ None
    fresh_key text keyed fresh =
        not_named nodes stored i no_node text low (holds_seen ∙ keyed)
        (subst (λ (x : TrieInfos). Contains (paths_of x.trie) (path_at x.trie i ++ key text ∷ []) → ⊥) (sym view) fresh)

    -- its own step
    module _ (later : 0 < i) where
      kids : ChildList
      kids = (node_at nodes (node_at nodes i).parent).children

      pub parent_low : (node_at nodes i).parent < length nodes
      parent_low = omega (arith, (node_placed nodes stored i no_node later low).earlier, low)

      part_seen : part_at t.trie i ≡ step_at (named kids) (holds_of kids) (node_at nodes i).number
      unfolding kids
      part_seen =
          let u : TrieNode = trie_node_in nodes no_node in
          ap (λ (x : TrieInfos). part_at x.trie i) (sym view)
          ∙ get_or-map (λ (x : TrieNode). x.part) (trie_of nodes) i u (index 0) there
          ∙ ap (λ (x : TrieNode). x.part) (at u)
          ∙ step_below nodes (node_at nodes i).parent no_node (node_at nodes i).number parent_low

      pub number_seen : (n : ℕ) → part_at t.trie i ≡ index n → (node_at nodes i).number ≡ n
      number_seen n is = number_is (named kids) (holds_of kids) (node_at nodes i).number n (sym part_seen ∙ is)

      pub own_key : (text : List ℕ)
          → Some text ≡ option_map (λ e.
          e.0) (slice_get (named (node_at nodes (node_at nodes i).parent).children) (node_at nodes i).number)
          → part_at t.trie i ≡ key text
      unfolding kids
      own_key text is = part_seen ∙ key_step kids (node_at nodes i).number text (sym is)

      not_key : None ≡ option_map (λ e.
          e.0) (slice_get (named (node_at nodes (node_at nodes i).parent).children) (node_at nodes i).number)
          → (holds_of kids ≢ by_key) × (step_at (named kids) (holds_of kids) (node_at nodes i).number
          ≡ index (node_at nodes i).number)
      unfolding kids
      not_key is = no_key_step kids (node_at nodes i).number (node_placed nodes stored i no_node later low).low (sym is)

      pub own_number : None ≡ option_map (λ e.
          e.0) (slice_get (named (node_at nodes (node_at nodes i).parent).children) (node_at nodes i).number)
          → (n : ℕ) × (part_at t.trie i ≡ index n)
      own_number is = ((node_at nodes i).number, part_seen ∙ (not_key is).1)

      pub not_keyed : None ≡ option_map (λ e.
          e.0) (slice_get (named (node_at nodes (node_at nodes i).parent).children) (node_at nodes i).number)
          → holds_at t.trie (parent_at t.trie i) ≢ by_key
      unfolding kids
      not_keyed is keyed =
          let up : ℕ = (node_at nodes i).parent in
          (not_key is).0 (sym (keyed_node nodes up no_node parent_low) ∙ ap (λ (x : TrieInfos). holds_at x.trie up) view
          ∙ ap (holds_at t.trie) parent_seen ∙ keyed)
