-- Nodes that come each below the one before it, by their keys, as a tree of steps.
--
-- By induction over the keys: each node is one node more (`key_stored`, `trie_grows`), and the next key can come below
-- it, since no path that is there goes on from its own (`next_fresh`). An element is one more, below an array of tables
-- that has none (`element_grows`).
--
-- Theorems: `all_stored`, of the nodes alone, and `adds_keys`, of the tree that contracts see.
use Rattle.std.proofs.Common.{◌≡◌, ℕ, ◌+◌, ◌<◌, List, [], ◌∷◌, ◌++◌, length, refl, sym, ap, subst, ◌∙◌, arith, inl, inr}
use Rattle.std.proofs.Common.{Option, None, Some, ◌-◌, get_or, length-append}
use Rattle.std.specs.Prelude.{Contains}
use Rattle.std.proofs.lemmas.List.{append-nil, append_assoc, get_or_push}
use Rattle.std.proofs.lemmas.List.Elements.{Contains-push_cases}
use Rattle.keep_types.specs.declared.node.NodeInfo.{NodeInfo}
use Rattle.keep_types.specs.declared.role.Role.{Role}
use Rattle.keep_path.specs.Path.{Part, index, key}
use Rattle.keep_index_store.specs.declared.facts.NodeFacts.{NodeFacts}
use Rattle.keep_index_store.specs.declared.tree.joining.HeaderFacts.{HeaderFacts}
use Rattle.keep_index_store.specs.AllNodes.{Node, and_item, no_node, node_at, with_key_below}
use Rattle.keep_index_store.specs.Children.{ChildList, child_ids, holds_of, no_children}
use Rattle.keep_index_store.specs.Facts.{info_of}
use Rattle.keep_index_store.specs.Growth.{Grows}
use Rattle.keep_index_store.specs.KeysBelow.{AddsKeys, element_infos, element_paths, first_key, infos_below}
use Rattle.keep_index_store.specs.KeysBelow.{next_facts, own_holding, path_below, paths_below, with_element}
use Rattle.keep_index_store.specs.KeysBelow.{with_element_below, with_header_below, with_keys_below}
use Rattle.keep_index_store.specs.Stored.{IsStored, infos_of, trie_of}
use Rattle.keep_index_store.specs.Tree.{TrieInfos, tree_of}
use Rattle.keep_index_store.specs.Trie.{by_index, by_key, children_of, holds_at, path_at, paths_of, states_of}
use Rattle.keep_index_store.proofs.KeysBelowLemmas.{array_bare, array_listed, array_within}
use Rattle.keep_index_store.proofs.KeyBelowLemmas.{HasKeyPlace, key_infos, key_stored, trie_grows}
use Rattle.keep_index_store.proofs.NewNodeLemmas.{holds_below, holds_last, longer, path_last}
use Rattle.keep_index_store.proofs.StoredLemmas.{IsAdded, grows_with, infos_added, item_step, length_trie_of, no_names}
use Rattle.keep_index_store.proofs.StoredLemmas.{none_holds, none_ids, stored_added}
use Rattle.keep_index_store.proofs.TreeLemmas.{next_fresh as no_next}
use Rattle.keep_index_store.proofs.TrieLemmas.{closed, length-paths_of}

-- the paths on the way, with the first of them among those that are there
paths_joined : (paths : List (List Part)) (q : List Part) (ks : List (List ℕ))
    → (paths ++ q ∷ []) ++ paths_below q ks ≡ paths ++ (q ∷ paths_below q ks)
paths_joined paths q ks = append_assoc paths (q ∷ []) (paths_below q ks)

-- what the nodes with these keys are as a tree, beside those that were there
pub record AreStoredBelow (nodes new : List Node) (parent : ℕ) (leading : List (List ℕ)) (last : List ℕ)
    (facts : HeaderFacts) (element : Option NodeFacts) : Type 0 where
  pub stored : IsStored new
  pub paths : paths_of (trie_of new)
      ≡ (paths_of (trie_of nodes) ++ paths_below (path_at (trie_of nodes) parent) leading)
      ++ ((path_below (path_at (trie_of nodes) parent) leading ++ key last ∷ [])
      ∷ element_paths (path_below (path_at (trie_of nodes) parent) leading ++ key last ∷ []) element)
  pub infos : infos_of new
      ≡ (infos_of nodes ++ infos_below facts.through leading) ++ (info_of facts.own ∷ element_infos element)
  pub root : holds_at (trie_of new) 0 ≡ holds_at (trie_of nodes) 0
  pub more : List (Option Role)
  pub states : states_of (trie_of new) ≡ states_of (trie_of nodes) ++ more

-- one node, in the tree of the nodes themselves
module _ (nodes : List Node) (parent : ℕ) (text : List ℕ) (facts : NodeFacts)
    (place : HasKeyPlace nodes (tree_of nodes) parent text) where
  abbrev next : List Node
  next = with_key_below nodes parent text by_key facts

  abbrev path : List Part
  path = path_at (trie_of nodes) parent ++ key text ∷ []

  abbrev grows : Grows (trie_of nodes) (trie_of next) parent path facts.role by_key
  grows = trie_grows nodes (tree_of nodes) parent text by_key facts place

  count : length (trie_of next) ≡ length nodes + 1
  count = omega (arith, longer grows, length_trie_of nodes)

  next_path : path_at (trie_of next) (length nodes) ≡ path
  next_path = ap (path_at (trie_of next)) (sym (length_trie_of nodes)) ∙ path_last grows

  next_holds : holds_at (trie_of next) (length nodes) ≡ by_key
  next_holds = ap (holds_at (trie_of next)) (sym (length_trie_of nodes)) ∙ holds_last grows

  -- no node is below the new one
  next_fresh : (more : List ℕ)
      → Contains (paths_of (trie_of next)) (path_at (trie_of next) (length nodes) ++ key more ∷ []) → ⊥
  next_fresh more there =
      let all : Contains (paths_of (trie_of nodes) ++ path ∷ []) (path ++ key more ∷ []) =
      subst (λ ps. Contains ps (path ++ key more ∷ [])) grows.paths
      (subst (λ p. Contains (paths_of (trie_of next)) (p ++ key more ∷ [])) next_path there) in
      elim (Contains-push_cases (paths_of (trie_of nodes)) path (path ++ key more ∷ []) all) [
        | inl earlier ↦ grows.fresh (closed (trie_of nodes) grows.trie (key more ∷ []) path earlier)
        | inr own ↦
            absurd (omega (
              arith,
              ap length own,
              length-append path (key more ∷ []),
            ))
      ]

  pub next_key_place : (more : List ℕ) → HasKeyPlace next (tree_of next) (length nodes) more
  next_key_place more = record {
    view = refl;
    stored = key_stored nodes (tree_of nodes) parent text by_key facts place;
    above = (omega (arith, count), next_holds);
    fresh = next_fresh more;
  }

own_grows : (nodes : List Node) (parent : ℕ) (last : List ℕ) (facts : HeaderFacts)
    → HasKeyPlace nodes (tree_of nodes) parent last
    → Grows (trie_of nodes) (trie_of (with_key_below nodes parent last (own_holding facts.element) facts.own)) parent
    (path_at (trie_of nodes) parent ++ key last ∷ []) facts.own.role (own_holding facts.element)
own_grows nodes parent last facts place =
    trie_grows nodes (tree_of nodes) parent last (own_holding facts.element) facts.own place

keys_stored : (nodes : List Node) (parent : ℕ) (facts : HeaderFacts) (leading : List (List ℕ)) (last : List ℕ)
    → HasKeyPlace nodes (tree_of nodes) parent (first_key leading last)
    → AreStoredBelow nodes (with_keys_below nodes parent facts leading last) parent leading last facts None
keys_stored nodes parent facts [] last place = record {
  stored = key_stored nodes (tree_of nodes) parent last (own_holding facts.element) facts.own place;
  paths =
      (own_grows nodes parent last facts place).paths
      ∙ ap (λ ps. ps ++ (path_at (trie_of nodes) parent ++ key last ∷ []) ∷ []) (sym (append-nil _));
  infos =
      key_infos nodes (tree_of nodes) parent last (own_holding facts.element) facts.own place
      ∙ ap (λ is. is ++ info_of facts.own ∷ []) (sym (append-nil _));
  root = holds_below (own_grows nodes parent last facts place) 0 (own_grows nodes parent last facts place).trie.root;
  more = facts.own.role ∷ [];
  states = (own_grows nodes parent last facts place).states;
}
keys_stored nodes parent facts (k ∷ ks) last place =
    let mid : List Node = with_key_below nodes parent k by_key facts.through in
    let q : List Part = path_at (trie_of nodes) parent ++ key k ∷ [] in
    let g = grows nodes parent k facts.through place in
    let rest : HeaderFacts = record facts { through = next_facts facts.through } in
    let ih = keys_stored mid (length nodes) rest ks last
    (next_key_place nodes parent k facts.through place (first_key ks last)) in
    let here : path_at (trie_of mid) (length nodes) ≡ q = next_path nodes parent k facts.through place in
    record {
      stored = ih.stored;
      paths =
          ih.paths
          ∙ ap (λ p.
          (paths_of (trie_of mid) ++ paths_below p ks) ++ (path_below p ks ++ key last ∷ []) ∷ []) here
          ∙ ap (λ ps. (ps ++ paths_below q ks) ++ (path_below q ks ++ key last ∷ []) ∷ []) g.paths
          ∙ ap (λ ps. ps ++ (path_below q ks ++ key last ∷ []) ∷ [])
          (paths_joined (paths_of (trie_of nodes)) q ks);
      infos =
          ih.infos
          ∙ ap (λ is. (is ++ infos_below rest.through ks) ++ info_of facts.own ∷ [])
          (key_infos nodes (tree_of nodes) parent k by_key facts.through place)
          ∙ ap (λ is. is ++ info_of facts.own ∷ [])
          (append_assoc (infos_of nodes) (info_of facts.through ∷ []) (infos_below rest.through ks));
      root = ih.root ∙ holds_below g 0 g.trie.root;
      more = facts.through.role ∷ ih.more;
      states =
          ih.states ∙ ap (λ ss. ss ++ ih.more) g.states
          ∙ append_assoc (states_of (trie_of nodes)) (facts.through.role ∷ []) ih.more;
    }

-- ---- the element

module _ (nodes : List Node) (array : ℕ) (facts : NodeFacts) (stored : IsStored nodes) (within : array < length nodes)
    (listed : holds_of (node_at nodes array).children ≡ by_index)
    (none : child_ids (node_at nodes array).children ≡ []) where
  abbrev kids : ChildList
  kids = and_item (node_at nodes array).children (length nodes)

  abbrev row : Node
  row = record { parent = array; number = 0; children = no_children by_key; facts = facts }

  no_child : length (children_of (trie_of nodes) array) ≡ 0
  no_child = ap length (sym (stored.kids array no_node within) ∙ none)

  added : IsAdded nodes array no_node kids row (index 0)
  added = record {
    stored = stored;
    within = within;
    holds = sym listed;
    ids = refl;
    names = [];
    named_is = sym (ap (λ ns. ns ++ []) (no_names (node_at nodes array).children listed));
    parent_is = refl;
    last = sym (ap length none);
    step = item_step kids 0 0 refl refl;
    bare = none_ids by_key;
  }

  fresh : Contains (paths_of (trie_of nodes)) (path_at (trie_of nodes) array ++ index 0 ∷ []) → ⊥
  fresh =
      subst (λ n. Contains (paths_of (trie_of nodes)) (path_at (trie_of nodes) array ++ index n ∷ []) → ⊥) no_child
      (no_next nodes stored array within)

  element_grows : Grows (trie_of nodes) (trie_of (with_element_below nodes array facts)) array
      (path_at (trie_of nodes) array ++ index 0 ∷ []) facts.role by_key
  element_grows = grows_with _ _ _ _ _ _ _ _ added fresh refl (none_holds by_key)

  element_stored : IsStored (with_element_below nodes array facts)
  element_stored = stored_added nodes array no_node kids row (index 0) added fresh

  element_added : infos_of (with_element_below nodes array facts) ≡ infos_of nodes ++ info_of facts ∷ []
  element_added = infos_added nodes array no_node kids row

-- the path of the last node
last_path : (nodes : List Node) → IsStored nodes → (front : List (List Part)) (path : List Part)
    → paths_of (trie_of nodes) ≡ front ++ path ∷ [] → path_at (trie_of nodes) (length nodes - 1) ≡ path
last_path nodes stored front path is =
    ap (λ ps. get_or ps (length nodes - 1) []) is
    ∙ get_or_push front path [] (length nodes - 1)
    (omega (
      arith,
      ap length is,
      length-append front (path ∷ []),
      length-paths_of (trie_of nodes) stored.trie.root,
      length_trie_of nodes,
    ))

module _ (nodes : List Node) (parent : ℕ) (facts : HeaderFacts) (leading : List (List ℕ)) (last : List ℕ)
    (place : HasKeyPlace nodes (tree_of nodes) parent (first_key leading last)) where
  abbrev all : List Node
  all = with_keys_below nodes parent facts leading last

  base : AreStoredBelow nodes all parent leading last facts None
  base = keys_stored nodes parent facts leading last place

  with_given : (o : Option NodeFacts) → facts.element ≡ o
      → AreStoredBelow nodes (with_element all o) parent leading last facts o
  with_given None is = base
  with_given (Some element) is =
      let array : ℕ = length all - 1 in
      let within : array < length all = array_within nodes parent facts leading last in
      let listed = array_listed nodes parent facts leading last element is in
      let none = array_bare nodes parent facts leading last element is in
      let g = element_grows all array element base.stored within listed none in
      let path : List Part = path_below (path_at (trie_of nodes) parent) leading ++ key last ∷ [] in
      let front : List (List Part) =
      paths_of (trie_of nodes) ++ paths_below (path_at (trie_of nodes) parent) leading in
      let before : List NodeInfo = infos_of nodes ++ infos_below facts.through leading in
      record {
        stored = element_stored all array element base.stored within listed none;
        paths =
            g.paths
            ∙ ap (λ p. paths_of (trie_of all) ++ (p ++ index 0 ∷ []) ∷ [])
            (last_path all base.stored front path base.paths)
            ∙ ap (λ ps. ps ++ (path ++ index 0 ∷ []) ∷ []) base.paths
            ∙ append_assoc front (path ∷ []) ((path ++ index 0 ∷ []) ∷ []);
        infos =
            element_added all array element base.stored within listed none
            ∙ ap (λ is. is ++ info_of element ∷ []) base.infos
            ∙ append_assoc before (info_of facts.own ∷ []) (info_of element ∷ []);
        root = holds_below g 0 g.trie.root ∙ base.root;
        more = base.more ++ element.role ∷ [];
        states =
            g.states ∙ ap (λ ss. ss ++ element.role ∷ []) base.states
            ∙ append_assoc (states_of (trie_of nodes)) base.more (element.role ∷ []);
      }

  pub all_stored : AreStoredBelow nodes (with_header_below nodes parent facts leading last) parent leading last facts
      facts.element
  all_stored = with_given facts.element refl

-- the tree that contracts see
module _ (nodes : List Node) (t : TrieInfos) (view : tree_of nodes ≡ t) (stored : IsStored nodes) (parent : ℕ)
    (facts : HeaderFacts) (leading : List (List ℕ)) (last : List ℕ)
    (above : (parent < length t.trie) × (holds_at t.trie parent ≡ by_key))
    (fresh : Contains (paths_of t.trie) (path_at t.trie parent ++ key (first_key leading last) ∷ []) → ⊥) where
  pub first_place : HasKeyPlace nodes t parent (first_key leading last)
  first_place = record { view = view; stored = stored; above = above; fresh = fresh }

  here : HasKeyPlace nodes (tree_of nodes) parent (first_key leading last)
  here = subst (λ (x : TrieInfos). HasKeyPlace nodes x parent (first_key leading last)) (sym view) first_place

  pub are_stored : AreStoredBelow nodes (with_header_below nodes parent facts leading last) parent leading last facts
      facts.element
  are_stored = all_stored nodes parent facts leading last here

  pub adds_keys : AddsKeys t (tree_of (with_header_below nodes parent facts leading last)) [] parent leading last facts
  adds_keys =
      subst (λ (x : TrieInfos).
      AddsKeys x (tree_of (with_header_below nodes parent facts leading last)) [] parent leading last facts) view
      (record {
        trie = are_stored.stored.trie;
        paths = are_stored.paths;
        infos = are_stored.infos;
        root = are_stored.root;
      })

  pub states_more : (more : List (Option Role))
      × (states_of (trie_of (with_header_below nodes parent facts leading last)) ≡ states_of t.trie ++ more)
  states_more = (
    are_stored.more,
    are_stored.states ∙ ap (λ (x : TrieInfos). states_of x.trie ++ are_stored.more) view,
  )
