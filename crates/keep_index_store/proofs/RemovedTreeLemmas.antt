-- The nodes without the one of a line are stored as they have to be, and are the tree that contracts see.
--
-- The children of the parent are those that it had but for the one that went, and the children of each other node are
-- those that it had; all have the numbers that they have then (`kids_far`, `kids_near`). The number of each among its
-- siblings is its place there (`numbers_far`, `numbers_near`).
--
-- Theorems: `stored_all`; `leaf_there`, `stored_there`, `paths_there`, `infos_there`, `holdings_there`
-- and `root_there`.
use Rattle.std.proofs.Common.{◌≡◌, ℕ, ◌+◌, ◌<◌, List, length, get_or, map, refl, sym, ◌∙◌, ap, subst, arith, inl, inr}
use Rattle.std.specs.List.{remove}
use Rattle.std.proofs.lemmas.List.{get_or-map, length-map}
use Rattle.std.proofs.lemmas.List.Edits.{get_or-remove_below}
use Rattle.std.proofs.lemmas.Bool.{cases_eq}
use Rattle.keep_path.specs.NodeInfos.{earlier_number, later_number}
use Rattle.keep_index_store.specs.AllNodes.{Node, no_node}
use Rattle.keep_index_store.specs.Children.{Keyed, child_ids, named}
use Rattle.keep_index_store.specs.Removed.{IsLeaf, removed_nodes}
use Rattle.keep_index_store.specs.Stored.{AreNumbered, IsStored, infos_of, trie_node_in, trie_of}
use Rattle.keep_index_store.specs.Tree.{IsKeyLeaf, TrieInfos, tree_of}
use Rattle.keep_index_store.specs.Trie.{TrieNode, nothing, children_of, holds_at, holdings_of, paths_of}
use Rattle.keep_index_store.proofs.StoredLemmas.{IsStoredChild, here, ids_named, length_trie_of, stored_child}
use Rattle.keep_index_store.proofs.TreeLemmas.{holds_seen, kids_seen, low, parent_low, parent_seen}
use Rattle.keep_index_store.proofs.MovedListLemmas.{later_low}
use Rattle.keep_index_store.proofs.RemovedListLemmas.{earlier_later, earlier_low, has_later, length-removed}
use Rattle.keep_index_store.proofs.RemovedListLemmas.{map-removed, read_removed}
use Rattle.keep_index_store.proofs.RemovedNodeLemmas.{children_then, holdings_all, infos_all, paths_all, removable}
use Rattle.keep_index_store.proofs.RemovedNodeLemmas.{trie_all}
use Rattle.keep_index_store.proofs.RemovedPathLemmas.{removed_answers, removed_trie}
use Rattle.keep_index_store.proofs.RemovedReadLemmas.{above_within, children_other, children_own, count, ids_earlier}
use Rattle.keep_index_store.proofs.RemovedReadLemmas.{kids, number_far, number_near, placed}
use Rattle.keep_index_store.proofs.RemovedTrieLemmas.{above_removed}

module _ (nodes : List Node) (at : ℕ) (r : IsLeaf nodes at) where
  abbrev all : List Node
  all = removed_nodes nodes at

  abbrev up : ℕ
  up = (get_or nodes at no_node).parent

  abbrev place : ℕ
  place = (get_or nodes at no_node).number

  top : TrieNode
  top = trie_node_in nodes no_node

  parent_read : (u : TrieNode) → (get_or (trie_of nodes) at u).parent ≡ up
  parent_read u = ap (λ (t : TrieNode). t.parent) (here nodes at no_node u r.within)

  -- the parent has the number that it had
  up_stays : earlier_number at up ≡ up
  up_stays = earlier_low at up (omega (arith, (placed nodes at r).earlier))

  up_later : later_number at up ≡ up
  up_later = later_low at up (placed nodes at r).earlier

  -- ---- the children

  kids_far : (j : ℕ) (e : Node) → j < length all → (later_number at j ≡ up → ⊥)
      → child_ids (get_or all j e).children
      ≡ map (earlier_number at) (child_ids (get_or nodes (later_number at j) no_node).children)
  kids_far j e h far =
      let i : ℕ = later_number at j in
      let within : i < length nodes = omega (arith, h, count nodes at r, (has_later at j).near) in
      ap (λ k. child_ids (get_or all k e).children) (sym (earlier_later at j))
      ∙ ap child_ids (children_other nodes at r i e within (has_later at j).other far)
      ∙ ids_earlier at (get_or nodes i no_node).children

  kids_near : (e : Node)
      → child_ids (get_or all up e).children ≡ map (earlier_number at) (remove (child_ids (kids nodes at r)) place)
  kids_near e =
      ap (λ k. child_ids (get_or all k e).children) (sym up_stays) ∙ ap child_ids (children_own nodes at r up e refl)
      ∙ ids_earlier at (Keyed (remove (named (kids nodes at r)) place))
      ∙ ap (map (earlier_number at)) (map-removed (λ (e : List ℕ × ℕ). e.1) (named (kids nodes at r)) place
      ∙ ap (λ ks. remove ks place) (sym (ids_named (kids nodes at r) r.keyed)))

  kids_all : (j : ℕ) (e : Node) → j < length all → child_ids (get_or all j e).children ≡ children_of (trie_of all) j
  kids_all j e h = elim (cases_eq (later_number at j) up) [
    | inl near ↦
        let is : j ≡ up = sym (earlier_later at j) ∙ ap (earlier_number at) near ∙ up_stays in
        let same : child_ids (kids nodes at r) ≡ children_of (trie_of nodes) up =
        r.stored.kids up no_node (above_within nodes at r) in
        let same' : children_of (trie_of nodes) (get_or (trie_of nodes) at top).parent ≡ child_ids (kids nodes at r) =
        ap (children_of (trie_of nodes)) (parent_read top) ∙ sym same in
        ap (λ k. child_ids (get_or all k e).children) is ∙ kids_near e
        ∙ ap (λ ks. map (earlier_number at) (remove ks place)) (sym same')
        ∙ sym (above_removed (trie_of nodes) at (removable nodes at r) top place
        (omega (arith, (placed nodes at r).low, ap length same'))
        (ap (λ ks. get_or ks place 0) same' ∙ (placed nodes at r).found))
        ∙ ap (children_of (removed_trie (trie_of nodes) at)) (parent_read top ∙ sym is)
        ∙ sym (children_then nodes at r j)
    | inr far ↦
        kids_far j e h far
        ∙ ap (map (earlier_number at)) (r.stored.kids (later_number at j) no_node
        (omega (arith, h, count nodes at r, (has_later at j).near)))
        ∙ sym ((removed_answers (trie_of nodes) at (removable nodes at r)).other j top
        (λ e. far (ap (later_number at) (sym e ∙ parent_read top) ∙ up_later))) ∙ sym (children_then nodes at r j)
  ]

  -- ---- their numbers

  -- a child as it was, which is not the node that goes, and its number then
  numbered : (c k : ℕ) (e : Node) → (get_or all (earlier_number at c) e).number ≡ k → (ids : List ℕ) (n : ℕ)
      → n < length ids → get_or ids n 0 ≡ c
      → (get_or all (get_or (map (earlier_number at) ids) n 0) e).number ≡ k
  numbered c k e is ids n within there =
      let then : get_or (map (earlier_number at) ids) n 0 ≡ earlier_number at c =
      get_or-map (earlier_number at) ids n 0 0 within ∙ ap (earlier_number at) there in
      ap (λ m. (get_or all m e).number) then ∙ is

  numbers_far : (i : ℕ) → i < length nodes → (i ≡ up → ⊥)
      → AreNumbered all (map (earlier_number at) (child_ids (get_or nodes i no_node).children))
  numbers_far i h far k e within =
      let ids : List ℕ = child_ids (get_or nodes i no_node).children in
      let few : k < length ids = omega (arith, within, length-map ids (earlier_number at)) in
      let child : IsStoredChild nodes i k (get_or ids k 0) no_node = stored_child nodes r.stored i k no_node h few in
      let other : get_or ids k 0 ≡ at → ⊥ =
      λ is. far (sym child.parent ∙ ap (λ c. (get_or nodes c no_node).parent) is) in
      let away : (get_or nodes (get_or ids k 0) no_node).parent ≡ up → ⊥ = λ near. far (sym child.parent ∙ near) in
      numbered (get_or ids k 0) k e (number_far nodes at r (get_or ids k 0) e child.nested other away ∙ child.number)
      ids k few refl

  numbers_near : AreNumbered all (map (earlier_number at) (remove (child_ids (kids nodes at r)) place))
  numbers_near k e within =
      let ids : List ℕ = child_ids (kids nodes at r) in
      let fewer : length (remove ids place) + 1 ≡ length ids = length-removed ids place (placed nodes at r).low in
      let less : k < length (remove ids place) =
      omega (arith, within, length-map (remove ids place) (earlier_number at)) in
      let was : ℕ = later_number place k in
      let few : was < length ids = omega (arith, less, fewer, (has_later place k).near) in
      let child : IsStoredChild nodes up was (get_or ids was 0) no_node =
      stored_child nodes r.stored up was no_node (above_within nodes at r) few in
      let other : get_or ids was 0 ≡ at → ⊥ =
      λ is. (has_later place k).other (sym child.number ∙ ap (λ c. (get_or nodes c no_node).number) is) in
      numbered (get_or ids was 0) k e
      (number_near nodes at r (get_or ids was 0) e child.nested other child.parent
      ∙ ap (earlier_number place) child.number ∙ earlier_later place k)
      (remove ids place) k less (read_removed ids place (placed nodes at r).low k 0)

  pub stored_all : IsStored all
  stored_all = record {
    trie = trie_all nodes at r;
    kids = kids_all;
    numbers = λ j e h. elim (cases_eq (later_number at j) up) [
      | inl near ↦
          let is : j ≡ up = sym (earlier_later at j) ∙ ap (earlier_number at) near ∙ up_stays in
          subst (AreNumbered all) (sym (ap (λ k. child_ids (get_or all k e).children) is ∙ kids_near e)) numbers_near
      | inr far ↦
          subst (AreNumbered all) (sym (kids_far j e h far))
          (numbers_far (later_number at j) (omega (arith, h, count nodes at r, (has_later at j).near)) far)
    ];
  }

-- ---- the tree that contracts see

module _ (nodes : List Node) (t : TrieInfos) (view : tree_of nodes ≡ t) (stored : IsStored nodes) (id : ℕ)
    (within : id < length t.trie) (leaf : IsKeyLeaf t.trie id) where
  pub leaf_there : IsLeaf nodes id
  leaf_there =
      let up : (get_or nodes id no_node).parent < length nodes = parent_low nodes t view stored id within leaf.later in
      record {
        stored = stored;
        later = leaf.later;
        within = low nodes t view stored id within;
        bare = kids_seen nodes t view stored id within ∙ leaf.bare;
        keyed =
            holds_seen nodes t view stored (get_or nodes id no_node).parent (omega (arith, up, seen))
            ∙ ap (holds_at t.trie) (parent_seen nodes t view stored id within) ∙ leaf.keyed;
      }
    where
      seen : length t.trie ≡ length nodes
      seen = ap (λ (x : TrieInfos). length x.trie) (sym view) ∙ length_trie_of nodes

  -- the nodes without it
  module _ (items : List Node) (is : items ≡ removed_nodes nodes id) where
    pub stored_there : IsStored items
    stored_there = subst IsStored (sym is) (stored_all nodes id leaf_there)

    pub paths_there : paths_of (trie_of items) ≡ remove (paths_of t.trie) id
    paths_there =
        ap (λ ns. paths_of (trie_of ns)) is ∙ paths_all nodes id leaf_there
        ∙ ap (λ (x : TrieInfos). remove (paths_of x.trie) id) view

    pub infos_there : infos_of items ≡ remove t.infos id
    infos_there = ap infos_of is ∙ infos_all nodes id leaf_there ∙ ap (λ (x : TrieInfos). remove x.infos id) view

    pub holdings_there : holdings_of (trie_of items) ≡ remove (holdings_of t.trie) id
    holdings_there =
        ap (λ ns. holdings_of (trie_of ns)) is ∙ holdings_all nodes id leaf_there
        ∙ ap (λ (x : TrieInfos). remove (holdings_of x.trie) id) view

    pub root_there : holds_at (trie_of items) 0 ≡ holds_at t.trie 0
    root_there =
        ap (λ hs. get_or hs 0 nothing) holdings_there
        ∙ get_or-remove_below (holdings_of t.trie) id nothing 0 leaf.later
        (omega (arith, within, length-map t.trie (λ (x : TrieNode). x.holds)))
