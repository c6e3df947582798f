-- The nodes and their parent links, which are stored apart, without one node.
--
-- The node goes from one list, and its link from the other; row by row these are the nodes without it, with the numbers
-- that they have then. It is a child by key of an earlier node, and of no other, so no array has it as an item.
--
-- Theorem: `rows_gone`.
use Rattle.std.proofs.Common.{◌≡◌, ℕ, zero, suc, ◌<◌, List, [], ◌∷◌, length, get_or, map}
use Rattle.std.proofs.Common.{refl, sym, ◌∙◌, ap, subst, arith, Some}
use Rattle.std.specs.Prelude.{All, slice_get}
use Rattle.std.specs.List.{remove}
use Rattle.std.proofs.lemmas.List.{get_or_default, length-map, length-set}
use Rattle.std.proofs.lemmas.List.Edits.{length-remove}
use Rattle.std.proofs.lemmas.Simd.{map-map}
use Rattle.keep_index_store.specs.declared.links.ParentLink.{ParentLink}
use Rattle.keep_index_store.specs.declared.nodes.Node.{Node as StoredNode}
use Rattle.keep_index_store.specs.AllNodes.{Node, AllNodes, no_node, node_at, with_children}
use Rattle.keep_index_store.specs.Children.{ChildList, Keyed, holds_of, named, child_ids}
use Rattle.keep_index_store.specs.Links.{FitsIn32Bits}
use Rattle.keep_index_store.specs.Moved.{stored_at}
use Rattle.keep_index_store.specs.NodeRows.{node_row, node_rows, all_nodes}
use Rattle.keep_index_store.specs.Removed.{HasNoItem, HasStoredLink, IsLeaf, earlier_link, earlier_node}
use Rattle.keep_index_store.specs.Removed.{earlier_sibling, removed_nodes, with_earlier_children, without_child}
use Rattle.keep_index_store.specs.Removed.{without_key}
use Rattle.keep_index_store.specs.Trie.{by_key, by_index}
use Rattle.keep_index_store.proofs.NodeRowLemmas.{count_seen, rows_at, children_read, parent_read, number_read}
use Rattle.keep_index_store.proofs.NodeRowLemmas.{children_set, nowhere, nothing}
use Rattle.keep_index_store.proofs.StoredLemmas.{IsPlaced, IsStoredChild, count_named, node_placed, stored_child}
use Rattle.keep_index_store.proofs.AscendingLemmas.{Ascends, stored_ascend}
use Rattle.keep_index_store.proofs.RemovedListLemmas.{map-removed}

-- ---- links that are stored in 32 bits

module _ (list : List StoredNode) (links : List ParentLink) (all : AllNodes) (view : all_nodes list links ≡ all)
    (paired : length links ≡ length list) where
  pub links_fit : All HasStoredLink all.items → All FitsIn32Bits links
  links_fit small k d h =
      let low : k < length list = omega (arith, h, paired) in
      subst HasStoredLink
      (ap (λ (x : AllNodes). node_at x.items k) (sym view) ∙ rows_at list links k nothing d paired low)
      (small k no_node (omega (arith, low, count_seen list links all view paired)))

  pub rows_fit : All FitsIn32Bits links → All HasStoredLink all.items
  rows_fit small k d h =
      let low : k < length list = omega (arith, h, count_seen list links all view paired) in
      subst HasStoredLink
      (sym (get_or_default all.items k d no_node h ∙ ap (λ (x : AllNodes). node_at x.items k) (sym view)
      ∙ rows_at list links k nothing nowhere paired low))
      (small k nowhere (omega (arith, low, paired)))

-- ---- the two lists, row by row

rows_map : (own : Node) (at : ℕ) (nodes : List StoredNode) (links : List ParentLink)
    → node_rows (map (with_earlier_children at) nodes)
    (map (earlier_link at (record { parent = own.parent; number = own.number })) links)
    ≡ map (λ x. earlier_node at (earlier_sibling own x)) (node_rows nodes links)
rows_map own at [] links = refl
rows_map own at (x ∷ nodes) [] = refl
rows_map own at (x ∷ nodes) (h ∷ links) =
    ap (λ (xs : List Node). earlier_node at (earlier_sibling own (node_row x h)) ∷ xs) (rows_map own at nodes links)

rows_removed : (nodes : List StoredNode) (links : List ParentLink) (i : ℕ) → length links ≡ length nodes
    → node_rows (remove nodes i) (remove links i) ≡ remove (node_rows nodes links) i
rows_removed [] [] zero paired = refl
rows_removed [] [] (suc i) paired = refl
rows_removed [] (h ∷ links) i paired = absurd (omega (arith, paired))
rows_removed (n ∷ nodes) [] i paired = absurd (omega (arith, paired))
rows_removed (n ∷ nodes) (h ∷ links) zero paired = refl
rows_removed (n ∷ nodes) (h ∷ links) (suc i) paired =
    ap (λ (xs : List Node). node_row n h ∷ xs) (rows_removed nodes links i (omega (arith, paired)))

-- ---- the node gone

module _ (list : List StoredNode) (links : List ParentLink) (all : AllNodes) (view : all_nodes list links ≡ all)
    (paired : length links ≡ length list) (at : ℕ) (r : IsLeaf all.items at) (h : ParentLink)
    (is : slice_get links at ≡ Some h) where
  abbrev nodes : List Node
  nodes = all.items

  abbrev gone : Node
  gone = node_at all.items at

  abbrev keyed : List StoredNode
  keyed = without_key list h

  up : h.parent ≡ gone.parent
  up = parent_read list links all view paired at r.within h is

  number : h.number ≡ gone.number
  number = number_read list links all view paired at r.within h is

  placed : IsPlaced nodes at no_node
  placed = node_placed nodes r.stored at no_node r.later r.within

  above_seen : h.parent < length nodes
  above_seen = omega (arith, up, placed.earlier, r.within)

  pub above_low : h.parent < length list
  above_low = omega (arith, above_seen, count_seen list links all view paired)

  pub at_low : at < length list
  at_low = omega (arith, r.within, count_seen list links all view paired)

  own : stored_at list h.parent ≡ get_or list h.parent (stored_at list h.parent)
  own = get_or_default list h.parent nothing (stored_at list h.parent) above_low

  own_children : (stored_at list h.parent).children ≡ (node_at nodes gone.parent).children
  own_children =
      children_read list links all view paired h.parent above_seen (stored_at list h.parent) own
      ∙ ap (λ k. (node_at nodes k).children) up

  pub holds : holds_of (stored_at list h.parent).children ≡ by_key
  holds = ap holds_of own_children ∙ r.keyed

  pub counted : h.number < length (named (stored_at list h.parent).children)
  counted =
      let many = count_named (node_at nodes gone.parent).children r.keyed in
      omega (arith, number, placed.low, many, ap (λ (c : ChildList). length (named c)) own_children)

  -- no array has it as an item
  none_at : (i : ℕ) → i < length nodes → HasNoItem at (node_at nodes i).children
  none_at i low indexed k d few same =
      let ids : List ℕ = child_ids (node_at nodes i).children in
      let child : IsStoredChild nodes i k (get_or ids k 0) no_node = stored_child nodes r.stored i k no_node low few in
      let here : get_or ids k 0 ≡ at = get_or_default ids k 0 d few ∙ same in
      let below : gone.parent ≡ i = ap (λ j. (node_at nodes j).parent) (sym here) ∙ child.parent in
      let e : by_index ≡ by_key = sym indexed ∙ ap (λ j. holds_of (node_at nodes j).children) (sym below) ∙ r.keyed in
      cc

  pub each : All (λ (x : StoredNode). HasNoItem at x.children) list
  each k d low =
      let seen : k < length nodes = omega (arith, low, count_seen list links all view paired) in
      let x : StoredNode = get_or list k d in
      let same : x.children ≡ (node_at nodes k).children =
      children_read list links all view paired k seen x (get_or_default list k d x low) in
      subst (λ (c : ChildList). HasNoItem at c) (sym same) (none_at k seen)

  pub ascending : All (λ (x : StoredNode). Ascends (child_ids x.children)) list
  ascending k d low =
      let seen : k < length nodes = omega (arith, low, count_seen list links all view paired) in
      let x : StoredNode = get_or list k d in
      let same : x.children ≡ (node_at nodes k).children =
      children_read list links all view paired k seen x (get_or_default list k d x low) in
      subst (λ (c : ChildList). Ascends (child_ids c)) (sym same) (stored_ascend nodes r.stored k seen)

  -- ---- the key gone

  abbrev left : List (List ℕ × ℕ)
  left = remove (named (node_at nodes gone.parent).children) gone.number

  keyed_rows : node_rows keyed links ≡ with_children nodes gone.parent (Keyed left)
  keyed_rows =
      let n : StoredNode = stored_at list h.parent in
      children_set list links all view paired h.parent above_seen n (Keyed (remove (named n.children) h.number)) own
      ∙ ap (λ (c : ChildList). with_children nodes h.parent (Keyed (remove (named c) h.number))) own_children
      ∙ ap (λ i. with_children nodes h.parent (Keyed (remove (named (node_at nodes gone.parent).children) i))) number
      ∙ ap (λ p. with_children nodes p (Keyed left)) up

  link_is : ◌≡◌ {A = ParentLink} h (record { parent = gone.parent; number = gone.number })
  link_is =
      ap (λ p. let l : ParentLink = record { parent = p; number = h.number } in l) up
      ∙ ap (λ n. let l : ParentLink = record { parent = gone.parent; number = n } in l) number

  count_keyed : length keyed ≡ length list
  count_keyed =
      let n : StoredNode = stored_at list h.parent in
      length-set list h.parent (record n { children = Keyed (remove (named n.children) h.number) })

  -- ---- all of it

  module _ (list' : List StoredNode) (links' : List ParentLink)
      (nodes_are : list' ≡ remove (map (with_earlier_children at) keyed) at)
      (links_are : links' ≡ remove (map (earlier_link at h) links) at) where
    abbrev ns : List StoredNode
    ns = map (with_earlier_children at) keyed

    abbrev hs : List ParentLink
    hs = map (earlier_link at h) links

    count_nodes : length ns ≡ length list
    count_nodes = length-map keyed (with_earlier_children at) ∙ count_keyed

    count_links : length hs ≡ length list
    count_links = length-map links (earlier_link at h) ∙ paired

    all_rows : node_rows ns hs ≡ map (earlier_node at) (without_child nodes gone)
    all_rows =
        ap (λ (l : ParentLink). node_rows ns (map (earlier_link at l) links)) link_is ∙ rows_map gone at keyed links
        ∙ ap (map (λ x. earlier_node at (earlier_sibling gone x))) keyed_rows
        ∙ sym (map-map (earlier_node at) (earlier_sibling gone) (with_children nodes gone.parent (Keyed left)))

    pub rows_gone : node_rows list' links' ≡ removed_nodes nodes at
    rows_gone =
        ap (λ xs. node_rows xs links') nodes_are ∙ ap (node_rows (remove ns at)) links_are
        ∙ rows_removed ns hs at (count_links ∙ sym count_nodes) ∙ ap (λ (xs : List Node). remove xs at) all_rows
        ∙ sym (map-removed (earlier_node at) (without_child nodes gone) at)

    pub counts : length links' ≡ length list'
    counts =
        let one = length-remove hs at (omega (arith, count_links, at_low)) in
        let two = length-remove ns at (omega (arith, count_nodes, at_low)) in
        omega (arith, one, two, count_links, count_nodes, ap length links_are, ap length nodes_are)
