-- The nodes and their parent links, which are stored apart, with the last node at another place.
--
-- The nodes are moved and renumbered in one list, and the links in another. Row by row these are the nodes of before
-- with the numbers that they have then (`rows_moved`). Where the numbers of all nodes fit into 32 bits with one more,
-- so do those of all links (`links_small`).
--
-- Theorems: `all_moved`: row by row these are the moved nodes; `can_place`: the last node can go to that place;
-- `links_small`: where the numbers of all nodes fit with one more, so do those of all links; `none_comes_after`: no
-- child of the last node's parent comes after it.
use Rattle.std.proofs.Common.{◌≡◌, ℕ, ◌-◌, ◌<◌, ◌≤◌, List, [], ◌∷◌, length, get_or, set, map, refl, sym, ◌∙◌, ap, subst}
use Rattle.std.proofs.Common.{arith, Some}
use Rattle.std.specs.Prelude.{All, slice_get}
use Rattle.std.proofs.lemmas.List.{get_or-map, get_or_default, length-map, length-set, same_lists}
use Rattle.std.proofs.lemmas.Option.{get_or_from_slice_get}
use Rattle.std.proofs.lemmas.Simd.{map-map}
use Rattle.keep_index_store.specs.declared.links.NewPlace.{NewPlace}
use Rattle.keep_index_store.specs.declared.links.ParentLink.{ParentLink}
use Rattle.keep_index_store.specs.declared.nodes.Node.{Node as StoredNode}
use Rattle.keep_index_store.specs.AllNodes.{HasSmallLink, Node, AllNodes, no_node, node_at}
use Rattle.keep_index_store.specs.Children.{ChildList, Keyed, child_ids, holds_of, named}
use Rattle.keep_index_store.specs.Links.{IsSmall}
use Rattle.keep_index_store.specs.Moved.{CanMove, IsLast, NoneComesAfter, with_last_at, moved_number, moved_node}
use Rattle.keep_index_store.specs.Moved.{moved_nodes}
use Rattle.keep_index_store.specs.Moved.{moved_link, reordered_node, with_keys_reordered, reordered, stored_at}
use Rattle.keep_index_store.specs.Moved.{with_last_key, with_moved_children}
use Rattle.keep_index_store.specs.NodeRows.{node_row, node_rows, all_nodes}
use Rattle.keep_index_store.specs.Trie.{by_key}
use Rattle.keep_index_store.proofs.NodeRowLemmas.{count_seen, rows_count, rows_at, rows_set, nowhere, nothing}
use Rattle.keep_index_store.proofs.StoredLemmas.{IsPlaced, node_placed}
use Rattle.keep_index_store.proofs.MovedListLemmas.{from, length-last, map-last, read_moved}
use Rattle.keep_index_store.proofs.MovedReadyLemmas.{above_within, can_move, many_kids, own_number}

-- ---- small links

module _ (list : List StoredNode) (links : List ParentLink) (all : AllNodes) (view : all_nodes list links ≡ all)
    (paired : length links ≡ length list) where
  pub links_small : All HasSmallLink all.items → All IsSmall links
  links_small small k d h =
      let low : k < length list = omega (arith, h, paired) in
      subst HasSmallLink (ap (λ (x : AllNodes). node_at x.items k) (sym view)
      ∙ rows_at list links k nothing d paired low)
      (small k no_node (omega (arith, low, count_seen list links all view paired)))

-- ---- the last node at another place

-- where the last of the nodes goes
abbrev pub place_of : List Node → ℕ → ℕ → NewPlace
place_of nodes at n = record {
  at = at;
  above = (node_at nodes (length nodes - 1)).parent;
  before = (node_at nodes (length nodes - 1)).number;
  number = n;
}

rows_map : (last : ℕ) (own : Node) (at n : ℕ) (nodes : List StoredNode) (links : List ParentLink)
    → node_rows (map (with_moved_children last at) nodes)
    (map (moved_link (record { at = at; above = own.parent; before = own.number; number = n })) links)
    ≡ map (λ x. moved_node last at (reordered_node own n x)) (node_rows nodes links)
rows_map last own at n [] links = refl
rows_map last own at n (x ∷ nodes) [] = refl
rows_map last own at n (x ∷ nodes) (h ∷ links) =
    ap (λ (xs : List Node). moved_node last at (reordered_node own n (node_row x h)) ∷ xs)
    (rows_map last own at n nodes links)

rows_last : (nodes : List StoredNode) (links : List ParentLink) (at : ℕ) → length links ≡ length nodes
    → at < length nodes
    → node_rows (with_last_at nothing nodes at) (with_last_at nowhere links at)
    ≡ with_last_at no_node (node_rows nodes links) at
rows_last nodes links at paired h =
    let rows : length (node_rows nodes links) ≡ length nodes = rows_count nodes links paired in
    let h' : at < length links = omega (arith, h, paired) in
    let h'' : at < length (node_rows nodes links) = omega (arith, h, rows) in
    let one : length (with_last_at nothing nodes at) ≡ length nodes = length-last nothing nodes at h in
    let two : length (with_last_at nowhere links at) ≡ length nodes = length-last nowhere links at h' ∙ paired in
    let all : length (node_rows (with_last_at nothing nodes at) (with_last_at nowhere links at)) ≡ length nodes =
    rows_count (with_last_at nothing nodes at) (with_last_at nowhere links at) (two ∙ sym one) ∙ one in
    same_lists (node_rows (with_last_at nothing nodes at) (with_last_at nowhere links at))
    (with_last_at no_node (node_rows nodes links) at)
    (all ∙ sym (length-last no_node (node_rows nodes links) at h'' ∙ rows))
    (λ k d low.
    let f = from no_node (node_rows nodes links) at h'' k (omega (arith, low, all, rows)) in
    let was : f.was < length nodes = omega (arith, f.within, rows) in
    let number : moved_number (length nodes - 1) at f.was ≡ k =
    ap (λ m. moved_number (m - 1) at f.was) (sym rows) ∙ f.moved in
    let number' : moved_number (length links - 1) at f.was ≡ k =
    ap (λ m. moved_number (m - 1) at f.was) paired ∙ number in
    let node : get_or (with_last_at nothing nodes at) k nothing ≡ get_or nodes f.was nothing =
    ap (λ j. get_or (with_last_at nothing nodes at) j nothing) (sym number)
    ∙ read_moved nothing nodes at f.was nothing h was in
    let link : get_or (with_last_at nowhere links at) k nowhere ≡ get_or links f.was nowhere =
    ap (λ j. get_or (with_last_at nowhere links at) j nowhere) (sym number')
    ∙ read_moved nowhere links at f.was nowhere h' (omega (arith, was, paired)) in
    get_or_default (node_rows (with_last_at nothing nodes at) (with_last_at nowhere links at)) k d no_node low
    ∙ rows_at (with_last_at nothing nodes at) (with_last_at nowhere links at) k nothing nowhere (two ∙ sym one)
    (omega (arith, low, all, one))
    ∙ ap (λ x. node_row x (get_or (with_last_at nowhere links at) k nowhere)) node
    ∙ ap (node_row (get_or nodes f.was nothing)) link
    ∙ sym (rows_at nodes links f.was nothing nowhere paired was)
    ∙ get_or_default (node_rows nodes links) f.was no_node d f.within ∙ sym (f.read d))

module _ (list : List StoredNode) (links : List ParentLink) (at n : ℕ) (paired : length links ≡ length list)
    (r : IsLast (node_rows list links) at n) where
  abbrev nodes : List Node
  nodes = node_rows list links

  abbrev p : NewPlace
  p = place_of (node_rows list links) at n

  abbrev keyed : List StoredNode
  keyed = with_last_key list (place_of (node_rows list links) at n)

  abbrev entry : StoredNode
  entry = record (stored_at list p.above) {
    children =
        Keyed (with_last_at ([], 0) (named (stored_at list p.above).children) n);
  }

  count : length nodes ≡ length list
  count = rows_count list links paired

  pub above_low : p.above < length list
  above_low = omega (arith, above_within nodes at n r, count)

  own_row : node_at nodes p.above ≡ node_row (stored_at list p.above) (get_or links p.above nowhere)
  own_row = rows_at list links p.above nothing nowhere paired above_low

  pub holds : holds_of (stored_at list p.above).children ≡ by_key
  holds = ap (λ (x : Node). holds_of x.children) (sym own_row) ∙ r.keyed

  pub place : n < length (named (stored_at list p.above).children)
  place = omega (arith, ap (λ (x : Node). length (named x.children)) own_row, many_kids nodes at n r, r.place)

  pub order : n ≤ p.before
  order = omega (arith, own_number nodes at n r, r.place)

  pub none_after : NoneComesAfter p links
  none_after k d later low same =
      let low' : k < length list = omega (arith, low, paired) in
      let row : node_at nodes k ≡ node_row (get_or list k nothing) (get_or links k d) =
      rows_at list links k nothing d paired low' in
      let placed : IsPlaced nodes k no_node = node_placed nodes r.stored k no_node later (omega (arith, low', count)) in
      let up : (node_at nodes k).parent ≡ p.above = ap (λ (x : Node). x.parent) row ∙ same in
      omega (
        arith,
        placed.low,
        own_number nodes at n r,
        ap (λ (x : Node). x.number) row,
        ap (λ j. length (child_ids (node_at nodes j).children)) up,
      )

  keyed_rows : node_rows keyed links ≡ with_keys_reordered nodes p.above n
  keyed_rows =
      rows_set list links p.above entry nowhere paired
      ∙ ap (λ (x : Node). let c : Node = record x { children = Keyed (with_last_at ([], 0) (named x.children) n) } in
      set nodes p.above c) (sym own_row)

  children_at : (k : ℕ) (d : StoredNode) → k < length list
      → (get_or (reordered nodes n) k no_node).children ≡ (get_or keyed k d).children
  children_at k d h =
      ap (λ ns. (get_or (map (reordered_node (node_at nodes (length nodes - 1)) n) ns) k no_node).children)
      (sym keyed_rows)
      ∙ ap (λ (x : Node). x.children)
      (get_or-map (reordered_node (node_at nodes (length nodes - 1)) n) (node_rows keyed links) k no_node no_node
      (omega (
        arith,
        h,
        length-set list p.above entry,
        rows_count keyed links (paired ∙ sym (length-set list p.above entry)),
      )))
      ∙ ap (λ (x : Node). x.children)
      (rows_at keyed links k d nowhere (paired ∙ sym (length-set list p.above entry))
      (omega (arith, h, length-set list p.above entry)))

  pub each : All (λ (x : StoredNode). CanMove (length list - 1) at x.children) keyed
  each k d h =
      let low : k < length list = omega (arith, h, length-set list p.above entry) in
      subst (λ (c : ChildList). CanMove (length list - 1) at c) (children_at k d low)
      (subst (λ (m : ℕ). CanMove (m - 1) at (get_or (reordered nodes n) k no_node).children) count
      (can_move nodes at n r k (omega (arith, low, count))))

  pub rows_moved : (list' : List StoredNode) (links' : List ParentLink)
      → ((none : StoredNode) → list' ≡ map (with_moved_children (length list - 1) at) (with_last_at none keyed at))
      → ((none : ParentLink) → links' ≡ map (moved_link p) (with_last_at none links at))
      → node_rows list' links' ≡ moved_nodes (reordered nodes n) at
  rows_moved list' links' nodes_are links_are =
      let own : Node = node_at nodes (length nodes - 1) in
      let many : length keyed ≡ length list = length-set list p.above entry in
      let written : List Node = with_keys_reordered nodes p.above n in
      let long : length (reordered nodes n) ≡ length list =
      length-map written (reordered_node own n) ∙ ap length (sym keyed_rows)
      ∙ rows_count keyed links (paired ∙ sym many) ∙ many in
      ap (λ ns. node_rows ns links') (nodes_are nothing)
      ∙ ap (node_rows (map (with_moved_children (length list - 1) at) (with_last_at nothing keyed at)))
      (links_are nowhere)
      ∙ rows_map (length list - 1) own at n (with_last_at nothing keyed at) (with_last_at nowhere links at)
      ∙ ap (map (λ x. moved_node (length list - 1) at (reordered_node own n x)))
      (rows_last keyed links at (paired ∙ sym many) (omega (arith, r.within, count, many))
      ∙ ap (λ ns. with_last_at no_node ns at) keyed_rows)
      ∙ sym (map-map (moved_node (length list - 1) at) (reordered_node own n) (with_last_at no_node written at))
      ∙ ap (map (moved_node (length list - 1) at))
      (map-last (reordered_node own n) no_node no_node
      written at (omega (
        arith,
        r.within,
        ap length (sym keyed_rows),
        rows_count keyed links (paired ∙ sym many),
        many,
        count,
      )))
      ∙ ap (λ m. map (moved_node (m - 1) at) (with_last_at no_node (reordered nodes n) at)) (sym long)

  -- the place as it is read from the last link
  place_is : (h : ParentLink) (i : ℕ) → i ≡ length list - 1 → slice_get links i ≡ Some h
      → ◌≡◌ {A = NewPlace} (record { at = at; above = h.parent; before = h.number; number = n }) p
  place_is h i is own =
      let at_end : i ≡ length nodes - 1 = is ∙ ap (λ m. m - 1) (sym count) in
      ap (λ (l : ParentLink). let q : NewPlace = record { at = at; above = l.parent; before = l.number; number = n } in
      q) (sym (get_or_from_slice_get links i h nowhere own))
      ∙ ap (λ (x : Node). let q : NewPlace = record { at = at; above = x.parent; before = x.number; number = n } in q)
      (sym (rows_at list links i nothing nowhere paired (omega (arith, is, r.within, count))))
      ∙ ap (λ m. let q : NewPlace =
      record { at = at; above = (node_at nodes m).parent; before = (node_at nodes m).number; number = n } in q) at_end

-- the last node can go to that place
pub record CanPlace (list : List StoredNode) (q : NewPlace) : Type 0 where
  pub above_low : q.above < length list
  pub at_low : q.at < length list
  pub holds : holds_of (stored_at list q.above).children ≡ by_key
  pub place : q.number < length (named (stored_at list q.above).children)
  pub order : q.number ≤ q.before
  pub each : All (λ (x : StoredNode). CanMove (length list - 1) q.at x.children) (with_last_key list q)

module _ (list : List StoredNode) (links : List ParentLink) (all : AllNodes) (view : all_nodes list links ≡ all)
    (paired : length links ≡ length list) (at n : ℕ) (req : IsLast all.items at n)
    (h : ParentLink) (i : ℕ) (is : i ≡ length list - 1) (own : slice_get links i ≡ Some h) where
  abbrev q : NewPlace
  q = record { at = at; above = h.parent; before = h.number; number = n }

  last_of_rows : IsLast (node_rows list links) at n
  last_of_rows = subst (λ (ns : List Node). IsLast ns at n) (sym (ap (λ (x : AllNodes). x.items) view)) req

  pub can_place : CanPlace list q
  can_place =
      let r = last_of_rows in
      let can : CanPlace list (place_of (node_rows list links) at n) = record {
        above_low = above_low list links at n paired r;
        at_low = omega (arith, r.within, rows_count list links paired);
        holds = holds list links at n paired r;
        place = place list links at n paired r;
        order = order list links at n paired r;
        each = each list links at n paired r;
      } in
      subst (λ (w : NewPlace). CanPlace list w) (sym (place_is list links at n paired r h i is own)) can

  pub none_comes_after : NoneComesAfter q links
  none_comes_after =
      let r = last_of_rows in
      subst (λ (w : NewPlace). NoneComesAfter w links) (sym (place_is list links at n paired r h i is own))
      (none_after list links at n paired r)

  pub all_moved : (list' : List StoredNode) (links' : List ParentLink)
      → ((none : StoredNode)
      → list' ≡ map (with_moved_children (length list - 1) at) (with_last_at none (with_last_key list q) at))
      → ((none : ParentLink) → links' ≡ map (moved_link q) (with_last_at none links at))
      → node_rows list' links' ≡ moved_nodes (reordered all.items n) at
  all_moved list' links' nodes_are links_are =
      let r = last_of_rows in
      let same = place_is list links at n paired r h i is own in
      rows_moved list links at n paired r list' links'
      (λ none. nodes_are none
      ∙ ap (λ w. map (with_moved_children (length list - 1) at) (with_last_at none (with_last_key list w) at)) same)
      (λ none. links_are none ∙ ap (λ w. map (moved_link w) (with_last_at none links at)) same)
      ∙ ap (λ ns. moved_nodes (reordered ns n) at) (ap (λ (x : AllNodes). x.items) view)

  pub links_count : (links' : List ParentLink)
      → ((none : ParentLink) → links' ≡ map (moved_link q) (with_last_at none links at)) → length links' ≡ length list
  links_count links' links_are =
      ap length (links_are nowhere) ∙ length-map (with_last_at nowhere links at) (moved_link q)
      ∙ length-last nowhere links at (omega (arith, last_of_rows.within, rows_count list links paired, paired)) ∙ paired
