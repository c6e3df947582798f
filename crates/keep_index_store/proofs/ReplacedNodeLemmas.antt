-- The nodes as they are stored, where one of them and those below it give place to those of another tree.
--
-- First the children of all nodes beside have their numbers moved, then those of the other tree's nodes; then its root
-- takes the facts of the node, and all of them its place.
--
-- Theorems: `rest_moved`: the children of the nodes from a number on have their numbers moved, after those of the nodes
-- before an earlier one; `nodes_replaced`: the nodes with those of the other tree in place are the ones to be stored.
use Rattle.std.proofs.Common.{◌≡◌, ℕ, suc, ◌+◌, ◌-◌, ◌<◌, ◌≤◌, List, ◌∷◌, ◌++◌, length, get_or, set, take, drop, map}
use Rattle.std.proofs.Common.{sym, ◌∙◌, ap, arith, length-append}
use Rattle.std.proofs.lemmas.List.{drop-map, drop-set-lt, get_or-map, get_or_default, length-drop, length-map, take-map}
use Rattle.std.proofs.lemmas.List.{take-set, take_rest}
use Rattle.std.proofs.lemmas.Slice.{drop-append-drop}
use Rattle.keep_path.specs.NodesBelow.{spliced}
use Rattle.keep_index_store.specs.declared.facts.NodeFacts.{NodeFacts}
use Rattle.keep_index_store.specs.declared.nodes.Node.{Node as StoredNode}
use Rattle.keep_index_store.specs.declared.shift.Shift.{Shift}
use Rattle.keep_index_store.specs.Below.{shift_inside}
use Rattle.keep_index_store.specs.Moved.{stored_at}
use Rattle.keep_index_store.specs.Replacing.{replaced_stored, with_shifted_children}
use Rattle.keep_index_store.proofs.NodeRowLemmas.{nothing}
use Rattle.keep_index_store.proofs.SplicedLemmas.{drop_rest, set_first, take_count}

-- the nodes from a number on, once those before an earlier one have changed, and then they themselves
module _ (by : Shift) (xs ys zs : List StoredNode) (id after : ℕ) (order : id ≤ after) (within : after ≤ length xs)
    (first : ys ≡ map (with_shifted_children by) (take id xs)) where
  abbrev mid : List StoredNode
  mid = ys ++ drop id xs

  few : length ys ≡ id
  few =
      ap length first ∙ length-map (take id xs) (with_shifted_children by)
      ∙ take_count xs id (omega (arith, order, within))

  many : length mid ≡ length xs
  many = omega (arith, few, length-append ys (drop id xs), length-drop id xs, order, within)

  pub rest_then : take (length mid - after) (drop after mid) ≡ drop after xs
  rest_then = take_rest mid after ∙ drop-append-drop id xs ys after order few

  pub rest_moved : zs ≡ map (with_shifted_children by) (take (length mid - after) (drop after mid))
      → drop after (take after mid ++ (zs ++ drop (length mid - after) (drop after mid)))
      ≡ map (with_shifted_children by) (drop after xs)
  rest_moved second =
      drop_rest mid zs after (omega (arith, many, within)) ∙ second ∙ ap (map (with_shifted_children by)) rest_then

-- the nodes, where those of the other tree have come
module _ (beside : Shift) (id gone : ℕ) (list inside list' inside' : List StoredNode)
    (before : take id list' ≡ map (with_shifted_children beside) (take id list))
    (after : drop (id + gone + 1) list' ≡ map (with_shifted_children beside) (drop (id + gone + 1) list))
    (same : stored_at list' id ≡ stored_at list id)
    (by : inside' ≡ map (with_shifted_children (shift_inside id)) inside)
    (some : 0 < length inside) (low : id < length list') where
  abbrev f : StoredNode → StoredNode
  f = with_shifted_children (shift_inside id)

  abbrev g : StoredNode → StoredNode
  g = with_shifted_children beside

  abbrev with_own : NodeFacts → StoredNode → StoredNode
  with_own t n = record n { facts = t }

  pub nodes_replaced : (own root next : StoredNode) (n : ℕ) → n ≡ suc gone → own ≡ get_or list' id own
      → root ≡ get_or inside' 0 root
      → spliced id n (set inside' 0 (with_own own.facts root)) (set list' id next)
      ≡ replaced_stored beside id gone list inside
  nodes_replaced own root next n one node top =
      let past : id + n ≡ id + gone + 1 = omega (arith, one) in
      let past' : id + gone + 1 ≡ id + suc gone = omega arith in
      let facts : own.facts ≡ (stored_at list id).facts =
      ap (λ (k : StoredNode). k.facts) (node ∙ get_or_default list' id own nothing low ∙ same) in
      let some' : 0 < length inside' = omega (arith, some, ap length by, length-map inside f) in
      let first : root ≡ f (stored_at inside 0) =
      top ∙ get_or_default inside' 0 root nothing some' ∙ ap (λ ns. get_or ns 0 nothing) by
      ∙ get_or-map f inside 0 nothing nothing some in
      let new : set inside' 0 (with_own own.facts root)
      ≡ with_own (stored_at list id).facts (f (stored_at inside 0)) ∷ map f (drop 1 inside) =
      set_first inside' (with_own own.facts root) some'
      ∙ ap (λ (t : NodeFacts). with_own t root ∷ drop 1 inside') facts
      ∙ ap (λ (k : StoredNode). with_own (stored_at list id).facts k ∷ drop 1 inside') first
      ∙ ap (λ ns. with_own (stored_at list id).facts (f (stored_at inside 0)) ∷ drop 1 ns) by
      ∙ ap (λ ns. with_own (stored_at list id).facts (f (stored_at inside 0)) ∷ ns) (drop-map f 1 inside) in
      let front : take id (set list' id next) ≡ take id (map g list) =
      take-set list' id next ∙ before ∙ sym (take-map g id list) in
      let back : drop (id + n) (set list' id next) ≡ drop (id + suc gone) (map g list) =
      ap (λ k. drop k (set list' id next)) past
      ∙ drop-set-lt (id + gone + 1) list' id next (omega arith) ∙ after ∙ sym (drop-map g (id + gone + 1) list)
      ∙ ap (λ k. drop k (map g list)) past' in
      ap (λ ns. ns ++ (set inside' 0 (with_own own.facts root) ++ drop (id + n) (set list' id next))) front
      ∙ ap (λ ns. take id (map g list) ++ (ns ++ drop (id + n) (set list' id next))) new
      ∙ ap (λ ns. take id (map g list)
      ++ ((with_own (stored_at list id).facts (f (stored_at inside 0)) ∷ map f (drop 1 inside)) ++ ns)) back
