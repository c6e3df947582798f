-- The nodes and their parent links, which are stored apart, where the nodes below one give place to those of another
-- tree.
--
-- In both lists the node and those after it give place to all of the other tree, whose root has the facts and the link
-- of the node. Row by row these are the nodes of before, where those below the node are others, and so its children.
--
-- Theorems: `rows_small`; `links_can`, `inside_links_can`, `before_can`, `after_can`, `inside_can` and `rows_then`.
use Rattle.std.proofs.Common.{◌≡◌, ℕ, zero, suc, ◌+◌, ◌<◌, ◌≤◌, ◌^◌, All, List, [], ◌∷◌, ◌++◌, length, get_or}
use Rattle.std.proofs.Common.{append_assoc, set, take, drop, map, refl, sym, ◌∙◌, ap, subst, arith, inl, inr}
use Rattle.std.specs.Prelude.{◌⊎◌}
use Rattle.std.proofs.lemmas.Bool.{cases_lt}
use Rattle.std.proofs.lemmas.List.{drop-set-lt, get_or-drop, get_or-map, get_or-take, get_or_default}
use Rattle.std.proofs.lemmas.List.{length-drop, length-map}
use Rattle.std.proofs.Math.Seq.{take-suc-set}
use Rattle.keep_path.specs.NodesBelow.{spliced}
use Rattle.keep_index_store.specs.declared.facts.NodeFacts.{NodeFacts}
use Rattle.keep_index_store.specs.declared.links.ParentLink.{ParentLink}
use Rattle.keep_index_store.specs.declared.nodes.Node.{Node as StoredNode}
use Rattle.keep_index_store.specs.declared.shift.NumberShifts.{NumberShifts}
use Rattle.keep_index_store.specs.declared.shift.Shift.{Shift}
use Rattle.keep_index_store.specs.AllNodes.{Node, AllNodes, no_node, node_at, with_children}
use Rattle.keep_index_store.specs.Below.{CanReplaceBelow, HasNumbersBelow, replaced_below, shift_inside}
use Rattle.keep_index_store.specs.Below.{shifted_by, shifted_children, shifted_node, with_shifted_facts}
use Rattle.keep_index_store.specs.Below.{with_shifted_stored}
use Rattle.keep_index_store.specs.Children.{ChildList, child_ids}
use Rattle.keep_index_store.specs.Links.{FitsIn32Bits}
use Rattle.keep_index_store.specs.Moved.{stored_at}
use Rattle.keep_index_store.specs.NodeRows.{node_row, node_rows, all_nodes}
use Rattle.keep_index_store.specs.Removed.{HasStoredLink}
use Rattle.keep_index_store.specs.Replacing.{CanShift, CanShiftChildren, CanShiftLink, link_at, replaced_links}
use Rattle.keep_index_store.specs.Replacing.{replaced_stored, shift_of, shifted_link, with_shifted_children}
use Rattle.keep_index_store.proofs.NodeRowLemmas.{children_read, count_seen, nothing, nowhere, rows_at}
use Rattle.keep_index_store.proofs.NodeRowLemmas.{rows_take}
use Rattle.keep_index_store.proofs.RemovedRowLemmas.{links_fit}
use Rattle.keep_index_store.proofs.ShiftedLemmas.{shifted_high, shifted_low}
use Rattle.keep_index_store.proofs.SplicedLemmas.{take_count}

pub beside_is : (s : Shift) (len len' id gone many many' : ℕ) → s ≡ shift_of len id gone many → len ≡ len'
    → many ≡ many' → s ≡ shift_of len' id gone many'
beside_is s len len' id gone many many' is one two =
    is ∙ ap (λ n. shift_of n id gone many) one ∙ ap (shift_of len' id gone) two

-- ---- the numbers

module _ (len id gone many : ℕ) (within : id + gone < len) (some : 0 < many) (few : len + many < 2 ^ 32) where
  pub beside_can : (n : ℕ) → n < len → CanShift (shift_of len id gone many) n
  beside_can n low = (omega (arith, low, few, within), λ above. omega (arith, above, within, some))

  pub beside_fits : (n : ℕ) → n < len → shifted_by (shift_of len id gone many) n < 2 ^ 32
  beside_fits n low = elim (cases_lt n (suc id + gone)) [
    | inl below ↦ omega (arith, shifted_low (shift_of len id gone many) n below, low, few)
    | inr above ↦ omega (arith, shifted_high (shift_of len id gone many) n above, low, few, within, some)
  ]

  pub inside_number_can : (n : ℕ) → n < many → CanShift (shift_inside id) n
  inside_number_can n low = (omega (arith, low, few, within), λ _. omega arith)

  pub inside_fits : (n : ℕ) → n < many → shifted_by (shift_inside id) n < 2 ^ 32
  inside_fits n low = omega (arith, shifted_high (shift_inside id) n (omega arith), low, few, within)

-- ---- rows

-- whose links are stored in 32 bits
pub rows_small : (ns : List StoredNode) (hs : List ParentLink) → All FitsIn32Bits hs
    → All HasStoredLink (node_rows ns hs)
rows_small [] hs small k d h = absurd (omega (arith, h))
rows_small (n ∷ ns) [] small k d h = absurd (omega (arith, h))
rows_small (n ∷ ns) (l ∷ hs) small zero d h = small 0 l (omega arith)
rows_small (n ∷ ns) (l ∷ hs) small (suc k) d h =
    rows_small ns hs (λ j e low. small (suc j) e (omega (arith, low))) k d (omega (arith, h))

rows_append : (a b : List StoredNode) (c d : List ParentLink) → length c ≡ length a
    → node_rows (a ++ b) (c ++ d) ≡ node_rows a c ++ node_rows b d
rows_append [] b [] d paired = refl
rows_append [] b (h ∷ c) d paired = absurd (omega (arith, paired))
rows_append (n ∷ a) b [] d paired = absurd (omega (arith, paired))
rows_append (n ∷ a) b (h ∷ c) d paired =
    ap (λ (xs : List Node). node_row n h ∷ xs) (rows_append a b c d (omega (arith, paired)))

rows_drop : (n : ℕ) (a : List StoredNode) (c : List ParentLink) → length c ≡ length a
    → node_rows (drop n a) (drop n c) ≡ drop n (node_rows a c)
rows_drop zero a c paired = refl
rows_drop (suc n) [] [] paired = refl
rows_drop (suc n) [] (h ∷ c) paired = absurd (omega (arith, paired))
rows_drop (suc n) (x ∷ a) [] paired = absurd (omega (arith, paired))
rows_drop (suc n) (x ∷ a) (h ∷ c) paired = rows_drop n a c (omega (arith, paired))

rows_spliced : (at n : ℕ) (new xs : List StoredNode) (links hs : List ParentLink) → length links ≡ length new
    → length hs ≡ length xs → at ≤ length xs
    → node_rows (spliced at n new xs) (spliced at n links hs)
    ≡ spliced at n (node_rows new links) (node_rows xs hs)
rows_spliced at n new xs links hs one two low =
    let few : length (take at hs) ≡ length (take at xs) =
    omega (arith, take_count hs at (omega (arith, two, low)), take_count xs at low) in
    rows_append (take at xs) (new ++ drop (at + n) xs) (take at hs) (links ++ drop (at + n) hs) few
    ∙ ap (λ ys. ys ++ node_rows (new ++ drop (at + n) xs) (links ++ drop (at + n) hs)) (rows_take xs hs at)
    ∙ ap (λ ys. take at (node_rows xs hs) ++ ys)
    (rows_append new (drop (at + n) xs) links (drop (at + n) hs) one
    ∙ ap (λ ys. node_rows new links ++ ys) (rows_drop (at + n) xs hs two))

rows_shifted : (by : Shift) (nodes : List StoredNode) (links : List ParentLink)
    → node_rows (map (with_shifted_children by) nodes) (map (shifted_link by) links)
    ≡ map (shifted_node by) (node_rows nodes links)
rows_shifted by [] links = refl
rows_shifted by (x ∷ nodes) [] = refl
rows_shifted by (x ∷ nodes) (h ∷ links) =
    ap (λ (xs : List Node). shifted_node by (node_row x h) ∷ xs) (rows_shifted by nodes links)

rows_facts : (by : NumberShifts) (nodes : List StoredNode) (links : List ParentLink)
    → node_rows (map (with_shifted_stored by) nodes) links ≡ map (with_shifted_facts by) (node_rows nodes links)
rows_facts by [] links = refl
rows_facts by (x ∷ nodes) [] = refl
rows_facts by (x ∷ nodes) (h ∷ links) =
    ap (λ (xs : List Node). with_shifted_facts by (node_row x h) ∷ xs) (rows_facts by nodes links)

-- the new elements, the first of which stands where the node does
own_first : (id gone : ℕ) (xs new : List Node) (y : Node) → id < length xs
    → spliced id (suc gone) (y ∷ new) xs ≡ spliced (suc id) gone new (set xs id y)
own_first id gone xs new y low =
    let past : id + suc gone ≡ suc id + gone = omega arith in
    ap (λ n. take id xs ++ (y ∷ (new ++ drop n xs))) past
    ∙ ap (λ ys. take id xs ++ (y ∷ (new ++ ys))) (sym (drop-set-lt (suc id + gone) xs id y (omega arith)))
    ∙ sym (append_assoc (take id xs) (y ∷ []) (new ++ drop (suc id + gone) (set xs id y)))
    ∙ ap (λ ys. ys ++ (new ++ drop (suc id + gone) (set xs id y))) (sym (take-suc-set xs id y low))

-- ---- what can be moved

-- the parent that each link names
parents_below : (list : List StoredNode) (links : List ParentLink) (all : AllNodes) (many : ℕ)
    → all_nodes list links ≡ all → length links ≡ length list → All (HasNumbersBelow many) all.items
    → All (λ h. h.parent < many) links
parents_below list links all many view paired each k d h =
    let low : k < length list = omega (arith, h, paired) in
    let seen : k < length all.items = omega (arith, low, count_seen list links all view paired) in
    let own : (node_at all.items k).parent ≡ (get_or links k d).parent =
    ap (λ (x : AllNodes). (node_at x.items k).parent) (sym view)
    ∙ ap (λ (n : Node). n.parent) (rows_at list links k nothing d paired low) in
    omega (arith, own, (each k no_node seen).0)

module _ (list ins : List StoredNode) (links ins_links : List ParentLink) (all inside : AllNodes)
    (view : all_nodes list links ≡ all) (paired : length links ≡ length list)
    (ins_view : all_nodes ins ins_links ≡ inside) (ins_paired : length ins_links ≡ length ins)
    (id gone : ℕ) (r : CanReplaceBelow all.items id gone inside.items) where
  abbrev beside : Shift
  beside = shift_of (length all.items) id gone (length inside.items)

  pub links_can : All (CanShiftLink beside) links
  links_can k d h =
      let p = parents_below list links all (length all.items) view paired r.numbers k d h in
      let fit = links_fit list links all view paired r.links k d h in (
        beside_can (length all.items) id gone (length inside.items) r.within r.some r.few (get_or links k d).parent p,
        (
          beside_fits (length all.items) id gone (length inside.items) r.within r.some r.few (get_or links k d).parent
              p,
          fit.1,
        ),
      )

  pub inside_links_can : All (CanShiftLink (shift_inside id)) ins_links
  inside_links_can k d h =
      let p = parents_below ins ins_links inside (length inside.items) ins_view ins_paired r.inside_numbers k d h in
      let fit = links_fit ins ins_links inside ins_view ins_paired r.inside_links k d h in
      let n : ℕ = (get_or ins_links k d).parent in (
        inside_number_can (length all.items) id gone (length inside.items) r.within r.some r.few n p,
        (inside_fits (length all.items) id gone (length inside.items) r.within r.some r.few n p, fit.1),
      )

  pub inside_can : All (λ n. CanShiftChildren (shift_inside id) n.children) ins
  inside_can k d h =
      let x : StoredNode = get_or ins k d in
      let seen : k < length inside.items = omega (arith, h, count_seen ins ins_links inside ins_view ins_paired) in
      let own : x.children ≡ (node_at inside.items k).children =
      children_read ins ins_links inside ins_view ins_paired k seen x (get_or_default ins k d x h) in
      subst (CanShiftChildren (shift_inside id)) (sym own) (record {
        fit =
            λ j e low. inside_number_can (length all.items) id gone (length inside.items) r.within r.some r.few
            (get_or (child_ids (node_at inside.items k).children) j e) ((r.inside_numbers k no_node seen).1 j e low);
        ends = λ j low _. omega arith;
        sides = λ _ j h before after. omega (arith, before);
      })

  each_can : (k : ℕ) (d : StoredNode) → k < length list → (k < id) ⊎ (id + gone < k)
      → CanShiftChildren beside (get_or list k d).children
  each_can k d h place =
      let x : StoredNode = get_or list k d in
      let seen : k < length all.items = omega (arith, h, count_seen list links all view paired) in
      let own : x.children ≡ (node_at all.items k).children =
      children_read list links all view paired k seen x (get_or_default list k d x h) in
      subst (CanShiftChildren beside) (sym own) (record {
        fit =
            λ j e low. beside_can (length all.items) id gone (length inside.items) r.within r.some r.few
            (get_or (child_ids (node_at all.items k).children) j e) ((r.numbers k no_node seen).1 j e low);
        ends = r.ends k seen;
        sides = r.sides k seen place;
      })

  -- the nodes with other facts
  module _ (by : NumberShifts) where
    abbrev list' : List StoredNode
    list' = map (with_shifted_stored by) list

    shifted_can : (k : ℕ) (d : StoredNode) → k < length list → (k < id) ⊎ (id + gone < k)
        → CanShiftChildren beside (get_or list' k d).children
    shifted_can k d h place =
        subst (λ (n : StoredNode). CanShiftChildren beside n.children)
        (sym (get_or-map (with_shifted_stored by) list k nothing d h)) (each_can k nothing h place)

    pub before_can : All (λ n. CanShiftChildren beside n.children) (take id list')
    before_can k d h =
        let count : length list' ≡ length list = length-map list (with_shifted_stored by) in
        let seen = count_seen list links all view paired in
        let low : k < id = omega (arith, h, take_count list' id (omega (arith, r.within, seen, count))) in
        subst (λ (n : StoredNode). CanShiftChildren beside n.children) (sym (get_or-take id list' k d low))
        (shifted_can k d (omega (arith, low, r.within, seen)) (inl low))

    pub after_can : All (λ n. CanShiftChildren beside n.children) (drop (suc id + gone) list')
    after_can k d h =
        let count : length list' ≡ length list = length-map list (with_shifted_stored by) in
        let low : suc id + gone + k < length list = omega (arith, h, length-drop (suc id + gone) list', count) in
        subst (λ (n : StoredNode). CanShiftChildren beside n.children)
        (sym (get_or-drop (suc id + gone) list' k d))
        (shifted_can (suc id + gone + k) d low (inr (omega arith)))

    -- ---- the rows then

    abbrev moved : List StoredNode
    moved = map (with_shifted_children beside) list'

    abbrev hs : List ParentLink
    hs = map (shifted_link beside) links

    abbrev nodes : List Node
    nodes = map (with_shifted_facts by) all.items

    moved_count : length moved ≡ length list
    moved_count = length-map list' (with_shifted_children beside) ∙ length-map list (with_shifted_stored by)

    pair : length hs ≡ length moved
    pair = length-map links (shifted_link beside) ∙ paired ∙ sym moved_count

    moved_rows : node_rows moved hs ≡ map (shifted_node beside) nodes
    moved_rows =
        rows_shifted beside list' links
        ∙ ap (map (shifted_node beside))
        (rows_facts by list links ∙ ap (λ (x : AllNodes). map (with_shifted_facts by) x.items) view)

    abbrev below : List StoredNode
    below = map (with_shifted_children (shift_inside id)) (drop 1 ins)

    abbrev below_links : List ParentLink
    below_links = map (shifted_link (shift_inside id)) (drop 1 ins_links)

    below_pair : length below_links ≡ length below
    below_pair =
        omega (
          arith,
          length-map (drop 1 ins) (with_shifted_children (shift_inside id)),
          length-map (drop 1 ins_links) (shifted_link (shift_inside id)),
          length-drop 1 ins,
          length-drop 1 ins_links,
          ins_paired,
        )

    below_rows : node_rows below below_links ≡ map (shifted_node (shift_inside id)) (drop 1 inside.items)
    below_rows =
        rows_shifted (shift_inside id) (drop 1 ins) (drop 1 ins_links)
        ∙ ap (map (shifted_node (shift_inside id)))
        (rows_drop 1 ins ins_links ins_paired ∙ ap (λ (x : AllNodes). drop 1 x.items) ins_view)

    id_low : id < length list
    id_low = omega (arith, r.within, count_seen list links all view paired)

    abbrev next : ChildList
    next = shifted_children (shift_inside id) (node_at inside.items 0).children

    abbrev own : StoredNode
    own = record (with_shifted_children (shift_inside id) (stored_at ins 0)) { facts = (stored_at list' id).facts }

    -- the node itself, with the children of the other tree's root
    own_row : node_row own (link_at hs id)
        ≡ (let n : Node = record (node_at (map (shifted_node beside) nodes) id) { children = next } in n)
    own_row =
        let low : id < length list' = omega (arith, id_low, length-map list (with_shifted_stored by)) in
        let there : node_at (map (shifted_node beside) nodes) id ≡ node_row (get_or moved id nothing) (link_at hs id) =
        ap (λ (ns : List Node). node_at ns id) (sym moved_rows)
        ∙ rows_at moved hs id nothing nowhere pair (omega (arith, id_low, moved_count)) in
        let facts : (get_or moved id nothing).facts ≡ (stored_at list' id).facts =
        ap (λ (n : StoredNode). n.facts) (get_or-map (with_shifted_children beside) list' id nothing nothing low) in
        let some : 0 < length ins =
        omega (arith, r.some, count_seen ins ins_links inside ins_view ins_paired) in
        let root : (stored_at ins 0).children ≡ (node_at inside.items 0).children =
        children_read ins ins_links inside ins_view ins_paired 0 r.some (stored_at ins 0)
        (get_or_default ins 0 nothing (stored_at ins 0) some) in
        ap (λ (c : ChildList).
        let n : StoredNode =
        record { children = shifted_children (shift_inside id) c; facts = (stored_at list' id).facts } in
        node_row n (link_at hs id)) root
        ∙ ap (λ (t : NodeFacts).
        let n : StoredNode = record { children = next; facts = t } in
        node_row n (link_at hs id)) (sym facts)
        ∙ ap (λ (n : Node). let m : Node = record n { children = next } in m) (sym there)

    abbrev rows : List Node
    rows = map (shifted_node beside) nodes

    rows_many : length rows ≡ length all.items
    rows_many = length-map nodes (shifted_node beside) ∙ length-map all.items (with_shifted_facts by)

    stored_pair : length (link_at hs id ∷ below_links) ≡ length (own ∷ below)
    stored_pair = ap suc below_pair

    pub rows_then : node_rows (replaced_stored beside id gone list' ins)
        (replaced_links beside id gone links ins_links)
        ≡ replaced_below nodes id gone inside.items
    rows_then =
        let new : List Node = map (shifted_node (shift_inside id)) (drop 1 inside.items) in
        let y : Node = record (node_at rows id) { children = next } in
        rows_spliced id (suc gone) (own ∷ below) moved (link_at hs id ∷ below_links) hs stored_pair pair
        (omega (arith, id_low, moved_count))
        ∙ ap (λ (n : Node). spliced id (suc gone) (n ∷ node_rows below below_links) (node_rows moved hs)) own_row
        ∙ ap (λ (ns : List Node). spliced id (suc gone) (y ∷ ns) (node_rows moved hs)) below_rows
        ∙ ap (λ (ns : List Node). spliced id (suc gone) (y ∷ new) ns) moved_rows
        ∙ own_first id gone rows new y (omega (arith, r.within, rows_many))
        ∙ ap (λ len.
        let s : Shift = shift_of len id gone (length inside.items) in
        spliced (suc id) gone new (with_children (map (shifted_node s) nodes) id next))
        (sym (length-map all.items (with_shifted_facts by)))
