-- The rows of the nodes, where those below one of them give place to those of another tree.
--
-- What a list with other elements in the place of some has at a number is what the list had there, or what the others
-- have, or what the list had as many later as went more than came. The facts about a node are not changed, so the list
-- of them gets those of the other nodes in the same place.
--
-- Theorems: `replaced_count`, `replaced_row_before`, `replaced_row_own`, `replaced_row_inside`, `replaced_row_after`
-- and `replaced_row_infos`; `shift_low`, `shift_high`, `shift_within`, `step_shifted` and `holds_shifted`.
use Rattle.std.proofs.Common.{◌≡◌, ℕ, zero, suc, ◌+◌, ◌-◌, ◌<◌, ◌≤◌, cond, Bool, List, [], ◌∷◌, ◌++◌, length}
use Rattle.std.proofs.Common.{get_or, take, drop, map, refl, sym, ◌∙◌, ap, arith, length-append}
use Rattle.std.proofs.lemmas.List.{get_or-append_right, get_or_append_left, get_or-drop, get_or-map, get_or-set_other}
use Rattle.std.proofs.lemmas.List.{get_or-set_same, get_or-take, length-drop, length-map, length-set, length-take-le}
use Rattle.std.proofs.lemmas.List.{drop-map, map-append, take-map}
use Rattle.std.proofs.lemmas.Bool.{le-ltb, lt-ltb}
use Rattle.std.proofs.lemmas.Simd.{map-map}
use Rattle.std.proofs.Math.Seq.{map-set_same}
use Rattle.keep_types.specs.declared.node.NodeInfo.{NodeInfo}
use Rattle.keep_path.specs.NodesBelow.{spliced}
use Rattle.keep_path.specs.Path.{Part, key}
use Rattle.keep_index_store.specs.declared.shift.Shift.{Shift}
use Rattle.keep_index_store.specs.AllNodes.{Node, no_node, node_at, with_children}
use Rattle.keep_index_store.specs.Below.{replaced_below, shift_beside, shift_inside, shifted_by, shifted_children}
use Rattle.keep_index_store.specs.Below.{shifted_node}
use Rattle.keep_index_store.specs.Children.{ChildList, Bare, Keyed, Listed, holds_of, named}
use Rattle.keep_index_store.specs.Facts.{info_of}
use Rattle.keep_index_store.specs.Stored.{infos_of, step_at}

-- ---- a list with other elements in the place of some

module _ {X : Type 0} (at gone : ℕ) (new xs : List X) (within : at + gone ≤ length xs) where
  count_before : length (take at xs) ≡ at
  count_before = length-take-le at xs (omega (arith, within))

  pub length-spliced : length (spliced at gone new xs) ≡ length xs - gone + length new
  length-spliced =
      omega (
        arith,
        within,
        count_before,
        length-append (take at xs) (new ++ drop (at + gone) xs),
        length-append new (drop (at + gone) xs),
        length-drop (at + gone) xs,
      )

  pub read_before : (j : ℕ) (d : X) → j < at → get_or (spliced at gone new xs) j d ≡ get_or xs j d
  read_before j d h =
      get_or_append_left (take at xs) (new ++ drop (at + gone) xs) d j (omega (arith, h, count_before))
      ∙ get_or-take at xs j d h

  pub read_inside : (j : ℕ) (d : X) → at ≤ j → j < at + length new
      → get_or (spliced at gone new xs) j d ≡ get_or new (j - at) d
  read_inside j d low high =
      get_or-append_right (take at xs) (new ++ drop (at + gone) xs) at j d count_before low
      ∙ get_or_append_left new (drop (at + gone) xs) d (j - at) (omega (arith, low, high))

  pub read_after : (j : ℕ) (d : X) → at + length new ≤ j
      → get_or (spliced at gone new xs) j d ≡ get_or xs (j - length new + gone) d
  read_after j d low =
      get_or-append_right (take at xs) (new ++ drop (at + gone) xs) at j d count_before (omega (arith, low))
      ∙ get_or-append_right new (drop (at + gone) xs) (length new) (j - at) d refl (omega (arith, low))
      ∙ get_or-drop (at + gone) xs (j - at - length new) d
      ∙ ap (λ k. get_or xs k d)
      (let e : at + gone + (j - at - length new) ≡ j - length new + gone = omega (arith, low) in e)

pub map-spliced : {X Y : Type 0} (f : X → Y) (at gone : ℕ) (new xs : List X)
    → map f (spliced at gone new xs) ≡ spliced at gone (map f new) (map f xs)
map-spliced f at gone new xs =
    map-append f (take at xs) (new ++ drop (at + gone) xs)
    ∙ ap (λ ys. map f (take at xs) ++ ys) (map-append f new (drop (at + gone) xs))
    ∙ ap (λ ys. ys ++ (map f new ++ map f (drop (at + gone) xs))) (sym (take-map f at xs))
    ∙ ap (λ ys. take at (map f xs) ++ (map f new ++ ys)) (sym (drop-map f (at + gone) xs))

-- ---- numbers that are moved

pub shift_low : (s : Shift) (n : ℕ) → n < s.from → shifted_by s n ≡ n
shift_low s n low = ap (λ (b : Bool). cond b n (n + s.new - s.old)) (lt-ltb n s.from low)

pub shift_high : (s : Shift) (n : ℕ) → s.from ≤ n → shifted_by s n ≡ n + s.new - s.old
shift_high s n high = ap (λ (b : Bool). cond b n (n + s.new - s.old)) (le-ltb n s.from high)

pub shift_within : (id n : ℕ) → shifted_by (shift_inside id) n ≡ n + id
shift_within id n = omega (arith, shift_high (shift_inside id) n (omega arith))

-- the children keep their steps
abbrev pub step_from : ChildList → ℕ → Part
step_from c n = step_at (named c) (holds_of c) n

key_kept : (f : ℕ → ℕ) (pairs : List (List ℕ × ℕ)) (n : ℕ) (e : List ℕ × ℕ)
    → (get_or (map (λ (p : List ℕ × ℕ). let q : List ℕ × ℕ = (p.0, f p.1) in q) pairs) n e).0 ≡ (get_or pairs n e).0
key_kept f [] n e = refl
key_kept f (p ∷ ps) zero e = refl
key_kept f (p ∷ ps) (suc n) e = key_kept f ps n e

pub step_shifted : (s : Shift) (c : ChildList) (n : ℕ) → step_from (shifted_children s c) n ≡ step_from c n
step_shifted s Bare n = refl
step_shifted s (Keyed pairs) n = ap key (key_kept (shifted_by s) pairs n ([], 0))
step_shifted s (Listed ids) n = refl

pub holds_shifted : (s : Shift) (c : ChildList) → holds_of (shifted_children s c) ≡ holds_of c
holds_shifted s Bare = refl
holds_shifted s (Keyed pairs) = refl
holds_shifted s (Listed ids) = refl

-- ---- the rows

module _ (nodes : List Node) (id gone : ℕ) (inside : List Node) (within : id + gone < length nodes)
    (some : 0 < length inside) where
  abbrev beside : Shift
  beside = shift_beside nodes id gone inside

  abbrev within_it : Shift
  within_it = shift_inside id

  abbrev out : List Node
  out = replaced_below nodes id gone inside

  abbrev new : List Node
  new = map (shifted_node (shift_inside id)) (drop 1 inside)

  abbrev moved : List Node
  moved = map (shifted_node (shift_beside nodes id gone inside)) nodes

  abbrev own : Node
  own = record (node_at moved id) { children = shifted_children within_it (node_at inside 0).children }

  abbrev old : List Node
  old = with_children moved id (shifted_children within_it (node_at inside 0).children)

  count_new : length new ≡ length inside - 1
  count_new = length-map (drop 1 inside) (shifted_node within_it) ∙ length-drop 1 inside

  count_old : length old ≡ length nodes
  count_old = length-set moved id own ∙ length-map nodes (shifted_node beside)

  fits : suc id + gone ≤ length old
  fits = omega (arith, within, count_old)

  old_row : (j : ℕ) (d : Node) → (j ≡ id → ⊥) → j < length nodes
      → get_or old j d ≡ shifted_node beside (node_at nodes j)
  old_row j d other h =
      get_or-set_other moved id j own d other ∙ get_or-map (shifted_node beside) nodes j no_node d h

  pub replaced_count : length out ≡ length nodes - gone + (length inside - 1)
  replaced_count = omega (arith, length-spliced (suc id) gone new old fits, count_new, count_old)

  -- before that node
  pub replaced_row_before : (j : ℕ) (d : Node) → j < id → get_or out j d ≡ shifted_node beside (node_at nodes j)
  replaced_row_before j d h =
      read_before (suc id) gone new old fits j d (omega (arith, h))
      ∙ old_row j d (λ e. absurd (omega (arith, e, h))) (omega (arith, h, within))

  -- that node
  pub replaced_row_own : (d : Node) → get_or out id d
      ≡ record (shifted_node beside (node_at nodes id)) {
        children = shifted_children within_it (node_at inside 0).children;
      }
  replaced_row_own d =
      read_before (suc id) gone new old fits id d (omega arith)
      ∙ get_or-set_same moved id own d (omega (arith, within, length-map nodes (shifted_node beside)))
      ∙ ap (λ (n : Node). record n { children = shifted_children within_it (node_at inside 0).children })
      (get_or-map (shifted_node beside) nodes id no_node no_node (omega (arith, within)))

  -- those of the other tree
  pub replaced_row_inside : (j : ℕ) (d : Node) → id < j → j < id + length inside
      → get_or out j d ≡ shifted_node within_it (node_at inside (j - id))
  replaced_row_inside j d low high =
      read_inside (suc id) gone new old fits j d (omega (arith, low)) (omega (arith, high, count_new))
      ∙ get_or-map (shifted_node within_it) (drop 1 inside) (j - suc id) no_node d
      (omega (arith, low, high, length-drop 1 inside))
      ∙ ap (shifted_node within_it) (get_or-drop 1 inside (j - suc id) no_node
      ∙ ap (node_at inside) (let e : 1 + (j - suc id) ≡ j - id = omega (arith, low) in e))

  -- those after them
  pub replaced_row_after : (j : ℕ) (d : Node) → id + length inside ≤ j → j < length out
      → get_or out j d ≡ shifted_node beside (node_at nodes (j - (length inside - 1) + gone))
  replaced_row_after j d low high =
      let i : ℕ = j - (length inside - 1) + gone in
      read_after (suc id) gone new old fits j d (omega (arith, low, count_new, some))
      ∙ ap (λ k. get_or old (j - k + gone) d) count_new
      ∙ old_row i d (λ e. absurd (omega (arith, e, low, some))) (omega (arith, low, high, replaced_count, some, within))

  -- the facts about the nodes
  pub replaced_row_infos : infos_of out ≡ spliced (suc id) gone (drop 1 (infos_of inside)) (infos_of nodes)
  replaced_row_infos =
      let f : Node → NodeInfo = λ n. info_of n.facts in
      map-spliced f (suc id) gone new old
      ∙ ap (λ xs. spliced (suc id) gone xs (map f old))
      (map-map f (shifted_node within_it) (drop 1 inside) ∙ sym (drop-map f 1 inside))
      ∙ ap (λ xs. spliced (suc id) gone (drop 1 (infos_of inside)) xs)
      (map-set_same f moved id own no_node refl ∙ map-map f (shifted_node beside) nodes)
