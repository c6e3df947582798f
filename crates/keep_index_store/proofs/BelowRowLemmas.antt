-- Each node where it then is, where those below one give place to those of another tree below its root.
--
-- A node that is not below that one, or the one itself, is read where the shift leads (`parent_old`, `number_old`), and
-- a node of the other tree as many places after that one (`parent_new`, `number_new`). The one has the children of the
-- other tree's root, so the children of each node are those of a node of the other tree (`children_inside`), or those
-- of a node beside the ones that go (`children_beside`). Each number is of a node of the one kind or of the other
-- (`sort`).
--
-- Theorems: `sort`: which node has a number; `children_inside` and `children_beside`: which children it has.
use Rattle.std.proofs.Common.{◌≡◌, ℕ, suc, ◌+◌, ◌-◌, ◌<◌, ◌≤◌, List, ◌++◌, length, get_or, set, take, drop, map, cond}
use Rattle.std.proofs.Common.{Bool}
use Rattle.std.proofs.Common.{refl, sym, ◌∙◌, ap, arith, length-append, inl, inr, ◌⊎◌}
use Rattle.std.proofs.lemmas.List.{get_or_append_left, get_or-append_right, get_or-drop, get_or-map, get_or-take}
use Rattle.std.proofs.lemmas.List.{get_or-set_other, get_or-set_same, length-drop, length-map, length-set}
use Rattle.std.proofs.lemmas.List.{length-take-le}
use Rattle.std.proofs.lemmas.Bool.{cases_eq, cases_lt, le-ltb, lt-ltb}
use Rattle.keep_path.specs.NodesBelow.{shifted}
use Rattle.keep_index_store.specs.AllNodes.{Node, no_node, node_at}
use Rattle.keep_index_store.specs.Below.{replaced_below, shift_beside, shift_inside, shifted_by}
use Rattle.keep_index_store.specs.Below.{shifted_children, shifted_node}

-- ---- the numbers

pub shifted_low : (from old new n : ℕ) → n < from → shifted from old new n ≡ n
shifted_low from old new n low = ap (λ (b : Bool). cond b n ((n + new) - old)) (lt-ltb n from low)

pub shifted_high : (from old new n : ℕ) → from ≤ n → shifted from old new n ≡ (n + new) - old
shifted_high from old new n high = ap (λ (b : Bool). cond b n ((n + new) - old)) (le-ltb n from high)

module _ (nodes : List Node) (id gone : ℕ) (inside : List Node) (within : id + gone < length nodes)
    (some : 0 < length inside) where
  -- the number that a node beside those that go has then, and one of the other tree
  abbrev pub beside : ℕ → ℕ
  beside n = shifted_by (shift_beside nodes id gone inside) n

  abbrev pub among : ℕ → ℕ
  among n = shifted_by (shift_inside id) n

  pub beside_low : (n : ℕ) → n ≤ id + gone → beside n ≡ n
  beside_low n low =
      shifted_low (suc id + gone) (length nodes) ((length nodes - gone) + (length inside - 1)) n (omega (arith, low))

  pub beside_high : (n : ℕ) → id + gone < n → beside n + gone ≡ n + (length inside - 1)
  beside_high n high =
      let e = shifted_high (suc id + gone) (length nodes) ((length nodes - gone) + (length inside - 1)) n
      (omega (arith, high)) in
      omega (arith, e, high, within)

  pub among_is : (n : ℕ) → among n ≡ id + n
  among_is n = omega (arith, shifted_high 0 0 id n (omega arith))

  -- ---- the parts

  abbrev pub all : List Node
  all = replaced_below nodes id gone inside

  abbrev far : Node → Node
  far n = shifted_node (shift_beside nodes id gone inside) n

  abbrev near : Node → Node
  near n = shifted_node (shift_inside id) n

  abbrev moved : List Node
  moved = map (shifted_node (shift_beside nodes id gone inside)) nodes

  abbrev changed : Node
  changed = record (node_at moved id) { children = shifted_children (shift_inside id) (node_at inside 0).children }

  abbrev written : List Node
  written = set moved id changed

  abbrev others : List Node
  others = map (shifted_node (shift_inside id)) (drop 1 inside)

  count_written : length written ≡ length nodes
  count_written = length-set moved id changed ∙ length-map nodes far

  count_others : length others + 1 ≡ length inside
  count_others = omega (arith, length-map (drop 1 inside) near, length-drop 1 inside, some)

  first : length (take (suc id) written) ≡ suc id
  first = length-take-le (suc id) written (omega (arith, within, count_written))

  pub count : length all + gone + 1 ≡ length nodes + length inside
  count =
      omega (
        arith,
        length-append (take (suc id) written) (others ++ drop (suc id + gone) written),
        first,
        length-append others (drop (suc id + gone) written),
        length-drop (suc id + gone) written,
        count_written,
        count_others,
        within,
      )

  -- ---- each row where it then is

  read_low : (i : ℕ) (e : Node) → i ≤ id → get_or all i e ≡ get_or written i e
  read_low i e low =
      get_or_append_left (take (suc id) written) (others ++ drop (suc id + gone) written) e i
      (omega (arith, low, first))
      ∙ get_or-take (suc id) written i e (omega (arith, low))

  read_past : (i : ℕ) (e : Node) → id < i
      → get_or all i e ≡ get_or (others ++ drop (suc id + gone) written) (i - suc id) e
  read_past i e high =
      get_or-append_right (take (suc id) written) (others ++ drop (suc id + gone) written) (suc id) i e first
      (omega (arith, high))

  read_new : (i : ℕ) (e : Node) → 0 < i → i < length inside → get_or all (id + i) e ≡ near (get_or inside i no_node)
  read_new i e later low =
      let at : 1 + (id + i - suc id) ≡ i = omega (arith, later) in
      let few : id + i - suc id < length others = omega (arith, at, low, count_others) in
      read_past (id + i) e (omega (arith, later))
      ∙ get_or_append_left others (drop (suc id + gone) written) e (id + i - suc id) few
      ∙ get_or-map near (drop 1 inside) (id + i - suc id) no_node e
      (omega (arith, few, length-map (drop 1 inside) near))
      ∙ ap near (get_or-drop 1 inside (id + i - suc id) no_node) ∙ ap (λ k. near (get_or inside k no_node)) at

  read_high : (i : ℕ) (e : Node) → id + gone < i → get_or all (beside i) e ≡ get_or written i e
  read_high i e high =
      let is = beside_high i high in
      let at : (suc id + gone) + ((beside i - suc id) - (length inside - 1)) ≡ i = omega (arith, is, high) in
      let many : length others ≡ length inside - 1 = omega (arith, count_others) in
      read_past (beside i) e (omega (arith, is, high))
      ∙ get_or-append_right others (drop (suc id + gone) written) (length inside - 1) (beside i - suc id) e many
      (omega (arith, is, high))
      ∙ get_or-drop (suc id + gone) written ((beside i - suc id) - (length inside - 1)) e
      ∙ ap (λ k. get_or written k e) at

  read_old : (i : ℕ) (e : Node) → (i ≤ id) ⊎ (id + gone < i) → get_or all (beside i) e ≡ get_or written i e
  read_old i e (inl low) = ap (λ k. get_or all k e) (beside_low i (omega (arith, low))) ∙ read_low i e low
  read_old i e (inr high) = read_high i e high

  written_other : (i : ℕ) (e : Node) → i < length nodes → (i ≡ id → ⊥)
      → get_or written i e ≡ far (get_or nodes i no_node)
  written_other i e h other = get_or-set_other moved id i changed e other ∙ get_or-map far nodes i no_node e h

  own : node_at moved id ≡ far (get_or nodes id no_node)
  own = get_or-map far nodes id no_node no_node (omega (arith, within))

  written_as : {X : Type 0} (f : Node → X) → f changed ≡ f (node_at moved id) → (i : ℕ) (e : Node) → i < length nodes
      → f (get_or written i e) ≡ f (far (get_or nodes i no_node))
  written_as f same i e h = elim (cases_eq i id) [
    | inl is ↦
        ap (λ k. f (get_or written k e)) is
        ∙ ap f (get_or-set_same moved id changed e (omega (arith, within, length-map nodes far))) ∙ same ∙ ap f own
        ∙ ap (λ k. f (far (get_or nodes k no_node))) (sym is)
    | inr other ↦ ap f (written_other i e h other)
  ]

  -- ---- what they say

  pub parent_old : (i : ℕ) (e : Node) → i < length nodes → (i ≤ id) ⊎ (id + gone < i)
      → (get_or all (beside i) e).parent ≡ beside (get_or nodes i no_node).parent
  parent_old i e h side =
      ap (λ (x : Node). x.parent) (read_old i e side) ∙ written_as (λ (x : Node). x.parent) refl i e h

  pub number_old : (i : ℕ) (e : Node) → i < length nodes → (i ≤ id) ⊎ (id + gone < i)
      → (get_or all (beside i) e).number ≡ (get_or nodes i no_node).number
  number_old i e h side =
      ap (λ (x : Node). x.number) (read_old i e side) ∙ written_as (λ (x : Node). x.number) refl i e h

  pub parent_new : (i : ℕ) (e : Node) → 0 < i → i < length inside
      → (get_or all (id + i) e).parent ≡ id + (get_or inside i no_node).parent
  parent_new i e later h =
      ap (λ (x : Node). x.parent) (read_new i e later h) ∙ among_is (get_or inside i no_node).parent

  pub number_new : (i : ℕ) (e : Node) → 0 < i → i < length inside
      → (get_or all (id + i) e).number ≡ (get_or inside i no_node).number
  number_new i e later h = ap (λ (x : Node). x.number) (read_new i e later h)

  -- ---- their children

  pub children_beside : (i : ℕ) (e : Node) → i < length nodes → (i < id) ⊎ (id + gone < i)
      → (get_or all (beside i) e).children
      ≡ shifted_children (shift_beside nodes id gone inside) (get_or nodes i no_node).children
  children_beside i e h (inl low) =
      ap (λ (x : Node). x.children)
      (read_old i e (inl (omega (arith, low))) ∙ written_other i e h (λ is. absurd (omega (arith, is, low))))
  children_beside i e h (inr high) =
      ap (λ (x : Node). x.children)
      (read_old i e (inr high) ∙ written_other i e h (λ is. absurd (omega (arith, is, high))))

  pub children_inside : (i : ℕ) (e : Node) → i < length inside
      → (get_or all (id + i) e).children ≡ shifted_children (shift_inside id) (get_or inside i no_node).children
  children_inside i e h = elim (cases_eq i 0) [
    | inl is ↦
        ap (λ k. (get_or all k e).children) (let at : id + i ≡ id = omega (arith, is) in at)
        ∙ ap (λ (x : Node). x.children) (read_low id e (omega arith)
        ∙ get_or-set_same moved id changed e (omega (arith, within, length-map nodes far)))
        ∙ ap (λ k. shifted_children (shift_inside id) (get_or inside k no_node).children) (sym is)
    | inr other ↦ ap (λ (x : Node). x.children) (read_new i e (omega (arith, other)) h)
  ]

  -- ---- which node has a number

  pub record IsInside (j : ℕ) : Type 0 where
    pub was : ℕ
    pub low : was < length inside
    pub is : id + was ≡ j

  pub record IsBeside (j : ℕ) : Type 0 where
    pub was : ℕ
    pub low : was < length nodes
    pub side : (was < id) ⊎ (id + gone < was)
    pub is : beside was ≡ j

  pub sort : (j : ℕ) → j < length all → IsInside j ⊎ IsBeside j
  sort j h = elim (cases_lt j id) [
    | inl low ↦
        inr (record {
          was = j;
          low = omega (arith, low, within);
          side = inl low;
          is = beside_low j (omega (arith, low));
        })
    | inr high ↦ elim (cases_lt j (id + length inside)) [
      | inl low ↦ inl (record { was = j - id; low = omega (arith, high, low); is = omega (arith, high) })
      | inr past ↦
          let was : ℕ = (j + gone) - (length inside - 1) in
          let side : id + gone < was = omega (arith, past, some) in
          inr (record {
            was = was;
            low = omega (arith, past, h, count, some);
            side = inr side;
            is = omega (arith, beside_high was side, past, some);
          })
    ]
  ]
