-- The nodes are stored as they have to be, where those below one give place to those of another tree below its root.
--
-- What a node then lists are the children that a node beside the ones that go had, or a node of the other tree, with
-- their new numbers (`lists_beside`, `lists_inside`). They ascend as they did: a child of a node beside is none of
-- those that go (`kid_side`), and the numbers of the others keep their order (`beside_more`). Each says the number and
-- the parent under which it is listed, and each node is among the children of its parent (`place_old`, `place_new`).
--
-- Theorem: `replaced_stored`.
use Rattle.std.proofs.Common.{◌≡◌, ℕ, ◌+◌, ◌-◌, ◌<◌, ◌≤◌, List, length, get_or, map, refl, sym, ◌∙◌, ap, subst, arith}
use Rattle.std.proofs.Common.{◌⊎◌}
use Rattle.std.proofs.Common.{inl, inr}
use Rattle.std.proofs.lemmas.List.{get_or-map, length-map}
use Rattle.std.proofs.lemmas.Bool.{cases_lt}
use Rattle.std.proofs.lemmas.Simd.{map-map}
use Rattle.keep_index_store.specs.declared.shift.Shift.{Shift}
use Rattle.keep_index_store.specs.AllNodes.{Node, no_node}
use Rattle.keep_index_store.specs.Below.{IsRunBelow, replaced_below, shift_beside, shift_inside, shifted_by}
use Rattle.keep_index_store.specs.Below.{shifted_children}
use Rattle.keep_index_store.specs.Children.{ChildList, Bare, Keyed, Listed, child_ids}
use Rattle.keep_index_store.specs.Stored.{IsStored, trie_of}
use Rattle.keep_index_store.specs.Trie.{IsTrie}
use Rattle.keep_index_store.proofs.AscendingLemmas.{Ascends, IsRowOf, ascend_of, stored_in_order}
use Rattle.keep_index_store.proofs.BelowRowLemmas.{among_is, beside_high, beside_low, children_beside}
use Rattle.keep_index_store.proofs.BelowRowLemmas.{children_inside, number_new, number_old, parent_new, parent_old}
use Rattle.keep_index_store.proofs.BelowRowLemmas.{sort}
use Rattle.keep_index_store.proofs.BelowRowLemmas as row
use Rattle.keep_index_store.proofs.StoredLemmas.{IsPlaced, IsStoredChild, length_trie_of, node_placed, stored_child}
use Rattle.keep_index_store.proofs.TrieLemmas.{IsAmongChildren}

-- ---- the children of one node

pub ids_shifted : (s : Shift) (c : ChildList) → child_ids (shifted_children s c) ≡ map (shifted_by s) (child_ids c)
ids_shifted s Bare = refl
ids_shifted s (Keyed pairs) =
    map-map (λ e. e.1) (λ (e : List ℕ × ℕ). (e.0, shifted_by s e.1)) pairs
    ∙ sym (map-map (shifted_by s) (λ (e : List ℕ × ℕ). e.1) pairs)
ids_shifted s (Listed ids) = refl

-- stored children ascend
kids_ascend : (nodes : List Node) → IsStored nodes → (i : ℕ) → i < length nodes
    → Ascends (child_ids (get_or nodes i no_node).children)
kids_ascend nodes stored i h = subst Ascends (sym (stored.kids i no_node h)) (ascend_of (trie_of nodes) i)

-- numbers that keep their order
map_ascends : (f : ℕ → ℕ) (ids : List ℕ)
    → ((k j : ℕ) → k < length ids → j < length ids → get_or ids k 0 < get_or ids j 0
    → f (get_or ids k 0) < f (get_or ids j 0)) → Ascends ids → Ascends (map f ids)
map_ascends f ids more a i j d low h =
    let few : j < length ids = omega (arith, h, length-map ids f) in
    let few' : i < length ids = omega (arith, low, few) in
    omega (arith, get_or-map f ids i 0 d few', get_or-map f ids j 0 d few, more i j few' few (a i j 0 low few))

module _ (nodes : List Node) (id gone : ℕ) (inside : List Node) (r : IsRunBelow nodes id gone)
    (s : IsStored inside) where
  some : 0 < length inside
  some = omega (arith, s.trie.root, length_trie_of inside)

  abbrev all : List Node
  all = replaced_below nodes id gone inside

  abbrev beside : ℕ → ℕ
  beside n = shifted_by (shift_beside nodes id gone inside) n

  abbrev among : ℕ → ℕ
  among n = shifted_by (shift_inside id) n

  abbrev kids : ℕ → List ℕ
  kids i = child_ids (get_or nodes i no_node).children

  abbrev kids_in : ℕ → List ℕ
  kids_in i = child_ids (get_or inside i no_node).children

  low : (n : ℕ) → n ≤ id + gone → beside n ≡ n
  low n h = beside_low nodes id gone inside r.within some n h

  high : (n : ℕ) → id + gone < n → beside n + gone ≡ n + (length inside - 1)
  high n h = beside_high nodes id gone inside r.within some n h

  count : length all + gone + 1 ≡ length nodes + length inside
  count = row.count nodes id gone inside r.within some

  -- ---- the numbers of those that stay

  beside_more : (a b : ℕ) → (a ≤ id) ⊎ (id + gone < a) → (b ≤ id) ⊎ (id + gone < b) → a < b → beside a < beside b
  beside_more a b (inl one) (inl two) h = omega (arith, low a (omega (arith, one)), low b (omega (arith, two)), h)
  beside_more a b (inl one) (inr two) h = omega (arith, low a (omega (arith, one)), high b two, one, two)
  beside_more a b (inr one) (inl two) h = absurd (omega (arith, one, two, h))
  beside_more a b (inr one) (inr two) h = omega (arith, high a one, high b two, h)

  beside_within : (n : ℕ) → n < length nodes → (n ≤ id) ⊎ (id + gone < n) → beside n < length all
  beside_within n h (inl one) = omega (arith, low n (omega (arith, one)), count, r.within, some, one)
  beside_within n h (inr one) = omega (arith, high n one, count, h, some)

  beside_later : (n : ℕ) → 0 < n → (n ≤ id) ⊎ (id + gone < n) → 0 < beside n
  beside_later n h (inl one) = omega (arith, low n (omega (arith, one)), h)
  beside_later n h (inr one) = omega (arith, high n one, one)

  -- a child of a node beside those that go is none of them
  kid_there : (i k : ℕ) → i < length nodes → k < length (kids i) → IsStoredChild nodes i k (get_or (kids i) k 0) no_node
  kid_there i k h few = stored_child nodes r.stored i k no_node h few

  away : (i c : ℕ) → (i < id) ⊎ (id + gone < i) → id < c → c ≤ id + gone → 0 < c → c < length nodes
      → (get_or nodes c no_node).parent ≡ i → ⊥
  away i c (inl one) more less later h up = absurd (omega (arith, r.below c more less, up, one))
  away i c (inr one) more less later h up =
      absurd (omega (arith, (node_placed nodes r.stored c no_node later h).earlier, up, one, less))

  kid_side : (i k : ℕ) → i < length nodes → (i < id) ⊎ (id + gone < i) → k < length (kids i)
      → (get_or (kids i) k 0 ≤ id) ⊎ (id + gone < get_or (kids i) k 0)
  kid_side i k h side few =
      let c = kid_there i k h few in
      elim (cases_lt id (get_or (kids i) k 0)) [
        | inr under ↦ inl under
        | inl more ↦ elim (cases_lt (id + gone) (get_or (kids i) k 0)) [
          | inl past ↦ inr past
          | inr less ↦ absurd (away i (get_or (kids i) k 0) side more less c.later c.nested c.parent)
        ]
      ]

  -- ---- what each node lists then

  ids_beside : (i : ℕ) → i < length nodes → (i < id) ⊎ (id + gone < i)
      → child_ids (get_or all (beside i) no_node).children ≡ map beside (kids i)
  ids_beside i h side =
      ap child_ids (children_beside nodes id gone inside r.within some i no_node h side)
      ∙ ids_shifted (shift_beside nodes id gone inside) (get_or nodes i no_node).children

  ids_inside : (i : ℕ) → i < length inside → child_ids (get_or all (id + i) no_node).children ≡ map among (kids_in i)
  ids_inside i h =
      ap child_ids (children_inside nodes id gone inside r.within some i no_node h)
      ∙ ids_shifted (shift_inside id) (get_or inside i no_node).children

  record Lists (j : ℕ) : Type 0 where
    then : ℕ → ℕ
    ids : List ℕ
    is : child_ids (get_or all j no_node).children ≡ map then ids
    ascend : Ascends (map then ids)
    row : (k : ℕ) → k < length ids → IsRowOf all j k (then (get_or ids k 0))

  lists_beside : (i : ℕ) → i < length nodes → (i < id) ⊎ (id + gone < i) → Lists (beside i)
  lists_beside i h side = record {
    then = beside;
    ids = kids i;
    is = ids_beside i h side;
    ascend = map_ascends beside (kids i)
        (λ a b few few' more.
        beside_more (get_or (kids i) a 0) (get_or (kids i) b 0) (kid_side i a h side few) (kid_side i b h side few')
        more)
        (kids_ascend nodes r.stored i h);
    row = λ k few.
        let c = kid_there i k h few in
        let at = kid_side i k h side few in
        record {
          later = beside_later (get_or (kids i) k 0) c.later at;
          within = beside_within (get_or (kids i) k 0) c.nested at;
          parent = parent_old nodes id gone inside r.within some (get_or (kids i) k 0) no_node c.nested at
              ∙ ap beside c.parent;
          number = number_old nodes id gone inside r.within some (get_or (kids i) k 0) no_node c.nested at ∙ c.number;
        };
  }

  lists_inside : (i : ℕ) → i < length inside → Lists (id + i)
  lists_inside i h = record {
    then = among;
    ids = kids_in i;
    is = ids_inside i h;
    ascend = map_ascends among (kids_in i)
        (λ a b few few' more.
        omega (
          arith,
          among_is nodes id gone inside r.within some (get_or (kids_in i) a 0),
          among_is nodes id gone inside r.within some (get_or (kids_in i) b 0),
          more,
        ))
        (kids_ascend inside s i h);
    row = λ k few.
        let n : ℕ = get_or (kids_in i) k 0 in
        let c : IsStoredChild inside i k n no_node = stored_child inside s i k no_node h few in
        subst (λ (m : ℕ). IsRowOf all (id + i) k m) (sym (among_is nodes id gone inside r.within some n))
        (let there : IsRowOf all (id + i) k (id + n) = record {
          later = omega (arith, c.later);
          within = omega (arith, c.nested, count, r.within);
          parent = parent_new nodes id gone inside r.within some n no_node c.later c.nested ∙ ap (λ m. id + m) c.parent;
          number = number_new nodes id gone inside r.within some n no_node c.later c.nested ∙ c.number;
        } in there);
  }

  lists : (j : ℕ) → j < length all → Lists j
  lists j h = elim (sort nodes id gone inside r.within some j h) [
    | inl n ↦ subst Lists n.is (lists_inside n.was n.low)
    | inr n ↦ subst Lists n.is (lists_beside n.was n.low n.side)
  ]

  -- ---- each node is among the children of its parent

  abbrev IsListed : ℕ → Type 0
  IsListed j = IsAmongChildren j (child_ids (get_or all (get_or all j no_node).parent no_node).children)

  among_mapped : (f : ℕ → ℕ) (ids : List ℕ) (n j : ℕ) → n < length ids → f (get_or ids n 0) ≡ j
      → IsAmongChildren j (map f ids)
  among_mapped f ids n j few is = record {
    place = n;
    nested = omega (arith, few, length-map ids f);
    number = get_or-map f ids n 0 0 few ∙ is;
  }

  above_side : (i : ℕ) → i < length nodes → (i ≤ id) ⊎ (id + gone < i) → (get_or nodes i no_node).parent < i
      → ((get_or nodes i no_node).parent < id) ⊎ (id + gone < (get_or nodes i no_node).parent)
  above_side i h (inl one) up = inl (omega (arith, one, up))
  above_side i h (inr one) up = r.others i one h

  place_old : (i : ℕ) → 0 < i → i < length nodes → (i ≤ id) ⊎ (id + gone < i) → IsListed (beside i)
  place_old i later h side =
      let p : IsPlaced nodes i no_node = node_placed nodes r.stored i no_node later h in
      let q : ℕ = (get_or nodes i no_node).parent in
      subst (IsAmongChildren (beside i))
      (sym (ap (λ m. child_ids (get_or all m no_node).children)
      (parent_old nodes id gone inside r.within some i no_node h side)
      ∙ ids_beside q (omega (arith, p.earlier, h)) (above_side i h side p.earlier)))
      (among_mapped beside (kids q) (get_or nodes i no_node).number (beside i) p.low (ap beside p.found))

  place_new : (i : ℕ) → 0 < i → i < length inside → IsListed (id + i)
  place_new i later h =
      let p : IsPlaced inside i no_node = node_placed inside s i no_node later h in
      let q : ℕ = (get_or inside i no_node).parent in
      subst (IsAmongChildren (id + i))
      (sym (ap (λ m. child_ids (get_or all m no_node).children)
      (parent_new nodes id gone inside r.within some i no_node later h)
      ∙ ids_inside q (omega (arith, p.earlier, h))))
      (among_mapped among (kids_in q) (get_or inside i no_node).number (id + i) p.low
      (ap among p.found ∙ among_is nodes id gone inside r.within some i))

  weaker : (n : ℕ) → (n < id) ⊎ (id + gone < n) → (n ≤ id) ⊎ (id + gone < n)
  weaker n (inl one) = inl (omega (arith, one))
  weaker n (inr one) = inr one

  place : (j : ℕ) → 0 < j → j < length all → IsListed j
  place j later h = elim (sort nodes id gone inside r.within some j h) [
    | inl n ↦ elim (cases_lt 0 n.was) [
      | inl more ↦ subst IsListed n.is (place_new n.was more n.low)
      | inr none ↦
          subst IsListed (low id (omega arith) ∙ (let e : id ≡ j = omega (arith, n.is, none) in e))
          (place_old id r.later (omega (arith, r.within)) (inl (omega arith)))
    ]
    | inr n ↦ elim (cases_lt 0 n.was) [
      | inl more ↦ subst IsListed n.is (place_old n.was more n.low (weaker n.was n.side))
      | inr none ↦ absurd (omega (arith, low n.was (omega (arith, none)), n.is, none, later))
    ]
  ]

  -- ---- all of it

  pub replaced_stored : IsTrie (trie_of all) → IsStored all
  replaced_stored trie = stored_in_order all record {
    trie = trie;
    ascend = λ j h. let l = lists j h in subst Ascends (sym l.is) l.ascend;
    child = λ j k h few.
        let l = lists j h in
        let few' : k < length l.ids = omega (arith, few, ap length l.is, length-map l.ids l.then) in
        subst (λ (n : ℕ). IsRowOf all j k n)
        (sym (ap (λ (ns : List ℕ). get_or ns k 0) l.is ∙ get_or-map l.then l.ids k 0 0 few')) (l.row k few');
    place = place;
  }
