-- The refusals of an insert, in their order, and where it goes if none holds.
--
-- A refusal is the first of some tests that holds. Which tests there are depends on whether the path names an item of
-- an array: those of an item are in `item_refusal`, those of a keyval in `keyval_refusal`. With the answers of the
-- tests that need no value, either only the tests of the value are left, or the fault is known whatever the value is.
-- An item has a number up to the count of items (`item_aimed`) or a larger one (`item_unaimed`), and the holder, the
-- last node on the way to the path, is its array (`item_of`). Of a keyval, the path names a node already
-- (`exists_there`), or an index is left in it past the holder (`no_index_there`), or the holder is a table
-- (`keyval_aimed`) or is none (`keyval_unaimed`).
--
-- Theorems: `item_aimed`: where an item goes, and that its value alone can be refused; `keyval_aimed`: the same of a
-- keyval.
use Rattle.std.proofs.Common.{◌≡◌, ℕ, suc, ◌-◌, ◌<◌, Bool, true, false, not, ◌&&◌, List, [], ◌∷◌, length, take, drop}
use Rattle.std.proofs.Common.{refl, sym, ap, subst, ◌∙◌, arith, Option, Some, None, Ok, Err, inl, inr}
use Rattle.std.specs.Prelude.{nat_lt}
use Rattle.std.specs.List.{list_any}
use Rattle.std.proofs.lemmas.Bool.{cases_lt, lt-ltb, le-ltb}
use Rattle.std.proofs.lemmas.List.{length-take-le}
use Rattle.keep_types.specs.declared.leaf.Profile.{Profile}
use Rattle.keep_syntax.specs.Tree.{Value, Document}
use Rattle.keep_path.specs.Path.{Part}
use Rattle.keep_meaning.specs.Meaning.{mentions_in}
use Rattle.keep_meaning.specs.Nodes.{is_node, node_number, node_paths}
use Rattle.keep_edit_spec.specs.declared.fault.EditFault.{EditFault}
use Rattle.keep_edit_spec.specs.declared.fault.EditFault.TheVariants as fault
use Rattle.keep_edit_spec.specs.Edits.{insert}
use Rattle.keep_edit_spec.specs.Look.{holder, is_index, is_table, item_number, item_count, without_last}
use Rattle.keep_edit_spec.specs.Refusals.{refusal, refusal_by, first_that_holds, is_too_deep, is_foreign}
use Rattle.keep_edit_spec.proofs.Shared.{IsItemPath, item_at}
use Rattle.keep_edit_plan.specs.Reading.{limit}
use Rattle.keep_edit_plan.specs.Aiming.{IsAimed, IsItemAimed, IsItemOf, IsKeyvalAimed}
use Rattle.keep_edit_plan.specs.Holding.{IsHolder}
use Rattle.keep_edit_plan.specs.Inserting.{IsItemSpot, IsKeyvalSpot, IsSpotOf}
use Rattle.keep_edit_plan.specs.declared.holder.Holder.{Holder}
use Rattle.keep_edit_plan.specs.declared.insert.Insertion.{Insertion}
use Rattle.keep_edit_plan.specs.declared.insert.Spot.{Spot}
use Rattle.keep_edit_plan.proofs.AimLaws.{far_item, without_last-is}

-- ---- as an item

item_refusal : (profile : Profile) (path : List Part) (v : Value) (s : Document) (n : ℕ)
    → item_number path (mentions_in s) ≡ Some n → refusal profile limit s (insert path v) ≡ first_that_holds (
    (nat_lt (item_count (without_last path) (mentions_in s)) n, fault.NotFound)
    ∷ (is_too_deep limit path v (mentions_in s), fault.TooDeep)
    ∷ (is_foreign profile v, fault.Profile) ∷ [])
item_refusal profile path v s n at = rw (at, refusal_by) refl

abbrev SpotBy : List Part → Document → Insertion → Option ℕ → Type 0
SpotBy path s i o = elim o [
  | Some n ↦ (i.from ≡ length path) × IsItemSpot path n s i.spot
  | None ↦ IsKeyvalSpot (holder path (mentions_in s)) s i.from i.spot
]

item_spot_of : (path : List Part) (s : Document) (n : ℕ) (i : Insertion) → item_number path (mentions_in s) ≡ Some n
    → i.from ≡ length path → IsItemSpot path n s i.spot → IsSpotOf path s i
item_spot_of path s n i at from spot =
    subst (SpotBy path s i) (sym at) (from, spot)

module _ (path : List Part) (s : Document) (n : ℕ) (at : item_number path (mentions_in s) ≡ Some n) where
  pub item_aimed : (spot : Spot) (from : ℕ) → from ≡ length path → IsItemAimed path n s (Ok spot)
      → IsAimed path s (Ok (record { spot = spot; from = from }))
  item_aimed spot from e (few, there) = (
    λ profile v. (item_refusal profile path v s n at
        ∙ ap (λ (b : Bool).
        first_that_holds ((b, fault.NotFound) ∷ (is_too_deep limit path v (mentions_in s), fault.TooDeep)
        ∷ (is_foreign profile v, fault.Profile) ∷ [])) (le-ltb (item_count (without_last path) (mentions_in s)) n few)),
    item_spot_of path s n (record { spot = spot; from = from }) at e there,
  )

  pub item_unaimed : (f : EditFault) → IsItemAimed path n s (Err f) → IsAimed path s (Err f)
  item_unaimed f (is, many) = λ profile v.
      item_refusal profile path v s n at
      ∙ ap (λ (b : Bool).
      first_that_holds ((b, fault.NotFound) ∷ (is_too_deep limit path v (mentions_in s), fault.TooDeep)
      ∷ (is_foreign profile v, fault.Profile) ∷ [])) (lt-ltb (item_count (without_last path) (mentions_in s)) n many)
      ∙ ap Some (sym is)

  -- the holder is the array
  pub item_of : (h : Holder) → IsHolder path s h → IsItemOf path n s h.id.0
  item_of h held =
      let p : IsItemPath path n (mentions_in s) = item_at path n (mentions_in s) at in
      let prefix : without_last path ≡ take h.len path = without_last-is path more ∙ ap (λ (k : ℕ). take k path) last in
      record {
        whole = p.whole;
        node = ap (node_number (node_paths (mentions_in s))) prefix
            ∙ held.walk.node;
        static = p.is_array;
      }
    where
      more : 0 < length path
      more = elim held.proper [
        | inl e ↦
            (let k : None ≡ Some n = ap (λ (q : List Part). item_number q (mentions_in s)) (sym e) ∙ at in absurd cc)
        | inr low ↦ omega (arith, low)
      ]

      last : length path - 1 ≡ h.len
      last = elim (cases_lt (suc h.len) (length path)) [
        | inl far ↦ (let k : None ≡ Some n = sym (far_item path s h held far) ∙ at in absurd cc)
        | inr near ↦ elim held.proper [
          | inl e ↦
              (let k : None ≡ Some n = ap (λ (q : List Part). item_number q (mentions_in s)) (sym e) ∙ at in absurd cc)
          | inr low ↦ omega (arith, low, near)
        ]
      ]

-- ---- as a keyval

abbrev keyval_tests : Profile → List Part → Value → Document → Bool → Bool → Bool → Option EditFault
keyval_tests profile path v s node indexed table =
    first_that_holds (
    (not node && indexed, fault.NotFound)
    ∷ (node, fault.Exists)
    ∷ (not table, fault.NotTable)
    ∷ (is_too_deep limit path v (mentions_in s), fault.TooDeep)
    ∷ (is_foreign profile v, fault.Profile) ∷ [])

keyval_refusal : (profile : Profile) (path : List Part) (v : Value) (s : Document)
    → item_number path (mentions_in s) ≡ None
    → refusal profile limit s (insert path v)
    ≡ keyval_tests profile path v s (is_node path (mentions_in s))
    (list_any is_index (drop (length (holder path (mentions_in s))) path))
    (is_table (holder path (mentions_in s)) (mentions_in s))
keyval_refusal profile path v s none = rw (none, refusal_by) refl

keyval_spot_of : (path : List Part) (s : Document) (i : Insertion) → item_number path (mentions_in s) ≡ None
    → IsKeyvalSpot (holder path (mentions_in s)) s i.from i.spot → IsSpotOf path s i
keyval_spot_of path s i none there =
    subst (SpotBy path s i) (sym none) there

module _ (path : List Part) (s : Document) (none : item_number path (mentions_in s) ≡ None) where
  pub exists_there : is_node path (mentions_in s) ≡ true → IsAimed path s (Err fault.Exists)
  exists_there node =
      λ profile v. keyval_refusal profile path v s none ∙ by profile v (is_node path (mentions_in s)) node
    where
      by : (profile : Profile) (v : Value) (b : Bool) → b ≡ true
          → keyval_tests profile path v s b (list_any is_index (drop (length (holder path (mentions_in s))) path))
          (is_table (holder path (mentions_in s)) (mentions_in s)) ≡ Some fault.Exists
      by profile v true e = refl
      by profile v false e = absurd cc

  module _ (h : Holder) (held : IsHolder path s h) (unnamed : is_node path (mentions_in s) ≡ false) where
    long : length (holder path (mentions_in s)) ≡ h.len
    long = ap length held.prefix ∙ length-take-le h.len path held.walk.within

    indexed : (b : Bool) → list_any is_index (drop h.len path) ≡ b
        → list_any is_index (drop (length (holder path (mentions_in s))) path) ≡ b
    indexed b e = ap (λ (k : ℕ). list_any is_index (drop k path)) long ∙ e

    tests : (profile : Profile) (v : Value) (b c : Bool) → list_any is_index (drop h.len path) ≡ b
        → is_table (holder path (mentions_in s)) (mentions_in s) ≡ c
        → refusal profile limit s (insert path v) ≡ keyval_tests profile path v s false b c
    tests profile v b c e t =
        keyval_refusal profile path v s none
        ∙ ap (λ (x : Bool).
        keyval_tests profile path v s x (list_any is_index (drop (length (holder path (mentions_in s))) path))
        (is_table (holder path (mentions_in s)) (mentions_in s))) unnamed
        ∙ ap (λ (x : Bool).
        keyval_tests profile path v s false x (is_table (holder path (mentions_in s)) (mentions_in s))) (indexed b e)
        ∙ ap (keyval_tests profile path v s false b) t

    pub no_index_there : true ≡ list_any is_index (drop h.len path) → IsAimed path s (Err fault.NotFound)
    no_index_there e =
        λ profile v. tests profile v true (is_table (holder path (mentions_in s)) (mentions_in s)) (sym e) refl

    pub keyval_aimed : (spot : Spot) → false ≡ list_any is_index (drop h.len path)
        → IsKeyvalAimed (holder path (mentions_in s)) s h.base (Ok spot)
        → IsAimed path s (Ok (record { spot = spot; from = h.base }))
    keyval_aimed spot e (table, there) = (
      λ profile v. tests profile v false true (sym e) table,
      keyval_spot_of path s (record { spot = spot; from = h.base }) none there,
    )

    pub keyval_unaimed : (f : EditFault) → false ≡ list_any is_index (drop h.len path)
        → IsKeyvalAimed (holder path (mentions_in s)) s h.base (Err f) → IsAimed path s (Err f)
    keyval_unaimed f e (is, no_table) = λ profile v. tests profile v false false (sym e) no_table ∙ ap Some (sym is)
