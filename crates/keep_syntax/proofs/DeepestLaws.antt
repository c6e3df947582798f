-- The most brackets that are open in a value and in those inside it are its depth.
--
-- Theorems: `deepest_alone`: a value alone; `deepest_iteration`: the most in a list of values, with one more.
use Rattle.std.proofs.Common.{◌≡◌, ℕ, zero, suc, ◌+◌, max, Bool, false, IsTrue, cond, List, [], ◌∷◌, ◌++◌, take}
use Rattle.std.proofs.Common.{slice_get, Some, None, refl, ap, ◌∙◌, subst, arith, add-one}
use Rattle.std.specs.List.{AllByRecursion}
use Rattle.keep_types.specs.declared.leaf.Profile.{Profile}
use Rattle.keep_types.specs.declared.leaf.Leaf.{Leaf}
use Rattle.keep_types.specs.declared.leaf.Leaf.TheVariants as leaf
use Rattle.keep_token.specs.Leaves.{is_scalar_leaf}
use Rattle.keep_types.specs.declared.syntax.ValueInfo.{ValueInfo}
use Rattle.keep_types.specs.declared.syntax.Start.{Start}
use Rattle.keep_types.specs.declared.syntax.Owner.TheVariants as owner
use Rattle.keep_syntax.specs.Tree.{Body, scalar, array, inline, Entries, none, entry, Value, around, entries_depth}
use Rattle.keep_syntax.specs.Tree.{value_depth}
use Rattle.keep_syntax.specs.Grammar.{Place, place_in, IsBody, AreEntries, IsValue}
use Rattle.keep_syntax.specs.Deep.{is_opening}
use Rattle.keep_syntax.specs.Numbered.{leaf_of, value_start, name_count, nested_of, rest_of, entries_values}
use Rattle.keep_syntax.specs.Nesting.{open_in, deepest}
use Rattle.keep_syntax.specs.Contract.{values_alone}

-- ---- lists

pub deepest-append : (a b : List ValueInfo) → deepest (a ++ b) ≡ max (deepest a) (deepest b)
deepest-append [] b = omega arith
deepest-append (v ∷ vs) b = omega (arith, deepest-append vs b)

pub all_at : (p : ValueInfo → Type 0) (vs : List ValueInfo) (n : ℕ) (v : ValueInfo) → AllByRecursion p vs
    → slice_get vs n ≡ Some v → p v
all_at p [] n v h e = absurd cc
all_at p (w ∷ vs) zero v h e = let is : w ≡ v = cc in subst p is h.0
all_at p (w ∷ vs) (suc n) v h e = all_at p vs n v h.1 e

-- ---- of a value

-- how many brackets are open in a value with this leaf, its own counted
abbrev pub open_of : Leaf → ℕ → ℕ
open_of l d = cond (is_opening l) (suc d) d

pub closed : (l : Leaf) → IsTrue (is_scalar_leaf l) → is_opening l ≡ false
closed leaf.ArrayOpen h = absurd cc
closed leaf.InlineOpen h = absurd cc
closed _ h = refl

none_values : (p : Start) (es : Entries) → es ≡ none → entries_values p es ≡ []
none_values p es e = ap (entries_values p) e

-- a value and those inside it
body_deepest : (profile : Profile) (d : ℕ) (body : Body) (nested : Entries) → IsBody profile body
    → AreEntries profile (place_in body) nested → (vs : List ValueInfo) → (nested ≡ none → vs ≡ [])
    → max (suc d) (deepest vs) ≡ suc d + entries_depth nested
    → max (open_of (leaf_of body) d) (deepest vs) ≡ d + around body (entries_depth nested)
body_deepest profile d (scalar w) none h i vs empty ih =
    let e : open_of w.leaf d ≡ d = ap (λ (b : Bool). cond b (suc d) d) (closed w.leaf h.0) in
    let k : deepest vs ≡ 0 = ap deepest (empty refl) in
    omega (arith, e, k)
body_deepest profile d (scalar w) (entry name body nested after comma rest) h i vs empty ih = absurd i.0
body_deepest profile d (array g) nested h i vs empty ih = omega (arith, ih)
body_deepest profile d (inline g) nested h i vs empty ih = omega (arith, ih)

entries_deepest : (profile : Profile) (es : Entries) (place : Place) (p : Start) → AreEntries profile place es
    → max p.depth (deepest (entries_values p es)) ≡ p.depth + entries_depth es
entries_deepest profile none place p h = omega arith
entries_deepest profile (entry name body nested after comma rest) place p h =
    let q = nested_of p (value_start p.at name) (name_count name) body in
    let r = rest_of p name body nested after comma in
    let own =
    body_deepest profile p.depth body nested h.1 h.2 (entries_values q nested) (none_values q nested)
    (entries_deepest profile nested (place_in body) q h.2) in
    omega (
      arith,
      own,
      entries_deepest profile rest place r h.5,
      deepest-append (entries_values q nested) (entries_values r rest),
    )

-- Of a value alone.
pub deepest_alone : (profile : Profile) (v : Value) → IsValue profile v → deepest (values_alone v) ≡ value_depth v
deepest_alone profile v h =
    let p : Start = record { at = 0; values = 0; parts = 0; owner = owner.Line 0; depth = 0; comma = None } in
    let q = nested_of p 0 0 v.body in
    omega (
      arith,
      body_deepest profile 0 v.body v.nested h.body h.nested (entries_values q v.nested) (none_values q v.nested)
          (entries_deepest profile v.nested (place_in v.body) q h.nested),
    )

-- with one value more
pub deepest_next : (vs : List ValueInfo) (n : ℕ) (v : ValueInfo) → slice_get vs n ≡ Some v
    → deepest (take (suc n) vs) ≡ max (deepest (take n vs)) (open_in v)
deepest_next [] n v e = absurd cc
deepest_next (w ∷ vs) zero v e = let is : w ≡ v = cc in ap (λ (x : ValueInfo). max (open_in x) 0) is ∙ omega arith
deepest_next (w ∷ vs) (suc n) v e = omega (arith, deepest_next vs n v e)

pub deepest_iteration : (vs : List ValueInfo) (n : ℕ) (v : ValueInfo) → slice_get vs n ≡ Some v
    → deepest (take (n + 1) vs) ≡ max (deepest (take n vs)) (open_in v)
deepest_iteration vs n v e = ap (λ (m : ℕ). deepest (take m vs)) (add-one n) ∙ deepest_next vs n v e
