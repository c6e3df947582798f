-- The numbers of nodes, where all from one on are moved: one number, a run of them, and those of a node's children.
--
-- Theorems: `shifted_low`: a number before that one stays; `shifted_high`: one from there on is moved; `run_shifted`: a
-- run that is on one side is moved as its first number is.
use Rattle.std.proofs.Common.{◌≡◌, ℕ, zero, suc, ◌+◌, ◌-◌, ◌<◌, ◌≤◌, ◌^◌, List, ◌∷◌, length, map, Bool, cond}
use Rattle.std.proofs.Common.{refl, sym, ◌∙◌, ap, subst, arith, inl, inr, get_or}
use Rattle.std.specs.Prelude.{◌⊎◌, All}
use Rattle.std.proofs.lemmas.Bool.{cases_lt, lt-ltb, le-ltb}
use Rattle.std.proofs.lemmas.List.{get_or-map, length-map}
use Rattle.keep_index_store.specs.declared.shift.Shift.{Shift}
use Rattle.keep_index_store.specs.Below.{shifted_by, shifted_children}
use Rattle.keep_index_store.specs.Children.{ChildList, Keyed, Listed}
use Rattle.keep_index_store.specs.Moved.{EndsLate, IsApart}
use Rattle.keep_index_store.specs.Replacing.{CanShift, CanShiftChildren}
use Rattle.keep_index_store.specs.Runs.{consecutive}
use Rattle.keep_index_store.proofs.MovedKeyLemmas.{with_value}
use Rattle.keep_index_store.proofs.RunLemmas.{get_or-consecutive, length-consecutive}

-- ---- one number

pub shifted_low : (by : Shift) (n : ℕ) → n < by.from → shifted_by by n ≡ n
shifted_low by n low = ap (λ (b : Bool). cond b n ((n + by.new) - by.old)) (lt-ltb n by.from low)

pub shifted_high : (by : Shift) (n : ℕ) → by.from ≤ n → shifted_by by n ≡ (n + by.new) - by.old
shifted_high by n high = ap (λ (b : Bool). cond b n ((n + by.new) - by.old)) (le-ltb n by.from high)

-- ---- a run

stays : (by : Shift) (first n : ℕ) → All (λ id. id < by.from) (consecutive first n)
    → consecutive first n ≡ map (shifted_by by) (consecutive first n)
stays by first zero low = refl
stays by first (suc n) low =
    let here : first < by.from = low 0 0 (omega arith) in
    ap (λ (k : ℕ). k ∷ consecutive (suc first) n) (sym (shifted_low by first here))
    ∙ ap (λ (ks : List ℕ). shifted_by by first ∷ ks)
    (stays by (suc first) n (λ k d h. low (suc k) d (omega (arith, h))))

moves : (by : Shift) (first next n : ℕ) → All (λ id. by.from ≤ id) (consecutive first n)
    → All (CanShift by) (consecutive first n) → (0 < n → next ≡ shifted_by by first)
    → consecutive next n ≡ map (shifted_by by) (consecutive first n)
moves by first next zero high can is = refl
moves by first next (suc n) high can is =
    let here : by.from ≤ first = high 0 0 (omega arith) in
    let fits : CanShift by first = can 0 0 (omega arith) in
    let own : next ≡ shifted_by by first = is (omega arith) in
    let after : suc next ≡ shifted_by by (suc first) =
    omega (arith, own, shifted_high by first here, shifted_high by (suc first) (omega (arith, here)), fits.1 here) in
    ap (λ (k : ℕ). k ∷ consecutive (suc next) n) own
    ∙ ap (λ (ks : List ℕ). shifted_by by first ∷ ks)
    (moves by (suc first) (suc next) n (λ k d h. high (suc k) d (omega (arith, h)))
    (λ k d h. can (suc k) d (omega (arith, h))) (λ _. after))

-- the numbers of a run are all moved, or none is
module _ (by : Shift) (first n : ℕ) (can : All (CanShift by) (consecutive first n))
    (sides : All (λ id. id < by.from) (consecutive first n) ⊎ All (λ id. by.from ≤ id) (consecutive first n))
    (some : 0 < n) where
  here : 0 < length (consecutive first n)
  here = omega (arith, some, length-consecutive first n)

  own : get_or (consecutive first n) 0 0 ≡ first
  own = get_or-consecutive first n 0 0 some ∙ (let e : first + 0 ≡ first = omega arith in e)

  pub first_can : CanShift by first
  first_can = subst (CanShift by) own (can 0 0 here)

  pub run_shifted : consecutive (shifted_by by first) n ≡ map (shifted_by by) (consecutive first n)
  run_shifted = elim sides [
    | inl low ↦
        let below : first < by.from = omega (arith, own, low 0 0 here) in
        ap (λ (k : ℕ). consecutive k n) (shifted_low by first below) ∙ stays by first n low
    | inr high ↦ moves by first (shifted_by by first) n high can (λ _. refl)
  ]

  pub run_fits : first + n ≤ 2 ^ 64 → shifted_by by first + n ≤ 2 ^ 64
  run_fits fits = elim sides [
    | inl low ↦
        let below : first < by.from = omega (arith, own, low 0 0 here) in
        omega (arith, shifted_low by first below, fits)
    | inr high ↦
        let above : by.from ≤ first = omega (arith, own, high 0 0 here) in
        let last = can (n - 1) 0 (omega (arith, some, length-consecutive first n)) in
        omega (
          arith,
          shifted_high by first above,
          last.0,
          get_or-consecutive first n (n - 1) 0 (omega (arith, some)),
          some,
        )
  ]

-- ---- what the children of a node are, by their form

pub run_can : (by : Shift) (c : ChildList) (first n : ℕ) → CanShiftChildren by c → c ≡ Listed (consecutive first n)
    → All (CanShift by) (consecutive first n)
run_can by c first n can is =
    let can' : CanShiftChildren by (Listed (consecutive first n)) = subst (CanShiftChildren by) is can in
    can'.fit

-- a run with no two items round a number is on one side of it
on_sides : (from first n : ℕ) → IsApart from (consecutive first n)
    → All (λ id. id < from) (consecutive first n) ⊎ All (λ id. from ≤ id) (consecutive first n)
on_sides from first n apart = elim (cases_lt first from) [
  | inr high ↦ inr (λ k d low.
      omega (arith, high, get_or-consecutive first n k d (omega (arith, low, length-consecutive first n))))
  | inl below ↦ elim (cases_lt from (first + n)) [
    | inr low ↦ inl (λ k d h.
        let k_low : k < n = omega (arith, h, length-consecutive first n) in
        omega (arith, low, k_low, get_or-consecutive first n k d k_low))
    | inl across ↦
        let k : ℕ = from - first - 1 in
        absurd (apart k (omega (arith, below, across, length-consecutive first n))
        (ap (λ (m : ℕ). m + 1) (get_or-consecutive first n k 0 (omega (arith, below, across)))
        ∙ (let e : first + k + 1 ≡ from = omega (arith, below) in e))
        (get_or-consecutive first n (k + 1) 0 (omega (arith, below, across))
        ∙ (let e : first + (k + 1) ≡ from = omega (arith, below) in e)))
  ]
]

pub run_sides : (by : Shift) (c : ChildList) (first n : ℕ) → CanShiftChildren by c → c ≡ Listed (consecutive first n)
    → All (λ id. id < by.from) (consecutive first n) ⊎ All (λ id. by.from ≤ id) (consecutive first n)
run_sides by c first n can is =
    let can' : CanShiftChildren by (Listed (consecutive first n)) = subst (CanShiftChildren by) is can in
    on_sides by.from first n (can'.sides refl)

pub items_can : (by : Shift) (c : ChildList) (ids : List ℕ) → CanShiftChildren by c → c ≡ Listed ids
    → All (CanShift by) ids
items_can by c ids can is =
    let can' : CanShiftChildren by (Listed ids) = subst (CanShiftChildren by) is can in
    can'.fit

pub keys_end : (by : Shift) (c : ChildList) (pairs : List (List ℕ × ℕ)) → CanShiftChildren by c → c ≡ Keyed pairs
    → EndsLate by.from (map (λ e. e.1) pairs)
keys_end by c pairs can is =
    let can' : CanShiftChildren by (Keyed pairs) = subst (CanShiftChildren by) is can in
    can'.ends

pub keys_can : (by : Shift) (c : ChildList) (pairs : List (List ℕ × ℕ)) → CanShiftChildren by c → c ≡ Keyed pairs
    → All (λ e. CanShift by e.1) pairs
keys_can by c pairs can is k d h =
    let can' : CanShiftChildren by (Keyed pairs) = subst (CanShiftChildren by) is can in
    let second : List ℕ × ℕ → ℕ = λ e. e.1 in
    subst (CanShift by) (get_or-map second pairs k d 0 h) (can'.fit k 0 (omega (arith, h, length-map pairs second)))

pub keys_shifted : (by : Shift) (c : ChildList) (pairs next : List (List ℕ × ℕ)) → c ≡ Keyed pairs
    → next ≡ map (with_value (shifted_by by)) pairs → Keyed next ≡ shifted_children by c
keys_shifted by c pairs next is new = ap Keyed new ∙ ap (shifted_children by) (sym is)

pub items_shifted : (by : Shift) (c : ChildList) (ids next : List ℕ) → c ≡ Listed ids
    → next ≡ map (shifted_by by) ids → Listed next ≡ shifted_children by c
items_shifted by c ids next is new = ap Listed new ∙ ap (shifted_children by) (sym is)
