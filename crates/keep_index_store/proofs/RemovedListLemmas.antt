-- A list without one element, and the numbers of the others then.
--
-- An element before that place has the same number then, and each after it has the number before its own
-- (`earlier_number`). So what is at a number then is what was at the number to which `later_number` leads
-- (`read_removed`), and no number leads to the place (`has_later`). For any other element the two lead back and forth
-- (`has_earlier`, `earlier_later`), so each is found at its new number (`read_earlier`). It is the same to change each
-- element before or after (`map-removed`). Putting an element in and taking it out again, or the other way round,
-- changes nothing (`removed_back`, `inserted_back`).
--
-- Theorems: `read_removed`: what is at a number then; `read_earlier`: where each other element is then; `map-removed`:
-- each element is changed before or after.
use Rattle.std.proofs.Common.{◌≡◌, ℕ, suc, ◌+◌, ◌-◌, ◌<◌, ◌≤◌, List, [], ◌∷◌, ◌++◌, length, get_or, take, drop, map}
use Rattle.std.proofs.Common.{refl, sym, ◌∙◌, ap, arith, length-append, inl, inr, cond, Bool}
use Rattle.std.specs.Prelude.{◌≢◌, AllPairs}
use Rattle.std.specs.List.{insert, remove}
use Rattle.std.proofs.lemmas.List.{drop-map, drop_at, get_or_append_left, get_or-append_right, length-take-le}
use Rattle.std.proofs.lemmas.List.{map-append, take-append-drop, take-map, take_at}
use Rattle.std.proofs.lemmas.List.Edits.{get_or-remove_above, get_or-remove_below, length-remove, remove-append_right}
use Rattle.std.proofs.lemmas.Bool.{cases_lt, cases_eq, lt-ltb, le-ltb}
use Rattle.std.proofs.Math.Seq.{drop-cons}
use Rattle.keep_path.specs.NodeInfos.{earlier_number, later_number}
use Rattle.keep_index_store.proofs.MovedListLemmas.{later_high, later_low}

-- ---- the numbers

pub earlier_low : (at n : ℕ) → n ≤ at → earlier_number at n ≡ n
earlier_low at n low = ap (λ (b : Bool). cond b (n - 1) n) (le-ltb at n low)

pub earlier_high : (at n : ℕ) → at < n → earlier_number at n ≡ n - 1
earlier_high at n high = ap (λ (b : Bool). cond b (n - 1) n) (lt-ltb at n high)

pub earlier_most : (at n : ℕ) → earlier_number at n ≤ n
earlier_most at n = elim (cases_lt at n) [
  | inl high ↦ omega (arith, earlier_high at n high)
  | inr low ↦ omega (arith, earlier_low at n low)
]

pub earlier_later : (at n : ℕ) → earlier_number at (later_number at n) ≡ n
earlier_later at n = elim (cases_lt n at) [
  | inl low ↦ ap (earlier_number at) (later_low at n low) ∙ earlier_low at n (omega (arith, low))
  | inr high ↦
      ap (earlier_number at) (later_high at n high) ∙ earlier_high at (suc n) (omega (arith, high))
      ∙ (let e : suc n - 1 ≡ n = omega arith in e)
]

-- an element that is not the one at the place
pub record HasEarlier (at n : ℕ) : Type 0 where
  pub back : later_number at (earlier_number at n) ≡ n
  pub low : earlier_number at n ≤ n
  pub near : n ≤ earlier_number at n + 1
  pub below : n < at → earlier_number at n ≡ n
  pub above : at < n → earlier_number at n + 1 ≡ n

pub has_earlier : (at n : ℕ) → (n ≡ at → ⊥) → HasEarlier at n
has_earlier at n other = elim (cases_lt n at) [
  | inl low ↦
      let is : earlier_number at n ≡ n = earlier_low at n (omega (arith, low)) in
      record {
        back = ap (later_number at) is ∙ later_low at n low;
        low = omega (arith, is);
        near = omega (arith, is);
        below = λ _. is;
        above = λ h. absurd (omega (arith, h, low));
      }
  | inr high ↦ elim (cases_eq n at) [
    | inl same ↦ absurd (other same)
    | inr far ↦
        let more : at < n = omega (arith, high, far) in
        let is : earlier_number at n ≡ n - 1 = earlier_high at n more in
        record {
          back =
              ap (later_number at) is ∙ later_high at (n - 1) (omega (arith, more))
              ∙ (let e : suc (n - 1) ≡ n = omega (arith, more) in e);
          low = omega (arith, is);
          near = omega (arith, is, more);
          below = λ h. absurd (omega (arith, h, more));
          above = λ _. omega (arith, is, more);
        }
  ]
]

-- a number then
pub record HasLater (at n : ℕ) : Type 0 where
  pub other : later_number at n ≡ at → ⊥
  pub low : n ≤ later_number at n
  pub near : later_number at n ≤ n + 1
  pub below : n < at → later_number at n ≡ n
  pub above : at ≤ n → later_number at n ≡ n + 1

pub has_later : (at n : ℕ) → HasLater at n
has_later at n = elim (cases_lt n at) [
  | inl low ↦
      let is : later_number at n ≡ n = later_low at n low in
      record {
        other = λ e. absurd (omega (arith, e, is, low));
        low = omega (arith, is);
        near = omega (arith, is);
        below = λ _. is;
        above = λ h. absurd (omega (arith, h, low));
      }
  | inr high ↦
      let is : later_number at n ≡ suc n = later_high at n high in
      record {
        other = λ e. absurd (omega (arith, e, is, high));
        low = omega (arith, is);
        near = omega (arith, is);
        below = λ h. absurd (omega (arith, h, high));
        above = λ _. omega (arith, is);
      }
]

-- ---- the list

pub map-removed : {X Y : Type 0} (f : X → Y) (xs : List X) (at : ℕ) → map f (remove xs at) ≡ remove (map f xs) at
map-removed f xs at =
    map-append f (take at xs) (drop (suc at) xs) ∙ ap (λ ys. ys ++ map f (drop (suc at) xs)) (sym (take-map f at xs))
    ∙ ap (λ ys. take at (map f xs) ++ ys) (sym (drop-map f (suc at) xs))

-- without an element that was put in, and with one that was taken out
pub removed_back : {X : Type 0} (xs : List X) (at : ℕ) (x : X) → at ≤ length xs → remove (insert xs at x) at ≡ xs
removed_back xs at x h =
    let few : length (take at xs) ≡ at = length-take-le at xs h in
    let none : at - at ≡ 0 = omega arith in
    remove-append_right (take at xs) (x ∷ drop at xs) at at few (omega arith)
    ∙ ap (λ n. take at xs ++ remove (x ∷ drop at xs) n) none ∙ take-append-drop at xs

pub inserted_back : {X : Type 0} (xs : List X) (at : ℕ) (d : X) → at < length xs
    → insert (remove xs at) at (get_or xs at d) ≡ xs
inserted_back xs at d h =
    let few : length (take at xs) ≡ at = length-take-le at xs (omega (arith, h)) in
    ap (λ ys. ys ++ get_or xs at d ∷ drop at (remove xs at)) (take_at (take at xs) (drop (suc at) xs) at few)
    ∙ ap (λ ys. take at xs ++ get_or xs at d ∷ ys) (drop_at (take at xs) (drop (suc at) xs) at few)
    ∙ ap (λ ys. take at xs ++ ys) (sym (drop-cons xs at d h)) ∙ take-append-drop at xs

module _ {X : Type 0} (xs : List X) (at : ℕ) (h : at < length xs) where
  pub length-removed : length (remove xs at) + 1 ≡ length xs
  length-removed = length-remove xs at h

  pub read_removed : (j : ℕ) (d : X) → get_or (remove xs at) j d ≡ get_or xs (later_number at j) d
  read_removed j d = elim (cases_lt j at) [
    | inl low ↦ get_or-remove_below xs at d j low h ∙ ap (λ k. get_or xs k d) (sym (later_low at j low))
    | inr high ↦
        get_or-remove_above xs at d j high h
        ∙ ap (λ k. get_or xs k d) (let e : j + 1 ≡ later_number at j = omega (arith, later_high at j high) in e)
  ]

  pub read_earlier : (i : ℕ) (d : X) → (i ≡ at → ⊥) → get_or (remove xs at) (earlier_number at i) d ≡ get_or xs i d
  read_earlier i d other = read_removed (earlier_number at i) d ∙ ap (λ k. get_or xs k d) (has_earlier at i other).back

  pub distinct_removed : AllPairs (λ p q. p ≢ q) xs → AllPairs (λ p q. p ≢ q) (remove xs at)
  distinct_removed apart i j d below low same =
      apart (later_number at i) (later_number at j) d (order i j below) (later_within j low) (sym (read_removed i d)
      ∙ same ∙ read_removed j d)
    where
      later_within : (j : ℕ) → j < length (remove xs at) → later_number at j < length xs
      later_within j low = omega (arith, (has_later at j).near, low, length-removed)

      order : (i j : ℕ) → i < j → later_number at i < later_number at j
      order i j below = elim (cases_lt i at) [
        | inl less ↦ omega (arith, (has_later at i).below less, (has_later at j).low, below)
        | inr more ↦
            omega (arith, (has_later at i).above more, (has_later at j).above (omega (arith, more, below)), below)
      ]

-- a list whose elements a function leaves as they are
pub map_fixed : {X : Type 0} (f : X → X) (xs : List X) (d : X)
    → ((j : ℕ) → j < length xs → f (get_or xs j d) ≡ get_or xs j d) → map f xs ≡ xs
map_fixed f [] d same = refl
map_fixed f (x ∷ xs) d same =
    let one : f x ≡ x = same 0 (omega arith) in
    let more : map f xs ≡ xs = map_fixed f xs d (λ j h. same (suc j) (omega (arith, h))) in
    cc

-- the element between those that are less and those that are greater
pub removed_between : (low high : List ℕ) (x n : ℕ) → ((k : ℕ) → k < length low → get_or low k 0 < x)
    → ((k : ℕ) → k < length high → x < get_or high k 0)
    → n < length (low ++ x ∷ high) → get_or (low ++ x ∷ high) n 0 ≡ x → remove (low ++ x ∷ high) n ≡ low ++ high
removed_between low high x n lows highs within is =
    let all : length (low ++ x ∷ high) ≡ length low + length high + 1 = omega (arith, length-append low (x ∷ high)) in
    let place : n ≡ length low = elim (cases_lt n (length low)) [
      | inl less ↦ absurd (omega (arith, is, lows n less, get_or_append_left low (x ∷ high) 0 n less))
      | inr more ↦ elim (cases_eq n (length low)) [
        | inl same ↦ same
        | inr far ↦
            let past : length low < n = omega (arith, more, far) in
            let k : ℕ = n - length low - 1 in
            let next : n - length low ≡ suc k = omega (arith, past) in
            let own : get_or (low ++ x ∷ high) n 0 ≡ get_or high k 0 =
            get_or-append_right low (x ∷ high) (length low) n 0 refl more ∙ ap (λ m. get_or (x ∷ high) m 0) next in
            absurd (omega (arith, is, own, highs k (omega (arith, within, all, past))))
      ]
    ] in
    let none : n - length low ≡ 0 = omega (arith, place) in
    remove-append_right low (x ∷ high) (length low) n refl (omega (arith, place))
    ∙ ap (λ m. low ++ remove (x ∷ high) m) none
