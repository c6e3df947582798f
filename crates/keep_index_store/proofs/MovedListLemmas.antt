-- A list whose last element is moved to an earlier place, and the numbers of its elements then.
--
-- An element before the place keeps its number, the last one has the place's, and each other the next (`moved_number`).
-- So what is at a number then is what was at the number that leads there, and a loop that changes each element where it
-- is may be read off element by element.
--
-- Theorems: `from`: which element is at a place then; `read_moved`: where an element is then; `partly_count`: in such a
-- loop the length stays.
use Rattle.std.proofs.Common.{◌≡◌, ℕ, suc, ◌+◌, ◌-◌, ◌<◌, ◌≤◌, List, [], ◌∷◌, ◌++◌, length, get_or, take, drop, map}
use Rattle.std.proofs.Common.{refl, sym, ◌∙◌, ap, arith, length-append, inl, inr, cond, Bool}
use Rattle.std.specs.Prelude.{◌≢◌, AllPairs}
use Rattle.std.specs.List.{insert}
use Rattle.std.proofs.lemmas.List.{append-nil, drop_all, get_or-append_right, get_or-drop, get_or_push, get_or-take}
use Rattle.std.proofs.lemmas.List.{length-drop, length-map, take_all, length-take-le, map-append, take_at, take-map}
use Rattle.std.proofs.lemmas.List.{drop-map, get_or_default}
use Rattle.std.proofs.lemmas.List.Edits.{length-insert, get_or-insert_below, get_or-insert_at, get_or-insert_above}
use Rattle.std.proofs.lemmas.Bool.{cases_lt, cases_eq, lt-ltb, le-ltb, eq-eqb, ne_eqb}
use Rattle.keep_path.specs.NodeInfos.{later_number}
use Rattle.keep_index_store.specs.Moved.{with_last_at, moved_number}

-- ---- the numbers

pub later_low : (at n : ℕ) → n < at → later_number at n ≡ n
later_low at n low = ap (λ (b : Bool). cond b n (suc n)) (lt-ltb n at low)

pub later_high : (at n : ℕ) → at ≤ n → later_number at n ≡ suc n
later_high at n high = ap (λ (b : Bool). cond b n (suc n)) (le-ltb n at high)

pub moved_last : (last at n : ℕ) → n ≡ last → moved_number last at n ≡ at
moved_last last at n is = ap (λ (b : Bool). cond b at (later_number at n)) (eq-eqb n last is)

pub moved_other : (last at n : ℕ) → (n ≡ last → ⊥) → moved_number last at n ≡ later_number at n
moved_other last at n other = ap (λ (b : Bool). cond b at (later_number at n)) (ne_eqb n last other)

pub moved_before : (last at n : ℕ) → n < at → at ≤ last → moved_number last at n ≡ n
moved_before last at n low order =
    moved_other last at n (λ same. absurd (omega (arith, low, order, same))) ∙ later_low at n low

pub moved_late : (last at n : ℕ) → at ≤ n → at ≤ moved_number last at n
moved_late last at n late = elim (cases_eq n last) [
  | inl same ↦ omega (arith, moved_last last at n same)
  | inr other ↦ omega (arith, late, moved_other last at n other, later_high at n late)
]

pub later_most : (at n : ℕ) → later_number at n ≤ n + 1
later_most at n = elim (cases_lt n at) [
  | inl below ↦ omega (arith, later_low at n below)
  | inr above ↦ omega (arith, later_high at n above)
]

pub moved_most : (last at n : ℕ) → at ≤ last → moved_number last at n ≤ n + 1
moved_most last at n order = elim (cases_eq n last) [
  | inl same ↦ omega (arith, order, same, moved_last last at n same)
  | inr other ↦ omega (arith, moved_other last at n other, later_most at n)
]

-- each number but `at` is that of a node which was there, and it grew by one at most
pub record IsLater (at j : ℕ) : Type 0 where
  pub was : ℕ
  pub is : later_number at was ≡ j
  pub low : was ≤ j
  pub near : j ≤ was + 1
  pub above : at < j → was < j

pub is_later : (at j : ℕ) → (j ≡ at → ⊥) → IsLater at j
is_later at j other = elim (cases_lt j at) [
  | inl below ↦
      record {
        was = j;
        is = later_low at j below;
        low = omega arith;
        near = omega arith;
        above = λ h. absurd (omega arith);
      }
  | inr above ↦ elim (cases_eq j at) [
    | inl same ↦ absurd (other same)
    | inr far ↦
        let more : at < j = omega (arith, above, far) in
        record {
          was = j - 1;
          is = later_high at (j - 1) (omega (arith, more))
              ∙ (let e : suc (j - 1) ≡ j = omega (arith, more) in e);
          low = omega arith;
          near = omega (arith, more);
          above = λ h. omega (arith, more);
        }
  ]
]

-- ---- a last element

pub record EndsIn {X : Type 0} (xs : List X) : Type 0 where
  pub front : List X
  pub last : X
  pub is : xs ≡ front ++ last ∷ []

pub ends_in : {X : Type 0} (xs : List X) → 0 < length xs → EndsIn xs
ends_in [] h = absurd (omega arith)
ends_in (x ∷ []) h = record { front = []; last = x; is = refl }
ends_in (x ∷ y ∷ ys) h =
    let r = ends_in (y ∷ ys) (omega arith) in record { front = x ∷ r.front; last = r.last; is = ap (λ zs. x ∷ zs) r.is }

pub last_inserted : {X : Type 0} (none : X) (xs : List X) (x : X) (at : ℕ)
    → with_last_at none (xs ++ x ∷ []) at ≡ insert xs at x
last_inserted none xs x at =
    let n : ℕ = length (xs ++ x ∷ []) - 1 in
    let many : length xs ≡ n = omega (arith, length-append xs (x ∷ [])) in
    ap (λ ys. insert ys at (get_or (xs ++ x ∷ []) n none)) (take_at xs (x ∷ []) n many)
    ∙ ap (insert xs at) (get_or_push xs x none n many)

pub map-inserted : {X Y : Type 0} (f : X → Y) (xs : List X) (at : ℕ) (x : X)
    → map f (insert xs at x) ≡ insert (map f xs) at (f x)
map-inserted f xs at x =
    map-append f (take at xs) (x ∷ drop at xs) ∙ ap (λ ys. ys ++ f x ∷ map f (drop at xs)) (sym (take-map f at xs))
    ∙ ap (λ ys. take at (map f xs) ++ f x ∷ ys) (sym (drop-map f at xs))

pub map-last : {X Y : Type 0} (f : X → Y) (none : X) (none' : Y) (xs : List X) (at : ℕ) → 0 < length xs
    → map f (with_last_at none xs at) ≡ with_last_at none' (map f xs) at
map-last f none none' xs at some =
    let r = ends_in xs some in
    ap (λ ys. map f (with_last_at none ys at)) r.is ∙ ap (map f) (last_inserted none r.front r.last at)
    ∙ map-inserted f r.front at r.last
    ∙ sym (ap (λ ys. with_last_at none' ys at) (ap (map f) r.is ∙ map-append f r.front (r.last ∷ []))
    ∙ last_inserted none' (map f r.front) (f r.last) at)

pub length-last : {X : Type 0} (none : X) (xs : List X) (at : ℕ) → at < length xs
    → length (with_last_at none xs at) ≡ length xs
length-last none xs at h =
    let n : ℕ = length xs - 1 in
    let many : length (take n xs) ≡ n = length-take-le n xs (omega arith) in
    omega (arith, many, length-insert (take n xs) at (get_or xs n none) (omega (arith, many)))

-- ---- the elements then

module _ {X : Type 0} (none : X) (xs : List X) (at : ℕ) (h : at < length xs) where
  pub read_last : (d : X) → get_or (with_last_at none xs at) at d ≡ get_or xs (length xs - 1) d
  read_last d =
      let n : ℕ = length xs - 1 in
      let many : length (take n xs) ≡ n = length-take-le n xs (omega arith) in
      get_or-insert_at (take n xs) at (get_or xs n none) d (omega (arith, many))
      ∙ get_or_default xs n none d (omega arith)

  pub read_other : (k : ℕ) (d : X) → k < length xs - 1
      → get_or (with_last_at none xs at) (later_number at k) d ≡ get_or xs k d
  read_other k d low =
      let n : ℕ = length xs - 1 in
      let x : X = get_or xs n none in
      let many : length (take n xs) ≡ n = length-take-le n xs (omega arith) in
      let own : get_or (take n xs) k d ≡ get_or xs k d = get_or-take n xs k d low in
      elim (cases_lt k at) [
        | inl below ↦ ap (λ j. get_or (insert (take n xs) at x) j d) (later_low at k below)
            ∙ get_or-insert_below (take n xs) at x d k below (omega (arith, many)) ∙ own
        | inr above ↦
            ap (λ j. get_or (insert (take n xs) at x) j d)
            (later_high at k above ∙ (let e : suc k ≡ k + 1 = omega arith in e))
            ∙ get_or-insert_above (take n xs) at x d k above (omega (arith, many)) ∙ own
      ]

  -- which element is at that place
  pub record IsFrom (j : ℕ) : Type 0 where
    pub was : ℕ
    pub within : was < length xs
    pub read : (d : X) → get_or (with_last_at none xs at) j d ≡ get_or xs was d
    pub moved : moved_number (length xs - 1) at was ≡ j

  pub from : (j : ℕ) → j < length xs → IsFrom j
  from j low = elim (cases_eq j at) [
    | inl same ↦ record {
      was = length xs - 1;
      within = omega arith;
      read = λ d. ap (λ k. get_or (with_last_at none xs at) k d) same ∙ read_last d;
      moved = moved_last (length xs - 1) at (length xs - 1) refl ∙ sym same;
    }
    | inr other ↦
        let r = is_later at j other in
        let before : r.was < length xs - 1 = was_before j r.was low r.low r.above other in
        record {
          was = r.was;
          within = omega (arith, before);
          read = λ d. ap (λ k. get_or (with_last_at none xs at) k d) (sym r.is) ∙ read_other r.was d before;
          moved = moved_other (length xs - 1) at r.was (λ e. absurd (omega (arith, e, before))) ∙ r.is;
        }
  ]
    where
      was_before : (j was : ℕ) → j < length xs → was ≤ j → (at < j → was < j) → (j ≡ at → ⊥) → was < length xs - 1
      was_before j was low near above other = elim (cases_lt j at) [
        | inl below ↦ omega (arith, below, near, h)
        | inr not ↦ elim (cases_eq j at) [
          | inl same ↦ absurd (other same)
          | inr far ↦ let more : was < j = above (omega (arith, not, far)) in omega (arith, more, low)
        ]
      ]

  pub distinct_last : AllPairs (λ p q. p ≢ q) xs → AllPairs (λ p q. p ≢ q) (with_last_at none xs at)
  distinct_last apart i j d below low same =
      let many : length (with_last_at none xs at) ≡ length xs = length-last none xs at h in
      let r = from i (omega (arith, low, many)) in
      let s = from j (omega (arith, low, many)) in
      let one : get_or xs r.was d ≡ get_or xs s.was d = sym (r.read d) ∙ same ∙ s.read d in
      elim (cases_lt r.was s.was) [
        | inl less ↦ apart r.was s.was d less s.within one
        | inr more ↦ elim (cases_eq s.was r.was) [
          | inl equal ↦
              absurd (omega (arith, below, sym r.moved ∙ ap (moved_number (length xs - 1) at) (sym equal) ∙ s.moved))
          | inr unequal ↦ apart s.was r.was d (omega (arith, more, unequal)) r.within (sym one)
        ]
      ]

-- ---- a loop that changes each element

module _ {X : Type 0} (f : X → X) (xs ys : List X) (i : ℕ) (is : ys ≡ map f (take i xs) ++ drop i xs) where
  pub partly_count : i ≤ length xs → length ys ≡ length xs
  partly_count h =
      omega (
        arith,
        ap length is,
        length-append (map f (take i xs)) (drop i xs),
        length-map (take i xs) f,
        length-take-le i xs h,
        length-drop i xs,
      )

  pub partly_at : (d : X) → i < length xs → get_or ys i d ≡ get_or xs i d
  partly_at d h =
      let few : length (map f (take i xs)) ≡ i = length-map (take i xs) f ∙ length-take-le i xs (omega arith) in
      ap (λ zs. get_or zs i d) is ∙ get_or-append_right (map f (take i xs)) (drop i xs) i i d few (omega arith)
      ∙ get_or-drop i xs (i - i) d ∙ ap (λ k. get_or xs k d) (let k : i + (i - i) ≡ i = omega arith in k)

  pub partly_all : length xs ≤ i → ys ≡ map f xs
  partly_all h =
      is ∙ ap (λ zs. map f zs ++ drop i xs) (take_all i xs h) ∙ ap (λ zs. map f xs ++ zs) (drop_all i xs h)
      ∙ append-nil (map f xs)

-- each element where it then is
pub read_moved : {X : Type 0} (none : X) (xs : List X) (at i : ℕ) (d : X) → at < length xs → i < length xs
    → get_or (with_last_at none xs at) (moved_number (length xs - 1) at i) d ≡ get_or xs i d
read_moved none xs at i d h low = elim (cases_eq i (length xs - 1)) [
  | inl same ↦ ap (λ k. get_or (with_last_at none xs at) k d) (moved_last (length xs - 1) at i same)
      ∙ read_last none xs at h d ∙ ap (λ k. get_or xs k d) (sym same)
  | inr other ↦ ap (λ k. get_or (with_last_at none xs at) k d) (moved_other (length xs - 1) at i other)
      ∙ read_other none xs at h i d (omega (arith, low, other))
]
