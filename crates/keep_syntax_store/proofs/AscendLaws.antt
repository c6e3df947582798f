-- Parts of ascending places ascend, as do such places joined or moved; and if the first of them are all before a place,
-- it is looked up among the others.
--
-- Theorems: `ascend_take`: the first of ascending places ascend; `ascend_drop`: those after them ascend from the last
-- of the first; `ascend_join`: places that ascend from the last of others, joined to these, ascend.
use Rattle.std.proofs.Common.{◌≡◌, ℕ, zero, suc, ◌+◌, ◌<◌, ◌≤◌, ◌^◌, List, [], ◌∷◌, ◌++◌, length, map, take, drop, refl}
use Rattle.std.proofs.Common.{sym, ap, ◌∙◌, arith, lt-ltb}
use Rattle.std.specs.Prelude.{ltb, leb}
use Rattle.std.proofs.lemmas.List.{take_all}
use Rattle.std.proofs.lemmas.Bool.{le-leb, lt-leb}
use Rattle.keep_syntax_store.specs.Starts.{last_of, AllSmall, Ascend, Before, first_from, last_to}
use Rattle.keep_syntax_store.specs.Lifted.{moved}
use Rattle.keep_syntax_store.specs.Rereading.{places_before}
use Rattle.keep_syntax_store.proofs.TestLaws.{if_true, if_false}

-- ---- parts

pub ascend_drop : (low : ℕ) (xs : List ℕ) (n : ℕ) → Ascend low xs → Ascend (last_of low (take n xs)) (drop n xs)
ascend_drop low xs zero h = h
ascend_drop low [] (suc n) h = tt
ascend_drop low (x ∷ xs) (suc n) h = ascend_drop x xs n h.1

pub ascend_take : (low : ℕ) (xs : List ℕ) (n : ℕ) → Ascend low xs → Ascend low (take n xs)
ascend_take low xs zero h = tt
ascend_take low [] (suc n) h = tt
ascend_take low (x ∷ xs) (suc n) h = (h.0, ascend_take x xs n h.1)

pub ascend_join : (low : ℕ) (xs ys : List ℕ) → Ascend low xs → Ascend (last_of low xs) ys → Ascend low (xs ++ ys)
ascend_join low [] ys h k = k
ascend_join low (x ∷ xs) ys h k = (h.0, ascend_join x xs ys h.1 k)

-- ---- the last

pub ascend_last : (low : ℕ) (xs : List ℕ) → Ascend low xs → low ≤ last_of low xs
ascend_last low [] h = omega arith
ascend_last low (x ∷ xs) h = omega (arith, h.0, ascend_last x xs h.1)

-- none is greater than the last
pub small_by_last : (low : ℕ) (xs : List ℕ) → Ascend low xs → last_of low xs < 2 ^ 64 → AllSmall xs
small_by_last low [] h le k = omega arith
small_by_last low (x ∷ xs) h le zero = omega (arith, le, ascend_last x xs h.1)
small_by_last low (x ∷ xs) h le (suc k) = small_by_last x xs h.1 le k

pub before_by_last : (place low : ℕ) (xs : List ℕ) → Ascend low xs → last_of low xs < place → Before place xs
before_by_last place low [] h le = tt
before_by_last place low (x ∷ xs) h le = (omega (arith, le, ascend_last x xs h.1), before_by_last place x xs h.1 le)

pub last_part : (low : ℕ) (xs : List ℕ) (n m : ℕ)
    → last_of low (take (n + m) xs) ≡ last_of (last_of low (take n xs)) (take m (drop n xs))
last_part low xs zero m = ap (λ (k : ℕ). last_of low (take k xs)) (omega arith)
last_part low [] (suc n) m =
    ap (last_of low) (take_all (suc n + m) [] (omega arith)) ∙ sym (ap (last_of low) (take_all m [] (omega arith)))
last_part low (x ∷ xs) (suc n) m =
    ap (λ (k : ℕ). last_of low (take k (x ∷ xs))) (let e : suc n + m ≡ suc (n + m) = omega arith in e)
    ∙ last_part x xs n m

-- ---- moved

pub ascend_moved : (old new low : ℕ) (xs : List ℕ) → old ≤ low → Ascend low xs
    → Ascend (moved old new low) (map (moved old new) xs)
ascend_moved old new low [] after h = tt
ascend_moved old new low (x ∷ xs) after h =
    (omega (arith, after, h.0), ascend_moved old new x xs (omega (arith, after, h.0)) h.1)

pub last_moved : (old new low : ℕ) (xs : List ℕ)
    → last_of (moved old new low) (map (moved old new) xs) ≡ moved old new (last_of low xs)
last_moved old new low [] = refl
last_moved old new low (x ∷ xs) = last_moved old new x xs

-- ---- looked up after a number up to which all are before a place

pub count_after : (place : ℕ) (xs : List ℕ) (n : ℕ) → n ≤ length xs → Before place (take n xs)
    → places_before place xs ≡ n + places_before place (drop n xs)
count_after place xs zero le h = omega arith
count_after place [] (suc n) le h = absurd (omega (arith, le))
count_after place (x ∷ xs) (suc n) le h =
    if_true (ltb x place) _ _ (lt-ltb x place h.0) ∙ ap suc (count_after place xs n (omega (arith, le)) h.1)
    ∙ omega arith

pub last_after_number : (place low : ℕ) (xs : List ℕ) (n : ℕ) → Before place (take n xs)
    → last_to place low xs ≡ last_to place (last_of low (take n xs)) (drop n xs)
last_after_number place low xs zero h = refl
last_after_number place low [] (suc n) h = refl
last_after_number place low (x ∷ xs) (suc n) h =
    if_true (leb x place) _ _ (le-leb x place (omega (arith, h.0))) ∙ last_after_number place x xs n h.1

pub first_after_number : (place high : ℕ) (xs : List ℕ) (n : ℕ) → Before place (take n xs)
    → first_from place high xs ≡ first_from place high (drop n xs)
first_after_number place high xs zero h = refl
first_after_number place high [] (suc n) h = refl
first_after_number place high (x ∷ xs) (suc n) h =
    if_false (leb place x) _ _ (lt-leb place x h.0) ∙ first_after_number place high xs n h.1

-- without a place before it, the last is the one that was there
pub last_of_some : (a b : ℕ) (xs : List ℕ) (n : ℕ) → n ≤ length xs → (n ≡ 0 → ⊥)
    → last_of a (take n xs) ≡ last_of b (take n xs)
last_of_some a b xs zero le some = absurd (some refl)
last_of_some a b [] (suc n) le some = absurd (omega (arith, le))
last_of_some a b (x ∷ xs) (suc n) le some = refl
