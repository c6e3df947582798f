-- An iterator over places that gives more of them is past so many more, and what is stored of those it gives is the
-- range of the places up to there.
--
-- Theorems: `past_more`: once it gives some more it is past these too; `stored_further`: what is stored of a range, and
-- of some more, is that of a longer range; `last_from`: the last place up to another is sought among those that are
-- left, from the last one that was given.
use Rattle.std.proofs.Common.{◌≡◌, ℕ, zero, suc, ◌+◌, ◌-◌, ◌<◌, ◌≤◌, List, [], ◌∷◌, ◌++◌, length, map, take, drop, refl}
use Rattle.std.proofs.Common.{sym, ap, ◌∙◌, subst, arith, append_assoc}
use Rattle.std.specs.Prelude.{slice_range}
use Rattle.std.proofs.lemmas.List.{drop-drop, length-drop, map-append, take_all}
use Rattle.keep_syntax_store.specs.declared.starts.Places.{Places}
use Rattle.keep_syntax_store.specs.Starts.{last_of, Ascend, Before, last_to}
use Rattle.keep_syntax_store.specs.Left.{places_left, IsPast}
use Rattle.keep_syntax_store.proofs.AscendLaws.{ascend_drop, ascend_take, before_by_last, last_part, last_after_number}
use Rattle.keep_syntax_store.proofs.AscendLaws.{last_of_some}

-- some more are given
pub past_more : (xs : List ℕ) (n k m : ℕ) (p q : Places) → IsPast xs n p → places_left q ≡ drop k (places_left p)
    → q.at ≡ last_of p.at (take k (places_left p)) → m ≡ n + k → IsPast xs m q
past_more xs n k m p q past left last is = record {
  left = left ∙ ap (drop k) past.left ∙ drop-drop k n xs ∙ ap (λ (i : ℕ). drop i xs) (sym is);
  last = last ∙ ap (λ (ps : List ℕ). last_of p.at (take k ps)) past.left
      ∙ ap (λ (low : ℕ). last_of low (take k (drop n xs))) past.last ∙ sym (last_part 0 xs n k)
      ∙ ap (λ (i : ℕ). last_of 0 (take i xs)) (sym is);
}

pub past_ascends : (xs : List ℕ) (n : ℕ) (p : Places) → Ascend 0 xs → IsPast xs n p → Ascend p.at (places_left p)
past_ascends xs n p ascends past =
    subst (Ascend p.at) (sym past.left)
    (subst (λ (low : ℕ). Ascend low (drop n xs)) (sym past.last) (ascend_drop 0 xs n ascends))

-- the last of those from one number to another
pub past_last : (xs : List ℕ) (n m : ℕ) (p q : Places) → IsPast xs n p → IsPast xs m q → n ≤ m
    → q.at ≡ last_of p.at (take (m - n) (places_left p))
past_last xs n m p q past also order =
    also.last ∙ ap (λ (i : ℕ). last_of 0 (take i xs)) (let e : m ≡ n + (m - n) = omega (arith, order) in e)
    ∙ last_part 0 xs n (m - n)
    ∙ ap (λ (low : ℕ). last_of low (take (m - n) (drop n xs))) (sym past.last)
    ∙ ap (λ (ps : List ℕ). last_of p.at (take (m - n) ps)) (sym past.left)

-- all that were given are before what the last is before
pub past_before : (xs : List ℕ) (n place : ℕ) (p : Places) → Ascend 0 xs → IsPast xs n p → p.at < place
    → Before place (take n xs)
past_before xs n place p ascends past before =
    before_by_last place 0 (take n xs) (ascend_take 0 xs n ascends) (subst (λ (at : ℕ). at < place) past.last before)

-- ---- a range of a list, and some more of it

pub take_sum : (xs : List ℕ) (n m : ℕ) → take (n + m) xs ≡ take n xs ++ take m (drop n xs)
take_sum xs zero m = ap (λ (k : ℕ). take k xs) (omega arith)
take_sum [] (suc n) m = take_all (suc n + m) [] (omega arith) ∙ sym (take_all m [] (omega arith))
take_sum (x ∷ xs) (suc n) m =
    ap (λ (k : ℕ). take k (x ∷ xs)) (let e : suc n + m ≡ suc (n + m) = omega arith in e)
    ∙ ap (λ (ys : List ℕ). x ∷ ys) (take_sum xs n m)

range_further : (xs : List ℕ) (from n m : ℕ) → from ≤ n → n ≤ m
    → slice_range xs from m ≡ slice_range xs from n ++ take (m - n) (drop n xs)
range_further xs from n m begun order =
    ap (λ (k : ℕ). take k (drop from xs)) (let e : m - from ≡ n - from + (m - n) = omega (arith, begun, order) in e)
    ∙ take_sum (drop from xs) (n - from) (m - n)
    ∙ ap (λ (ys : List ℕ). slice_range xs from n ++ take (m - n) ys)
    (drop-drop (n - from) from xs
    ∙ ap (λ (k : ℕ). drop k xs) (let e : from + (n - from) ≡ n = omega (arith, begun) in e))

-- a range is its first place, which is the last up to it, and the others
pub range_first : (xs : List ℕ) (from to : ℕ) → from < to → to ≤ length xs
    → slice_range xs from to ≡ last_of 0 (take (from + 1) xs) ∷ slice_range xs (from + 1) to
range_first xs from to order within =
    ap (λ (k : ℕ). take k (drop from xs)) (let e : to - from ≡ suc (to - (from + 1)) = omega (arith, order) in e)
    ∙ by 0 xs from (to - (from + 1)) (omega (arith, order, within))
    ∙ ap (λ (n : ℕ). last_of 0 (take n xs) ∷ take (to - (from + 1)) (drop n xs))
    (let e : suc from ≡ from + 1 = omega arith in e)
  where
    by : (low : ℕ) (ys : List ℕ) (n k : ℕ) → n < length ys
        → take (suc k) (drop n ys) ≡ last_of low (take (suc n) ys) ∷ take k (drop (suc n) ys)
    by low [] n k within = absurd (omega (arith, within))
    by low (y ∷ ys) zero k within = refl
    by low (y ∷ ys) (suc n) k within = by y ys n k (omega (arith, within))

-- no list goes on past its end
pub range_clamped : (xs : List ℕ) (from to : ℕ) → length xs ≤ to
    → slice_range xs from (length xs) ≡ slice_range xs from to
range_clamped xs from to past =
    take_all (length xs - from) (drop from xs) (omega (arith, length-drop from xs))
    ∙ sym (take_all (to - from) (drop from xs) (omega (arith, length-drop from xs, past)))

pub stored_further : (f : ℕ → ℕ) (before so_far more xs left : List ℕ) (from n m : ℕ) → from ≤ n → n ≤ m
    → left ≡ drop n xs → so_far ≡ before ++ map f (slice_range xs from n) → more ≡ so_far ++ map f (take (m - n) left)
    → more ≡ before ++ map f (slice_range xs from m)
stored_further f before so_far more xs left from n m begun order is stored also =
    also ∙ ap (λ (ys : List ℕ). so_far ++ map f (take (m - n) ys)) is
    ∙ ap (λ (ys : List ℕ). ys ++ map f (take (m - n) (drop n xs))) stored
    ∙ append_assoc before (map f (slice_range xs from n)) (map f (take (m - n) (drop n xs)))
    ∙ ap (λ (ys : List ℕ). before ++ ys)
    (sym (map-append f (slice_range xs from n) (take (m - n) (drop n xs)))
    ∙ ap (map f) (sym (range_further xs from n m begun order)))

-- a place, and more after it, are the first of a list
pub stored_block : (f : ℕ → ℕ) (before one more all rest some : List ℕ) (at count : ℕ) → 0 < count
    → one ≡ before ++ f at ∷ [] → more ≡ one ++ map f some → some ≡ take (count - 1) rest → all ≡ at ∷ rest
    → more ≡ before ++ map f (take count all)
stored_block f before one more all rest some at count above is also first whole =
    also ∙ ap (λ (ys : List ℕ). ys ++ map f some) is ∙ append_assoc before (f at ∷ []) (map f some)
    ∙ ap (λ (ys : List ℕ). before ++ (f at ∷ map f ys)) first
    ∙ sym (ap (λ (ys : List ℕ). before ++ map f (take count ys)) whole
    ∙ ap (λ (k : ℕ). before ++ map f (take k (at ∷ rest)))
    (let e : count ≡ suc (count - 1) = omega (arith, above) in e))

-- ---- the last place before a number, or another where there is none

pub last_from : (place low last : ℕ) (xs : List ℕ) (n : ℕ) (p : Places) → IsPast xs n p → n ≤ length xs
    → Before place (take n xs) → (n ≡ 0 → last ≡ low) → ((n ≡ 0 → ⊥) → last ≡ p.at)
    → last_to place low xs ≡ last_to place last (places_left p)
last_from place low last xs n p past within before none some =
    last_after_number place low xs n before
    ∙ ap (λ (ps : List ℕ). last_to place (last_of low (take n xs)) ps) (sym past.left)
    ∙ ap (λ (l : ℕ). last_to place l (places_left p)) (sym (by n within none some past.last))
  where
    by : (k : ℕ) → k ≤ length xs → (k ≡ 0 → last ≡ low) → ((k ≡ 0 → ⊥) → last ≡ p.at) → p.at ≡ last_of 0 (take k xs)
        → last ≡ last_of low (take k xs)
    by zero le none some e = none refl
    by (suc k) le none some e =
        let one : suc k ≡ 0 → ⊥ = λ z. omega (arith, z) in
        some one ∙ e ∙ last_of_some 0 low xs (suc k) le one
