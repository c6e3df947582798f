-- For runs of a list that change places: a list is its part up to a place, its part from there to a later one, and the
-- rest; and the first two are as long as the places say.
--
-- Theorems: `three`: a list is these three parts; `take_length`: how long the part up to a place is; `range_length`:
-- how long the part from a place to a later one is.
use Rattle.std.proofs.Common.{◌≡◌, ℕ, ◌-◌, ◌≤◌, List, ◌++◌, length, take, drop, sym, ap, ◌∙◌, arith, append_assoc}
use Rattle.std.specs.Prelude.{slice_range}
use Rattle.std.proofs.lemmas.List.{take-append-drop, length-append, length-drop}
use Rattle.std.proofs.lemmas.List.Folds.{drop_split}
use Rattle.std.proofs.Math.Seq.{take-append_seam, drop-append_seam}

pub take_prefix : {A : Type 0} (xs ys : List A) (n : ℕ) → length xs ≡ n → take n (xs ++ ys) ≡ xs
take_prefix xs ys n e = ap (λ k. take k (xs ++ ys)) (sym e) ∙ take-append_seam xs ys

pub drop_prefix : {A : Type 0} (xs ys : List A) (n : ℕ) → length xs ≡ n → drop n (xs ++ ys) ≡ ys
drop_prefix xs ys n e = ap (λ k. drop k (xs ++ ys)) (sym e) ∙ drop-append_seam xs ys

-- a list is the part up to a place, the part up to a later one, and the rest
pub three : {A : Type 0} (xs : List A) (from to : ℕ) → from ≤ to
    → xs ≡ take from xs ++ (slice_range xs from to ++ drop to xs)
three xs from to h = sym (take-append-drop from xs) ∙ ap (λ ys. take from xs ++ ys) (drop_split xs from to h)

pub first_to_end : {A : Type 0} (prefix mid back new : List A) (from : ℕ) → length prefix ≡ from
    → take from (prefix ++ (mid ++ back)) ++ (new ++ drop from (prefix ++ (mid ++ back))) ≡ (prefix ++ new)
    ++ (mid ++ back)
first_to_end prefix mid back new from e =
    ap (λ xs. xs ++ (new ++ drop from (prefix ++ (mid ++ back)))) (take_prefix prefix (mid ++ back) from e)
    ∙ ap (λ xs. prefix ++ (new ++ xs)) (drop_prefix prefix (mid ++ back) from e)
    ∙ sym (append_assoc prefix new (mid ++ back))

-- how long the part up to a place is, and the part up to a later one
pub take_length : {A : Type 0} (xs : List A) (n : ℕ) → n ≤ length xs → length (take n xs) ≡ n
take_length xs n h =
    omega (arith, ap length (take-append-drop n xs), length-append (take n xs) (drop n xs), length-drop n xs, h)

pub range_length : {A : Type 0} (xs : List A) (from to : ℕ) → from ≤ to → to ≤ length xs
    → length (slice_range xs from to) ≡ to - from
range_length xs from to order within =
    take_length (drop from xs) (to - from) (omega (arith, length-drop from xs, order, within))
