-- Consecutive numbers: how many they are, each of them, and one more of them.
--
-- Theorems: `length-consecutive`: how many they are; `get_or-consecutive`: each of them by its place;
-- `consecutive-push`: one more comes at the end.
use Rattle.std.proofs.Common.{◌≡◌, ◌∙◌, ℕ, zero, suc, ◌+◌, ◌<◌, ◌≤◌, [], ◌∷◌, ◌++◌, length, get_or, refl, ap, arith}
use Rattle.std.proofs.Common.{Some, None}
use Rattle.std.specs.Prelude.{slice_get}
use Rattle.keep_index_store.specs.Runs.{consecutive}

pub length-consecutive : (first n : ℕ) → length (consecutive first n) ≡ n
length-consecutive first zero = refl
length-consecutive first (suc n) = omega (arith, length-consecutive (suc first) n)

-- with the number after the last there is one more
pub consecutive-push : (first n more child : ℕ) → first + n ≡ child → more ≡ n + 1
    → consecutive first more ≡ consecutive first n ++ child ∷ []
consecutive-push first n zero child next is = absurd (omega arith)
consecutive-push first zero (suc zero) child next is = ap (λ k. k ∷ []) (let e : first ≡ child = omega arith in e)
consecutive-push first zero (suc (suc more)) child next is = absurd (omega arith)
consecutive-push first (suc n) (suc more) child next is =
    ap (λ ks. first ∷ ks) (consecutive-push (suc first) n more child (omega arith) (omega arith))

-- each of them, by its place
pub get_or-consecutive : (first n k d : ℕ) → k < n → get_or (consecutive first n) k d ≡ first + k
get_or-consecutive first zero k d low = absurd (omega arith)
get_or-consecutive first (suc n) zero d low = omega arith
get_or-consecutive first (suc n) (suc k) d low = omega (arith, get_or-consecutive (suc first) n k d (omega arith))

pub slice_get-consecutive : (first n k : ℕ) → k < n → Some (first + k) ≡ slice_get (consecutive first n) k
slice_get-consecutive first zero k low = absurd (omega arith)
slice_get-consecutive first (suc n) zero low = ap Some (let e : first + zero ≡ first = omega arith in e)
slice_get-consecutive first (suc n) (suc k) low =
    ap Some (let e : first + suc k ≡ suc first + k = omega arith in e)
    ∙ slice_get-consecutive (suc first) n k (omega arith)

-- and none past the last
pub slice_get-past : (first n k : ℕ) → n ≤ k → None ≡ slice_get (consecutive first n) k
slice_get-past first zero k past = refl
slice_get-past first (suc n) zero past = absurd (omega arith)
slice_get-past first (suc n) (suc k) past = slice_get-past (suc first) n k (omega arith)
