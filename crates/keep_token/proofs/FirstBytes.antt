-- A test that looks at the first byte of a text is decided by that byte and by a test of the text after it.
--
-- Theorems: `sign_first`: after a sign the rest is tested; `sign_none`: without a sign, the whole text; `passes_first`:
-- where the first byte passes, the rest decides.
use Rattle.std.proofs.Common.{◌≡◌, ℕ, ◌-◌, ◌≤◌, Bool, true, false, cond, ◌&&◌, List, [], ◌∷◌, length, get_or, take}
use Rattle.std.proofs.Common.{drop, refl, arith}
use Rattle.keep_token.specs.Numbers.{is_sign}
use Rattle.keep_token.proofs.IntegerLaws.{after_one}

-- a sign comes first, or nothing stands before what is tested
abbrev pub BySign : (List ℕ → Bool) → (List ℕ → Bool) → Type 0
BySign test whole = (c : ℕ) (cs : List ℕ) → whole (c ∷ cs) ≡ cond (is_sign c) (test cs) (test (c ∷ cs))

pub sign_first : (test whole : List ℕ → Bool) → BySign test whole → (t : List ℕ) → 1 ≤ length t
    → is_sign (get_or t 0 0) ≡ true → test (take (length t - 1) (drop 1 t)) ≡ whole t
sign_first test whole by [] some e = absurd (omega arith)
sign_first test whole by (c ∷ cs) some e = rw (after_one c cs, by c cs, e) refl

pub sign_none : (test whole : List ℕ → Bool) → BySign test whole → (t : List ℕ) → 1 ≤ length t
    → is_sign (get_or t 0 0) ≡ false → test t ≡ whole t
sign_none test whole by [] some e = absurd (omega arith)
sign_none test whole by (c ∷ cs) some e = rw (by c cs, e) refl

-- one byte that passes, and what comes after it
abbrev pub ByFirst : (ℕ → Bool) → (List ℕ → Bool) → (List ℕ → Bool) → Type 0
ByFirst p test whole = (c : ℕ) (cs : List ℕ) → whole (c ∷ cs) ≡ (p c && test cs)

pub passes_first : (p : ℕ → Bool) (test whole : List ℕ → Bool) → ByFirst p test whole → (t : List ℕ) → 1 ≤ length t
    → p (get_or t 0 0) ≡ true → test (take (length t - 1) (drop 1 t)) ≡ whole t
passes_first p test whole by [] some e = absurd (omega arith)
passes_first p test whole by (c ∷ cs) some e = rw (after_one c cs, by c cs, e) refl

pub fails_first : (p : ℕ → Bool) (test whole : List ℕ → Bool) → ByFirst p test whole → (t : List ℕ) → 1 ≤ length t
    → p (get_or t 0 0) ≡ false → false ≡ whole t
fails_first p test whole by [] some e = absurd (omega arith)
fails_first p test whole by (c ∷ cs) some e = rw (by c cs, e) refl
