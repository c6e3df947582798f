-- A table whose rows agree with a test, one by one, agrees with it at each byte that has a row.
--
-- Theorem: `agrees_all`.
use Rattle.std.proofs.Common.{◌≡◌, ℕ, zero, suc, ◌+◌, ◌<◌, Bool, true, false, not, ◌&&◌, ◌==◌, List, [], ◌∷◌, length}
use Rattle.std.proofs.Common.{get_or, refl, ap, ◌∙◌, arith}
use Rattle.std.specs.Prelude.{bit_and}
use Rattle.std.proofs.lemmas.Bool.{and_parts}

abbrev pub same : Bool → Bool → Bool
same true b = b
same false b = not b

pub same_is : (a b : Bool) → same a b ≡ true → a ≡ b
same_is true true h = refl
same_is true false h = absurd cc
same_is false true h = absurd cc
same_is false false h = refl

-- each row of the table has the flag where the byte is of the class, from byte i on
abbrev pub agrees : (ℕ → Bool) → ℕ → ℕ → List ℕ → Bool
agrees class flag i [] = true
agrees class flag i (row ∷ rows) = same (not (bit_and row flag == 0)) (class i) && agrees class flag (i + 1) rows

pub agrees_at : (class : ℕ → Bool) (flag i : ℕ) (rows : List ℕ) (k : ℕ) → agrees class flag i rows ≡ true
    → k < length rows → not (bit_and (get_or rows k 0) flag == 0) ≡ class (i + k)
agrees_at class flag i [] k h within = absurd (omega arith)
agrees_at class flag i (row ∷ rows) zero h within =
    let here = (and_parts (same (not (bit_and row flag == 0)) (class i)) (agrees class flag (i + 1) rows) h).0 in
    same_is _ _ here ∙ ap class (omega arith)
agrees_at class flag i (row ∷ rows) (suc k) h within =
    let more = (and_parts (same (not (bit_and row flag == 0)) (class i)) (agrees class flag (i + 1) rows) h).1 in
    agrees_at class flag (i + 1) rows k more (omega arith) ∙ ap class (omega arith)

pub agrees_all : (class : ℕ → Bool) (flag : ℕ) (rows : List ℕ) (k : ℕ) → agrees class flag 0 rows ≡ true
    → k < length rows → not (bit_and (get_or rows k 0) flag == 0) ≡ class k
agrees_all class flag rows k h within = agrees_at class flag 0 rows k h within ∙ ap class (omega arith)
