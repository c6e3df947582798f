-- A text of a date's shape has its digits at their places, and is a date if the numbers that they write are a day.
--
-- Theorem: `shaped`.
use Rattle.std.proofs.Common.{◌≡◌, ℕ, ◌+◌, ◌*◌, Bool, true, ◌&&◌, ◌==◌, List, [], ◌∷◌, length, refl}
use Rattle.std.specs.Prelude.{slice_index}
use Rattle.std.specs.Char.{is_ascii_digit}
use Rattle.keep_token.specs.Leaves.{has_date_shape}
use Rattle.keep_token.specs.Words.{pair, is_day, is_date}

-- a text of a date's shape, by its places
pub record Shaped (t : List ℕ) : Type 0 where
  pub ten : length t ≡ 10
  pub a : is_ascii_digit (slice_index t 0) ≡ true
  pub b : is_ascii_digit (slice_index t 1) ≡ true
  pub c : is_ascii_digit (slice_index t 2) ≡ true
  pub d : is_ascii_digit (slice_index t 3) ≡ true
  pub f : is_ascii_digit (slice_index t 5) ≡ true
  pub g : is_ascii_digit (slice_index t 6) ≡ true
  pub i : is_ascii_digit (slice_index t 8) ≡ true
  pub j : is_ascii_digit (slice_index t 9) ≡ true
  pub date : is_date t ≡ is_day (pair (slice_index t 0) (slice_index t 1) * 100
      + pair (slice_index t 2) (slice_index t 3)) (pair (slice_index t 5) (slice_index t 6))
      (pair (slice_index t 8) (slice_index t 9))

shape_tests : (a b c d e f g h i j : Bool)
    → (((a && (b && (c && (d && true)))) && e) && (f && (g && true))) && (h && (i && (j && true))) ≡ true
    → (a ≡ true) × (b ≡ true) × (c ≡ true) × (d ≡ true) × (e ≡ true) × (f ≡ true) × (g ≡ true) × (h ≡ true) × (i ≡ true)
    × (j ≡ true)
shape_tests true true true true true true true true true true k =
    (refl, refl, refl, refl, refl, refl, refl, refl, refl, refl)
shape_tests _ _ _ _ _ _ _ _ _ _ k = absurd cc

pub shaped : (t : List ℕ) → has_date_shape t ≡ true → Shaped t
shaped (a ∷ b ∷ c ∷ d ∷ e ∷ f ∷ g ∷ h ∷ i ∷ j ∷ []) k =
    let (at_a, at_b, at_c, at_d, at_e, at_f, at_g, at_h, at_i, at_j) =
    shape_tests (is_ascii_digit a) (is_ascii_digit b) (is_ascii_digit c) (is_ascii_digit d) (e == 0x2D)
    (is_ascii_digit f) (is_ascii_digit g) (h == 0x2D) (is_ascii_digit i) (is_ascii_digit j) k in
    record {
      ten = refl;
      a = at_a;
      b = at_b;
      c = at_c;
      d = at_d;
      f = at_f;
      g = at_g;
      i = at_i;
      j = at_j;
      date = rw k refl;
    }
shaped _ k = absurd cc
