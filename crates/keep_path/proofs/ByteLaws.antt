-- Each element of a text in UTF-8 is a byte.
--
-- Theorem: `text_bytes`.
use Rattle.std.proofs.Common.{◌≡◌, ℕ, zero, suc, ◌<◌, true, ltb, List, [], ◌∷◌, ◌++◌, get_or, arith, subst, Fits, w8}
use Rattle.std.proofs.Common.{inl, inr}
use Rattle.std.proofs.lemmas.Bool.{cases_Bool, ltb-true, and_parts}
use Rattle.std.specs.Str.{IsUtf8}
use lib.Utf8.{scalar, scalars, scalar_cases, encode, encodes}

abbrev AreBytes : List ℕ → Type 0
AreBytes [] = Unit {0}
AreBytes (b ∷ bs) = (b < 256) × AreBytes bs

joined : (xs ys : List ℕ) → AreBytes xs → AreBytes ys → AreBytes (xs ++ ys)
joined [] ys p q = q
joined (x ∷ xs) ys p q = (p.0, joined xs ys p.1 q)

below_last : (c : ℕ) → scalar c ≡ true → c < 1114112
below_last c h = elim (scalar_cases c h) [ inl k ↦ omega arith | inr k ↦ omega arith ]

encoded_bytes : (c : ℕ) → c < 1114112 → AreBytes (encode c)
unfolding encode
encoded_bytes c h =
    elim (cases_Bool (ltb c 128)) [
      | inl e ↦ rw e (omega (arith, ltb-true c 128 e), tt)
      | inr one ↦ elim (cases_Bool (ltb c 2048)) [
        | inl e ↦ rw (one, e) (omega (arith, ltb-true c 2048 e), (omega arith, tt))
        | inr two ↦ elim (cases_Bool (ltb c 65536)) [
          | inl e ↦ rw (one, two, e) (omega (arith, ltb-true c 65536 e), (omega arith, (omega arith, tt)))
          | inr three ↦ rw (one, two, three) (omega arith, (omega arith, (omega arith, (omega arith, tt))))
        ]
      ]
    ]

all_bytes : (cs : List ℕ) → scalars cs ≡ true → AreBytes (encodes cs)
all_bytes [] h = tt
all_bytes (c ∷ cs) h =
    let k = and_parts (scalar c) (scalars cs) h in
    joined (encode c) (encodes cs) (encoded_bytes c (below_last c k.0)) (all_bytes cs k.1)

byte_at : (bs : List ℕ) (i : ℕ) → AreBytes bs → get_or bs i 0 < 256
byte_at [] i h = omega arith
byte_at (b ∷ bs) zero h = h.0
byte_at (b ∷ bs) (suc i) h = byte_at bs i h.1

pub text_bytes : (bs : List ℕ) → IsUtf8 bs → (i : ℕ) → Fits w8 (get_or bs i 0)
text_bytes bs (cs, (are, spelled)) i = record { fits = byte_at bs i (subst AreBytes spelled (all_bytes cs are)) }
