-- An encoded string is a basic string of the language, and it means the text.
--
-- Each byte is written as one piece of a basic string (`written`): an escape with one character after the backslash
-- (`by_letter`), the `Number` of a control character that has no such escape (`by_number`), or the byte itself
-- (`Plain`). The piece has the text that `encoded_byte` gives, is valid, and has the byte alone as its value
-- (`IsWritten`). A `Number` has this value because each control character is ASCII (`control_ascii`), and so one byte
-- in UTF-8 (`number_means`). The pieces of all bytes, one after another, are those of the text (`all_written`); between
-- quotes they are a basic string (`encoded_is_leaf`) that means the text. A key is its own text where that can be a
-- bare key (`bare_is_leaf`), and an encoded string elsewhere.
--
-- Theorems: `encoded_means`: a string means its text; `key_is_leaf` and `key_means`: a key as it is written is a leaf,
-- and means its text.
use Rattle.std.proofs.Common.{◌≡◌, ℕ, suc, ◌/◌, ◌%◌, ◌<◌, true, false, ◌||◌, nat_lt, ◌==◌, IsTrue, List, [], ◌∷◌}
use Rattle.std.proofs.Common.{get_or, refl, sym, subst, arith, inl, inr, lit<, Fits, w8, Result, Ok, Err, IfOk, String}
use Rattle.std.proofs.Common.{string_bytes}
use Rattle.std.proofs.lemmas.Bool.Decides.{nat_tests}
use Rattle.std.proofs.lemmas.Bool.{cases_Bool, eqb-true, lt-ltb, and_from, false≢true}
use Rattle.std.proofs.lemmas.Str.{encode_ascii}
use Rattle.std.specs.Char.{digit_value, is_digit}
use Rattle.std.specs.List.{flat_map}
use Rattle.keep_types.specs.declared.leaf.Profile.TheVariants.{Strict}
use Rattle.keep_types.specs.declared.leaf.Leaf.TheVariants as leaf
use Rattle.keep_token.specs.Numbers.{sum_of_digits}
use Rattle.keep_token.specs.Strings.{Piece, Plain, Letter, Number, piece_text, piece_value, is_basic, is_scalar}
use Rattle.keep_token.specs.Strings.{IsBasicPiece, Each, text_of, value_of}
use Rattle.keep_token.specs.Encoded.{digit, encoded_byte, encoded_string, encoded_key, encoded_key_leaf, is_bare_text}
use Rattle.keep_token.specs.Leaves.{IsLeaf, Means}

-- the piece that a byte is written as
record IsWritten (c : ℕ) : Type 0 where
  piece : Piece
  spelled : piece_text piece ≡ encoded_byte c
  valid : IsBasicPiece Strict piece
  means : piece_value piece ≡ c ∷ []

digit_of : (n : ℕ) → n < 16 → digit_value (digit n) ≡ n
digit_of n h = grind (arith, nat_tests)

digits_sum : (c : ℕ) → c < 128 → sum_of_digits 16 (48 ∷ 48 ∷ digit (c / 16) ∷ digit (c % 16) ∷ []) ≡ c
digits_sum c h = rw (digit_of (c / 16) (omega arith), digit_of (c % 16) (omega arith)) (omega arith)

hex_digit : (n : ℕ) → n < 16 → is_digit (digit n) 16 ≡ true
hex_digit n h = rw (digit_of n h) (lt-ltb n 16 h)

small_scalar : (n : ℕ) → n < 128 → is_scalar n ≡ true
small_scalar n h = grind (arith, nat_tests)

abbrev number : ℕ → Piece
number c = Number 0x75 (48 ∷ 48 ∷ digit (c / 16) ∷ digit (c % 16) ∷ [])

number_valid : (c : ℕ) → c < 128 → IsBasicPiece Strict (number c)
number_valid c h =
    let P : ℕ → Type 0 = λ n. IsTrue (is_scalar n) in (
      lit< tt,
      refl,
      and_from _ _ (hex_digit (c / 16) (omega arith)) (and_from _ true (hex_digit (c % 16) (omega arith)) refl),
      subst P (sym (digits_sum c h)) (small_scalar c h),
    )

number_means : (c : ℕ) → c < 128 → piece_value (number c) ≡ c ∷ []
number_means c h = rw (digits_sum c h) (encode_ascii c h)

plain_valid : (c : ℕ) → c < 256 → (nat_lt c 0x20 || c == 0x7F) ≡ false → (c == 0x22) ≡ false → (c == 0x5C) ≡ false
    → is_basic c ≡ true
plain_valid c h e quote backslash = grind (arith, nat_tests)

control_ascii : (c : ℕ) → (nat_lt c 0x20 || c == 0x7F) ≡ true → c < 128
control_ascii c e = grind (arith, nat_tests)

by_letter : (letter c : ℕ) → piece_text (Letter letter) ≡ encoded_byte c → IsBasicPiece Strict (Letter letter)
    → piece_value (Letter letter) ≡ c ∷ [] → IsWritten c
by_letter letter c s v m = record { piece = Letter letter; spelled = s; valid = v; means = m }

known : (c k : ℕ) → (c == k) ≡ true → IsWritten k → IsWritten c
known c k e w = subst IsWritten (sym (eqb-true c k e)) w

by_number : (c : ℕ) → (nat_lt c 0x20 || c == 0x7F) ≡ true → piece_text (number c) ≡ encoded_byte c → IsWritten c
by_number c e s =
    let h = control_ascii c e in
    record { piece = number c; spelled = s; valid = number_valid c h; means = number_means c h }

written : (c : ℕ) → c < 256 → IsWritten c
written c h =
    elim (cases_Bool (c == 0x22)) [
      | inl e ↦ known c 0x22 e (by_letter 0x22 0x22 refl (lit< tt) refl)
      | inr quote ↦ elim (cases_Bool (c == 0x5C)) [
        | inl e ↦ known c 0x5C e (by_letter 0x5C 0x5C refl (lit< tt) refl)
        | inr backslash ↦ elim (cases_Bool (c == 0x08)) [
          | inl e ↦ known c 0x08 e (by_letter 0x62 0x08 refl (lit< tt) refl)
          | inr b ↦ elim (cases_Bool (c == 0x09)) [
            | inl e ↦ known c 0x09 e (by_letter 0x74 0x09 refl (lit< tt) refl)
            | inr t ↦ elim (cases_Bool (c == 0x0A)) [
              | inl e ↦ known c 0x0A e (by_letter 0x6E 0x0A refl (lit< tt) refl)
              | inr n ↦ elim (cases_Bool (c == 0x0C)) [
                | inl e ↦ known c 0x0C e (by_letter 0x66 0x0C refl (lit< tt) refl)
                | inr f ↦ elim (cases_Bool (c == 0x0D)) [
                  | inl e ↦ known c 0x0D e (by_letter 0x72 0x0D refl (lit< tt) refl)
                  | inr r ↦ elim (cases_Bool (nat_lt c 0x20 || c == 0x7F)) [
                    | inl e ↦ by_number c e (rw (quote, backslash, b, t, n, f, r, e) refl)
                    | inr e ↦
                        record {
                          piece = Plain c;
                          spelled = rw (quote, backslash, b, t, n, f, r, e) refl;
                          valid = plain_valid c h e quote backslash;
                          means = refl;
                        }
                  ]
                ]
              ]
            ]
          ]
        ]
      ]
    ]

-- ---- a whole text

-- the pieces that a text is written as
record AreWritten (text : List ℕ) : Type 0 where
  pieces : List Piece
  spelled : text_of pieces ≡ flat_map encoded_byte text
  valid : Each (IsBasicPiece Strict) pieces
  means : text ≡ value_of pieces

one_more : (c : ℕ) (cs : List ℕ) → IsWritten c → AreWritten cs → AreWritten (c ∷ cs)
one_more c cs w ws = record {
  pieces = w.piece ∷ ws.pieces;
  spelled = rw (w.spelled, ws.spelled) refl;
  valid = (w.valid, ws.valid);
  means = rw (w.means, ← ws.means) refl;
}

all_written : (text : List ℕ) → ((i : ℕ) → Fits w8 (get_or text i 0)) → AreWritten text
all_written [] h = record { pieces = []; spelled = refl; valid = tt; means = refl }
all_written (c ∷ cs) h = one_more c cs (written c (h 0).fits) (all_written cs (λ i. h (suc i)))

pub encoded_means : (text : List ℕ) → ((i : ℕ) → Fits w8 (get_or text i 0))
    → Means Strict leaf.Basic (encoded_string text) text
encoded_means text h =
    let w = all_written text h in
    (w.pieces, record { spelled = rw w.spelled refl; each = w.valid }, w.means)

pub encoded_is_leaf : (text : List ℕ) → ((i : ℕ) → Fits w8 (get_or text i 0))
    → IsLeaf Strict leaf.Basic (encoded_string text)
encoded_is_leaf text h = let m = encoded_means text h in (m.0, m.1)

-- ---- keys

bare_is_leaf : (text : List ℕ) → is_bare_text text ≡ true → IsLeaf Strict leaf.BareKey text
bare_is_leaf [] h = absurd (false≢true h)
bare_is_leaf (c ∷ cs) h = (omega arith, h)

pub key_is_leaf : (text : List ℕ) → ((i : ℕ) → Fits w8 (get_or text i 0))
    → IsLeaf Strict (encoded_key_leaf text) (encoded_key text)
key_is_leaf text h =
    elim (cases_Bool (is_bare_text text)) [ inl e ↦ rw e (bare_is_leaf text e) | inr e ↦ rw e (encoded_is_leaf text h) ]

pub key_means : (text : List ℕ) → ((i : ℕ) → Fits w8 (get_or text i 0))
    → Means Strict (encoded_key_leaf text) (encoded_key text) text
key_means text h = elim (cases_Bool (is_bare_text text)) [ inl e ↦ rw e refl | inr e ↦ rw e (encoded_means text h) ]

-- what holds of the text holds of the string that has it
pub ok_of : {Z E : Type 0} (P : List ℕ → Type 0) (text : List ℕ) (r : Result (String Z) E)
    → IfOk r (λ s. string_bytes s ≡ text) → P text → IfOk r (λ s. P (string_bytes s))
ok_of P text (Ok s) e p = subst P (sym e) p
ok_of P text (Err f) e p = tt
