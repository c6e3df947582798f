-- The digits that close with a bracket are an index's text, and each index's text is found so.
--
-- The digits are all those at the start of the text (`prefix_len`, `run_digits`). Where they pass the test `closes`,
-- they are at most nine, a bracket comes after them, and the first is a zero only if it is the only one
-- (`closes_parts`). So where they are parsed as a number, this is less than a billion, and its `decimal` is these
-- digits again (`index_found`). The other way, where a text begins with an index and its bracket, the digits at its
-- start are those of the index, and they pass the test (`index_prefix`). So where the test or the parsing fails, the
-- text begins with no index (`not_closed`, `not_parsed`), and no text begins with two (`index_one`). After the bracket
-- the text may be cut (`bracket_cut`).
--
-- Theorems: `index_found`: where the digits close and are parsed, the text begins with that index; `not_closed` and
-- `not_parsed`: where they do not close, or are not parsed, it begins with none.
use Rattle.std.proofs.Common.{◌≡◌, ℕ, zero, suc, ◌+◌, ◌^◌, ◌<◌, ◌≤◌, true, false, List, [], ◌∷◌, ◌++◌, length, take}
use Rattle.std.proofs.Common.{drop, get_or, refl, sym, ap, ◌∙◌, subst, arith, append_assoc, Result, Ok, Err, inl, inr}
use Rattle.std.proofs.Common.{eq-zero-or-pos, one-add, drop-cons, add-one, length-take, length-append}
use Rattle.std.proofs.lemmas.Bool.{cases_Bool, both_ways}
use Rattle.std.proofs.lemmas.Bool.Decides.{nat_tests}
use Rattle.std.proofs.lemmas.List.{take-append-drop, take_at, get_or_at, get_or_append_left, drop_at}
use Rattle.std.proofs.lemmas.Fmt.{decimal_digit, decimal_nonempty, first_decimal, length-decimal-le, digits_decimal}
use Rattle.std.proofs.lemmas.Fmt.{digits_value-decimal, decimal-digits_value, decimal_injective}
use Rattle.std.proofs.lemmas.Str.Parse.{IsNumeralModel, numerals_by_value, tells_digits, digits_value_short}
use Rattle.std.proofs.lemmas.Str.Parse.{parse_plain, digit_from_value}
use Rattle.std.proofs.lemmas.Str.{IsCharBoundary-after_ascii}
use Rattle.std.specs.Prelude.{IsUtf8, IsCharBoundary}
use Rattle.std.specs.Char.{is_ascii_digit, digit_value}
use Rattle.std.specs.Fmt.{decimal}
use Rattle.std.specs.List.{prefix_len}
use Rattle.std.specs.Str.Parse.{AllDigits, digits_value, ParsesUnsigned}
use Rattle.keep_path.specs.IndexText.{closes}

numerals : IsNumeralModel (AllDigits 10) (digits_value 10)
numerals = numerals_by_value (AllDigits 10) tells_digits

digit_small : (c : ℕ) → is_ascii_digit c ≡ true → digit_value c < 10
digit_small c h = grind (arith, nat_tests)

small_digit : (c : ℕ) → digit_value c < 10 → is_ascii_digit c ≡ true
small_digit c h = grind (arith, nat_tests)

run_digits : (text : List ℕ) → AllDigits 10 (take (prefix_len is_ascii_digit text) text)
run_digits [] = tt
run_digits (c ∷ cs) =
    elim (cases_Bool (is_ascii_digit c)) [
      | inl e ↦ rw (e, one-add (prefix_len is_ascii_digit cs)) (digit_small c e, run_digits cs)
      | inr e ↦ rw e tt
    ]

run_is : (ds rest : List ℕ) → AllDigits 10 ds → prefix_len is_ascii_digit (ds ++ 0x5D ∷ rest) ≡ length ds
run_is [] rest h = refl
run_is (c ∷ cs) rest h =
    rw (small_digit c h.0, one-add (prefix_len is_ascii_digit (cs ++ 0x5D ∷ rest))) (ap suc (run_is cs rest h.1))

no_plus : (ds : List ℕ) → AllDigits 10 ds → get_or ds 0 0 ≡ 43 → ⊥
no_plus [] h e = omega arith
no_plus (c ∷ cs) h e = omega (arith, digit_from_value c h.0)

closes_parts : (text : List ℕ) (n : ℕ) → closes text n ≡ true
    → (n ≤ 9) × (get_or text n 0 ≡ 0x5D) × (get_or text 0 0 ≡ 48 → n ≤ 1)
closes_parts text n h = (grind (arith, nat_tests), grind (arith, nat_tests), λ e. grind (arith, nat_tests))

closes_from : (text : List ℕ) (n : ℕ) → n ≤ 9 → get_or text n 0 ≡ 0x5D → (get_or text 0 0 ≡ 48 → n ≤ 1)
    → closes text n ≡ true
closes_from text n a b c = grind (arith, nat_tests)

-- ---- what is read is an index

pub record IndexIs (text : List ℕ) (digits number : ℕ) : Type 0 where
  pub small : number < 1_000_000_000
  pub found : text ≡ (decimal number ++ 0x5D ∷ []) ++ drop (digits + 1) text
  pub len : digits + 1 ≡ length (decimal number ++ 0x5D ∷ [])

pub within_of : (text : List ℕ) (k : ℕ) → 0 < get_or text k 0 → k < length text
within_of [] k h = absurd (omega (arith, h))
within_of (c ∷ cs) zero h = omega arith
within_of (c ∷ cs) (suc k) h = omega (arith, within_of cs k h)

-- the text may be cut after the bracket
pub bracket_cut : (text : List ℕ) (k : ℕ) → IsUtf8 text → closes text k ≡ true → IsCharBoundary text (k + 1)
bracket_cut text k utf8 shut =
    let c = closes_parts text k shut in
    IsCharBoundary-after_ascii text k utf8 (within_of text k (omega (arith, c.1))) (omega (arith, c.1))

pub index_found : {E : Type 0} (text : List ℕ) (k number : ℕ) (r : Result ℕ E) → r ≡ Ok number
    → k ≡ prefix_len is_ascii_digit text → closes text k ≡ true
    → ParsesUnsigned 64 10 (take k text) r → IndexIs text k number
index_found {E} text k number r ok e shut parsed =
    let c = closes_parts text k shut in
    let within = within_of text k (omega (arith, c.1)) in
    let digits : AllDigits 10 (take k text) = rw e (run_digits text) in
    let count : length (take k text) ≡ k = omega (arith, length-take k text) in
    let stated =
    parse_plain numerals {E = E} 64 (take k text) (Ok number) (rw ok at parsed) (no_plus (take k text) digits) in
    let value : number ≡ digits_value 10 (take k text) = stated.1 in
    let short = digits_value_short numerals (take k text) 9 digits (omega (arith, count, c.0)) in
    let one : get_or (take k text) 0 0 ≡ 48 → length (take k text) ≡ 1 =
    λ z. omega (arith, count, stated.0.1, c.2 (prefix_same text k stated.0.1 z)) in
    let spelled : decimal number ≡ take k text =
    ap decimal value ∙ decimal-digits_value numerals (take k text) digits stated.0.1 one stated.0.2 in
    let rest : drop k text ≡ 0x5D ∷ drop (k + 1) text = rw (drop-cons text k 0, add-one k, c.1) refl in
    record {
      small = omega (arith, value, short);
      found = sym (take-append-drop k text) ∙ rw (rest, spelled, append_assoc) refl;
      len = rw spelled (omega (arith, length-append (take k text) (0x5D ∷ []), count));
    }
  where
    prefix_same : (text : List ℕ) (k : ℕ) → 0 < length (take k text) → get_or (take k text) 0 0 ≡ 48
        → get_or text 0 0 ≡ 48
    prefix_same text zero some z = absurd (omega arith)
    prefix_same [] (suc k) some z = z
    prefix_same (c ∷ cs) (suc k) some z = z

-- ---- each index is read

record IndexPrefix (text : List ℕ) (n : ℕ) : Type 0 where
  run : prefix_len is_ascii_digit text ≡ length (decimal n)
  shut : closes text (length (decimal n)) ≡ true
  prefix : take (length (decimal n)) text ≡ decimal n

one_digit : (n : ℕ) → n < 2 ^ 64 → get_or (decimal n) 0 0 ≡ 48 → length (decimal n) ≤ 1
one_digit n h z =
    elim (eq-zero-or-pos n) [
      | inl nought ↦ rw (decimal_digit n (omega arith)) (omega arith)
      | inr more ↦ absurd (omega (arith, first_decimal n more h))
    ]

index_prefix : (n : ℕ) (rest : List ℕ) → n < 1_000_000_000 → IndexPrefix (decimal n ++ 0x5D ∷ rest) n
index_prefix n rest small =
    let h : n < 2 ^ 64 = omega arith in
    let k = length (decimal n) in
    let some = decimal_nonempty n h in
    record {
      run = run_is (decimal n) rest (digits_decimal numerals n h);
      shut = closes_from (decimal n ++ 0x5D ∷ rest) k (length-decimal-le 9 n (omega arith) small h)
          (get_or_at (decimal n) 0x5D rest 0 k refl)
          (λ z. one_digit n h (sym (get_or_append_left (decimal n) (0x5D ∷ rest) 0 0 some) ∙ z));
      prefix = take_at (decimal n) (0x5D ∷ rest) k refl;
    }

pub not_closed : (text : List ℕ) (k : ℕ) → k ≡ prefix_len is_ascii_digit text → closes text k ≡ false
    → (n : ℕ) (rest : List ℕ) → n < 1_000_000_000 → text ≡ decimal n ++ 0x5D ∷ rest → ⊥
not_closed text k e open_at n rest small is =
    let f = subst (λ t. IndexPrefix t n) (sym is) (index_prefix n rest small) in
    let same : k ≡ length (decimal n) = e ∙ f.run in
    both_ways (closes text k) open_at (rw same f.shut)

pub not_parsed : {E : Type 0} (text : List ℕ) (k : ℕ) (error : E) → k ≡ prefix_len is_ascii_digit text
    → ParsesUnsigned 64 10 (take k text) (Err error) → (n : ℕ) (rest : List ℕ) → n < 1_000_000_000
    → text ≡ decimal n ++ 0x5D ∷ rest → ⊥
not_parsed {E} text k error e parsed n rest small is =
    let f = subst (λ t. IndexPrefix t n) (sym is) (index_prefix n rest small) in
    let prefix : take k text ≡ decimal n = rw (e ∙ f.run) f.prefix in
    let h : n < 2 ^ 64 = omega arith in
    let digits = digits_decimal numerals n h in
    let stated =
    parse_plain numerals {E = E} 64 (decimal n) (Err error) (rw prefix at parsed) (no_plus (decimal n) digits) in
    stated (digits, decimal_nonempty n h, rw (digits_value-decimal numerals n h) h)

-- a text begins with one index at most
pub index_one : (m n : ℕ) (a b : List ℕ) → m < 1_000_000_000 → n < 1_000_000_000
    → decimal m ++ 0x5D ∷ a ≡ decimal n ++ 0x5D ∷ b → (m ≡ n) × (a ≡ b)
index_one m n a b h k e =
    let f = subst (λ t. IndexPrefix t m) e (index_prefix m a h) in
    let g = index_prefix n b k in
    let count : length (decimal m) ≡ length (decimal n) = sym f.run ∙ g.run in
    let texts : decimal m ≡ decimal n = sym f.prefix ∙ rw count g.prefix in
    let same : m ≡ n = decimal_injective m n (omega arith) (omega arith) texts in
    let A = sym (drop_at (decimal m ++ 0x5D ∷ []) a (length (decimal m ++ 0x5D ∷ [])) refl) in
    let B = drop_at (decimal n ++ 0x5D ∷ []) b (length (decimal n ++ 0x5D ∷ [])) refl in (
      same,
      A
          ∙ rw (append_assoc (decimal m) (0x5D ∷ []) a, texts)
          (rw texts at (ap (λ (t : List ℕ). drop (length (decimal n ++ 0x5D ∷ [])) t) e))
          ∙ rw (append_assoc (decimal n) (0x5D ∷ []) b) at B,
    )
