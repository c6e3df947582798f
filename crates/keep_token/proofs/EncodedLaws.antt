-- What is written by runs of plain bytes and escapes, one after another, is what `encoded_byte` gives for the bytes one
-- by one.
--
-- Theorems: `encoded_more`: with a run and the escape after it, what is written and what is left make the same whole;
-- `encoded_last`: with a run up to the end, what is written is the whole; `no_room`: where there is no room for a part,
-- there is none for the whole.
use Rattle.std.proofs.Common.{◌≡◌, ℕ, ◌+◌, ◌<◌, Bool, true, false, List, [], ◌∷◌, ◌++◌, length, length-append}
use Rattle.std.proofs.Common.{length-take, take, drop, get_or, refl, sym, ◌∙◌, ap, arith, append_assoc, ◌≤◌, add-one}
use Rattle.std.proofs.Common.{one-add, append-nil, inl, inr, ◌⊎◌, drop-cons, rules, String, string_bytes, string_len}
use Rattle.std.proofs.Math.Seq.{take-append_seam}
use Rattle.std.proofs.lemmas.List.{take-take}
use Rattle.std.proofs.lemmas.List.Sums.{prefix_len-le-length, prefix_len_stops}
use Rattle.std.specs.Prelude.{Result, Ok, Err, OnErr}
use Rattle.std.specs.Str.{IsUtf8, IsCharBoundary}
use Rattle.std.proofs.lemmas.Str.{IsCharBoundary-after_ascii}
use Rattle.std.proofs.lemmas.Bool.Decides.{nat_tests}
use Rattle.std.specs.List.{flat_map, prefix_len, list_all}
use Rattle.std.proofs.lemmas.Grind.{common_steps}
use Rattle.keep_token.specs.Abnf.{is_bare}
use Rattle.keep_token.specs.Encoded.{encoded_byte, is_bare_text}
use Rattle.keep_token.specs.Escapes.{is_plain}

tested : (b : Bool) → (b ≡ true) ⊎ (b ≡ false)
tested true = inl refl
tested false = inr refl

-- a plain byte is written as it is
plain_byte : (c : ℕ) → is_plain c ≡ true → encoded_byte c ≡ c ∷ []
plain_byte c h = grind (arith, nat_tests)

-- a byte that is escaped is an ASCII character
pub escaped_ascii : (c : ℕ) → is_plain c ≡ false → c < 128
escaped_ascii c h = grind (arith, nat_tests)

-- a run that f keeps comes first
run_preserved : (p : ℕ → Bool) (f : ℕ → List ℕ) → ((c : ℕ) → p c ≡ true → f c ≡ c ∷ []) → (text : List ℕ)
    → flat_map f text ≡ take (prefix_len p text) text ++ flat_map f (drop (prefix_len p text) text)
run_preserved p f keeps [] = refl
run_preserved p f keeps (c ∷ cs) =
    elim (tested (p c)) [
      | inl e ↦ rw (e, one-add (prefix_len p cs), keeps c e) (ap (λ (t : List ℕ). c ∷ t) (run_preserved p f keeps cs))
      | inr e ↦ rw e refl
    ]

-- a run of plain bytes is written as it is
plain_run : (text : List ℕ)
    → flat_map encoded_byte text ≡ take (prefix_len is_plain text) text
    ++ flat_map encoded_byte (drop (prefix_len is_plain text) text)
plain_run text = run_preserved is_plain encoded_byte plain_byte text

-- and the byte after it by its escape
escape_next : (text : List ℕ) (n : ℕ) → n < length text
    → flat_map encoded_byte (drop n text) ≡ encoded_byte (get_or text n 0) ++ flat_map encoded_byte (drop (n + 1) text)
escape_next text n h = rw (drop-cons text n 0, add-one n) refl

pub not_plain : (text : List ℕ) (n : ℕ) → n ≡ prefix_len is_plain text → n < length text
    → is_plain (get_or text n 0) ≡ false
not_plain text n e h = rw e (prefix_len_stops is_plain text 0 (omega arith))

-- a text may be cut where a run of plain bytes ends, and after the byte that ends it
pub plain_end : (text : List ℕ) (n : ℕ) → n ≡ prefix_len is_plain text → IsCharBoundary text n
plain_end text n e = (
  omega (arith, prefix_len-le-length is_plain text),
  λ more big. absurd (omega (arith, escaped_ascii (get_or text n 0) (not_plain text n e more))),
)

pub escape_end : (text : List ℕ) (n : ℕ) → IsUtf8 text → n ≡ prefix_len is_plain text → n < length text
    → IsCharBoundary text (n + 1)
escape_end text n utf8 e more = IsCharBoundary-after_ascii text n utf8 more (escaped_ascii _ (not_plain text n e more))

-- the whole is written where the rest is plain
pub encoded_last : (text before now whole : List ℕ) (n : ℕ) → n ≡ prefix_len is_plain text → n ≡ length text
    → before ++ flat_map encoded_byte text ≡ whole → now ≡ before ++ take n text → now ≡ whole
encoded_last text before now whole n e all so_far now_is =
    let rest : flat_map encoded_byte text ≡ take n text ++ flat_map encoded_byte (drop n text) =
    rw e (plain_run text) in
    let none : drop n text ≡ [] = grind (arith, common_steps) in
    let it : flat_map encoded_byte text ≡ take n text = rest ∙ (rw none (append-nil (take n text))) in
    now_is ∙ ap (λ (t : List ℕ). before ++ t) (sym it) ∙ so_far

-- a run and an escape are written: the whole is what is written and the rest
pub encoded_more : (text before now next whole : List ℕ) (n : ℕ) → n ≡ prefix_len is_plain text → n < length text
    → before ++ flat_map encoded_byte text ≡ whole → now ≡ before ++ take n text
    → next ≡ now ++ encoded_byte (get_or text n 0)
    → next ++ flat_map encoded_byte (drop (n + 1) text) ≡ whole
encoded_more text before now next whole n e more so_far now_is next_is =
    let rest : flat_map encoded_byte text ≡ take n text
    ++ (encoded_byte (get_or text n 0) ++ flat_map encoded_byte (drop (n + 1) text)) =
    rw e (plain_run text) ∙ ap (λ (t : List ℕ). take n text ++ t) (escape_next text n more) in
    rw (next_is, now_is) (simp append_assoc (ap (λ (t : List ℕ). before ++ t) (sym rest) ∙ so_far))

-- ---- what was added to

-- it is a prefix
pub grown : (old new more : List ℕ) → new ≡ old ++ more → take (length old) new ≡ old
grown old new more e = ap (take (length old)) e ∙ take-append_seam old more

-- also where more was added in two steps
pub grown_then : (old mid new : List ℕ) → take (length old) mid ≡ old → take (length mid) new ≡ mid
    → take (length old) new ≡ old
grown_then old mid new h k =
    let fits : length old ≤ length mid = omega (arith, length-take (length old) mid, ap length h) in
    sym (take-take (length old) (length mid) new fits) ∙ (ap (take (length old)) k ∙ h)

pub len_is : {Z : Type 0} (s : String Z) → string_len s ≡ length (string_bytes s)
len_is s = first_of (search rules, grind (arith, common_steps))

pub on_err : {T E P : Type 0} (r : Result T E) → P → OnErr r P
on_err (Ok x) p = tt
on_err (Err e) p = p

-- where a part of the rest has no room, the whole has none
pub no_room : (before now rest whole : List ℕ) (old_room room n : ℕ) → now ++ rest ≡ before ++ whole → old_room ≤ room
    → room < length now + n → n ≤ length rest → old_room < length before + length whole
no_room before now rest whole old_room room n e more less part =
    omega (arith, more, less, part, ap length e, length-append now rest, length-append before whole)

-- a run of plain bytes, and with it the escape of the byte after it, are no longer than the text as it is written
pub plain_part : (text : List ℕ) (n : ℕ) → n ≡ prefix_len is_plain text
    → length (take n text) ≤ length (flat_map encoded_byte text)
plain_part text n e =
    let run : flat_map encoded_byte text ≡ take n text ++ flat_map encoded_byte (drop n text) = rw e (plain_run text) in
    omega (arith, ap length run, length-append (take n text) (flat_map encoded_byte (drop n text)))

pub escape_part : (text : List ℕ) (n : ℕ) → n ≡ prefix_len is_plain text → n < length text
    → length (take n text) + length (encoded_byte (get_or text n 0)) ≤ length (flat_map encoded_byte text)
escape_part text n e more =
    let after = flat_map encoded_byte (drop (n + 1) text) in
    let run : flat_map encoded_byte text ≡ take n text ++ (encoded_byte (get_or text n 0) ++ after) =
    rw e (plain_run text) ∙ ap (λ (t : List ℕ). take n text ++ t) (escape_next text n more) in
    omega (
      arith,
      ap length run,
      length-append (take n text) (encoded_byte (get_or text n 0) ++ after),
      length-append (encoded_byte (get_or text n 0)) after,
    )

-- a text with a byte or more is bare where each byte is
pub bare_text_of : (text : List ℕ) → 0 < length text → is_bare_text text ≡ list_all is_bare text
bare_text_of [] h = absurd (omega arith)
bare_text_of (c ∷ cs) h = refl
