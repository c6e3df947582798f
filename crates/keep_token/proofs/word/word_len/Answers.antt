-- The run, and after a full date, a space and a digit the next run too.
use Rattle.std.proofs.Common.{◌≡◌, ℕ, ◌+◌, ◌-◌, Bool, true, false, cond, ◌&&◌, ◌==◌, List, length, take, drop, refl}
use Rattle.std.proofs.Common.{sym, ap, ◌∙◌, arith, add-zero, get_or-drop}
use Rattle.std.proofs.lemmas.Bool.Decides.{nat_tests}
use Rattle.std.proofs.lemmas.List.{take_rest, drop-drop}
use Rattle.std.specs.List.{prefix_len}
use Rattle.std.specs.Char.{is_ascii_digit}
use Rattle.std.specs.Prelude.{slice_index}
use Rattle.keep_token.specs.Abnf.{is_word}
use Rattle.keep_token.specs.Leaves.{has_date_shape, word_len}
use Rattle.keep_token.proofs.word.word_len.Goals.{else-has_date_shape-via-then-has_date_shape+then-byte_at-eq32+else-is_ascii_digit}
use Rattle.keep_token.proofs.word.word_len.Goals.{else-has_date_shape-via-then-has_date_shape+else-byte_at-eq32}
use Rattle.keep_token.proofs.word.word_len.Goals.{else-has_date_shape-via-else-has_date_shape}
use Rattle.keep_token.proofs.word.word_len.Goals as goal

by_tests : (t : List ℕ) (n : ℕ) (a b d : Bool) → n ≡ prefix_len is_word t → a ≡ has_date_shape (take n t)
    → b ≡ (slice_index t n == 0x20) → d ≡ is_ascii_digit (slice_index t (n + 1))
    → cond (a && (b && d)) (n + 1 + prefix_len is_word (drop (n + 1) t)) n ≡ word_len t
by_tests t n a b d e f g h = rw (f, g, h, e) refl

space : (r s : ℕ) → r ≡ s → r ≡ 0x20 → true ≡ (s == 0x20)
space r s e f = let g : s ≡ 0x20 = sym e ∙ f in rw g refl

no_space : (r s : ℕ) → r ≡ s → (r ≡ 0x20 → ⊥) → false ≡ (s == 0x20)
no_space r s e f = grind (arith, nat_tests)

here : (t : List ℕ) (n : ℕ) → slice_index (drop n t) 0 ≡ slice_index t n
here t n = rw (get_or-drop n t 0 0, add-zero) refl

next : (t : List ℕ) (n : ℕ) → slice_index (drop n t) 1 ≡ slice_index t (n + 1)
next t n = get_or-drop n t 1 0

pub returns-then-is_ascii_digit-clause-len : goal.returns-then-is_ascii_digit-clause-len
returns-then-is_ascii_digit-clause-len c =
    let t = c.args.bytes.now in
    let n = c.word_run-run.result in
    let shape = sym c.if-has_date_shape.true ∙ c.has_date_shape.ensures in
    let blank =
    space _ _ (c.byte_at.ensures ∙ ap (λ l. slice_index l 0) (take_rest t n) ∙ here t n) c.if-byte_at-eq32.true in
    let digit =
    sym c.if-is_ascii_digit.true ∙ c.is_ascii_digit.ensures.value
    ∙ ap is_ascii_digit (c.byte_at-then-byte_at-eq32.ensures ∙ ap (λ l. slice_index l 1) (take_rest t n) ∙ next t n) in
    let all = by_tests t n true true true c.word_run-run.ensures.len shape blank digit in
    let more =
    c.word_run.ensures.len
    ∙ ap (prefix_len is_word) (take_rest (take (length t - n) (drop n t)) 1 ∙ ap (drop 1) (take_rest t n)
    ∙ drop-drop 1 n t) in
    ap (λ m. n + 1 + m) more ∙ all

pub returns-else-has_date_shape-clause-len : goal.returns-else-has_date_shape-clause-len
returns-else-has_date_shape-clause-len c =
    let t = c.args.bytes.now in
    let n = c.word_run-run.result in
    elim c.else-has_date_shape.branch [
      | else-has_date_shape-via-then-has_date_shape+then-byte_at-eq32+else-is_ascii_digit w ↦
          let shape = sym w.if-has_date_shape.true ∙ c.has_date_shape.ensures in
          let blank =
          space _ _ (w.byte_at.ensures ∙ ap (λ l. slice_index l 0) (take_rest t n) ∙ here t n) w.if-byte_at-eq32.true in
          let digit =
          sym w.if-is_ascii_digit.false ∙ w.is_ascii_digit.ensures.value
          ∙ ap is_ascii_digit (w.byte_at-then-byte_at-eq32.ensures ∙ ap (λ l. slice_index l 1) (take_rest t n)
          ∙ next t n) in
          by_tests t n true true false c.word_run-run.ensures.len shape blank digit
      | else-has_date_shape-via-then-has_date_shape+else-byte_at-eq32 w ↦
          let shape = sym w.if-has_date_shape.true ∙ c.has_date_shape.ensures in
          let blank =
          no_space _ _ (w.byte_at.ensures ∙ ap (λ l. slice_index l 0) (take_rest t n) ∙ here t n)
          w.if-byte_at-eq32.false in
          by_tests t n true false (is_ascii_digit (slice_index t (n + 1))) c.word_run-run.ensures.len shape blank refl
      | else-has_date_shape-via-else-has_date_shape w ↦
          let shape = sym w.if-has_date_shape.false ∙ c.has_date_shape.ensures in
          by_tests t n false (slice_index t n == 0x20) (is_ascii_digit (slice_index t (n + 1)))
          c.word_run-run.ensures.len shape refl refl
    ]
