-- The escape is the one of its letter, or of its letter and digits.
use Rattle.std.proofs.Common.{◌+◌, ◌∷◌, List, ℕ, arith, ◌∙◌, sym, subst}
use Rattle.std.proofs.lemmas.Slice.{between_from_start}
use Rattle.keep_token.specs.Pieces.{escape_at}
use Rattle.keep_token.proofs.EscapeLaws.{Occurs, letter_found, number_found}
use Rattle.keep_token.proofs.escape.read_escape.Goals as goal

pub returns-in-Some-clause-escape : goal.returns-in-Some-clause-escape
returns-in-Some-clause-escape c =
    let (some, small, value) = c.in-Some.ensures in
    let found =
    letter_found c.args.profile c.in_ok-letter.letter.now c.in-Some.value c.in_ok-letter.after.now some small value in
    subst (λ (t : List ℕ). Occurs (escape_at c.args.profile t) 2 c.in-Some.value) (sym c.in_ok-letter.ensures.cases.0)
    found

pub returns-clause-escape : goal.returns-clause-escape
returns-clause-escape c =
    let digits = c.in_ok-digits.ensures.lookup.0 in
    let count = c.digit_count-count.result in
    let cut = digits.2 ∙ between_from_start c.in_ok-letter.after.now count in
    let number = c.in_ok-hex_value.ensures in
    let found =
    number_found c.args.profile c.in_ok-letter.letter.now count c.in_ok-hex_value.field-0 c.in_ok-letter.after.now
    c.in_ok-digits.digits.now
    c.in_default.ensures c.digit_count-count.ensures.count (omega arith) cut (omega (arith, digits.3)) number.0 number.1
    c.in_ok-value.ensures.cases in
    subst (λ (t : List ℕ). Occurs (escape_at c.args.profile t) (2 + count) c.in_ok-value.value)
    (sym c.in_ok-letter.ensures.cases.0)
    (subst (λ (v : ℕ).
    Occurs (escape_at c.args.profile (c.in_ok-letter.letter.now ∷ c.in_ok-letter.after.now)) (2 + count) v)
    (sym c.in_ok-value.ensures.value.1) found)
