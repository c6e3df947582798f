use Rattle.std.proofs.Common.{◌≡◌, ℕ, List, take, arith, sym, ap, ◌∙◌}
use Rattle.std.proofs.lemmas.Grind.{common_steps}
use Rattle.std.specs.Char.{is_ascii_digit}
use Rattle.std.specs.List.{prefix_len}
use Rattle.keep_path.specs.IndexText.{closes}
use Rattle.keep_path.proofs.IndexLaws.{IndexIs, bracket_cut, index_found, not_closed, not_parsed}
use Rattle.keep_path.proofs.index_text.read_index.Goals as goal

pub returns-then-not-closes-clause-none : goal.returns-then-not-closes-clause-none
returns-then-not-closes-clause-none c _ n rest small is =
    let e : c.digits_len-digits.result ≡ prefix_len is_ascii_digit c.args.text.now = cc in
    let at_text = ap (λ (t : List ℕ). closes t c.digits_len-digits.result) (sym c.as_bytes-2.ensures.value) in
    not_closed c.args.text.now c.digits_len-digits.result e (at_text ∙ sym c.closes.ensures ∙ c.if-not-closes.true) n
    rest small is

index_is : (c : goal.In-Ok) → IndexIs c.args.text.now c.digits_len-digits.result c.in-Ok.number
index_is c =
    let e : c.digits_len-digits.result ≡ prefix_len is_ascii_digit c.args.text.now = cc in
    let at_text = ap (λ (t : List ℕ). closes t c.digits_len-digits.result) (sym c.as_bytes-2.ensures.value) in
    let digits : c.range.result.now ≡ take c.digits_len-digits.result c.args.text.now = grind (arith, common_steps) in
    index_found c.args.text.now c.digits_len-digits.result c.in-Ok.number c.parse.result c.in-Ok.is e
    (at_text ∙ sym c.closes.ensures ∙ c.if-not-closes.false) (rw digits at c.parse.ensures.value.0)

pub returns-in-Ok-clause-small : goal.returns-in-Ok-clause-small
returns-in-Ok-clause-small c = (index_is c).small

pub returns-in-Ok-clause-found : goal.returns-in-Ok-clause-found
returns-in-Ok-clause-found c = (index_is c).found

pub returns-in-Ok-clause-len : goal.returns-in-Ok-clause-len
returns-in-Ok-clause-len c = (index_is c).len

pub returns-in-Err-clause-none : goal.returns-in-Err-clause-none
returns-in-Err-clause-none c _ n rest small is =
    let e : c.digits_len-digits.result ≡ prefix_len is_ascii_digit c.args.text.now = cc in
    let digits : c.range.result.now ≡ take c.digits_len-digits.result c.args.text.now = grind (arith, common_steps) in
    not_parsed c.args.text.now c.digits_len-digits.result c.in-Err.field-0 e
    (rw (digits, c.in-Err.is) at c.parse.ensures.value.0) n rest small is

pub returns-in-Ok-clause-ends : goal.returns-in-Ok-clause-ends
returns-in-Ok-clause-ends c =
    let e : c.digits_len-digits.result ≡ prefix_len is_ascii_digit c.args.text.now = cc in
    let at_text = ap (λ (t : List ℕ). closes t c.digits_len-digits.result) (sym c.as_bytes-2.ensures.value) in
    bracket_cut c.args.text.now c.digits_len-digits.result c.utf8.text
    (at_text ∙ sym c.closes.ensures ∙ c.if-not-closes.false)
