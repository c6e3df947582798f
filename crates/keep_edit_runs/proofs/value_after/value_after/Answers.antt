use Rattle.std.proofs.Common.{◌≡◌, ◌++◌, ℕ, List, ap, arith, codes, string_bytes, subst}
use Rattle.std.specs.Prelude.{IfOk}
use Rattle.keep_types.specs.declared.syntax.Span.{Span}
use Rattle.keep_edit_plan.specs.TextEdits.{MakesSetHere}
use Rattle.keep_edit_plan.specs.Reading.{IsAccepted, text_in}
use Rattle.keep_edit_runs.proofs.ValueAfterLaws.{makes_value, ok_there}
use Rattle.keep_edit_runs.proofs.value_after.value_after.Goals as goal

pub returns : goal.returns
returns c =
    let text_is : string_bytes c.in_ok-text.text ≡ codes "v = " ++ c.args.was.now =
    ok_there (λ r. IfOk r (λ text. string_bytes text ≡ codes "v = " ++ c.args.was.now)) c.text_alone.result _
    c.in_ok-text.ensures.value c.text_alone.ensures in
    let place_is : c.in_ok-place.field-0.place ≡ c.in_ok-place.place = c.in_ok-place.place-is in
    makes_value c.args.profile c.args.was.now (string_bytes c.in_ok-text.text) c.args.edit.now c.in_ok-alone.alone
    c.in_ok-place.field-0 text_is
    (omega (arith, c.if-place-ne4.false, ap (λ (p : Span). p.start) place_is))
    (omega (arith, c.if-place-len.false, ap (λ (p : Span). p.end) place_is, c.len.ensures))
    (subst (λ (text : List ℕ). IsAccepted (text_in c.args.profile text)) c.as_str.ensures.value
    c.in_ok-place.ensures.read)
    c.in_ok-alone.ensures
    (subst (λ (text : List ℕ). MakesSetHere (text_in c.args.profile text) c.in_ok-alone.alone c.in_ok-place.field-0)
    c.as_str.ensures.value c.in_ok-place.ensures.made)
