use Rattle.std.proofs.Common.{◌≡◌, ◌==◌, get_or, false, arith}
use Rattle.std.proofs.lemmas.Bool.Decides.{nat_tests}
use Rattle.std.proofs.lemmas.Result.{err_from_is_err_and}
use Rattle.keep_syntax_store.specs.Flat.{flat}
use Rattle.keep_syntax.proofs.GapCodeLaws.{fails_bad}
use Rattle.keep_syntax.proofs.KeyCodeLaws.{name_fails_key, name_bad, name_is}
use Rattle.keep_syntax.proofs.key.key_and_equals.Goals as goal

pub returns-in_err-equals : goal.returns-in_err-equals
returns-in_err-equals c =
    let p = err_from_is_err_and c.from_residual.result c.from_residual.ensures.1 in
    rw (
      p.1,
      p.2,
    ) (name_fails_key c.args.profile c.args.text.now c.args.at c.in_err-equals.field-0.0 c.in_err-equals.ensures)

pub returns-then-byte_at-ne61 : goal.returns-then-byte_at-ne61
returns-then-byte_at-ne61 c =
    let other : (get_or c.args.text.now c.in_ok-equals.equals 0 == 61) ≡ false =
    grind (arith, nat_tests, c.byte_at.ensures) in
    fails_bad c.args.text.now c.syntax_fault_at.result _ c.syntax_fault_at.ensures
    (name_bad c.args.profile c.args.text.now c.args.at c.in_ok-equals.equals (flat c.args.out.now) (flat c.key.new.out)
    c.in_ok-equals.ensures other)

pub returns : goal.returns
returns c =
    name_is c.args.profile c.args.text.now c.args.at c.in_ok-equals.equals c.in_ok-after.after (flat c.args.out.now)
    (flat c.key.new.out) (flat c.punctuation.new.out) (flat c.space.new.out) c.space.result
    c.in_ok-equals.ensures (omega (arith, c.byte_at.ensures)) c.in_ok-after.ensures c.space.ensures
