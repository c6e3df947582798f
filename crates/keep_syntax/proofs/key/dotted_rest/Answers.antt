use Rattle.std.proofs.Common.{◌≡◌, ◌==◌, get_or, false, arith}
use Rattle.std.proofs.lemmas.Bool.Decides.{nat_tests}
use Rattle.std.proofs.lemmas.Result.{err_from_is_err_and}
use Rattle.keep_syntax_store.specs.Flat.{flat}
use Rattle.keep_syntax.proofs.KeyCodeLaws.{further_none, further_done, further_fails, further_more}
use Rattle.keep_syntax.proofs.key.dotted_rest.Goals as goal

pub parts-init : goal.parts-init
parts-init c = further_none c.args.profile c.args.text.now c.args.at (flat c.args.out.now) c.requires

pub returns-then-byte_at-ne46 : goal.returns-then-byte_at-ne46
returns-then-byte_at-ne46 c =
    let other : (get_or c.args.text.now c.in_ok-dot.dot 0 == 46) ≡ false =
    grind (arith, nat_tests, c.byte_at.ensures) in
    further_done c.args.profile c.args.text.now c.args.at c.parts.here c.in_ok-dot.dot (flat c.args.out.now)
    (flat c.parts.out) (flat c.space.new.out) c.parts.invariant c.in_ok-dot.ensures other

pub returns-in_err-here : goal.returns-in_err-here
returns-in_err-here c =
    let p = err_from_is_err_and c.from_residual-in_err-here.result c.from_residual-in_err-here.ensures.1 in
    rw (
      p.1,
      p.2,
    ) (further_fails c.args.profile c.args.text.now c.args.at c.parts.here c.in_ok-dot.dot c.in_ok-after.after
    c.in_ok-begin.begin (flat c.args.out.now) (flat c.parts.out) (flat c.space.new.out) (flat c.punctuation.new.out)
    (flat c.space-in-parts.new.out) c.in_err-here.field-0.0
    c.parts.invariant c.in_ok-dot.ensures (omega (arith, c.byte_at.ensures)) c.in_ok-after.ensures.end_is
    c.in_ok-begin.ensures c.in_err-here.ensures)

pub parts-preserved : goal.parts-preserved
parts-preserved c =
    further_more c.args.profile c.args.text.now c.args.at c.parts.here c.in_ok-dot.dot c.in_ok-after.after
    c.in_ok-begin.begin c.in_ok-here.here (flat c.args.out.now) (flat c.parts.out) (flat c.space.new.out)
    (flat c.punctuation.new.out) (flat c.space-in-parts.new.out) (flat c.key_part.new.out)
    c.parts.invariant c.in_ok-dot.ensures (omega (arith, c.byte_at.ensures)) c.in_ok-after.ensures c.in_ok-begin.ensures
    c.in_ok-here.ensures
