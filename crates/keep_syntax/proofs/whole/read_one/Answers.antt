use Rattle.std.proofs.lemmas.Result.{err_from_is_err_and}
use Rattle.std.proofs.lemmas.Str.{IsCharBoundary-start}
use Rattle.std.proofs.Common.{arith}
use Rattle.keep_syntax_store.specs.Flat.{flat}
use Rattle.keep_syntax.proofs.WholeCodeLaws.{one_fails, one_bad, one_is}
use Rattle.keep_syntax.proofs.whole.read_one.Goals as goal

pub value-requires-clause-bound : goal.value-requires-clause-bound
value-requires-clause-bound c = IsCharBoundary-start c.args.text.now c.utf8.text

pub returns-in_err-end : goal.returns-in_err-end
returns-in_err-end c =
    let p = err_from_is_err_and c.from_residual.result c.from_residual.ensures.1 in
    rw (
      p.1,
      p.2,
    ) (one_fails c.args.limits.profile c.args.limits.depth c.args.text.now c.in_err-end.field-0.0 c.in_err-end.ensures)

pub returns-then-end-text : goal.returns-then-end-text
returns-then-end-text c =
    one_bad c.args.limits.profile c.args.limits.depth c.args.text.now c.in_ok-end.end (flat c.new-out.result)
    (flat c.value.new.out) c.syntax_fault_at.result c.in_ok-end.ensures c.if-end-text.true c.syntax_fault_at.ensures

pub returns : goal.returns
returns c =
    one_is c.args.limits.profile c.args.limits.depth c.args.text.now c.in_ok-end.end (flat c.new-out.result)
    (flat c.value.new.out) c.new-out.ensures c.in_ok-end.ensures (omega (arith, c.if-end-text.false))
