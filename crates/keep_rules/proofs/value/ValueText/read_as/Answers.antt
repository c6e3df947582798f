use Rattle.std.proofs.lemmas.Result.{err_from_is_err_and}
use Rattle.keep_rules.proofs.ValueLaws.{was_read, no_value, holds}
use Rattle.keep_rules.proofs.value.ValueText.read_as.Goals as goal

pub returns-in_err-check_value-clause-only : goal.returns-in_err-check_value-clause-only
returns-in_err-check_value-clause-only c = λ (v, read).
    let p = err_from_is_err_and c.from_residual-in_err-check_value.result
    c.from_residual-in_err-check_value.ensures.1 in
    rw (
      p.1,
      p.2,
    ) (c.in_err-check_value.ensures.read v (was_read read.reads (c.in_ok-syntax.ensures.only v read.reads)) read.obeys)

pub returns-in_err-check_value-clause-faults : goal.returns-in_err-check_value-clause-faults
returns-in_err-check_value-clause-faults c =
    let p = err_from_is_err_and c.from_residual-in_err-check_value.result
    c.from_residual-in_err-check_value.ensures.1 in
    rw (p.1, p.2) (no_value c.args.profile _ _ _ c.in_ok-syntax.ensures.found c.in_err-check_value.ensures.faults)

pub invariant_of-result : goal.invariant_of-result
invariant_of-result c =
    rw c.in_ok-text.ensures.ok (holds c.args.profile _ _ _ _ c.requires c.in_ok-syntax.ensures.found
    c.in_ok-check_value.ensures.ok _ c.value.ensures.stored c.kind_of-kind.ensures c.depth-depth.ensures)
