use Rattle.std.proofs.Common.{◌-◌, arith}
use Rattle.std.proofs.lemmas.Str.{IsCharBoundary-start}
use Rattle.keep_rules.proofs.ValueLaws.{whole_holds, ends_before, no_scalar}
use Rattle.keep_rules.proofs.value.scalar_kind.Goals as goal

pub scan_scalar-requires : goal.scan_scalar-requires
scan_scalar-requires c = IsCharBoundary-start c.args.text.now c.utf8.text

pub returns-in-Ok-clause-found : goal.returns-in-Ok-clause-found
returns-in-Ok-clause-found c =
    rw c.kind_of.ensures (whole_holds c.in-Ok.leaf c.args.text.now (c.in-Ok.end - 0) c.in-Ok.ensures.found.1
    (omega (arith, c.if-end-text.true)))

pub returns-in_default-clause-none : goal.returns-in_default-clause-none
returns-in_default-clause-none c none =
    ends_before c.args.text.now c.in-Ok.leaf c.in-Ok.end c.in-Ok.ensures.value c.if-end-text.false

pub returns-in_default-2-clause-none : goal.returns-in_default-2-clause-none
returns-in_default-2-clause-none c none =
    no_scalar c.args.text.now (rw c.in_default.is at c.scan_scalar.ensures.value)
