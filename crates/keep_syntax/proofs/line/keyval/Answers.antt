use Rattle.std.proofs.Common.{refl, arith, sym, ◌∙◌}
use Rattle.std.proofs.lemmas.Result.{err_from_is_err_and}
use Rattle.keep_syntax_store.specs.Flat.{flat}
use Rattle.keep_syntax.proofs.LineContentLaws.{name_grown, keyval_fails_name, keyval_fails_value, keyval_is}
use Rattle.keep_syntax.proofs.line.keyval.Goals as goal

pub returns-in_err-begin : goal.returns-in_err-begin
returns-in_err-begin c =
    let p = err_from_is_err_and c.from_residual.result c.from_residual.ensures.1 in
    rw (p.1, p.2) (keyval_fails_name c.args.limits.profile c.args.limits.depth c.args.text.now
    c.args.start.now.at c.in_err-begin.field-0.0 c.requires.begins.0 c.requires.begins.1 c.in_err-begin.ensures)

pub overflow_sub-keys : goal.overflow_sub-keys
overflow_sub-keys c =
    let n = name_grown c.args.limits.profile c.args.text.now c.args.start.now.at c.in_ok-begin.begin
    (flat c.args.out.now) (flat c.key_and_equals.new.out) c.in_ok-begin.ensures in
    omega (arith, c.requires.parts, c.key_count.ensures, n.0)

pub value-requires-clause-values : goal.value-requires-clause-values
value-requires-clause-values c =
    let n = name_grown c.args.limits.profile c.args.text.now c.args.start.now.at c.in_ok-begin.begin
    (flat c.args.out.now) (flat c.key_and_equals.new.out) c.in_ok-begin.ensures in
    c.requires.values ∙ sym n.1

pub value-requires-clause-parts : goal.value-requires-clause-parts
value-requires-clause-parts c =
    let n = name_grown c.args.limits.profile c.args.text.now c.args.start.now.at c.in_ok-begin.begin
    (flat c.args.out.now) (flat c.key_and_equals.new.out) c.in_ok-begin.ensures in
    omega (arith, c.requires.parts, c.key_count.ensures, n.0)

pub returns-in_err-end : goal.returns-in_err-end
returns-in_err-end c =
    let p = err_from_is_err_and c.from_residual-in_err-end.result c.from_residual-in_err-end.ensures.1 in
    rw (p.1, p.2) (keyval_fails_value c.args.limits.profile c.args.limits.depth c.args.text.now
    c.args.start.now.at c.in_ok-begin.begin (flat c.args.out.now) (flat c.key_and_equals.new.out)
    c.in_err-end.field-0.0 c.requires.begins.0 c.requires.begins.1 c.in_ok-begin.ensures c.in_err-end.ensures)

pub returns : goal.returns
returns c =
    keyval_is c.args.limits.profile c.args.limits.depth c.args.text.now c.args.start.now c.in_ok-begin.begin
    c.in_ok-end.end c.key_count.result _ (flat c.args.out.now) (flat c.key_and_equals.new.out) (flat c.value.new.out)
    c.requires.begins.0 c.requires.begins.1 c.in_ok-begin.ensures c.requires.parts c.key_count.ensures
    refl c.in_ok-end.ensures
