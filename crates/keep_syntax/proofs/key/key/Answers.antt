use Rattle.std.proofs.lemmas.Result.{err_from_is_err_and}
use Rattle.keep_syntax_store.specs.Flat.{flat}
use Rattle.keep_syntax.proofs.KeyCodeLaws.{key_fails_part, key_is}
use Rattle.keep_syntax.proofs.key.key.Goals as goal

pub returns-in_err-end : goal.returns-in_err-end
returns-in_err-end c =
    let p = err_from_is_err_and c.from_residual.result c.from_residual.ensures.1 in
    rw (p.1, p.2) (key_fails_part c.args.profile c.args.text.now c.args.at c.in_err-end.field-0.0 c.in_err-end.ensures)

pub returns : goal.returns
returns c =
    key_is c.args.profile c.args.text.now c.args.at c.in_ok-end.end (flat c.args.out.now) (flat c.key_part.new.out)
    (flat c.dotted_rest.new.out) c.dotted_rest.result c.in_ok-end.ensures c.dotted_rest.ensures
