use Rattle.std.proofs.lemmas.Result.{err_from_is_err_and}
use Rattle.keep_syntax_store.specs.Flat.{flat}
use Rattle.keep_syntax.proofs.WholeCodeLaws.{document_fails, document_is}
use Rattle.keep_syntax.proofs.whole.read_lines.Goals as goal

pub returns-in_err-lines : goal.returns-in_err-lines
returns-in_err-lines c =
    let p = err_from_is_err_and c.from_residual-in_err-lines.result c.from_residual-in_err-lines.ensures.1 in
    rw (
      p.1,
      p.2,
    ) (document_fails c.args.limits.profile c.args.limits.depth c.args.text.now c.in_ok-begin.begin
    (flat c.new-out.result) (flat c.bom.new.out) c.in_err-lines.field-0.0 c.in_ok-begin.ensures c.in_err-lines.ensures)

pub returns : goal.returns
returns c =
    document_is c.args.limits.profile c.args.limits.depth c.args.text.now c.in_ok-begin.begin (flat c.new-out.result)
    (flat c.bom.new.out) (flat c.lines.new.out) c.new-starts.result c.lines.new.starts
    c.new-out.ensures c.new-starts.ensures c.in_ok-begin.ensures c.in_ok-lines.ensures
