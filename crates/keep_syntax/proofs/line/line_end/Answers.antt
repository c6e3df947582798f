use Rattle.std.proofs.Common.{drop}
use Rattle.std.proofs.lemmas.Result.{err_from_is_err_and}
use Rattle.keep_syntax_store.specs.Flat.{flat}
use Rattle.keep_syntax.specs.Reading.{comment_at, after_line}
use Rattle.keep_syntax.proofs.LineEndLaws.{only_memory, line_ends}
use Rattle.keep_syntax.proofs.line.line_end.Goals as goal

pub returns-in_err-end : goal.returns-in_err-end
returns-in_err-end c =
    let p = err_from_is_err_and c.from_residual.result c.from_residual.ensures.1 in
    let read = comment_at (drop c.args.at c.args.text.now) in
    rw (
      p.1,
      p.2,
    ) (λ prefix l.
    only_memory c.args.text.now c.in_err-end.field-0.0 read (after_line prefix l read.1) c.in_err-end.ensures)

pub returns : goal.returns
returns c =
    line_ends c.args.text.now c.args.at c.in_ok-end.end (flat c.args.out.now) (flat c.comment.new.out)
    (flat c.newline_or_end.new.out) c.newline_or_end.result c.in_ok-end.ensures c.newline_or_end.ensures
