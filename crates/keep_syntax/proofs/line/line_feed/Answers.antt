use Rattle.std.proofs.Common.{Ok, Err, arith}
use Rattle.std.proofs.lemmas.List.{get_or_past}
use Rattle.std.proofs.lemmas.Result.{err_from_is_err_and}
use Rattle.keep_syntax_store.specs.Flat.{flat}
use Rattle.keep_syntax.proofs.LineCodeLaws.{newline_1}
use Rattle.keep_syntax.proofs.line.line_feed.Goals as goal

pub returns-in_err-next : goal.returns-in_err-next
returns-in_err-next c =
    let p = err_from_is_err_and c.from_residual.result c.from_residual.ensures.1 in
    let text = c.args.text.now in
    rw (p.1, p.2) (
      λ is.
          absurd (let past = get_or_past text c.args.at 0 (omega (arith, is)) in omega (arith, past, c.requires.feed)),
      newline_1 text c.args.at (flat c.args.out.now) (flat c.punctuation.new.out) (Err c.in_err-next.field-0.0)
          c.requires.feed c.in_err-next.ensures,
    )

pub returns : goal.returns
returns c =
    newline_1 c.args.text.now c.args.at (flat c.args.out.now) (flat c.punctuation.new.out) (Ok c.in_ok-next.next)
    c.requires.feed c.in_ok-next.ensures
