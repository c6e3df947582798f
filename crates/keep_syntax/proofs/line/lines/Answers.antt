use Rattle.std.proofs.Common.{ℕ, Option, Ok, subst}
use Rattle.std.proofs.lemmas.Result.{err_from_is_err_and}
use Rattle.keep_syntax_store.specs.Flat.{flat}
use Rattle.keep_syntax.specs.FlatLines.{LineRead}
use Rattle.keep_syntax.proofs.LineLoopLaws.{lines_none, lines_more, lines_end, lines_fail}
use Rattle.keep_syntax.proofs.line.lines.Goals as goal

pub lines-init : goal.lines-init
lines-init c =
    lines_none c.args.limits.profile c.args.limits.depth c.args.text.now c.args.begin (flat c.args.out.now)
    c.args.starts.now c.push.new.self c.requires c.in_ok-push.ensures.ok

pub returns-in_err-next : goal.returns-in_err-next
returns-in_err-next c =
    let p = err_from_is_err_and c.from_residual-in_err-next.result c.from_residual-in_err-next.ensures.1 in
    rw (
      p.1,
      p.2,
    ) (lines_fail c.args.limits.profile c.args.limits.depth c.args.text.now c.args.begin c.lines.at
    (flat c.args.out.now) (flat c.lines.out) c.args.starts.now c.lines.starts c.in_err-next.field-0.0 c.lines.invariant
    c.in_err-next.ensures)

pub returns : goal.returns
returns c =
    let read =
    subst (λ (o : Option ℕ).
    LineRead c.args.limits.profile c.args.limits.depth c.args.text.now c.lines.at (flat c.lines.out)
    (flat c.line.new.out) (Ok o)) c.in_default.is c.in_ok-next.ensures in
    lines_end c.args.limits.profile c.args.limits.depth c.args.text.now c.args.begin c.lines.at (flat c.args.out.now)
    (flat c.lines.out) (flat c.line.new.out) c.args.starts.now c.lines.starts c.lines.invariant read

pub lines-preserved : goal.lines-preserved
lines-preserved c =
    let read =
    subst (λ (o : Option ℕ).
    LineRead c.args.limits.profile c.args.limits.depth c.args.text.now c.lines.at (flat c.lines.out)
    (flat c.line.new.out) (Ok o)) c.in-Some.is c.in_ok-next.ensures in
    lines_more c.args.limits.profile c.args.limits.depth c.args.text.now c.args.begin c.lines.at c.in-Some.next
    (flat c.args.out.now) (flat c.lines.out) (flat c.line.new.out)
    c.args.starts.now c.lines.starts c.push-in-Some.new.self c.lines.invariant read c.in_ok-push-2.ensures.ok
