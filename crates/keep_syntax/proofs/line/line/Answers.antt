use Rattle.std.proofs.Common.{◌≡◌, get_or, drop, refl, arith}
use Rattle.std.proofs.lemmas.Result.{err_from_is_err_and}
use Rattle.keep_syntax_store.specs.Flat.{flat}
use Rattle.keep_syntax.specs.Reading.{space_at, ended_at}
use Rattle.keep_syntax.proofs.LineCodeLaws.{other_comment}
use Rattle.keep_syntax.proofs.LineEndLaws.{only_memory, line_ends, blank_line}
use Rattle.keep_syntax.proofs.line.line.Goals as goal

pub returns-in_err-begin : goal.returns-in_err-begin
returns-in_err-begin c =
    let p = err_from_is_err_and c.from_residual.result c.from_residual.ensures.1 in
    rw (
      p.1,
      p.2,
    ) (λ prefix.
    only_memory c.args.text.now c.in_err-begin.field-0.0 (space_at (drop c.args.at c.args.text.now))
    (ended_at c.args.limits.profile c.args.limits.depth prefix (drop c.args.at c.args.text.now)) c.in_err-begin.ensures)

pub returns-then-byte-eq10 : goal.returns-then-byte-eq10
returns-then-byte-eq10 c =
    let text = c.args.text.now in
    let begin = c.in_ok-begin.begin in
    let f1 = flat c.space.new.out in
    let feed : get_or text begin 0 ≡ 0x0A = omega (arith, c.byte_at-byte.ensures) in
    let none = other_comment text begin f1 c.in_ok-begin.ensures.bound (rw feed refl) in
    blank_line c.args.limits.profile c.args.limits.depth text c.args.at begin (flat c.args.out.now) f1
    (flat c.line_feed.new.out) c.line_feed.result c.in_ok-begin.ensures (rw feed refl)
    (line_ends text begin begin f1 f1 (flat c.line_feed.new.out) c.line_feed.result none c.line_feed.ensures)

pub returns-else-byte-eq10 : goal.returns-else-byte-eq10
returns-else-byte-eq10 c =
    blank_line c.args.limits.profile c.args.limits.depth c.args.text.now c.args.at c.in_ok-begin.begin
    (flat c.args.out.now) (flat c.space.new.out) (flat c.line_end.new.out) c.line_end.result
    c.in_ok-begin.ensures (rw c.byte_at-byte.ensures at rw c.is_line_end.ensures at c.if-not-is_line_end.false)
    c.line_end.ensures

pub returns-then-not-is_line_end : goal.returns-then-not-is_line_end
returns-then-not-is_line_end c = c.statement.ensures (flat c.args.out.now) c.in_ok-begin.ensures
