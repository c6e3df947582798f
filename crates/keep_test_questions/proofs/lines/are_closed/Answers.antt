use Rattle.std.proofs.Common.{ap, length, sym, ◌∙◌, eqb-true}
use Rattle.keep_types.specs.declared.syntax.Span.{Span}
use Rattle.keep_test_questions.proofs.LineLaws.{last_is_empty}
use Rattle.keep_test_questions.proofs.lines.are_closed.Goals as goal

pub returns : goal.returns
returns c = λ ends m reads is.
    last_is_empty c.args.limits.profile m (length c.args.lines.now) reads.valid (ap length reads.spelled)
    (sym (ap (λ (s : Span). s.start) (c.lines.ensures m is))
    ∙ eqb-true c.lines.result.start (length c.args.lines.now) ends)
