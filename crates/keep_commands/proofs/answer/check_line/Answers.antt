use Rattle.std.proofs.Common.{◌∙◌}
use Rattle.keep_commands.proofs.AnswerLaws.{check_text, wide_text}
use Rattle.keep_commands.proofs.answer.check_line.Goals as goal

pub returns-clause-check : goal.returns-clause-check
returns-clause-check c =
    λ bytes are.
    check_text c.args.document.now bytes c.counts.result c.counts.ensures.accepted c.counts.ensures.counts
    (are ∙ c.in_ok-counts_text.ensures)

pub returns-clause-wide : goal.returns-clause-wide
returns-clause-wide c =
    λ bytes are.
    wide_text c.args.document.now bytes c.counts.result c.counts.ensures.accepted c.counts.ensures.counts
    (are ∙ c.in_ok-counts_text.ensures)
