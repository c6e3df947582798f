use Rattle.std.proofs.Common.{◌∙◌}
use Rattle.keep_commands.proofs.AnswerLaws.{get_text, get_refusal}
use Rattle.keep_commands.proofs.answer.value_line.Goals as goal

pub returns-in_ok-line_of-in-Ok : goal.returns-in_ok-line_of-in-Ok
returns-in_ok-line_of-in-Ok c =
    λ bytes are.
    get_text c.args.document.now c.args.path.now c.in-Ok.value.now bytes c.in-Ok.ensures.accepted c.in-Ok.ensures.got
    (are ∙ c.in_ok-line_of-in-Ok.ensures)

pub returns-in-Err : goal.returns-in-Err
returns-in-Err c =
    rw (c.of_edit.ensures) (get_refusal c.args.document.now c.args.path.now c.in-Err.fault c.in-Err.ensures.accepted
    c.in-Err.ensures.got)
