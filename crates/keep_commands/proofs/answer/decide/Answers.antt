use Rattle.std.proofs.Common.{◌≡◌, ◌⊎◌, sym, subst}
use Rattle.std.specs.Prelude.{MatchResult}
use Rattle.keep_edit.specs.Reading.{ProfiledText, text_in}
use Rattle.keep_commands.specs.Answer.{IsRefusal}
use Rattle.keep_commands.specs.Written.{IsAnswer}
use Rattle.keep_commands.specs.declared.command.Command.{Command}
use Rattle.keep_commands.specs.declared.command.Command.TheVariants.{Apply, ApplyWide}
use Rattle.keep_commands.specs.declared.fault.RunFault.TheVariants as run
use Rattle.keep_commands.proofs.AnswerLaws.{listed, read_refusal, apply_answer, apply_applies, apply_wide_applies}
use Rattle.keep_commands.proofs.answer.decide.Goals as goal

pub returns-in-Err : goal.returns-in-Err
returns-in-Err c =
    rw (c.of_read.ensures) (read_refusal c.args.command.now (text_in c.args.profile c.args.bytes.items) c.in-Err.fault
    c.in-Err.ensures.faults)

pub returns-in-List : goal.returns-in-List
returns-in-List c =
    listed c.args.command.now (text_in c.args.profile c.args.bytes.items) c.in-Ok.document c.list.result c.in-List.is
    c.in-Ok.ensures.text c.list.ensures

pub returns-in-Apply : goal.returns-in-Apply
returns-in-Apply c =
    let input : ProfiledText = text_in c.args.profile c.args.bytes.items in
    let same : c.in-Ok.document ≡ input = c.in-Ok.ensures.text in
    subst (λ (k : Command).
    MatchResult c.after_edits.result (IsAnswer k input) (λ f. (f ≡ run.Memory) ⊎ IsRefusal k input f))
    (sym c.in-Apply.is)
    (apply_answer (Apply c.in-Apply.edits) input c.in-Ok.document c.as_slice.result.now c.in-Apply.edits
    c.after_edits.result (apply_applies c.in-Apply.edits) c.as_slice.ensures.value same c.in-Ok.ensures.accepted
    c.after_edits.ensures)

pub returns-in-ApplyWide : goal.returns-in-ApplyWide
returns-in-ApplyWide c =
    let input : ProfiledText = text_in c.args.profile c.args.bytes.items in
    let same : c.in-Ok.document ≡ input = c.in-Ok.ensures.text in
    subst (λ (k : Command).
    MatchResult c.after_edits-in-ApplyWide.result (IsAnswer k input) (λ f. (f ≡ run.Memory) ⊎ IsRefusal k input f))
    (sym c.in-ApplyWide.is)
    (apply_answer (ApplyWide c.in-ApplyWide.edits) input c.in-Ok.document c.as_slice-in-ApplyWide.result.now
    c.in-ApplyWide.edits c.after_edits-in-ApplyWide.result (apply_wide_applies c.in-ApplyWide.edits)
    c.as_slice-in-ApplyWide.ensures.value same c.in-Ok.ensures.accepted c.after_edits-in-ApplyWide.ensures)
