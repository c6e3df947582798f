use Rattle.std.proofs.Common.{refl, sym, suc, ◌∙◌}
use Rattle.keep_edit_spec.proofs.Shared.{same_place}
use Rattle.keep_edit_plan.proofs.LineWriting.{section_ends}
use Rattle.keep_edit_plan.proofs.RemoveSteps.{section_here, text_none}
use Rattle.keep_edit_plan.proofs.remove.section_cut.Goals as goal

pub returns-clause-place : goal.returns-clause-place
returns-clause-place c = λ bytes.
    let ends =
    section_ends c.args.number (suc c.args.number) c.statement-start.result _ c.statement-start.ensures refl in
    same_place _ _ _ _ _ _ refl (c.section_end.ensures ∙ ends) (text_none bytes c.statement-start.result.line.start)
    ∙ sym (section_here c.args.number c.statement-start.result _ c.statement-start.ensures)
