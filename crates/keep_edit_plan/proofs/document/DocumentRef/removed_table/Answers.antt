use Rattle.keep_edit_plan.proofs.SectionLaws.{each_table}
use Rattle.keep_edit_plan.proofs.document.DocumentRef.removed_table.Goals as goal

pub returns-clause-removed : goal.returns-clause-removed
returns-clause-removed c = λ s read.
    each_table c.args.self.now.profile s c.args.path.now (c.ends_in_key.ensures.0 c.if-not-ends_in_key.false)
    c.removed_section.result (c.removed_section.ensures.removed s read)
