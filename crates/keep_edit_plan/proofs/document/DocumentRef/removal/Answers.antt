use Rattle.keep_edit_plan.proofs.SectionLaws.{table_makes}
use Rattle.keep_edit_plan.proofs.document.DocumentRef.removal.Goals as goal

pub returns-clause-removed : goal.returns-clause-removed
returns-clause-removed c = λ s read.
    table_makes c.args.self.now.profile s c.args.path.now c.removed_table.result
    (c.removed_table.ensures.removed s read)
