use Rattle.keep_edit_runs.proofs.SectionSteps.{AreSectionsTaken}
use Rattle.keep_edit_runs.proofs.before.Before.sections_by.Given as goal

abbrev pub invariant-loop-number : goal.invariant-loop-number
invariant-loop-number l = AreSectionsTaken l.edits l.first l.number l.fn.self l.gone l.sections
