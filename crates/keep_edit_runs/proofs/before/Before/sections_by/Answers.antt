use Rattle.std.proofs.Common.{◌≡◌, ◌+◌, ◌<◌, ℕ, suc, List, [], length, sym, subst, ◌∙◌, arith}
use Rattle.keep_path.specs.Path.{Part}
use Rattle.keep_edit_runs.specs.Runs.{MakeChanges}
use Rattle.keep_edit_runs.proofs.RunSteps.{added, unadded}
use Rattle.keep_edit_runs.proofs.SectionSteps.{AreSectionsTaken, more_sections, no_sections, sections_made}
use Rattle.keep_edit_runs.proofs.before.Before.sections_by.Goals as goal

pub loop-number-init : goal.loop-number-init
loop-number-init c =
    subst (AreSectionsTaken c.args.edits.now c.args.first c.args.first c.args.self.now c.new-gone.result)
    (sym c.new-sections.ensures)
    (subst (λ (gone : List (List Part)).
    AreSectionsTaken c.args.edits.now c.args.first c.args.first c.args.self.now gone []) (sym c.new-gone.ensures)
    (no_sections c.args.edits.now c.args.first c.args.self.now))

pub returns-in_default-clause-made : goal.returns-in_default-clause-made
returns-in_default-clause-made c =
    sections_made c.args.edits.now c.args.first _ c.args.self.now _ _ c.loop-number.invariant

pub add-requires : goal.add-requires
add-requires c = c.in-Some.ensures.within.ordered

pub returns-clause-made : goal.returns-clause-made
returns-clause-made c = sections_made c.args.edits.now c.args.first _ c.args.self.now _ _ c.loop-number.invariant

pub returns-then-not-unwrap_or-clause-made : goal.returns-then-not-unwrap_or-clause-made
returns-then-not-unwrap_or-clause-made c =
    let first = c.args.first in
    unadded (λ cs. MakeChanges c.args.edits.now first (first + length cs) c.args.self.now cs) c.add.result
    c.loop-number.sections _ c.add.new.self c.add.ensures.added c.add.ensures.refused
    (sym c.unwrap_or.ensures ∙ c.if-not-unwrap_or.true)
    (sections_made c.args.edits.now first _ c.args.self.now _ _ c.loop-number.invariant)

pub loop-number-preserved : goal.loop-number-preserved
loop-number-preserved c =
    let edits = c.args.edits.now in
    let first = c.args.first in
    let now = c.args.self.now in
    let number = c.loop-number.number in
    let low : number < length edits = omega (arith, c.loop-number-test.true, c.min-end.ensures) in
    let one : suc number ≡ number + 1 = omega arith in
    let is = added c.add.result c.loop-number.sections _ c.add.new.self _ c.add.ensures.beside c.add.ensures.added
    (sym c.unwrap_or.ensures ∙ c.if-not-unwrap_or.false) in
    subst (λ (n : ℕ). AreSectionsTaken edits first n now c.section_by.new.gone c.add.new.self) one
    (subst (AreSectionsTaken edits first (suc number) now c.section_by.new.gone) (sym is.1)
    (more_sections edits first number now c.loop-number.gone c.section_by.new.gone c.loop-number.sections
    c.index-edits-number.result
    c.index-edits-number.result c.in-Some.section c.loop-number.invariant low (sym c.index-edits-number.is)
    c.in-Some.ensures is.0))
