use Rattle.std.proofs.Common.{refl, rules}
use Rattle.keep_syntax.proofs.ReadLaws.{found, only, of_text, within, few, only_memory, is_fault}
use Rattle.keep_syntax.proofs.syntax.Syntax.read.Goals as goal

pub returns-in_err-parts-clause-only : goal.returns-in_err-parts-clause-only
returns-in_err-parts-clause-only c =
    λ d r. let h =
    only_memory c.args.limits.profile c.args.limits.depth c.args.text.now c.in_err-parts.field-0.0
    c.in_err-parts.ensures d r in search rules

pub returns-in_err-parts-clause-faults : goal.returns-in_err-parts-clause-faults
returns-in_err-parts-clause-faults c =
    let h = is_fault c.args.limits.profile c.args.limits.depth c.args.text.now c.in_err-parts.field-0.0
    c.in_err-parts.ensures in search rules

pub returns-clause-found : goal.returns-clause-found
returns-clause-found c =
    found c.args.limits.profile c.args.limits.depth c.args.text.now c.in_ok-parts.parts c.in_ok-parts.lines _
    (c.in_ok-parts.ensures, refl)

pub returns-clause-only : goal.returns-clause-only
returns-clause-only c =
    only c.args.limits.profile c.args.limits.depth c.args.text.now c.in_ok-parts.parts c.in_ok-parts.lines _
    (c.in_ok-parts.ensures, refl)

pub returns-clause-of_text : goal.returns-clause-of_text
returns-clause-of_text c =
    of_text c.args.limits.profile c.args.limits.depth c.args.text.now c.in_ok-parts.parts c.in_ok-parts.lines _
    (c.in_ok-parts.ensures, refl)

pub returns-clause-within : goal.returns-clause-within
returns-clause-within c =
    within c.args.limits.profile c.args.limits.depth c.args.text.now c.in_ok-parts.parts c.in_ok-parts.lines _
    (c.in_ok-parts.ensures, refl)

pub returns-clause-few : goal.returns-clause-few
returns-clause-few c =
    few c.args.limits.profile c.args.limits.depth c.args.text.now c.in_ok-parts.parts c.in_ok-parts.lines _
    (c.in_ok-parts.ensures, refl)
