use Rattle.std.proofs.Common.{rules}
use Rattle.keep_syntax.proofs.ReadLaws.{found_value, only_value, value_within, value_only_memory, is_value_fault}
use Rattle.keep_syntax.proofs.alone.ValueSyntax.read.Goals as goal

pub returns-in_err-parts-clause-only : goal.returns-in_err-parts-clause-only
returns-in_err-parts-clause-only c =
    λ v r. let h =
    value_only_memory c.args.limits.profile c.args.limits.depth c.args.text.now c.in_err-parts.field-0.0
    c.in_err-parts.ensures v r in search rules

pub returns-in_err-parts-clause-faults : goal.returns-in_err-parts-clause-faults
returns-in_err-parts-clause-faults c =
    let h = is_value_fault c.args.limits.profile c.args.limits.depth c.args.text.now c.in_err-parts.field-0.0
    c.in_err-parts.ensures in search rules

pub returns-clause-found : goal.returns-clause-found
returns-clause-found c =
    found_value c.args.limits.profile c.args.limits.depth c.args.text.now c.in_ok-parts.parts c.deepest-depth.result
    c.in_ok-parts.ensures c.deepest-depth.ensures

pub returns-clause-only : goal.returns-clause-only
returns-clause-only c =
    only_value c.args.limits.profile c.args.limits.depth c.args.text.now c.in_ok-parts.parts c.deepest-depth.result
    c.in_ok-parts.ensures c.deepest-depth.ensures

pub returns-clause-within : goal.returns-clause-within
returns-clause-within c =
    value_within c.args.limits.profile c.args.limits.depth c.args.text.now c.in_ok-parts.parts c.in_ok-parts.ensures

pub deepest-depth-requires : goal.deepest-depth-requires
deepest-depth-requires c =
    value_within c.args.limits.profile c.args.limits.depth c.args.text.now c.in_ok-parts.parts c.in_ok-parts.ensures
