use Rattle.std.proofs.Common.{◌∙◌}
use Rattle.keep_token.specs.Scanning.{gap_at}
use Rattle.keep_token.proofs.Ends.{at_rest, gap_at_place, gap_only_found, gap_only_none, gap_ends}
use Rattle.keep_token.proofs.gap.scan_gap.Goals as goal

pub returns-in_err-leaf-clause-only : goal.returns-in_err-leaf-clause-only
returns-in_err-leaf-clause-only c =
    let none =
    at_rest gap_at c.gap_of.result c.as_bytes.result.now c.args.text.now c.args.at c.as_bytes.ensures.value
    c.gap_of.ensures.value ∙ c.in_err-leaf.was in
    gap_only_none c.from_residual.result c.args.text.now c.args.at none

pub returns-clause-found : goal.returns-clause-found
returns-clause-found c =
    let found =
    at_rest gap_at c.gap_of.result c.as_bytes.result.now c.args.text.now c.args.at c.as_bytes.ensures.value
    c.gap_of.ensures.value ∙ c.in_ok-leaf.was in
    gap_at_place c.args.text.now c.args.at c.in_ok-leaf.leaf c.in_ok-leaf.len found

pub returns-clause-only : goal.returns-clause-only
returns-clause-only c =
    let found =
    at_rest gap_at c.gap_of.result c.as_bytes.result.now c.args.text.now c.args.at c.as_bytes.ensures.value
    c.gap_of.ensures.value ∙ c.in_ok-leaf.was in
    gap_only_found c.args.text.now c.args.at c.in_ok-leaf.leaf c.in_ok-leaf.len found

pub returns-clause-ends : goal.returns-clause-ends
returns-clause-ends c =
    let found =
    at_rest gap_at c.gap_of.result c.as_bytes.result.now c.args.text.now c.args.at c.as_bytes.ensures.value
    c.gap_of.ensures.value ∙ c.in_ok-leaf.was in
    gap_ends c.args.text.now c.args.at c.in_ok-leaf.leaf c.in_ok-leaf.len (λ i. (c.type_inv.text i).fits) c.utf8.text
    c.requires.0 found
