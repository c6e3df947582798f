-- The line is that from behind the line feed which the search finds.
use Rattle.std.proofs.Common.{◌<◌, ◌≤◌, ℕ, List, length, take, sym, subst, ◌∙◌, arith}
use Rattle.keep_syntax.specs.Numbered.{span}
use Rattle.keep_edit_plan.specs.SaidSpans.{IsSaidSpan}
use Rattle.keep_edit_plan.proofs.SaidLaws.{line_says, space_ends}
use Rattle.keep_edit_plan.proofs.said.said_line.Goals as goal

pub bounds-bytes-past_space : goal.bounds-bytes-past_space
bounds-bytes-past_space c =
    let bytes = c.as_bytes.result.now in
    let within : c.args.at ≤ length bytes = omega (arith, c.requires, c.as_bytes.ensures.len) in
    let ends = space_ends bytes c.args.at c.in_ok-start.start within c.if-bytes-at-ne10.false c.in_ok-start.ensures in
    subst (λ (n : ℕ). n < length (take c.args.at bytes)) (sym c.past_space.ensures.end) ends

pub returns : goal.returns
returns c =
    let bytes = c.as_bytes.result.now in
    let within : c.args.at ≤ length bytes = omega (arith, c.requires, c.as_bytes.ensures.len) in
    let says = line_says bytes c.args.at c.in_ok-start.start within c.if-bytes-at-ne10.false c.in_ok-start.ensures
    c.past_space.result c.past_space.ensures.end (sym c.begins_nothing.ensures ∙ c.if-begins_nothing.false) in
    subst (λ (text : List ℕ). IsSaidSpan text c.args.at (span c.in_ok-start.start c.args.at)) c.as_bytes.ensures.value
    says
