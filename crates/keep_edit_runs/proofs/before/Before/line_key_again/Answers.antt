use Rattle.std.proofs.Common.{List, length, subst, ap, ◌≡◌, ◌∙◌, ℕ, arith}
use Rattle.keep_syntax.specs.Tree.{Document}
use Rattle.keep_path.specs.Path.{Part, beside}
use Rattle.keep_meaning.specs.Meaning.{mentions_in}
use Rattle.keep_edit_spec.specs.Edits as law
use Rattle.keep_edit_spec.specs.Look.{holder}
use Rattle.keep_edit_plan.specs.Answers.{IsSpanOf}
use Rattle.keep_edit_plan.specs.Reading.{IsTextOfTree, ProfiledText}
use Rattle.keep_edit_runs.specs.Runs.{no_value}
use Rattle.keep_edit_runs.specs.declared.outline.Outline.{Outline}
use Rattle.keep_edit_runs.specs.declared.outline.Outline.TheVariants as kind
use Rattle.keep_edit_runs.proofs.LineKeySteps.{AddsLineAt, line_key_here}
use Rattle.keep_edit_runs.proofs.before.Before.line_key_again.Goals as goal

pub returns-clause-line : goal.returns-clause-line
returns-clause-line c =
    let now = c.args.self.now in
    let path = c.in-Rename.path in
    let new = c.in_ok-new.new.now in
    let given = c.match-branch-3.given.now in
    let was = c.in_ok-earlier.earlier in
    let line = c.in_ok-line.line in
    let steps = c.reach.result.steps in
    let first = c.in_ok-earlier.ensures in
    let then = c.in_ok-line.ensures in
    let o : Outline = kind.Insert c.of-steps.result in
    let same : c.added_line.new.self ≡ now = c.added_line.ensures.same ∙ c.requires in
    line_key_here now c.args.edit.now path new c.in-Rename.name given o was line steps c.in-Rename.is
    (subst (λ (n : List ℕ). beside path n ≡ new) c.as_str.ensures.value c.in_ok-new.ensures)
    (ap (λ (p : List Part). law.insert p no_value) c.of-steps.ensures)
    (subst (λ (d : ProfiledText). (s : Document) → IsTextOfTree d s → steps ≡ length (holder path (mentions_in s)))
    c.as_ref.ensures c.reach.ensures.steps)
    (omega (arith, c.if-reach-saturating_sub.false, c.saturating_sub.ensures, c.len.ensures.count))
    (subst (λ (d : ProfiledText). AddsLineAt d path given was) c.requires first.added) first.value
    (subst (λ (d : ProfiledText). AddsLineAt d new given line) same then.added)
    (subst (λ (d : ProfiledText). IsSpanOf d.text line.place) same then.within)
