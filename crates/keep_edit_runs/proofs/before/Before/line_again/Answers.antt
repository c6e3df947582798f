use Rattle.std.proofs.Common.{◌≡◌, false, not, refl, subst, subst₂, sym, ◌∙◌}
use denote.Enum.Bare.{sameb}
use Rattle.keep_edit_spec.specs.contracts.line_kind.LineKind.{the_type}
use Rattle.keep_edit_spec.specs.declared.line_kind.LineKind.{LineKind}
use Rattle.keep_edit_spec.specs.declared.line_kind.LineKind.TheVariants.{LastInBody, OfDotted, WithHeader}
use Rattle.keep_edit_plan.specs.Answers.{IsSpanOf}
use Rattle.keep_edit_runs.proofs.InsertAgainSteps.{AddsAt, line_here}
use Rattle.keep_edit_runs.proofs.before.Before.line_again.Goals as goal

-- two that are not told to differ are the same
same_kind : (a b : LineKind) → not (sameb the_type a b) ≡ false → b ≡ a
same_kind LastInBody LastInBody e = refl
same_kind LastInBody OfDotted e = absurd cc
same_kind LastInBody WithHeader e = absurd cc
same_kind OfDotted LastInBody e = absurd cc
same_kind OfDotted OfDotted e = refl
same_kind OfDotted WithHeader e = absurd cc
same_kind WithHeader LastInBody e = absurd cc
same_kind WithHeader OfDotted e = absurd cc
same_kind WithHeader WithHeader e = refl

pub returns-clause-line : goal.returns-clause-line
returns-clause-line c =
    let now = c.args.self.now in
    let path = c.in-Set.path in
    let given = c.match-branch-3.given.now in
    let was = c.in_ok-earlier.earlier in
    let line = c.in_ok-line.line in
    let first = c.in_ok-earlier.ensures in
    let then = c.in_ok-line.ensures in
    let same : c.line.new.self ≡ now = c.line.ensures.same ∙ c.requires in
    line_here now c.args.edit.now path given c.in-Set.value was.text_edit line.text_edit was.kind c.in-Set.is
    (subst (λ d. AddsAt d path given was.text_edit was.kind) c.requires first.added) first.value
    (subst₂ (λ d kind. AddsAt d path c.in-Set.value line.text_edit kind) same
    (same_kind was.kind line.kind (sym c.ne.ensures ∙ c.if-ne.false)) then.added) then.value
    (subst (λ d. IsSpanOf d.text line.text_edit.place) same then.within)
