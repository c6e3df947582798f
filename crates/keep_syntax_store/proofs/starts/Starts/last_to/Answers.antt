use Rattle.std.proofs.Common.{sym, subst, ap, ◌∙◌, arith}
use Rattle.keep_syntax_store.specs.Left.{places_left}
use Rattle.keep_syntax_store.specs.Starts.{Ascend, last_of}
use Rattle.keep_syntax_store.proofs.PastLaws.{last_from}
use Rattle.keep_syntax_store.proofs.SeekLaws.{all_to, run_to}
use Rattle.keep_syntax_store.proofs.starts.Starts.last_to.Goals.{then-number-eq0, else-number-eq0}
use Rattle.keep_syntax_store.proofs.starts.Starts.last_to.Goals as goal

pub runs-init : goal.runs-init
runs-init c =
    let near = c.near_place-number in
    let from =
    last_from c.args.place c.args.low c.if-number-eq0.last c.args.self.now near.result.0 near.result.1
    near.ensures.past near.ensures.within near.ensures.before in
    elim c.if-number-eq0.branch [
      | then-number-eq0 w ↦ from (λ _. w.last-is) (λ some. absurd (some w.if-number-eq0.true))
      | else-number-eq0 w ↦ from (λ none. absurd (w.if-number-eq0.false none)) (λ _. w.last-is)
    ]

pub runs-preserved : goal.runs-preserved
runs-preserved c =
    c.runs.invariant
    ∙ run_to c.args.place c.runs.last c.in-Some.at c.advance.new.self.at c.take_near.new.self.at
    (places_left c.runs.left) (places_left c.advance.new.self) c.take_near.result.steps.now
    (places_left c.take_near.new.self) c.in-Some.ensures.first c.in-Some.ensures.at c.take_near.ensures.left
    c.take_near.result.near c.take_near.ensures.at c.if-place-at.false c.if-place-left.false

pub returns-then-self-place : goal.returns-then-self-place
returns-then-self-place c =
    let stored = c.self.invariant.stored in
    let last_is = stored.last_is ∙ ap (last_of 0) c.self.view_is in
    last_is
    ∙ sym (all_to c.args.place c.args.low 0 c.args.self.now (subst (Ascend 0) c.self.view_is stored.ascends)
    (omega (arith, c.if-self-place.true, last_is)) (omega (arith, c.if-len-gt0.true, c.len.ensures)))
