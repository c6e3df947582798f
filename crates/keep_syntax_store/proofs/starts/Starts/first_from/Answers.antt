use Rattle.std.proofs.Common.{sym, subst, ap, ◌∙◌, arith}
use Rattle.keep_syntax_store.specs.Left.{places_left}
use Rattle.keep_syntax_store.specs.Starts.{Ascend, first_from, last_of}
use Rattle.keep_syntax_store.proofs.AscendLaws.{first_after_number}
use Rattle.keep_syntax_store.proofs.SeekLaws.{none_from, run_from}
use Rattle.keep_syntax_store.proofs.starts.Starts.first_from.Goals as goal

pub runs-init : goal.runs-init
runs-init c =
    let near = c.near_place in
    first_after_number c.args.place c.args.high c.args.self.now near.result.0 near.ensures.before
    ∙ ap (first_from c.args.place c.args.high) (sym near.ensures.past.left)

pub runs-preserved : goal.runs-preserved
runs-preserved c =
    c.runs.invariant
    ∙ run_from c.args.place c.args.high c.in-Some.at c.advance.new.self.at c.take_near.new.self.at
    (places_left c.runs.left) (places_left c.advance.new.self) c.take_near.result.steps.now
    (places_left c.take_near.new.self) c.in-Some.ensures.first c.take_near.ensures.left c.take_near.result.near
    c.take_near.ensures.at c.if-place-at.false c.if-place-left.false

pub returns-then-self-place : goal.returns-then-self-place
returns-then-self-place c =
    let stored = c.self.invariant.stored in
    sym (none_from c.args.place c.args.high 0 c.args.self.now (subst (Ascend 0) c.self.view_is stored.ascends)
    (omega (arith, c.if-self-place.true, stored.last_is, ap (last_of 0) c.self.view_is)))
