use Rattle.std.proofs.Common.{subst}
use Rattle.keep_syntax_store.specs.Starts.{Ascend}
use Rattle.keep_syntax_store.proofs.PastLaws.{past_before}
use Rattle.keep_syntax_store.proofs.starts.Starts.near_place.Goals as goal

pub returns-then-left-place-clause-before : goal.returns-then-left-place-clause-before
returns-then-left-place-clause-before c =
    past_before c.args.self.now c.after_milestone-number.result.0 c.args.place c.after_milestone-number.result.1
    (subst (Ascend 0) c.self.view_is c.self.invariant.stored.ascends)
    c.after_milestone-number.ensures.past c.if-left-place.true
