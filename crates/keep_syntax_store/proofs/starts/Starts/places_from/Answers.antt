use Rattle.std.proofs.Common.{◌-◌, subst, arith}
use Rattle.keep_syntax_store.specs.Starts.{Ascend}
use Rattle.keep_syntax_store.proofs.PastLaws.{past_more}
use Rattle.keep_syntax_store.proofs.starts.Starts.places_from.Goals as goal

pub returns-then-count-number-clause-past : goal.returns-then-count-number-clause-past
returns-then-count-number-clause-past c =
    let n = c.after_milestone-count.result.0 in
    past_more c.args.self.now n (c.args.number - n) c.args.number c.after_milestone-count.result.1 c.without.result
    c.after_milestone-count.ensures.past c.without.ensures.left c.without.ensures.last
    (omega (arith, c.if-count-number.true))

pub returns-then-count-number-clause-ascend : goal.returns-then-count-number-clause-ascend
returns-then-count-number-clause-ascend c = subst (Ascend 0) c.self.view_is c.self.invariant.stored.ascends

pub returns-else-count-number-clause-ascend : goal.returns-else-count-number-clause-ascend
returns-else-count-number-clause-ascend c = subst (Ascend 0) c.self.view_is c.self.invariant.stored.ascends
