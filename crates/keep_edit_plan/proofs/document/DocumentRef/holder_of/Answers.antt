use Rattle.std.proofs.Common.{arith}
use Rattle.keep_edit_plan.proofs.HolderLaws.{going, went, stopped, ended}
use Rattle.keep_edit_plan.proofs.document.DocumentRef.holder_of.Goals as goal

pub loop-len-init : goal.loop-len-init
loop-len-init c = going c.args.self.now c.args.path.now

pub further-requires-clause-walk : goal.further-requires-clause-walk
further-requires-clause-walk c = let (s, read) = c.requires in (s, read, c.loop-len.invariant.2 s read)

pub returns-in_default-clause-holder : goal.returns-in_default-clause-holder
returns-in_default-clause-holder c =
    λ s read.
    stopped _ _ _ _ s read c.loop-len.invariant
    (rw c.in_default.is at c.further.ensures s read (c.loop-len.invariant.2 s read))

pub loop-len-preserved : goal.loop-len-preserved
loop-len-preserved c =
    let (s, read) = c.requires in
    went _ _ _ _ _ s read (omega (arith, c.loop-len-test.true, c.len-len-end.ensures.count)) c.loop-len.invariant
    (λ s read walk. rw c.in-Some.is at c.further.ensures s read walk)

pub returns-clause-holder : goal.returns-clause-holder
returns-clause-holder c =
    λ s read.
    ended _ _ _ _ s read c.loop-len.invariant (omega (arith, c.loop-len-test.false, c.len-len-end.ensures.count))
