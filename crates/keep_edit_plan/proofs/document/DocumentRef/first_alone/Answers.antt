use Rattle.std.proofs.Common.{arith, sym}
use Rattle.keep_edit_plan.proofs.AnswerLaws.{seen}
use Rattle.keep_edit_plan.proofs.KeysRemovalLaws.{found_alone}
use Rattle.keep_edit_plan.proofs.document.DocumentRef.first_alone.Goals as goal

pub loop-before-init : goal.loop-before-init
loop-before-init c = omega arith

pub returns-then-node-eq1 : goal.returns-then-node-eq1
returns-then-node-eq1 c = λ s read.
    found_alone _ _ _ c.args.path.now s (seen c.self.view_is c.self.invariant) read c.args.body c.loop-before.before
    c.loop-before.invariant (omega (arith, c.loop-before-test.true, c.len-before-end.ensures.count)) c.in_ok-node.node
    (sym c.in_ok-node.ensures.found) _ c.node.ensures c.if-node-eq1.true

pub loop-before-preserved : goal.loop-before-preserved
loop-before-preserved c = omega (arith, c.loop-before.invariant)
