use Rattle.std.proofs.Common.{refl, sym, arith}
use Rattle.keep_edit_plan.proofs.AnswerLaws.{seen}
use Rattle.keep_edit_plan.proofs.HolderLaws.{node_nested, none_further, by_dots, by_other}
use Rattle.keep_edit_plan.proofs.document.DocumentRef.further.Goals as goal

pub step-requires-2 : goal.step-requires-2
step-requires-2 c =
    let (s, read, walk) = c.requires.walk in node_nested _ _ _ _ s (seen c.self.view_is c.self.invariant) read _ walk

pub returns-in_err-id : goal.returns-in_err-id
returns-in_err-id c = λ s read walk.
    rw (c.from_residual-in_err-id.ensures)
    (none_further _ _ _ _ s (seen c.self.view_is c.self.invariant) read _ walk _ (sym c.in_ok-step.ensures)
    (c.in_err-id.ensures.none refl))

pub overflow_add-depth : goal.overflow_add-depth
overflow_add-depth c =
    let (s, read, walk) = c.requires.walk in omega (arith, walk.low, c.requires.more, c.brackets.ensures.few)

pub returns-in-Dotted : goal.returns-in-Dotted
returns-in-Dotted c = λ s read walk.
    by_dots _ _ _ _ s (seen c.self.view_is c.self.invariant) read _ walk _ (sym c.in_ok-step.ensures) _ _ c.in_ok-id.was
    c.step-2.ensures.node.found _ c.node-node.ensures _ _ c.requires.next c.brackets.ensures.count
    c.brackets.ensures.few _ c.in-Dotted.is

pub returns-in_default : goal.returns-in_default
returns-in_default c = λ s read walk.
    by_other _ _ _ _ s (seen c.self.view_is c.self.invariant) read _ walk _ (sym c.in_ok-step.ensures) _ _
    c.in_ok-id.was c.step-2.ensures.node.found _ c.node-node.ensures _ _ c.requires.next c.brackets.ensures.count
    c.brackets.ensures.few _ c.is_value.ensures c.in_default.not-Dotted
