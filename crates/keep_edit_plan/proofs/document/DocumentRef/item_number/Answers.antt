use Rattle.std.proofs.Common.{◌≡◌, sym, ◌∙◌, ap, Some, slice_get, arith}
use Rattle.keep_path.specs.Path.{index}
use Rattle.keep_path.specs.Step.{part_of}
use Rattle.keep_edit_plan.proofs.AnswerLaws.{seen}
use Rattle.keep_edit_plan.proofs.AimLaws.{number_nested, stated_here, key_item, far_item, array_item, other_item}
use Rattle.keep_edit_plan.proofs.AimLaws.{step_nested}
use Rattle.keep_edit_plan.proofs.document.DocumentRef.item_number.Goals as goal

pub returns-in-Key : goal.returns-in-Key
returns-in-Key c =
    λ s read held.
    sym (key_item _ s _ held _ (sym c.in_ok-number.ensures ∙ ap (λ step. Some (part_of step)) c.in-Key.is))

pub returns-then-len-holder-gt1 : goal.returns-then-len-holder-gt1
returns-then-len-holder-gt1 c =
    λ s read held. sym (far_item _ s _ held (omega (arith, c.if-len-holder-gt1.true, c.len.ensures.count)))

pub node-requires : goal.node-requires
node-requires c =
    let (s, read, held) = c.requires in
    number_nested _ _ _ _ s (seen c.self.view_is c.self.invariant) read _ held.walk.node

pub returns-in-Array : goal.returns-in-Array
returns-in-Array c = λ s read held.
    let stated = stated_here _ _ _ _ s (seen c.self.view_is c.self.invariant) read _ held.walk.node _ c.node.ensures in
    let is : slice_get c.args.path.now c.args.holder.len ≡ Some (index c.in-Index.number) =
    sym c.in_ok-number.ensures ∙ ap (λ step. Some (part_of step)) c.in-Index.is in
    sym (array_item _ s _ held _ is
    (omega (
      arith,
      c.if-len-holder-gt1.false,
      c.len.ensures.count,
      step_nested c.args.path.now c.args.holder.len (index c.in-Index.number) is,
    )) _ stated read.obeys c.in-Array.is)

pub returns-in_default : goal.returns-in_default
returns-in_default c = λ s read held.
    let stated = stated_here _ _ _ _ s (seen c.self.view_is c.self.invariant) read _ held.walk.node _ c.node.ensures in
    let is : slice_get c.args.path.now c.args.holder.len ≡ Some (index c.in-Index.number) =
    sym c.in_ok-number.ensures ∙ ap (λ step. Some (part_of step)) c.in-Index.is in
    sym (other_item _ s _ held _ is
    (omega (
      arith,
      c.if-len-holder-gt1.false,
      c.len.ensures.count,
      step_nested c.args.path.now c.args.holder.len (index c.in-Index.number) is,
    )) _ stated read.obeys c.in_default.not-Array)
