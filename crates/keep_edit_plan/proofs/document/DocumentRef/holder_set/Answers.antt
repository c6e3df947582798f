use Rattle.std.proofs.Common.{◌≡◌, ℕ, List, Some, length, slice_get, suc, take, sym, ap}
use Rattle.std.proofs.Common.{subst, ◌∙◌, arith, string_bytes}
use Rattle.std.specs.Prelude.{IfOk}
use Rattle.keep_path.specs.Step.{part_of}
use Rattle.keep_edit_spec.specs.Changed.{put}
use Rattle.keep_edit_plan.specs.Answers.{IsSpanOf, text_after}
use Rattle.keep_edit_plan.specs.Places.{place_at}
use Rattle.keep_edit_plan.proofs.AimLaws.{number_nested}
use Rattle.keep_edit_plan.proofs.AnswerLaws.{seen, text_seen}
use Rattle.keep_edit_plan.proofs.ChangeLaws.{ok_there}
use Rattle.keep_edit_plan.proofs.FoundLaws.{value_nested, value_there}
use Rattle.keep_edit_plan.proofs.HolderSetLaws.{found_there, last_step, planned_set}
use Rattle.keep_edit_plan.proofs.document.DocumentRef.holder_set.Goals as goal

pub node-requires : goal.node-requires
node-requires c =
    let h = seen c.self.view_is c.self.invariant in
    let found =
    found_there c.args.self.now c.in_ok-holder.holder c.value_node.result _ c.in_ok-node.ensures.value
    c.value_node.ensures h.tree h.read in
    number_nested _ _ _ c.in_ok-holder.holder h.tree h h.read c.in_ok-node.node found.0

pub value-requires : goal.value-requires
value-requires c =
    let h = seen c.self.view_is c.self.invariant in
    let found =
    found_there c.args.self.now c.in_ok-holder.holder c.value_node.result _ c.in_ok-node.ensures.value
    c.value_node.ensures h.tree h.read in
    value_nested _ _ _ c.in_ok-holder.holder h.tree c.in_ok-node.number h h.read found.1

pub part_after-requires-clause-span : goal.part_after-requires-clause-span
part_after-requires-clause-span c =
    let h = seen c.self.view_is c.self.invariant in
    let found =
    found_there c.args.self.now c.in_ok-holder.holder c.value_node.result _ c.in_ok-node.ensures.value
    c.value_node.ensures h.tree h.read in
    subst (λ (b : List ℕ). IsSpanOf b c.value.result.span) (sym (text_seen c.self.view_is))
    (value_there _ _ _ c.in_ok-holder.holder h.tree c.in_ok-node.number h h.read found.1 c.value.result
    c.value.ensures.stored).span

pub returns-clause-set : goal.returns-clause-set
returns-clause-set c =
    let h = seen c.self.view_is c.self.invariant in
    let holder_is : c.in_ok-holder.holder ≡ take c.in_ok-last.last c.args.path.now =
    ok_there (λ r. IfOk r (λ first. first ≡ take c.in_ok-last.last c.args.path.now)) c.first_steps.result _
    c.in_ok-holder.ensures.value c.first_steps.ensures in
    let step : slice_get c.args.path.now c.in_ok-last.last ≡ Some (part_of c.in_ok-step.field-0.now) =
    sym c.in_ok-step.ensures in
    let count : length c.args.path.now ≡ suc c.in_ok-last.last =
    omega (arith, c.len.ensures.count, c.in_ok-last.ensures.0, c.in_ok-last.ensures.1) in
    let new_is : c.in_ok-value.value ≡ string_bytes c.in_ok-new.new =
    ok_there (λ r. IfOk r (λ value. value ≡ c.as_str.result.now)) c.read_in.result _ c.in_ok-value.ensures.value
    c.read_in.ensures.text ∙ c.as_str.ensures.value in
    let inside : put c.self.inside.text.now (place_at c.value.result.span (string_bytes c.in_ok-new.new))
    ≡ text_after c.self.inside.text.now c.in_ok-entry.entry =
    ok_there (λ r. IfOk r (λ part. put c.self.inside.text.now (place_at c.value.result.span (string_bytes part))
    ≡ text_after c.self.inside.text.now c.in_ok-entry.entry)) c.part_after.result _ c.in_ok-new.ensures.value
    c.part_after.ensures in
    planned_set c.args.self.now _ _ h c.args.edit.now c.args.path.now c.in_ok-holder.holder
    (part_of c.in_ok-step.field-0.now)
    (last_step c.args.path.now c.in_ok-holder.holder c.in_ok-last.last _ step count holder_is)
    c.in_ok-node.node c.in_ok-node.number
    (found_there c.args.self.now c.in_ok-holder.holder c.value_node.result _ c.in_ok-node.ensures.value
    c.value_node.ensures)
    c.node.result c.node.ensures (c.can_hold.ensures c.if-not-can_hold.false) c.value.result c.value.ensures.stored
    c.in_ok-entry.entry c.in_ok-entry.ensures c.in_ok-value.value
    (ap (λ (g : List ℕ). put c.args.self.now.text (place_at c.value.result.span g)) new_is
    ∙ subst (λ (b : List ℕ). put b (place_at c.value.result.span (string_bytes c.in_ok-new.new))
    ≡ text_after b c.in_ok-entry.entry) (text_seen c.self.view_is) inside)
    c.planned-2.result c.planned-2.ensures
