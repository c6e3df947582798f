use Rattle.std.proofs.Common.{◌≡◌, sym, ap, true, inl, inr}
use Rattle.std.proofs.lemmas.Bool.{ltb-true}
use Rattle.keep_edit_plan.specs.Removing.{is_keyval_origin}
use Rattle.keep_edit_plan.proofs.AnswerLaws.{seen}
use Rattle.keep_edit_plan.proofs.DotsRemovalLaws.{found_before}
use Rattle.keep_edit_plan.proofs.document.DocumentRef.is_dotted_before.Goals as goal

pub returns-in-Value : goal.returns-in-Value
returns-in-Value c = λ s read low.
    let made : is_keyval_origin c.node-info.result.origin ≡ true =
    elim c.in-Value.is [ inl value ↦ ap is_keyval_origin value.1 | inr dots ↦ ap is_keyval_origin dots.1 ] in
    found_before _ _ _ s (seen c.self.view_is c.self.invariant) read _ c.in-Some.table (sym c.in-Some.ensures.found)
    c.in-Some-child_at.child c.in-Some-child_at.ensures.node.found c.node-info.result c.node-info.ensures
    c.in-Some-key.first c.args.key c.in-Some-key.is (ltb-true c.in-Some-key.first c.args.key low) made
