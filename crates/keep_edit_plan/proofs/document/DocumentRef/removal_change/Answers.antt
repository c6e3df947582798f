use Rattle.std.proofs.Common.{Ok, subst}
use Rattle.keep_edit_spec.specs.Edits.{remove}
use Rattle.keep_edit_spec.specs.Values.{removal}
use Rattle.keep_edit_plan.specs.Removing.{IsRemovalOf}
use Rattle.keep_edit_plan.specs.declared.remove.Piece.{Piece}
use Rattle.keep_edit_plan.proofs.AnswerLaws.{seen}
use Rattle.keep_edit_plan.proofs.FoundLaws.{value_nested}
use Rattle.keep_edit_plan.proofs.InsideLaws.{inside_by_law}
use Rattle.keep_edit_plan.proofs.RemoveCut.{entry_arm, removal_law}
use Rattle.keep_edit_plan.proofs.document.DocumentRef.removal_change.Goals as goal

pub value-requires : goal.value-requires
value-requires c =
    let (s, read, here) = c.requires in
    let found =
    subst (λ (p : Piece). IsRemovalOf c.args.self.now.profile c.args.path.now s (Ok p)) c.in-Value.is here.1 in
    value_nested _ _ _ c.args.path.now s _ (seen c.self.view_is c.self.invariant) read found.1

pub returns-in_default-owner : goal.returns-in_default-owner
returns-in_default-owner c = λ s read here.
    let found =
    subst (λ (p : Piece). IsRemovalOf c.args.self.now.profile c.args.path.now s (Ok p)) c.in-Value.is here.1 in
    let arm =
    entry_arm _ _ _ c.args.path.now s (seen c.self.view_is c.self.invariant) read found.0 c.in-Value.number
    c.value.result found.1 c.value.ensures.stored c.in_default-owner.not-Line in
    c.inside_change.ensures s read (remove c.args.path.now)
    (inside_by_law c.args.self.now c.args.path.now s (remove c.args.path.now)
    (removal_law c.args.self.now c.args.path.now s read found.0) removal arm.inside)
