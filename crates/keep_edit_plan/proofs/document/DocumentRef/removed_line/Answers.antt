use Rattle.std.proofs.Common.{Ok, subst, ap, ◌∙◌, arith}
use Rattle.keep_meaning.specs.OtherValues.{totals_of}
use Rattle.keep_edit_spec.proofs.Shared.{remove_takes_value}
use Rattle.keep_edit_plan.specs.Removing.{IsRemovalOf}
use Rattle.keep_edit_plan.specs.declared.remove.Piece.{Piece}
use Rattle.keep_edit_plan.proofs.AnswerLaws.{seen, tree_is}
use Rattle.keep_edit_plan.proofs.FoundLaws.{value_nested}
use Rattle.keep_edit_plan.proofs.KeysRemovalLaws.{keys_removal}
use Rattle.keep_edit_plan.proofs.KindLaws.{node_within}
use Rattle.keep_edit_plan.proofs.LineRemovalLaws.{line_removed}
use Rattle.keep_edit_plan.proofs.LineValueRemovalLaws.{line_value_removed}
use Rattle.keep_edit_plan.proofs.document.DocumentRef.removed_line.Goals as goal

pub value-value-requires : goal.value-value-requires
value-value-requires c =
    let (s, read, here) = c.requires in
    let removal =
    subst (λ (p : Piece). IsRemovalOf c.args.self.now.profile c.args.path.now s (Ok p)) c.in-Value.is here.1 in
    value_nested _ _ _ c.args.path.now s _ (seen c.self.view_is c.self.invariant) read removal.1

pub child_count-requires : goal.child_count-requires
child_count-requires c =
    let (s, read, here) = c.requires in
    node_within _ _ _ c.args.path.now s (seen c.self.view_is c.self.invariant) read c.args.node here.0

-- several keys
pub removed_keys-requires : goal.removed_keys-requires
removed_keys-requires c =
    let (s, read, here) = c.requires in
    let removal =
    subst (λ (p : Piece). IsRemovalOf c.args.self.now.profile c.args.path.now s (Ok p)) c.in-Value.is here.1 in (
      s,
      read,
      keys_removal _ _ _ c.args.path.now s (seen c.self.view_is c.self.invariant) read c.args.node here.0 removal.0 _
          removal.1 _ c.value-value.ensures.stored _ c.in-Line.is c.if-value-ne1.true,
    )

pub returns-then-value-ne1 : goal.returns-then-value-ne1
returns-then-value-ne1 c = λ s read here.
    let removal =
    subst (λ (p : Piece). IsRemovalOf c.args.self.now.profile c.args.path.now s (Ok p)) c.in-Value.is here.1 in
    c.removed_keys.ensures s read
    (keys_removal _ _ _ c.args.path.now s (seen c.self.view_is c.self.invariant) read c.args.node here.0 removal.0 _
    removal.1 _ c.value-value.ensures.stored _ c.in-Line.is c.if-value-ne1.true)

-- one key, and no node is below it
pub returns-then-child_count-eq0 : goal.returns-then-child_count-eq0
returns-then-child_count-eq0 c = λ s read here.
    let removal =
    subst (λ (p : Piece). IsRemovalOf c.args.self.now.profile c.args.path.now s (Ok p)) c.in-Value.is here.1 in
    line_removed _ _ _ c.args.path.now s (seen c.self.view_is c.self.invariant) read c.args.node here.0 removal.0 _
    removal.1 _ c.value-value.ensures.stored
    _ c.in-Line.is c.if-value-ne1.false _ c.child_count.ensures (omega (arith, c.if-child_count-eq0.true))

-- some may be
pub returns : goal.returns
returns c = λ s read here.
    let h = seen c.self.view_is c.self.invariant in
    let removal =
    subst (λ (p : Piece). IsRemovalOf c.args.self.now.profile c.args.path.now s (Ok p)) c.in-Value.is here.1 in
    line_value_removed remove_takes_value _ _ _ c.args.path.now s h read c.args.node here.0 removal.0 _ removal.1 _
    c.value-value.ensures.stored
    _ c.in-Line.is c.if-value-ne1.false c.totals_of-totals.result
    (c.totals_of-totals.ensures h.tree h.is ∙ ap totals_of (tree_is _ _ _ s h read))
