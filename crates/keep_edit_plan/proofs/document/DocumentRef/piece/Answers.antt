use Rattle.std.proofs.Common.{arith}
use Rattle.keep_edit_plan.proofs.AnswerLaws.{seen}
use Rattle.keep_edit_plan.proofs.FoundLaws.{none_found, number_found_at, one_found}
use Rattle.keep_edit_plan.proofs.RemoveNode.{no_removal, not_root, other_of, value_piece, table_alone, table_shared}
use Rattle.keep_edit_plan.proofs.RemoveNode.{element_alone, element_shared, other_scattered}
use Rattle.keep_edit_plan.proofs.document.DocumentRef.piece.Goals as goal

pub returns-in_default : goal.returns-in_default
returns-in_default c =
    λ s read.
    no_removal c.args.self.now.profile c.args.path.now s
    (none_found _ _ _ _ s (seen c.self.view_is c.self.invariant) read _ c.in_default.is c.find.ensures.found)

pub returns-in-Value : goal.returns-in-Value
returns-in-Value c = λ s read.
    let root = not_root c.args.path.now (λ e. absurd (omega (arith, c.if-len-eq0.false, c.len.ensures.count, e))) in
    let stated =
    one_found _ _ _ _ s (seen c.self.view_is c.self.invariant) read _ _ _ c.in-Some.is c.find.ensures.found
    c.node-node.ensures in (
      number_found_at _ _ _ _ s (seen c.self.view_is c.self.invariant) read _ _ c.in-Some.is c.find.ensures.found,
      value_piece c.args.self.now.profile c.args.path.now s _ stated read.obeys root _ c.in-Value.is,
    )

pub returns-then-node-eq1 : goal.returns-then-node-eq1
returns-then-node-eq1 c = λ s read.
    let root = not_root c.args.path.now (λ e. absurd (omega (arith, c.if-len-eq0.false, c.len.ensures.count, e))) in
    let stated =
    one_found _ _ _ _ s (seen c.self.view_is c.self.invariant) read _ _ _ c.in-Some.is c.find.ensures.found
    c.node-node.ensures in (
      number_found_at _ _ _ _ s (seen c.self.view_is c.self.invariant) read _ _ c.in-Some.is c.find.ensures.found,
      table_alone c.args.self.now.profile c.args.path.now s _ stated read.obeys root _ c.in-Header.is
          c.if-node-eq1.true,
    )

pub returns-else-node-eq1 : goal.returns-else-node-eq1
returns-else-node-eq1 c = λ s read.
    let root = not_root c.args.path.now (λ e. absurd (omega (arith, c.if-len-eq0.false, c.len.ensures.count, e))) in
    let stated =
    one_found _ _ _ _ s (seen c.self.view_is c.self.invariant) read _ _ _ c.in-Some.is c.find.ensures.found
    c.node-node.ensures in
    table_shared c.args.self.now.profile c.args.path.now s _ stated read.obeys root _ c.in-Header.is
    (λ e. absurd (omega (arith, c.if-node-eq1.false, e)))

pub returns-then-node : goal.returns-then-node
returns-then-node c = λ s read.
    let root = not_root c.args.path.now (λ e. absurd (omega (arith, c.if-len-eq0.false, c.len.ensures.count, e))) in
    let stated =
    one_found _ _ _ _ s (seen c.self.view_is c.self.invariant) read _ _ _ c.in-Some.is c.find.ensures.found
    c.node-node.ensures in
    element_shared c.args.self.now.profile c.args.path.now s _ stated read.obeys root _ c.in-Element.is c.if-node.true

pub returns-else-node : goal.returns-else-node
returns-else-node c = λ s read.
    let root = not_root c.args.path.now (λ e. absurd (omega (arith, c.if-len-eq0.false, c.len.ensures.count, e))) in
    let stated =
    one_found _ _ _ _ s (seen c.self.view_is c.self.invariant) read _ _ _ c.in-Some.is c.find.ensures.found
    c.node-node.ensures in (
      number_found_at _ _ _ _ s (seen c.self.view_is c.self.invariant) read _ _ c.in-Some.is c.find.ensures.found,
      element_alone c.args.self.now.profile c.args.path.now s _ stated read.obeys root _ c.in-Element.is
          c.if-node.false,
    )

pub returns-in_default-origin : goal.returns-in_default-origin
returns-in_default-origin c = λ s read.
    let root = not_root c.args.path.now (λ e. absurd (omega (arith, c.if-len-eq0.false, c.len.ensures.count, e))) in
    let stated =
    one_found _ _ _ _ s (seen c.self.view_is c.self.invariant) read _ _ _ c.in-Some.is c.find.ensures.found
    c.node-node.ensures in
    other_scattered c.args.self.now.profile c.args.path.now s _ stated read.obeys root
    (other_of _ c.in_default-origin.not-Value c.in_default-origin.not-Header c.in_default-origin.not-Element)
