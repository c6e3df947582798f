use Rattle.std.proofs.Common.{◌∙◌, ap, sym}
use Rattle.std.specs.Prelude.{is_some}
use Rattle.keep_edit_plan.proofs.AnswerLaws.{seen}
use Rattle.keep_edit_plan.proofs.FoundLaws.{none_found, one_found, number_found_at}
use Rattle.keep_edit_plan.proofs.RenameLaws.{not_found, not_key, exists_there, node_test, beside_test, IsOneKey}
use Rattle.keep_edit_plan.proofs.RenameLaws.{key_found, scattered, has_span, renamed_there}
use Rattle.keep_edit_plan.proofs.document.DocumentRef.key_to_rename.Goals as goal

pub returns-in_default : goal.returns-in_default
returns-in_default c = λ s read.
    not_found c.args.self.now.profile s c.args.path.now c.args.key.now
    (none_found _ _ _ _ s (seen c.self.view_is c.self.invariant) read _ c.in_default.is c.find.ensures.found)

pub returns-then-not-ends_in_key : goal.returns-then-not-ends_in_key
returns-then-not-ends_in_key c = λ s read.
    let node =
    node_test _ _ _ c.args.path.now s (seen c.self.view_is c.self.invariant) read c.find.result c.find.ensures.found
    ∙ ap (λ o. is_some o) c.in-Some.is in
    not_key c.args.self.now.profile s c.args.path.now c.args.key.now node
    (sym c.ends_in_key.ensures ∙ c.if-not-ends_in_key.true)

pub returns-then-is_some : goal.returns-then-is_some
returns-then-is_some c = λ s read.
    let node =
    node_test _ _ _ c.args.path.now s (seen c.self.view_is c.self.invariant) read c.find.result c.find.ensures.found
    ∙ ap (λ o. is_some o) c.in-Some.is in
    let there =
    beside_test _ _ _ c.args.path.now c.args.key.now s (seen c.self.view_is c.self.invariant) read c.sibling.result
    c.sibling.ensures.found in
    exists_there c.args.self.now.profile s c.args.path.now c.args.key.now node
    (sym c.ends_in_key.ensures ∙ c.if-not-ends_in_key.false) (there ∙ sym c.is_some.ensures ∙ c.if-is_some.true)

pub returns-in-Some-key_span : goal.returns-in-Some-key_span
returns-in-Some-key_span c = λ s read.
    let stated =
    one_found _ _ _ _ s (seen c.self.view_is c.self.invariant) read _ _ _ c.in-Some.is c.find.ensures.found
    c.node-node.ensures in
    let there =
    beside_test _ _ _ c.args.path.now c.args.key.now s (seen c.self.view_is c.self.invariant) read c.sibling.result
    c.sibling.ensures.found in
    let one : IsOneKey c.args.self.now c.args.key.now c.args.path.now s c.node-node.result c.key_span.result =
    record {
      read = read;
      utf8 = c.utf8.key;
      stated = stated;
      key_is =
          key_found _ _ _ _ s (seen c.self.view_is c.self.invariant) read _ _ c.in-Some.is c.find.ensures.found _
          c.key_span.ensures;
      by_key = sym c.ends_in_key.ensures ∙ c.if-not-ends_in_key.false;
      fresh = there ∙ sym c.is_some.ensures ∙ c.if-is_some.false;
    } in (
      number_found_at _ _ _ _ s (seen c.self.view_is c.self.invariant) read _ _ c.in-Some.is c.find.ensures.found,
      renamed_there c.args.self.now c.args.key.now c.args.path.now s c.node-node.result _ one c.in-Some-key_span.span
          c.if-node-eq1.true c.in-Some-key_span.is,
    )

pub returns-in_default-key_span : goal.returns-in_default-key_span
returns-in_default-key_span c = λ s read.
    let stated =
    one_found _ _ _ _ s (seen c.self.view_is c.self.invariant) read _ _ _ c.in-Some.is c.find.ensures.found
    c.node-node.ensures in
    let there =
    beside_test _ _ _ c.args.path.now c.args.key.now s (seen c.self.view_is c.self.invariant) read c.sibling.result
    c.sibling.ensures.found in
    let one : IsOneKey c.args.self.now c.args.key.now c.args.path.now s c.node-node.result c.key_span.result =
    record {
      read = read;
      utf8 = c.utf8.key;
      stated = stated;
      key_is =
          key_found _ _ _ _ s (seen c.self.view_is c.self.invariant) read _ _ c.in-Some.is c.find.ensures.found _
          c.key_span.ensures;
      by_key = sym c.ends_in_key.ensures ∙ c.if-not-ends_in_key.false;
      fresh = there ∙ sym c.is_some.ensures ∙ c.if-is_some.false;
    } in
    scattered c.args.self.now c.args.key.now c.args.path.now s c.node-node.result _ one c.if-node-eq1.false

pub returns-in_default-key_span-2 : goal.returns-in_default-key_span-2
returns-in_default-key_span-2 c = λ s read.
    let stated =
    one_found _ _ _ _ s (seen c.self.view_is c.self.invariant) read _ _ _ c.in-Some.is c.find.ensures.found
    c.node-node.ensures in
    let there =
    beside_test _ _ _ c.args.path.now c.args.key.now s (seen c.self.view_is c.self.invariant) read c.sibling.result
    c.sibling.ensures.found in
    let one : IsOneKey c.args.self.now c.args.key.now c.args.path.now s c.node-node.result c.key_span.result =
    record {
      read = read;
      utf8 = c.utf8.key;
      stated = stated;
      key_is =
          key_found _ _ _ _ s (seen c.self.view_is c.self.invariant) read _ _ c.in-Some.is c.find.ensures.found _
          c.key_span.ensures;
      by_key = sym c.ends_in_key.ensures ∙ c.if-not-ends_in_key.false;
      fresh = there ∙ sym c.is_some.ensures ∙ c.if-is_some.false;
    } in
    scattered c.args.self.now c.args.key.now c.args.path.now s c.node-node.result _ one
    (λ e. has_span c.args.self.now c.args.key.now c.args.path.now s c.node-node.result _ one e c.in_default-key_span.is)
