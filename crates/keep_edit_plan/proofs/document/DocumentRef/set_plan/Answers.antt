use Rattle.std.proofs.Common.{arith}
use Rattle.keep_edit_spec.specs.Edits.{set}
use Rattle.keep_edit_plan.proofs.AnswerLaws.{seen}
use Rattle.keep_edit_plan.proofs.FoundLaws.{value_nested}
use Rattle.keep_edit_plan.proofs.SetLaws.{setting, depth_low, deep_done, foreign_done, allowed_by, done_at, set_law}
use Rattle.keep_edit_plan.proofs.SetLaws.{MaySet}
use Rattle.keep_edit_plan.proofs.EditedLaws.{planned, plan_of_edit}
use Rattle.keep_edit_plan.proofs.document.DocumentRef.set_plan.Goals as goal

pub value-found-requires : goal.value-found-requires
value-found-requires c =
    let h = seen c.self.view_is c.self.invariant in
    value_nested _ _ _ c.args.path.now h.tree _ h h.read (c.in_ok-node.ensures h.tree h.read).1

pub overflow_add-found : goal.overflow_add-found
overflow_add-found c =
    let h = seen c.self.view_is c.self.invariant in
    let (v, value) = c.as_str-new.ensures.accepted in
    let at =
    setting _ _ _ _ c.args.path.now h.tree v _ _ _ h h.read (c.in_ok-node.ensures h.tree h.read).1
    c.value-found.ensures.stored value (c.depth.ensures v value) in
    omega (arith, depth_low _ _ _ _ _ _ _ at)

pub returns-then-found-depth-gt-STANDARD_DEPTH-clause-planned
    : goal.returns-then-found-depth-gt-STANDARD_DEPTH-clause-planned
returns-then-found-depth-gt-STANDARD_DEPTH-clause-planned c = λ s read v value.
    let h = seen c.self.view_is c.self.invariant in
    let at =
    setting _ _ _ _ c.args.path.now s v _ _ _ h read (c.in_ok-node.ensures s read).1 c.value-found.ensures.stored value
    (c.depth.ensures v value) in
    deep_done _ _ _ _ _ _ _ at _ c.if-found-depth-gt-STANDARD_DEPTH.true

pub returns-then-not-is_allowed_in-clause-planned : goal.returns-then-not-is_allowed_in-clause-planned
returns-then-not-is_allowed_in-clause-planned c = λ s read v value.
    let h = seen c.self.view_is c.self.invariant in
    let at =
    setting _ _ _ _ c.args.path.now s v _ _ _ h read (c.in_ok-node.ensures s read).1 c.value-found.ensures.stored value
    (c.depth.ensures v value) in
    foreign_done _ _ _ _ _ _ _ at _ c.if-found-depth-gt-STANDARD_DEPTH.false
    (allowed_by v c.self.view_is (c.is_allowed_in.ensures v value) c.if-not-is_allowed_in.true)

pub value_change-requires : goal.value_change-requires
value_change-requires c =
    let h = seen c.self.view_is c.self.invariant in
    (h.tree, h.read, (c.in_ok-node.ensures h.tree h.read).0)

pub returns-clause-planned : goal.returns-clause-planned
returns-clause-planned c = λ s read v value.
    let h = seen c.self.view_is c.self.invariant in
    let found = c.in_ok-node.ensures s read in
    let at =
    setting _ _ _ _ c.args.path.now s v _ _ _ h read found.1 c.value-found.ensures.stored value
    (c.depth.ensures v value) in
    let may =
    (let may : MaySet _ _ _ _ _ _ _ at =
    record {
      fits = c.if-found-depth-gt-STANDARD_DEPTH.false;
      allowed = allowed_by v c.self.view_is (c.is_allowed_in.ensures v value) c.if-not-is_allowed_in.false;
    } in may) in
    let there = done_at _ _ _ _ _ _ _ at may in
    let is = rw c.as_str-new.ensures.text at c.plan_at.ensures in
    planned c.args.self.now s (set c.args.path.now v) c.value-found.result.span c.args.value.now read there
    (set_law _ _ _ _ _ _ _ at may)
    c.value_change.result (c.value_change.ensures.change s read found.0 v value there.0)
    (c.value_change.ensures.some s read found.0 v value) c.plan_at.result is

pub returns-clause-of_edit : goal.returns-clause-of_edit
returns-clause-of_edit c =
    let h = seen c.self.view_is c.self.invariant in
    let (v, value) = c.as_str-new.ensures.accepted in
    let found = c.in_ok-node.ensures h.tree h.read in
    let at =
    setting _ _ _ _ c.args.path.now h.tree v _ _ _ h h.read found.1 c.value-found.ensures.stored value
    (c.depth.ensures v value) in
    let may =
    (let may : MaySet _ _ _ _ _ _ _ at =
    record {
      fits = c.if-found-depth-gt-STANDARD_DEPTH.false;
      allowed = allowed_by v c.self.view_is (c.is_allowed_in.ensures v value) c.if-not-is_allowed_in.false;
    } in may) in
    let there = done_at _ _ _ _ _ _ _ at may in
    let is = rw c.as_str-new.ensures.text at c.plan_at.ensures in
    plan_of_edit c.args.self.now h.tree (set c.args.path.now v) c.value-found.result.span c.args.value.now h.read there
    (set_law _ _ _ _ _ _ _ at may)
    c.value_change.result (c.value_change.ensures.change h.tree h.read found.0 v value there.0) c.plan_at.result is
