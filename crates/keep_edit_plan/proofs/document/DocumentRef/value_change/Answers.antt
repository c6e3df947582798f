use Rattle.std.proofs.Common.{◌≡◌, true, false, ◌≤◌, ◌<◌, arith, inl, inr, ap, sym, ◌∙◌}
use Rattle.keep_syntax.specs.Tree.{value_depth}
use Rattle.keep_meaning.specs.OtherValues.{totals_of}
use Rattle.keep_edit_spec.specs.Edits.{set}
use Rattle.keep_edit_plan.proofs.AnswerLaws.{seen, tree_is}
use Rattle.keep_edit_plan.proofs.InsideLaws.{set_is_inside}
use Rattle.keep_edit_plan.proofs.KindLaws.{kind_changed, node_within, some_below}
use Rattle.keep_edit_plan.proofs.ValueChangeLaws.{value_changed}
use Rattle.keep_edit_plan.proofs.document.DocumentRef.value_change.Goals as goal
use Rattle.keep_edit_plan.proofs.document.DocumentRef.value_change.Goals.{else-depth-eq0-via-then-depth-eq0+else-child_count-eq0}
use Rattle.keep_edit_plan.proofs.document.DocumentRef.value_change.Goals.{else-depth-eq0-via-else-depth-eq0}

pub child_count-requires : goal.child_count-requires
child_count-requires c =
    let (s, read, here) = c.requires in
    node_within _ _ _ c.args.path.now s (seen c.self.view_is c.self.invariant) read c.args.node here

-- one kind changes
pub returns-then-child_count-eq0-clause-change : goal.returns-then-child_count-eq0-clause-change
returns-then-child_count-eq0-clause-change c = λ s read here v value allowed.
    let flat : value_depth v ≤ 0 = omega (arith, c.if-depth-eq0.true, c.depth.ensures v value) in
    kind_changed _ _ _ c.args.path.now s (seen c.self.view_is c.self.invariant) read c.args.node here c.args.value.now v
    value allowed _ c.child_count.ensures
    (omega (arith, c.if-child_count-eq0.true)) flat _ (c.kind-kind.ensures v value)

pub returns-then-not-ends_in_key-clause-change : goal.returns-then-not-ends_in_key-clause-change
returns-then-not-ends_in_key-clause-change c = λ s read here v value allowed.
    c.inside_change.ensures s read (set c.args.path.now v)
    (set_is_inside c.args.self.now c.args.path.now s read c.args.value.now v value allowed)

pub returns-then-not-ends_in_key-clause-some : goal.returns-then-not-ends_in_key-clause-some
returns-then-not-ends_in_key-clause-some c = λ s read here v value says.
    elim says [
      | inl ends ↦
          (let clash : false ≡ true = sym c.if-not-ends_in_key.true ∙ c.ends_in_key.ensures.1 ends in absurd cc)
      | inr one ↦ elim c.else-depth-eq0.branch [
        | else-depth-eq0-via-then-depth-eq0+else-child_count-eq0 w ↦
            (let some : 0 < w.child_count.result = omega (arith, w.if-child_count-eq0.false) in
            absurd (some_below _ _ _ c.args.path.now s (seen c.self.view_is c.self.invariant) read c.args.node here _
            w.child_count.ensures some one.1))
        | else-depth-eq0-via-else-depth-eq0 w ↦
            absurd (omega (arith, w.if-depth-eq0.false, c.depth.ensures v value, one.0))
      ]
    ]

pub returns-clause-change : goal.returns-clause-change
returns-clause-change c = λ s read here v value allowed.
    let h = seen c.self.view_is c.self.invariant in
    value_changed _ _ _ c.args.path.now s h read c.args.node here c.args.value v value allowed
    (c.ends_in_key.ensures.0 c.if-not-ends_in_key.false) c.totals_of-totals.result
    (c.totals_of-totals.ensures h.tree h.is ∙ ap totals_of (tree_is _ _ _ s h read))
