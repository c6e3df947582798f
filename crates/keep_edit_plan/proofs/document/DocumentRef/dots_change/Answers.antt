use Rattle.std.proofs.Common.{◌≤◌, ap, ◌∙◌, arith}
use Rattle.keep_syntax.specs.Tree.{value_depth}
use Rattle.keep_meaning.specs.OtherValues.{totals_of}
use Rattle.keep_edit_plan.proofs.AnswerLaws.{seen, tree_is}
use Rattle.keep_edit_plan.proofs.DotsChangeLaws.{dots_changed, few_passed, on_line}
use Rattle.keep_edit_plan.proofs.document.DocumentRef.dots_change.Goals as goal

pub overflow_sub-keys : goal.overflow_sub-keys
overflow_sub-keys c =
    let (s, read, (v, value, there)) = c.requires.aimed in
    few_passed _ _ _ c.args.path s v c.args.value.now c.args.insertion (seen c.self.view_is c.self.invariant) read value
    there c.requires.utf8 _ c.in-AfterLine.is c.holder_of-holder.result (c.holder_of-holder.ensures.holder s read)

pub numbers_past-requires : goal.numbers_past-requires
numbers_past-requires c =
    let (s, read, (v, value, there)) = c.requires.aimed in (
      s,
      read,
      (
        _,
        on_line _ _ _ c.args.path s v c.args.value.now c.args.insertion (seen c.self.view_is c.self.invariant) read
            value there c.requires.utf8 _ c.in-AfterLine.is,
      ),
    )

pub returns : goal.returns
returns c = λ s read v value there.
    let h = seen c.self.view_is c.self.invariant in
    let flat : value_depth v ≤ 0 = omega (arith, c.if-depth-ne0.false, c.depth.ensures v value) in
    let line =
    on_line _ _ _ c.args.path s v c.args.value.now c.args.insertion h read value there c.requires.utf8 _
    c.in-AfterLine.is in
    dots_changed _ _ _ c.args.path s v c.args.value.now c.args.insertion h read value there c.requires.utf8 _
    c.in-AfterLine.is c.holder_of-holder.result (c.holder_of-holder.ensures.holder s read) flat c.numbers_past.result
    (c.numbers_past.ensures s read _ line) c.kind.result (c.kind.ensures v value) c.totals_of.result
    (c.totals_of.ensures h.tree h.is ∙ ap totals_of (tree_is _ _ _ s h read))
