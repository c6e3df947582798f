use Rattle.std.proofs.Common.{◌≡◌, ◌∙◌, List, ap, rules, subst, sym}
use Rattle.keep_path.specs.Path.{Part}
use Rattle.keep_edit.specs.Children.{child_count_of}
use Rattle.keep_edit_plan.specs.declared.edit.Edit.{Edit}
use Rattle.keep_cli.specs.Script.{edit_path}
use Rattle.keep_cli.specs.Scripting.{StatesEdits}
use Rattle.keep_cli.proofs.ScriptLaws.{array_at, entries_after, many_after, no_array, none_stated, stops}
use Rattle.keep_cli.proofs.script.edits_of.Goals as goal

pub element_count-requires : goal.element_count-requires
element_count-requires c = search rules

pub returns-in_default-node : goal.returns-in_default-node
returns-in_default-node c = λ s read.
    let keys =
    c.child_count-keys.ensures.count s read ∙ ap (λ (p : List Part). child_count_of p s) c.new-path.ensures in
    let same : c.push_key.new.self ≡ edit_path = search rules in
    subst (λ (es : List Edit). StatesEdits c.args.profile s es) (sym c.new-edits.ensures.items)
    (none_stated c.args.profile s c.in-Some.count (sym (c.element_count.ensures s read keys) ∙ c.in-Some.is)
    (no_array s _ _ (c.node.ensures s read) same c.in_default-node.is))

pub loop-index-preserved : goal.loop-index-preserved
loop-index-preserved c =
    let same : c.push_key.new.self ≡ edit_path = search rules in (
      many_after c.loop-index.index c.loop-index.edits.items _ c.in_ok-edit.edit c.in-Ok.ensures.items
          c.loop-index.invariant.0,
      λ s read.
          entries_after c.args.profile s c.loop-index.index c.loop-index.edits.items _ c.in_ok-edit.edit
          c.in-Ok.ensures.items c.loop-index.invariant.0 (c.loop-index.invariant.1 s read)
          (c.in_ok-edit.ensures s (array_at s _ _ c.in-Some-node.array (c.node.ensures s read) same
          c.in-Some-node.is)),
    )

pub returns-in_err-edit : goal.returns-in_err-edit
returns-in_err-edit c = λ s read.
    let keys =
    c.child_count-keys.ensures.count s read ∙ ap (λ (p : List Part). child_count_of p s) c.new-path.ensures in
    let same : c.push_key.new.self ≡ edit_path = search rules in
    stops c.args.profile s c.in-Some.count c.loop-index.index c.loop-index.edits.items c.in_err-edit.field-0.0
    c.from_residual-in_err-edit.result c.from_residual-in_err-edit.ensures.1
    (sym (c.element_count.ensures s read keys) ∙ c.in-Some.is) c.loop-index-test.true c.loop-index.invariant.0
    (c.loop-index.invariant.1 s read)
    (c.in_err-edit.ensures s (array_at s _ _ c.in-Some-node.array (c.node.ensures s read) same c.in-Some-node.is))
