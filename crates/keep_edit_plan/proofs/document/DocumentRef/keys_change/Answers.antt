use Rattle.std.proofs.Common.{◌≤◌, sym, ap, ◌∙◌, arith}
use Rattle.keep_syntax.specs.Tree.{value_depth}
use Rattle.keep_meaning.specs.OtherValues.{totals_of}
use Rattle.keep_meaning.proofs.Shared.{keys_add_nodes, keys_add_value_nodes, keys_are_found}
use Rattle.keep_rules.proofs.Shared.{keys_are_nested}
use Rattle.keep_edit_spec.proofs.Shared.{insert_adds_keys}
use Rattle.keep_edit_plan.proofs.AnswerLaws.{seen, tree_is}
use Rattle.keep_edit_plan.proofs.KeysChangeLaws.{keys_added, keys_value_added}
use Rattle.keep_edit_plan.proofs.LineChangeLaws.{body_spot}
use Rattle.keep_edit_plan.proofs.document.DocumentRef.keys_change.Goals as goal

pub line_numbers-numbers-requires : goal.line_numbers-numbers-requires
line_numbers-numbers-requires c =
    let (s, read, (v, value, there)) = c.requires.aimed in
    let spot =
    body_spot _ _ _ c.args.path.now s v c.args.value.now c.args.insertion (seen c.self.view_is c.self.invariant) read
    value there c.requires.utf8 _ c.in-AfterBody.is in
    (s, read, (_, _, spot))

-- nothing is in the value
pub returns-then-depth-eq0 : goal.returns-then-depth-eq0
returns-then-depth-eq0 c = λ s read v value there.
    let h = seen c.self.view_is c.self.invariant in
    let spot =
    body_spot _ _ _ c.args.path.now s v c.args.value.now c.args.insertion h read value there c.requires.utf8 _
    c.in-AfterBody.is in
    let flat : value_depth v ≤ 0 = omega (arith, c.if-depth-eq0.true, c.depth.ensures v value) in
    keys_added insert_adds_keys keys_are_found keys_are_nested _ _ _ c.args.path s v c.args.value.now
    c.args.insertion h read value there c.requires.utf8 _ c.in-AfterBody.is c.requires.several
    c.in_ok-parent.parent (sym c.in_ok-parent.ensures.found) _ (c.line_numbers-numbers.ensures s read _ _ spot)
    c.totals_of-old.result (c.totals_of-old.ensures h.tree h.is ∙ ap totals_of (tree_is _ _ _ s h read))
    keys_add_nodes flat _ (c.kind.ensures v value)

-- something may be
pub returns : goal.returns
returns c = λ s read v value there.
    let h = seen c.self.view_is c.self.invariant in
    let spot =
    body_spot _ _ _ c.args.path.now s v c.args.value.now c.args.insertion h read value there c.requires.utf8 _
    c.in-AfterBody.is in
    keys_value_added insert_adds_keys keys_are_found keys_are_nested _ _ _ c.args.path s v c.args.value.now
    c.args.insertion h read value there c.requires.utf8 _ c.in-AfterBody.is c.requires.several
    c.in_ok-parent.parent (sym c.in_ok-parent.ensures.found) _ (c.line_numbers-numbers.ensures s read _ _ spot)
    c.totals_of-old.result (c.totals_of-old.ensures h.tree h.is ∙ ap totals_of (tree_is _ _ _ s h read))
    keys_add_value_nodes c.args.value value
