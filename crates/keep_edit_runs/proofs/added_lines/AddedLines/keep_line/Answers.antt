use Rattle.std.proofs.Common.{◌≡◌, ◌∙◌, Option, Some, inl, inr, rules, subst, sym}
use Rattle.keep_edit_spec.specs.Edits as law
use Rattle.keep_edit_spec.specs.declared.line_kind.LineKind.{LineKind}
use Rattle.keep_edit_spec.specs.declared.line_kind.LineKind.TheVariants.{OfDotted, WithHeader}
use Rattle.keep_edit_plan.specs.Headers.{key_texts}
use Rattle.keep_edit_runs.specs.Runs.{IsLineKept, no_value, outlined}
use Rattle.keep_edit_runs.proofs.LineLaws.{AppendsHeader, appended_kept, header_kept, table_kept}
use Rattle.keep_edit_runs.proofs.added_lines.AddedLines.keep_line.Goals as goal
use Rattle.keep_edit_runs.proofs.added_lines.AddedLines.keep_line.Goals.{in-Table-default, in-Table-default-2}

pub returns-then-not-take_up_to-2 : goal.returns-then-not-take_up_to-2
returns-then-not-take_up_to-2 c = λ yes.
    let x = c.args.outline.now in
    let first = c.in-Insert-Some-WithHeader.first in
    let old = c.args.self.now in
    let new = c.keep_header.new.self in
    let changes = c.args.so_far.now.changes in
    let at = c.args.edit.now.change.place.start in
    let x_is : outlined x ≡ law.insert first no_value = search rules in
    let line_is : c.args.edit.now.line ≡ Some WithHeader = search rules in
    subst (λ (line : Option LineKind). IsLineKept old changes x at line new) (sym line_is)
    (header_kept old changes x first _ at new x_is c.parent-then-not-take_up_to-2.ensures
    (sym c.take_up_to-in-Insert-Some-WithHeader.ensures ∙ c.if-not-take_up_to-2.true) (c.keep_header.ensures yes))

pub returns-then-not-take_up_to : goal.returns-then-not-take_up_to
returns-then-not-take_up_to c = λ yes.
    let x = c.args.outline.now in
    let first = c.in-Insert-Some-OfDotted.first in
    let old = c.args.self.now in
    let new = c.keep_table.new.self in
    let changes = c.args.so_far.now.changes in
    let at = c.args.edit.now.change.place.start in
    let x_is : outlined x ≡ law.insert first no_value = search rules in
    let line_is : c.args.edit.now.line ≡ Some OfDotted = search rules in
    subst (λ (line : Option LineKind). IsLineKept old changes x at line new) (sym line_is)
    (table_kept old changes x first _ at new x_is c.parent.ensures
    (sym c.take_up_to.ensures ∙ c.if-not-take_up_to.true) (c.keep_table.ensures yes))

pub returns-in-Table-default : goal.returns-in-Table-default
returns-in-Table-default c = λ yes.
    let x = c.args.outline.now in
    let keys = key_texts c.in-Table-default-1.keys.now.now in
    let appends : AppendsHeader keys (outlined x) = elim c.in-Table-default-1.branch [
      | in-Table-default w ↦ inl (search rules)
      | in-Table-default-2 w ↦ inr (search rules)
    ] in
    appended_kept c.args.self.now c.args.so_far.now.changes x c.args.edit.now.change.place.start c.args.edit.now.line
    keys c.keep_appended.new.self appends (c.keep_appended.ensures yes)
