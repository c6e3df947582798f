use Rattle.std.proofs.Common.{◌≡◌, ◌∙◌, Option, Some, false, refl, rules, subst, sym, true}
use Rattle.keep_edit_spec.specs.Edits as law
use Rattle.keep_edit_spec.specs.declared.line_kind.LineKind.{LineKind}
use Rattle.keep_edit_spec.specs.declared.line_kind.LineKind.TheVariants.{OfDotted, WithHeader}
use Rattle.keep_edit_runs.specs.AddedLines.{PassesHeaderAt}
use Rattle.keep_edit_runs.specs.Runs.{IsKeptAhead, no_value, outlined}
use Rattle.keep_edit_runs.specs.declared.added_lines.AddedLines.{AddedLines}
use Rattle.keep_edit_runs.proofs.LineLaws.{header_ahead, table_ahead}
use Rattle.keep_edit_runs.proofs.added_lines.AddedLines.keep_ahead.Goals as goal
use Rattle.keep_edit_runs.proofs.added_lines.AddedLines.keep_ahead.Goals.{else-is_at_end, then-is_at_end}

pub returns-in-Insert-Some-WithHeader : goal.returns-in-Insert-Some-WithHeader
returns-in-Insert-Some-WithHeader c = λ yes.
    let x = c.args.outline.now in
    let first = c.in-Insert-Some-WithHeader.first in
    let old = c.args.self.now in
    let new = c.keep_header.new.self in
    let changes = c.args.so_far.now.changes in
    let at = c.args.edit.now.change.place.start in
    let ends = c.args.is_at_end in
    let x_is : outlined x ≡ law.insert first no_value = search rules in
    let line_is : c.args.edit.now.line ≡ Some WithHeader = search rules in
    let passed : ends ≡ false → PassesHeaderAt old at = λ none. elim c.if-is_at_end.branch [
      | then-is_at_end w ↦ absurd (let both : false ≡ true = sym none ∙ w.if-is_at_end.true in cc)
      | else-is_at_end w ↦ w.passes_header_at.ensures (sym w.value-is ∙ c.if-not-passes_header_at.false)
    ] in
    subst (λ (line : Option LineKind). IsKeptAhead old changes x at line ends new) (sym line_is)
    (header_ahead old changes x first _ at ends new x_is c.parent-in-Insert-Some-WithHeader.ensures passed
    (sym c.take_up_to.ensures ∙ c.if-take_up_to.false) (c.keep_header.ensures yes))

pub returns-in-Insert-Some-OfDotted : goal.returns-in-Insert-Some-OfDotted
returns-in-Insert-Some-OfDotted c = λ yes.
    let x = c.args.outline.now in
    let first = c.in-Insert-Some-OfDotted.first in
    let old = c.args.self.now in
    let new : AddedLines = record old { dotted = c.add-in-Insert-Some-OfDotted.new.self } in
    let changes = c.args.so_far.now.changes in
    let at = c.args.edit.now.change.place.start in
    let ends = c.args.is_at_end in
    let x_is : outlined x ≡ law.insert first no_value = search rules in
    let line_is : c.args.edit.now.line ≡ Some OfDotted = search rules in
    let passed : ends ≡ false → PassesHeaderAt old at = λ none. elim c.if-is_at_end.branch [
      | then-is_at_end w ↦ absurd (let both : false ≡ true = sym none ∙ w.if-is_at_end.true in cc)
      | else-is_at_end w ↦ w.passes_header_at.ensures (sym w.value-is ∙ c.if-not-passes_header_at.false)
    ] in
    subst (λ (line : Option LineKind). IsKeptAhead old changes x at line ends new) (sym line_is)
    (table_ahead old changes x first _ at ends new x_is c.parent.ensures passed
    (sym c.take_up_to.ensures ∙ c.if-take_up_to.false)
    (record {
      dotted = c.add-in-Insert-Some-OfDotted.ensures yes;
      ends = refl;
      same = record {
        brought = refl;
        headed = refl;
        follower = refl;
        tables = refl;
        headers = refl;
        appended = refl;
      };
    }))
