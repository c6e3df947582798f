use Rattle.std.proofs.Common.{rules, inl, inr}
use Rattle.keep_edit_plan.proofs.CutPlaces.{cut_alone, cut_at_end}
use Rattle.keep_edit_plan.proofs.open_value.taking.cut_last.Goals as goal

pub returns-then-has_no_comma : goal.returns-then-has_no_comma
returns-then-has_no_comma c =
    inr (cut_alone c.args.text.now c.as_bytes-bytes.result.now c.args.places.now c.args.number
    c.in_ok-checked_add.field-0 c.in_ok-bytes_before.field-0 c.in_ok-before.before c.in_ok-start.start c.in_ok-end.end
    c.in_ok-here.here (search rules) (search rules) (search rules) (search rules) (search rules) (search rules)
    (search rules) (search rules) (search rules) (search rules))

pub returns : goal.returns
returns c =
    inl (cut_at_end c.args.text.now c.as_bytes-bytes.result.now c.args.places.now c.args.number
    c.in_ok-checked_add.field-0 c.in_ok-bytes_before.field-0 c.in_ok-before.before c.in_ok-start.start c.in_ok-end.end
    c.in_ok-here.here (search rules) (search rules) (search rules) (search rules) (search rules) (search rules)
    (search rules) (search rules) (search rules) (search rules))
