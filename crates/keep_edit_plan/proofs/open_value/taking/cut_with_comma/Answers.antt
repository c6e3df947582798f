use Rattle.std.proofs.Common.{rules}
use Rattle.keep_edit_plan.proofs.CutPlaces.{cut_to_comma}
use Rattle.keep_edit_plan.proofs.open_value.taking.cut_with_comma.Goals as goal

pub returns : goal.returns
returns c =
    cut_to_comma c.args.text.now c.as_bytes.result.now c.args.places.now c.args.number c.in_ok-bytes_before.field-0
    c.in_ok-checked_add.field-0 c.in_ok-start.start c.in_ok-end.end c.in_ok-end-2.end c.in_ok-run.run' c.in_ok-here.here
    (search rules) (search rules) (search rules) (search rules) (search rules) (search rules) (search rules)
    (search rules)
