use Rattle.std.proofs.Common.{◌≡◌, ◌-◌, ◌∙◌, Some, ap, arith, length, rules, slice_get}
use Rattle.keep_path.specs.Path.{key}
use Rattle.keep_edit_runs.proofs.AlikeLaws.{own_beside}
use Rattle.keep_edit_runs.proofs.alike.is_new_path.Goals as goal

pub returns : goal.returns
returns c = λ yes.
    let path = c.args.path.now in
    let text = c.as_str.result.now in
    let n = c.saturating_sub.result in
    let last : length path - 1 ≡ n = omega (arith, c.saturating_sub.ensures, c.len.ensures) in
    let here : slice_get path n ≡ Some (key text) = search rules in
    c.is_renamed_alike.ensures.0 yes ∙ own_beside path text (ap (slice_get path) last ∙ here)
