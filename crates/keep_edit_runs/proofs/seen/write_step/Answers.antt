use Rattle.std.proofs.Common.{◌≡◌, ◌∙◌, Some, None, rules, slice_get}
use Rattle.keep_path.specs.Path.{index, key}
use Rattle.keep_edit_runs.specs.Seen.{with_step}
use Rattle.keep_edit_runs.proofs.SeenLaws.{step_more, step_past}
use Rattle.keep_edit_runs.proofs.seen.write_step.Goals as goal

pub returns-in-Some-Key : goal.returns-in-Some-Key
returns-in-Some-Key c =
    let path = c.args.path.now in
    let n = c.args.number in
    let text = c.as_bytes.result.now in
    let is : slice_get path n ≡ Some (key text) = search rules in
    c.write.ensures ∙ step_more with_step path n (key text) c.args.hasher.now is c.requires

pub returns-in-Some-Index : goal.returns-in-Some-Index
returns-in-Some-Index c =
    let path = c.args.path.now in
    let n = c.args.number in
    let is : slice_get path n ≡ Some (index c.in-Some-Index.index) = search rules in
    c.write_usize.ensures ∙ step_more with_step path n (index c.in-Some-Index.index) c.args.hasher.now is c.requires

pub returns-in-None : goal.returns-in-None
returns-in-None c =
    let path = c.args.path.now in
    let n = c.args.number in
    let is : slice_get path n ≡ None = search rules in
    step_past with_step path n c.args.hasher.now is c.requires
