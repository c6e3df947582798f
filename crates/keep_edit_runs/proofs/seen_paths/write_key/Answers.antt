use Rattle.std.proofs.Common.{◌≡◌, ◌≢◌, ◌∙◌, List, ℕ, Some, rules, slice_get}
use Rattle.keep_path.specs.Path.{key}
use Rattle.keep_edit_runs.specs.SeenPaths.{with_key}
use Rattle.keep_edit_runs.proofs.SeenLaws.{step_more}
use Rattle.keep_edit_runs.proofs.SeenPathLaws.{no_key_more}
use Rattle.keep_edit_runs.proofs.seen_paths.write_key.Goals as goal

pub returns-in-Some-Key : goal.returns-in-Some-Key
returns-in-Some-Key c =
    let path = c.args.path.now in
    let n = c.args.number in
    let text = c.as_bytes.result.now in
    let is : slice_get path n ≡ Some (key text) = search rules in
    c.write.ensures ∙ step_more with_key path n (key text) c.args.hasher.now is c.requires

pub returns : goal.returns
returns c =
    let path = c.args.path.now in
    let n = c.args.number in
    let no_key : (text : List ℕ) → slice_get path n ≢ Some (key text) = λ text is. search rules in
    no_key_more path n c.args.hasher.now no_key c.requires

pub returns-2 : goal.returns-2
returns-2 c =
    let path = c.args.path.now in
    let n = c.args.number in
    let no_key : (text : List ℕ) → slice_get path n ≢ Some (key text) = λ text is. search rules in
    no_key_more path n c.args.hasher.now no_key c.requires
