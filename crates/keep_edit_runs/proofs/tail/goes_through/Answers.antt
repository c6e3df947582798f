use Rattle.std.proofs.Common.{◌≡◌, ◌<◌, ◌∙◌, Some, ap, map, option_map, rules, slice_get, string_bytes, sym}
use Rattle.std.proofs.Common.{arith, length}
use Rattle.std.proofs.lemmas.List.{length-map}
use Rattle.std.proofs.lemmas.Option.{slice_get-map}
use Rattle.keep_path.specs.Path.{key}
use Rattle.keep_edit_plan.specs.Headers.{key_texts}
use Rattle.keep_edit_runs.proofs.AlikeLaws.{read_key}
use Rattle.keep_edit_runs.proofs.SeenPathLaws.{all_before}
use Rattle.keep_edit_runs.proofs.BlockLaws.{goes_through, same_text}
use Rattle.keep_edit_runs.proofs.tail.goes_through.Goals as goal

pub returns : goal.returns
returns c = λ yes.
    let keys = c.args.keys.now in
    let table = c.args.table.now in
    let many : length (key_texts keys) ≡ length keys = length-map keys string_bytes in
    goes_through (key_texts keys) table (omega (arith, many, c.if-len-keys.false, c.len.ensures))
    (λ n lt. c.loop-number.invariant n (omega (arith, lt, c.loop-number-test.false, c.len-number-end.ensures)))

pub loop-number-preserved : goal.loop-number-preserved
loop-number-preserved c =
    let keys = c.args.keys.now in
    let table = c.args.table.now in
    let n = c.loop-number.number in
    let own = c.in-Some-Key.key in
    let text = c.index-keys-number.result in
    let few : length table < length keys = omega (arith, c.if-len-keys.false, c.len.ensures) in
    let lt : n < length keys = omega (arith, few, c.loop-number-test.true, c.len-number-end.ensures) in
    let here : slice_get table n ≡ Some (key (string_bytes own)) = search rules in
    let there : slice_get (map key (key_texts keys)) n ≡ Some (key (string_bytes text)) =
    slice_get-map key (key_texts keys) n
    ∙ ap (option_map key) (read_key keys n text lt c.index-keys-number.is) in
    let same : string_bytes own ≡ string_bytes text =
    same_text c.eq.ensures c.if-eq.true c.as_str.ensures.value (search rules) in
    all_before (λ k. slice_get table k ≡ slice_get (map key (key_texts keys)) k) n
    (here ∙ ap (λ t. Some (key t)) same ∙ sym there) c.loop-number.invariant
