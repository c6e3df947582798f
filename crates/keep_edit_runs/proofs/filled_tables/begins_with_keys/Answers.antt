use Rattle.std.proofs.Common.{◌≡◌, ◌∙◌, Some, ap, map, option_map, rules, slice_get, string_bytes, sym}
use Rattle.std.proofs.Common.{arith}
use Rattle.std.specs.Str.{bytes_eq}
use Rattle.std.proofs.lemmas.Bool.{not-false}
use Rattle.std.proofs.lemmas.Option.{slice_get-map}
use Rattle.std.proofs.lemmas.Slice.Eq.{bytes_eq-Decides}
use Rattle.keep_path.specs.Path.{key}
use Rattle.keep_edit_plan.specs.Headers.{key_texts}
use Rattle.keep_edit_runs.proofs.AlikeLaws.{read_key}
use Rattle.keep_edit_runs.proofs.SeenPathLaws.{all_before}
use Rattle.keep_edit_runs.proofs.filled_tables.begins_with_keys.Goals as goal

pub loop-number-preserved : goal.loop-number-preserved
loop-number-preserved c =
    let keys = c.args.keys.now in
    let path = c.args.path.now in
    let n = c.loop-number.number in
    let own = c.in-Some-Key.own in
    let text = c.index-keys-number.result in
    let here : slice_get path n ≡ Some (key (string_bytes own)) = search rules in
    let there : slice_get (map key (key_texts keys)) n ≡ Some (key (string_bytes text)) =
    slice_get-map key (key_texts keys) n
    ∙ ap (option_map key) (read_key keys n text c.loop-number-test.true c.index-keys-number.is) in
    let alike : c.as_str.result.now ≡ c.as_str-in-loop-number.result.now =
    (bytes_eq-Decides c.as_str.result.now c.as_str-in-loop-number.result.now).0
    (not-false (bytes_eq c.as_str.result.now c.as_str-in-loop-number.result.now)
    (sym c.ne.ensures ∙ c.if-ne.false)) in
    let same : string_bytes own ≡ string_bytes text = cc in
    all_before (λ k. slice_get path k ≡ slice_get (map key (key_texts keys)) k) n
    (here ∙ ap (λ t. Some (key t)) same ∙ sym there) c.loop-number.invariant

pub returns : goal.returns
returns c = λ yes n lt. c.loop-number.invariant n (omega (arith, lt, c.loop-number-test.false))
