use Rattle.std.proofs.Common.{◌≡◌, ◌≢◌, ◌∙◌, List, ℕ, Some, arith, false, rules, slice_get, string_bytes, sym, true}
use Rattle.std.specs.Str.{bytes_eq}
use Rattle.std.proofs.lemmas.Bool.{not-false, not-true}
use Rattle.keep_path.specs.Path.{key}
use Rattle.keep_edit_runs.specs.Runs.{rest_from}
use Rattle.keep_edit_runs.proofs.KeysOnPath.{index_next, key_next, key_stops, stops_at_end, stops_at_other}
use Rattle.keep_edit_runs.proofs.alike.keys_on_path.Goals as goal
use Rattle.keep_edit_runs.proofs.alike.keys_on_path.Goals.{then-next-keys-via-then-next-keys}
use Rattle.keep_edit_runs.proofs.alike.keys_on_path.Goals.{then-next-keys-via-else-next-keys+then-ne}

pub loop-number-preserved-in_default : goal.loop-number-preserved-in_default
loop-number-preserved-in_default c =
    let path = c.args.path.now in
    let n = c.loop-number.number in
    let no_key : (text : List ℕ) → slice_get path n ≢ Some (key text) = λ text is. search rules in (
      index_next c.args.keys.now path n (rest_from c.args.keys.now c.loop-number.next) no_key c.loop-number.invariant.0,
      c.loop-number.invariant.1,
    )

pub returns-then-next-keys-clause-rest : goal.returns-then-next-keys-clause-rest
returns-then-next-keys-clause-rest c =
    let keys = c.args.keys.now in
    let path = c.args.path.now in
    let n = c.loop-number.number in
    let next = c.loop-number.next in
    let text = string_bytes c.in-Some-Key.own in
    let step : slice_get path n ≡ Some (key text) = search rules in
    let stops = key_stops keys path n c.args.count next text c.loop-number-test.true step c.loop-number.invariant.0 in
    elim c.then-next-keys.branch [
      | then-next-keys-via-then-next-keys w ↦ sym (stops (stops_at_end keys next text w.if-next-keys.true))
      | then-next-keys-via-else-next-keys+then-ne w ↦
          let own = w.index-keys-next.result in
          let differ = not-true (bytes_eq w.as_str.result.now w.as_str-else-next-keys.result.now)
          (sym w.ne.ensures ∙ w.if-ne.true) in
          let other : bytes_eq (string_bytes own) text ≡ false = cc in
          sym (stops (stops_at_other keys next own text (omega (arith, c.loop-number.invariant.1))
          w.index-keys-next.is other))
    ]

pub loop-number-preserved : goal.loop-number-preserved
loop-number-preserved c =
    let keys = c.args.keys.now in
    let path = c.args.path.now in
    let n = c.loop-number.number in
    let next = c.loop-number.next in
    let own = c.index-keys-next.result in
    let text = string_bytes c.in-Some-Key.own in
    let step : slice_get path n ≡ Some (key text) = search rules in
    let alike = not-false (bytes_eq c.as_str.result.now c.as_str-else-next-keys.result.now)
    (sym c.ne.ensures ∙ c.if-ne.false) in
    let same : bytes_eq (string_bytes own) text ≡ true = cc in (
      key_next keys path n next own text step c.loop-number.invariant.0 (omega (arith, c.loop-number.invariant.1))
          c.index-keys-next.is same,
      omega (arith, c.loop-number.invariant.1),
    )
