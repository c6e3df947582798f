use Rattle.std.proofs.Common.{◌≡◌, ◌-◌, ◌<◌, ◌∙◌, length, min, refl, sym, arith}
use Rattle.std.specs.Str.{bytes_eq}
use Rattle.std.proofs.lemmas.Bool.{not-false, not-true}
use Rattle.std.proofs.lemmas.Slice.Eq.{bytes_eq-Decides}
use Rattle.keep_edit_plan.specs.Headers.{key_texts}
use Rattle.keep_edit_runs.proofs.AlikeLaws.{agree_before, read_key, same_steps, same_takes}
use Rattle.keep_edit_runs.proofs.alike.keys_agree.Goals as goal

pub returns-then-ne : goal.returns-then-ne
returns-then-ne c =
    let keys = c.args.keys.now in
    let more = c.args.more.now in
    let n = c.loop-number.number - 1 in
    let m = min (length keys) (length more) in
    let lt : n < m = omega arith in
    let own = read_key keys n c.index-keys-number.result (omega (arith, lt)) c.index-keys-number.is in
    let its = read_key more n c.index-more-number.result (omega (arith, lt)) c.index-more-number.is in
    let key = c.as_str.result.now in
    let other = c.as_str-in-loop-number.result.now in (
      λ yes. absurd cc,
      λ same.
          let both = same_steps m (key_texts keys) (key_texts more) same n (omega arith) lt in
          let alike : key ≡ other = cc in
          sym (not-true (bytes_eq key other) (sym c.ne.ensures ∙ c.if-ne.true))
          ∙ (bytes_eq-Decides key other).1 alike,
    )

pub loop-number-preserved : goal.loop-number-preserved
loop-number-preserved c =
    let keys = c.args.keys.now in
    let more = c.args.more.now in
    let n = c.loop-number.number - 1 in
    let m = min (length keys) (length more) in
    let lt : n < m = omega arith in
    let own = read_key keys n c.index-keys-number.result (omega (arith, lt)) c.index-keys-number.is in
    let its = read_key more n c.index-more-number.result (omega (arith, lt)) c.index-more-number.is in
    let key = c.as_str.result.now in
    let other = c.as_str-in-loop-number.result.now in
    let alike : key ≡ other =
    (bytes_eq-Decides key other).0 (not-false (bytes_eq key other) (sym c.ne.ensures ∙ c.if-ne.false)) in
    agree_before (key_texts keys) (key_texts more) c.loop-number.number m c.loop-number.invariant cc

pub returns : goal.returns
returns c =
    let keys = c.args.keys.now in
    let more = c.args.more.now in (
      λ yes. same_takes (min (length keys) (length more)) (key_texts keys) (key_texts more)
          (λ k low lt. c.loop-number.invariant k (omega (arith, c.loop-number-test.false)) lt),
      λ same. refl,
    )
