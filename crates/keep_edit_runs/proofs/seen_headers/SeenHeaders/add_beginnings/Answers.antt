use Rattle.std.proofs.Common.{◌≡◌, ◌+◌, ◌∙◌, ℕ, ap, arith, length, map, string_bytes, subst, sym, take}
use Rattle.std.specs.Hash.FoldHasher.{finish}
use Rattle.keep_path.specs.Path.{key}
use Rattle.keep_edit_plan.specs.Headers.{key_texts}
use Rattle.std.proofs.lemmas.List.{length-map}
use Rattle.keep_edit_runs.specs.SeenPaths.{keys_number, with_key}
use Rattle.keep_edit_runs.proofs.HeaderLaws.{no_error_holds}
use Rattle.keep_edit_runs.proofs.SeenLaws.{HasNumber, key_more, number_added}
use Rattle.keep_edit_runs.proofs.SeenPathLaws.{all_before, numbers_kept}
use Rattle.keep_edit_runs.proofs.seen_headers.SeenHeaders.add_beginnings.Goals as goal

pub loop-own-preserved : goal.loop-own-preserved
loop-own-preserved c =
    let keys = c.args.keys.now in
    let path = map key (key_texts keys) in
    let n = c.loop-own.own-index in
    let then = c.loop-own.self in
    let (on, hashed, before) = c.loop-own.invariant in
    let hashed_now =
    c.write.ensures
    ∙ key_more with_key keys n c.own-item.result c.as_bytes.result.now c.loop-own.hasher c.loop-own-test.true
    c.own-item.is c.as_bytes.ensures.value hashed in
    let number = c.finish.result in
    let number_is = c.finish.ensures ∙ ap finish hashed_now in
    let updates =
    no_error_holds _ c.insert.result (sym c.is_err.ensures.value ∙ c.if-is_err.false) c.insert.ensures.updates in
    let (own, others) = number_added then.appended c.insert.new.self number updates in
    let more = numbers_kept then.appended c.insert.new.self number updates in (
      record { appended = λ q has. more q (on.appended q has); brought = on.brought },
      hashed_now,
      all_before (λ (k : ℕ). HasNumber c.insert.new.self (keys_number (take (k + 1) path))) n
          (subst (HasNumber c.insert.new.self) number_is own)
          (λ k lt. more (take (k + 1) path) (before k lt)),
    )

pub returns : goal.returns
returns c = λ yes.
    let keys = c.args.keys.now in
    let path = map key (key_texts keys) in
    let n = c.loop-own.own-index in
    let (on, hashed, before) = c.loop-own.invariant in
    let many : length path ≡ length keys = length-map (key_texts keys) key ∙ length-map keys string_bytes in
    (λ k lt. before k (omega (arith, lt, many, c.loop-own-test.false)), on)
