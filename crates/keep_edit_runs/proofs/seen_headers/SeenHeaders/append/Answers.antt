use Rattle.std.proofs.Common.{◌≡◌, ◌+◌, ◌<◌, ◌∙◌, ℕ, ap, arith, length, map, string_bytes, take}
use Rattle.std.specs.Hash.FoldHasher.{finish}
use Rattle.keep_path.specs.Path.{key}
use Rattle.keep_edit_plan.specs.Headers.{key_texts}
use Rattle.std.proofs.lemmas.List.{length-map}
use Rattle.keep_edit_runs.specs.SeenHeaders.{HasAppended, HasBrought}
use Rattle.keep_edit_runs.specs.SeenPaths.{with_key}
use Rattle.keep_edit_runs.proofs.HeaderLaws.{more_of_more}
use Rattle.keep_edit_runs.proofs.SeenLaws.{key_more}
use Rattle.keep_edit_runs.proofs.SeenPathLaws.{all_before}
use Rattle.keep_edit_runs.proofs.seen_headers.SeenHeaders.append.Goals as goal

pub loop-key-preserved : goal.loop-key-preserved
loop-key-preserved c =
    let keys = c.args.keys.now in
    let path = map key (key_texts keys) in
    let n = c.loop-key.key-index in
    let old = c.args.self.now in
    let new = c.append_beginning.new.self in
    let (on, hashed, before) = c.loop-key.invariant in
    let hashed_now =
    c.write.ensures
    ∙ key_more with_key keys n c.key-item.result c.as_bytes.result.now c.loop-key.hasher c.loop-key-test.true
    c.key-item.is c.as_bytes.ensures.value hashed in
    let number_is = c.finish.ensures ∙ ap finish hashed_now in
    let one = c.append_beginning.ensures c.if-not-append_beginning.false in (
      more_of_more old c.loop-key.self new on one.more,
      hashed_now,
      all_before
          (λ (k : ℕ). (¬ HasBrought old (take (k + 1) path)) × HasAppended new (take (k + 1) path)) n (
            λ had. one.passes (take (n + 1) path) number_is (on.brought (take (n + 1) path) had),
            one.here (take (n + 1) path) number_is,
          )
          (λ k lt. ((before k lt).0, one.more.appended (take (k + 1) path) (before k lt).1)),
    )

pub returns : goal.returns
returns c = λ yes.
    let keys = c.args.keys.now in
    let path = map key (key_texts keys) in
    let n = c.loop-key.key-index in
    let (on, hashed, before) = c.loop-key.invariant in
    let many : length path ≡ length keys = length-map (key_texts keys) key ∙ length-map keys string_bytes in
    let low : (k : ℕ) → k < length path → k < n = λ k lt. omega (arith, lt, many, c.loop-key-test.false) in
    record {
      passes = λ k lt. (before k (low k lt)).0;
      here = λ k lt. (before k (low k lt)).1;
      more = on;
    }
