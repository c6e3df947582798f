use Rattle.std.proofs.Common.{◌≡◌, ◌+◌, ◌<◌, ◌∙◌, ℕ, ap, arith, length, map, rules, string_bytes, sym, take}
use Rattle.std.specs.Hash.FoldHasher.{finish}
use Rattle.keep_path.specs.Path.{key}
use Rattle.keep_edit_plan.specs.Headers.{key_texts}
use Rattle.std.proofs.lemmas.List.{length-map}
use Rattle.keep_edit_runs.specs.Seen.{hashed, with_step}
use Rattle.keep_edit_runs.specs.SeenPaths.{HasEnd}
use Rattle.keep_edit_runs.proofs.SeenLaws.{all_keys, key_more}
use Rattle.keep_edit_runs.proofs.SeenPathLaws.{all_before, first_key, keys_as_path}
use Rattle.keep_edit_runs.proofs.seen_paths.SeenPaths.misses_keys.Goals as goal

pub loop-key-preserved : goal.loop-key-preserved
loop-key-preserved c =
    let keys = c.args.keys.now in
    let path = map key (key_texts keys) in
    let n = c.loop-key.key-index in
    let more_hashed =
    c.write.ensures
    ∙ key_more with_step keys n c.key-item.result c.as_bytes.result.now c.loop-key.hasher c.loop-key-test.true
    c.key-item.is c.as_bytes.ensures.value c.loop-key.invariant.0 in (
      more_hashed,
      all_before (λ (k : ℕ). ¬ HasEnd c.args.self.now (take (k + 1) path)) n
          (c.lacks_end.ensures c.if-not-lacks_end.false (take (n + 1) path) (c.finish.ensures ∙ ap finish more_hashed))
          c.loop-key.invariant.1,
    )

pub returns : goal.returns
returns c = λ yes.
    let keys = c.args.keys.now in
    let path = map key (key_texts keys) in
    let n = c.loop-key.key-index in
    let some : 0 < length keys = search rules in
    let whole : c.loop-key.hasher ≡ hashed path =
    c.loop-key.invariant.0 ∙ ap hashed (all_keys keys n c.loop-key-test.false) in
    let many : length path ≡ length keys = length-map (key_texts keys) key ∙ length-map keys string_bytes in record {
      first = first_key keys some;
      lacks = c.lacks_beginning.ensures.path yes path (c.finish-2.ensures ∙ ap finish whole);
      lacks_keys = c.lacks_beginning.ensures.keys yes path
          (c.finish-2.ensures ∙ ap finish whole ∙ sym (keys_as_path (key_texts keys)));
      all = λ k lt. c.loop-key.invariant.1 k (omega (arith, lt, many, c.loop-key-test.false));
    }
