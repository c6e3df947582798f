use Rattle.std.proofs.Common.{◌≡◌, ◌+◌, ◌<◌, ◌∙◌, ℕ, ap, arith, length, map, rules, string_bytes, sym, take}
use Rattle.std.specs.Hash.FoldHasher.{finish}
use Rattle.keep_path.specs.Path.{key}
use Rattle.keep_edit_plan.specs.Headers.{key_texts}
use Rattle.std.proofs.lemmas.List.{length-map}
use Rattle.keep_edit_runs.specs.Seen.{hashed, with_step}
use Rattle.keep_edit_runs.specs.SeenPaths.{HasBeginning}
use Rattle.keep_edit_runs.proofs.SeenLaws.{all_keys, key_more}
use Rattle.keep_edit_runs.proofs.SeenPathLaws.{all_before, first_key, goes_on, keys_as_path}
use Rattle.keep_edit_runs.proofs.seen_paths.SeenPaths.add_names.Goals as goal

pub loop-key-preserved : goal.loop-key-preserved
loop-key-preserved c =
    let keys = c.args.keys.now in
    let path = map key (key_texts keys) in
    let n = c.loop-key.key-index in
    let (on, now, before) = c.loop-key.invariant in
    let more_hashed =
    c.write.ensures
    ∙ key_more with_step keys n c.key-item.result c.as_bytes.result.now c.loop-key.hasher c.loop-key-test.true
    c.key-item.is c.as_bytes.ensures.value now in
    let new = c.add_beginning.new.self in
    let more = c.add_beginning.ensures.others in (
      goes_on c.args.self.now c.loop-key.self new on more,
      more_hashed,
      all_before (λ (k : ℕ). HasBeginning new (take (k + 1) path)) n
          (c.in_ok-add_beginning.ensures.added (take (n + 1) path) (c.finish.ensures ∙ ap finish more_hashed))
          (λ k lt. more.beginnings (take (k + 1) path) (before k lt)),
    )

pub returns-clause-added : goal.returns-clause-added
returns-clause-added c = λ yes.
    let keys = c.args.keys.now in
    let path = map key (key_texts keys) in
    let n = c.loop-key.key-index in
    let (on, now, before) = c.loop-key.invariant in
    let some : 0 < length keys = search rules in
    let whole : c.loop-key.hasher ≡ hashed path =
    now ∙ ap hashed (all_keys keys n c.loop-key-test.false) in
    let many : length path ≡ length keys = length-map (key_texts keys) key ∙ length-map keys string_bytes in record {
      first = first_key keys some;
      whole = c.in_ok-add_end.ensures.added path (c.finish-2.ensures ∙ ap finish whole);
      keyed = c.in_ok-add_end.ensures.keys path
          (c.finish-2.ensures ∙ ap finish whole ∙ sym (keys_as_path (key_texts keys)));
      all = λ k lt.
          c.add_end.ensures.others.beginnings (take (k + 1) path)
          (before k (omega (arith, lt, many, c.loop-key-test.false)));
    }
