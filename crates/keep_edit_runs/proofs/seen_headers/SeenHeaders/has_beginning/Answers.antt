use Rattle.std.proofs.Common.{◌≡◌, ◌+◌, ◌∙◌, ◌==◌, ℕ, ap, arith, false, length, map, string_bytes, subst, sym, take}
use Rattle.std.specs.Hash.FoldHasher.{finish}
use Rattle.std.specs.HashSet.{contains_by}
use Rattle.keep_path.specs.Path.{key}
use Rattle.keep_edit_plan.specs.Headers.{key_texts}
use Rattle.std.proofs.lemmas.List.{length-map}
use Rattle.keep_edit_runs.specs.SeenHeaders.{HasAppended}
use Rattle.keep_edit_runs.specs.SeenPaths.{with_key}
use Rattle.keep_edit_runs.proofs.SeenLaws.{HasNumber, key_more}
use Rattle.keep_edit_runs.proofs.SeenPathLaws.{all_before}
use Rattle.keep_edit_runs.proofs.seen_headers.SeenHeaders.has_beginning.Goals as goal

pub loop-name-preserved : goal.loop-name-preserved
loop-name-preserved c =
    let keys = c.args.keys.now in
    let path = map key (key_texts keys) in
    let n = c.loop-name.name-index in
    let (hashed, before) = c.loop-name.invariant in
    let hashed_now =
    c.write.ensures
    ∙ key_more with_key keys n c.name-item.result c.as_bytes.result.now c.loop-name.hasher c.loop-name-test.true
    c.name-item.is c.as_bytes.ensures.value hashed in
    let number_is = c.finish.ensures ∙ ap finish hashed_now in (
      hashed_now,
      all_before (λ (k : ℕ). ¬ HasAppended c.args.self.now (take (k + 1) path)) n
          (λ has.
          (let none : contains_by (λ m. c.finish.result == m) c.args.self.now.appended ≡ false =
          sym c.contains.ensures ∙ c.if-contains.false in
          let some : HasNumber c.args.self.now.appended c.finish.result =
          subst (HasNumber c.args.self.now.appended) (sym number_is) has in absurd cc))
          before,
    )

pub returns : goal.returns
returns c = λ no k lt.
    let keys = c.args.keys.now in
    let path = map key (key_texts keys) in
    let many : length path ≡ length keys = length-map (key_texts keys) key ∙ length-map keys string_bytes in
    c.loop-name.invariant.1 k (omega (arith, lt, many, c.loop-name-test.false))
