use Rattle.std.proofs.Common.{◌+◌, ◌∙◌, ℕ, ap, take}
use Rattle.std.specs.Hash.FoldHasher.{finish}
use Rattle.keep_edit_runs.specs.SeenPaths.{HasBeginning}
use Rattle.keep_edit_runs.proofs.SeenPathLaws.{all_before, goes_on}
use Rattle.keep_edit_runs.proofs.seen_paths.SeenPaths.add_path.Goals as goal

pub loop-number-preserved : goal.loop-number-preserved
loop-number-preserved c =
    let path = c.args.path.now in
    let n = c.loop-number.number in
    let (on, hashed, before) = c.loop-number.invariant in
    let new = c.add_beginning.new.self in
    let more = c.add_beginning.ensures.others in (
      goes_on c.args.self.now c.loop-number.self new on more,
      c.write_step.ensures,
      all_before (λ (k : ℕ). HasBeginning new (take (k + 1) path)) n
          (c.in_ok-add_beginning.ensures.added (take (n + 1) path) (c.finish.ensures ∙ ap finish c.write_step.ensures))
          (λ k lt. more.beginnings (take (k + 1) path) (before k lt)),
    )
