use Rattle.std.proofs.Common.{◌∙◌, ℕ, ap, take}
use Rattle.std.specs.Hash.FoldHasher.{finish}
use Rattle.keep_edit_runs.specs.KnownArrays.{HasBeginning}
use Rattle.keep_edit_runs.proofs.KnownLaws.{goes_on}
use Rattle.keep_edit_runs.proofs.SeenPathLaws.{all_before}
use Rattle.keep_edit_runs.proofs.known_arrays.KnownArrays.add.Goals as goal

pub loop-number-preserved : goal.loop-number-preserved
loop-number-preserved c =
    let array = c.args.array.now in
    let n = c.loop-number.number in
    let (on, hashed, before) = c.loop-number.invariant in
    let new = c.add_beginning.new.self in
    let more = c.add_beginning.ensures.others in (
      goes_on c.args.self.now c.loop-number.self new on more,
      c.write_step.ensures,
      all_before (λ (k : ℕ). HasBeginning new (take k array)) n
          (c.in_ok-add_beginning.ensures.added (take n array) (c.finish.ensures ∙ ap finish hashed))
          (λ k lt. more.beginnings (take k array) (before k lt)),
    )
