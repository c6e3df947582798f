use Rattle.std.proofs.Common.{◌≡◌, ◌+◌, ◌<◌, [], suc, get_or, length, sym, subst, ◌∙◌, arith}
use Rattle.keep_edit_runs.specs.Runs.{MakeChanges}
use Rattle.keep_edit_runs.proofs.UndoneSteps.{two_undone}
use Rattle.keep_edit_runs.proofs.before.Before.after_undone.Goals as goal

pub loop-end-preserved : goal.loop-end-preserved
loop-end-preserved c =
    let edits = c.args.edits.now in
    let first = c.args.first in
    let now = c.args.self.now in
    let end = c.loop-end.end in
    let then = c.index-edits-end-in-loop-end.result in
    let (low, high, so_far, same) = c.loop-end.invariant in
    let lt : suc end < length edits = omega (arith, c.loop-end-test.true, high) in
    let one : end + 1 ≡ suc end = omega arith in
    let two : suc (suc end) ≡ end + 2 = omega arith in (
      omega (arith, low),
      omega (arith, lt),
      subst (λ n. MakeChanges edits first n now []) two
          (two_undone edits first end now c.index-edits-end.result then lt (sym c.index-edits-end.is)
          (subst (λ n. get_or edits n then ≡ then) one (sym c.index-edits-end-in-loop-end.is))
          (c.is_undone.ensures.undone c.if-not-is_undone.false) so_far),
      c.is_undone.ensures.planner ∙ same,
    )
