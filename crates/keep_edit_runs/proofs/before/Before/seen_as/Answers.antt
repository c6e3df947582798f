use Rattle.std.proofs.Common.{arith, inl, inr}
use Rattle.keep_edit_runs.proofs.before.Before.seen_as.Goals as goal

pub overflow_add-first_key : goal.overflow_add-first_key
overflow_add-first_key c = elim c.reach-reach.ensures.few [
  | inl none ↦ omega (arith, none)
  | inr less ↦ omega (arith, less)
]
