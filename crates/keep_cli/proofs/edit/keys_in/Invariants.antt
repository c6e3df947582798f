-- The keys so far, and the steps that are left.
use Rattle.std.proofs.Common.{◌≡◌, ◌++◌, map}
use Rattle.keep_path.specs.Path.{key}
use Rattle.keep_path.specs.Step.{part_of}
use Rattle.keep_edit.specs.Headers.{key_texts}
use Rattle.keep_cli.proofs.edit.keys_in.Given as goal

abbrev pub invariant-loop-step : goal.invariant-loop-step
invariant-loop-step l =
    (goal.iterator-loop-step).can_next l.step-iterator × (goal.iterator-loop-step).is_finite l.step-iterator
    × (l.fn.path ≡ map (λ text. key text) (key_texts l.keys.items) ++ map part_of l.step-iterator.rest.items)
