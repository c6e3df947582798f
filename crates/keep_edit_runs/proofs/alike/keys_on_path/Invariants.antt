use Rattle.std.proofs.Common.{◌≡◌, ◌≤◌, Some, length, take}
use Rattle.keep_edit_runs.specs.Runs.{rest_after, rest_from}
use Rattle.keep_edit_runs.proofs.alike.keys_on_path.Given as goal

abbrev pub invariant-loop-number : goal.invariant-loop-number
invariant-loop-number l =
    (rest_after l.keys (take l.number l.path) ≡ Some (rest_from l.keys l.next)) × (l.next ≤ length l.keys)
