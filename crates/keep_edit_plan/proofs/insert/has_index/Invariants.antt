-- None of the steps so far is an index.
use Rattle.std.proofs.Common.{◌≡◌, drop}
use Rattle.std.specs.List.{list_any}
use Rattle.keep_edit_spec.specs.Look.{is_index}
use Rattle.keep_edit_plan.proofs.insert.has_index.Given as goal

abbrev pub invariant-loop-number : goal.invariant-loop-number
invariant-loop-number l = list_any is_index (drop l.from l.path) ≡ list_any is_index (drop l.number l.path)
