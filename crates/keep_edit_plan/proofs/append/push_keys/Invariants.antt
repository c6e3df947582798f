use Rattle.std.proofs.Common.{◌≡◌, ◌++◌}
use Rattle.std.specs.Prelude.{string_bytes}
use Rattle.keep_edit_plan.proofs.AppendLaws.{keys_so_far}
use Rattle.keep_edit_plan.proofs.append.push_keys.Given as goal

abbrev pub invariant-loop-name : goal.invariant-loop-name
invariant-loop-name l = string_bytes l.out ≡ string_bytes l.initial.out ++ keys_so_far l.further l.name-index
