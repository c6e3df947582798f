-- What has been written and what is left are all the keys.
use Rattle.std.proofs.Common.{◌≡◌, ◌++◌, false, string_bytes}
use Rattle.keep_edit_plan.specs.Writing.{keys_between, keys_text}
use Rattle.keep_edit_plan.proofs.insert.keys.push_keys.Given as goal

abbrev pub invariant-loop-number : goal.invariant-loop-number
invariant-loop-number l =
    string_bytes l.out ++ keys_text l.dot (keys_between l.number l.to l.path) ≡ string_bytes l.initial.out
    ++ keys_text false (keys_between l.from l.to l.path)
