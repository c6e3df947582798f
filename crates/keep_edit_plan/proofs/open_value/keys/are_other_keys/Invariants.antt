use Rattle.std.proofs.Common.{drop}
use Rattle.keep_edit_plan.specs.OpenKeyvals.{AreOtherKeys}
use Rattle.keep_edit_plan.proofs.open_value.keys.are_other_keys.Given as goal

-- what is left to test is all that is left to show
abbrev pub invariant-loop-place : goal.invariant-loop-place
invariant-loop-place l =
    AreOtherKeys l.name l.text l.end (drop l.place-index l.places) → AreOtherKeys l.name l.text 1 l.places
