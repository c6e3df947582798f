-- The number is traced back before those from here on.
use Rattle.std.proofs.Common.{◌≡◌, drop}
use Rattle.keep_edit_runs.specs.Gone.{first_number}
use Rattle.keep_edit_runs.proofs.gone.first_number.Given as goal

abbrev pub invariant-loop-later : goal.invariant-loop-later
invariant-loop-later l = l.before ≡ first_number (drop l.later l.numbers) l.number
