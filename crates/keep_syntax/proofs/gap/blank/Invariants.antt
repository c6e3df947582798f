use Rattle.std.proofs.Common.{◌-◌, length}
use Rattle.keep_syntax_store.specs.Flat.{flat}
use Rattle.keep_syntax.proofs.GapCodeLaws.{BlankSoFar}
use Rattle.keep_syntax.proofs.gap.blank.Given as goal

abbrev pub invariant-leaves : goal.invariant-leaves
invariant-leaves l = BlankSoFar l.text l.fn.at l.here (flat l.fn.out) (flat l.out)

abbrev pub decreases-leaves : goal.decreases-leaves
decreases-leaves l = length l.text - l.here
