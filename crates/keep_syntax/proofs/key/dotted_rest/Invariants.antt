use Rattle.std.proofs.Common.{◌-◌, length}
use Rattle.keep_syntax_store.specs.Flat.{flat}
use Rattle.keep_syntax.proofs.KeyCodeLaws.{FurtherSoFar}
use Rattle.keep_syntax.proofs.key.dotted_rest.Given as goal

abbrev pub invariant-parts : goal.invariant-parts
invariant-parts l = FurtherSoFar l.profile l.text l.fn.at l.here (flat l.fn.out) (flat l.out)

abbrev pub decreases-parts : goal.decreases-parts
decreases-parts l = length l.text - l.here
