use Rattle.std.proofs.Common.{◌≡◌, take}
use Rattle.keep_syntax_store.specs.Flat.{flat}
use Rattle.keep_syntax.specs.Nesting.{deepest}
use Rattle.keep_syntax.proofs.depth.deepest.Given as goal

abbrev pub invariant-values : goal.invariant-values
invariant-values l = l.most ≡ deepest (take l.number (flat l.parts).values)
