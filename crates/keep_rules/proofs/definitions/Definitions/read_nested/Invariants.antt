use Rattle.std.proofs.Common.{◌≡◌, ◌+◌, length}
use Rattle.keep_syntax_store.specs.Flat.{flat}
use Rattle.keep_rules.proofs.UnderwayLemmas.{AreUnderway}
use Rattle.keep_rules.proofs.definitions.Definitions.read_nested.Given as goal

abbrev pub invariant-loop-number : goal.invariant-loop-number
invariant-loop-number l = record {
  numbered : l.base + length l.ids.items ≡ l.number + 1;
  underway : AreUnderway l.text (flat l.parts) l.base l.from l.fn.self.tree l.fn.ids.items l.self.tree l.ids.items
      l.number;
}
