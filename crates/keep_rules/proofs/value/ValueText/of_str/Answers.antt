use Rattle.std.proofs.Common.{refl}
use Rattle.keep_types.specs.declared.leaf.Leaf.TheVariants as leaf
use Rattle.keep_rules.proofs.ValueLaws.{scalar_holds, string_means}
use Rattle.keep_rules.proofs.value.ValueText.of_str.Goals as goal

pub invariant_of-result : goal.invariant_of-result
invariant_of-result c = scalar_holds leaf.Basic _ refl c.in_ok-text.ensures.leaf

pub returns-clause-fact : goal.returns-clause-fact
returns-clause-fact c = string_means _ _ c.in_ok-text.ensures.leaf c.in_ok-text.ensures.means
