use Rattle.std.proofs.Common.{◌≡◌, refl, rules, string_bytes}
use Rattle.keep_types.specs.declared.leaf.Leaf.TheVariants as leaf
use Rattle.keep_token.specs.Numbers.{integer_value}
use Rattle.keep_rules.proofs.ValueLaws.{scalar_holds, integer_means}
use Rattle.keep_rules.proofs.value.ValueText.of_int.Goals as goal

pub invariant_of-result : goal.invariant_of-result
invariant_of-result c = scalar_holds leaf.Integer _ refl c.in_ok-text.ensures.leaf

pub returns-clause-fact : goal.returns-clause-fact
returns-clause-fact c =
    let is : integer_value (string_bytes c.in_ok-text.text) ≡ c.args.value = search rules in
    integer_means _ c.args.value c.in_ok-text.ensures.leaf is
