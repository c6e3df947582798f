use Rattle.std.proofs.Common.{◌≡◌, rules}
use Rattle.std.specs.Fmt.{signed_decimal}
use Rattle.keep_types.specs.declared.leaf.Leaf.TheVariants as leaf
use Rattle.keep_types.specs.declared.leaf.Profile.TheVariants.{Strict}
use Rattle.keep_token.specs.Leaves.{IsLeaf}
use Rattle.keep_token.specs.Numbers.{integer_value}
use Rattle.keep_token.proofs.DecimalLaws.{encoded_int}
use Rattle.keep_token.proofs.EncodedStrings.{ok_of}
use Rattle.keep_token.proofs.encode.encode_int.Goals as goal

pub returns-clause-leaf : goal.returns-clause-leaf
returns-clause-leaf c =
    ok_of (IsLeaf Strict leaf.Integer) (signed_decimal c.args.value) _ (search rules)
    (encoded_int c.args.value c.ranges.value).0

pub returns-clause-value : goal.returns-clause-value
returns-clause-value c =
    ok_of (λ t. integer_value t ≡ c.args.value) (signed_decimal c.args.value) _ (search rules)
    (encoded_int c.args.value c.ranges.value).1
