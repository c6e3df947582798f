use Rattle.std.proofs.Common.{◌≡◌, ℕ, List, string_bytes, arith, sym, subst}
use Rattle.std.proofs.lemmas.Grind.{common_steps}
use Rattle.keep_types.specs.declared.leaf.Leaf.TheVariants as leaf
use Rattle.keep_types.specs.declared.leaf.Profile.TheVariants.{Strict}
use Rattle.keep_token.specs.Encoded.{encoded_string}
use Rattle.keep_token.specs.Leaves.{IsLeaf, Means}
use Rattle.keep_token.proofs.EncodedStrings.{encoded_is_leaf, encoded_means}
use Rattle.keep_token.proofs.encode.encode_string.Goals as goal

pub returns-clause-leaf : goal.returns-clause-leaf
returns-clause-leaf c =
    let text : string_bytes c.push_str.new.self ≡ encoded_string c.args.text.now = grind (arith, common_steps) in
    let P : List ℕ → Type 0 = IsLeaf Strict leaf.Basic in
    subst P (sym text) (encoded_is_leaf c.args.text.now c.type_inv.text)

pub returns-clause-means : goal.returns-clause-means
returns-clause-means c =
    let text : string_bytes c.push_str.new.self ≡ encoded_string c.args.text.now = grind (arith, common_steps) in
    let P : List ℕ → Type 0 = λ t. Means Strict leaf.Basic t c.args.text.now in
    subst P (sym text) (encoded_means c.args.text.now c.type_inv.text)
