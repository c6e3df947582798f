use Rattle.std.proofs.Common.{refl, sym, ◌∙◌}
use Rattle.keep_token.specs.Words.{word_leaf}
use Rattle.keep_token.proofs.NumberShapes.{boolean_not_integer, boolean_not_float}
use Rattle.keep_token.proofs.word.word_leaf.Goals as goal

pub returns-then-is_boolean : goal.returns-then-is_boolean
unfolding word_leaf
returns-then-is_boolean c =
    let is = sym c.is_boolean.ensures ∙ c.if-is_boolean.true in
    rw (boolean_not_integer c.args.bytes.now is, boolean_not_float c.args.bytes.now is, is) refl
