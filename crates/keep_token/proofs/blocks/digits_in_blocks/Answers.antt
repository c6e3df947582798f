use Rattle.std.proofs.Common.{sym, ◌∙◌, arith}
use Rattle.keep_token.proofs.BlockLaws.{digits_through}
use Rattle.keep_token.proofs.blocks.digits_in_blocks.Goals as goal

pub loop-digits-preserved : goal.loop-digits-preserved
loop-digits-preserved c = (
  digits_through c.args.bytes.now c.loop-digits.digits 16 c.loop-digits.invariant.0
      (sym c.non_digits.ensures ∙ c.if-non_digits-eq0.true),
  omega arith,
)
