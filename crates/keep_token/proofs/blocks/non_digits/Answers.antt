use Rattle.keep_token.proofs.BlockLaws.{block_non_digits}
use Rattle.keep_token.proofs.blocks.non_digits.Goals as goal

pub returns : goal.returns
returns c = block_non_digits c.args.block c.fits-block.0
