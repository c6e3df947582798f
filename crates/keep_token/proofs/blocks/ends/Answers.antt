use Rattle.keep_token.proofs.BlockLaws.{block_ends}
use Rattle.keep_token.proofs.blocks.ends.Goals as goal

pub returns : goal.returns
returns c = block_ends c.args.also c.args.a c.args.b c.args.block c.fits-block.0 c.fits-block.1
