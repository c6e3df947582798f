use Rattle.keep_token.proofs.BlockLaws.{block_non_ws}
use Rattle.keep_token.proofs.blocks.non_ws.Goals as goal

pub returns : goal.returns
returns c = block_non_ws c.args.block c.fits-block.0
