use Rattle.keep_token.specs.Blocks.{is_plain}
use Rattle.keep_token.proofs.BlockLaws.{run_whole}
use Rattle.keep_token.proofs.blocks.run_in_blocks.Goals as goal

pub returns-in-Ok-clause-run : goal.returns-in-Ok-clause-run
returns-in-Ok-clause-run c =
    run_whole (is_plain c.args.also c.args.a c.args.b) c.args.bytes.now c.in-Ok.len c.in-Ok.ensures.run
