use Rattle.std.proofs.Common.{◌∙◌}
use Rattle.keep_edit_runs.specs.SeenPaths.{with_key}
use Rattle.keep_edit_runs.proofs.SeenLaws.{key_more}
use Rattle.keep_edit_runs.proofs.seen_paths.number_of_header.Goals as goal

pub loop-key-preserved : goal.loop-key-preserved
loop-key-preserved c =
    c.write.ensures
    ∙ key_more with_key c.args.keys.now c.loop-key.key-index c.key-item.result c.as_bytes.result.now c.loop-key.hasher
    c.loop-key-test.true c.key-item.is c.as_bytes.ensures.value c.loop-key.invariant
