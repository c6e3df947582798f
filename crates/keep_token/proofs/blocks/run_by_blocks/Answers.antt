use Rattle.std.proofs.Common.{sym, ap, ◌∙◌, arith}
use lib.Count.{count_trailing_zeros}
use Rattle.keep_token.specs.Blocks.{ends_run, is_plain}
use Rattle.keep_token.proofs.BlockLaws.{run_bound, run_through, run_stops, opposite_class}
use Rattle.keep_token.proofs.blocks.run_by_blocks.Goals as goal

pub returns-then-found-ne0-clause-run : goal.returns-then-found-ne0-clause-run
returns-then-found-ne0-clause-run c =
    let found = c.ends-found in
    let plain = is_plain c.args.also c.args.a c.args.b in
    let run =
    run_stops (ends_run c.args.also c.args.a c.args.b) plain (opposite_class plain) c.args.bytes.now c.loop-at.at 16
    (omega arith) (omega arith) (omega (arith, found.ensures)) ∙ ap (count_trailing_zeros 64) (sym found.ensures) in
    omega (arith, c.loop-at.invariant.0, run)

pub returns-then-found-ne0-clause-within : goal.returns-then-found-ne0-clause-within
returns-then-found-ne0-clause-within c =
    let found = c.ends-found in
    let plain = is_plain c.args.also c.args.a c.args.b in
    let run =
    run_stops (ends_run c.args.also c.args.a c.args.b) plain (opposite_class plain) c.args.bytes.now c.loop-at.at 16
    (omega arith) (omega arith) (omega (arith, found.ensures)) ∙ ap (count_trailing_zeros 64) (sym found.ensures) in
    omega (arith, run, run_bound plain c.args.bytes.now c.loop-at.at c.loop-at.invariant.1)

pub loop-at-preserved : goal.loop-at-preserved
loop-at-preserved c =
    let plain = is_plain c.args.also c.args.a c.args.b in
    let run =
    run_through (ends_run c.args.also c.args.a c.args.b) plain (opposite_class plain) c.args.bytes.now c.loop-at.at 16
    (omega arith) (omega (arith, c.ends-found.ensures)) in
    (omega (arith, run, c.loop-at.invariant.0), omega arith)
