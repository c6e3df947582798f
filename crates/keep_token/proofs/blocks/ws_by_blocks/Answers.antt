use Rattle.std.proofs.Common.{sym, ap, ◌∙◌, arith}
use lib.Count.{count_trailing_zeros}
use Rattle.keep_token.specs.Abnf.{is_ws}
use Rattle.keep_token.specs.Blocks.{is_non_ws}
use Rattle.keep_token.proofs.BlockLaws.{run_bound, run_through, run_stops, opposite_class}
use Rattle.keep_token.proofs.blocks.ws_by_blocks.Goals as goal

pub returns-then-found-ne0-clause-run : goal.returns-then-found-ne0-clause-run
returns-then-found-ne0-clause-run c =
    let found = c.non_ws-found in
    let run =
    run_stops is_non_ws is_ws (opposite_class is_ws) c.args.bytes.now c.loop-end.end 16
    (omega arith) (omega arith) (omega (arith, found.ensures)) ∙ ap (count_trailing_zeros 64) (sym found.ensures) in
    omega (arith, c.loop-end.invariant.0, run)

pub returns-then-found-ne0-clause-within : goal.returns-then-found-ne0-clause-within
returns-then-found-ne0-clause-within c =
    let found = c.non_ws-found in
    let run =
    run_stops is_non_ws is_ws (opposite_class is_ws) c.args.bytes.now c.loop-end.end 16
    (omega arith) (omega arith) (omega (arith, found.ensures)) ∙ ap (count_trailing_zeros 64) (sym found.ensures) in
    omega (arith, run, run_bound is_ws c.args.bytes.now c.loop-end.end c.loop-end.invariant.1)

pub loop-end-preserved : goal.loop-end-preserved
loop-end-preserved c =
    let run =
    run_through is_non_ws is_ws (opposite_class is_ws) c.args.bytes.now c.loop-end.end 16
    (omega arith) (omega (arith, c.non_ws-found.ensures)) in
    (omega (arith, run, c.loop-end.invariant.0), omega arith)
