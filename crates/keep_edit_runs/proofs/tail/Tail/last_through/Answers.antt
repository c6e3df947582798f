use Rattle.std.proofs.Common.{◌++◌, ◌<◌, ◌∷◌, [], List, Some, length, subst, take}
use Rattle.std.proofs.Common.{arith, ℕ}
use Rattle.std.proofs.lemmas.List.{length-take-le}
use Rattle.keep_edit_runs.specs.declared.tail.Block.{Block}
use Rattle.keep_edit_runs.proofs.BlockLaws.{LastOf, last_is, one_more, passes_on}
use Rattle.keep_edit_runs.proofs.tail.Tail.last_through.Goals as goal

pub loop-number-preserved-then-passes_by : goal.loop-number-preserved-then-passes_by
loop-number-preserved-then-passes_by c =
    let blocks = c.args.self.now.blocks.items in
    let table = c.args.table.now in
    let n = c.loop-number.number in
    let last = c.loop-number.last in
    let b = c.index.result.now in
    one_more (λ (l : List Block). LastOf l table last) blocks n b
    (omega (arith, c.loop-number-test.true, c.len-number-end.ensures)) c.index.ensures
    (passes_on (take n blocks) b table last c.loop-number.invariant (c.passes_by.ensures.0 c.if-passes_by.true))

pub loop-number-preserved : goal.loop-number-preserved
loop-number-preserved c =
    let blocks = c.args.self.now.blocks.items in
    let table = c.args.table.now in
    let n = c.loop-number.number in
    let last = c.loop-number.last in
    let b = c.index.result.now in
    let lt : n < length blocks = omega (arith, c.loop-number-test.true, c.len-number-end.ensures) in
    one_more (λ (l : List Block). LastOf l table (Some n)) blocks n b lt c.index.ensures
    (subst (λ (k : ℕ). LastOf (take n blocks ++ b ∷ []) table (Some k)) (length-take-le n blocks (omega (arith, lt)))
    (last_is (take n blocks) b table last c.loop-number.invariant
    (c.goes_through.ensures c.if-not-goes_through.false)))
