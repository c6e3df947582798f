use Rattle.std.proofs.Common.{◌≡◌, ◌≢◌, ◌<◌, ℕ, None, Some, arith, length, rules}
use Rattle.keep_path.specs.Path.{strip}
use Rattle.keep_edit_runs.proofs.SeenPathLaws.{all_before}
use Rattle.keep_edit_runs.proofs.BlockLaws.{LetsAt, lets_all, lets_none, lets_one, none_by}
use Rattle.keep_edit_runs.proofs.tail.Tail.lets_table.Goals as goal
use Rattle.keep_edit_runs.proofs.tail.Tail.lets_table.Goals.{then-place-number+else-not-is_same}
use Rattle.keep_edit_runs.proofs.tail.Tail.lets_table.Goals.{else-place-number+else-is_within}

pub loop-place-preserved-in_default : goal.loop-place-preserved-in_default
loop-place-preserved-in_default c =
    let blocks = c.args.self.now.blocks.items in
    let table = c.args.table.now in
    let k = c.loop-place.place in
    let own = c.index.result.now in
    let none : own.table ≡ None = search rules in
    let lt : k < length blocks = omega (arith, c.loop-place-test.true, c.len-place-end.ensures) in
    all_before (LetsAt blocks c.args.number table) k
    (lets_none blocks c.args.number table k own lt c.index.ensures none)
    c.loop-place.invariant

pub loop-place-preserved : goal.loop-place-preserved
loop-place-preserved c =
    let blocks = c.args.self.now.blocks.items in
    let table = c.args.table.now in
    let n = c.args.number in
    let k = c.loop-place.place in
    let own = c.index.result.now in
    let other = c.in-Some.other in
    let some : own.table ≡ Some other = search rules in
    let lt : k < length blocks = omega (arith, c.loop-place-test.true, c.len-place-end.ensures) in
    let here : k ≡ n → other ≡ table = λ same. elim c.if-place-number.branch [
      | then-place-number+else-not-is_same w ↦ w.is_same.ensures.0 w.if-not-is_same.false
      | else-place-number+else-is_within w ↦ absurd (omega (arith, same, w.if-place-number.false))
    ] in
    let elsewhere : k ≢ n → strip table other ≡ None = λ differs. elim c.if-place-number.branch [
      | then-place-number+else-not-is_same w ↦ absurd (differs (omega (arith, w.if-place-number.true)))
      | else-place-number+else-is_within w ↦
          none_by w.is_within.result (strip table other) w.is_within.ensures.1 w.if-is_within.false
    ] in
    all_before (LetsAt blocks n table) k (lets_one blocks n table k own lt c.index.ensures other some here elsewhere)
    c.loop-place.invariant

pub returns : goal.returns
returns c = λ yes.
    let blocks = c.args.self.now.blocks.items in
    let each : (k : ℕ) → k < length blocks → LetsAt blocks c.args.number c.args.table.now k = λ k lt.
    c.loop-place.invariant k (omega (arith, lt, c.loop-place-test.false, c.len-place-end.ensures)) in
    lets_all blocks c.args.number c.args.table.now each
