use Rattle.std.proofs.Common.{◌∙◌, ℕ, ap, arith, take}
use Rattle.std.specs.Hash.FoldHasher.{finish}
use Rattle.keep_edit_runs.specs.KnownArrays.{HasPath}
use Rattle.keep_edit_runs.proofs.KnownLaws.{if_none, none_at}
use Rattle.keep_edit_runs.proofs.SeenPathLaws.{all_before}
use Rattle.keep_edit_runs.proofs.known_arrays.KnownArrays.above.Goals as goal

pub returns : goal.returns
returns c =
    let known = c.args.self.now in
    let path = c.args.path.now in
    let number = c.loop-number.number in
    let (hashed, before) = c.loop-number.invariant in
    if_none c.place_of-2.result _ _ (λ lacks.
    none_at known path (λ n many.
    all_before (λ (k : ℕ). ¬ HasPath known (take k path)) number
    (lacks (take number path) (c.finish-2.ensures ∙ ap finish hashed)) before n
    (omega (arith, many, c.loop-number-test.false, c.len-number-end.ensures)))) c.place_of-2.ensures
