use Rattle.std.proofs.Common.{All, List, arith, subst}
use Rattle.std.proofs.lemmas.List.Elements.{AllWithin-more, at_read}
use Rattle.keep_path.specs.Path.{Part}
use Rattle.keep_edit_spec.specs.ElementRuns.{IsElsewhere}
use Rattle.keep_edit_runs.specs.Runs.{outlined}
use Rattle.keep_edit_runs.proofs.gone_between.GoneBetween.leave_alone.Goals as goal

pub loop-array-preserved : goal.loop-array-preserved
loop-array-preserved c =
    let arrays = c.deref-array-items.result.now in
    let n = c.loop-array.array-index in
    AllWithin-more (λ a. IsElsewhere a (outlined c.args.outline.now)) arrays 0 n c.loop-array.invariant
    (at_read arrays (λ a. IsElsewhere a (outlined c.args.outline.now)) n c.array-item.result c.loop-array-test.true
    c.array-item.is (c.is_elsewhere.ensures.0 c.if-not-is_elsewhere.false))

pub returns : goal.returns
returns c = λ t.
    subst (All (λ (a : List Part). IsElsewhere a (outlined c.args.outline.now))) c.deref-array-items.ensures.value
    (λ k d lt. c.loop-array.invariant k d (omega arith) (omega (arith, lt, c.loop-array-test.false)))
