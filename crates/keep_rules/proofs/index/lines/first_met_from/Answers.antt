use Rattle.std.proofs.Common.{◌∙◌, arith, sym}
use Rattle.keep_index_store.specs.Renumbering.{numbers_of}
use Rattle.keep_rules.proofs.LinePlaceLemmas.{is_before, is_from}
use Rattle.keep_rules.proofs.index.lines.first_met_from.Goals as goal

pub loop-low-preserved-then-is_met_from : goal.loop-low-preserved-then-is_met_from
loop-low-preserved-then-is_met_from c = (
  omega (arith, c.loop-low.invariant.0),
  omega arith,
  λ at from. (
    (c.loop-low.invariant.2 at from).0,
    is_from _ (numbers_of c.args.line) at _ c.info.result from c.info.ensures
        (sym c.is_met_from.ensures ∙ c.if-is_met_from.true),
  ),
)

pub loop-low-preserved : goal.loop-low-preserved
loop-low-preserved c = (
  c.loop-low.invariant.0,
  omega (arith, c.loop-low-test.true),
  λ at from.
      let past =
      is_before _ (numbers_of c.args.line) at _ c.info.result from c.info.ensures
      (sym c.is_met_from.ensures ∙ c.if-is_met_from.false) in
      (omega (arith, past), (c.loop-low.invariant.2 at from).1),
)

pub returns-clause-place : goal.returns-clause-place
returns-clause-place c at from =
    let between = c.loop-low.invariant.2 at from in
    omega (arith, between.0, between.1)

pub returns-clause-within : goal.returns-clause-within
returns-clause-within c =
    omega (
      arith,
      c.loop-low.invariant.0,
      c.loop-low.invariant.1,
      c.len-high.ensures.nodes,
      c.len-high.ensures.facts,
    )
