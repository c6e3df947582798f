use Rattle.std.proofs.Common.{arith}
use Rattle.keep_syntax_store.specs.Flat.{flat}
use Rattle.keep_syntax_store.proofs.MoveLaws.{statements_more, statements_stop, statements_within}
use Rattle.keep_syntax_store.proofs.rereading.statements_before.Goals as goal

pub halves-init : goal.halves-init
halves-init c =
    let all = (flat c.args.parts.now).statements in
    record {
      low = omega arith;
      high = omega (arith, c.statement_count-high.ensures, statements_within c.args.place all);
      within = omega (arith, c.statement_count-high.ensures);
    }

pub halves-preserved-then-statement_at-place : goal.halves-preserved-then-statement_at-place
halves-preserved-then-statement_at-place c =
    record {
      low = statements_more c.args.place (flat c.args.parts.now).statements _ c.statement_at.result c.requires
          c.statement_at.ensures c.if-statement_at-place.true;
      high = c.halves.invariant.high;
      within = c.halves.invariant.within;
    }

pub halves-preserved : goal.halves-preserved
halves-preserved c =
    record {
      low = c.halves.invariant.low;
      high = statements_stop c.args.place (flat c.args.parts.now).statements _ c.statement_at.result
          c.statement_at.ensures (omega (arith, c.if-statement_at-place.false));
      within = omega (arith, c.halves.invariant.within);
    }
