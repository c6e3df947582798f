use Rattle.std.proofs.Common.{arith}
use Rattle.keep_syntax_store.specs.Flat.{flat}
use Rattle.keep_syntax_store.proofs.MoveLaws.{statements_within}
use Rattle.keep_syntax_store.proofs.rereading.counts_before.Goals as goal

pub first_key-requires : goal.first_key-requires
first_key-requires c =
    omega (
      arith,
      c.statements_before-statements.ensures,
      statements_within c.args.place (flat c.args.parts.now).statements,
    )

pub first_value-requires : goal.first_value-requires
first_value-requires c =
    omega (
      arith,
      c.statements_before-statements.ensures,
      statements_within c.args.place (flat c.args.parts.now).statements,
    )
