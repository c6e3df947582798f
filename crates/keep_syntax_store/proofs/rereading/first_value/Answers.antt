use Rattle.std.proofs.Common.{length, sym, ◌∙◌}
use Rattle.keep_syntax_store.specs.Flat.{flat}
use Rattle.keep_syntax_store.proofs.MoveLaws.{value_found, value_none}
use Rattle.keep_syntax_store.proofs.rereading.first_value.Goals as goal

pub returns-in-Some : goal.returns-in-Some
returns-in-Some c =
    sym (c.statements.invariant
    ∙ value_found (length (flat c.args.parts.now).values) (flat c.args.parts.now).statements c.statements.number
    c.statement_at.result c.in-Some.value c.statement_at.ensures c.in-Some.is)

pub statements-preserved : goal.statements-preserved
statements-preserved c =
    c.statements.invariant
    ∙ value_none (length (flat c.args.parts.now).values) (flat c.args.parts.now).statements c.statements.number
    c.statement_at.result c.statement_at.ensures c.in_default.is
