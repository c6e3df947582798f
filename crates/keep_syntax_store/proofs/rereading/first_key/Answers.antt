use Rattle.std.proofs.Common.{length}
use Rattle.keep_syntax_store.specs.Flat.{flat}
use Rattle.keep_syntax_store.proofs.MoveLaws.{key_found}
use Rattle.keep_syntax_store.proofs.rereading.first_key.Goals as goal

pub returns-then-from-statement_count : goal.returns-then-from-statement_count
returns-then-from-statement_count c =
    key_found (length (flat c.args.parts.now).keys) (flat c.args.parts.now).statements c.args.from c.statement_at.result
    c.statement_at.ensures
