use Rattle.keep_syntax.proofs.ReadLaws.{alone_read_within}
use Rattle.keep_syntax.proofs.alone.ValueSyntax.value.Goals as goal

pub returns-clause-within : goal.returns-clause-within
returns-clause-within c =
    λ profile limit bytes read.
    alone_read_within profile limit bytes c.args.self.now c.args.number c.value.result c.value.ensures read
