use Rattle.std.proofs.Common.{◌∙◌}
use Rattle.keep_edit_plan.proofs.AnswerLaws.{seen}
use Rattle.keep_edit_plan.proofs.LineNumberLaws.{header_in, numbers_counted}
use Rattle.keep_edit_plan.proofs.document.DocumentRef.line_numbers.Goals as goal

pub next_statement-requires : goal.next_statement-requires
next_statement-requires c =
    let (s, read, more) = c.requires in
    header_in _ _ _ s more.0 more.1 _ (seen c.self.view_is c.self.invariant) read more.2

pub returns : goal.returns
returns c = λ s read a from spot.
    numbers_counted _ _ _ s a from _ _ (seen c.self.view_is c.self.invariant) read spot
    (c.numbers_from.ensures.statement ∙ c.next_statement.ensures) c.numbers_from.ensures.value
    c.numbers_from.ensures.key
