use Rattle.std.proofs.Common.{Option, subst}
use Rattle.std.specs.Prelude.{IfSome}
use Rattle.keep_edit_plan.specs.KeyNumbers.{HasNumber}
use Rattle.keep_edit_plan.proofs.KeyNumberLaws.{Numbers, number_added}
use Rattle.keep_edit_plan.proofs.open_value.key_numbers.KeyNumbers.with.Goals as goal

pub returns-clause-others : goal.returns-clause-others
returns-clause-others c = λ other had.
    (number_added c.in-Some.numbers c.insert.new.self c.number_of.result c.in-Ok.ensures.updates).1 other
    (subst (λ (o : Option Numbers). IfSome o (λ numbers. HasNumber numbers other)) c.in-Some.is had)
