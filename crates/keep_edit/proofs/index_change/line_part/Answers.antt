use Rattle.keep_edit.proofs.InsideLaws.{line_value_read}
use Rattle.keep_edit.proofs.index_change.line_part.Goals as goal

pub returns : goal.returns
returns c = λ d was v at.
    line_value_read c.args.new.profile c.args.new.text.now c.args.new.syntax.now d was c.args.number
    v at c.value-start.result c.value-start.ensures.stored c.in_ok-part.part.now c.in_ok-part.ensures.cases.0
