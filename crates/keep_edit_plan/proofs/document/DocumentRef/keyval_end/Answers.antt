use Rattle.keep_edit_plan.proofs.AnswerLaws.{seen}
use Rattle.keep_edit_plan.proofs.LineWriting.{value_within, line_within, line_owned, line_ends}
use Rattle.keep_edit_plan.proofs.document.DocumentRef.keyval_end.Goals as goal

pub value-requires : goal.value-requires
value-requires c =
    let (s, read, more) = c.requires in
    value_within _ _ _ s (seen c.self.view_is c.self.invariant) read c.args.value more.0 more.1

pub statement-requires : goal.statement-requires
statement-requires c =
    let (s, read, more) = c.requires in
    line_within _ _ _ s (seen c.self.view_is c.self.invariant) read c.args.value more.0 c.in-Line.number c.value.result
    c.value.ensures.stored more.1 c.in-Line.is

pub unreachable-requires : goal.unreachable-requires
unreachable-requires c =
    let (s, read, more) = c.requires in
    line_owned _ _ _ s (seen c.self.view_is c.self.invariant) read c.args.value more.0 c.value.result
    c.value.ensures.stored more.1 c.in_default.not-Line

pub returns : goal.returns
returns c =
    λ s read.
    line_ends _ _ _ s (seen c.self.view_is c.self.invariant) read c.args.value c.in-Line.number c.value.result
    c.statement.result c.value.ensures.stored c.in-Line.is c.statement.ensures
