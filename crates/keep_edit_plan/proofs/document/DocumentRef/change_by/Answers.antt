use Rattle.std.proofs.Common.{sym, ap, ◌∙◌}
use Rattle.keep_edit_spec.specs.TextEnds.{ends_in_newline}
use Rattle.keep_edit_plan.proofs.AnswerLaws.{text_seen}
use Rattle.keep_edit_plan.proofs.ChangeLaws.{by_header, by_set_or_rename, remove_here}
use Rattle.keep_edit_plan.proofs.document.DocumentRef.change_by.Goals as goal

pub returns-in-Remove : goal.returns-in-Remove
returns-in-Remove c =
    remove_here c.args.self.now c.args.edit.now c.in-Remove.path c.removal.result c.in-Remove.is
    c.removal.ensures.removed c.removal.ensures.within

pub returns-else-not-ends_in_newline : goal.returns-else-not-ends_in_newline
returns-else-not-ends_in_newline c =
    by_header c.args.self.now c.args.edit.now c.planned.result c.in-Table.is
    (ap ends_in_newline (sym (text_seen c.self.view_is)) ∙ sym c.ends_in_newline.ensures
    ∙ c.if-not-ends_in_newline.false) c.planned.ensures

pub returns-in-Set : goal.returns-in-Set
returns-in-Set c =
    by_set_or_rename c.args.self.now c.args.edit.now c.planned-in-Set.result c.in-Set.is c.planned-in-Set.ensures
