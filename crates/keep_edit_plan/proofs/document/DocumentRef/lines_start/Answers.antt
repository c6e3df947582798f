use Rattle.std.proofs.Common.{◌∙◌}
use Rattle.keep_edit_plan.proofs.AnswerLaws.{text_seen}
use Rattle.keep_edit_plan.proofs.LineWriting.{start_is}
use Rattle.keep_edit_plan.proofs.document.DocumentRef.lines_start.Goals as goal

pub returns-then-starts_with : goal.returns-then-starts_with
returns-then-starts_with c = λ s read.
    start_is _ s _ _ _ read (c.as_bytes.ensures.value ∙ text_seen c.self.view_is) c.starts_with.ensures.value
    c.if-starts_with.true

pub returns-else-starts_with : goal.returns-else-starts_with
returns-else-starts_with c = λ s read.
    start_is _ s _ _ _ read (c.as_bytes.ensures.value ∙ text_seen c.self.view_is) c.starts_with.ensures.value
    c.if-starts_with.false
