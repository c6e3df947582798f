use Rattle.std.proofs.Common.{refl, ◌∙◌}
use Rattle.keep_edit_plan.proofs.AnswerLaws.{text_seen}
use Rattle.keep_edit_plan.proofs.LineWriting.{open_after, none_after}
use Rattle.keep_edit_plan.proofs.document.DocumentRef.is_open.Goals as goal

pub returns-then-at-lines_start : goal.returns-then-at-lines_start
returns-then-at-lines_start c = λ s read.
    open_after c.args.self.now s c.lines_start.result c.args.at _ _ (c.lines_start.ensures s read)
    (c.as_bytes.ensures.value ∙ text_seen c.self.view_is) c.if-at-lines_start.true c.requires.within refl

pub returns-else-at-lines_start : goal.returns-else-at-lines_start
returns-else-at-lines_start c =
    λ s read.
    none_after c.args.self.now s c.lines_start.result c.args.at (c.lines_start.ensures s read) c.if-at-lines_start.false
