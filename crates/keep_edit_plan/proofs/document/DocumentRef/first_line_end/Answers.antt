use Rattle.std.proofs.Common.{ap, length}
use Rattle.keep_edit_plan.proofs.AnswerLaws.{seen, text_seen}
use Rattle.keep_edit_plan.proofs.FirstLineLaws.{first_line_here}
use Rattle.keep_edit_plan.proofs.document.DocumentRef.first_line_end.Goals as goal

pub lines_start-start-requires : goal.lines_start-start-requires
lines_start-start-requires c = let h = seen c.self.view_is c.self.invariant in (h.tree, h.read)

pub returns-then-line-len : goal.returns-then-line-len
returns-then-line-len c = λ s read.
    first_line_here c.args.self.now _ _ s (seen c.self.view_is c.self.invariant) read c.lines_start-start.result
    c.lines-line.result (c.lines_start-start.ensures s read) c.lines-line.ensures
    (ap length (text_seen c.self.view_is)) c.if-line-len.true
