use Rattle.keep_test_questions.proofs.LineLaws.{span_in}
use Rattle.keep_test_questions.proofs.lines.of_span.Goals as goal

pub lines-whole-requires : goal.lines-whole-requires
lines-whole-requires c =
    let h = c.is_in.ensures in
    let t = c.if-not-is_in.false in
    span_in c.requires _ (h.after t) (h.order t) (h.within t)

pub replaced-requires-clause-in_text : goal.replaced-requires-clause-in_text
replaced-requires-clause-in_text c =
    let h = c.is_in.ensures in
    let t = c.if-not-is_in.false in
    span_in c.requires _ (h.after t) (h.order t) (h.within t)
