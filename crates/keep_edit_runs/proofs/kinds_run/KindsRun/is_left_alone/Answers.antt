-- An element is left alone as one with the same keys is that was appended before. Else the edits at the end of the text
-- leave the edit alone, and so do the others, to which it is compared.
use Rattle.keep_edit_runs.proofs.ElementsAlone.{like_alone}
use Rattle.keep_edit_runs.proofs.kinds_run.KindsRun.is_left_alone.Goals as goal

pub returns-else-leave_alone-clause-alone : goal.returns-else-leave_alone-clause-alone
returns-else-leave_alone-clause-alone c = λ alone. record {
  edits = c.are_alone_by_all.ensures.alone alone;
  tail = c.leave_alone.ensures c.if-not-leave_alone.false;
  elsewhere = c.are_alone_by_all.ensures.elsewhere alone;
}

pub returns-then-has_element_like-clause-alone : goal.returns-then-has_element_like-clause-alone
returns-then-has_element_like-clause-alone c = λ alone.
    let run = c.args.self.now in
    like_alone run.so_far.outlines.items run.tail.outlines.items run.gone.arrays.items c.requires.elements
    c.args.outline.now (c.has_element_like.ensures c.if-has_element_like.true)
