use Rattle.keep_edit_plan.proofs.AnswerLaws.{seen}
use Rattle.keep_edit_plan.proofs.LineWriting.{header_within, header_ends, root_ends}
use Rattle.keep_edit_plan.proofs.document.DocumentRef.body_end.Goals as goal

pub section_end-requires : goal.section_end-requires
section_end-requires c =
    let (s, read, within) = c.requires in
    header_within _ _ _ s (seen c.self.view_is c.self.invariant) read c.args.header c.in-Some.number within c.in-Some.is

pub returns-in-Some : goal.returns-in-Some
returns-in-Some c =
    λ s read.
    header_ends _ _ _ s (seen c.self.view_is c.self.invariant) read c.args.header c.in-Some.number _ c.in-Some.is
    c.section_end.ensures

pub returns-in-None : goal.returns-in-None
returns-in-None c =
    λ s read.
    root_ends _ _ _ s (seen c.self.view_is c.self.invariant) read c.args.header c.lines_start.result _ c.in-None.is
    (c.lines_start.ensures s read) c.body_end.ensures
