use Rattle.std.proofs.Common.{sym, ap, ◌∙◌}
use Rattle.keep_edit_spec.specs.TextEnds.{ends_in_newline}
use Rattle.keep_edit_plan.proofs.AnswerLaws.{seen, text_seen}
use Rattle.keep_edit_plan.proofs.SectionLaws.{number_within, section_found, section_is_removed, section_span}
use Rattle.keep_edit_plan.proofs.document.DocumentRef.removed_section.Goals as goal

pub section_cut-requires : goal.section_cut-requires
section_cut-requires c =
    let h = seen c.self.view_is c.self.invariant in
    let found =
    section_found c.args.self.now.profile c.args.path.now h.tree c.piece.result _ _ _ c.in-Ok-default-Section.is
    c.in-Ok-default-Section.field-0-1-is (c.piece.ensures h.tree h.read) in
    number_within _ _ _ c.args.path.now h.tree h h.read _ _ found

pub returns-clause-removed : goal.returns-clause-removed
returns-clause-removed c = λ s read.
    let h = seen c.self.view_is c.self.invariant in
    let found =
    section_found c.args.self.now.profile c.args.path.now s c.piece.result _ _ _ c.in-Ok-default-Section.is
    c.in-Ok-default-Section.field-0-1-is (c.piece.ensures s read) in
    section_is_removed _ _ _ c.args.path.now s h read _ _ found c.section_cut.result
    (c.section_cut.ensures.place c.args.self.now.text) c.section_cut.ensures.preserved
    (ap ends_in_newline (sym (text_seen c.self.view_is)) ∙ sym c.ends_in_newline.ensures
    ∙ c.if-not-ends_in_newline.false) _ c.new.ensures.bytes

pub returns-clause-within : goal.returns-clause-within
returns-clause-within c =
    let h = seen c.self.view_is c.self.invariant in
    let found =
    section_found c.args.self.now.profile c.args.path.now h.tree c.piece.result _ _ _ c.in-Ok-default-Section.is
    c.in-Ok-default-Section.field-0-1-is (c.piece.ensures h.tree h.read) in
    section_span _ _ _ c.args.path.now h.tree h h.read _ _ found c.section_cut.result
    (c.section_cut.ensures.place c.args.self.now.text) c.section_cut.ensures.preserved
