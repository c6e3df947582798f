use Rattle.std.proofs.Common.{◌≡◌, ℕ, ◌≤◌, List, length, sym, subst, ◌∙◌, Ok}
use Rattle.keep_edit_spec.specs.Removal.{line_place, entry_place}
use Rattle.keep_edit_plan.specs.Removing.{cut_place, IsRemovalOf, IsEntryIn}
use Rattle.keep_edit_plan.specs.declared.remove.Piece.{Piece}
use Rattle.keep_edit_plan.proofs.AnswerLaws.{text_seen, seen}
use Rattle.keep_edit_plan.proofs.FoundLaws.{value_nested}
use Rattle.keep_edit_plan.proofs.RemoveCut.{line_arm, entry_arm, section_arm}
use Rattle.keep_edit_plan.proofs.document.DocumentRef.cut.Goals as goal

pub value-value-requires : goal.value-value-requires
value-value-requires c =
    let h = seen c.self.view_is c.self.invariant in
    let r = c.requires in
    let found = subst (λ (p : Piece). IsRemovalOf c.args.self.now.profile r.0 r.1 (Ok p)) c.in-Value.is r.3 in
    value_nested _ _ _ r.0 r.1 _ h r.2 found.1

pub statement-requires : goal.statement-requires
statement-requires c =
    let h = seen c.self.view_is c.self.invariant in
    let r = c.requires in
    let found = subst (λ (p : Piece). IsRemovalOf c.args.self.now.profile r.0 r.1 (Ok p)) c.in-Value.is r.3 in
    (line_arm _ _ _ r.0 r.1 h r.2 found.0 c.in-Value.number c.value-value.result c.in-Line.line found.1
    c.value-value.ensures.stored c.in-Line.is).within

pub line_cut-requires : goal.line_cut-requires
line_cut-requires c =
    let h = seen c.self.view_is c.self.invariant in
    let r = c.requires in
    let found = subst (λ (p : Piece). IsRemovalOf c.args.self.now.profile r.0 r.1 (Ok p)) c.in-Value.is r.3 in
    let same : c.as_bytes-bytes.result.now ≡ c.args.self.now.text =
    c.as_bytes-bytes.ensures.value ∙ text_seen c.self.view_is in
    subst (λ (b : List ℕ). c.value-value.result.span.end ≤ length b) (sym same)
    (line_arm _ _ _ r.0 r.1 h r.2 found.0 c.in-Value.number c.value-value.result c.in-Line.line found.1
    c.value-value.ensures.stored c.in-Line.is).ends

pub entry_cut-requires : goal.entry_cut-requires
entry_cut-requires c =
    let h = seen c.self.view_is c.self.invariant in
    let r = c.requires in
    let found = subst (λ (p : Piece). IsRemovalOf c.args.self.now.profile r.0 r.1 (Ok p)) c.in-Value.is r.3 in
    let same : c.as_bytes-bytes.result.now ≡ c.args.self.now.text =
    c.as_bytes-bytes.ensures.value ∙ text_seen c.self.view_is in
    subst (λ (b : List ℕ). IsEntryIn b c.value-value.result) (sym same)
    (entry_arm _ _ _ r.0 r.1 h r.2 found.0 c.in-Value.number c.value-value.result found.1 c.value-value.ensures.stored
    c.in_default.not-Line).nested

pub section_cut-requires : goal.section_cut-requires
section_cut-requires c =
    let h = seen c.self.view_is c.self.invariant in
    let r = c.requires in
    let found = subst (λ (p : Piece). IsRemovalOf c.args.self.now.profile r.0 r.1 (Ok p)) c.in-Section.is r.3 in
    (section_arm _ _ _ r.0 r.1 h r.2 found.0 c.in-Section.number found.1.0 found.1.1).within

pub returns-in-Line : goal.returns-in-Line
returns-in-Line c = λ path s read removal.
    let h = seen c.self.view_is c.self.invariant in
    let found = subst (λ (p : Piece). IsRemovalOf c.args.self.now.profile path s (Ok p)) c.in-Value.is removal in
    let same : c.as_bytes-bytes.result.now ≡ c.args.self.now.text =
    c.as_bytes-bytes.ensures.value ∙ text_seen c.self.view_is in
    (line_arm _ _ _ path s h read found.0 c.in-Value.number c.value-value.result c.in-Line.line found.1
    c.value-value.ensures.stored c.in-Line.is).cut c.statement.result c.line_cut.result c.statement.ensures
    (subst (λ (b : List ℕ). cut_place b c.line_cut.result ≡ line_place b c.statement.result c.value-value.result) same
    c.line_cut.ensures.place) c.line_cut.ensures.preserved

pub returns-in_default : goal.returns-in_default
returns-in_default c = λ path s read removal.
    let h = seen c.self.view_is c.self.invariant in
    let found = subst (λ (p : Piece). IsRemovalOf c.args.self.now.profile path s (Ok p)) c.in-Value.is removal in
    let same : c.as_bytes-bytes.result.now ≡ c.args.self.now.text =
    c.as_bytes-bytes.ensures.value ∙ text_seen c.self.view_is in
    (entry_arm _ _ _ path s h read found.0 c.in-Value.number c.value-value.result found.1 c.value-value.ensures.stored
    c.in_default.not-Line).cut c.entry_cut.result
    (subst (λ (b : List ℕ). cut_place b c.entry_cut.result ≡ entry_place b c.value-value.result) same
    c.entry_cut.ensures.place) c.entry_cut.ensures.preserved

pub returns-in-Section : goal.returns-in-Section
returns-in-Section c = λ path s read removal.
    let h = seen c.self.view_is c.self.invariant in
    let found = subst (λ (p : Piece). IsRemovalOf c.args.self.now.profile path s (Ok p)) c.in-Section.is removal in
    (section_arm _ _ _ path s h read found.0 c.in-Section.number found.1.0 found.1.1).cut c.section_cut.result
    (c.section_cut.ensures.place c.args.self.now.text) c.section_cut.ensures.preserved
