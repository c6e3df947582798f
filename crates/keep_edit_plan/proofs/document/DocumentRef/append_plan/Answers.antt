use Rattle.std.proofs.Common.{◌∙◌, arith, ◌+◌, ◌^◌, ◌<◌, Some, ap, length, refl, sym}
use Rattle.std.specs.Option.{option_map}
use Rattle.keep_edit_spec.specs.declared.fault.EditFault.TheVariants as fault
use Rattle.keep_edit_plan.specs.Headers.{edit_of, key_texts}
use Rattle.keep_edit_plan.specs.declared.plan.IndexChange.TheVariants as index
use Rattle.keep_edit_plan.proofs.AnswerLaws.{text_seen, seen, index_of}
use Rattle.keep_edit_plan.proofs.AppendDone.{refused_as, some_keys, done_there, law_of, end_span, given_text, given_as}
use Rattle.keep_edit_plan.proofs.AppendDone.{written_as}
use Rattle.keep_edit_plan.proofs.EditedLaws.{refused_planned, full_planned, planned, of_plan}
use Rattle.keep_edit_plan.proofs.HeaderChangeLaws.{header_changed}
use Rattle.keep_edit_plan.proofs.document.DocumentRef.append_plan.Goals as goal

pub returns-in-Err-clause-planned : goal.returns-in-Err-clause-planned
returns-in-Err-clause-planned c = λ s read.
    let d = c.args.self.now in
    let some = some_keys c.args.keys.now (sym c.is_empty.ensures ∙ c.if-is_empty.false) in
    refused_planned s (edit_of c.args.header (key_texts c.args.keys.now)) d
    (given_text d s c.args.header c.args.keys.now) (fault.Conflict c.in-Err.why)
    (refused_as d.profile s c.args.header d c.args.keys.now some read
    ∙ ap (option_map fault.Conflict)
    (c.in-Err.ensures s (index_of d _ _ s (seen c.self.view_is c.self.invariant) read)))

pub returns-in_default-header_at_end-clause-planned : goal.returns-in_default-header_at_end-clause-planned
returns-in_default-header_at_end-clause-planned c = λ s read.
    let d = c.args.self.now in
    let some = some_keys c.args.keys.now (sym c.is_empty.ensures ∙ c.if-is_empty.false) in
    let at =
    done_there d s c.args.header c.args.keys.now some read
    (c.in_default.ensures s (index_of d _ _ s (seen c.self.view_is c.self.invariant) read)) in
    full_planned d s (edit_of c.args.header (key_texts c.args.keys.now)) (end_span d)
    (given_text d s c.args.header c.args.keys.now) read at (law_of d s c.args.header c.args.keys.now read at.0)

pub returns-clause-planned : goal.returns-clause-planned
returns-clause-planned c = λ s read.
    let d = c.args.self.now in
    let some = some_keys c.args.keys.now (sym c.is_empty.ensures ∙ c.if-is_empty.false) in
    let at =
    done_there d s c.args.header c.args.keys.now some read
    (c.in_default.ensures s (index_of d _ _ s (seen c.self.view_is c.self.invariant) read)) in
    let whole = text_seen c.self.view_is in
    let is = written_as d _ _ (given_text d s c.args.header c.args.keys.now) c.in-Ok.new refl whole
    (c.in-Ok.ensures.written ∙ given_as d s c.args.header c.args.keys.now _ _ whole (c.newline.ensures s read)) in
    let few : length d.text + length (given_text d s c.args.header c.args.keys.now) < 2 ^ 64 =
    omega (arith, c.in-Ok.ensures.counted, ap length whole, ap length is.1) in
    let change =
    header_changed d _ _ s (seen c.self.view_is c.self.invariant) read c.args.header c.args.keys
    (given_text d s c.args.header c.args.keys.now) at few _ _ c.statement_count.ensures c.key_count.ensures in
    planned d s (edit_of c.args.header (key_texts c.args.keys.now)) (end_span d)
    (given_text d s c.args.header c.args.keys.now) read at (law_of d s c.args.header c.args.keys.now read at.0)
    (Some (index.AppendedHeader c.args.header c.args.keys c.statement_count.result c.key_count.result)) change
    (λ one. refl) _ (is, refl)

pub returns-clause-of_edit : goal.returns-clause-of_edit
returns-clause-of_edit c =
    let d = c.args.self.now in
    let h = seen c.self.view_is c.self.invariant in
    let s = h.tree in
    let read = h.read in
    let some = some_keys c.args.keys.now (sym c.is_empty.ensures ∙ c.if-is_empty.false) in
    let at =
    done_there d s c.args.header c.args.keys.now some read (c.in_default.ensures s (index_of d _ _ s h read)) in
    let whole = text_seen c.self.view_is in
    let is = written_as d _ _ (given_text d s c.args.header c.args.keys.now) c.in-Ok.new refl whole
    (c.in-Ok.ensures.written ∙ given_as d s c.args.header c.args.keys.now _ _ whole (c.newline.ensures s read)) in
    let few : length d.text + length (given_text d s c.args.header c.args.keys.now) < 2 ^ 64 =
    omega (arith, c.in-Ok.ensures.counted, ap length whole, ap length is.1) in
    let change =
    header_changed d _ _ s h read c.args.header c.args.keys (given_text d s c.args.header c.args.keys.now) at few _ _
    c.statement_count.ensures c.key_count.ensures in
    of_plan d s (edit_of c.args.header (key_texts c.args.keys.now)) (end_span d)
    (given_text d s c.args.header c.args.keys.now) read at (law_of d s c.args.header c.args.keys.now read at.0)
    (Some (index.AppendedHeader c.args.header c.args.keys c.statement_count.result c.key_count.result)) change _ is
