use Rattle.std.proofs.Common.{◌-◌, ◌∙◌, ap, arith, length, sym}
use Rattle.std.specs.Prelude.{string_bytes}
use Rattle.keep_edit_spec.specs.TextEnds.{ends_in_newline}
use Rattle.keep_edit_plan.proofs.AddedLineLaws.{done}
use Rattle.keep_edit_plan.proofs.AnswerLaws.{profile_seen, text_seen}
use Rattle.keep_edit_plan.proofs.KeyLineLaws.{key_line_is, no_index}
use Rattle.keep_edit_plan.proofs.document.DocumentRef.key_line.Goals as goal

pub push_line-requires-clause-keys : goal.push_line-requires-clause-keys
push_line-requires-clause-keys c =
    no_index c.args.path.now (c.len.result - 1) (c.ends_in_key.ensures.0 c.if-not-ends_in_key.false)
    (ap (λ n. n - 1) c.len.ensures.count)

pub returns-clause-line : goal.returns-clause-line
returns-clause-line c = λ s read v value.
    key_line_is c.args.self.now s c.args.path.now v c.args.value.now _ (c.len.result - 1) _ _
    (string_bytes c.push_line.new.out) _ _ read value c.len.ensures.utf8
    (c.ends_in_key.ensures.0 c.if-not-ends_in_key.false) (profile_seen c.self.view_is)
    (c.is_allowed_in.ensures v value) c.if-not-is_allowed_in.false (c.depth.ensures v value)
    (omega (arith, c.if-depth-gt-STANDARD_DEPTH.false))
    (ap ends_in_newline (sym (text_seen c.self.view_is)) ∙ sym c.ends_in_newline.ensures
    ∙ c.if-not-ends_in_newline.false)
    (ap length (text_seen c.self.view_is)) (ap (λ n. n - 1) c.len.ensures.count) c.in_ok-line.ensures
    (done _ c.push_line.result _ c.in_ok-ok.ensures.value (c.push_line.ensures s read v value))
