use Rattle.std.proofs.Common.{List, ℕ, sym, subst, ◌∙◌}
use Rattle.keep_types.specs.declared.leaf.Profile.{Profile}
use Rattle.keep_edit.specs.Lists.{AreMade}
use Rattle.keep_edit.specs.Reading.{text_in}
use Rattle.keep_edit.proofs.Shared.{nothing_made}
use Rattle.keep_commands.proofs.AnswerLaws.{stopped_at}
use Rattle.keep_commands.proofs.answer.after_edits.Goals as goal

pub returns-then-is_empty : goal.returns-then-is_empty
returns-then-is_empty c = λ s h bytes are.
    subst (λ (b : List ℕ). AreMade s c.args.edits.now c.args.document (text_in c.args.document.profile b))
    (sym (are ∙ c.into_text.ensures.text))
    (nothing_made s c.args.edits.now c.args.document c.if-is_empty.ensures h)

pub returns-in_ok-after_last-in-Ok : goal.returns-in_ok-after_last-in-Ok
returns-in_ok-after_last-in-Ok c = λ s h bytes are.
    let made = c.in-Ok.ensures.done s h in
    subst (λ (p : Profile). AreMade s c.args.edits.now c.args.document (text_in p bytes)) made.profile
    (subst (λ (b : List ℕ). AreMade s c.args.edits.now c.args.document (text_in c.apply_but_last.new.self.profile b))
    (sym (c.in_ok-after_last-in-Ok.ensures bytes are)) made)

pub returns-in-Err : goal.returns-in-Err
returns-in-Err c =
    λ s h. rw (c.of_edit.ensures) (stopped_at s c.args.edits.now c.args.document.profile c.in-Err.index c.in-Err.fault
    (c.in-Err.ensures.done s h))
