use Rattle.std.proofs.Common.{◌∙◌, List, ℕ, ap, inr, not, subst, sym}
use Rattle.keep_commands.specs.Answer.{IsText}
use Rattle.keep_commands.specs.declared.command.Command.TheVariants.{Text}
use Rattle.keep_commands.proofs.AnswerLaws.{meant_text, no_node, no_string}
use Rattle.keep_commands.proofs.answer.string_text.Goals as goal

pub returns-in-Some : goal.returns-in-Some
returns-in-Some c = λ bytes are.
    subst (λ (b : List ℕ). IsText (Text c.args.path.now) c.args.document.now b) (sym are)
    (meant_text c.args.document.now c.args.path.now c.in_ok-text.field-0 c.in-Some.text c.in-Some.is
    c.in_ok-text.ensures.accepted c.in_ok-text.ensures.string)

pub returns-in-None : goal.returns-in-None
returns-in-None c =
    rw (c.of_edit.ensures) (inr (no_node c.args.document.now c.args.path.now c.kind.result
    (c.is_none.ensures ∙ ap not c.if-is_none.true) c.kind.ensures.accepted c.kind.ensures.kind))

pub returns-in-None-2 : goal.returns-in-None-2
returns-in-None-2 c = rw (c.of_edit-in-None-2.ensures)
    (inr (no_string c.args.document.now c.args.path.now c.kind.result c.in_ok-text.field-0
    (c.is_none.ensures ∙ ap not c.if-is_none.false) c.in-None-2.is c.kind.ensures.accepted c.kind.ensures.kind
    c.in_ok-text.ensures.string))
