use Rattle.std.proofs.Common.{sym, ap, ◌∙◌}
use Rattle.keep_syntax.specs.Contract.{placed_token, left}
use Rattle.keep_edit_plan.specs.Newlines.{newline_among}
use Rattle.keep_edit_plan.proofs.AnswerLaws.{seen, text_seen, tokens_are}
use Rattle.keep_edit_plan.proofs.NewlineLaws.{newline_is, newline_here, newline_later}
use Rattle.keep_edit_plan.proofs.document.DocumentRef.newline.Goals as goal

pub loop-token-init : goal.loop-token-init
loop-token-init c = (
  tt,
  tt,
  λ s read. newline_is s
      ∙ ap newline_among (sym (ap left c.into_iter-token-iterator.ensures.into_iter_gives
      ∙ (rw (text_seen c.self.view_is) at c.tokens-token-items.ensures)
      ∙ tokens_are _ _ _ s (seen c.self.view_is c.self.invariant) read)),
)

pub returns-in-Newline : goal.returns-in-Newline
returns-in-Newline c = λ s read.
    sym (c.loop-token.invariant.2 s read ∙ ap newline_among c.in-Some.ensures.steps
    ∙ newline_here (placed_token c.in-Some.token) (left c.next.new.self) c.in-Newline.is)

pub loop-token-preserved : goal.loop-token-preserved
loop-token-preserved c = (
  tt,
  tt,
  λ s read. c.loop-token.invariant.2 s read ∙ ap newline_among c.in-Some.ensures.steps
      ∙ newline_later (placed_token c.in-Some.token) (left c.next.new.self) c.in_default.not-Newline,
)

pub returns : goal.returns
returns c = λ s read. sym (c.loop-token.invariant.2 s read ∙ ap newline_among c.in-None.ensures.steps.0)
