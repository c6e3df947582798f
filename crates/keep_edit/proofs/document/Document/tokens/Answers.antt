use Rattle.std.proofs.Common.{◌∙◌}
use Rattle.keep_edit_plan.proofs.Shared.{text_seen, seen, tokens_are}
use Rattle.keep_edit.proofs.document.Document.tokens.Goals as goal

pub returns-clause-tokens : goal.returns-clause-tokens
returns-clause-tokens c =
    λ s read. c.tokens.ensures
    ∙ rw (c.as_str.ensures.value, text_seen c.self.view_is)
    (tokens_are _ _ _ s (seen c.self.view_is c.self.invariant) read)
