use Rattle.keep_commands.proofs.answer.counts_text.Goals as goal

pub returns : goal.returns
returns c = c.format.ensures.ok
