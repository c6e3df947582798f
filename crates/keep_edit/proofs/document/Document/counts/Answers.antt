use Rattle.keep_edit_plan.proofs.Shared.{seen}
use Rattle.keep_edit.proofs.CountLaws.{counts_are, counts_few}
use Rattle.keep_edit.proofs.document.Document.counts.Goals as goal

pub returns-clause-counts : goal.returns-clause-counts
returns-clause-counts c =
    λ s read.
    counts_are _ _ _ s _ _ (seen c.self.view_is c.self.invariant) read (c.token_count.ensures.counted _)
    c.node_count.ensures.counted

pub returns-clause-few_tokens : goal.returns-clause-few_tokens
returns-clause-few_tokens c =
    (counts_few _ _ _ _ _ (seen c.self.view_is c.self.invariant) (c.token_count.ensures.counted _)
    c.node_count.ensures.counted).0

pub returns-clause-few_nodes : goal.returns-clause-few_nodes
returns-clause-few_nodes c =
    (counts_few _ _ _ _ _ (seen c.self.view_is c.self.invariant) (c.token_count.ensures.counted _)
    c.node_count.ensures.counted).1
