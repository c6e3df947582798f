use Rattle.keep_index_store.proofs.RemovedRowLemmas.{rows_fit}
use Rattle.keep_index_store.proofs.nodes.Nodes.has_small_links.Goals as goal

pub returns : goal.returns
returns c small = rows_fit _ _ _ c.self.view_is c.self.invariant (c.is_packed.ensures small)
