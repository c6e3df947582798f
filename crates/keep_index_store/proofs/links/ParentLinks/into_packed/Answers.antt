use Rattle.keep_index_store.proofs.RemovedLinkLemmas.{packed_seen}
use Rattle.keep_index_store.proofs.links.ParentLinks.into_packed.Goals as goal

-- all links are packed, since all fit into 32 bits each
pub returns : goal.returns
returns c = packed_seen c.self.inside.packed.items _ _ c.self.view_is c.self.invariant.large c.requires
