-- The stored nodes keep their tree of steps.
use Rattle.keep_index_store.proofs.JoinedLemmas.{seen_infos, seen_stored, seen_trie, seen_within}
use Rattle.keep_index_store.proofs.tree.Tree.set_all.Goals as goal

pub set_all-requires : goal.set_all-requires
set_all-requires c =
    seen_within c.self.inside.nodes.items c.args.self.now c.self.view_is c.self.invariant c.args.all.items c.requires

pub invariant_of-self : goal.invariant_of-self
invariant_of-self c =
    seen_stored c.self.inside.nodes.items c.args.self.now c.self.view_is c.self.invariant c.args.all.items c.requires
    c.set_all.new.self.items c.set_all.ensures

pub returns-clause-same : goal.returns-clause-same
returns-clause-same c =
    seen_trie c.self.inside.nodes.items c.args.self.now c.self.view_is c.self.invariant c.args.all.items c.requires
    c.set_all.new.self.items c.set_all.ensures

pub returns-clause-infos : goal.returns-clause-infos
returns-clause-infos c =
    seen_infos c.self.inside.nodes.items c.args.self.now c.self.view_is c.self.invariant c.args.all.items c.requires
    c.set_all.new.self.items c.set_all.ensures
