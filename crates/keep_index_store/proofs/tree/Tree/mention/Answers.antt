-- The steps stay, and of the facts those of this table alone are others.
use Rattle.keep_index_store.proofs.DotsLemmas.{low, mentioned_infos, mentioned_stored, mentioned_trie, room}
use Rattle.keep_index_store.proofs.tree.Tree.mention.Goals as goal

pub mention-requires-clause-within : goal.mention-requires-clause-within
mention-requires-clause-within c =
    low c.args.value c.self.inside.nodes.items c.args.self.now c.self.view_is c.self.invariant c.args.id
    c.requires.within c.requires.takes

pub mention-requires-clause-room : goal.mention-requires-clause-room
mention-requires-clause-room c =
    room c.args.value c.self.inside.nodes.items c.args.self.now c.self.view_is c.self.invariant c.args.id
    c.requires.within c.requires.takes

pub invariant_of-self : goal.invariant_of-self
invariant_of-self c =
    mentioned_stored c.args.value c.self.inside.nodes.items c.args.self.now c.self.view_is c.self.invariant c.args.id
    c.requires.within c.requires.takes c.mention.new.self.items c.mention.ensures

pub returns-clause-same : goal.returns-clause-same
returns-clause-same c =
    mentioned_trie c.args.value c.self.inside.nodes.items c.args.self.now c.self.view_is c.self.invariant c.args.id
    c.requires.within c.requires.takes c.mention.new.self.items c.mention.ensures

pub returns-clause-infos : goal.returns-clause-infos
returns-clause-infos c =
    mentioned_infos c.args.value c.self.inside.nodes.items c.args.self.now c.self.view_is c.self.invariant c.args.id
    c.requires.within c.requires.takes c.mention.new.self.items c.mention.ensures
