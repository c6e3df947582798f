-- The steps stay, and of the facts those of this table alone are others.
use Rattle.std.proofs.Common.{arith}
use Rattle.keep_index_store.specs.Trie.{children_of}
use Rattle.keep_index_store.proofs.DotsLessLemmas.{greatest_small, less_stored, less_there, low, some}
use Rattle.keep_index_store.proofs.tree.Tree.take_mention.Goals as goal

pub take_mention-requires-clause-within : goal.take_mention-requires-clause-within
take_mention-requires-clause-within c =
    low c.last_value-value.result c.self.inside.nodes.items c.args.self.now c.self.view_is c.self.invariant c.args.id
    c.requires.within c.requires.gives

pub take_mention-requires-clause-some : goal.take_mention-requires-clause-some
take_mention-requires-clause-some c =
    some c.last_value-value.result c.self.inside.nodes.items c.args.self.now c.self.view_is c.self.invariant c.args.id
    c.requires.within c.requires.gives

pub take_mention-requires-clause-small : goal.take_mention-requires-clause-small
take_mention-requires-clause-small c =
    omega (
      arith,
      c.last_value-value.ensures,
      greatest_small c.args.self.now.infos c.requires.small (children_of c.args.self.now.trie c.args.id),
    )

pub invariant_of-self : goal.invariant_of-self
invariant_of-self c =
    less_stored c.last_value-value.result c.self.inside.nodes.items c.args.self.now c.self.view_is c.self.invariant
    c.args.id c.requires.within c.requires.gives c.take_mention.new.self.items c.take_mention.ensures

pub returns : goal.returns
returns c =
    less_there c.last_value-value.result c.self.inside.nodes.items c.args.self.now c.self.view_is c.self.invariant
    c.args.id c.requires.within c.requires.gives c.take_mention.new.self.items c.take_mention.ensures
    c.last_value-value.ensures
