-- The steps stay, and of the facts the numbers of key parts are others.
use Rattle.std.proofs.Common.{◌+◌, ap}
use Rattle.keep_path.specs.NodeInfos.{NodeInfos}
use Rattle.keep_path.specs.NodesBelow.{shifted}
use Rattle.keep_index_store.specs.Tree.{TrieInfos, tree_of}
use Rattle.keep_index_store.proofs.DotsLeftLemmas.{parts_givers, parts_small}
use Rattle.keep_index_store.proofs.PartsLemmas.{parts_moved, parts_stored, parts_trie}
use Rattle.keep_index_store.proofs.tree.Tree.take_parts.Goals as goal

pub invariant_of-self : goal.invariant_of-self
invariant_of-self c =
    parts_stored _ _ c.part_shifts-by.ensures c.self.inside.nodes.items c.args.self.now c.self.view_is c.self.invariant
    c.lower_numbers.new.self.items c.lower_numbers.ensures

pub returns-clause-taken : goal.returns-clause-taken
returns-clause-taken c =
    parts_moved _ _ c.part_shifts-by.ensures c.self.inside.nodes.items c.args.self.now c.self.view_is c.self.invariant
    c.lower_numbers.new.self.items c.lower_numbers.ensures

pub returns-clause-same : goal.returns-clause-same
returns-clause-same c =
    parts_trie _ _ c.part_shifts-by.ensures c.self.inside.nodes.items c.args.self.now c.self.view_is c.self.invariant
    c.lower_numbers.new.self.items c.lower_numbers.ensures

pub returns-clause-tables : goal.returns-clause-tables
returns-clause-tables c id n =
    let u : TrieInfos = tree_of c.lower_numbers.new.self.items in
    parts_givers (shifted (c.args.from + c.args.gone) c.args.gone 0) c.args.self.now u (returns-clause-same c)
    (ap (λ (x : NodeInfos). x.infos) (returns-clause-taken c)) id n

pub returns-clause-small : goal.returns-clause-small
returns-clause-small c =
    let u : TrieInfos = tree_of c.lower_numbers.new.self.items in
    parts_small (shifted (c.args.from + c.args.gone) c.args.gone 0) c.args.self.now u (returns-clause-same c)
    (ap (λ (x : NodeInfos). x.infos) (returns-clause-taken c))
