-- The steps stay, and of the facts the numbers of key parts are others.
use Rattle.keep_index_store.proofs.PartsLemmas.{parts_moved, parts_stored, parts_trie}
use Rattle.keep_index_store.proofs.tree.Tree.add_parts.Goals as goal

pub invariant_of-self-2 : goal.invariant_of-self-2
invariant_of-self-2 c =
    parts_stored _ _ c.part_shifts-by.ensures c.self.inside.nodes.items c.args.self.now c.self.view_is c.self.invariant
    c.shift_numbers.new.self.items (c.shift_numbers.ensures.shifted c.if-not-shift_numbers.false)

pub returns-clause-added : goal.returns-clause-added
returns-clause-added c =
    parts_moved _ _ c.part_shifts-by.ensures c.self.inside.nodes.items c.args.self.now c.self.view_is c.self.invariant
    c.shift_numbers.new.self.items (c.shift_numbers.ensures.shifted c.if-not-shift_numbers.false)

pub returns-clause-same : goal.returns-clause-same
returns-clause-same c =
    parts_trie _ _ c.part_shifts-by.ensures c.self.inside.nodes.items c.args.self.now c.self.view_is c.self.invariant
    c.shift_numbers.new.self.items (c.shift_numbers.ensures.shifted c.if-not-shift_numbers.false)
