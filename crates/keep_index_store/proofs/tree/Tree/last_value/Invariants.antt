-- The greatest number so far, and those of the children that are left.
use Rattle.std.proofs.Common.{◌≡◌, drop}
use Rattle.std.specs.Prelude.{max}
use Rattle.keep_index_store.specs.DotsLess.{greatest_value}
use Rattle.keep_index_store.specs.Trie.{children_of}
use Rattle.keep_index_store.proofs.tree.Tree.last_value.Given as goal

abbrev pub invariant-loop-number : goal.invariant-loop-number
invariant-loop-number l =
    max l.last (greatest_value l.self.infos (drop l.number (children_of l.self.trie l.id)))
    ≡ greatest_value l.self.infos (children_of l.self.trie l.id)
