use Rattle.std.proofs.Common.{◌≡◌, ℕ, vec_len}
use Rattle.keep_rules.specs.Lookup.{AreAncestors}
use Rattle.keep_index_store.specs.Trie.{path_at}
use Rattle.keep_rules.proofs.queries.path_to.Given as goal

abbrev pub invariant-loop-node : goal.invariant-loop-node
invariant-loop-node l =
    (top : ℕ) × AreAncestors l.nodes.trie l.id l.ancestors.items top × (l.path ≡ path_at l.nodes.trie top)

abbrev pub decreases-loop-node : goal.decreases-loop-node
decreases-loop-node l = vec_len l.ancestors
