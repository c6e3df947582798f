-- After the old text there is the text of the path of the last node that was popped.
use Rattle.std.proofs.Common.{◌≡◌, ◌≤◌, ℕ, ◌++◌, length, vec_capacity, vec_len, string_bytes, string_capacity}
use Rattle.keep_rules.specs.Lookup.{AreAncestors}
use Rattle.keep_path.specs.PathText.{encoded_path}
use Rattle.keep_index_store.specs.Trie.{path_at}
use Rattle.keep_rules.proofs.path_text.push_steps.Given as goal

abbrev pub invariant-loop-node : goal.invariant-loop-node
invariant-loop-node l =
    (top : ℕ) × AreAncestors l.nodes.trie l.id l.ancestors.items top
    × (string_bytes l.out ≡ string_bytes l.fn.out ++ encoded_path (path_at l.nodes.trie top))
    × (string_capacity l.fn.out ≤ string_capacity l.out)
    × (vec_capacity l.fn.ancestors ≤ vec_capacity l.ancestors)
    × (length (path_at l.nodes.trie l.id) ≤ vec_capacity l.ancestors)

abbrev pub decreases-loop-node : goal.decreases-loop-node
decreases-loop-node l = vec_len l.ancestors
