use Rattle.std.proofs.Common.{◌≡◌, ℕ, ◌+◌, ◌-◌, ◌<◌, ◌≤◌, get_or, length, None}
use Rattle.std.specs.Prelude.{vec_capacity, vec_len}
use Rattle.keep_syntax_store.specs.Blocks.{move_after}
use Rattle.keep_syntax_store.proofs.patch.next_moves.Given as goal

-- each block up to this one has its move
abbrev pub invariant-blocks-2 : goal.invariant-blocks-2
invariant-blocks-2 l =
    (length l.next.items ≡ l.block) × (vec_len l.next + (l.count - l.block) ≤ vec_capacity l.next)
    × ((k : ℕ) → k < l.block → get_or l.next.items k None ≡ move_after l.first l.after l.by l.moves.items k)
