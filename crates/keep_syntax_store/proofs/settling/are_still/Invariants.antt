use Rattle.std.proofs.Common.{◌≡◌, ℕ, ◌<◌, get_or, None}
use Rattle.keep_syntax_store.proofs.settling.are_still.Given as goal

-- no block before this one is moved
abbrev pub invariant-blocks-2 : goal.invariant-blocks-2
invariant-blocks-2 l = (k : ℕ) → k < l.block → get_or l.moves k None ≡ None
