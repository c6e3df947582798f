-- How many lines come at each byte, and of which lengths their tables are.
use Rattle.std.specs.Prelude.{◌≡◌, ℕ, ◌+◌, ◌==◌, ◌&&◌, nat_lt, List, [], ◌∷◌, take, if◌then◌else◌, None, Some, nat_eq}
use Rattle.std.specs.HashMap.{get}
use Rattle.keep_edit_runs.specs.declared.counts.Counts.{Counts}
use Rattle.keep_edit_runs.specs.declared.counts.LengthCounts.{LengthCounts}

abbrev pub count_at : Counts → ℕ → ℕ
count_at counts at = elim (get nat_eq counts.counts at) [ None ↦ 0 | Some n ↦ n ]

-- one more at that byte, and as many at each other
abbrev pub IsOneMore : Counts → ℕ → Counts → Type 0
IsOneMore old at new = (n : ℕ) → count_at new n ≡ (if at == n then 1 else 0) + count_at old n

-- ---- by lengths

-- how many all of these count at that byte
abbrev pub sum_at : List Counts → ℕ → ℕ
sum_at [] at = 0
sum_at (c ∷ cs) at = count_at c at + sum_at cs at

-- how many at that byte have fewer steps than so many
abbrev pub shorter_at : LengthCounts → ℕ → ℕ → ℕ
shorter_at counts most at = sum_at (take most counts.counts.items) at

-- one more of that length at that byte
abbrev pub IsOneOfLength : LengthCounts → ℕ → ℕ → LengthCounts → Type 0
IsOneOfLength old length at new =
    (most n : ℕ) → shorter_at new most n ≡ (if (at == n) && nat_lt length most then 1 else 0) + shorter_at old most n
