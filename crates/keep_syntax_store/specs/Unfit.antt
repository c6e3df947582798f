-- Entries that do not fit into few bytes, kept apart by their numbers.
use Rattle.std.specs.Prelude.{◌≡◌, ℕ, suc, ◌≤◌, ◌<◌, ◌==◌, ltb, true, false, if◌then◌else◌, List, [], ◌∷◌, Option, Some}
use Rattle.std.specs.Prelude.{None, unwrap_or}
use Rattle.std.specs.List.{AllByRecursion}
use Rattle.std.specs.List.Sorted.{IsPartitionPoint}
use Rattle.keep_syntax_store.specs.declared.unfit.Numbered.{Numbered}

-- an entry with its number
abbrev pub numbered : {E : Type 0} → ℕ → E → Numbered E
numbered n e = record { number = n; entry = e }

-- the entry with this number
abbrev pub found : {E : Type 0} → ℕ → List (Numbered E) → Option E
found n [] = None
found n (u ∷ us) = if u.number == n then Some u.entry else found n us

-- the numbers ascend from `low` on, and are before `end`
abbrev pub Ascend : {E : Type 0} → ℕ → List (Numbered E) → ℕ → Type 0
Ascend low [] end = low ≤ end
Ascend low (u ∷ us) end = (low ≤ u.number) × Ascend (suc u.number) us end

-- none has this number or a later one
abbrev pub AreBefore : {E : Type 0} → ℕ → List (Numbered E) → Type 0
AreBefore {E} n us = AllByRecursion (λ (u : Numbered E). u.number < n) us

-- none has a number from `from` on and before `to`
abbrev pub IsFree : {E : Type 0} → ℕ → ℕ → List (Numbered E) → Type 0
IsFree from to us = (k : ℕ) → from ≤ k → k < to → found k us ≡ None

-- the first so many have a number before this one, and the others don't
abbrev pub CountsBefore : {E : Type 0} → ℕ → List (Numbered E) → ℕ → Type 0
CountsBefore {E} n us count =
    IsPartitionPoint (λ (u : Numbered E). ltb u.number n ≡ true) (λ (u : Numbered E). ltb u.number n ≡ false) us count

-- the entry with a number was changed
abbrev pub IsChangedAt : {E : Type 0} → ℕ → E → List (Numbered E) → List (Numbered E) → Type 0
IsChangedAt n e us vs = (k : ℕ) → found k vs ≡ (if n == k then Some e else found k us)

-- entries from the one with number n on, where those that are kept apart have their numbers
abbrev pub with_unfit : {E : Type 0} → List (Numbered E) → ℕ → List E → List E
with_unfit us n [] = []
with_unfit us n (e ∷ es) = unwrap_or (found n us) e ∷ with_unfit us (suc n) es
