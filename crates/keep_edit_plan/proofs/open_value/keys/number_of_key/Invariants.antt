use Rattle.std.proofs.Common.{◌≡◌, ◌+◌, ℕ, drop}
use Rattle.keep_edit_plan.specs.OpenKeyvals.{IsKeyedAt}
use Rattle.keep_edit_plan.proofs.open_value.keys.number_of_key.Given as goal

-- what is found among the entries that are left is found among all
abbrev pub invariant-loop-place : goal.invariant-loop-place
invariant-loop-place l = record {
  count : l.number ≡ l.place-index;
  found : (n : ℕ) → IsKeyedAt l.name l.text l.end n (drop l.place-index l.places)
      → IsKeyedAt l.name l.text 1 (l.place-index + n) l.places;
}
