-- Runs of two vectors that change places.
use Rattle.std.specs.Prelude.{◌≡◌, ℕ, ◌+◌, ◌-◌, ◌≤◌, ◌++◌, map, take, drop, slice_range, vec_len, vec_capacity, Vec}

-- Each has memory for what the other gives: the run from..to of one, all of the other.
pub record HasRoom {X Z : Type 0} (from to : ℕ) (items run : Vec X Z) : Type 0 where
  pub order : from ≤ to
  pub within : to ≤ vec_len items
  pub room : vec_len items + vec_len run ≤ vec_capacity items
  pub room_for_run : to - from ≤ vec_capacity run

-- They changed places, and what is after the run was changed. So they have memory to change places again.
pub record Exchanged {X Z : Type 0} (change : X → X) (from to : ℕ) (items run new_items new_run : Vec X Z)
    : Type 0 where
  pub items_are : new_items.items ≡ take from items.items ++ (run.items ++ map change (drop to items.items))
  pub run_is : new_run.items ≡ slice_range items.items from to
  pub len : vec_len new_items + (to - from) ≡ vec_len items + vec_len run
  pub run_len : vec_len new_run ≡ to - from
  pub room : vec_len new_items + vec_len new_run ≤ vec_capacity new_items
  pub room_for_run : vec_len run ≤ vec_capacity new_run
