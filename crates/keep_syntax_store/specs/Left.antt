-- What an iterator over places has still to give, and places from one milestone to another.
use Rattle.std.specs.Prelude.{◌≡◌, ℕ, ◌+◌, List, length, take, drop}
use Rattle.std.specs.List.{AllByRecursion}
use Rattle.keep_syntax_store.specs.declared.starts.Milestone.{Milestone}
use Rattle.keep_syntax_store.specs.declared.starts.Places.{Places}
use Rattle.keep_syntax_store.specs.Starts.{places_at, last_of, Ascend, IsWithin}

-- the places that an iterator over them has not given yet
abbrev pub places_left : Places → List ℕ
places_left p = places_at p.at p.steps.now p.far.now

-- it has given so many of these places
pub record IsPast (places : List ℕ) (number : ℕ) (p : Places) : Type 0 where
  pub left : places_left p ≡ drop number places
  pub last : p.at ≡ last_of 0 (take number places)

-- these are the places from one milestone to another, with milestones between them
pub record AreBetween (low high : Milestone) (p : Places) (milestones : List Milestone) : Type 0 where
  pub begins : p.at ≡ low.place
  pub long : high.steps ≡ low.steps + length p.steps.now
  pub leads : high.place ≡ last_of low.place (places_left p)
  pub ascends : Ascend low.place (places_left p)
  pub known : AllByRecursion (IsWithin low high p.steps.now p.far.now) milestones
