-- Where tokens begin, as it is stored.
use Rattle.std.specs.Prelude.{◌≡◌, ℕ, ◌+◌, ◌-◌, ◌<◌, ◌≤◌, ◌^◌, ◌==◌, leb, if◌then◌else◌, List, [], ◌∷◌, length, get_or}
use Rattle.std.specs.Prelude.{take, drop, slice_range, count_by, ⊤}
use Rattle.std.specs.List.{AllByRecursion}
use Rattle.keep_syntax_store.specs.declared.starts.TheConstants.{FAR}
use Rattle.keep_syntax_store.specs.declared.starts.Milestone.{Milestone}
use Rattle.keep_syntax_store.specs.Lifted.{moved}

-- The places that steps lead to: each is so far after the one before, or is the next of the far ones.
abbrev pub places_at : ℕ → List ℕ → List ℕ → List ℕ
places_at at [] far = []
places_at at (step ∷ steps) [] = if step == FAR then [] else (at + step) ∷ places_at (at + step) steps []
places_at at (step ∷ steps) (place ∷ far) =
    if step == FAR then place ∷ places_at place steps far else (at + step) ∷ places_at (at + step) steps (place ∷ far)

-- the last of these places, the first argument where there is none
abbrev pub last_of : ℕ → List ℕ → ℕ
last_of at [] = at
last_of at (place ∷ places) = last_of place places

-- each place is a word of the machine
abbrev pub AllSmall : List ℕ → Type 0
AllSmall places = (k : ℕ) → get_or places k 0 < 2 ^ 64

-- how many steps lead to a far place
abbrev pub fars : List ℕ → ℕ
fars steps = count_by (λ step. step == FAR) steps

-- no place is before the one before it, the first not before `low`
abbrev pub Ascend : ℕ → List ℕ → Type 0
Ascend low [] = ⊤
Ascend low (place ∷ places) = (low ≤ place) × Ascend place places

-- Steps and far places that tell of places: each far step has its place, and the last place is known.
pub record StepsAreStored (steps far : List ℕ) (last : ℕ) : Type 0 where
  pub matched : length far ≡ fars steps
  pub small : AllSmall (places_at 0 steps far)
  pub last_is : last ≡ last_of 0 (places_at 0 steps far)
  pub ascends : Ascend 0 (places_at 0 steps far)

-- so many steps, of which so many are far, lead to this place
pub record IsMilestone (steps far : List ℕ) (m : Milestone) : Type 0 where
  pub within : m.steps ≤ length steps
  pub counted : m.far ≡ fars (take m.steps steps)
  pub leads : m.place ≡ last_of 0 (places_at 0 (take m.steps steps) (take m.far far))

-- the steps after a milestone, and the far places after it, tell of places too
pub record CanGoOn (steps far : List ℕ) (m : Milestone) : Type 0 where
  pub within : m.steps ≤ length steps
  pub far_within : m.far ≤ length far
  pub matched : length (drop m.far far) ≡ fars (drop m.steps steps)
  pub small : AllSmall (places_at m.place (drop m.steps steps) (drop m.far far))

-- the steps from one milestone to another, and the far places from the one to the other, tell of places too
pub record CanGoTo (steps far : List ℕ) (low high : Milestone) : Type 0 where
  pub order : low.steps ≤ high.steps
  pub within : high.steps ≤ length steps
  pub far_order : low.far ≤ high.far
  pub far_within : high.far ≤ length far
  pub matched : length (slice_range far low.far high.far) ≡ fars (slice_range steps low.steps high.steps)
  pub small : AllSmall (places_at low.place (slice_range steps low.steps high.steps) (slice_range far low.far high.far))

-- what is stored, and what is known without summing the steps
pub record AreStarts (steps far : List ℕ) (last : ℕ) (milestones : List Milestone) : Type 0 where
  pub stored : StepsAreStored steps far last
  pub known : AllByRecursion (IsMilestone steps far) milestones

-- ---- from one milestone to another

-- So many steps on from a milestone is another: `steps` and `far` are those after the first.
pub record IsFurther (low : Milestone) (steps far : List ℕ) (m : Milestone) : Type 0 where
  pub counted : m.far ≡ low.far + fars (take (m.steps - low.steps) steps)
  pub leads : m.place
      ≡ last_of low.place (places_at low.place (take (m.steps - low.steps) steps) (take (m.far - low.far) far))

-- what is known of each that is not before the one, and not after the other
abbrev pub IsWithin : Milestone → Milestone → List ℕ → List ℕ → Milestone → Type 0
IsWithin low high steps far m = low.steps ≤ m.steps → m.steps ≤ high.steps → IsFurther low steps far m

-- a milestone, where what comes after `low` comes after `at`
abbrev pub moved_on : Milestone → Milestone → Milestone → Milestone
moved_on low at m = record {
  steps = moved low.steps at.steps m.steps;
  far = moved low.far at.far m.far;
  place = moved low.place at.place m.place;
}

-- each within is a milestone there
abbrev pub CanMoveOn : Milestone → Milestone → Milestone → List ℕ → List ℕ → Milestone → Type 0
CanMoveOn low high at steps far m =
    low.steps ≤ m.steps → m.steps ≤ high.steps → IsMilestone steps far (moved_on low at m)

-- all are before a place
abbrev pub Before : ℕ → List ℕ → Type 0
Before place ns = AllByRecursion (λ (n : ℕ). n < place) ns

-- ---- looked up by a place

-- the last of ascending places that is at most `place`, or else `low`
abbrev pub last_to : ℕ → ℕ → List ℕ → ℕ
last_to place low [] = low
last_to place low (x ∷ xs) = if leb x place then last_to place x xs else low

-- the first of them that is at least `place`, or else `high`
abbrev pub first_from : ℕ → ℕ → List ℕ → ℕ
first_from place high [] = high
first_from place high (x ∷ xs) = if leb place x then x else first_from place high xs
