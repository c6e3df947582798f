-- Where `insert` writes, whatever the value is, or why there is no place for it.
use Rattle.std.specs.Prelude.{◌≡◌, ℕ, ◌<◌, ◌≤◌, true, false, List, [], ◌∷◌, ◌++◌, Option, Some, None, Result, Ok, Err}
use Rattle.keep_types.specs.declared.leaf.Profile.{Profile}
use Rattle.keep_syntax.specs.Tree.{Value, Document}
use Rattle.keep_path.specs.Path.{Part, index}
use Rattle.keep_meaning.specs.Fact as fact
use Rattle.keep_meaning.specs.Meaning.{mentions_in}
use Rattle.keep_meaning.specs.Nodes.{fact_at, node_number, node_paths}
use Rattle.keep_edit_spec.specs.declared.fault.EditFault.{EditFault}
use Rattle.keep_edit_spec.specs.declared.fault.EditFault.TheVariants as fault
use Rattle.keep_edit_spec.specs.Edits.{insert}
use Rattle.keep_edit_spec.specs.Look.{holder, is_table, item_count, without_last}
use Rattle.keep_edit_spec.specs.Refusals.{refusal, first_that_holds, is_too_deep, is_foreign}
use Rattle.keep_edit_plan.specs.Reading.{limit}
use Rattle.keep_edit_plan.specs.Inserting.{IsItemSpot, IsKeyvalSpot, IsSpotOf}
use Rattle.keep_edit_plan.specs.declared.insert.Insertion.{Insertion}
use Rattle.keep_edit_plan.specs.declared.insert.Spot.{Spot}
use Rattle.keep_edit_plan.specs.declared.insert.Spot.TheVariants as spot

-- the refusals of a value at a place that is there
abbrev pub value_refusal : Profile → List Part → Value → Document → Option EditFault
value_refusal profile path v s =
    first_that_holds ((is_too_deep limit path v (mentions_in s), fault.TooDeep) ∷ (is_foreign profile v, fault.Profile)
    ∷ [])

-- There is a place, and so only the value can be refused; or there is none, and every value is refused.
abbrev pub IsAimed : List Part → Document → Result Insertion EditFault → Type 0
IsAimed path s (Ok i) =
    ((profile : Profile) (v : Value) → refusal profile limit s (insert path v) ≡ value_refusal profile path v s)
    × IsSpotOf path s i
IsAimed path s (Err f) = (profile : Profile) (v : Value) → refusal profile limit s (insert path v) ≡ Some f

-- The path is item n of a static array, which is the node with that number.
pub record IsItemOf (path : List Part) (n : ℕ) (s : Document) (array : ℕ) : Type 0 where
  pub whole : path ≡ without_last path ++ index n ∷ []
  pub node : node_number (node_paths (mentions_in s)) (without_last path) ≡ Some array
  pub static : fact_at (without_last path) (mentions_in s) ≡ Some fact.array

abbrev pub IsItemAimed : List Part → ℕ → Document → Result Spot EditFault → Type 0
IsItemAimed path n s (Ok at) = (n ≤ item_count (without_last path) (mentions_in s)) × IsItemSpot path n s at
IsItemAimed path n s (Err f) = (f ≡ fault.NotFound) × (item_count (without_last path) (mentions_in s) < n)

abbrev pub longest_prefix : List Part → Document → List Part
longest_prefix path s = holder path (mentions_in s)

-- after the last keyval of braces, if they have one
abbrev pub spot_in_braces : ℕ → Option ℕ → Spot
spot_in_braces braces (Some v) = spot.AfterEntry v
spot_in_braces braces None = spot.InEmpty braces

abbrev pub IsKeyvalAimed : List Part → Document → ℕ → Result Spot EditFault → Type 0
IsKeyvalAimed a s from (Ok at) = (is_table a (mentions_in s) ≡ true) × IsKeyvalSpot a s from at
IsKeyvalAimed a s from (Err f) = (f ≡ fault.NotTable) × (is_table a (mentions_in s) ≡ false)
