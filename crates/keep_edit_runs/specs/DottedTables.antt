-- The tables that dotted keys make, of the lines that come at each byte.
use Rattle.std.specs.Prelude.{◌≡◌, ℕ, ◌<◌, Bool, true, false, List, Option, Some, length, nat_eq}
use Rattle.std.specs.HashMap.{get}
use Rattle.keep_path.specs.Path.{Part}
use Rattle.keep_edit_spec.specs.DottedLines.{IsAtOrBelow}
use Rattle.keep_edit_runs.specs.Counts.{IsOneOfLength, shorter_at}
use Rattle.keep_edit_runs.specs.declared.dotted_tables.DottedTables.{DottedTables}

abbrev pub longest_at : DottedTables → ℕ → Option (List Part)
longest_at tables at = get nat_eq tables.longest at

-- the table is the longest at that byte, or on the way to that
abbrev pub HasTableAt : DottedTables → ℕ → List Part → Type 0
HasTableAt tables at table =
    (longest : List Part) × ((longest_at tables at ≡ Some longest) × IsAtOrBelow longest table)

-- The table is one of those there, or each of them is that or on the way to it.
abbrev pub FitsAt : DottedTables → ℕ → List Part → Bool → Type 0
FitsAt tables at table false = HasTableAt tables at table
FitsAt tables at table true = (q : List Part) → HasTableAt tables at q → IsAtOrBelow table q

-- A line of that table at that byte is known: the table is there, and the line is counted.
pub record IsDottedAt (tables : DottedTables) (at : ℕ) (table : List Part) : Type 0 where
  pub there : HasTableAt tables at table
  pub counted : (most : ℕ) → length table < most → 0 < shorter_at tables.lengths most at

-- one line more, of that table at that byte
pub record IsDottedMore (old : DottedTables) (at : ℕ) (table : List Part) (new : DottedTables) : Type 0 where
  pub one : IsOneOfLength old.lengths (length table) at new.lengths
  pub here : HasTableAt new at table
  pub others : (n : ℕ) (q : List Part) → HasTableAt old n q → HasTableAt new n q
