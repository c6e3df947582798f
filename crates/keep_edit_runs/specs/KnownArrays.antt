-- Paths of arrays of tables, by which most paths are known to be in none of them and above none.
use Rattle.std.specs.Prelude.{◌≤◌, ◌==◌, ℕ, IsTrue, List, is_some, length, take}
use Rattle.std.specs.HashMap.{get_by}
use Rattle.std.specs.HashSet.{contains_by}
use Rattle.keep_path.specs.Path.{Part}
use Rattle.keep_edit_runs.specs.Seen.{number_of}
use Rattle.keep_edit_runs.specs.declared.known_arrays.KnownArrays.{KnownArrays}

-- the number is that of an array's path
abbrev pub HasPath : KnownArrays → List Part → Type 0
HasPath known path = IsTrue (is_some (get_by (λ n. number_of path == n) known.places))

-- the number is that of what an array's path begins with
abbrev pub HasBeginning : KnownArrays → List Part → Type 0
HasBeginning known path = IsTrue (contains_by (λ n. number_of path == n) known.beginnings)

-- the path, and all that it begins with
pub record IsKnown (known : KnownArrays) (array : List Part) : Type 0 where
  pub whole : HasPath known array
  pub all : (n : ℕ) → n ≤ length array → HasBeginning known (take n array)

-- the new ones have all of the old ones
pub record GoesOn (old new : KnownArrays) : Type 0 where
  pub arrays : (path : List Part) → HasPath old path → HasPath new path
  pub beginnings : (path : List Part) → HasBeginning old path → HasBeginning new path
