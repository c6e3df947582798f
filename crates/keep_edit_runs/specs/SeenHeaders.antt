-- The headers that edits append which are made at once, and the tables whose headers come with a line.
use Rattle.std.specs.Prelude.{◌≡◌, ℕ, ◌+◌, ◌<◌, ◌==◌, IsTrue, List, length, take}
use Rattle.std.specs.HashSet.{contains_by}
use Rattle.keep_path.specs.Path.{Part}
use Rattle.keep_edit_runs.specs.SeenPaths.{BeginsInKey, keys_number}
use Rattle.keep_edit_runs.specs.declared.seen_headers.SeenHeaders.{SeenHeaders}

-- the number is that of keys that an appended header's keys begin with
abbrev pub HasAppended : SeenHeaders → List Part → Type 0
HasAppended seen path = IsTrue (contains_by (λ n. keys_number path == n) seen.appended)

-- the number is that of the keys of a table whose header comes with a line
abbrev pub HasBrought : SeenHeaders → List Part → Type 0
HasBrought seen path = IsTrue (contains_by (λ n. keys_number path == n) seen.brought)

-- all that the keys of this header begin with
abbrev pub HasHeader : SeenHeaders → List Part → Type 0
HasHeader seen keys = (n : ℕ) → n < length keys → HasAppended seen (take (n + 1) keys)

-- this table
abbrev pub HasTableOf : SeenHeaders → List Part → Type 0
HasTableOf seen table = BeginsInKey table × HasBrought seen table

-- the new ones have all of the old ones
pub record HasMore (old new : SeenHeaders) : Type 0 where
  pub appended : (path : List Part) → HasAppended old path → HasAppended new path
  pub brought : (path : List Part) → HasBrought old path → HasBrought new path

-- What an appended header's keys begin with is one more, by its number, and no table's whose header comes with a line.
pub record IsBeginningAppended (old : SeenHeaders) (number : ℕ) (new : SeenHeaders) : Type 0 where
  pub passes : (path : List Part) → number ≡ keys_number path → ¬ HasBrought old path
  pub here : (path : List Part) → number ≡ keys_number path → HasAppended new path
  pub more : HasMore old new

-- A header more is appended, whose keys begin with those of no table whose header comes with a line.
pub record IsHeaderAppended (old : SeenHeaders) (keys : List Part) (new : SeenHeaders) : Type 0 where
  pub passes : (n : ℕ) → n < length keys → ¬ HasBrought old (take (n + 1) keys)
  pub here : HasHeader new keys
  pub more : HasMore old new

-- A header more is appended, whose keys are those of no table whose header came with a line.
pub record IsHeaderAppendedLater (old : SeenHeaders) (keys : List Part) (new : SeenHeaders) : Type 0 where
  pub other : ¬ HasBrought old keys
  pub here : HasHeader new keys
  pub more : HasMore old new

-- The header of one table more comes with a line, with whose keys those of no appended header begin.
pub record IsHeaderBrought (old : SeenHeaders) (table : List Part) (new : SeenHeaders) : Type 0 where
  pub passes : ¬ HasAppended old table
  pub here : HasTableOf new table
  pub more : HasMore old new

-- An array of tables is one more of which an element's header is appended: no header before it begins with the first of
-- its keys, and they begin with those of no table whose header comes with a line.
pub record IsArrayAppended (old : SeenHeaders) (keys : List Part) (new : SeenHeaders) : Type 0 where
  pub apart : (n : ℕ) → n < length keys → ¬ HasAppended old (take (n + 1) keys)
  pub passes : (n : ℕ) → n < length keys → ¬ HasBrought old (take (n + 1) keys)
  pub here : HasHeader new keys
  pub brought : HasBrought new keys
  pub more : HasMore old new
