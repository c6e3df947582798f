-- Paths of edits of any kinds that are made at once, by which most are known to leave alone those before them.
use Rattle.std.specs.Prelude.{◌≡◌, ℕ, ◌+◌, ◌-◌, ◌<◌, ◌==◌, IsTrue, List, Some, String, bytes_eq, fold, length, map}
use Rattle.std.specs.Prelude.{slice_get, take}
use Rattle.std.specs.Borrow.{Bor}
use Rattle.std.specs.Global.{Global}
use Rattle.std.specs.Hash.FoldHasher as folding
use Rattle.std.specs.declared.hash.FoldHasher.{FoldHasher}
use Rattle.std.specs.HashSet.{contains_by}
use Rattle.keep_path.specs.Path.{Part, beside, index, key}
use Rattle.keep_edit_plan.specs.Headers.{key_texts}
use Rattle.keep_edit_runs.specs.declared.outline.Outline.{Outline}
use Rattle.keep_edit_runs.specs.declared.outline.Outline.TheVariants.{Element, Insert, Remove, Rename, Set, Table}
use Rattle.keep_edit_runs.specs.Seen.{number_of}
use Rattle.keep_edit_runs.specs.declared.seen_paths.SeenPaths.{SeenPaths}

-- ---- the number of the keys of a path

-- a hasher that is given one more step, of which it takes keys alone
abbrev pub with_key : FoldHasher → Part → FoldHasher
with_key h (key text) = folding.write h text
with_key h (index n) = h

-- one that was given all steps of a path
abbrev pub keys_hashed : List Part → FoldHasher
keys_hashed path = fold with_key folding.initial path

-- a path with another number has other keys
abbrev pub keys_number : List Part → ℕ
keys_number path = folding.finish (keys_hashed path)

-- ---- numbers that are kept

-- the number is that of a path or header, or of a new path
abbrev pub HasEnd : SeenPaths → List Part → Type 0
HasEnd seen path = IsTrue (contains_by (λ n. number_of path == n) seen.ends)

-- the number of its keys is
abbrev pub HasKeyEnd : SeenPaths → List Part → Type 0
HasKeyEnd seen path = IsTrue (contains_by (λ n. keys_number path == n) seen.ends)

-- the number is that of what one of those begins with
abbrev pub HasBeginning : SeenPaths → List Part → Type 0
HasBeginning seen path = IsTrue (contains_by (λ n. number_of path == n) seen.beginnings)

-- the number of its keys is
abbrev pub HasKeyBeginning : SeenPaths → List Part → Type 0
HasKeyBeginning seen path = IsTrue (contains_by (λ n. keys_number path == n) seen.beginnings)

-- the key is one of a path
abbrev pub HasKey : SeenPaths → List ℕ → Type 0
HasKey seen text = IsTrue (contains_by (λ k. bytes_eq text k.now) seen.keys)

-- the key is a new one
abbrev pub HasName : SeenPaths → List ℕ → Type 0
HasName seen text = IsTrue (contains_by (λ k. bytes_eq text k.now) seen.names)

-- ---- what was added

abbrev pub BeginsInKey : List Part → Type 0
BeginsInKey path = (text : List ℕ) × (slice_get path 0 ≡ Some (key text))

-- the path, its keys, and each path that it begins with but the root's
pub record HasPath (seen : SeenPaths) (path : List Part) : Type 0 where
  pub first : BeginsInKey path
  pub whole : HasEnd seen path
  pub keyed : HasKeyEnd seen path
  pub all : (n : ℕ) → n < length path → HasBeginning seen (take (n + 1) path)

-- and all its keys
abbrev pub HasKeys : SeenPaths → List Part → Type 0
HasKeys seen path = (n : ℕ) (text : List ℕ) → slice_get path n ≡ Some (key text) → HasKey seen text

-- the new path of a rename, its keys, and its new key
pub record HasNew (seen : SeenPaths) (path : List Part) (name : List ℕ) : Type 0 where
  pub end : HasEnd seen (beside path name)
  pub keyed : HasKeyEnd seen (beside path name)
  pub beginning : HasBeginning seen (beside path name)
  pub name_is : HasName seen name

-- the keys of a header as a path
abbrev pub path_to : Bor (List (String Global)) → List Part
path_to keys = map key (key_texts keys.now)

-- the paths of an edit are among those, and their keys
abbrev pub IsSeen : SeenPaths → Outline → Type 0
IsSeen seen (Insert path) = HasPath seen path × HasKeys seen path
IsSeen seen (Remove path) = HasPath seen path × HasKeys seen path
IsSeen seen (Set path) = HasPath seen path × HasKeys seen path
IsSeen seen (Rename path name) = HasPath seen path × HasNew seen path name.now
IsSeen seen (Table keys) = HasPath seen (path_to keys)
IsSeen seen (Element keys) = HasPath seen (path_to keys)

-- the path of an array is, as if it were removed
abbrev pub IsArraySeen : SeenPaths → List Part → Type 0
IsArraySeen seen array = IsSeen seen (Remove array)

-- the new ones have all of the old ones
pub record GoesOn (old new : SeenPaths) : Type 0 where
  pub ends : (path : List Part) → HasEnd old path → HasEnd new path
  pub keyed : (path : List Part) → HasKeyEnd old path → HasKeyEnd new path
  pub beginnings : (path : List Part) → HasBeginning old path → HasBeginning new path
  pub keys : (text : List ℕ) → HasKey old text → HasKey new text
  pub names : (text : List ℕ) → HasName old text → HasName new text

-- ---- what is left alone

-- none of those begins with the path, nor the path with one of those, and no header begins with its keys
pub record MissesPath (seen : SeenPaths) (path : List Part) : Type 0 where
  pub first : BeginsInKey path
  pub lacks : ¬ HasBeginning seen path
  pub lacks_keys : ¬ HasKeyBeginning seen path
  pub all : (n : ℕ) → n < length path → ¬ HasEnd seen (take (n + 1) path)

-- none of those is above the path
abbrev pub LacksAbove : SeenPaths → List Part → Type 0
LacksAbove seen path = (n : ℕ) → n < length path - 1 → ¬ HasEnd seen (take (n + 1) path)

-- none of its keys is a new one
abbrev pub MissesNames : SeenPaths → List Part → Type 0
MissesNames seen path = (n : ℕ) (text : List ℕ) → slice_get path n ≡ Some (key text) → ¬ HasName seen text
