-- Paths of edits that are made at once, by which most are known to leave alone those before them.
use Rattle.std.specs.Prelude.{◌≡◌, ⊤, ℕ, ◌==◌, IsTrue, List, fold, length, map}
use Rattle.std.specs.Hash as fed
use Rattle.std.specs.Hash.FoldHasher as folding
use Rattle.std.specs.declared.hash.FoldHasher.{FoldHasher}
use Rattle.std.specs.HashSet.{contains_by}
use Rattle.keep_path.specs.Path.{Part, beside, index, key}
use Rattle.keep_edit_plan.specs.Headers.{key_texts}
use Rattle.keep_edit_runs.specs.declared.outline.Outline.{Outline}
use Rattle.keep_edit_runs.specs.declared.outline.Outline.TheVariants.{Element, Insert, Remove, Rename, Set, Table}
use Rattle.keep_edit_runs.specs.declared.seen.SeenKeys.{SeenKeys}

-- ---- the number of a path

-- a hasher that is given one more step
abbrev pub with_step : FoldHasher → Part → FoldHasher
with_step h (key text) = folding.write h text
with_step h (index n) = fold folding.write h (fed.usize n)

-- one that was given all steps of a path
abbrev pub hashed : List Part → FoldHasher
hashed path = fold with_step folding.initial path

-- a path with another number is another path
abbrev pub number_of : List Part → ℕ
number_of path = folding.finish (hashed path)

-- ---- what was added

-- the number of the path is one of those
abbrev pub HasPath : SeenKeys → List Part → Type 0
HasPath seen path = IsTrue (contains_by (λ n. number_of path == n) seen.paths)

-- The edit is of the kind of the first one, and its paths are among those: that of an insert, of a rename or of a
-- table's header, and the new one of a rename. An element has as many keys as the first, if all are said to have.
abbrev pub HasPathsOf : SeenKeys → Outline → Outline → Type 0
HasPathsOf seen (Insert first) (Insert path) = HasPath seen path
HasPathsOf seen (Rename first new) (Rename path name) = HasPath seen path × HasPath seen (beside path name.now)
HasPathsOf seen (Table first) (Table keys) = HasPath seen (map key (key_texts keys.now))
HasPathsOf seen (Remove first) (Remove path) = ⊤
HasPathsOf seen (Set first) (Set path) = ⊤
HasPathsOf seen (Element first) (Element keys) = IsTrue seen.are_alike → length keys.now ≡ length first.now
HasPathsOf seen first edit = ⊥

abbrev pub IsSeen : SeenKeys → Outline → Type 0
IsSeen seen edit = HasPathsOf seen seen.first edit

-- the new ones are for edits of the same kind, with all paths of the old ones, and elements are as alike
abbrev pub GoesOn : SeenKeys → SeenKeys → Type 0
GoesOn old new =
    (new.first ≡ old.first) × ((new.are_alike ≡ old.are_alike)
    × ((path : List Part) → HasPath old path → HasPath new path))
