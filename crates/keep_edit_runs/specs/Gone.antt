-- Elements of arrays of tables that removes in a row take, and the paths that others had before.
use Rattle.std.specs.Prelude.{◌≡◌, All, ℕ, ◌+◌, nat_lt, if◌then◌else◌, List, [], ◌∷◌, ◌++◌, map}
use Rattle.std.specs.List.{AllPairs}
use Rattle.keep_path.specs.Path.{Part}
use Rattle.keep_edit_spec.specs.AddedItems.{item_path}
use Rattle.keep_edit_spec.specs.RemovedHeaders.{first_path, path_before}
use Rattle.keep_edit_spec.specs.Runs.{AreApart}
use Rattle.keep_edit_runs.specs.KnownArrays.{IsKnown}
use Rattle.keep_edit_runs.specs.declared.known_arrays.KnownArrays.{KnownArrays}

-- ---- of one array

-- the number that an element had before the one with this number was taken out
abbrev pub number_before : ℕ → ℕ → ℕ
number_before gone n = if nat_lt n gone then n else n + 1

-- before those with these numbers were, one after another
abbrev pub first_number : List ℕ → ℕ → ℕ
first_number [] n = n
first_number (gone ∷ more) n = number_before gone (first_number more n)

-- the paths of elements of one array
abbrev pub element_paths : List Part → List ℕ → List (List Part)
element_paths array numbers = map (item_path array) numbers

-- ---- of several

-- an array of tables, and the numbers that elements of it had when they went, one after another
pub record GoneNumbers : Type 0 where
  pub array : List Part
  pub numbers : List ℕ

-- the paths of those of one array, of the next, and so on
abbrev pub gone_paths : List GoneNumbers → List (List Part)
gone_paths [] = []
gone_paths (gone ∷ more) = element_paths gone.array gone.numbers ++ gone_paths more

-- none of their arrays is at another, or below it
abbrev pub AreArraysApart : List GoneNumbers → Type 0
AreArraysApart all = AllPairs AreApart (map (λ gone. gone.array) all)

-- each of their arrays is among these
abbrev pub AreKnown : KnownArrays → List GoneNumbers → Type 0
AreKnown known all = All (λ gone. IsKnown known gone.array) all

-- ---- one more

-- The second paths lead back as the first do after this one: so they are gone, and then this one.
abbrev pub IsGoneWith : List (List Part) → List Part → List (List Part) → Type 0
IsGoneWith gone path more = (q : List Part) → first_path more q ≡ first_path gone (path_before path q)
