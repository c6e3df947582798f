-- The entries of a map from keys to children.
use Rattle.std.specs.Prelude.{ℕ, List, [], slice_set, slice_index_or}

-- the entries, where that one has this key, and its child as before
abbrev pub with_key_at : List (List ℕ × ℕ) → ℕ → List ℕ → List (List ℕ × ℕ)
with_key_at entries n text = slice_set entries n (text, (slice_index_or entries n ([], 0)).1)
