-- An index of a path text, by a test that computes. The laws in proofs/ tie it to the text of an index.
use Rattle.std.specs.Prelude.{ℕ, Bool, not, ◌&&◌, ◌||◌, ◌==◌, nat_le, List, slice_index}

-- so many digits at the start are an index, if there are digits: at most nine, no zero before another, and a bracket
-- after
abbrev pub closes : List ℕ → ℕ → Bool
closes text digits =
    (nat_le digits 9 && slice_index text digits == 0x5D) && (nat_le digits 1 || not (slice_index text 0 == 0x30))
