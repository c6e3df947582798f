-- Places of entries that are moved a block of entries at a time, without rewriting the entries.
use Rattle.std.specs.Prelude.{ℕ, suc, ◌+◌, ◌-◌, ◌/◌, ◌%◌, ◌^◌, ltb, if◌then◌else◌, List, [], ◌∷◌, get_or}
use Rattle.std.specs.Prelude.{Option, Some, None}
use Rattle.keep_types.specs.declared.syntax.Span.{Span}
use Rattle.keep_types.specs.declared.syntax.KeyPart.{KeyPart}
use Rattle.keep_types.specs.declared.syntax.Statement.{Statement}
use Rattle.keep_types.specs.declared.syntax.ValueInfo.{ValueInfo}
use Rattle.keep_syntax_store.specs.declared.packed_vec.TheConstants.{BLOCK}
use Rattle.keep_syntax_store.specs.Counts.{span}

-- ---- places moved on

-- a place so many bytes on; past the last machine word it goes on at 0, so a place can be moved back too
abbrev pub raise_place : ℕ → ℕ → ℕ
raise_place by n = (n + by) % 2 ^ 64

-- by how much a place moves from after `old` to after `new`
abbrev pub step : ℕ → ℕ → ℕ
step old new = (new + (2 ^ 64 - old)) % 2 ^ 64

abbrev pub raise_there : ℕ → Option ℕ → Option ℕ
raise_there by None = None
raise_there by (Some n) = Some (raise_place by n)

abbrev pub raise_span : ℕ → Span → Span
raise_span by s = span (raise_place by s.start) (raise_place by s.end)

-- the numbers of an entry stay
abbrev pub raise_key : ℕ → KeyPart → KeyPart
raise_key by k = record k { span = raise_span by k.span }

abbrev pub raise_statement : ℕ → Statement → Statement
raise_statement by s = record s { span = raise_span by s.span; line = raise_span by s.line }

abbrev pub raise_value : ℕ → ValueInfo → ValueInfo
raise_value by v = record v {
  span = raise_span by v.span;
  whole = raise_span by v.whole;
  comma_before = raise_there by v.comma_before;
  comma_after = raise_there by v.comma_after;
}

-- ---- blocks of entries

-- an entry whose block is moved, or not
abbrev pub raise_by : {E : Type 0} → (ℕ → E → E) → Option ℕ → E → E
raise_by raise None e = e
raise_by raise (Some by) e = raise by e

-- entries from the one with number n on, each moved with its block; a block without a number is not moved
abbrev pub in_blocks : {E : Type 0} → (ℕ → E → E) → List (Option ℕ) → ℕ → List E → List E
in_blocks raise moves n [] = []
in_blocks raise moves n (e ∷ es) =
    raise_by raise (get_or moves (n / BLOCK) None) e ∷ in_blocks raise moves (suc n) es

-- by how much a block is moved that is moved once more
abbrev pub moved_on : ℕ → Option ℕ → Option ℕ
moved_on by None = Some by
moved_on by (Some more) = Some (raise_place by more)

-- what a block is moved by after an edit that rewrote the entries of the blocks from `first` up to `after`
abbrev pub move_after : ℕ → ℕ → ℕ → List (Option ℕ) → ℕ → Option ℕ
move_after first after by moves block =
    if ltb block first then get_or moves block None
    else if ltb block after then None else moved_on by (get_or moves block None)
