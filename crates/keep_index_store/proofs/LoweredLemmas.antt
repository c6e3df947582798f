-- Numbers of which none is greater once they are moved: they have 32 bits then as they had before.
--
-- Theorem: `short_lowered`.
use Rattle.std.proofs.Common.{ℕ, ◌<◌, ◌≤◌, ◌^◌, ◌==◌, Bool, true, false, cond, arith, inl, inr}
use Rattle.std.proofs.lemmas.Bool.{cases_lt}
use Rattle.keep_index_store.specs.declared.facts.OriginKind.{OriginKind}
use Rattle.keep_index_store.specs.declared.facts.OriginKind.TheVariants as origin_kind
use Rattle.keep_index_store.specs.declared.packed.ShortFacts.{ShortFacts}
use Rattle.keep_index_store.specs.declared.shift.NumberShifts.{NumberShifts}
use Rattle.keep_index_store.specs.declared.shift.Shift.{Shift}
use Rattle.keep_index_store.specs.Below.{moved_by, shifted_by, value_shift}
use Rattle.keep_index_store.specs.Dots.{IsLowering}
use Rattle.keep_index_store.specs.Shifting.{ShortCanShift}
use Rattle.keep_index_store.proofs.ShiftedLemmas.{shifted_high, shifted_low}

lowered : (s : Shift) (n : ℕ) → s.new ≤ s.old → shifted_by s n ≤ n
lowered s n less = elim (cases_lt n s.from) [
  | inl low ↦ omega (arith, shifted_low s n low)
  | inr high ↦ omega (arith, shifted_high s n high, less)
]

value_lowered : (by : NumberShifts) (o : OriginKind) (n : ℕ) → by.values.new ≤ by.values.old
    → moved_by (value_shift by o) n ≤ n
value_lowered by origin_kind.Root n less = omega arith
value_lowered by origin_kind.Through n less = omega arith
value_lowered by origin_kind.Dotted n less = lowered by.values n less
value_lowered by origin_kind.Header n less = omega arith
value_lowered by origin_kind.Element n less = omega arith
value_lowered by origin_kind.Tables n less = omega arith
value_lowered by origin_kind.Value n less = lowered by.values n less

key_lowered : (s : Shift) (none : Bool) (n : ℕ) → s.new ≤ s.old → cond none n (shifted_by s n) ≤ n
key_lowered s true n less = omega arith
key_lowered s false n less = lowered s n less

pub short_lowered : (by : NumberShifts) → IsLowering by → (s : ShortFacts) → s.key < 2 ^ 32 → s.number < 2 ^ 32
    → ShortCanShift by s
short_lowered by less s key number = (
  omega (arith, key, key_lowered by.keys (s.marks == 0) s.key less.1),
  omega (arith, number, value_lowered by s.origin s.number less.0),
)
