-- Which numbers in the facts about nodes can be moved where they are stored.
use Rattle.std.specs.Prelude.{ℕ, ◌<◌, ◌==◌, ◌-◌, ◌^◌, if◌then◌else◌, All, List, [], ◌∷◌}
use Rattle.keep_index_store.specs.declared.facts.OriginKind.{OriginKind}
use Rattle.keep_index_store.specs.declared.facts.OriginKind.TheVariants as origin_kind
use Rattle.keep_index_store.specs.declared.facts.NodeFacts.{NodeFacts}
use Rattle.keep_index_store.specs.declared.nodes.Node.{Node as StoredNode}
use Rattle.keep_index_store.specs.declared.packed.ShortFacts.{ShortFacts}
use Rattle.keep_index_store.specs.declared.shift.NumberShifts.{NumberShifts}
use Rattle.keep_index_store.specs.declared.shift.Shift.{Shift}
use Rattle.keep_index_store.specs.Below.{moved_by, shifted_by, shifted_facts, value_shift}

-- packed facts, where the numbers of values and of key parts are moved
abbrev pub shifted_short : NumberShifts → ShortFacts → ShortFacts
shifted_short by s = record s {
  key = if s.marks == 0 then s.key else shifted_by by.keys s.key;
  number = moved_by (value_shift by s.origin) s.number;
}

-- the first number that is moved, or the largest of 64 bits where none is
abbrev pub first_moved : Shift → ℕ
first_moved s = if s.old == s.new then 2 ^ 64 - 1 else s.from

-- the same of a place of that kind
abbrev pub first_number : NumberShifts → OriginKind → ℕ
first_number by origin_kind.Root = 2 ^ 64 - 1
first_number by origin_kind.Through = 2 ^ 64 - 1
first_number by origin_kind.Dotted = first_moved by.values
first_number by origin_kind.Header = 2 ^ 64 - 1
first_number by origin_kind.Element = 2 ^ 64 - 1
first_number by origin_kind.Tables = 2 ^ 64 - 1
first_number by origin_kind.Value = first_moved by.values

-- the same of all kinds, in their order
abbrev pub first_numbers : NumberShifts → List ℕ
first_numbers by =
    (2 ^ 64 - 1) ∷ (2 ^ 64 - 1) ∷ first_moved by.values ∷ (2 ^ 64 - 1) ∷ (2 ^ 64 - 1) ∷ (2 ^ 64 - 1)
    ∷ first_moved by.values ∷ []

-- both numbers of the moved facts are less than 2 ^ 32
abbrev pub CanShift : NumberShifts → NodeFacts → Type 0
CanShift by t = ((shifted_facts by t).key < 2 ^ 32) × ((shifted_facts by t).number < 2 ^ 32)

abbrev pub ShortCanShift : NumberShifts → ShortFacts → Type 0
ShortCanShift by s = ((shifted_short by s).key < 2 ^ 32) × ((shifted_short by s).number < 2 ^ 32)

-- those of all nodes
abbrev pub AllCanShift : NumberShifts → List StoredNode → Type 0
AllCanShift by nodes = All (λ n. CanShift by n.facts) nodes
