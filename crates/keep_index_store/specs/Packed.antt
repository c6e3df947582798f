-- The facts about a node, as they are stored.
use Rattle.std.specs.Prelude.{◌+◌, ◌-◌, ◌||◌, ◌==◌, ◌<◌, ◌^◌, if◌then◌else◌, min, nat_le}
use Rattle.keep_index_store.specs.declared.facts.NodeFacts.{NodeFacts}
use Rattle.keep_index_store.specs.Facts.{rank, origin_of}
use Rattle.keep_index_store.specs.declared.packed.ShortFacts.{ShortFacts}
use Rattle.keep_index_store.specs.declared.packed.Form.{Form}
use Rattle.keep_index_store.specs.declared.packed.Form.TheVariants.{Packed, Boxed}

-- the facts that the packed form can hold
pub record Fits (t : NodeFacts) : Type 0 where
  pub marks : t.marks < 2 ^ 16
  pub key : t.key < 2 ^ 32
  pub number : t.number < 2 ^ 32

-- the facts that are stored beside the role and the kind
abbrev pub short_facts : NodeFacts → ShortFacts
short_facts t = record { passed = t.passed; origin = t.origin; marks = t.marks; key = t.key; number = t.number }

-- of the two the one whose place is stored
abbrev pub later_short : ShortFacts → ShortFacts → ShortFacts
later_short old more =
    if nat_le (rank (origin_of old.origin old.number)) (rank (origin_of more.origin more.number)) then more else old

-- these facts joined with those from one more mention of the node
abbrev pub joined_short : ShortFacts → ShortFacts → ShortFacts
joined_short old more = record {
  passed = old.passed || more.passed;
  origin = (later_short old more).origin;
  marks = min (old.marks + more.marks) (2 ^ 64 - 1);
  key = if old.marks == 0 then more.key else old.key;
  number = (later_short old more).number;
}

-- the facts that a form holds
abbrev pub facts_in : Form → NodeFacts
facts_in (Packed role kind short) = record {
  role = role;
  kind = kind;
  passed = short.passed;
  origin = short.origin;
  marks = short.marks;
  key = short.key;
  number = short.number;
}
facts_in (Boxed facts) = facts.value
