-- The facts about the nodes so far, and how more facts are joined with them.
use Rattle.std.specs.Prelude.{ℕ, ◌+◌, ◌==◌, true, false, ◌||◌, nat_le, min, ◌^◌, ◌-◌, if◌then◌else◌}
use Rattle.std.specs.Prelude.{Some, None}
use Rattle.keep_types.specs.declared.node.Kind.{Kind}
use Rattle.keep_types.specs.declared.node.Kind.TheVariants as kind
use Rattle.keep_types.specs.declared.node.Origin.{Origin}
use Rattle.keep_types.specs.declared.node.Origin.TheVariants as origin
use Rattle.keep_types.specs.declared.node.NodeInfo.{NodeInfo}
use Rattle.keep_index_store.specs.declared.facts.OriginKind.{OriginKind}
use Rattle.keep_index_store.specs.declared.facts.OriginKind.TheVariants as origin_kind
use Rattle.keep_index_store.specs.declared.facts.NodeFacts.{NodeFacts}

-- ---- one node

-- the rank of a place: of two places the one of the higher rank is stored
abbrev pub rank : Origin → ℕ
rank origin.Root = 0
rank (origin.Through i) = 1
rank (origin.Dotted v) = 2
rank (origin.Header i) = 3
rank (origin.Element i) = 4
rank origin.Tables = 5
rank (origin.Value v) = 6

abbrev pub later_origin : Origin → Origin → Origin
later_origin old more = if nat_le (rank old) (rank more) then more else old

abbrev pub later_kind : Kind → Kind → Kind
later_kind old kind.Tables = kind.Tables
later_kind old _ = old

-- the facts about a node, joined with those from one more mention of it, which gives it no value
abbrev pub joined_info : NodeInfo → NodeInfo → NodeInfo
joined_info old more = record {
  kind = later_kind old.kind more.kind;
  key = if old.marks == 0 then more.key else old.key;
  marks = min (old.marks + more.marks) (2 ^ 64 - 1);
  passed = old.passed || more.passed;
  origin = later_origin old.origin more.origin;
}

-- the facts from the key part with that number, which names a node
abbrev pub named_info : Kind → ℕ → Origin → NodeInfo
named_info k key p = record { kind = k; key = Some key; marks = 1; passed = false; origin = p }

-- the facts from an item or an element, which no key part names
abbrev pub unnamed_info : Kind → Origin → NodeInfo
unnamed_info k p = record { kind = k; key = None; marks = 0; passed = false; origin = p }

-- the facts from a header that goes past an element
abbrev pub passed_info : NodeInfo
passed_info = record { kind = kind.Table; key = None; marks = 0; passed = true; origin = origin.Root }

-- the place of a kind, with the number that it names
abbrev pub origin_of : OriginKind → ℕ → Origin
origin_of origin_kind.Root number = origin.Root
origin_of origin_kind.Value number = origin.Value number
origin_of origin_kind.Header number = origin.Header number
origin_of origin_kind.Element number = origin.Element number
origin_of origin_kind.Dotted number = origin.Dotted number
origin_of origin_kind.Through number = origin.Through number
origin_of origin_kind.Tables number = origin.Tables

-- the facts as callers see them
abbrev pub info_of : NodeFacts → NodeInfo
info_of t = record {
  kind = t.kind;
  key = if t.marks == 0 then None else Some t.key;
  marks = t.marks;
  passed = t.passed;
  origin = origin_of t.origin t.number;
}

-- of the two the one whose place is stored
abbrev pub later_facts : NodeFacts → NodeFacts → NodeFacts
later_facts old more =
    if nat_le (rank (origin_of old.origin old.number)) (rank (origin_of more.origin more.number)) then more else old

-- stored facts, joined with those from one more mention, under the role that was there
abbrev pub joined_facts : NodeFacts → NodeFacts → NodeFacts
joined_facts old more = record {
  role = old.role;
  kind = later_kind old.kind more.kind;
  passed = old.passed || more.passed;
  origin = (later_facts old more).origin;
  marks = min (old.marks + more.marks) (2 ^ 64 - 1);
  key = if old.marks == 0 then more.key else old.key;
  number = (later_facts old more).number;
}
