-- Tables of dotted keys that a line more goes on from, and key parts that are no more before those of other lines.
use Rattle.std.specs.Prelude.{◌≡◌, ℕ, zero, suc, ◌+◌, ◌<◌, ◌≤◌, ◌^◌, max, All, List, [], ◌∷◌, ◌++◌, length}
use Rattle.std.specs.Prelude.{slice_index_or}
use Rattle.keep_types.specs.declared.node.NodeInfo.{NodeInfo}
use Rattle.keep_types.specs.declared.node.Origin.TheVariants as origin
pub use Rattle.keep_path.specs.Dots.{without_parts}
use Rattle.keep_path.specs.NodeInfos.{no_info}
use Rattle.keep_index_store.specs.declared.facts.NodeFacts.{NodeFacts}
use Rattle.keep_index_store.specs.declared.shift.NumberShifts.{NumberShifts}
use Rattle.keep_index_store.specs.Trie.{TrieNode, parent_at}

-- ---- tables of dotted keys

-- a table of dotted keys, of which 16 bits can count so many mentions more
pub record CanTake (many : ℕ) (i : NodeInfo) : Type 0 where
  pub named : 0 < i.marks
  pub room : i.marks + many < 2 ^ 16
  pub dotted : (v : ℕ) × (i.origin ≡ origin.Dotted v)

-- the node with this number is such a table
abbrev pub IsTaker : ℕ → List NodeInfo → ℕ → Type 0
IsTaker many infos id = (id < length infos) × CanTake many (slice_index_or infos id no_info)

-- all of these are, as many mentions as there are of these
abbrev pub AreTakers : List NodeInfo → List ℕ → Type 0
AreTakers infos ids = All (IsTaker (length ids) infos) ids

-- the node with this number is such a table, comes up to the last one, and is below another
pub record IsPassed (many : ℕ) (infos : List NodeInfo) (last id : ℕ) : Type 0 where
  pub later : 0 < id
  pub up_to : id ≤ last
  pub takes : CanTake many (slice_index_or infos id no_info)

-- a node and those above it, so many, from the highest on
abbrev pub up_from : List TrieNode → ℕ → ℕ → List ℕ
up_from nodes id zero = []
up_from nodes id (suc n) = up_from nodes (parent_at nodes id) n ++ id ∷ []

-- the stored facts about a table of dotted keys, where one keyval more continues from it, whose value has the number v
abbrev pub with_mention : ℕ → NodeFacts → NodeFacts
with_mention v t = record t { marks = suc t.marks; number = max v t.number }

-- ---- key parts

-- no number is greater once it is moved
abbrev pub IsLowering : NumberShifts → Type 0
IsLowering by = (by.values.new ≤ by.values.old) × (by.keys.new ≤ by.keys.old)
