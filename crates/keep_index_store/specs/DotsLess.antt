-- Tables of dotted keys, where a line less goes on from them.
use Rattle.std.specs.Prelude.{◌≡◌, ℕ, zero, suc, ◌-◌, ◌<◌, ◌≤◌, ◌^◌, max, All, List, [], ◌∷◌, length, slice_index_or}
use Rattle.std.specs.Prelude.{slice_set}
use Rattle.keep_types.specs.declared.node.NodeInfo.{NodeInfo}
use Rattle.keep_types.specs.declared.node.Origin.TheVariants as origin
use Rattle.keep_path.specs.NodeInfos.{no_info}
use Rattle.keep_path.specs.NodesBelow.{value_of}
use Rattle.keep_index_store.specs.declared.facts.NodeFacts.{NodeFacts}
use Rattle.keep_index_store.specs.declared.shift.Totals.{Totals}
use Rattle.keep_index_store.specs.Dots.{up_from}
use Rattle.keep_index_store.specs.Tree.{TrieInfos, info_at}
use Rattle.keep_index_store.specs.Trie.{children_of, parent_at}

-- ---- what is asked of them before

-- a table of dotted keys that has more mentions than one
pub record CanGive (i : NodeInfo) : Type 0 where
  pub more : 1 < i.marks
  pub dotted : (v : ℕ) × (i.origin ≡ origin.Dotted v)

-- the node with this number is such a table, and is below another
pub record IsGiver (t : TrieInfos) (id : ℕ) : Type 0 where
  pub later : 0 < id
  pub gives : CanGive (info_at t id)

-- a node and those above it are, so many
abbrev pub AreGivers : TrieInfos → ℕ → ℕ → Type 0
AreGivers t id zero = Unit {0}
AreGivers t id (suc n) = IsGiver t id × AreGivers t (parent_at t.trie id) n

-- the number of its value, or of that of the last keyval that continues from it, has 32 bits at most
abbrev pub HasSmallValue : NodeInfo → Type 0
HasSmallValue i = value_of i < 2 ^ 32

-- ---- where a node after them goes

-- The tables before the node `at` are as they were, where it goes: those above them too, and the numbers of values are
-- as small, if there are not more values than before.
pub record LeavesTables (at : ℕ) (old new : Totals) (t u : TrieInfos) : Type 0 where
  pub within : at ≤ length u.trie
  pub givers : (id n : ℕ) → id < at → AreGivers t id n → AreGivers u id n
  pub above : (id n : ℕ) → id < at → AreGivers t id n → up_from u.trie id n ≡ up_from t.trie id n
  pub small : new.values ≤ old.values → All HasSmallValue t.infos → All HasSmallValue u.infos

-- ---- one mention less

-- the greatest number of a value that is known of these nodes: of their own, or of the last keyval that continues from
-- them
abbrev pub greatest_value : List NodeInfo → List ℕ → ℕ
greatest_value infos [] = 0
greatest_value infos (id ∷ ids) = max (value_of (slice_index_or infos id no_info)) (greatest_value infos ids)

-- the stored facts about a table of dotted keys with one mention less, where the last keyval that continues from it has
-- a value with the number v
abbrev pub without_mention : ℕ → NodeFacts → NodeFacts
without_mention v t = record t { marks = t.marks - 1; number = v }

-- with one mention less of this table: the last keyval that continues from it is the last among its children
abbrev pub less_mentioned : ℕ → TrieInfos → TrieInfos
less_mentioned id t = record t {
  infos = slice_set t.infos id (record (info_at t id) {
    marks = (info_at t id).marks - 1;
    origin = origin.Dotted (greatest_value t.infos (children_of t.trie id));
  });
}

-- with one mention less of a table and of those above it, so many, the lowest first
abbrev pub all_less_mentioned : ℕ → ℕ → TrieInfos → TrieInfos
all_less_mentioned id zero t = t
all_less_mentioned id (suc n) t = all_less_mentioned (parent_at t.trie id) n (less_mentioned id t)
