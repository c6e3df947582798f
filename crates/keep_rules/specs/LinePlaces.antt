-- Where the node of a line comes among the others, by the facts about them.
use Rattle.std.specs.Prelude.{ℕ, ◌<◌, ◌≤◌, ◌↔◌, not, IsTrue, List, length, slice_index_or}
use Rattle.std.specs.List.{prefix_len}
use Rattle.keep_types.specs.declared.node.NodeInfo.{NodeInfo}
use Rattle.keep_meaning.specs.LinesMore.{is_met_from}
use Rattle.keep_path.specs.NodeInfos.{LineNumbers, no_info}
pub use Rattle.keep_path.specs.NodesBelow.{one_more}

-- The nodes from this number on, and no others, are first met at the line or after it.
pub record IsPlaceOf (line : LineNumbers) (infos : List NodeInfo) (at : ℕ) : Type 0 where
  pub within : at ≤ length infos
  pub parts : (i : ℕ) → i < length infos → (at ≤ i) ↔ IsTrue (is_met_from line (slice_index_or infos i no_info))

-- how many nodes are met before the line, as far as they come first
abbrev pub met_before : LineNumbers → List NodeInfo → ℕ
met_before line infos = prefix_len (λ (i : NodeInfo). not (is_met_from line i)) infos
