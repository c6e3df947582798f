-- The tables of dotted keys that a line more goes on from.
use Rattle.std.specs.Prelude.{◌≡◌, ℕ, ◌<◌, All, List, map, Some, slice_index_or}
use Rattle.keep_types.specs.declared.node.Origin.TheVariants as origin
use Rattle.keep_meaning.specs.Nodes.{node_number}
use Rattle.keep_path.specs.NodeInfos.{NodeInfos, no_info}
use Rattle.keep_path.specs.Path.{Part}

-- These paths are those of the nodes with these numbers, each of which comes before `at` and is a table of dotted keys.
pub record ArePassed (t : NodeInfos) (at : ℕ) (paths : List (List Part)) (ids : List ℕ) : Type 0 where
  pub numbers : map (node_number t.paths) paths ≡ map Some ids
  pub dotted : All (λ id. (id < at) × ((v : ℕ) × ((slice_index_or t.infos id no_info).origin ≡ origin.Dotted v))) ids
