-- The nodes of a line's further keys alone: each is below the one before it, and the last one has the line's value.
use Rattle.std.specs.Prelude.{ℕ, suc, List, [], ◌∷◌, ◌++◌}
use Rattle.keep_types.specs.declared.node.Kind.{Kind}
use Rattle.keep_types.specs.declared.node.NodeInfo.{NodeInfo}
use Rattle.keep_path.specs.NodeInfos.{NodeInfos, LineNumbers, dotted_info, line_info, no_info}
use Rattle.keep_path.specs.Path.{Part, key}

-- the paths to which these keys lead, one after another
abbrev pub paths_below : List Part → List (List ℕ) → List (List Part)
paths_below path [] = []
paths_below path (k ∷ ks) = (path ++ key k ∷ []) ∷ paths_below (path ++ key k ∷ []) ks

-- alone, the line's value has the number 0
abbrev pub key_numbers : ℕ → LineNumbers
key_numbers k = record { statement = 0; value = 0; key = k }

-- the facts about their nodes, where the first is the key part number k and the value has this kind
abbrev pub key_infos : ℕ → Kind → List (List ℕ) → List NodeInfo
key_infos k kind [] = []
key_infos k kind (t ∷ []) = line_info (key_numbers k) kind ∷ []
key_infos k kind (t ∷ u ∷ ts) = dotted_info (key_numbers k) ∷ key_infos (suc k) kind (u ∷ ts)

-- below a root, with key parts from 0 on
abbrev pub keys_alone : List (List ℕ) → Kind → NodeInfos
keys_alone keys kind = record { paths = [] ∷ paths_below [] keys; infos = no_info ∷ key_infos 0 kind keys }
