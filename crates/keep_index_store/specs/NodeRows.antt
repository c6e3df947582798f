-- The nodes, each with its parent link.
use Rattle.std.specs.Prelude.{List, [], ◌∷◌}
use Rattle.keep_index_store.specs.declared.links.ParentLink.{ParentLink}
use Rattle.keep_index_store.specs.declared.nodes.Node.{Node as StoredNode}
use Rattle.keep_index_store.specs.AllNodes.{Node, AllNodes}

-- a node, and its parent link
abbrev pub node_row : StoredNode → ParentLink → Node
node_row n h = record { parent = h.parent; number = h.number; children = n.children; facts = n.facts }

abbrev pub node_rows : List StoredNode → List ParentLink → List Node
node_rows (n ∷ ns) (h ∷ hs) = node_row n h ∷ node_rows ns hs
node_rows _ _ = []

abbrev pub all_nodes : List StoredNode → List ParentLink → AllNodes
all_nodes nodes links = record { items = node_rows nodes links }
