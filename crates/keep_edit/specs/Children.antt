-- How many nodes are one step below a node.
use Rattle.std.specs.Prelude.{ℕ, List, length, Option, Some, None, if◌then◌else◌}
use Rattle.keep_syntax.specs.Tree.{Document}
use Rattle.keep_meaning.specs.Meaning.{mentions_in}
use Rattle.keep_meaning.specs.Nodes.{children, is_node, node_paths}
use Rattle.keep_path.specs.Path.{Part}

-- the keys of a table, the items of an array or the elements of an array of tables; none where the path names no node
abbrev pub child_count_of : List Part → Document → Option ℕ
child_count_of path s =
    if is_node path (mentions_in s) then Some (length (children path (node_paths (mentions_in s)))) else None
