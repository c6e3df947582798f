use Rattle.std.proofs.Common.{◌≡◌, ◌++◌, take, drop, map}
use Rattle.keep_path.specs.NodeInfos.{earlier_number}
use Rattle.keep_index_store.specs.Renumbering.{renumbered_stored}
use Rattle.keep_index_store.proofs.nodes.renumbering.renumber_all_earlier.Given as goal

-- those before this number are changed
abbrev pub invariant-nodes : goal.invariant-nodes
invariant-nodes l =
    take l.id l.nodes ++ map (renumbered_stored earlier_number l.fn.line) (drop l.id l.nodes)
    ≡ map (renumbered_stored earlier_number l.fn.line) l.fn.nodes
