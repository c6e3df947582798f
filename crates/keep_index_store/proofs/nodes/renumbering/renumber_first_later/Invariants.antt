use Rattle.std.proofs.Common.{◌≡◌, ◌++◌, take, drop, map}
use Rattle.keep_path.specs.NodeInfos.{later_number}
use Rattle.keep_index_store.specs.Renumbering.{renumbered_stored}
use Rattle.keep_index_store.proofs.nodes.renumbering.renumber_first_later.Given as goal

-- those before this number are changed, and the others are as they were
abbrev pub invariant-nodes : goal.invariant-nodes
invariant-nodes l =
    l.nodes ≡ map (renumbered_stored later_number l.fn.line) (take l.id l.fn.nodes) ++ drop l.id l.fn.nodes
