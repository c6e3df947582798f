-- The numbers before this one have changed.
use Rattle.std.proofs.Common.{◌≡◌, ◌++◌, map, take, drop}
use Rattle.keep_path.specs.NodeInfos.{earlier_number}
use Rattle.keep_index_store.proofs.removed.renumber_earlier.Given as goal

abbrev pub invariant-loop-id : goal.invariant-loop-id
invariant-loop-id l = l.ids ≡ map (earlier_number l.at) (take l.id-index l.fn.ids) ++ drop l.id-index l.fn.ids
