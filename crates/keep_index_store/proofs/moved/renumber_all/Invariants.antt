-- The numbers before this one have changed.
use Rattle.std.proofs.Common.{◌≡◌, ◌++◌, map, take, drop}
use Rattle.keep_index_store.specs.Moved.{moved_number}
use Rattle.keep_index_store.proofs.moved.renumber_all.Given as goal

abbrev pub invariant-loop-id : goal.invariant-loop-id
invariant-loop-id l = l.ids ≡ map (moved_number l.last l.at) (take l.id-index l.fn.ids) ++ drop l.id-index l.fn.ids
