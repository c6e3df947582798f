-- The numbers before this one have been moved.
use Rattle.std.proofs.Common.{◌≡◌, ◌++◌, map, take, drop}
use Rattle.keep_index_store.specs.Below.{shifted_by}
use Rattle.keep_index_store.proofs.replaced.shift_ids.Given as goal

abbrev pub invariant-loop-id : goal.invariant-loop-id
invariant-loop-id l = l.ids ≡ map (shifted_by l.by) (take l.id-index l.fn.ids) ++ drop l.id-index l.fn.ids
