-- The entries before this one have their new numbers.
use Rattle.std.proofs.Common.{◌≡◌, ◌++◌, map, take, drop}
use Rattle.keep_index_store.specs.Moved.{moved_number}
use Rattle.keep_index_store.proofs.MovedKeyLemmas.{with_value}
use Rattle.keep_index_store.proofs.key_map.KeyMap.renumber.Given as goal

abbrev pub invariant-loop-number : goal.invariant-loop-number
invariant-loop-number l =
    l.self-inside.table.entries ≡ map (with_value (moved_number l.last l.at)) (take l.number l.fn.self)
    ++ drop l.number l.fn.self
