-- The entries before this one have their new numbers.
use Rattle.std.proofs.Common.{◌≡◌, ◌++◌, map, take, drop}
use Rattle.keep_index_store.specs.Below.{shifted_by}
use Rattle.keep_index_store.proofs.MovedKeyLemmas.{with_value}
use Rattle.keep_index_store.proofs.key_map.KeyMap.shift.Given as goal

abbrev pub invariant-loop-number : goal.invariant-loop-number
invariant-loop-number l =
    l.self-inside.table.entries
    ≡ map (with_value (shifted_by l.by)) (take l.number l.fn.self) ++ drop l.number l.fn.self
