use Rattle.std.proofs.Common.{◌≡◌, map, take}
use Rattle.std.specs.Prelude.{string_bytes}
use Rattle.keep_index_store.specs.KeysBelow.{last_table, with_tables_below}
use Rattle.keep_index_store.proofs.nodes.Nodes.add_each.Given as goal

-- the tables of the keys so far have come
abbrev pub invariant-loop-i : goal.invariant-loop-i
invariant-loop-i l =
    (l.self.items ≡ with_tables_below l.fn.self.items l.parent l.facts.through (map string_bytes (take l.i l.leading)))
    × (l.at ≡ last_table l.fn.self.items l.parent l.facts.through (map string_bytes (take l.i l.leading)))
