-- How numbers are moved where the value of a node gives place to another.
use Rattle.std.specs.Prelude.{suc}
use Rattle.keep_types.specs.declared.node.NodeInfo.{NodeInfo}
use Rattle.keep_path.specs.NodesBelow.{key_of, value_of}
use Rattle.keep_index_store.specs.declared.shift.NumberShifts.{NumberShifts}
use Rattle.keep_index_store.specs.declared.shift.Totals.{Totals}

-- those in the new value, which alone has values from 1 on, and key parts from 0 on
abbrev pub shifts_inside : NodeInfo → NumberShifts
shifts_inside own = record {
  values = record { from = 0; old = 0; new = value_of own };
  keys = record { from = 0; old = 0; new = suc (key_of own) };
}

-- those beside it: what comes after the value has other numbers
abbrev pub shifts_beside : NodeInfo → Totals → Totals → NumberShifts
shifts_beside own old new = record {
  values = record { from = suc (value_of own); old = old.values; new = new.values };
  keys = record { from = suc (key_of own); old = old.keys; new = new.keys };
}
