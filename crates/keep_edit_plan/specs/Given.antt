-- Edits that are given as values.
use Rattle.std.specs.Prelude.{◌≡◌, map, string_bytes}
use Rattle.keep_syntax.specs.Tree.{Value}
use Rattle.keep_edit_spec.specs.Edits as law
use Rattle.keep_edit_plan.specs.Reading.{IsTextOfValue}
use Rattle.keep_edit_plan.specs.declared.edit.Edit.{Edit}
use Rattle.keep_edit_plan.specs.declared.edit.Edit.TheVariants.{Set, Insert, Rename, Remove, Table, Element}

-- the edit of the definitions, with the value of its text
abbrev pub IsEdit : Edit → law.Edit → Type 0
IsEdit (Set path value) e = (v : Value) × IsTextOfValue value v × (e ≡ law.set path v)
IsEdit (Insert path value) e = (v : Value) × IsTextOfValue value v × (e ≡ law.insert path v)
IsEdit (Rename path name) e = e ≡ law.rename path (string_bytes name)
IsEdit (Remove path) e = e ≡ law.remove path
IsEdit (Table keys) e = e ≡ law.append_table (map string_bytes keys.items)
IsEdit (Element keys) e = e ≡ law.append_element (map string_bytes keys.items)
