-- The profile of a command's values.
use Rattle.std.specs.Prelude.{⊤, List, [], ◌∷◌}
use Rattle.keep_types.specs.declared.leaf.Profile.TheVariants.{Strict}
use Rattle.keep_edit.specs.Reading.{IsAcceptedValue}
use Rattle.keep_edit_plan.specs.declared.edit.Edit.{Edit}
use Rattle.keep_edit_plan.specs.declared.edit.Edit.TheVariants as edit
use Rattle.keep_commands.specs.declared.command.Command.{Command}
use Rattle.keep_commands.specs.declared.command.Command.TheVariants as command

-- the edit gives no value but of Strict's grammar
abbrev pub IsStrictEdit : Edit → Type 0
IsStrictEdit (edit.Set path value) = IsAcceptedValue Strict value
IsStrictEdit (edit.Insert path value) = IsAcceptedValue Strict value
IsStrictEdit _ = ⊤

abbrev pub AreStrict : List Edit → Type 0
AreStrict [] = ⊤
AreStrict (e ∷ es) = IsStrictEdit e × AreStrict es

-- Its values are of the profile that it reads the document in. (Wide has all values.)
abbrev pub HasOwnValues : Command → Type 0
HasOwnValues (command.Apply edits) = AreStrict edits.items
HasOwnValues _ = ⊤
