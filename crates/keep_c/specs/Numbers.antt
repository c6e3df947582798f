-- The numbers of faults, which `keep_toml.h` names.
use Rattle.std.specs.Prelude.{ℕ}
use Rattle.keep_token.specs.declared.fault.What.{What}
use Rattle.keep_token.specs.declared.fault.What.TheVariants as what
use Rattle.keep_syntax.specs.declared.fault.Why.{Why}
use Rattle.keep_syntax.specs.declared.fault.Why.TheVariants as why
use Rattle.keep_syntax.specs.declared.fault.ReadFault.{ReadFault}
use Rattle.keep_syntax.specs.declared.fault.ReadFault.TheVariants as read
use Rattle.keep_edit_spec.specs.declared.fault.EditFault.{EditFault}
use Rattle.keep_edit_spec.specs.declared.fault.EditFault.TheVariants as edit
use Rattle.keep_commands.specs.declared.fault.RunFault.{RunFault}
use Rattle.keep_commands.specs.declared.fault.RunFault.TheVariants as run
use Rattle.keep_cli.specs.declared.fault.EntryWhy.{EntryWhy}
use Rattle.keep_cli.specs.declared.fault.EntryWhy.TheVariants as entry
use Rattle.keep_cli.specs.declared.fault.UseFault.{UseFault}
use Rattle.keep_cli.specs.declared.fault.UseFault.TheVariants as use_fault
use Rattle.keep_c.specs.declared.numbers.KeepTomlFault.{KeepTomlFault}

-- the number of a place or an edit that a fault has not: the greatest of 64 bits
abbrev pub none : ℕ
none = 18446744073709551615

abbrev pub of_kind : ℕ → KeepTomlFault
of_kind kind = record { kind = kind; reason = 0; at = none; edit = none }

abbrev pub at_place : ℕ → ℕ → ℕ → KeepTomlFault
at_place kind reason at = record { kind = kind; reason = reason; at = at; edit = none }

abbrev pub in_edit : ℕ → ℕ → ℕ → KeepTomlFault
in_edit kind reason edit = record { kind = kind; reason = reason; at = none; edit = edit }

-- ---- what is at fault: 1 the document, 2 an edit, 3 a word that is no text, 4 a path, 5 a value, 6 a script

abbrev pub no_fault : KeepTomlFault
no_fault = of_kind 0

abbrev pub no_text : KeepTomlFault
no_text = of_kind 3

abbrev pub no_room : KeepTomlFault
no_room = of_kind 7

abbrev pub no_memory : KeepTomlFault
no_memory = of_kind 8

-- ---- why

abbrev pub syntax_reason : What → ℕ
syntax_reason what.KeyPart = 11
syntax_reason what.Escape = 12
syntax_reason what.Control = 13
syntax_reason what.Unclosed = 14
syntax_reason what.Integer = 15
syntax_reason what.Float = 16
syntax_reason what.DateTime = 17
syntax_reason what.Word = 18
syntax_reason what.Structure = 19

abbrev pub rule_reason : Why → ℕ
rule_reason why.NotATable = 21
rule_reason why.DefinedTwice = 22
rule_reason why.NotAnArray = 23
rule_reason why.NotByDots = 24
rule_reason why.DuplicateKey = 25

-- the rule that a new header would break
abbrev pub conflict_reason : Why → ℕ
conflict_reason why.NotATable = 41
conflict_reason why.DefinedTwice = 42
conflict_reason why.NotAnArray = 43
conflict_reason why.NotByDots = 44
conflict_reason why.DuplicateKey = 45

abbrev pub edit_reason : EditFault → ℕ
edit_reason edit.NotFound = 31
edit_reason edit.Exists = 32
edit_reason edit.NotValue = 33
edit_reason edit.NotTable = 34
edit_reason edit.NotKey = 35
edit_reason edit.Scattered = 36
edit_reason edit.TooDeep = 37
edit_reason edit.Profile = 38
edit_reason (edit.Conflict w) = conflict_reason w
edit_reason edit.Memory = 0

abbrev pub entry_reason : EntryWhy → ℕ
entry_reason entry.Op = 51
entry_reason entry.Keys = 52
entry_reason entry.Path = 53
entry_reason entry.Value = 54

-- ---- the numbers of a fault

-- why a text of this kind can't be read
abbrev pub read_numbers : ℕ → ReadFault → KeepTomlFault
read_numbers kind (read.Utf8 at) = at_place kind 1 at
read_numbers kind (read.TooDeep at) = at_place kind 2 at
read_numbers kind (read.Syntax at w) = at_place kind (syntax_reason w) at
read_numbers kind (read.Define at w) = at_place kind (rule_reason w) at
read_numbers kind read.Memory = no_memory

-- (The words of a call are as many as they have to be, so `Words` is never the fault.)
abbrev pub use_numbers : UseFault → KeepTomlFault
use_numbers (use_fault.Words error) = no_text
use_numbers (use_fault.Path at) = at_place 4 0 at
use_numbers (use_fault.Value f) = read_numbers 5 f
use_numbers (use_fault.Script f) = read_numbers 6 f
use_numbers use_fault.Shape = at_place 6 55 none
use_numbers (use_fault.Entry index w) = in_edit 6 (entry_reason w) index
use_numbers use_fault.Memory = no_memory

-- (A call neither reads a stream nor writes to one.)
abbrev pub run_numbers : RunFault → KeepTomlFault
run_numbers (run.Document f) = read_numbers 1 f
run_numbers (run.Edit index f) = in_edit 2 (edit_reason f) index
run_numbers run.Memory = no_memory
run_numbers _ = no_fault
