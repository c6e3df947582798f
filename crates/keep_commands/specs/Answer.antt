-- What the program answers to a command and the bytes that were read.
use Rattle.std.specs.Prelude.{◌≡◌, ℕ, List, ◌++◌, codes, decimal, Ok, Err, ⊤}
use Rattle.std.specs.List.{flat_map}
use Rattle.keep_types.specs.declared.leaf.Profile.{Profile}
use Rattle.keep_types.specs.declared.leaf.Profile.TheVariants.{Strict, Wide}
use Rattle.keep_syntax.specs.declared.fault.ReadFault.{ReadFault}
use Rattle.keep_syntax.specs.declared.fault.ReadFault.TheVariants as read
use Rattle.keep_syntax.specs.Tree.{Document}
use Rattle.keep_types.specs.declared.node.Kind.{Kind}
use Rattle.keep_types.specs.declared.node.Kind.TheVariants as kind
use Rattle.keep_path.specs.PathText.{encoded_path}
use Rattle.keep_meaning.specs.ReadText.{IsReadFault}
use Rattle.keep_edit_spec.specs.declared.fault.EditFault.{EditFault}
use Rattle.keep_edit_spec.specs.declared.fault.EditFault.TheVariants as fault
use Rattle.keep_edit_spec.specs.Answers.{get, string_at}
use Rattle.keep_edit.specs.declared.document.Counts.{Counts}
use Rattle.keep_edit.specs.declared.document.Entry.{Entry}
use Rattle.keep_edit.specs.Reading.{limit, ProfiledText, IsTextOfTree, text_in}
use Rattle.keep_edit.specs.Answers.{counts_of, entries_of}
use Rattle.keep_commands.specs.declared.command.Command.{Command}
use Rattle.keep_commands.specs.declared.command.Command.TheVariants as command
use Rattle.keep_edit_plan.specs.declared.edit.Edit.{Edit}
use Rattle.keep_edit.specs.Lists.{AreMade, IsRefusedAt}
use Rattle.keep_commands.specs.declared.fault.RunFault.{RunFault}
use Rattle.keep_commands.specs.declared.fault.RunFault.TheVariants as run

-- ok tokens=T nodes=N
abbrev pub counts_line : Counts → List ℕ
counts_line counts =
    codes "ok tokens=" ++ (decimal counts.tokens ++ (codes " nodes=" ++ (decimal counts.nodes ++ codes "\n")))

-- ---- the lines of `list`

abbrev pub kind_word : Kind → List ℕ
kind_word kind.Str = codes "string"
kind_word kind.Integer = codes "integer"
kind_word kind.Float = codes "float"
kind_word kind.Boolean = codes "boolean"
kind_word kind.OffsetDateTime = codes "offset-date-time"
kind_word kind.LocalDateTime = codes "local-date-time"
kind_word kind.LocalDate = codes "local-date"
kind_word kind.LocalTime = codes "local-time"
kind_word kind.Array = codes "array"
kind_word kind.Inline = codes "inline-table"
kind_word kind.Table = codes "table"
kind_word kind.Tables = codes "array-of-tables"

-- path, tab, kind
abbrev pub entry_line : Entry → List ℕ
entry_line e = encoded_path e.path ++ (codes "\t" ++ (kind_word e.kind ++ codes "\n"))

abbrev pub lines_of : List Entry → List ℕ
lines_of entries = flat_map entry_line entries

-- ---- answers

-- the profile that the document is read in
abbrev pub profile_of : Command → Profile
profile_of command.CheckWide = Wide
profile_of (command.ApplyWide edits) = Wide
profile_of _ = Strict

-- the output answers the command
unfoldable pub IsText : Command → ProfiledText → List ℕ → Type 0
IsText command.Check input output = (s : Document) × IsTextOfTree input s × (output ≡ counts_line (counts_of s))
IsText command.CheckWide input output = (s : Document) × IsTextOfTree input s × (output ≡ counts_line (counts_of s))
IsText command.List input output = (s : Document) × IsTextOfTree input s × (output ≡ lines_of (entries_of s))
IsText (command.Get path) input output =
    (s : Document) × IsTextOfTree input s
    × ((value : List ℕ) × (get path s ≡ Ok value) × (output ≡ value ++ codes "\n"))
IsText (command.Text path) input output = (s : Document) × IsTextOfTree input s × (string_at path s ≡ Ok output)
IsText (command.Apply edits) input output =
    (s : Document) × IsTextOfTree input s × AreMade s edits.items input (text_in input.profile output)
IsText (command.ApplyWide edits) input output =
    (s : Document) × IsTextOfTree input s × AreMade s edits.items input (text_in input.profile output)

-- the bytes are a document, and the edit with this number is the first that is refused, by this fault
unfoldable pub IsEditRefusal : Command → ProfiledText → ℕ → EditFault → Type 0
IsEditRefusal command.Check input number f = ⊥
IsEditRefusal command.CheckWide input number f = ⊥
IsEditRefusal command.List input number f = ⊥
IsEditRefusal (command.Get path) input number f =
    (number ≡ 0) × ((s : Document) × IsTextOfTree input s × (get path s ≡ Err f))
IsEditRefusal (command.Text path) input number f =
    (number ≡ 0) × ((s : Document) × IsTextOfTree input s × (string_at path s ≡ Err f))
IsEditRefusal (command.Apply edits) input number f =
    (s : Document) × IsTextOfTree input s × IsRefusedAt s edits.items input.profile number f
IsEditRefusal (command.ApplyWide edits) input number f =
    (s : Document) × IsTextOfTree input s × IsRefusedAt s edits.items input.profile number f

-- the fault is the answer; that memory runs out is none
abbrev pub IsRefusal : Command → ProfiledText → RunFault → Type 0
IsRefusal c input (run.Document f) = IsReadFault input.profile limit input.text f
IsRefusal c input (run.Edit number f) = IsEditRefusal c input number f
IsRefusal c input _ = ⊥

-- ---- how faults are reported

-- the fault of the run that a fault of reading, or of the edit of a number, is
abbrev pub of_read : ReadFault → RunFault
of_read read.Memory = run.Memory
of_read (read.Utf8 at) = run.Document (read.Utf8 at)
of_read (read.Syntax at what) = run.Document (read.Syntax at what)
of_read (read.TooDeep at) = run.Document (read.TooDeep at)
of_read (read.Define at why) = run.Document (read.Define at why)

abbrev pub of_edit : ℕ → EditFault → RunFault
of_edit number fault.Memory = run.Memory
of_edit number f = run.Edit number f

-- the edits are refused so, or memory ran out
abbrev pub Refused : Profile → List Edit → Document → RunFault → Type 0
Refused profile edits s run.Memory = ⊤
Refused profile edits s (run.Edit number f) = IsRefusedAt s edits profile number f
Refused profile edits s _ = ⊥

-- the fault is that an edit gives a value which the document's profile does not have
abbrev pub IsProfileFault : RunFault → Type 0
IsProfileFault (run.Edit number fault.Profile) = ⊤
IsProfileFault _ = ⊥
