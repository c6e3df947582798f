-- What is written of an answer.
use Rattle.std.specs.Prelude.{◌≡◌, ◌<◌, ◌+◌, ℕ, Bool, true, false, List, length, take, Option, Result, Ok, Err}
use Rattle.std.specs.Prelude.{string_bytes}
use Rattle.std.specs.Io.KnownBytes.{Appends}
use Rattle.keep_syntax.specs.Tree.{Document}
use Rattle.keep_edit.specs.Lists.{AreMade, text_after_last}
use Rattle.keep_edit.specs.declared.lists.LastEdits.{LastEdits}
use Rattle.keep_edit.specs.Answers.{entries_of}
use Rattle.keep_edit.specs.Reading.{ProfiledText, text_in, IsTextOfTree}
use Rattle.keep_edit_plan.specs.declared.edit.Edit.{Edit}
use Rattle.keep_commands.specs.Answer.{lines_of, IsText}
use Rattle.keep_commands.specs.declared.answer.Answer.{Answer}
use Rattle.keep_commands.specs.declared.answer.Answer.TheVariants as answer
use Rattle.keep_commands.specs.declared.command.Command.{Command}
use Rattle.keep_commands.specs.declared.fault.RunFault.{RunFault}
use Rattle.keep_commands.specs.declared.fault.RunFault.TheVariants.{Write}
use Rattle.keep_commands.specs.declared.run.Done.{Done}

-- the bytes that an answer stands for
abbrev pub AreBytesOf : Answer → List ℕ → Type 0
AreBytesOf (answer.Text text) bytes = bytes ≡ string_bytes text
AreBytesOf (answer.Lines list) bytes =
    (s : Document) × IsTextOfTree list.document s × (bytes ≡ lines_of (entries_of s))
AreBytesOf (answer.Edited text) bytes = bytes ≡ text

-- they answer the command
abbrev pub IsAnswer : Command → ProfiledText → Answer → Type 0
IsAnswer command input answer = (bytes : List ℕ) → AreBytesOf answer bytes → IsText command input bytes

-- they are the text after these edits of the document
abbrev pub IsAfter : Document → List Edit → ProfiledText → Answer → Type 0
IsAfter s edits old answer =
    (bytes : List ℕ) → AreBytesOf answer bytes → AreMade s edits old (text_in old.profile bytes)

-- they are that text after the last edits of a list
abbrev pub IsTextAfterLast : List ℕ → LastEdits → Answer → Type 0
IsTextAfterLast text last answer = (bytes : List ℕ) → AreBytesOf answer bytes → bytes ≡ text_after_last text last

-- ---- how it is written

-- why writing stopped, where so many bytes were written before these
abbrev pub StopsWriting : ℕ → Option (List ℕ) → Option (List ℕ) → List ℕ → RunFault → Bool → Type 0
StopsWriting before old new bytes (Write written) failed =
    (failed ≡ true)
    × ((n : ℕ) × (written ≡ before + n) × (n < length bytes) × Appends old new (take n bytes))
StopsWriting before old new bytes _ failed = ⊥

-- All of these bytes are written after so many others, or a prefix of them.
abbrev pub WritesAfter : ℕ → Option (List ℕ) → Option (List ℕ) → List ℕ → Result Done RunFault → Bool → Type 0
WritesAfter before old new bytes (Ok done) failed =
    (failed ≡ false) × (done.written ≡ before + length bytes) × Appends old new bytes
WritesAfter before old new bytes (Err fault) failed = StopsWriting before old new bytes fault failed

-- all bytes are written, or a prefix
abbrev pub WritesAll : Option (List ℕ) → Option (List ℕ) → List ℕ → Result Done RunFault → Bool → Type 0
WritesAll old new bytes result failed = WritesAfter 0 old new bytes result failed
