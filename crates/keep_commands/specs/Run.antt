-- What reading to the end and writing all come to.
use Rattle.std.specs.Prelude.{◌≡◌, ◌<◌, ⊤, ℕ, Bool, true, false, List, length, take, Option, IfSome, None, Some, ◌≤◌}
use Rattle.std.specs.Prelude.{◌+◌, Result, Ok, Err, Vec}
use Rattle.std.specs.Io.KnownBytes.{Appends, Consumes, IsAtEnd, Keeps}
use Rattle.keep_edit.specs.Reading.{text_in}
use Rattle.keep_commands.specs.Answer.{IsRefusal, IsText, profile_of}
use Rattle.keep_commands.specs.declared.command.Command.{Command}
use Rattle.keep_commands.specs.declared.fault.RunFault.{RunFault}
use Rattle.keep_commands.specs.declared.fault.RunFault.TheVariants.{Read, TooLong, Write, Memory}
use Rattle.keep_commands.specs.declared.run.TheConstants.{LONGEST_INPUT}

-- The program answers inputs of at most so many bytes, and reads of no input more than one byte more.
abbrev pub IsWithinLimit : List ℕ → Type 0
IsWithinLimit bytes = length bytes ≤ LONGEST_INPUT

abbrev pub IsTooLong : List ℕ → Type 0
IsTooLong bytes = LONGEST_INPUT < length bytes

-- at most so many known bytes went
abbrev pub LosesAtMost : ℕ → Option (List ℕ) → Option (List ℕ) → Type 0
LosesAtMost most None new = ⊤
LosesAtMost most (Some xs) None = ⊥
LosesAtMost most (Some xs) (Some ys) = length xs ≤ length ys + most

-- These bytes were read: they are within the limit, and are those that the reader states, if it states them.
abbrev pub IsInput : Option (List ℕ) → List ℕ → Type 0
IsInput stated bytes = IsWithinLimit bytes × IfSome stated (λ known. bytes ≡ known)

-- why reading stopped, where the input held these bytes and has failed or not
abbrev pub StopsReading : Option (List ℕ) → RunFault → Bool → Type 0
StopsReading input Read failed = failed ≡ true
StopsReading input TooLong failed = (failed ≡ false) × IfSome input IsTooLong
StopsReading input Memory failed = failed ≡ false
StopsReading input _ failed = ⊥

module _ {Z : Type 0} where
  -- all bytes of the input, which are within the limit, or why not
  abbrev pub ReadsAll : Option (List ℕ) → Result (Vec ℕ Z) RunFault → Bool → Type 0
  ReadsAll input (Ok bytes) failed = (failed ≡ false) × IsInput input bytes.items
  ReadsAll input (Err fault) failed = StopsReading input fault failed

  -- all bytes of the input, or so many that it has first, with the rest of it; or why not
  abbrev pub ReadsUpTo : ℕ → Option (List ℕ) → Option (List ℕ) → Result (Vec ℕ Z) RunFault → Bool → Type 0
  ReadsUpTo most input rest (Ok bytes) failed =
      (failed ≡ false) × (length bytes.items ≤ most) × Consumes input rest bytes.items
      × (length bytes.items < most → IsAtEnd rest)
  ReadsUpTo most input rest (Err fault) failed = StopsReading input fault failed × LosesAtMost most input rest

-- the fault is one of writing
abbrev pub is_write : RunFault → Type 0
is_write (Write written) = ⊤
is_write _ = ⊥

-- an answer is written, and is of this length
abbrev pub WritesAnswer : Command → List ℕ → Option (List ℕ) → Option (List ℕ) → ℕ → Type 0
WritesAnswer command bytes old new written =
    (text : List ℕ) × IsText command (text_in (profile_of command) bytes) text × (written ≡ length text)
    × Appends old new text

-- the first bytes of an answer are written, and not all
abbrev pub WritesPrefix : Command → List ℕ → Option (List ℕ) → Option (List ℕ) → ℕ → Type 0
WritesPrefix command bytes old new written =
    (text : List ℕ) × IsText command (text_in (profile_of command) bytes) text × (written < length text)
    × Appends old new (take written text)

-- The answer to the command and the bytes that were read is written. Some bytes were read, whatever the reader states.
abbrev pub HasWritten : Command → Option (List ℕ) → Option (List ℕ) → Option (List ℕ) → ℕ → Type 0
HasWritten command input old new written =
    (bytes : List ℕ) × IsInput input bytes × WritesAnswer command bytes old new written

-- Nothing is written but by a fault of writing, which leaves the first bytes of the answer. Faults of the document, of
-- an edit and of writing are about the bytes that were read: too long an input is reported before it is looked at.
abbrev pub StopsRun : Command → Option (List ℕ) → Option (List ℕ) → Option (List ℕ) → RunFault → Type 0
StopsRun command input old new Read = Keeps old new
StopsRun command input old new TooLong = Keeps old new × IfSome input IsTooLong
StopsRun command input old new (Write written) =
    (bytes : List ℕ) × IsInput input bytes × WritesPrefix command bytes old new written
StopsRun command input old new Memory = Keeps old new
StopsRun command input old new fault =
    Keeps old new × ((bytes : List ℕ) × IsInput input bytes
    × IsRefusal command (text_in (profile_of command) bytes) fault)
