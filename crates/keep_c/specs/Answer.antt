-- What the calls answer: what the program answers to the same words and the same document, by the same definitions.
use Rattle.std.specs.Prelude.{◌≡◌, ◌<◌, ◌⊎◌, ◌++◌, ◌==◌, if◌then◌else◌, ⊤, ℕ, List, [], ◌∷◌, drop, length, IsUtf8}
use Rattle.std.specs.Prelude.{Result, String, string_bytes, MatchResult}
use Rattle.std.specs.Global.{Global}
use Rattle.keep_types.specs.declared.leaf.Profile.{Profile}
use Rattle.keep_types.specs.declared.leaf.Profile.TheVariants.{Strict, Wide}
use Rattle.keep_edit.specs.Reading.{ProfiledText}
use Rattle.keep_args.specs.declared.subcommand.Ask.{Ask}
use Rattle.keep_commands.specs.declared.command.Command.{Command}
use Rattle.keep_commands.specs.declared.fault.RunFault.{RunFault}
use Rattle.keep_commands.specs.declared.fault.RunFault.TheVariants as run
use Rattle.keep_commands.specs.Answer.{IsRefusal, IsText}
use Rattle.keep_cli.specs.declared.fault.UseFault.{UseFault}
use Rattle.keep_cli.specs.declared.fault.UseFault.TheVariants as use_fault
use Rattle.keep_cli.specs.Uses.{IsCommand, IsWordFault}
use Rattle.keep_c.specs.declared.fault.Fault.{Fault}
use Rattle.keep_c.specs.declared.fault.Fault.TheVariants as fault
use Rattle.keep_c.specs.declared.numbers.KeepTomlFault.{KeepTomlFault}
use Rattle.keep_c.specs.Numbers.{no_fault, no_memory, no_room, no_text, run_numbers, use_numbers}

-- 0 is Strict, any other number Wide
abbrev pub profile_named : ℕ → Profile
profile_named number = if number == 0 then Strict else Wide

-- ---- the answer

-- The words ask the subcommand for a command, and the text is the answer to it and the document. Values are read by the
-- document's profile.
abbrev pub IsRight : Ask → List (List ℕ) → ProfiledText → List ℕ → Type 0
IsRight ask words input out = (c : Command) × IsCommand input.profile ask words c × IsText c input out

-- one of the words is no text
abbrev pub HasNoText : List (List ℕ) → Type 0
HasNoText [] = ⊥
HasNoText (word ∷ words) = (IsUtf8 word → ⊥) ⊎ HasNoText words

-- The call fails by this fault: a word is no text; or it is the first that can't be read; or the command is refused so.
abbrev pub IsFault : Ask → List (List ℕ) → ProfiledText → Fault → Type 0
IsFault ask words input fault.NotText = HasNoText words
IsFault ask words input (fault.Use f) = IsWordFault input.profile ask words f
IsFault ask words input (fault.Run f) = (c : Command) × IsCommand input.profile ask words c × IsRefusal c input f
IsFault ask words input fault.Memory = ⊤

-- a right text, or a fault of the call; out of memory may always be answered
abbrev pub Answers : Ask → List (List ℕ) → ProfiledText → Result (String Global) Fault → Type 0
Answers ask words input result =
    MatchResult result (λ text. IsRight ask words input (string_bytes text)) (IsFault ask words input)

-- ---- faults

abbrev pub IsNoWord : List ℕ → Fault → Type 0
IsNoWord word fault.NotText = IsUtf8 word → ⊥
IsNoWord word fault.Memory = ⊤
IsNoWord word _ = ⊥

abbrev pub of_use : UseFault → Fault
of_use use_fault.Memory = fault.Memory
of_use f = fault.Use f

abbrev pub of_run : RunFault → Fault
of_run run.Memory = fault.Memory
of_run f = fault.Run f

-- the statuses, as the program ends with them
abbrev pub status_of : Fault → ℕ
status_of fault.NotText = 2
status_of (fault.Use f) = 2
status_of (fault.Run f) = 1
status_of fault.Memory = 4

abbrev pub numbers_of : Fault → KeepTomlFault
numbers_of fault.NotText = no_text
numbers_of (fault.Use f) = use_numbers f
numbers_of (fault.Run f) = run_numbers f
numbers_of fault.Memory = no_memory

-- ---- the buffer

-- the buffer begins with a right text of that size, and goes on as it was
abbrev pub IsWritten : Ask → List (List ℕ) → ProfiledText → List ℕ → List ℕ → ℕ → Type 0
IsWritten ask words input old new size =
    (out : List ℕ) × IsRight ask words input out × (size ≡ length out) × (new ≡ out ++ drop size old)

-- a right text of that size has no room in the buffer, which is as it was
abbrev pub HasNoRoom : Ask → List (List ℕ) → ProfiledText → List ℕ → List ℕ → ℕ → Type 0
HasNoRoom ask words input old new size =
    (out : List ℕ) × IsRight ask words input out × (size ≡ length out) × (length old < size) × (new ≡ old)

-- Some text of that size is put into the buffer, or the buffer is as it was. (Which text is not said here.)
abbrev pub HasReason : List ℕ → List ℕ → ℕ → Type 0
HasReason old new size =
    (text : List ℕ) × (size ≡ length text) × ((new ≡ text ++ drop size old) ⊎ (new ≡ old))

-- a reason, or the buffer as it was where memory was refused
abbrev pub IsReported : Fault → List ℕ → List ℕ → ℕ → Type 0
IsReported fault.Memory old new size = (new ≡ old) × (size ≡ 0)
IsReported _ old new size = HasReason old new size

-- there is a fault of that status, and these are its numbers
abbrev pub Fails : Ask → List (List ℕ) → ProfiledText → List ℕ → List ℕ → ℕ → KeepTomlFault → ℕ → Type 0
Fails ask words input old new size numbers status = (f : Fault) × IsFault ask words input f
    × (status ≡ status_of f) × (numbers ≡ numbers_of f) × IsReported f old new size

-- status 0: done; 3: no room; else a fault
abbrev pub IsAnswer : Ask → List (List ℕ) → ProfiledText → List ℕ → List ℕ → ℕ → KeepTomlFault → ℕ → Type 0
IsAnswer ask words input old new size numbers status =
    ((status ≡ 0) × (numbers ≡ no_fault) × IsWritten ask words input old new size)
    ⊎ (((status ≡ 3) × (numbers ≡ no_room) × HasNoRoom ask words input old new size)
    ⊎ Fails ask words input old new size numbers status)
