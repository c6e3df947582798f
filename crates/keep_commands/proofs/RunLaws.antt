-- What a run comes to, by the bytes that were read and the answer to them.
--
-- Theorems: `answer_stops`: where the answer is a fault and nothing is written, the run stops with it;
-- `answer_written`: else the bytes of the answer are written, or a prefix of them.
use Rattle.std.proofs.Common.{◌≡◌, ◌⊎◌, ℕ, Bool, List, take, Option, inl, inr, sym, subst, arith}
use Rattle.std.specs.Prelude.{Result, Ok, Err, MatchResult, IsErrAnd}
use Rattle.std.specs.Io.KnownBytes.{Appends, Keeps}
use Rattle.keep_edit.specs.Reading.{text_in}
use Rattle.keep_commands.specs.Answer.{IsRefusal, profile_of}
use Rattle.keep_commands.specs.Run.{HasWritten, IsInput, StopsRun}
use Rattle.keep_commands.specs.Written.{AreBytesOf, IsAnswer, WritesAll}
use Rattle.keep_commands.specs.declared.answer.Answer.{Answer}
use Rattle.keep_commands.specs.declared.command.Command.{Command}
use Rattle.keep_commands.specs.declared.fault.RunFault.{RunFault}
use Rattle.keep_commands.specs.declared.fault.RunFault.TheVariants as run
use Rattle.keep_commands.specs.declared.run.Done.{Done}

-- the answer is a fault, and nothing was written
stopped : (command : Command) (input old new : Option (List ℕ)) (bytes : List ℕ) (f : RunFault) → IsInput input bytes
    → Keeps old new
    → (f ≡ run.Memory) ⊎ IsRefusal command (text_in (profile_of command) bytes) f → StopsRun command input old new f
stopped command input old new bytes (run.Document f) is keeps (inl memory) =
    let no : run.Document f ≡ run.Memory = memory in absurd cc
stopped command input old new bytes (run.Document f) is keeps (inr refusal) = (keeps, (bytes, is, refusal))
stopped command input old new bytes (run.Edit n f) is keeps (inl memory) =
    let no : run.Edit n f ≡ run.Memory = memory in absurd cc
stopped command input old new bytes (run.Edit n f) is keeps (inr refusal) = (keeps, (bytes, is, refusal))
stopped command input old new bytes run.TooLong is keeps (inl memory) =
    let no : run.TooLong ≡ run.Memory = memory in absurd cc
stopped command input old new bytes run.TooLong is keeps (inr refusal) = absurd refusal
stopped command input old new bytes (run.Write n) is keeps (inl memory) =
    let no : run.Write n ≡ run.Memory = memory in absurd cc
stopped command input old new bytes (run.Write n) is keeps (inr refusal) = absurd refusal
stopped command input old new bytes run.Read is keeps h = keeps
stopped command input old new bytes run.Memory is keeps h = keeps

pub answer_stops : (command : Command) (input old new : Option (List ℕ)) (bytes : List ℕ) (r : Result Done RunFault)
    (f : RunFault) → IsErrAnd r (λ e. e ≡ f)
    → IsInput input bytes → Keeps old new → (f ≡ run.Memory) ⊎ IsRefusal command (text_in (profile_of command) bytes) f
    → MatchResult r (λ done. HasWritten command input old new done.written) (StopsRun command input old new)
answer_stops command input old new bytes (Ok done) f passed is keeps answer = absurd passed
answer_stops command input old new bytes (Err e) f passed is keeps answer =
    subst (StopsRun command input old new) (sym passed) (stopped command input old new bytes f is keeps answer)

-- the bytes of the answer were written, or a prefix of them
pub answer_written : (command : Command) (input old new : Option (List ℕ)) (bytes : List ℕ) (answer : Answer)
    (r : Result Done RunFault) (failed : Bool)
    → IsInput input bytes → IsAnswer command (text_in (profile_of command) bytes) answer
    → (text : List ℕ) × AreBytesOf answer text × WritesAll old new text r failed
    → MatchResult r (λ done. HasWritten command input old new done.written) (StopsRun command input old new)
answer_written command input old new bytes answer r failed is answers (text, are, written) = by r written
  where
    by : (r : Result Done RunFault) → WritesAll old new text r failed
        → MatchResult r (λ done. HasWritten command input old new done.written) (StopsRun command input old new)
    by (Ok done) all = (bytes, is, (text, answers text are, omega (arith, all.1), all.2))
    by (Err (run.Write n)) (is_failed, (m, same, less, has)) =
        let count : m ≡ n = omega (arith, same) in (
          bytes,
          is,
          (
            text,
            answers text are,
            omega (arith, same, less),
            subst (λ (k : ℕ). Appends old new (take k text)) count has,
          ),
        )
    by (Err (run.Document f)) never = absurd never
    by (Err (run.Edit n f)) never = absurd never
    by (Err run.TooLong) never = absurd never
    by (Err run.Read) never = absurd never
    by (Err run.Memory) never = absurd never
