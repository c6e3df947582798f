-- The exit statuses of a run.
use Rattle.std.specs.Prelude.{◌≡◌, ◌⊎◌, ℕ, Result, Ok, Err}
use Rattle.keep_commands.specs.declared.fault.RunFault.{RunFault}
use Rattle.keep_commands.specs.declared.fault.RunFault.TheVariants as run
use Rattle.keep_commands.specs.declared.run.Done.{Done}

abbrev pub run_status : RunFault → ℕ
run_status (run.Document fault) = 1
run_status (run.Edit index fault) = 1
run_status run.Read = 3
run_status run.TooLong = 3
run_status (run.Write written) = 3
run_status run.Memory = 4

-- of what came of a run: 0 if it is done, else that of its fault
abbrev pub exit_status : Result Done RunFault → ℕ
exit_status (Ok done) = 0
exit_status (Err fault) = run_status fault

-- What came of a run once its output is flushed: if that is refused, it is a refused write, after all bytes.
abbrev pub IsFlushed : Result Done RunFault → Result Done RunFault → Type 0
IsFlushed (Err fault) after = after ≡ Err fault
IsFlushed (Ok done) after = (after ≡ Ok done) ⊎ (after ≡ Err (run.Write done.written))
