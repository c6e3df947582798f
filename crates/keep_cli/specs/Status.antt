-- Why the words ask for nothing, and the exit statuses.
use Rattle.std.specs.Prelude.{ℕ}
use Rattle.keep_cli.specs.declared.edit.WordFault.{WordFault}
use Rattle.keep_cli.specs.declared.edit.WordFault.TheVariants as word_fault
use Rattle.keep_cli.specs.declared.fault.UseFault.{UseFault}
use Rattle.keep_cli.specs.declared.fault.UseFault.TheVariants as use_fault
use Rattle.keep_args.specs.declared.fault.ChoiceFault.{ChoiceFault}
use Rattle.keep_args.specs.declared.fault.ChoiceFault.TheVariants as choice_fault

-- words that choose no subcommand ask for nothing
abbrev pub use_fault_of : ChoiceFault → UseFault
use_fault_of (choice_fault.Words error) = use_fault.Words error
use_fault_of choice_fault.Memory = use_fault.Memory

-- a word that can't be read is reported as it is
abbrev pub of_word : WordFault → UseFault
of_word (word_fault.Path at) = use_fault.Path at
of_word (word_fault.Value fault) = use_fault.Value fault
of_word word_fault.Memory = use_fault.Memory

abbrev pub use_status : UseFault → ℕ
use_status (use_fault.Words error) = 2
use_status (use_fault.Path at) = 2
use_status (use_fault.Value fault) = 2
use_status (use_fault.Script fault) = 2
use_status use_fault.Shape = 2
use_status (use_fault.Entry index why) = 2
use_status use_fault.Memory = 4
