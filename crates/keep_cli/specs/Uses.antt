-- What the words of the command line come to.
use Rattle.std.specs.Prelude.{◌≡◌, ⊤, ℕ, List, [], ◌∷◌, Option, Some, None}
use Rattle.keep_types.specs.declared.leaf.Profile.{Profile}
use Rattle.keep_types.specs.declared.leaf.Profile.TheVariants.{Strict, Wide}
use Rattle.keep_path.specs.PathText.{IsPathText}
use Rattle.keep_edit_plan.specs.declared.edit.Edit.{Edit}
use Rattle.keep_args.specs.declared.subcommand.Ask.{Ask}
use Rattle.keep_args.specs.declared.subcommand.Ask.TheVariants as ask
use Rattle.keep_args.specs.Table.{words_of}
use Rattle.keep_args.specs.Wanted.{Wanted}
use Rattle.keep_commands.specs.declared.command.Command.{Command}
use Rattle.keep_commands.specs.declared.command.Command.TheVariants as command
use Rattle.keep_cli.specs.declared.edit.WordFault.{WordFault}
use Rattle.keep_cli.specs.declared.fault.UseFault.{UseFault}
use Rattle.keep_cli.specs.declared.fault.UseFault.TheVariants as fault
use Rattle.keep_cli.specs.EditWords.{IsFirstUnreadable, Makes}
use Rattle.keep_cli.specs.Script.{IsScript, IsScriptFault}
use Rattle.keep_cli.specs.Status.{of_word}

-- one edit, and it is so
abbrev pub IsOne : (Edit → Type 0) → List Edit → Type 0
IsOne is (e ∷ []) = is e
IsOne is _ = ⊥

-- the command is what a subcommand asks with these words, of which a value is read by the profile
abbrev pub IsCommand : Profile → Ask → List (List ℕ) → Command → Type 0
IsCommand profile ask.Check [] command.Check = ⊤
IsCommand profile ask.CheckWide [] command.CheckWide = ⊤
IsCommand profile ask.List [] command.List = ⊤
IsCommand profile ask.Get (path ∷ []) (command.Get p) = IsPathText path p
IsCommand profile ask.Text (path ∷ []) (command.Text p) = IsPathText path p
IsCommand profile (ask.Edit o) words (command.Apply edits) = IsOne (Makes profile o words) edits.items
IsCommand profile ask.Apply (script ∷ []) (command.Apply edits) = IsScript Strict script edits.items
IsCommand profile ask.ApplyWide (script ∷ []) (command.ApplyWide edits) = IsScript Wide script edits.items
IsCommand profile _ _ _ = ⊥

-- the first word, from the left, that can't be read as what it is
abbrev pub IsWordFault : Profile → Ask → List (List ℕ) → UseFault → Type 0
IsWordFault profile ask.Apply (script ∷ []) f = IsScriptFault Strict script f
IsWordFault profile ask.ApplyWide (script ∷ []) f = IsScriptFault Wide script f
IsWordFault profile asked words f =
    (w : WordFault) × IsFirstUnreadable profile (words_of asked) words w × (f ≡ of_word w)

-- the words ask the program for this command: it reads values by Strict
abbrev pub Asks : Option Wanted → Command → Type 0
Asks None c = ⊥
Asks (Some wanted) c = IsCommand Strict wanted.row.ask wanted.words c

-- the words ask for nothing, or one of them can't be read
abbrev pub IsUseFault : Option Wanted → UseFault → Type 0
IsUseFault None (fault.Words error) = ⊤
IsUseFault None _ = ⊥
IsUseFault (Some wanted) f = IsWordFault Strict wanted.row.ask wanted.words f

-- the command makes this edit alone
abbrev pub IsApplied : Edit → Command → Type 0
IsApplied e (command.Apply edits) = edits.items ≡ e ∷ []
IsApplied e _ = ⊥
