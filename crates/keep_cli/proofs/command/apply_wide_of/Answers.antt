use Rattle.std.proofs.Common.{◌∷◌, []}
use Rattle.keep_types.specs.declared.leaf.Profile.TheVariants.{Strict, Wide}
use Rattle.keep_args.specs.declared.subcommand.Ask.TheVariants as ask
use Rattle.keep_cli.specs.Script.{IsScriptFault}
use Rattle.keep_cli.specs.Uses.{IsCommand}
use Rattle.keep_cli.proofs.CommandLaws.{passed_up}
use Rattle.keep_cli.proofs.command.apply_wide_of.Goals as goal

pub returns-in_err-edits-clause-asked : goal.returns-in_err-edits-clause-asked
returns-in_err-edits-clause-asked c =
    passed_up (IsCommand Strict ask.ApplyWide (c.args.script.now ∷ [])) (IsScriptFault Wide c.args.script.now) _
    c.in_err-edits.field-0.0 c.from_residual.result c.from_residual.ensures.1 c.in_err-edits.ensures (λ was. was)

pub returns-clause-asked : goal.returns-clause-asked
returns-clause-asked c = c.in_ok-edits.ensures
