use Rattle.keep_cli.proofs.ScriptLaws.{strict_script}
use Rattle.keep_cli.proofs.command.apply_of.Goals as goal

pub returns-clause-values : goal.returns-clause-values
returns-clause-values c = strict_script c.args.script.now c.in_ok-edits.edits.items c.in_ok-edits.ensures
