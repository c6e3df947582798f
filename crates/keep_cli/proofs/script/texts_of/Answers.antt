use Rattle.std.proofs.Common.{List, subst}
use Rattle.keep_args.specs.declared.subcommand.Word.{Word}
use Rattle.keep_cli.proofs.ScriptLaws.{texts_ok}
use Rattle.keep_cli.specs.Scripting.{AreTexts, third_key}
use Rattle.std.specs.Prelude.{IfOk}
use Rattle.keep_cli.proofs.script.texts_of.Goals as goal

pub returns : goal.returns
returns c =
    λ s n is.
    texts_ok s n c.args.op c.texts_at.result
    (subst (λ (words : List Word). IfOk c.texts_at.result (AreTexts s n (third_key words))) c.requires
    (c.texts_at.ensures s n is))
