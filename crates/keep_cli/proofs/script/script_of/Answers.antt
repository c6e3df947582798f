use Rattle.std.proofs.Common.{◌∙◌, ap}
use Rattle.keep_types.specs.declared.leaf.Profile.TheVariants.{Strict}
use Rattle.keep_edit.specs.Reading.{text_in}
use Rattle.keep_cli.proofs.ScriptLaws.{script_stated}
use Rattle.keep_cli.proofs.script.script_of.Goals as goal

pub returns : goal.returns
returns c =
    script_stated c.args.profile c.args.text.now _ c.edits_of.result
    (c.in-Ok.ensures.text ∙ ap (λ bytes. text_in Strict bytes) c.as_bytes.ensures.value) c.in-Ok.ensures.accepted
    c.edits_of.ensures
