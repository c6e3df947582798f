-- An element that is not there has no op.
use Rattle.std.proofs.Common.{Option, inr, refl, subst}
use Rattle.keep_edit.specs.NodeRefs.{FindsItem}
use Rattle.keep_edit.specs.declared.nodes.NodeRef.{NodeRef}
use Rattle.keep_cli.specs.Script.{edit_path}
use Rattle.keep_cli.proofs.ScriptLaws.{no_element}
use Rattle.keep_cli.proofs.script.entry_of.Goals as goal

pub returns-in_default : goal.returns-in_default
returns-in_default c = λ s at.
    inr (
      refl,
      no_element s c.args.index
          (subst (λ (o : Option NodeRef). FindsItem s edit_path c.args.index o) c.in_default.is
          (c.item.ensures s edit_path at)),
    )
