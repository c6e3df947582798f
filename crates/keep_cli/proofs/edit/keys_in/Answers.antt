use Rattle.std.proofs.Common.{◌∙◌, ap, ◌++◌, ◌∷◌, subst, List, map}
use Rattle.keep_path.specs.Path.{Part}
use Rattle.keep_path.specs.PathText.{AreKeys}
use Rattle.keep_path.specs.Step.{part_of}
use Rattle.keep_edit.specs.Headers.{key_texts}
use Rattle.keep_cli.proofs.KeyLaws.{as_path, index_there}
use Rattle.keep_cli.proofs.edit.keys_in.Goals as goal

pub returns-in_default : goal.returns-in_default
returns-in_default c =
    let keys = key_texts c.loop-step.keys.items in
    let rest : List Part = map part_of c.next.new.self.rest.items in
    λ are. index_there keys c.in_default.field-0 rest
    (subst AreKeys
    (c.loop-step.invariant.2
    ∙ ap (λ steps. as_path keys ++ map part_of steps) c.in-Some.ensures.steps.0
    ∙ ap (λ step. as_path keys ++ part_of step ∷ rest) c.in_default.is) are)
