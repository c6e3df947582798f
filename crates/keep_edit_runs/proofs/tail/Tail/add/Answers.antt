use Rattle.std.proofs.Common.{◌++◌, ◌∙◌, ◌∷◌, [], List, None, ap, refl, sym}
use Rattle.keep_edit_runs.specs.declared.tail.Block.{Block}
use Rattle.keep_edit_runs.proofs.BlockLaws.{pushed}
use Rattle.keep_edit_runs.proofs.tail.Tail.add.Goals as goal

pub returns-then-add_outline-clause-added : goal.returns-then-add_outline-clause-added
returns-then-add_outline-clause-added c = λ yes.
    let block : Block = record { keys = c.args.keys; text = c.args.text; table = None } in
    record {
      block = block;
      keys_are = refl;
      text_is = refl;
      none = refl;
      blocks =
          pushed c.push.result c.push.new.self.items _ _ c.push.ensures.items (sym c.is_ok.ensures.value ∙ yes)
          ∙ ap (λ (l : List Block). l ++ block ∷ []) c.add_outline.ensures.blocks;
    }
