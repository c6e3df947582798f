use Rattle.std.proofs.Common.{◌∙◌, ap}
use Rattle.std.specs.List.{remove}
use Rattle.keep_index_store.proofs.key_map.KeyMap.remove.Goals as goal

pub returns : goal.returns
returns c = c.shift_remove_index.ensures.entries ∙ ap (λ es. remove es c.args.number) c.self.view_is
