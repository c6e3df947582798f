use Rattle.std.proofs.Common.{◌∙◌, [], ap, arith, length}
use Rattle.keep_index_store.specs.Moved.{with_last_at}
use Rattle.keep_index_store.proofs.MovedKeyLemmas.{moved_index}
use Rattle.keep_index_store.proofs.key_map.KeyMap.move_last.Goals as goal

pub returns : goal.returns
returns c =
    c.move_index.ensures.entries
    ∙ moved_index ([], 0) c.self.inside.table.entries _ c.args.to (omega (arith, c.len-last.ensures.len))
    (omega (arith, c.requires, ap length c.self.view_is))
    ∙ ap (λ es. with_last_at ([], 0) es c.args.to) c.self.view_is
