use Rattle.std.proofs.Common.{◌∙◌, bytes_eq}
use Rattle.indexmap.proofs.CallerLemmas.{insert_entry-new}
use Rattle.keep_index_store.proofs.key_map.push_reserved.Goals as goal

pub returns-clause-pushed : goal.returns-clause-pushed
returns-clause-pushed c =
    c.in-Ok.ensures.entries ∙ insert_entry-new bytes_eq c.args.table.now c.args.key c.args.child c.requires.fresh
