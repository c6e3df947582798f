use Rattle.std.proofs.Common.{◌∷◌, ◌++◌, [], ◌∙◌, ap, bytes_eq}
use Rattle.std.specs.Map.{lookup}
use Rattle.indexmap.proofs.CallerLemmas.{insert_entry-new}
use Rattle.keep_index_store.proofs.key_map.KeyMap.add.Goals as goal

pub returns-clause-ok : goal.returns-clause-ok
returns-clause-ok c =
    let keys = c.self.inside.table in
    let key = c.args.key in
    let child = c.args.child in
    let view = c.self.view_is in
    c.in_ok-insert.ensures.entries
    ∙ insert_entry-new bytes_eq keys key child (ap (lookup (bytes_eq key)) view ∙ c.requires)
    ∙ ap (λ es. es ++ (key, child) ∷ []) view
