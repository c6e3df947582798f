use Rattle.std.proofs.Common.{◌≡◌, ◌<◌, ◌∷◌, ◌++◌, [], ◌∙◌, ap, arith, bytes_eq, length, set, sym}
use Rattle.std.specs.Map.{lookup}
use Rattle.indexmap.proofs.CallerLemmas.{insert_entry-new}
use Rattle.keep_index_store.proofs.KeyMapLemmas.{key_set_at, swapped}
use Rattle.keep_index_store.proofs.key_map.KeyMap.set_key.Goals as goal

pub returns-clause-ok : goal.returns-clause-ok
returns-clause-ok c =
    let keys = c.self.inside.table in
    let key = c.args.key in
    let number = c.args.number in
    let child = c.in-Some.node in
    let view = c.self.view_is in
    let low : number < length keys.entries = omega (arith, c.requires.within, ap length view) in
    let longer : c.insert.new.self.entries ≡ keys.entries ++ (key, child) ∷ [] =
    c.in_ok-insert.ensures.entries
    ∙ insert_entry-new bytes_eq keys key child (ap (lookup (bytes_eq key)) view ∙ c.requires.fresh) in
    swapped keys.entries c.insert.new.self.entries c.swap_remove_index.new.self.entries (key, child) number
    c.swap_remove_index.result longer low c.swap_remove_index.ensures.entry c.swap_remove_index.ensures.entries
    ∙ ap (λ es. set es number (key, child)) view
    ∙ key_set_at c.args.self.now number key child (sym c.child_at.ensures ∙ c.in-Some.is)
