-- The other nodes are stored as they were, with their numbers moved.
use Rattle.std.proofs.Common.{refl}
use Rattle.keep_index_store.proofs.BelowTreeLemmas.{ready}
use Rattle.keep_index_store.proofs.tree.replacing.take_in.Goals as goal

pub replace_below-requires : goal.replace_below-requires
replace_below-requires c =
    ready _ _ _ _ c.requires.run c.requires.stored c.args.by.beside c.args.by.inside _
    (c.if-not-shift_numbers.ensures.shifted refl) (c.if-not-can_take_in.ensures.few refl)
    (c.if-not-can_take_in.ensures.links refl) (c.if-not-can_take_in.ensures.inside_links refl)
    (c.if-not-can_take_in.ensures.root refl) (c.if-not-can_take_in.ensures.inside_root refl)
