-- The one number changes, and then the other.
use Rattle.std.proofs.Common.{◌∙◌, ap, map}
use Rattle.std.proofs.lemmas.Simd.{map-map}
use Rattle.keep_index_store.specs.Links.{link_of}
use Rattle.keep_index_store.specs.Moved.{reordered_link, with_later_parent}
use Rattle.keep_index_store.proofs.MovedLinkLemmas.{parents_stay}
use Rattle.keep_index_store.proofs.links.renumber.Goals as goal

pub renumber_parents-requires : goal.renumber_parents-requires
renumber_parents-requires c k d h =
    parents_stay c.args.place c.args.links.now c.reorder_siblings.new.links c.reorder_siblings.ensures
    (λ j e low. (c.requires.grows j e low).0) k d h

pub returns : goal.returns
returns c =
    c.renumber_parents.ensures ∙ ap (map (with_later_parent c.args.place.at)) c.reorder_siblings.ensures
    ∙ map-map (with_later_parent c.args.place.at) (reordered_link c.args.place) (map link_of c.args.links.now)
