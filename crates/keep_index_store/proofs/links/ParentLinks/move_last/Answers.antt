-- All links are packed, since all are small.
use Rattle.std.proofs.Common.{◌≡◌, ◌∙◌, List, ap, arith, length, map, subst, sym}
use Rattle.std.proofs.lemmas.List.{append-nil, length-map}
use Rattle.keep_index_store.specs.declared.links.PackedLink.{PackedLink}
use Rattle.keep_index_store.specs.declared.links.ParentLink.{ParentLink}
use Rattle.keep_index_store.specs.Links.{link_of, links_in}
use Rattle.keep_index_store.specs.Moved.{NoneComesAfter, moved_link, with_last_at}
use Rattle.keep_index_store.proofs.MovedLinkLemmas.{each_small, last_fit, none_unpacked, packed_seen, seen_fit}
use Rattle.keep_index_store.proofs.links.ParentLinks.move_last.Goals as goal

pub move_last_link-requires-clause-grows : goal.move_last_link-requires-clause-grows
move_last_link-requires-clause-grows c =
    each_small _ _ _ c.self.view_is c.self.invariant.large c.requires.small

pub move_last_link-requires-clause-last : goal.move_last_link-requires-clause-last
move_last_link-requires-clause-last c =
    let seen = packed_seen _ _ _ c.self.view_is c.self.invariant.large c.requires.small in
    subst (λ (hs : List ParentLink). NoneComesAfter c.args.place hs) (sym seen) c.requires.last

pub move_last_link-requires-clause-within : goal.move_last_link-requires-clause-within
move_last_link-requires-clause-within c =
    let packed : List PackedLink = c.self.inside.packed.items in
    let seen = packed_seen packed _ _ c.self.view_is c.self.invariant.large c.requires.small in
    omega (arith, c.requires.within, ap length seen, length-map packed link_of, c.self.inside.packed.ok.0)

-- the packed links then, as links
next : (c : goal.After-move_last_link) (none : ParentLink)
    → map link_of c.move_last_link.new.links.items
    ≡ map (moved_link c.args.place) (with_last_at none c.args.self.now c.args.place.at)
next c none =
    c.move_last_link.ensures none
    ∙ ap (λ hs. map (moved_link c.args.place) (with_last_at none hs c.args.place.at))
    (packed_seen _ _ _ c.self.view_is c.self.invariant.large c.requires.small)

pub invariant_of-self : goal.invariant_of-self
invariant_of-self c =
    let none : ParentLink = record { parent = 0; number = 0 } in record {
      fit =
          seen_fit c.move_last_link.new.links.items _ (next c none)
          (last_fit c.args.place c.args.self.now none c.requires.order c.requires.within c.requires.small);
      large = c.self.invariant.large;
    }

pub returns : goal.returns
returns c last =
    let links : List PackedLink = c.move_last_link.new.links.items in
    ap (links_in links) (none_unpacked _ _ _ c.self.view_is c.self.invariant.large c.requires.small)
    ∙ append-nil (map link_of links) ∙ next c last
