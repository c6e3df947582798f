-- The packed parent links without one of them, and under other numbers.
--
-- Theorems: `packed_seen`: where all links fit into 32 bits, all are packed; `links_removed`: the packed links are then
-- all but the one, with the other numbers; `left_fit`: these fit into 32 bits.
use Rattle.std.proofs.Common.{◌≡◌, ℕ, suc, ◌<◌, ◌^◌, All, List, [], length, take, drop, map}
use Rattle.std.proofs.Common.{sym, ◌∙◌, ap, subst, arith, cond, true, false, length-append}
use Rattle.std.specs.Prelude.{◌==◌}
use Rattle.std.specs.List.{remove}
use Rattle.std.proofs.lemmas.List.{append-nil, length-map}
use Rattle.std.proofs.lemmas.List.Elements.{All-append, All-drop, All-map, All-take, All-weaker}
use Rattle.keep_path.specs.NodeInfos.{earlier_number}
use Rattle.keep_index_store.specs.declared.links.PackedLink.{PackedLink}
use Rattle.keep_index_store.specs.declared.links.ParentLink.{ParentLink}
use Rattle.keep_index_store.specs.Links.{FitsIn32Bits, StartsLarge, link_of, links_in}
use Rattle.keep_index_store.specs.Removed.{earlier_link}
use Rattle.keep_index_store.proofs.MovedLinkLemmas.{all_packed, packed_read, seen_fit}
use Rattle.keep_index_store.proofs.RemovedListLemmas.{earlier_most, map-removed}

-- where all are packed
pub packed_fit : (packed : List PackedLink) → All (λ h. FitsIn32Bits (link_of h)) packed
    → All FitsIn32Bits (links_in packed [])
packed_fit packed fit k e h =
    let d : PackedLink = record { parent = 0; number = 0 } in
    let low : k < length packed =
    omega (arith, h, length-append (map link_of packed) [], length-map packed link_of) in
    subst FitsIn32Bits (sym (packed_read packed k d e low)) (fit k d low)

earlier_fits : (at : ℕ) (gone h : ParentLink) → FitsIn32Bits h → FitsIn32Bits (earlier_link at gone h)
earlier_fits at gone h fit = (
  omega (arith, fit.0, earlier_most at h.parent),
  elim (h.parent == gone.parent) as (λ b. cond b (earlier_number gone.number h.number) h.number < 2 ^ 32) [
    | true ↦ omega (arith, fit.1, earlier_most gone.number h.number)
    | false ↦ fit.1
  ],
)

removed_fit : (at : ℕ) (gone : ParentLink) (all : List ParentLink) → All FitsIn32Bits all
    → All FitsIn32Bits (remove (map (earlier_link at gone) all) at)
removed_fit at gone all fit =
    let f : ParentLink → ParentLink = earlier_link at gone in
    let hs : List ParentLink = map f all in
    let each : All FitsIn32Bits hs =
    All-map FitsIn32Bits f all
    (All-weaker FitsIn32Bits (λ h. FitsIn32Bits (f h)) (earlier_fits at gone) all fit) in
    All-append FitsIn32Bits (take at hs) (drop (suc at) hs)
    (All-take FitsIn32Bits at hs each) (All-drop FitsIn32Bits (suc at) hs each)

-- where all links fit into 32 bits each, all are packed
module _ (packed : List PackedLink) (unpacked all : List ParentLink) (view : links_in packed unpacked ≡ all)
    (large : StartsLarge unpacked) (small : All FitsIn32Bits all) where
  none_unpacked : unpacked ≡ []
  none_unpacked =
      all_packed packed unpacked large (subst (λ (hs : List ParentLink). All FitsIn32Bits hs) (sym view) small)

  pub packed_seen : map link_of packed ≡ all
  packed_seen = sym (append-nil (map link_of packed)) ∙ ap (links_in packed) (sym none_unpacked) ∙ view

  pub packed_count : length packed ≡ length all
  packed_count = sym (length-map packed link_of) ∙ ap length packed_seen

  -- the links renumbered, and then one gone
  module _ (at : ℕ) (gone : ParentLink) (links left : List PackedLink)
      (by : map link_of links ≡ map (earlier_link at gone) (map link_of packed)) (is : left ≡ remove links at) where
    left_seen : map link_of left ≡ remove (map (earlier_link at gone) all) at
    left_seen =
        ap (map link_of) is ∙ map-removed link_of links at
        ∙ ap (λ (hs : List ParentLink). remove hs at) (by ∙ ap (map (earlier_link at gone)) packed_seen)

    pub links_removed : links_in left unpacked ≡ remove (map (earlier_link at gone) all) at
    links_removed = ap (links_in left) none_unpacked ∙ append-nil (map link_of left) ∙ left_seen

    pub left_fit : All (λ h. FitsIn32Bits (link_of h)) left
    left_fit = seen_fit left (remove (map (earlier_link at gone) all) at) left_seen (removed_fit at gone all small)
