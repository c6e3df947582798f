-- The parent links, where the numbers of parents are moved, and some links give place to others.
--
-- Theorems: `links_replaced`: the links with moved parents, where a run of them then gives place to the others, are
-- `replaced_links`; `replaced_fit`: these fit into 32 bits.
use Rattle.std.proofs.Common.{◌≡◌, ℕ, suc, ◌+◌, ◌<◌, All, List, ◌∷◌, ◌++◌, length, get_or, set, take, drop, map}
use Rattle.std.proofs.Common.{sym, ◌∙◌, ap, subst, arith}
use Rattle.std.proofs.lemmas.List.{drop-map, get_or-map, length-map, map-set}
use Rattle.std.proofs.lemmas.List.Elements.{All-append, All-cons, All-drop, All-map, All-take, All-weaker}
use Rattle.keep_path.specs.NodesBelow.{spliced}
use Rattle.keep_index_store.specs.declared.links.PackedLink.{PackedLink}
use Rattle.keep_index_store.specs.declared.links.ParentLink.{ParentLink}
use Rattle.keep_index_store.specs.declared.shift.Shift.{Shift}
use Rattle.keep_index_store.specs.Below.{shift_inside}
use Rattle.keep_index_store.specs.Links.{FitsIn32Bits, link_of}
use Rattle.keep_index_store.specs.Replacing.{CanShiftLink, link_at, replaced_links, shifted_link}
use Rattle.keep_index_store.proofs.MovedLinkLemmas.{link_same}
use Rattle.keep_index_store.proofs.SplicedLemmas.{map-spliced, set_first}

pub seen_each : (P : ParentLink → Type 0) (packed : List PackedLink) → All P (map link_of packed)
    → All (λ h. P (link_of h)) packed
seen_each P packed each k d low =
    subst P (get_or-map link_of packed k d (link_of d) low)
    (each k (link_of d) (omega (arith, low, length-map packed link_of)))

-- a loop that moves the number of each parent, at this link
pub can_here : (by : Shift) (old links : List PackedLink) (i : ℕ) (d : PackedLink)
    → All (λ h. CanShiftLink by (link_of h)) old → drop i links ≡ drop i old → i < length old
    → CanShiftLink by (link_of (get_or links i d))
can_here by old links i d can same low =
    subst (λ (h : PackedLink). CanShiftLink by (link_of h)) (sym (link_same old links i d same)) (can i d low)

-- ---- the links, where some give place to others

shifted_fit : (by : Shift) (links : List ParentLink) → All (CanShiftLink by) links
    → All FitsIn32Bits (map (shifted_link by) links)
shifted_fit by links can =
    All-map FitsIn32Bits (shifted_link by) links
    (All-weaker (CanShiftLink by) (λ h. FitsIn32Bits (shifted_link by h)) (λ h each. each.1) links can)

pub replaced_fit : (beside : Shift) (id gone : ℕ) (links inside : List ParentLink) → id < length links
    → All (CanShiftLink beside) links → All (CanShiftLink (shift_inside id)) inside
    → All FitsIn32Bits (replaced_links beside id gone links inside)
replaced_fit beside id gone links inside low can can_inside =
    let hs : List ParentLink = map (shifted_link beside) links in
    let fit : All FitsIn32Bits hs = shifted_fit beside links can in
    let own : ParentLink = link_at hs id in
    let below : List ParentLink = map (shifted_link (shift_inside id)) (drop 1 inside) in
    let new : All FitsIn32Bits (own ∷ below) =
    All-cons FitsIn32Bits own below
    (fit id (record { parent = 0; number = 0 }) (omega (arith, low, length-map links (shifted_link beside))))
    (shifted_fit (shift_inside id) (drop 1 inside) (All-drop (CanShiftLink (shift_inside id)) 1 inside can_inside)) in
    All-append FitsIn32Bits (take id hs) ((own ∷ below) ++ drop (id + suc gone) hs) (All-take FitsIn32Bits id hs fit)
    (All-append FitsIn32Bits (own ∷ below) (drop (id + suc gone) hs) new
    (All-drop FitsIn32Bits (id + suc gone) hs fit))

module _ (beside : Shift) (id gone : ℕ) (links inside links' inside' : List PackedLink)
    (by : map link_of links' ≡ map (shifted_link beside) (map link_of links))
    (by_inside : map link_of inside' ≡ map (shifted_link (shift_inside id)) (map link_of inside))
    (low : id < length links) (some : 0 < length inside) where
  abbrev hs : List ParentLink
  hs = map (shifted_link beside) (map link_of links)

  abbrev below : List ParentLink
  below = map (shifted_link (shift_inside id)) (drop 1 (map link_of inside))

  pub links_replaced : (result : List PackedLink) (x : PackedLink) → x ≡ get_or links' id x
      → result ≡ spliced id (suc gone) (set inside' 0 x) links'
      → map link_of result ≡ replaced_links beside id gone (map link_of links) (map link_of inside)
  links_replaced result x own is =
      let d : ParentLink = record { parent = 0; number = 0 } in
      let few : id < length links' =
      omega (
        arith,
        low,
        length-map links' link_of,
        length-map links link_of,
        ap length by,
        length-map (map link_of links) (shifted_link beside),
      ) in
      let first : link_of x ≡ link_at hs id =
      ap link_of own ∙ sym (get_or-map link_of links' id x d few) ∙ ap (λ ls. get_or ls id d) by in
      let some' : 0 < length (map link_of inside) = omega (arith, some, length-map inside link_of) in
      let new : map link_of (set inside' 0 x) ≡ link_at hs id ∷ below =
      map-set link_of inside' 0 x ∙ ap (λ ls. set ls 0 (link_of x)) by_inside
      ∙ set_first (map (shifted_link (shift_inside id)) (map link_of inside)) (link_of x)
      (omega (arith, some', length-map (map link_of inside) (shifted_link (shift_inside id))))
      ∙ ap (λ (ls : List ParentLink). link_of x ∷ ls) (drop-map (shifted_link (shift_inside id)) 1 (map link_of inside))
      ∙ ap (λ (h : ParentLink). h ∷ below) first in
      ap (map link_of) is ∙ map-spliced link_of id (suc gone) (set inside' 0 x) links'
      ∙ ap (λ ls. spliced id (suc gone) ls (map link_of links')) new
      ∙ ap (λ ls. spliced id (suc gone) (link_at hs id ∷ below) ls) by
