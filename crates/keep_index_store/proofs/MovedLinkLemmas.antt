-- The packed parent links under other numbers, and with the last one at another place.
--
-- Theorems: `links_more`: one step of a loop that gives each link other numbers; `links_moved`: the links with other
-- numbers, the last at its place; `sibling_stays`: where the last node stays the last of its siblings, their numbers
-- stay; `last_fit`: where all links are small, these fit into 32 bits each.
use Rattle.std.proofs.Common.{◌≡◌, ℕ, ◌+◌, ◌-◌, ◌<◌, ◌≤◌, ◌^◌, All, List, [], ◌∷◌, ◌++◌, length, get_or, set, take}
use Rattle.std.proofs.Common.{drop}
use Rattle.std.proofs.Common.{map, refl, sym, ◌∙◌, ap, subst, arith, Bool, cond, inl, inr, true, false, length-append}
use Rattle.std.specs.Prelude.{◌==◌}
use Rattle.std.proofs.lemmas.Bool.{cases_eq, eq-eqb, ne_eqb}
use Rattle.std.proofs.lemmas.List.{append-nil, drop-drop, drop-set-lt, get_or-append_right, get_or-drop, get_or-map}
use Rattle.std.proofs.lemmas.List.{length-map, map-set}
use Rattle.std.proofs.lemmas.List.Edits.{map_over_more}
use Rattle.std.proofs.lemmas.List.Elements.{All-append, All-cons, All-drop, All-map, All-take, All-weaker}
use Rattle.keep_index_store.specs.declared.links.NewPlace.{NewPlace}
use Rattle.keep_index_store.specs.declared.links.PackedLink.{PackedLink}
use Rattle.keep_index_store.specs.declared.links.ParentLink.{ParentLink}
use Rattle.keep_index_store.specs.Links.{FitsIn32Bits, IsSmall, StartsLarge, link_of, links_in}
use Rattle.keep_index_store.specs.Moved.{NoneComesAfter, moved_link, moved_number, reordered_link, with_last_at}
use Rattle.keep_index_store.proofs.MovedListLemmas.{later_low, later_most, map-last, moved_last, moved_most}
use Rattle.keep_index_store.proofs.MovedListLemmas.{moved_other, partly_count}

pub link_same : (old links : List PackedLink) (i : ℕ) (d : PackedLink) → drop i links ≡ drop i old
    → get_or links i d ≡ get_or old i d
link_same old links i d same =
    let here : i + 0 ≡ i = omega arith in
    ap (λ k. get_or links k d) (sym here) ∙ sym (get_or-drop i links 0 d) ∙ ap (λ ls. get_or ls 0 d) same
    ∙ get_or-drop i old 0 d ∙ ap (λ k. get_or old k d) here

-- a loop that renumbers each link
pub links_more : (f : ParentLink → ParentLink) (old links : List PackedLink) (i : ℕ) (next d : PackedLink)
    → i < length old → map link_of links ≡ map f (take i (map link_of old)) ++ drop i (map link_of old)
    → link_of next ≡ f (link_of (get_or links i d))
    → map link_of (set links i next) ≡ map f (take (i + 1) (map link_of old)) ++ drop (i + 1) (map link_of old)
links_more f old links i next d h is by =
    let x : PackedLink = get_or links i d in
    let few : i < length (map link_of old) = omega (arith, h, length-map old link_of) in
    let many = partly_count f (map link_of old) (map link_of links) i is (omega (arith, few)) in
    let low : i < length links = omega (arith, few, length-map links link_of, many) in
    map-set link_of links i next ∙ ap (set (map link_of links) i) by
    ∙ map_over_more f (map link_of old) (map link_of links) i (link_of x) few is
    (sym (get_or-map link_of links i d (link_of x) low))

pub rest_more : (old links : List PackedLink) (i : ℕ) (next : PackedLink) → drop i links ≡ drop i old
    → drop (i + 1) (set links i next) ≡ drop (i + 1) old
rest_more old links i next same =
    drop-set-lt (i + 1) links i next (omega arith) ∙ sym (drop-drop 1 i links) ∙ ap (drop 1) same ∙ drop-drop 1 i old

-- the links renumbered, and then the last moved
pub links_moved : (p : NewPlace) (old mid links : List PackedLink) (none : ParentLink) → 0 < length mid
    → map link_of mid ≡ map (moved_link p) (map link_of old)
    → ((d : PackedLink) → links ≡ with_last_at d mid p.at)
    → map link_of links ≡ map (moved_link p) (with_last_at none (map link_of old) p.at)
links_moved p old mid links none some by is =
    let d : PackedLink = record { parent = 0; number = 0 } in
    ap (map link_of) (is d) ∙ map-last link_of d (moved_link p none) mid p.at some
    ∙ ap (λ ls. with_last_at (moved_link p none) ls p.at) by
    ∙ sym (map-last (moved_link p) none (moved_link p none) (map link_of old) p.at
    (omega (arith, some, ap length by, length-map mid link_of, length-map (map link_of old) (moved_link p))))

-- ---- the numbers among siblings

-- where no child of the same node comes after it, a sibling of the last node has the number that it had
pub sibling_stays : (p : NewPlace) (hs : List ParentLink) → p.number ≡ p.before → NoneComesAfter p hs
    → (k : ℕ) (d : ParentLink) → k < length hs → ((get_or hs 0 d).parent ≡ p.above → ⊥)
    → reordered_link p (get_or hs k d) ≡ get_or hs k d
sibling_stays p hs last none k d low root =
    let h : ParentLink = get_or hs k d in
    let with_number = λ (n : ℕ). let next : ParentLink = record { parent = h.parent; number = n } in next in
    let either = λ (b : Bool). with_number (cond b (moved_number p.before p.number h.number) h.number) in
    elim (cases_eq h.parent p.above) [
      | inr far ↦ ap either (ne_eqb h.parent p.above far)
      | inl near ↦ elim (cases_eq k 0) [
        | inl first ↦ absurd (root (ap (λ j. (get_or hs j d).parent) (sym first) ∙ near))
        | inr later ↦
            let up : h.number ≤ p.before = none k d (omega (arith, later)) low near in
            let number : moved_number p.before p.number h.number ≡ h.number = elim (cases_eq h.number p.before) [
              | inl same ↦ moved_last p.before p.number h.number same ∙ last ∙ sym same
              | inr other ↦
                  moved_other p.before p.number h.number other
                  ∙ later_low p.number h.number (omega (arith, up, other, last))
            ] in
            ap either (eq-eqb h.parent p.above near) ∙ ap with_number number
      ]
    ]

-- the parents are those that they were
pub parents_stay : (p : NewPlace) (old mid : List PackedLink)
    → map link_of mid ≡ map (reordered_link p) (map link_of old) → All (λ h. h.parent < 2 ^ 32 - 1) old
    → All (λ h. h.parent < 2 ^ 32 - 1) mid
parents_stay p old mid is small k d low =
    let many : length mid ≡ length old =
    sym (length-map mid link_of) ∙ ap length is ∙ length-map (map link_of old) (reordered_link p)
    ∙ length-map old link_of in
    let low' : k < length old = omega (arith, low, many) in
    let same : (get_or mid k d).parent ≡ (get_or old k d).parent =
    ap (λ (h : ParentLink). h.parent) (sym (get_or-map link_of mid k d (link_of d) low)
    ∙ ap (λ hs. get_or hs k (link_of d)) is
    ∙ get_or-map (reordered_link p) (map link_of old) k (link_of d) (link_of d)
    (omega (arith, low', length-map old link_of))
    ∙ ap (reordered_link p) (get_or-map link_of old k d (link_of d) low')) in
    omega (arith, same, small k d low')

-- ---- small links

-- where all links fit into 32 bits each, all are packed
pub all_packed : (packed : List PackedLink) (unpacked : List ParentLink) → StartsLarge unpacked
    → All FitsIn32Bits (links_in packed unpacked) → unpacked ≡ []
all_packed packed [] large small = refl
all_packed packed (h ∷ hs) large small =
    let links : List ParentLink = map link_of packed in
    let here : length links - length links ≡ 0 = omega arith in
    let own : get_or (links ++ h ∷ hs) (length links) h ≡ h =
    get_or-append_right links (h ∷ hs) (length links) (length links) h refl (omega arith)
    ∙ ap (λ k. get_or (h ∷ hs) k h) here in
    let s = subst FitsIn32Bits own (small (length links) h (omega (arith, length-append links (h ∷ hs)))) in
    absurd (omega (arith, s.0, s.1, large))

pub packed_read : (packed : List PackedLink) (k : ℕ) (d : PackedLink) (e : ParentLink) → k < length packed
    → get_or (links_in packed []) k e ≡ link_of (get_or packed k d)
packed_read packed k d e h =
    ap (λ ls. get_or ls k e) (append-nil (map link_of packed)) ∙ get_or-map link_of packed k d e h

packed_small : (packed : List PackedLink) → All IsSmall (links_in packed []) → All (λ h. IsSmall (link_of h)) packed
packed_small packed small k d h =
    subst IsSmall (packed_read packed k d (link_of d) h)
    (small k (link_of d) (omega (arith, h, length-append (map link_of packed) [], length-map packed link_of)))

module _ (packed : List PackedLink) (unpacked all : List ParentLink) (view : links_in packed unpacked ≡ all)
    (large : StartsLarge unpacked) (small : All IsSmall all) where
  pub none_unpacked : unpacked ≡ []
  none_unpacked =
      all_packed packed unpacked large (subst (λ (hs : List ParentLink). All FitsIn32Bits hs) (sym view)
      (λ k d h. let s = small k d h in (omega (arith, s.0), omega (arith, s.1))))

  pub packed_seen : map link_of packed ≡ all
  packed_seen = sym (append-nil (map link_of packed)) ∙ ap (links_in packed) (sym none_unpacked) ∙ view

  pub each_small : All (λ h. IsSmall (link_of h)) packed
  each_small =
      packed_small packed (subst (λ (hs : List ParentLink). All IsSmall hs)
      (sym view ∙ ap (links_in packed) none_unpacked) small)

-- ---- the links then fit into 32 bits

pub seen_fit : (packed : List PackedLink) (all : List ParentLink) → map link_of packed ≡ all → All FitsIn32Bits all
    → All (λ h. FitsIn32Bits (link_of h)) packed
seen_fit packed all is fit k d h =
    subst FitsIn32Bits (ap (λ hs. get_or hs k (link_of d)) (sym is) ∙ get_or-map link_of packed k d (link_of d) h)
    (fit k (link_of d) (omega (arith, h, ap length is, length-map packed link_of)))

moved_fits : (p : NewPlace) → p.number ≤ p.before → (h : ParentLink) → IsSmall h → FitsIn32Bits (moved_link p h)
moved_fits p order h small = (
  omega (arith, small.0, later_most p.at h.parent),
  elim (h.parent == p.above) as (λ b. cond b (moved_number p.before p.number h.number) h.number < 2 ^ 32) [
    | true ↦ omega (arith, small.1, moved_most p.before p.number h.number order)
    | false ↦ omega (arith, small.1)
  ],
)

pub last_fit : (p : NewPlace) (all : List ParentLink) (none : ParentLink) → p.number ≤ p.before → p.at < length all
    → All IsSmall all → All FitsIn32Bits (map (moved_link p) (with_last_at none all p.at))
last_fit p all none order within small =
    let n : ℕ = length all - 1 in
    let front : List ParentLink = take n all in
    let each : All IsSmall front = All-take IsSmall n all small in
    let rest : All IsSmall (get_or all n none ∷ drop p.at front) =
    All-cons IsSmall (get_or all n none) (drop p.at front) (small n none (omega (arith, within)))
    (All-drop IsSmall p.at front each) in
    All-map FitsIn32Bits (moved_link p) (with_last_at none all p.at)
    (All-weaker IsSmall (λ h. FitsIn32Bits (moved_link p h)) (moved_fits p order) (with_last_at none all p.at)
    (All-append IsSmall (take p.at front) (get_or all n none ∷ drop p.at front) (All-take IsSmall p.at front each)
    rest))
