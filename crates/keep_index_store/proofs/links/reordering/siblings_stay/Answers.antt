-- No sibling comes after the last node, so each has the number that it had.
use Rattle.std.proofs.Common.{◌≡◌, ◌∙◌, ℕ, List, ap, arith, get_or, map, rules, sym}
use Rattle.std.specs.Prelude.{Some, false, nat_eq, not, slice_get, true}
use Rattle.std.proofs.lemmas.Bool.{eq-eqb}
use Rattle.std.proofs.lemmas.List.Folds.{map_fixed}
use Rattle.std.proofs.lemmas.List.{get_or-map, length-map}
use Rattle.std.proofs.lemmas.Option.{get_or_from_slice_get}
use Rattle.keep_index_store.specs.declared.links.PackedLink.{PackedLink}
use Rattle.keep_index_store.specs.declared.links.ParentLink.{ParentLink}
use Rattle.keep_index_store.specs.Links.{link_of}
use Rattle.keep_index_store.specs.Moved.{reordered_link}
use Rattle.keep_index_store.proofs.MovedLinkLemmas.{sibling_stays}
use Rattle.keep_index_store.proofs.links.reordering.siblings_stay.Goals as goal

differ : (a b : ℕ) → not (nat_eq a b) ≡ true → a ≡ b → ⊥
differ a b other same =
    let e : false ≡ true = ap not (sym (eq-eqb a b same)) ∙ other in
    cc

pub returns-then-place : goal.returns-then-place
returns-then-place c = λ other.
    let links : List PackedLink = c.args.links.now in
    let hs : List ParentLink = map link_of links in
    let root : PackedLink = c.in-Some.root.now in
    let is : slice_get links 0 ≡ Some root = search rules in
    map_fixed (reordered_link c.args.place) hs
    (λ k d low.
    sibling_stays c.args.place hs c.if-place.true c.requires k d low
    (λ same.
    let first : (get_or hs 0 d).parent ≡ root.parent =
    ap (λ (h : ParentLink). h.parent) (get_or-map link_of links 0 root d (omega (arith, low, length-map links link_of))
    ∙ ap link_of (get_or_from_slice_get links 0 root root is)) in
    differ root.parent c.args.place.above other (sym first ∙ same)))
