-- The last child comes before `at`, so none is there or after it.
use Rattle.std.proofs.Common.{◌≡◌, ◌<◌, ◌-◌, ◌∙◌, ℕ, List, arith, get_or, inl, inr, length, map, rules, subst, sym}
use Rattle.std.specs.Prelude.{Some, slice_get}
use Rattle.std.proofs.lemmas.Bool.{cases_lt, ltb-true}
use Rattle.std.proofs.lemmas.List.{get_or-map, length-map}
use Rattle.std.proofs.lemmas.Option.{get_or_from_slice_get}
use Rattle.keep_index_store.proofs.key_map.KeyMap.ends_before.Goals as goal

pub returns : goal.returns
returns c = λ low k d h.
    let entries : List (List ℕ × ℕ) = c.args.self.now in
    let ids : List ℕ = map (λ e. e.1) entries in
    let child : ℕ = c.in-Some-child_at.child in
    let before : child < c.args.at = ltb-true child c.args.at low in
    let many : length ids ≡ length entries = length-map entries (λ e. e.1) in
    let at_end : c.in-Some.last ≡ length ids - 1 = search (rules, many) in
    let there : slice_get ids (length ids - 1) ≡ Some child =
    subst (λ (n : ℕ). slice_get ids n ≡ Some child) at_end (sym c.child_at.ensures ∙ c.in-Some-child_at.is) in
    let last : get_or ids (length ids - 1) 0 ≡ child =
    get_or_from_slice_get ids (length ids - 1) child 0 there in
    let same : get_or ids k 0 ≡ (get_or entries k d).1 = get_or-map (λ e. e.1) entries k d 0 h in
    elim (cases_lt (get_or ids k 0) c.args.at) [
      | inl less ↦ omega (arith, less, same)
      | inr more ↦ absurd (omega (arith, before, last, c.requires k (omega (arith, h, many)) more))
    ]
