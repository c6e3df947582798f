-- The place of a line's node among the others is how many come before the first that is not met before the line.
--
-- Theorems: `place_is`: the place; `is_from` and `is_before`: on which side of it a node is.
use Rattle.std.proofs.Common.{◌≡◌, ℕ, zero, suc, ◌+◌, ◌<◌, ◌≤◌, Bool, true, false, List, [], ◌∷◌, get_or, refl, sym, ap}
use Rattle.std.proofs.Common.{◌∙◌, inl, inr, arith, Some}
use Rattle.std.specs.Prelude.{slice_get}
use Rattle.std.proofs.lemmas.Bool.{cases_lt}
use Rattle.std.proofs.lemmas.Option.{get_or_from_slice_get, slice_get_within}
use Rattle.keep_types.specs.declared.node.NodeInfo.{NodeInfo}
use Rattle.keep_meaning.specs.LinesMore.{is_met_from}
use Rattle.keep_path.specs.NodeInfos.{LineNumbers, no_info}
use Rattle.keep_rules.specs.LinePlaces.{IsPlaceOf, met_before}

module _ (line : LineNumbers) where
  met_late : (i : NodeInfo) (is : List NodeInfo) (b : Bool) → is_met_from line i ≡ b
      → met_before line (i ∷ is) ≡ (elim b [ true ↦ 0 | false ↦ 1 + met_before line is ])
  met_late i is true e = rw e refl
  met_late i is false e = rw e refl

  pub place_is : (infos : List NodeInfo) (at : ℕ) → IsPlaceOf line infos at → at ≡ met_before line infos
  place_is [] at h = omega (arith, h.within)
  place_is (i ∷ infos) zero h = sym (met_late i infos true ((h.parts 0 (omega arith)).0 (omega arith)))
  place_is (i ∷ infos) (suc at) h =
      let early : is_met_from line i ≡ false = by (is_met_from line i) (h.parts 0 (omega arith)).1 in
      let rest : IsPlaceOf line infos at = record {
        within = omega (arith, h.within);
        parts = λ j low.
            (let (later, from) = h.parts (suc j) (omega (arith, low)) in
            ((λ high. later (omega (arith, high))), λ is. omega (arith, from is)));
      } in
      omega (arith, place_is infos at rest, met_late i infos false early)
    where
      by : (b : Bool) → (b ≡ true → suc at ≤ 0) → b ≡ false
      by true never = absurd (omega (arith, never refl))
      by false never = refl

-- whether a node is met at the line or after it tells on which side of it the place is
module _ (infos : List NodeInfo) (line : LineNumbers) (at i : ℕ) (info : NodeInfo) (place : IsPlaceOf line infos at)
    (here : slice_get infos i ≡ Some info) where
  own : is_met_from line (get_or infos i no_info) ≡ is_met_from line info
  own = ap (is_met_from line) (get_or_from_slice_get infos i info no_info here)

  pub is_from : is_met_from line info ≡ true → at ≤ i
  is_from met = (place.parts i (slice_get_within infos i info here)).1 (own ∙ met)

  pub is_before : is_met_from line info ≡ false → i < at
  is_before not = elim (cases_lt i at) [
    | inl before ↦ before
    | inr past ↦
        let met : is_met_from line info ≡ true =
        sym own ∙ (place.parts i (slice_get_within infos i info here)).0 past in
        absurd cc
  ]
