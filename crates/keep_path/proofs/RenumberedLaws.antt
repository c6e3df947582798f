-- The facts about all nodes have the numbers that they had, where a line comes and then goes again.
--
-- Theorem: `infos_back`.
use Rattle.std.proofs.Common.{◌≡◌, ℕ, suc, ◌-◌, Bool, cond, List, [], ◌∷◌, map, refl, ap, ap₂, ◌∙◌, arith, inl, inr}
use Rattle.std.proofs.Common.{Option, Some, None}
use Rattle.std.specs.Option.{option_map}
use Rattle.std.proofs.lemmas.Bool.{cases_lt, lt-ltb, le-ltb}
use Rattle.keep_types.specs.declared.node.NodeInfo.{NodeInfo}
use Rattle.keep_types.specs.declared.node.Origin.{Origin}
use Rattle.keep_types.specs.declared.node.Origin.TheVariants as origin
use Rattle.keep_path.specs.NodeInfos.{LineNumbers, earlier_number, later_number, renumbered, renumbered_origin}

number_back : (at n : ℕ) → earlier_number at (later_number at n) ≡ n
number_back at n = elim (cases_lt n at) [
  | inl low ↦ ap (λ (b : Bool). earlier_number at (cond b n (suc n))) (lt-ltb n at low)
      ∙ ap (λ (b : Bool). cond b (n - 1) n) (le-ltb at n (omega (arith, low)))
  | inr high ↦
      let pred : suc n - 1 ≡ n = omega arith in
      ap (λ (b : Bool). earlier_number at (cond b n (suc n))) (le-ltb n at high)
      ∙ ap (λ (b : Bool). cond b (suc n - 1) (suc n)) (lt-ltb at (suc n) (omega (arith, high))) ∙ pred
]

pub key_back : (at : ℕ) (o : Option ℕ) → option_map (earlier_number at) (option_map (later_number at) o) ≡ o
key_back at None = refl
key_back at (Some n) = ap Some (number_back at n)

origin_back : (s v : ℕ) (o : Origin)
    → renumbered_origin (earlier_number s) (earlier_number v) (renumbered_origin (later_number s) (later_number v) o)
    ≡ o
origin_back s v origin.Root = refl
origin_back s v (origin.Value n) = ap origin.Value (number_back v n)
origin_back s v (origin.Header n) = ap origin.Header (number_back s n)
origin_back s v (origin.Element n) = ap origin.Element (number_back s n)
origin_back s v (origin.Dotted n) = ap origin.Dotted (number_back v n)
origin_back s v (origin.Through n) = ap origin.Through (number_back s n)
origin_back s v origin.Tables = refl

info_back : (l : LineNumbers) (i : NodeInfo) → renumbered earlier_number l (renumbered later_number l i) ≡ i
info_back l i =
    ap₂ (λ (k : Option ℕ) (o : Origin).
    record { kind = i.kind; key = k; marks = i.marks; passed = i.passed; origin = o }) (key_back l.key i.key)
    (origin_back l.statement l.value i.origin)

pub infos_back : (l : LineNumbers) (is : List NodeInfo)
    → map (renumbered earlier_number l) (map (renumbered later_number l) is) ≡ is
infos_back l [] = refl
infos_back l (i ∷ is) = ap₂ (λ (x : NodeInfo) (xs : List NodeInfo). x ∷ xs) (info_back l i) (infos_back l is)
