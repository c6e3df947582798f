-- What a string means by its pieces is what is computed from its text byte by byte, and a text has at most one node
-- more than it has bytes.
--
-- Theorems: `string_value_is_meaning`: what a string means; `nodes_are_few`: how many nodes there are.
use Rattle.std.proofs.Common.{◌≡◌, ℕ, List, length, refl, sym, ap, subst, ◌∙◌, arith}
use Rattle.std.specs.Prelude.{IsTrue}
use Rattle.keep_types.specs.declared.leaf.Leaf.{Leaf}
use Rattle.keep_types.specs.declared.leaf.Leaf.TheVariants as leaf
use Rattle.keep_types.specs.declared.leaf.Profile.{Profile}
use Rattle.keep_types.specs.declared.leaf.Profile.TheVariants.{Strict, Wide}
use Rattle.keep_token.specs.Leaves.{IsLeaf, Means, is_string_leaf}
use Rattle.keep_token.specs.Strings.{value_of, ml_value_of}
use Rattle.keep_token.proofs.Shared.{means_wider}
use Rattle.keep_meaning.specs.Laws.{StringValueIsMeaning, NodesAreFew}
use Rattle.keep_meaning.specs.Meaning.{string_value}
use Rattle.keep_meaning.proofs.BoundLaws.{nodes_few}
use Rattle.keep_meaning.proofs.DecodeLaws.{means_value}

means_wide : (profile : Profile) (l : Leaf) (text value : List ℕ) → Means profile l text value → Means Wide l text value
means_wide Strict l text value h = means_wider l text value h
means_wide Wide l text value h = h

-- each string has a meaning
meant : (profile : Profile) (l : Leaf) (text : List ℕ) → IsTrue (is_string_leaf l) → IsLeaf profile l text
    → (value : List ℕ) × Means profile l text value
meant profile leaf.BareKey text kind h = (text, refl)
meant profile leaf.Basic text kind (ps, h) = (value_of ps, (ps, h, refl))
meant profile leaf.Literal text kind (ps, h) = (value_of ps, (ps, h, refl))
meant profile leaf.MlBasic text kind (ps, h) = (ml_value_of ps, (ps, h, refl))
meant profile leaf.MlLiteral text kind (ps, h) = (ml_value_of ps, (ps, h, refl))
meant profile _ text kind h = absurd cc

pub string_value_is_meaning : StringValueIsMeaning
string_value_is_meaning profile l text value kind h = (found, means)
  where
    found : Means profile l text value → value ≡ string_value l text
    found m = means_value l text value kind (means_wide profile l text value m)

    means : value ≡ string_value l text → Means profile l text value
    means e =
        let (v, m) = meant profile l text kind h in
        let same : v ≡ value = means_value l text v kind (means_wide profile l text v m) ∙ sym e in
        subst (λ (x : List ℕ). Means profile l text x) same m

pub nodes_are_few : NodesAreFew
nodes_are_few profile limit bytes d r =
    omega (arith, nodes_few profile d r.valid, ap (λ (b : List ℕ). length b) r.spelled)
