-- Nodes with the numbers that they have once a line is there: by those that they have once it is gone they are as they
-- were.
--
-- Theorem: `first_back`, of some of the first nodes. `if_none_then` and `whether` read off what follows where a change
-- was made or refused.
use Rattle.std.proofs.Common.{◌≡◌, ℕ, suc, ◌-◌, ◌≤◌, Bool, cond, List, [], ◌∷◌, ◌++◌, length, map, take, drop}
use Rattle.std.proofs.Common.{refl, ◌∙◌, ap, ap₂, arith, inl, inr, Option, Some, None}
use Rattle.std.specs.Prelude.{IfNone, IfSome}
use Rattle.std.proofs.lemmas.Bool.{cases_lt, lt-ltb, le-ltb}
use Rattle.std.proofs.lemmas.List.{length-map, length-take-le, take-append-drop, take_at, drop_at}
use Rattle.keep_path.specs.NodeInfos.{earlier_number, later_number}
use Rattle.keep_index_store.specs.declared.facts.NodeFacts.{NodeFacts}
use Rattle.keep_index_store.specs.declared.nodes.Node.{Node}
use Rattle.keep_index_store.specs.declared.renumbering.LineNumbers.{LineNumbers}
use Rattle.keep_index_store.specs.Renumbering.{key_for, number_for, renumbered_by, renumbered_facts, renumbered_stored}

pub if_none_then : {X : Type 0} (r : Option X) {P Q : Type 0} → IfNone r P → (P → Q) → IfNone r Q
if_none_then None here then = then here
if_none_then (Some x) here then = tt

-- what follows from a change that was made, and from one that was not, holds
pub whether : {X : Type 0} (r : Option X) (Q : Type 0) {P N : Type 0} → IfSome r (λ _. P) → IfNone r N → (P → Q)
    → (N → Q) → Q
whether None Q some none then else = else none
whether (Some x) Q some none then else = then some

number_back : (at n : ℕ) → earlier_number at (later_number at n) ≡ n
number_back at n = elim (cases_lt n at) [
  | inl low ↦
      ap (λ (b : Bool). earlier_number at (cond b n (suc n))) (lt-ltb n at low)
      ∙ ap (λ (b : Bool). cond b (n - 1) n) (le-ltb at n (omega (arith, low)))
  | inr high ↦
      let pred : suc n - 1 ≡ n = omega arith in
      ap (λ (b : Bool). earlier_number at (cond b n (suc n))) (le-ltb n at high)
      ∙ ap (λ (b : Bool). cond b (suc n - 1) (suc n)) (lt-ltb at (suc n) (omega (arith, high))) ∙ pred
]

by_back : (o : Option ℕ) (n : ℕ) → renumbered_by earlier_number o (renumbered_by later_number o n) ≡ n
by_back None n = refl
by_back (Some at) n = number_back at n

module _ (line : LineNumbers) where
  abbrev later : List Node → List Node
  later ns = map (renumbered_stored later_number line) ns

  abbrev earlier : List Node → List Node
  earlier ns = map (renumbered_stored earlier_number line) ns

  facts_back : (t : NodeFacts)
      → renumbered_facts earlier_number line (renumbered_facts later_number line t) ≡ t
  facts_back t =
      ap₂ (λ (k n : ℕ). let s : NodeFacts = record t { key = k; number = n } in s)
      (by_back (key_for line t.marks) t.key) (by_back (number_for line t.origin) t.number)

  nodes_back : (ns : List Node) → earlier (later ns) ≡ ns
  nodes_back [] = refl
  nodes_back (n ∷ ns) =
      ap₂ (λ (t : NodeFacts) (ms : List Node). let m : Node = record { children = n.children; facts = t } in m ∷ ms)
      (facts_back n.facts) (nodes_back ns)

  pub first_back : (ns ms : List Node) (k : ℕ) → k ≤ length ns → ms ≡ later (take k ns) ++ drop k ns
      → earlier (take k ms) ++ drop k ms ≡ ns
  first_back ns ms k within is =
      let front : List Node = later (take k ns) in
      let many : length front ≡ k =
      length-map (take k ns) (renumbered_stored later_number line) ∙ length-take-le k ns within in
      ap (λ (xs : List Node). earlier (take k xs) ++ drop k xs) is
      ∙ ap₂ (λ (xs ys : List Node). earlier xs ++ ys)
      (take_at front (drop k ns) k many) (drop_at front (drop k ns) k many)
      ∙ ap (λ (xs : List Node). xs ++ drop k ns) (nodes_back (take k ns)) ∙ take-append-drop k ns
