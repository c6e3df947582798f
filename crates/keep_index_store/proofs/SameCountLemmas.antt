-- Where as many nodes come as go, each number stays as it is.
--
-- Theorems: `nodes_same`: of the children of nodes; `links_same`: of the parents in the links.
use Rattle.std.proofs.Common.{◌≡◌, ℕ, List, [], ◌∷◌, map, refl, ◌∙◌, ap, arith, inl, inr}
use Rattle.std.proofs.lemmas.Bool.{cases_lt}
use Rattle.keep_index_store.specs.declared.links.ParentLink.{ParentLink}
use Rattle.keep_index_store.specs.declared.nodes.Node.{Node as StoredNode}
use Rattle.keep_index_store.specs.declared.shift.Shift.{Shift}
use Rattle.keep_index_store.specs.Below.{shifted_by, shifted_children}
use Rattle.keep_index_store.specs.Children.{ChildList, Bare, Keyed, Listed}
use Rattle.keep_index_store.specs.Replacing.{shifted_link, with_shifted_children}
use Rattle.keep_index_store.proofs.ShiftedLemmas.{shifted_high, shifted_low}

each_same : {X : Type 0} (f : X → X) → ((x : X) → f x ≡ x) → (xs : List X) → map f xs ≡ xs
each_same f own [] = refl
each_same f own (x ∷ xs) = ap (λ y. y ∷ map f xs) (own x) ∙ ap (λ ys. x ∷ ys) (each_same f own xs)

module _ (by : Shift) (same : by.old ≡ by.new) where
  number_same : (n : ℕ) → shifted_by by n ≡ n
  number_same n = elim (cases_lt n by.from) [
    | inl low ↦ shifted_low by n low
    | inr high ↦ omega (arith, shifted_high by n high, same)
  ]

  children_same : (c : ChildList) → shifted_children by c ≡ c
  children_same Bare = refl
  children_same (Keyed pairs) =
      ap Keyed (each_same (λ e. (e.0, shifted_by by e.1)) (λ e. ap (λ n. (e.0, n)) (number_same e.1)) pairs)
  children_same (Listed ids) = ap Listed (each_same (shifted_by by) number_same ids)

  pub nodes_same : (list : List StoredNode) → map (with_shifted_children by) list ≡ list
  nodes_same list =
      each_same (with_shifted_children by)
      (λ n. ap (λ (c : ChildList). let m : StoredNode = record { children = c; facts = n.facts } in m)
      (children_same n.children))
      list

  pub links_same : (links : List ParentLink) → map (shifted_link by) links ≡ links
  links_same links =
      each_same (shifted_link by)
      (λ h. ap (λ p. let l : ParentLink = record { parent = p; number = h.number } in l) (number_same h.parent))
      links
