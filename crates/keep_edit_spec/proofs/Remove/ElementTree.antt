-- Where an element's run is taken out and the paths after it go down by one, the rules hold, and the tree is that of
-- `remove`.
--
-- Theorem: `element_removal`.
use Rattle.std.proofs.Common.{◌≡◌, ℕ, ◌+◌, Bool, true, false, cond, List, [], ◌∷◌, ◌++◌, map, refl, sym, ap, subst, ◌∙◌}
use Rattle.std.proofs.Common.{arith, Option, Some, None, inl, inr}
use Rattle.std.specs.Prelude.{nat_lt}
use Rattle.std.specs.List.{filter_map}
use Rattle.std.proofs.lemmas.Bool.{cases_lt, lt-ltb, le-ltb}
use Rattle.keep_path.specs.Path.{Part, key, index}
use Rattle.keep_meaning.specs.Marks.{Mention, fact_of}
use Rattle.keep_meaning.specs.Nodes.{fact_at, first_of}
use Rattle.keep_edit_spec.specs.Look.{strip}
use Rattle.keep_edit_spec.specs.Edits.{remove}
use Rattle.keep_edit_spec.specs.Trees.{IsTreeOf, fact_from, from as from_path, put_out}
use Rattle.keep_edit_spec.proofs.Common.Runs.{AllOf, all_join, Rules, IsDisjoint, strip-sound}
use Rattle.keep_edit_spec.proofs.Common.Moves.{moved, down, rules_moved, mentions_moved}
use Rattle.keep_edit_spec.proofs.Common.Cuts.{IsCut, rules_cut, cut_by, last_part-snoc, without_last-snoc, removed_by}
use Rattle.keep_edit_spec.proofs.Remove.RemoveInValue.{item_below, item_above, down_below, down_above}
use Rattle.keep_edit_spec.proofs.Remove.RemoveLines.{IsRemoval}
use Rattle.keep_edit_spec.proofs.Remove.Shift.{shifted, element_at, disjoint_element, disjoint_prefix, shifted_under}
use Rattle.keep_edit_spec.proofs.Remove.Shift.{shifted_disjoint, shifted-injective}

module _ (prefix : List Part) (n : ℕ) (from mid to : List Mention) (cut : IsCut (element_at prefix n) from mid)
    (is : to ≡ map (moved (shifted prefix n)) mid) where
  mid_disjoint : AllOf (IsDisjoint (element_at prefix n)) mid
  mid_disjoint =
      subst (AllOf (IsDisjoint (element_at prefix n))) (sym cut.is)
      (all_join (IsDisjoint (element_at prefix n)) cut.before cut.after cut.disjoint_before cut.disjoint_after)

  element_rules : Rules from → Rules to
  element_rules rules =
      subst Rules (sym is)
      (rules_moved (λ q. strip (element_at prefix n) q ≡ None) (shifted prefix n) (shifted-injective prefix n) mid
      mid_disjoint
      (rules_cut (element_at prefix n) from mid cut rules))

  -- what was at a path that is kept is now where that goes
  at_place : (q old : List Part) → strip (element_at prefix n) old ≡ None → shifted prefix n old ≡ q
      → fact_at q to ≡ fact_at old from
  at_place q old h e =
      ap (λ (x : List Part). fact_at x to) (sym e)
      ∙ ap (fact_at (shifted prefix n old)) is
      ∙ ap (λ l. first_of (filter_map fact_of l))
      (mentions_moved (λ x. strip (element_at prefix n) x ≡ None) (shifted prefix n) (shifted-injective prefix n) old h
      mid mid_disjoint)
      ∙ cut_by (element_at prefix n) from mid cut old None h

  in_array : (q x y : List Part) → q ≡ prefix ++ x → strip (index n ∷ []) y ≡ None → down n y ≡ x
      → fact_at q to ≡ fact_at (prefix ++ y) from
  in_array q x y e h d =
      at_place q (prefix ++ y) (disjoint_prefix prefix n y h)
      (shifted_under prefix n y ∙ ap (λ (z : List Part). prefix ++ z) d ∙ sym e)

  stays : (q x : List Part) → q ≡ prefix ++ x → strip (index n ∷ []) x ≡ None → down n x ≡ x
      → fact_at q to ≡ fact_at q from
  stays q x e h d = in_array q x x e h d ∙ ap (λ (z : List Part). fact_at z from) (sym e)

  by_number : (q : List Part) (m : ℕ) (r : List Part) → q ≡ prefix ++ index m ∷ r → (b : Bool) → nat_lt m n ≡ b
      → fact_at q to ≡ fact_from from [] (cond b (from_path q) (from_path (prefix ++ index (m + 1) ∷ r)))
  by_number q m r w true k = elim (cases_lt m n) [
    | inl l ↦ stays q (index m ∷ r) w (item_below n m r l) (down_below n m r l)
    | inr g ↦ absurd (let z : nat_lt m n ≡ false = le-ltb m n g in cc)
  ]
  by_number q m r w false k = elim (cases_lt m n) [
    | inl l ↦ absurd (let z : nat_lt m n ≡ true = lt-ltb m n l in cc)
    | inr g ↦
        in_array q (index m ∷ r) (index (m + 1) ∷ r) w (item_above n (m + 1) r (omega (arith, g))) (down_above n m r g)
  ]

  element_by : (q : List Part) (o : Option (List Part)) → strip prefix q ≡ o
      → fact_at q to ≡ fact_from from [] (elim o [
        | None ↦ from_path q
        | Some more ↦ elim more [
          | [] ↦ from_path q
          | part ∷ rest ↦ elim part [
            | key text ↦ from_path q
            | index m ↦ cond (nat_lt m n) (from_path q) (from_path (prefix ++ index (m + 1) ∷ rest))
          ]
        ]
      ])
  element_by q None u = at_place q q (disjoint_element prefix n q u) (shifted_disjoint prefix n q u)
  element_by q (Some []) u = stays q [] (strip-sound prefix q [] u) refl refl
  element_by q (Some (key text ∷ r)) u = stays q (key text ∷ r) (strip-sound prefix q (key text ∷ r) u) refl refl
  element_by q (Some (index m ∷ r)) u = by_number q m r (strip-sound prefix q (index m ∷ r) u) (nat_lt m n) refl

  element_tree : IsTreeOf from (remove (element_at prefix n)) to
  element_tree q =
      element_by q (strip prefix q) refl
      ∙ ap (λ (f : List Part). fact_from from [] (put_out f n q)) (sym (without_last-snoc prefix (index n)))
      ∙ ap (λ (o : Option Part). fact_from from [] (removed_by (element_at prefix n) q o))
      (sym (last_part-snoc prefix (index n)))

  pub element_removal : Rules from → IsRemoval (element_at prefix n) from to
  element_removal rules = record { rules = element_rules rules; tree = element_tree }
