-- What goes by a remove with a header, and what gets another path by it, is at the changed path or below it: this is
-- the path of the table, or that of the array of the element.
--
-- So what is apart from it is apart from the path that goes, too, and a header that passes by it passes by that path.
--
-- Theorems: `key_changed`, `array_changed`: which path it is; `apart_from`, `passes_from`.
use Rattle.std.proofs.Common.{◌≡◌, ℕ, List, [], ◌∷◌, ◌++◌, map, refl, sym, ap, subst, ◌∙◌, Option, Some, None}
use Rattle.std.proofs.lemmas.List.{append-nil}
use Rattle.std.proofs.lemmas.List.Elements.{filter_map-append}
use Rattle.keep_path.specs.Path.{Part, index, key, last_part, strip, without_last}
use Rattle.keep_edit_spec.specs.ElementRuns.{changed_path}
use Rattle.keep_edit_spec.specs.Look.{key_text, keys_in}
use Rattle.keep_edit_spec.specs.Runs.{AreApart, PassesBy}
use Rattle.keep_edit_spec.proofs.Common.Cuts.{last_part-snoc, without_last-snoc}
use Rattle.keep_edit_spec.proofs.Common.LineLaws.{EndsInKey}
use Rattle.keep_edit_spec.proofs.Common.Runs.{strip-append}
use Rattle.keep_edit_spec.proofs.Insert.ItemThere.{last_is}
use Rattle.keep_edit_spec.proofs.Remove.Shift.{disjoint_element, disjoint_step, element_at}

-- It is the path itself, or that of the array of an element.
data IsChangedPath (path : List Part) : Type 0 where
  itself : changed_path path ≡ path → IsChangedPath path
  array : (n : ℕ) → path ≡ element_at (changed_path path) n → IsChangedPath path

-- by the last step
abbrev pub changed_by : List Part → Option Part → List Part
changed_by path o = elim o [
  | None ↦ path
  | Some part ↦ elim part [ key text ↦ path | index n ↦ without_last path ]
]

its_changed : (path : List Part) → IsChangedPath path
its_changed path = by (last_part path) refl
  where
    by : (o : Option Part) → last_part path ≡ o → IsChangedPath path
    by None e = itself (ap (changed_by path) e)
    by (Some (key text)) e = itself (ap (changed_by path) e)
    by (Some (index n)) e =
        array n (last_is path (index n) e ∙ ap (λ (a : List Part). a ++ index n ∷ []) (sym (ap (changed_by path) e)))

pub key_changed : (path : List Part) → EndsInKey path → changed_path path ≡ path
key_changed path ends = ap (changed_by path) (ap last_part ends.2 ∙ last_part-snoc ends.0 (key ends.1))

pub array_changed : (a : List Part) (n : ℕ) → changed_path (element_at a n) ≡ a
array_changed a n = ap (changed_by (element_at a n)) (last_part-snoc a (index n)) ∙ without_last-snoc a (index n)

-- what is apart from it is apart from the path
pub apart_from : (path other : List Part) → AreApart (changed_path path) other → AreApart other path
apart_from path other apart = elim (its_changed path) [
  | itself same ↦
      (ap (strip other) (sym same) ∙ apart.1, ap (λ (p : List Part). strip p other) (sym same) ∙ apart.0)
  | array n is ↦
      let a : List Part = changed_path path in (
        ap (strip other) is ∙ disjoint_step other a (index n) apart.1 (λ whole.
            (let under : strip a other ≡ Some (index n ∷ []) =
            ap (strip a) (sym whole) ∙ strip-append a (index n ∷ []) in
            let both : None ≡ Some (index n ∷ []) = sym apart.0 ∙ under in
            absurd cc)),
        ap (λ (p : List Part). strip p other) is ∙ disjoint_element a n other apart.0,
      )
]

-- and so it is with a header
pub passes_from : (keys : List (List ℕ)) (path : List Part) → PassesBy keys (changed_path path) → PassesBy keys path
passes_from keys path passes = elim (its_changed path) [
  | itself same ↦ subst (PassesBy keys) same passes
  | array n is ↦
      ap (λ (ks : List (List ℕ)). strip (map key ks) (map key keys))
      (ap keys_in is ∙ filter_map-append key_text (changed_path path) (index n ∷ [])
      ∙ append-nil (keys_in (changed_path path)))
      ∙ passes
]
