-- The arrays of elements that are removed between edits of all kinds, as the code keeps them.
--
-- An element's array is its path without the last step, and that is where paths change once it is gone (`array_is`).
-- Where edits are elsewhere than in each of the arrays, they are so still with one array more in which none of them is
-- (`with_array`), and elsewhere than in an array that is one of these (`element_here`).
--
-- Theorems: `array_is`: the array of an element; `pushed`, `with_array`, `own_array`, `array_still`: one array more;
-- `removed_path`: the path of a remove; `element_here`: the element that it takes, whose array is kept.
use Rattle.std.proofs.Common.{◌≡◌, ◌<◌, ℕ, Bool, true, false, List, [], ◌∷◌, ◌++◌, Option, Some, sym, ap, subst, cond}
use Rattle.std.proofs.Common.{◌∙◌, arith, length, refl}
use Rattle.std.specs.Prelude.{All, IfSome}
use Rattle.std.proofs.lemmas.List.{get_or_append_left, length-append}
use Rattle.std.proofs.lemmas.List.Elements.{All-push}
use Rattle.std.proofs.lemmas.List.Quantifiers.{Any-push}
use Rattle.std.proofs.lemmas.Option.{IfSome_then}
use Rattle.keep_path.specs.Path.{Part, index, last_part, without_last}
use Rattle.keep_edit_spec.specs.Edits as law
use Rattle.keep_edit_spec.specs.ElementRuns.{IsElsewhere, changed_path}
use Rattle.keep_edit_spec.specs.Runs.{path_of}
use Rattle.keep_edit_plan.specs.declared.edit.Edit.{Edit}
use Rattle.keep_edit_plan.specs.declared.edit.Edit.TheVariants.{Remove}
use Rattle.keep_edit_plan.specs.declared.text_edit.TextEdit.{TextEdit}
use Rattle.keep_edit_runs.specs.GoneBetween.{AreElsewhere, HasArray, RemovesElementHere}
use Rattle.keep_edit_runs.specs.Lists.{IsEdit}
use Rattle.keep_edit_plan.specs.Reading.{ProfiledText}
use Rattle.keep_edit_runs.specs.Runs.{RemovesHeaderHere, outlined}
use Rattle.keep_edit_runs.specs.declared.gone_between.GoneBetween.{GoneBetween}
use Rattle.keep_edit_runs.specs.declared.outline.Outline.{Outline}

pub array_is : (path array : List Part) (n : ℕ) → array ≡ without_last path → last_part path ≡ Some (index n)
    → array ≡ changed_path path
array_is path array n is last = rw (last, changed_path) is

-- ---- one array more

-- after a push, which was not refused
pub pushed : (arrays new : List (List Part)) (array : List Part) (b : Bool)
    → new ≡ cond b (arrays ++ array ∷ []) arrays → b ≡ true → new ≡ arrays ++ array ∷ []
pushed arrays new array true is here = is
pushed arrays new array false is here = absurd cc

module _ (arrays new : List (List Part)) (array : List Part) (is : new ≡ arrays ++ array ∷ []) where
  pub with_array : (outlines : List Outline) → AreElsewhere arrays outlines
      → All (λ o. IsElsewhere array (outlined o)) outlines → AreElsewhere new outlines
  with_array outlines elsewhere own =
      subst (λ l. AreElsewhere l outlines) (sym is)
      (All-push (λ a. All (λ o. IsElsewhere a (outlined o)) outlines) arrays array elsewhere own)

  pub own_array : HasArray new array
  own_array = subst (λ l. HasArray l array) (sym is) (Any-push (λ other. other ≡ array) arrays array refl)

  pub array_still : (a : List Part) → HasArray arrays a → HasArray new a
  array_still a (k, other, lt, read, same) =
      let long : k < length (arrays ++ array ∷ []) = omega (arith, lt, length-append arrays (array ∷ [])) in
      subst (λ l. HasArray l a) (sym is) (
        k,
        other,
        long,
        get_or_append_left arrays (array ∷ []) other k lt ∙ read,
        same,
      )

-- ---- one element less

of_array : (P : List Part → Type 0) (arrays : List (List Part)) (array : List Part) → All P arrays
    → HasArray arrays array → P array
of_array P arrays array all (k, other, lt, read, is) = subst P is (subst P read (all k other lt))

-- what the edit removes is at its path
pub removed_path : (x : Edit) (path other : List Part) → x ≡ Remove path → IsEdit x (law.remove other) → path ≡ other
removed_path x path other is given = sym (ap path_of (subst (λ (y : Edit). IsEdit y (law.remove other)) is given))

pub element_here : (now : ProfiledText) (old new : GoneBetween) (gone : List (List Part)) (outlines : List Outline)
    (x : Edit) (path array : List Part) (r : Option TextEdit)
    → gone ≡ old.elements → x ≡ Remove path → array ≡ changed_path path → HasArray new.arrays.items array
    → AreElsewhere new.arrays.items outlines → IfSome r (RemovesHeaderHere now gone new.elements x)
    → IfSome r (RemovesElementHere now old new outlines x)
element_here now old new gone outlines x path array r same is at there elsewhere h =
    IfSome_then r (subst (λ g. IfSome r (RemovesHeaderHere now g new.elements x)) same h) (λ t header.
    let here : array ≡ changed_path header.path =
    at ∙ ap changed_path (removed_path x path header.path is header.is) in
    record {
      header = header;
      array = subst (HasArray new.arrays.items) here there;
      elsewhere = subst (λ (a : List Part). All (λ o. IsElsewhere a (outlined o)) outlines) here
          (of_array (λ a. All (λ o. IsElsewhere a (outlined o)) outlines) new.arrays.items array elsewhere there);
    })
