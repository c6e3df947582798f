-- Edits that are made one after another stop at one that is refused, or where memory runs out; or all of them are made.
--
-- Theorems: `one_stopped`: if the edit with a number is refused, or memory runs out, the list stops there.
use Rattle.std.proofs.Common.{◌≡◌, ◌∙◌, ◌+◌, ◌-◌, ◌<◌, ◌++◌, ℕ, suc, true, List, [], ◌∷◌, length, take, get_or}
use Rattle.std.proofs.Common.{Option, Some, None, refl, sym, ap, subst, inl, inr, arith, length-take}
use Rattle.std.proofs.Math.Nat.{add-zero}
use Rattle.std.proofs.lemmas.Bool.{eqb-true}
use Rattle.std.proofs.lemmas.List.{take_all}
use Rattle.std.specs.Prelude.{◌==◌, Result, Ok, Err}
use Rattle.std.specs.List.{AllZip}
use Rattle.keep_types.specs.declared.leaf.Profile.{Profile}
use Rattle.keep_syntax.specs.Tree.{Document}
use Rattle.keep_edit_spec.specs.declared.fault.EditFault.{EditFault}
use Rattle.keep_edit_spec.specs.Answers.{applied_from}
use Rattle.keep_edit_spec.specs.Edits as law
use Rattle.keep_edit_spec.specs.Edits.{edited_document}
use Rattle.keep_edit_spec.specs.Refusals.{refusal}
use Rattle.keep_edit_runs.proofs.Shared.{applied_more, as_many, none_made, refused_as, zip_more}
use Rattle.keep_edit.specs.Answers.{IsDone, refusal_in}
use Rattle.keep_edit.specs.Lists.{IsEdit, AreMade, StopsAt}
use Rattle.keep_edit.specs.Reading.{limit, ProfiledText, IsTextOfTree}
use Rattle.keep_edit_plan.specs.declared.edit.Edit.{Edit}

-- ---- the definitions' fold

applied_until : (profile : Profile) (n : ℕ) (es : List law.Edit) (e : law.Edit) (s u : Document) (f : EditFault)
    → applied_from profile limit n es s ≡ Ok u → refusal profile limit u e ≡ Some f
    → applied_from profile limit n (es ++ e ∷ []) s ≡ Err (refused_as (n + length es) f)
applied_until profile n [] e s u f h k = let same : s ≡ u = cc in rw same (rw (k, applied_from) (rw (add-zero n) refl))
applied_until profile n (x ∷ es) e s u f h k =
    by (refusal profile limit s x) refl (λ r. applied_until profile (suc n) es e (edited_document s x) u f r k)
  where
    many : suc n + length es ≡ n + suc (length es)
    many = omega arith

    by : (o : Option EditFault) → refusal profile limit s x ≡ o
        → (applied_from profile limit (suc n) es (edited_document s x) ≡ Ok u
        → applied_from profile limit (suc n) (es ++ e ∷ []) (edited_document s x)
        ≡ Err (refused_as (suc n + length es) f))
        → applied_from profile limit n (x ∷ es ++ e ∷ []) s ≡ Err (refused_as (n + suc (length es)) f)
    by None is more = rw (is, applied_from) (rw (sym many) (more (rw (is, applied_from) at h)))
    by (Some g) is more = absurd (let no : Err (refused_as n g) ≡ Ok u = rw (is, applied_from) at h in cc)

-- ---- one after another

-- the edit of a number, which answers so on the document after those before it
module _ {T : Type 0} (good : T → Type 0) (s : Document) (edits : List Edit) (first old : ProfiledText) (i : ℕ)
    (d x : Edit) (e : law.Edit) (lt : i < length edits) (is : get_or edits i d ≡ x) (given : IsEdit x e)
    (h : AreMade s (take i edits) first old) where
  abbrev refusal_here : Option EditFault
  refusal_here = refusal first.profile limit h.tree e

  in_profile : (result : Result T EditFault) → IsDone good (refusal_in old h.tree e) result
      → IsDone good refusal_here result
  in_profile result k = subst (λ (p : Profile). IsDone good (refusal p limit h.tree e) result) h.profile k

  -- it is refused, or memory ran out
  pub one_stopped : (f : EditFault) → IsDone good (refusal_in old h.tree e) (Err f) → StopsAt s edits first.profile i f
  one_stopped f k = by refusal_here refl (in_profile (Err f) k)
    where
      many : 0 + length h.es ≡ i
      many = omega (arith, as_many (take i edits) h.es h.are, length-take {A = Edit})

      are : AllZip IsEdit (take (suc i) edits) (h.es ++ e ∷ [])
      are = zip_more edits i d x h.es e lt is h.are given

      by : (o : Option EditFault) → refusal_here ≡ o → IsDone good o (Err f) → StopsAt s edits first.profile i f
      by (Some g) r done =
          let same : g ≡ f = cc in
          inl (record {
            es = h.es ++ e ∷ [];
            are = are;
            refused =
                subst (λ (n : ℕ). applied_from first.profile limit 0 (h.es ++ e ∷ []) s ≡ Err (refused_as n f)) many
                (applied_until first.profile 0 h.es e s h.tree f h.made (r ∙ ap (λ (y : EditFault). Some y) same));
          })
      by None r done = inr (record {
        memory = done;
        here = lt;
        es = h.es ++ e ∷ [];
        are = are;
        tree = edited_document h.tree e;
        allowed = applied_more first.profile 0 h.es e s h.tree h.made r;
      })

-- ---- the whole list

-- an empty list makes nothing
pub nothing_made : (s : Document) (edits : List Edit) (d : ProfiledText) → true ≡ (length edits == 0) → IsTextOfTree d s
    → AreMade s edits d d
nothing_made s [] d e h = none_made s d h
nothing_made s (x ∷ xs) d e h = absurd (omega (arith, eqb-true (length (x ∷ xs)) 0 (sym e)))

-- ---- all of them

-- the last edit is the one after all others
pub made_all : (s : Document) (edits : List Edit) (old new : ProfiledText) → 0 < length edits
    → AreMade s (take (suc (length edits - 1)) edits) old new → AreMade s edits old new
made_all s edits old new some h =
    subst (λ (xs : List Edit). AreMade s xs old new) (take_all (suc (length edits - 1)) edits (omega (arith, some))) h
