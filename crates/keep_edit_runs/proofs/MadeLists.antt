-- Edits that are made one after another: the fold of those before a number, and one more.
--
-- The definitions fold over a list of edits as they are stated; the code makes those that it is given, in order. So the
-- list that is given states the edits one by one, and the fold up to a number goes on by one edit.
--
-- Theorems: `none_made`: no edits make nothing; `one_made`: if the edits before a number are made and its own is, then
-- those up to it are.
use Rattle.std.proofs.Common.{◌≡◌, ◌∙◌, ◌<◌, ◌++◌, ℕ, zero, suc, List, [], ◌∷◌, length, take, get_or, ◌+◌}
use Rattle.std.proofs.Common.{Option, Some, None, refl, sym, ap, subst, arith}
use Rattle.std.specs.Prelude.{Result, Ok, Err}
use Rattle.std.specs.List.{AllZip}
use Rattle.keep_types.specs.declared.leaf.Profile.{Profile}
use Rattle.keep_syntax.specs.Tree.{Document}
use Rattle.keep_edit_spec.specs.declared.fault.EditFault.{EditFault}
use Rattle.keep_edit_spec.specs.Answers as answers
use Rattle.keep_edit_spec.specs.Answers.{applied_from}
use Rattle.keep_edit_spec.specs.Edits as law
use Rattle.keep_edit_spec.specs.Edits.{edited_document}
use Rattle.keep_edit_spec.specs.Laws.{given_size}
use Rattle.keep_edit_spec.specs.Refusals.{refusal}
use Rattle.keep_edit_plan.specs.Answers.{IsDone, IsTextAfter, refusal_in}
use Rattle.keep_edit_plan.specs.Reading.{limit, ProfiledText, IsTextOfTree}
use Rattle.keep_edit_plan.specs.declared.edit.Edit.{Edit}
use Rattle.keep_edit_runs.specs.Lists.{IsEdit, growth_of, AreMade}

-- ---- the definitions' fold

abbrev pub refused_as : ℕ → EditFault → answers.Refused
refused_as n f = record { number = n; fault = f }

pub applied_more : (profile : Profile) (n : ℕ) (es : List law.Edit) (e : law.Edit) (s u : Document)
    → applied_from profile limit n es s ≡ Ok u → refusal profile limit u e ≡ None
    → applied_from profile limit n (es ++ e ∷ []) s ≡ Ok (edited_document u e)
applied_more profile n [] e s u h k = let same : s ≡ u = cc in rw same (rw (k, applied_from) refl)
applied_more profile n (x ∷ es) e s u h k =
    by (refusal profile limit s x) refl (λ r. applied_more profile (suc n) es e (edited_document s x) u r k)
  where
    by : (o : Option EditFault) → refusal profile limit s x ≡ o
        → (applied_from profile limit (suc n) es (edited_document s x) ≡ Ok u
        → applied_from profile limit (suc n) (es ++ e ∷ []) (edited_document s x) ≡ Ok (edited_document u e))
        → applied_from profile limit n (x ∷ es ++ e ∷ []) s ≡ Ok (edited_document u e)
    by None is more = rw (is, applied_from) (more (rw (is, applied_from) at h))
    by (Some f) is more = absurd (let no : Err (refused_as n f) ≡ Ok u = rw (is, applied_from) at h in cc)

-- ---- the edits that are given

pub as_many : (edits : List Edit) (es : List law.Edit) → AllZip IsEdit edits es → length es ≡ length edits
as_many [] [] h = refl
as_many [] (e ∷ es) h = absurd h
as_many (x ∷ xs) [] h = absurd h
as_many (x ∷ xs) (e ∷ es) h = ap suc (as_many xs es h.1)

-- with one edit more
pub zip_more : (edits : List Edit) (i : ℕ) (d x : Edit) (es : List law.Edit) (e : law.Edit) → i < length edits
    → get_or edits i d ≡ x → AllZip IsEdit (take i edits) es → IsEdit x e
    → AllZip IsEdit (take (suc i) edits) (es ++ e ∷ [])
zip_more [] i d x es e lt is h r = absurd (omega arith)
zip_more (y ∷ ys) zero d x [] e lt is h r = (subst (λ (z : Edit). IsEdit z e) (sym is) r, tt)
zip_more (y ∷ ys) zero d x (z ∷ zs) e lt is h r = absurd h
zip_more (y ∷ ys) (suc i) d x [] e lt is h r = absurd h
zip_more (y ∷ ys) (suc i) d x (z ∷ zs) e lt is h r = (h.0, zip_more ys i d x zs e (omega arith) is h.1 r)

pub growth_more : (es : List law.Edit) (e : law.Edit) → growth_of (es ++ e ∷ []) ≡ growth_of es + given_size e + 12
growth_more [] e = omega arith
growth_more (x ∷ es) e = omega (arith, growth_more es e)

-- ---- one after another

-- none yet
pub none_made : (s : Document) (d : ProfiledText) → IsTextOfTree d s → AreMade s [] d d
none_made s d h = record { es = []; are = tt; tree = s; made = refl; read = h; profile = refl; growth = omega arith }

-- the edit of a number, which answers so on the document after those before it
module _ {T : Type 0} (good : T → Type 0) (s : Document) (edits : List Edit) (first old : ProfiledText) (i : ℕ)
    (d x : Edit) (e : law.Edit) (lt : i < length edits) (is : get_or edits i d ≡ x) (given : IsEdit x e)
    (h : AreMade s (take i edits) first old) where
  abbrev refusal_here : Option EditFault
  refusal_here = refusal first.profile limit h.tree e

  in_profile : (result : Result T EditFault) → IsDone good (refusal_in old h.tree e) result
      → IsDone good refusal_here result
  in_profile result k = subst (λ (p : Profile). IsDone good (refusal p limit h.tree e) result) h.profile k

  -- it is done, and the text after it is this
  pub one_made : (new : ProfiledText) (a : T) → (good a → IsTextAfter h.tree e new old)
      → IsDone good (refusal_in old h.tree e) (Ok a) → AreMade s (take (suc i) edits) first new
  one_made new a after k = by refusal_here refl (in_profile (Ok a) k)
    where
      by : (o : Option EditFault) → refusal_here ≡ o → IsDone good o (Ok a) → AreMade s (take (suc i) edits) first new
      by (Some f) r done = absurd (let no : Ok a ≡ Err f = done in cc)
      by None r done =
          let text : IsTextAfter h.tree e new old = after done in
          record {
            es = h.es ++ e ∷ [];
            are = zip_more edits i d x h.es e lt is h.are given;
            tree = edited_document h.tree e;
            made = applied_more first.profile 0 h.es e s h.tree h.made r;
            read = text.tree;
            profile = text.profile ∙ h.profile;
            growth = omega (arith, h.growth, text.growth, growth_more h.es e);
          }
