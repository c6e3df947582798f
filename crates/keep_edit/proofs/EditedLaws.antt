-- What an edit answers, by its plan: the document after it, that text alone, or what is written.
--
-- Theorems: `done_of`: the document after it; `report_of`: the text alone; `written_of`: what is written.
use Rattle.std.proofs.Common.{◌≡◌, List, ℕ, sym, subst, refl, Option, Some, None, Result, Ok, Err, String, Global}
use Rattle.std.specs.Prelude.{MatchResult, string_bytes}
use Rattle.keep_syntax.specs.Tree.{Document}
use Rattle.keep_edit_spec.specs.declared.fault.EditFault.{EditFault}
use Rattle.keep_edit_spec.specs.declared.fault.EditFault.TheVariants as fault
use Rattle.keep_edit_spec.specs.declared.splice.Splice.{Splice}
use Rattle.keep_edit_spec.specs.Edits.{Edit, place}
use Rattle.keep_edit_plan.specs.declared.plan.Plan.{Plan}
use Rattle.keep_edit_plan.specs.Answers.{text_after}
use Rattle.keep_edit_plan.specs.Plans.{EditPlanned, IsPlan}
use Rattle.keep_edit.specs.Reading.{ProfiledText, text_in, IsTextOfTree}
use Rattle.keep_edit.specs.Answers.{IsEdited, IsMade, IsTextAfter, IsDone, EditDone, EditReported, EditWritten}
use Rattle.keep_edit.specs.Answers.{refusal_in}
use Rattle.keep_edit.specs.Places.{IsMovedIn}

-- ---- what is answered, by what was answered before it

done_as : {T U : Type 0} (good : T → Type 0) (fine : U → Type 0) (x : T) (y : U) (r : Option EditFault)
    → IsDone good r (Ok x) → (good x → fine y) → IsDone fine r (Ok y)
done_as good fine x y None h k = k h
done_as good fine x y (Some f) h k = absurd cc

not_done : {T U : Type 0} (good : T → Type 0) (fine : U → Type 0) (f : EditFault) (r : Option EditFault)
    → IsDone good r (Err f) → IsDone fine r (Err f)
not_done good fine f None h = h
not_done {T} {U} good fine f (Some g) h = let same : f ≡ g = cc in rw same refl

-- out of memory can be the answer in place of what is done
done_or_full : {T U : Type 0} (good : T → Type 0) (fine : U → Type 0) (x : T) (r : Option EditFault)
    → IsDone good r (Ok x) → IsDone fine r (Err fault.Memory)
done_or_full good fine x None h = refl
done_or_full good fine x (Some f) h = absurd cc

-- ---- by the plan

-- what was planned for a document that is seen as this one
pub planned_of : {seen_as old : ProfiledText} (s : Document) (e : Edit) (result : Result Plan EditFault) → seen_as ≡ old
    → (IsTextOfTree seen_as s → EditPlanned s e seen_as result) → IsTextOfTree old s → EditPlanned s e old result
planned_of s e result same h = subst (λ (d : ProfiledText). IsTextOfTree d s → EditPlanned s e d result) same h

module _ (s : Document) (e : Edit) (old : ProfiledText) where
  abbrev is_computed : String Global → Type 0
  is_computed text = IsTextAfter s e (text_in old.profile (string_bytes text)) old

  -- the text after it
  pub report_of : (plan : Plan) (result : Result (String Global) EditFault) → EditPlanned s e old (Ok plan)
      → MatchResult result (λ text. string_bytes text ≡ text_after old.text plan.text_edit) (λ f. f ≡ fault.Memory)
      → EditReported s e old result
  report_of plan (Ok text) h is =
      done_as (IsPlan s e old) is_computed plan text (refusal_in old s e) h
      (λ (k : IsPlan s e old plan).
      subst (λ (t : List ℕ). IsTextAfter s e (text_in old.profile t) old) (sym is) k.made.1)
  report_of plan (Err f) h is =
      subst (λ (g : EditFault). EditReported s e old (Err g)) (sym is)
      (done_or_full (IsPlan s e old) is_computed plan (refusal_in old s e) h)

  pub no_text_of : (f : EditFault) → EditPlanned s e old (Err f) → EditReported s e old (Err f)
  no_text_of f h = not_done (IsPlan s e old) is_computed f (refusal_in old s e) h

  -- what is written of it
  pub written_of : (plan : Plan) → EditPlanned s e old (Ok plan) → EditWritten s e old (Ok plan.text_edit)
  written_of plan h =
      done_as (IsPlan s e old) (IsMade s e old) plan plan.text_edit (refusal_in old s e) h
      (λ (k : IsPlan s e old plan). k.made)

  pub nothing_written : (f : EditFault) → EditPlanned s e old (Err f) → EditWritten s e old (Err f)
  nothing_written f h = not_done (IsPlan s e old) (IsMade s e old) f (refusal_in old s e) h

  -- the document after it
  pub done_of : (new : ProfiledText) (plan : Plan) (result : Result Splice EditFault) → IsTextOfTree old s
      → EditPlanned s e old (Ok plan) → IsMovedIn plan.text_edit old new result → EditDone s e old new result
  done_of new plan (Ok splice) read h (there, is) =
      done_as (IsPlan s e old) (IsEdited s e new old) plan splice (refusal_in old s e) h
      (λ (k : IsPlan s e old plan).
      (there s (place s e) read k.made.0, subst (λ (t : ProfiledText). IsTextAfter s e t old) (sym is) k.made.1))
  done_of new plan (Err f) read h (full, preserved) =
      subst (λ (g : EditFault). EditDone s e old new (Err g)) (sym full)
      (done_or_full (IsPlan s e old) (IsEdited s e new old) plan (refusal_in old s e) h)

  pub undone_of : (new : ProfiledText) (f : EditFault) → EditPlanned s e old (Err f) → EditDone s e old new (Err f)
  undone_of new f h = not_done (IsPlan s e old) (IsEdited s e new old) f (refusal_in old s e) h
