-- The plan of an edit: from where it is done, from its law, and from what it changes of the index.
--
-- Theorems: `planned`: a plan for the span and the bytes that replace it is one of the edit; `of_plan`: what is written
-- is of an edit of the document, and so is the change of the index; `editable`: a document that was read is one of
-- which the laws speak.
use Rattle.std.proofs.Common.{◌≡◌, ℕ, List, ◌++◌, take, drop, length, sym, ap, ap₂, subst, ◌∙◌, arith, Option, Some}
use Rattle.std.proofs.Common.{None, Result, Ok, Err, refl}
use Rattle.std.specs.Prelude.{IsUtf8, IfOk, IfSome, is_some, string_bytes, true}
use Rattle.std.proofs.lemmas.Str.{IsUtf8-append, IsUtf8-drop, IsUtf8-string_bytes, IsUtf8-take}
use Rattle.keep_types.specs.declared.syntax.Span.{Span}
use Rattle.keep_syntax.specs.Tree.{Document}
use Rattle.keep_syntax.specs.Grammar.{Reads}
use Rattle.keep_edit_spec.specs.declared.fault.EditFault.{EditFault}
use Rattle.keep_edit_spec.specs.declared.fault.EditFault.TheVariants as fault
use Rattle.keep_edit_spec.specs.Changed.{Changed, Place, place_of, put}
use Rattle.keep_edit_spec.specs.Edits.{Edit, changed_or_same, place, edited_document}
use Rattle.keep_edit_spec.specs.Laws.{IsEditable, IsLawfulEdit}
use Rattle.keep_edit_plan.specs.Reading.{limit, ProfiledText, text_in, IsTextOfTree}
use Rattle.keep_edit_plan.specs.Answers.{IsMadeAt, IsSpanOf, IsTextAfter, IsDone, text_after}
use Rattle.keep_edit_plan.specs.IndexChanges.{IsIndexChange}
use Rattle.keep_edit_plan.specs.Places.{place_at, IsDoneAt, IsOfEdit}
use Rattle.keep_edit_plan.specs.Plans.{EditPlanned, IsIndexChanged, IsPlan, IsPlanAt, IsPlanOf, SaysIndexChange}
use Rattle.keep_edit_plan.specs.declared.plan.IndexChange.{IndexChange}
use Rattle.keep_edit_plan.specs.declared.plan.Plan.{Plan}
use Rattle.keep_edit_plan.specs.declared.text_edit.TextEdit.{TextEdit}

-- a document that was read is one of which the laws speak
pub editable : (d : ProfiledText) (s : Document) → IsTextOfTree d s → IsEditable d.profile limit s
editable d s read = record { valid = read.reads.valid; shallow = read.reads.shallow; obeys = read.obeys }

-- what an edit answers that is refused
pub refused_planned : (s : Document) (e : Edit) (old : ProfiledText) (given : List ℕ) (f : EditFault)
    → IsDoneAt s e old given (Err f) → EditPlanned s e old (Err f)
refused_planned s e old given f h = subst (λ (r : Option EditFault). IsDone (IsPlan s e old) r (Err f)) (sym h) refl

-- a text stays one where whole characters of it are replaced by a text
put_utf8 : (text : List ℕ) (span : Span) (given : List ℕ) → IsUtf8 text → IsSpanOf text span → IsUtf8 given
    → IsUtf8 (put text (place_at span given))
put_utf8 text span given old in_text new =
    IsUtf8-append (take span.start text) (given ++ drop span.end text) (IsUtf8-take text span.start old in_text.starts)
    (IsUtf8-append given (drop span.end text) new (IsUtf8-drop text span.end old in_text.ends))

-- an edit that is not refused, and its law
module _ (d : ProfiledText) (s : Document) (e : Edit) (span : Span) (given : List ℕ) (read : IsTextOfTree d s)
    (at : IsDoneAt s e d given (Ok span)) (law : IsLawfulEdit d.profile limit s e) where
  -- the new text is that of the edited document
  edited : (new : List ℕ) → IsUtf8 new → new ≡ put d.text (place_at span given)
      → IsTextAfter s e (text_in d.profile new) d
  edited new utf8 is =
      let put_is : new ≡ put d.text (place s e) = is ∙ ap (put d.text) (sym at.1) in
      let reads : Reads d.profile limit new (edited_document s e) =
      subst (λ (t : List ℕ). Reads d.profile limit t (edited_document s e))
      (ap (λ (t : List ℕ). put t (place s e)) (sym read.reads.spelled) ∙ sym put_is) law.reads in
      record {
        profile = refl;
        text = put_is;
        tree = record { utf8 = utf8; reads = reads; obeys = law.obeys };
        changed = law.tree;
        growth = omega (arith, law.growth, ap length reads.spelled, ap length read.reads.spelled);
      }

  pub full_planned : EditPlanned s e d (Err fault.Memory)
  full_planned = subst (λ (r : Option EditFault). IsDone (IsPlan s e d) r (Err fault.Memory)) (sym at.0) refl

  within_text : (made : TextEdit) → IsMadeAt (place_at span given) made → IsSpanOf d.text made.place
  within_text made there = subst (λ (x : Span). IsSpanOf d.text x) (sym there.0) at.2

  after : (made : TextEdit) → IsMadeAt (place_at span given) made
      → IsTextAfter s e (text_in d.profile (text_after d.text made)) d
  after made there =
      edited (text_after d.text made)
      (put_utf8 d.text made.place (string_bytes made.new) read.utf8 (within_text made there)
      (IsUtf8-string_bytes made.new))
      (ap₂ (λ (x : Span) (g : List ℕ). put d.text (place_at x g)) there.0 there.1)

  of_edit : (made : TextEdit) → IsMadeAt (place_at span given) made → IsOfEdit d made
  of_edit made there = record {
    tree = s;
    edit = e;
    changed = law.changed;
    read = read;
    is = law.is;
    new = subst (λ (c : Option (Changed Document)).
        IsTextOfTree (text_in d.profile (text_after d.text made)) (changed_or_same s c).to) law.is
        (after made there).tree;
    at = subst (λ (c : Option (Changed Document)). IsMadeAt (place_of (changed_or_same s c)) made) law.is
        (subst (λ (p : Place). IsMadeAt p made) (sym at.1) there);
    within = within_text made there;
  }

  index_changed : (made : TextEdit) → IsMadeAt (place_at span given) made → (change : Option IndexChange)
      → IfSome change (IsIndexChange s (edited_document s e)) → IfSome change (IsIndexChanged d made)
  index_changed made there None is = tt
  index_changed made there (Some k) is =
      record { from = s; to = edited_document s e; read = read; new = (after made there).tree; is = is }

  -- the plan, with a change of the index or none
  module _ (change : Option IndexChange) (is : IfSome change (IsIndexChange s (edited_document s e))) where
    pub planned : (SaysIndexChange s e → is_some change ≡ true) → (result : Result Plan EditFault)
        → IsPlanAt span given change result → EditPlanned s e d result
    planned some (Err f) h = subst (λ (g : EditFault). EditPlanned s e d (Err g)) (sym h) full_planned
    planned some (Ok plan) (there, same) =
        subst (λ (r : Option EditFault). IsDone (IsPlan s e d) r (Ok plan)) (sym at.0)
        (record {
          made = (subst (λ (p : Place). IsMadeAt p plan.text_edit) (sym at.1) there, after plan.text_edit there);
          change = subst (λ (c : Option IndexChange). IfSome c (IsIndexChange s (edited_document s e))) (sym same) is;
          some = λ one. subst (λ (c : Option IndexChange). is_some c ≡ true) (sym same) (some one);
        })

    -- whatever the edit
    pub of_plan : (made : TextEdit) → IsMadeAt (place_at span given) made
        → IsOfEdit d made × IfSome change (IsIndexChanged d made)
    of_plan made there = (of_edit made there, index_changed made there change is)

    pub plan_of_edit : (result : Result Plan EditFault) → IsPlanAt span given change result → IfOk result (IsPlanOf d)
    plan_of_edit (Err f) h = tt
    plan_of_edit (Ok plan) (there, same) =
        let (edit, changed) = of_plan plan.text_edit there in
        (edit, subst (λ (c : Option IndexChange). IfSome c (IsIndexChanged d plan.text_edit)) (sym same) changed)
