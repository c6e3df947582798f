-- Pairs of edits of a list, an insert that adds a line and the remove of that line: the edits up to them are made, and
-- the text is as it was.
--
-- By the law of such pairs neither edit is refused, and the document is the one before both.
--
-- Theorems: `two_undone`: with one pair more; `undone_here`: what two edits are found to do.
use Rattle.std.proofs.Common.{◌≡◌, ◌<◌, ◌∷◌, ◌++◌, [], ℕ, suc, List, length, take, get_or, refl, sym, ap, subst}
use Rattle.std.proofs.Common.{◌∙◌, arith, None, true, false, not}
use Rattle.std.specs.Prelude.{Bool, IsTrue, Ok}
use denote.Enum.Bare.{sameb}
use Rattle.keep_types.specs.declared.leaf.Profile.{Profile}
use Rattle.keep_types.specs.declared.leaf.Profile.TheVariants.{Wide}
use Rattle.keep_syntax.specs.Tree.{Document, Value}
use Rattle.keep_path.specs.Path.{Part}
use Rattle.keep_edit_spec.specs.Answers.{applied_edits}
use Rattle.keep_edit_spec.specs.DottedLines.{AddsLineTo}
use Rattle.keep_edit_spec.specs.Edits as law
use Rattle.keep_edit_spec.specs.Edits.{edited_document}
use Rattle.keep_edit_spec.specs.Refusals.{refusal}
use Rattle.keep_edit_spec.specs.TextChanges.{TextChange}
use Rattle.keep_edit_spec.specs.UndoneInserts.{IsUndone}
use Rattle.keep_edit_spec.specs.contracts.line_kind.LineKind.{the_type}
use Rattle.keep_edit_spec.specs.declared.line_kind.LineKind.{LineKind}
use Rattle.keep_edit_spec.specs.declared.line_kind.LineKind.TheVariants.{LastInBody, OfDotted, WithHeader}
use Rattle.keep_edit_spec.proofs.Shared.{remove_undoes_insert}
use Rattle.keep_edit_plan.proofs.Shared.{editable}
use Rattle.keep_edit_plan.specs.Reading.{IsAcceptedValue, ProfiledText, limit}
use Rattle.keep_edit_plan.specs.TextEdits.{change_of}
use Rattle.keep_edit_plan.specs.declared.edit.Edit.{Edit}
use Rattle.keep_edit_plan.specs.declared.edit.Edit.TheVariants as edit
use Rattle.keep_edit_plan.specs.declared.text_edit.TextEdit.{TextEdit}
use Rattle.keep_edit_runs.specs.Lists.{AreMade, IsEdit}
use Rattle.keep_edit_runs.specs.Runs.{MakeChanges}
use Rattle.keep_edit_runs.specs.Undone.{IsUndoneHere}
use Rattle.keep_edit_runs.proofs.InsertAgainSteps.{AddsAt}
use Rattle.keep_edit_runs.proofs.MadeLists.{applied_more, growth_more, zip_more}

-- an insert that adds such a line is not refused
adds_allowed : (dotted : Bool) (profile : Profile) (s : Document) (path : List Part) (value : Value) (c : TextChange)
    → AddsLineTo dotted profile limit s path value c → refusal profile limit s (law.insert path value) ≡ None
adds_allowed true profile s path value c adds = adds.allowed
adds_allowed false profile s path value c adds = adds.allowed

-- ---- one pair more

module _ (edits : List Edit) (n : ℕ) (now : ProfiledText) (x y : Edit) (lt : suc n < length edits)
    (here : get_or edits n x ≡ x) (next : get_or edits (suc n) y ≡ y) (pair : IsUndoneHere now x y) (s : Document)
    (old : ProfiledText) (h : AreMade s (take n edits) old now) where
  abbrev e : law.Edit
  e = law.insert pair.path pair.value

  abbrev back : law.Edit
  back = law.remove pair.path

  adds : AddsLineTo pair.dotted now.profile limit h.tree pair.path pair.value pair.change
  adds = pair.line h.tree h.read

  undone : IsUndone now.profile limit h.tree pair.path pair.value
  undone =
      remove_undoes_insert now.profile limit h.tree pair.path pair.value pair.change pair.dotted
      (editable now h.tree h.read) adds

  abbrev es : List law.Edit
  es = h.es ++ e ∷ []

  first : applied_edits old.profile limit es s ≡ Ok (edited_document h.tree e)
  first =
      applied_more old.profile 0 h.es e s h.tree h.made
      (subst (λ (p : Profile). refusal p limit h.tree e ≡ None) h.profile
      (adds_allowed pair.dotted now.profile h.tree pair.path pair.value pair.change adds))

  both : applied_edits old.profile limit (es ++ back ∷ []) s ≡ Ok (edited_document (edited_document h.tree e) back)
  both =
      applied_more old.profile 0 es back s (edited_document h.tree e) first
      (subst (λ (p : Profile). refusal p limit (edited_document h.tree e) back ≡ None) h.profile undone.allowed)

  pub two_made : AreMade s (take (suc (suc n)) edits) old now
  two_made = record {
    es = es ++ back ∷ [];
    are = zip_more edits (suc n) y y es back lt next
        (zip_more edits n x x h.es e (omega (arith, lt)) here h.are pair.inserts) pair.removes;
    tree = h.tree;
    made = both ∙ ap Ok undone.same;
    read = h.read;
    profile = h.profile;
    growth = omega (arith, h.growth, growth_more h.es e, growth_more es back);
  }

pub two_undone : (edits : List Edit) (begin n : ℕ) (now : ProfiledText) (x y : Edit) → suc n < length edits
    → get_or edits n x ≡ x → get_or edits (suc n) y ≡ y → IsUndoneHere now x y → MakeChanges edits begin n now []
    → MakeChanges edits begin (suc (suc n)) now []
two_undone edits begin n now x y lt here next pair so_far s old h =
    two_made edits n now x y lt here next pair s old (so_far s old h)

-- ---- as the code goes

pub undone_here : (now : ProfiledText) (x y : Edit) (path gone : List Part) (given : List ℕ) (t : TextEdit)
    (kind : LineKind) → x ≡ edit.Insert path given → y ≡ edit.Remove gone → gone ≡ path
    → IsTrue (not (sameb the_type kind WithHeader)) → AddsAt now path given t kind → IsAcceptedValue Wide given
    → IsUndoneHere now x y
undone_here now x y path gone given t kind x_is y_is same line adds (v, value) = by kind line adds
  where
    inserts : IsEdit x (law.insert path v)
    inserts = subst (λ (k : Edit). IsEdit k (law.insert path v)) (sym x_is) (v, value, refl)

    removes : IsEdit y (law.remove path)
    removes = subst (λ (k : Edit). IsEdit k (law.remove path)) (sym y_is) (ap law.remove (sym same))

    by : (k : LineKind) → IsTrue (not (sameb the_type k WithHeader)) → AddsAt now path given t k → IsUndoneHere now x y
    by LastInBody line adds = record {
      path = path;
      value = v;
      inserts = inserts;
      removes = removes;
      dotted = false;
      change = change_of t;
      line = λ s read. adds s read v value;
    }
    by OfDotted line adds = record {
      path = path;
      value = v;
      inserts = inserts;
      removes = removes;
      dotted = true;
      change = change_of t;
      line = λ s read. adds s read v value;
    }
    by WithHeader line adds = absurd cc
