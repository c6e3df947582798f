-- Removes of a list that take tables and elements with their headers: the edits so far are made in the document's text,
-- with what they take.
--
-- By the law of such runs one more is not refused, and its bytes are taken where those before it move them. So the
-- edits up to it are made, as in RunSteps. The paths of all that is gone lead back as those that the code keeps.
--
-- Theorems: `no_sections`, `more_sections`: before the first remove, and with one more; `sections_made`: so all are
-- made; `section_here`: what an edit is found to do.
use Rattle.std.proofs.Common.{◌≡◌, ◌<◌, ◌+◌, [], ◌∷◌, ◌++◌, ℕ, suc, List, length, take, get_or, refl, sym, subst}
use Rattle.std.proofs.Common.{◌∙◌, arith, All, IsUtf8}
use Rattle.std.proofs.lemmas.List.Elements.{All-nil}
use Rattle.std.proofs.lemmas.Str.{IsUtf8-string_bytes}
use Rattle.keep_syntax.specs.Tree.{Document}
use Rattle.keep_path.specs.Path.{Part}
use Rattle.keep_edit_spec.specs.Edits as law
use Rattle.keep_edit_spec.specs.Edits.{edited_document}
use Rattle.keep_edit_spec.specs.Laws.{IsLawfulEdit}
use Rattle.keep_edit_spec.specs.RemovedHeaders.{IsHeaderRun, IsHeaderRunLonger, RemovesHeader, first_path, path_before}
use Rattle.keep_edit_spec.specs.TextChanges.{IsBeside, TextChange, with_change}
use Rattle.keep_edit_spec.proofs.Shared.{all_with, first_with, header_run_goes_on, length_with}
use Rattle.keep_edit_spec.proofs.Shared.{none_is_header_run, remove_lawful}
use Rattle.keep_edit_plan.proofs.Shared.{change_in, editable}
use Rattle.keep_edit_plan.specs.Answers.{IsSpanOf}
use Rattle.keep_edit_plan.specs.TextEdits.{IsChangeIn, change_of}
use Rattle.keep_edit_plan.specs.declared.edit.Edit.{Edit}
use Rattle.keep_edit_plan.specs.declared.edit.Edit.TheVariants as edit
use Rattle.keep_edit_plan.specs.declared.text_edit.TextEdit.{TextEdit}
use Rattle.keep_edit_runs.specs.Gone.{IsGoneWith}
use Rattle.keep_edit_runs.specs.Lists.{IsEdit, AreMade}
use Rattle.keep_edit_plan.specs.Reading.{limit, IsTextOfTree, ProfiledText}
use Rattle.keep_edit_runs.specs.Runs.{IsHeaderRunTo, MakeChanges, RemovesHeaderHere, changed_text}
use Rattle.keep_edit_runs.proofs.RunSteps.{change_made, tree_made}

-- ---- one more

module _ (s : Document) (edits : List Edit) (first n : ℕ) (old now : ProfiledText) (before : Document)
    (changes : List TextChange) (read : IsTextOfTree now before) (gone next : List (List Part))
    (h : IsHeaderRunTo s edits first n old now before gone changes) (d x : Edit) (lt : n < length edits)
    (here : get_or edits n d ≡ x) (path : List Part) (given : IsEdit x (law.remove path)) (c : TextChange)
    (removes : RemovesHeader now.profile limit before (first_path gone path) c) (more : IsGoneWith gone path next)
    (beside : All (λ b. IsBeside b c) changes)
    (utf8 : All (λ b. IsUtf8 b.new) (with_change changes c))
    (within : All (IsChangeIn now.text) (with_change changes c)) where
  abbrev t : Document
  t = h.made.tree

  abbrev e : law.Edit
  e = law.remove path

  longer : IsHeaderRunLonger now.profile limit before h.all changes t path c
  longer =
      header_run_goes_on now.profile limit before h.all changes t path c h.run
      (subst (λ (q : List Part). RemovesHeader now.profile limit before q c) (sym (h.leads path)) removes) beside

  lawful : IsLawfulEdit now.profile limit t e
  lawful = remove_lawful now.profile limit t path h.run.editable longer.allowed

  made : AreMade s (take (suc n) edits) old (changed_text now (with_change changes c))
  made =
      change_made s edits n old now before changes read h.made d x lt here e given c h.run.text longer.run.text
      longer.run.follow longer.allowed lawful utf8 within

  same_tree : edited_document t e ≡ made.tree
  unfolding made
  same_tree =
      tree_made s edits n old now before changes read h.made d x lt here e given c h.run.text longer.run.text
      longer.run.follow longer.allowed lawful utf8 within

  pub one_more_section : IsHeaderRunTo s edits first (suc n) old now before next (with_change changes c)
  one_more_section = record {
    made = made;
    all = h.all ++ path ∷ [];
    run = subst (IsHeaderRun now.profile limit before (h.all ++ path ∷ []) (with_change changes c))
        same_tree longer.run;
    leads = λ q. first_with h.all path q ∙ h.leads (path_before path q) ∙ sym (more q);
  }

-- ---- as the code goes

-- So far these changes are made, and the edits up to number `end` are made by them; paths lead back by these.
pub record AreSectionsTaken (edits : List Edit) (first end : ℕ) (now : ProfiledText) (gone : List (List Part))
    (changes : List TextChange) : Type 0 where
  pub many : first + length changes ≡ end
  pub made : (s : Document) (old : ProfiledText) → (h : AreMade s (take first edits) old now)
      → IsHeaderRunTo s edits first end old now h.tree gone changes
  pub within : All (IsChangeIn now.text) changes
  pub utf8 : All (λ c. IsUtf8 c.new) changes

pub no_sections : (edits : List Edit) (first : ℕ) (now : ProfiledText) → AreSectionsTaken edits first first now [] []
no_sections edits first now = record {
  many = omega arith;
  made = λ s old h. record {
    made = h;
    all = [];
    run = none_is_header_run now.profile limit h.tree (editable now h.tree h.read);
    leads = λ q. refl;
  };
  within = All-nil (IsChangeIn now.text);
  utf8 = All-nil (λ c. IsUtf8 c.new);
}

pub more_sections : (edits : List Edit) (first end : ℕ) (now : ProfiledText) (gone next : List (List Part))
    (changes : List TextChange) (d x : Edit)
    (t : TextEdit) → AreSectionsTaken edits first end now gone changes → end < length edits → get_or edits end d ≡ x
    → RemovesHeaderHere now gone next x t → All (λ b. IsBeside b (change_of t)) changes
    → AreSectionsTaken edits first (suc end) now next (with_change changes (change_of t))
more_sections edits first end now gone next changes d x t so_far lt here removes beside =
    let c : TextChange = change_of t in
    let utf8 = all_with (λ b. IsUtf8 b.new) changes c so_far.utf8 (IsUtf8-string_bytes t.new) in
    let within = all_with (IsChangeIn now.text) changes c so_far.within (change_in now.text t removes.within) in
    record {
      many = omega (arith, so_far.many, length_with changes c);
      made = λ s old h. one_more_section s edits first end old now h.tree changes h.read gone next (so_far.made s old h)
          d x lt here removes.path removes.is c (removes.removes h.tree h.read) removes.gone_with beside utf8 within;
      within = within;
      utf8 = utf8;
    }

-- So all edits that the changes are of are made by them.
pub sections_made : (edits : List Edit) (first end : ℕ) (now : ProfiledText) (gone : List (List Part))
    (changes : List TextChange) → AreSectionsTaken edits first end now gone changes
    → MakeChanges edits first (first + length changes) now changes
sections_made edits first end now gone changes so_far s old h =
    subst (λ (n : ℕ). AreMade s (take n edits) old (changed_text now changes)) (sym so_far.many)
    (so_far.made s old h).made

-- An edit that is found to take a table or an element does so there.
pub section_here : (now : ProfiledText) (gone next : List (List Part)) (x : Edit) (path : List Part) (t : TextEdit)
    → x ≡ edit.Remove path
    → ((s : Document) → IsTextOfTree now s
    → RemovesHeader now.profile limit s (first_path gone path) (change_of t))
    → IsGoneWith gone path next → IsSpanOf now.text t.place → RemovesHeaderHere now gone next x t
section_here now gone next x path t is removes more within = record {
  path = path;
  is = subst (λ (y : Edit). IsEdit y (law.remove path)) (sym is) refl;
  removes = removes;
  gone_with = more;
  within = within;
}
