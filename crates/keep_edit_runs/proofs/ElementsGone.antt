-- Edits of a list that are made at once, at one document: a run from which no element is gone, and one element less.
--
-- A run of edits is one from which no element is gone. An edit is elsewhere than at a path and below it where it leaves
-- alone both a remove and a set there, so edits that are seen as these outlines say are elsewhere where those are. By
-- the law of runs from which elements go, the remove of one more is not refused, and its bytes are taken where the
-- others move them. The paths of all that is gone lead back as those that the code keeps, as in SectionSteps.
--
-- Theorems: `none_gone_to`: a run of edits, as one from which none is gone; `one_element_less`: with one element less;
-- `plain_elsewhere`: where an edit is does not hang on values; `of_one`, `in_none`: arrays of a list.
use Rattle.std.proofs.Common.{◌≡◌, ◌<◌, ◌∷◌, ◌++◌, [], ℕ, suc, List, length, take, get_or, sym, ap, subst}
use Rattle.std.proofs.Common.{◌∙◌, arith, All, IsUtf8}
use Rattle.std.proofs.lemmas.List.Elements.{All-get_or, All-nil, All-push, All-weaker}
use Rattle.keep_syntax.specs.Tree.{Document}
use Rattle.keep_path.specs.Path.{Part}
use Rattle.keep_edit_spec.specs.Edits as law
use Rattle.keep_edit_spec.specs.Edits.{edited_document}
use Rattle.keep_edit_spec.specs.ElementRuns.{IsElementRun, IsElementRunWithout, IsElsewhere, changed_path}
use Rattle.keep_edit_spec.specs.InsertKinds.{Added}
use Rattle.keep_edit_spec.specs.RemovedHeaders.{RemovesHeader, first_path, path_before}
use Rattle.keep_edit_spec.specs.Runs as runs
use Rattle.keep_edit_spec.specs.RunLists.{document_after, lines_of, seen_of}
use Rattle.keep_edit_spec.specs.Runs.{AreApart}
use Rattle.keep_edit_spec.specs.TextChanges.{IsBeside, TextChange, with_change}
use Rattle.keep_edit_spec.proofs.Shared.{first_with}
use Rattle.keep_edit_plan.proofs.Shared.{editable}
use Rattle.keep_edit_plan.specs.TextEdits.{IsChangeIn}
use Rattle.keep_edit_plan.specs.declared.edit.Edit.{Edit}
use Rattle.keep_edit_runs.specs.Gone.{IsGoneWith}
use Rattle.keep_edit_runs.specs.GoneBetween.{HasArray, IsElementRunTo}
use Rattle.keep_edit_runs.specs.Lists.{AreMade, IsEdit}
use Rattle.keep_edit_plan.specs.Reading.{IsTextOfTree, ProfiledText, limit}
use Rattle.keep_edit_runs.specs.Runs.{IsRunTo, changed_text, no_value, outlined, plain}
use Rattle.keep_edit_runs.specs.declared.added_lines.AddedLines.{AddedLines}
use Rattle.keep_edit_runs.specs.declared.gone_between.GoneBetween.{GoneBetween}
use Rattle.keep_edit_runs.specs.declared.outline.Outline.{Outline}
use Rattle.keep_edit_spec.proofs.Shared.{element_run_goes_on_without, run_is_element_run}
use Rattle.keep_edit_runs.proofs.RunSteps.{change_made, tree_made}

-- ---- edits elsewhere

apart_back : (path other : List Part) → AreApart path other → AreApart other path
apart_back path other h = (h.1, h.0)

-- An edit elsewhere leaves alone what is done at the path.
alone_remove : (path : List Part) (e : law.Edit) → IsElsewhere path e → runs.LeavesAlone e (law.remove path)
alone_remove path (law.set q v) h = apart_back path q h
alone_remove path (law.insert q v) h = apart_back path q h
alone_remove path (law.rename q name) h = (apart_back path q h.0, h.1)
alone_remove path (law.remove q) h = tt
alone_remove path (law.append_table ks) h = h
alone_remove path (law.append_element ks) h = h

alone_set : (path : List Part) (e : law.Edit) → IsElsewhere path e → runs.LeavesAlone e (law.set path no_value)
alone_set path (law.set q v) h = tt
alone_set path (law.insert q v) h = apart_back path q h
alone_set path (law.rename q name) h = (apart_back path q h.0, h.1)
alone_set path (law.remove q) h = apart_back path q h
alone_set path (law.append_table ks) h = h
alone_set path (law.append_element ks) h = h

-- And one that leaves alone both a remove and a set there is elsewhere: of two of a kind it says nothing.
elsewhere_by : (path : List Part) (e : law.Edit) → runs.LeavesAlone e (law.remove path)
    → runs.LeavesAlone e (law.set path no_value) → IsElsewhere path e
elsewhere_by path (law.set q v) gone set = apart_back q path gone
elsewhere_by path (law.insert q v) gone set = apart_back q path gone
elsewhere_by path (law.rename q name) gone set = (apart_back q path gone.0, gone.1)
elsewhere_by path (law.remove q) gone set = apart_back q path set
elsewhere_by path (law.append_table ks) gone set = gone
elsewhere_by path (law.append_element ks) gone set = gone

-- It does not hang on values.
pub plain_elsewhere : (path : List Part) (e : law.Edit) → IsElsewhere path (plain e) → IsElsewhere path e
plain_elsewhere path (law.set q v) h = h
plain_elsewhere path (law.insert q v) h = h
plain_elsewhere path (law.rename q name) h = h
plain_elsewhere path (law.remove q) h = h
plain_elsewhere path (law.append_table ks) h = h
plain_elsewhere path (law.append_element ks) h = h

-- what holds of all arrays holds of one of them
pub of_one : (P : List Part → Type 0) (arrays : List (List Part)) (array : List Part) → All P arrays
    → HasArray arrays array → P array
of_one P arrays array all (k, other, less, is, same) =
    subst P (is ∙ same) (All-get_or P arrays k other less all)

-- and of none, none is one
pub in_none : (array : List Part) → HasArray [] array → ⊥
in_none array (k, other, less, is, same) = omega (arith, less)

-- ---- none gone

module _ (s : Document) (edits : List Edit) (n : ℕ) (old now : ProfiledText) (before : Document)
    (outlines : List Outline) (changes : List TextChange) (adds : AddedLines) (gone : GoneBetween)
    (read : IsTextOfTree now before) (same : gone.elements ≡ [])
    (h : IsRunTo s edits n old now before outlines changes adds) where
  abbrev es : List law.Edit
  es = seen_of before h.ms

  abbrev lines : List Added
  lines = lines_of before h.ms

  run : IsElementRun now.profile limit before es changes lines [] h.made.tree
  run =
      subst (IsElementRun now.profile limit before es changes lines []) h.tree_is
      (subst
      (λ (cs : List TextChange). IsElementRun now.profile limit before es cs lines [] (document_after before h.ms))
      h.changes_are
      (run_is_element_run now.profile limit before h.ms (editable now before read) h.at_once))

  away : (path : List Part) → All (λ x. IsElsewhere path (outlined x)) outlines → All (IsElsewhere path) es
  away path all =
      let removes : All (λ f. runs.LeavesAlone f (law.remove path)) es =
      h.alone (law.remove path)
      (All-weaker (λ x. IsElsewhere path (outlined x)) (λ x. runs.LeavesAlone (outlined x) (law.remove path))
      (λ x. alone_remove path (outlined x)) outlines all) in
      let sets : All (λ f. runs.LeavesAlone f (law.set path no_value)) es =
      h.alone (law.set path no_value)
      (All-weaker (λ x. IsElsewhere path (outlined x)) (λ x. runs.LeavesAlone (outlined x) (law.set path no_value))
      (λ x. alone_set path (outlined x)) outlines all) in
      λ k d lt. elsewhere_by path (get_or es k d) (removes k d lt) (sets k d lt)

  pub none_gone_to : IsElementRunTo s edits n old now before outlines changes adds gone.arrays.items gone.elements
  none_gone_to = record {
    made = h.made;
    es = es;
    lines = lines;
    paths = [];
    alone = h.alone;
    elsewhere = away;
    known = h.lines;
    counted = h.counts.appended;
    headers_known = h.headers_known;
    of_arrays = All-nil (λ path. HasArray gone.arrays.items (changed_path path));
    leads = λ q. ap (λ (paths : List (List Part)). first_path paths q) (sym same);
    run = run;
  }

-- ---- one element less

module _ (s : Document) (edits : List Edit) (n : ℕ) (old now : ProfiledText) (before : Document)
    (outlines : List Outline) (changes : List TextChange) (adds : AddedLines) (arrays next_arrays : List (List Part))
    (gone next : List (List Part)) (read : IsTextOfTree now before)
    (h : IsElementRunTo s edits n old now before outlines changes adds arrays gone) (d x : Edit) (lt : n < length edits)
    (here : get_or edits n d ≡ x) (path : List Part) (given : IsEdit x (law.remove path)) (c : TextChange)
    (removes : RemovesHeader now.profile limit before (first_path gone path) c) (more : IsGoneWith gone path next)
    (own : HasArray next_arrays (changed_path path))
    (away : All (λ y. IsElsewhere (changed_path path) (outlined y)) outlines)
    (kept : (array : List Part) → HasArray arrays array → HasArray next_arrays array)
    (beside : All (λ b. IsBeside b c) changes) (utf8 : All (λ b. IsUtf8 b.new) (with_change changes c))
    (within : All (IsChangeIn now.text) (with_change changes c)) where
  abbrev t : Document
  t = h.made.tree

  longer : IsElementRunWithout now.profile limit before h.es changes h.lines h.paths t path c
  longer =
      element_run_goes_on_without now.profile limit before h.es changes h.lines h.paths t path c h.run
      (subst (λ (q : List Part). RemovesHeader now.profile limit before q c) (sym (h.leads path)) removes)
      (h.elsewhere (changed_path path) away) beside

  made : AreMade s (take (suc n) edits) old (changed_text now (with_change changes c))
  made =
      change_made s edits n old now before changes read h.made d x lt here (law.remove path) given c h.run.text
      longer.run.text longer.run.follow longer.allowed longer.lawful utf8 within

  same_tree : edited_document t (law.remove path) ≡ made.tree
  unfolding made
  same_tree =
      tree_made s edits n old now before changes read h.made d x lt here (law.remove path) given c h.run.text
      longer.run.text longer.run.follow longer.allowed longer.lawful utf8 within

  pub one_element_less : IsElementRunTo s edits (suc n) old now before outlines (with_change changes c) adds
      next_arrays next
  one_element_less = record {
    made = made;
    es = h.es;
    lines = h.lines;
    paths = h.paths ++ path ∷ [];
    alone = h.alone;
    elsewhere = h.elsewhere;
    known = h.known;
    counted = h.counted;
    headers_known = h.headers_known;
    of_arrays = All-push (λ q. HasArray next_arrays (changed_path q)) h.paths path
        (All-weaker (λ q. HasArray arrays (changed_path q)) (λ q. HasArray next_arrays (changed_path q))
        (λ q. kept (changed_path q)) h.paths h.of_arrays) own;
    leads = λ q. first_with h.paths path q ∙ h.leads (path_before path q) ∙ sym (more q);
    run = subst
        (IsElementRun now.profile limit before h.es (with_change changes c) h.lines (h.paths ++ path ∷ []))
        same_tree longer.run;
  }
