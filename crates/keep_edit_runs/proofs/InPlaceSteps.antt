-- Edits of a list that are made at once, and one more that adds a line in the place of what one of them takes, or right
-- before what one takes.
--
-- What each of these needs is known, so by the law of such lines the edits with it are made at once, where that one
-- comes after it (BeforeSteps). A line that comes before what is taken does not come at the end of the text.
--
-- Theorems: `more_in_place`, `more_before`; `line_in_place`, `line_before`: the insert adds its line in the document
-- after the edits.
use Rattle.std.proofs.Common.{[], ◌≡◌, ◌<◌, ◌∷◌, ◌++◌, ℕ, suc, List, length, get_or, refl, sym}
use Rattle.std.proofs.Common.{◌≢◌, ap, append_assoc, subst, subst₂, ◌∙◌, All, IsUtf8, arith, inl, inr, Option, Some}
use Rattle.std.proofs.Common.{true}
use Rattle.std.specs.Prelude.{◌⊎◌, IsTrue}
use Rattle.std.specs.List.{list_any}
use Rattle.std.proofs.lemmas.List.Elements.{All-cons, All-head, All-tail, All-weaker}
use Rattle.std.proofs.lemmas.Str.{IsUtf8-string_bytes}
use Rattle.keep_syntax.specs.Tree.{Document, text}
use Rattle.keep_path.specs.Path.{Part}
use Rattle.keep_edit_spec.specs.Changed.{put}
use Rattle.keep_edit_spec.specs.InsertKinds.{Added, IsAfterLine, added_as}
use Rattle.keep_edit_spec.specs.declared.line_kind.LineKind.{LineKind}
use Rattle.keep_edit_spec.specs.declared.line_kind.LineKind.TheVariants.{LastInBody, OfDotted}
use Rattle.keep_edit_spec.specs.Edits as law
use Rattle.keep_edit_spec.specs.LinesInPlace.{CanComeInPlace, FreesPlace, IsPutBefore, IsRunBefore}
use Rattle.keep_edit_spec.specs.RunLists.{changes_of, lines_of, seen_of}
use Rattle.keep_edit_spec.specs.Runs as runs
use Rattle.keep_edit_spec.specs.Runs.{IsBeforeHeaders, KeepsPlace, LeaveNewline, LetsCome, LetsTable, takes_up_to}
use Rattle.keep_edit_spec.specs.TextChanges.{IsBeside, TextChange, with_change}
use Rattle.keep_edit_spec.proofs.Shared.{all_with}
use Rattle.keep_edit_spec.proofs.Shared.{run_goes_on_before, run_goes_on_in_place}
use Rattle.keep_edit_plan.proofs.Shared.{change_in, editable}
use Rattle.keep_edit_plan.specs.TextEdits.{IsChangeIn, IsFreed, change_of}
use Rattle.keep_edit_plan.specs.declared.edit.Edit.{Edit}
use Rattle.keep_edit_plan.specs.declared.text_edit.TextEdit.{TextEdit}
use Rattle.keep_edit_runs.specs.AddedLines.{IsHeaderKnown, IsKnownAt, line_of}
use Rattle.keep_edit_runs.specs.Lists.{IsEdit}
use Rattle.keep_edit_runs.specs.Newlines.{LeavesHere}
use Rattle.keep_edit_plan.specs.Reading.{IsTextOfTree, ProfiledText, limit}
use Rattle.keep_edit_runs.specs.Runs.{IsAddedBehind, IsAddedRightBefore, IsKnownThen, IsLineKept, IsRunTo}
use Rattle.keep_edit_runs.specs.Runs.{LeavesAlone, MakesInRun, MakesInRunHere, no_value, outlined, plain}
use Rattle.keep_edit_runs.specs.declared.added_lines.AddedLines.{AddedLines}
use Rattle.keep_edit_runs.specs.declared.outline.Outline.{Outline}
use Rattle.keep_edit_runs.proofs.AheadSteps.{IsInsertThere}
use Rattle.keep_edit_runs.proofs.BeforeSteps as steps
use Rattle.keep_edit_runs.proofs.BeforeSteps.{IsInsert, insert_is}
use Rattle.keep_edit_runs.proofs.NewlineSteps.{leave_here}
use Rattle.keep_edit_runs.proofs.RunSteps.{AreMadeTo, IsPlaced, before_headers, in_middle}

-- ---- in the place of what one of them takes

module _ (s : Document) (edits : List Edit) (n : ℕ) (old now : ProfiledText) (before : Document)
    (outlines : List Outline) (changes new : List TextChange) (adds next_adds : AddedLines)
    (read : IsTextOfTree now before) (h : IsRunTo s edits n old now before outlines changes adds) (d x : Edit)
    (lt : n < length edits) (here : get_or edits n d ≡ x) (o : Outline) (e a : law.Edit) (given : IsEdit x e)
    (plain_is : plain a ≡ outlined o) (first : List Part) (is_insert : outlined o ≡ law.insert first no_value)
    (c : TextChange) (makes : MakesInRun now.profile before e a c (Some LastInBody))
    (others_alone : All (λ y. LeavesAlone y o) outlines) (leave : All (LeavesHere now) changes)
    (freed : IsFreed now.text changes c.at)
    (it : IsAddedBehind now.text adds changes o c (Some LastInBody) next_adds new)
    (utf8 : All (λ b. IsUtf8 b.new) new) (within : All (IsChangeIn now.text) new) where
  abbrev its : IsInsert s edits n old now before outlines changes new adds next_adds read h d x lt here o e a given
      plain_is first is_insert LastInBody c makes others_alone it.kept
  its =
      insert_is s edits n old now before outlines changes new adds next_adds read h d x lt here o e a given
      plain_is first is_insert LastInBody c makes others_alone it.kept

  abbrev line : Added
  line = added_as before its.path c

  line_is : line_of first c.at LastInBody ≡ line
  line_is =
      steps.line_is s edits n old now before outlines changes new adds next_adds read h d x lt here o e a given
      plain_is first is_insert LastInBody c makes others_alone it.kept

  known : IsKnownThen adds changes (line_of first c.at LastInBody) next_adds
  known = it.kept.own first LastInBody is_insert refl

  can : CanComeInPlace before h.ms its.path c
  can = record {
    after = All-weaker (IsKnownAt adds) (λ l. IsAfterLine l line)
        (λ l known_l. subst (IsAfterLine l) line_is (known.after l known_l)) (lines_of before h.ms) h.lines;
    passed = All-weaker (IsHeaderKnown adds) (LetsTable line)
        (λ f known_f. subst (λ (l : Added). LetsTable l f) line_is (known.passed f known_f)) (seen_of before h.ms)
        h.headers_known;
    newline = leave_here now before read (changes_of h.ms)
        (subst (All (LeavesHere now)) (sym h.changes_are) leave);
    before = subst (λ (bytes : List ℕ). IsBeforeHeaders bytes (seen_of before h.ms) c.at) read.reads.spelled
        (before_headers now.text (seen_of before h.ms) c.at adds h.counts.appended (it.ends LastInBody refl));
  }

  r : IsRunBefore now.profile limit before h.ms its.path its.value LastInBody c new
  r =
      subst (IsRunBefore now.profile limit before h.ms its.path its.value LastInBody c)
      (ap (λ (cs : List TextChange). with_change cs c) h.changes_are ∙ sym it.changes_are)
      (run_goes_on_in_place now.profile limit before h.ms its.path its.value freed.before freed.c freed.after c
      (editable now before read) h.at_once its.adds_it
      (steps.others s edits n old now before outlines changes new adds next_adds read h d x lt here o e a given plain_is
      first is_insert LastInBody c makes others_alone it.kept)
      (subst (All (λ b. IsBeside b c)) (sym h.changes_are) it.beside) can (h.changes_are ∙ freed.is)
      (subst (λ (bytes : List ℕ). FreesPlace bytes (freed.before ++ freed.after) freed.c c.at) read.reads.spelled
      freed.frees))

  made_in_place : IsRunTo s edits (suc n) old now before (outlines ++ o ∷ []) new next_adds
  made_in_place =
      steps.made_before s edits n old now before outlines changes new adds next_adds read h d x lt here o e a given
      plain_is first is_insert LastInBody c makes others_alone it.kept r (λ same. cc) utf8 within

  -- in the document after the edits it adds its line still
  pub line_in_place : IsInsertThere now.profile before h.made.tree e a LastInBody c.new
  line_in_place =
      steps.made_there s edits n old now before outlines changes new adds next_adds read h d x lt here o e a given
      plain_is first is_insert LastInBody c makes others_alone it.kept r (λ same. cc) utf8 within

-- ---- right before what one of them takes

module _ (s : Document) (edits : List Edit) (n : ℕ) (old now : ProfiledText) (before : Document)
    (outlines : List Outline) (changes new : List TextChange) (adds next_adds : AddedLines)
    (read : IsTextOfTree now before) (h : IsRunTo s edits n old now before outlines changes adds) (d x : Edit)
    (lt : n < length edits) (here : get_or edits n d ≡ x) (o : Outline) (e a : law.Edit) (given : IsEdit x e)
    (plain_is : plain a ≡ outlined o) (first : List Part) (is_insert : outlined o ≡ law.insert first no_value)
    (c : TextChange) (makes : MakesInRun now.profile before e a c (Some OfDotted))
    (others_alone : All (λ y. LeavesAlone y o) outlines) (placed : IsPlaced outlines now changes o c.at)
    (kept : IsLineKept adds changes o c.at (Some OfDotted) next_adds) (put : IsPutBefore changes c new)
    (utf8 : All (λ b. IsUtf8 b.new) new) (within : All (IsChangeIn now.text) new) where
  abbrev its_insert : IsInsert s edits n old now before outlines changes new adds next_adds read h d x lt here o e a
      given plain_is first is_insert OfDotted c makes others_alone kept
  its_insert =
      insert_is s edits n old now before outlines changes new adds next_adds read h d x lt here o e a given
      plain_is first is_insert OfDotted c makes others_alone kept

  abbrev own_line : Added
  own_line = added_as before its_insert.path c

  own_line_is : line_of first c.at OfDotted ≡ own_line
  own_line_is =
      steps.line_is s edits n old now before outlines changes new adds next_adds read h d x lt here o e a given
      plain_is first is_insert OfDotted c makes others_alone kept

  its_known : IsKnownThen adds changes (line_of first c.at OfDotted) next_adds
  its_known = kept.own first OfDotted is_insert refl

  -- it does not come at the end of the text
  not_at_end : c.at ≢ length now.text
  not_at_end same =
      let next_within : IsChangeIn now.text put.next =
      in_middle (IsChangeIn now.text) (put.before ++ c ∷ []) put.after put.next
      (subst (All (IsChangeIn now.text)) (put.is ∙ sym (append_assoc put.before (c ∷ []) (put.next ∷ put.after)))
      within) in
      omega (arith, same, put.at, put.some, next_within.ends.0)

  keeps : KeepsPlace before (seen_of before h.ms) (changes_of h.ms) (lines_of before h.ms)
      (law.insert its_insert.path its_insert.value) c
  keeps = (
    record {
      after = All-weaker (IsKnownAt adds) (λ l. IsAfterLine l own_line)
          (λ l known_l. subst (IsAfterLine l) own_line_is (its_known.after l known_l)) (lines_of before h.ms) h.lines;
      stays = λ other. ap (list_any (takes_up_to c.at)) h.changes_are ∙ its_known.stays (λ same. cc);
      passed = All-weaker (IsHeaderKnown adds) (LetsTable own_line)
          (λ f known_f. subst (λ (l : Added). LetsTable l f) own_line_is (its_known.passed f known_f))
          (seen_of before h.ms) h.headers_known;
    },
    alike (placed.insert (ap runs.is_insert is_insert)),
  )
    where
      alike : All (λ y. runs.is_insert (outlined y) ≡ true) outlines
          ⊎ (All (LeavesHere now) changes × All (LetsCome now.text changes c.at) changes)
          → All (λ f. IsTrue (runs.is_insert f)) (seen_of before h.ms)
          ⊎ (LeaveNewline before (changes_of h.ms)
          × (All (LetsCome (text before) (changes_of h.ms) c.at) (changes_of h.ms)
          × IsBeforeHeaders (text before) (seen_of before h.ms) c.at))
      alike (inl all) = inl (h.inserts all)
      alike (inr (leave, come)) = inr (
        leave_here now before read (changes_of h.ms) (subst (All (LeavesHere now)) (sym h.changes_are) leave),
        subst₂ (λ (bytes : List ℕ) (cs : List TextChange). All (LetsCome bytes cs c.at) cs
            × IsBeforeHeaders bytes (seen_of before h.ms) c.at) read.reads.spelled (sym h.changes_are)
            (come, inr not_at_end),
      )

  its_run : IsRunBefore now.profile limit before h.ms its_insert.path its_insert.value OfDotted c new
  its_run =
      run_goes_on_before now.profile limit before h.ms its_insert.path its_insert.value c new
      (editable now before read) h.at_once its_insert.adds_it
      (steps.others s edits n old now before outlines changes new adds next_adds read h d x lt here o e a given plain_is
      first is_insert OfDotted c makes others_alone kept) keeps
      (subst (λ (cs : List TextChange). IsPutBefore cs c new) (sym h.changes_are) put)

  made_right_before : IsRunTo s edits (suc n) old now before (outlines ++ o ∷ []) new next_adds
  made_right_before =
      steps.made_before s edits n old now before outlines changes new adds next_adds read h d x lt here o e a given
      plain_is first is_insert OfDotted c makes others_alone kept its_run (λ same. cc) utf8 within

  pub line_before : IsInsertThere now.profile before h.made.tree e a OfDotted c.new
  line_before =
      steps.made_there s edits n old now before outlines changes new adds next_adds read h d x lt here o e a given
      plain_is first is_insert OfDotted c makes others_alone kept its_run (λ same. cc) utf8 within

-- what holds of each change holds with one more before another
pub each_before : (P : TextChange → Type 0) (old new : List TextChange) (c : TextChange) → IsPutBefore old c new
    → All P old → P c → All P new
each_before P old new c put all its = subst (All P) (sym put.is) (by put.before (subst (All P) put.was all))
  where
    by : (before : List TextChange) → All P (before ++ put.next ∷ put.after)
        → All P (before ++ c ∷ put.next ∷ put.after)
    by [] h = All-cons P c (put.next ∷ put.after) its h
    by (x ∷ before) h =
        All-cons P x (before ++ c ∷ put.next ∷ put.after)
        (All-head P x (before ++ put.next ∷ put.after) h)
        (by before (All-tail P x (before ++ put.next ∷ put.after) h))

-- ---- as the code goes

pub more_in_place : (edits : List Edit) (first end : ℕ) (now : ProfiledText) (outlines : List Outline)
    (changes new : List TextChange) (adds next : AddedLines) (d x : Edit) (o : Outline) (path : List Part)
    (t : TextEdit)
    → AreMadeTo edits first end now outlines changes adds → end < length edits → get_or edits end d ≡ x
    → MakesInRunHere now x (outlined o) t (Some LastInBody) → outlined o ≡ law.insert path no_value
    → All (λ y. LeavesAlone y o) outlines → All (LeavesHere now) changes → IsFreed now.text changes (change_of t).at
    → IsAddedBehind now.text adds changes o (change_of t) (Some LastInBody) next new
    → AreMadeTo edits first (suc end) now (outlines ++ o ∷ []) new next
more_in_place edits first end now outlines changes new adds next d x o path t so_far lt here makes is alone leave
    freed it =
    let c : TextChange = change_of t in
    let utf8 =
    subst (All (λ b. IsUtf8 b.new)) (sym it.changes_are)
    (all_with (λ b. IsUtf8 b.new) changes c so_far.utf8 (IsUtf8-string_bytes t.new)) in
    let within =
    subst (All (IsChangeIn now.text)) (sym it.changes_are)
    (all_with (IsChangeIn now.text) changes c so_far.within (change_in now.text t makes.within)) in
    record {
      made = λ s old h. made_in_place s edits end old now h.tree outlines changes new adds next h.read
          (so_far.made s old h) d x lt here o makes.edit (makes.in_run h.tree) makes.is
          (makes.outline_is h.tree h.read) path is c (makes.makes h.tree h.read) alone leave freed it utf8 within;
      within = within;
      utf8 = utf8;
    }

pub more_before : (edits : List Edit) (first end : ℕ) (now : ProfiledText) (outlines : List Outline)
    (changes new : List TextChange) (adds next : AddedLines) (d x : Edit) (o : Outline) (t : TextEdit)
    (kind : Option LineKind)
    → AreMadeTo edits first end now outlines changes adds → end < length edits → get_or edits end d ≡ x
    → MakesInRunHere now x (outlined o) t kind → All (λ y. LeavesAlone y o) outlines
    → IsPlaced outlines now changes o (change_of t).at
    → IsAddedRightBefore now adds changes o (change_of t) kind next new
    → AreMadeTo edits first (suc end) now (outlines ++ o ∷ []) new next
more_before edits first end now outlines changes new adds next d x o t kind so_far lt here makes alone placed it =
    let c : TextChange = change_of t in
    let own : MakesInRunHere now x (outlined o) t (Some OfDotted) =
    subst (MakesInRunHere now x (outlined o) t) it.line_is makes in
    let kept : IsLineKept adds changes o c.at (Some OfDotted) next =
    subst (λ (l : Option LineKind). IsLineKept adds changes o c.at l next) it.line_is it.kept in
    let utf8 = each_before (λ b. IsUtf8 b.new) changes new c it.put so_far.utf8 (IsUtf8-string_bytes t.new) in
    let within =
    each_before (IsChangeIn now.text) changes new c it.put so_far.within (change_in now.text t own.within) in
    record {
      made = λ s old h. made_right_before s edits end old now h.tree outlines changes new adds next h.read
          (so_far.made s old h) d x lt here o own.edit (own.in_run h.tree) own.is (own.outline_is h.tree h.read)
          it.first it.is c (own.makes h.tree h.read) alone placed kept it.put utf8 within;
      within = within;
      utf8 = utf8;
    }
