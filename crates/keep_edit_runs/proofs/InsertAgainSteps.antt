-- Edits of a list that are made at once, and one more that sets the value of a line that one of them adds: the line
-- with this value comes in the place of that one's.
--
-- By the law of runs with a line whose value is set later, the edits with an insert of the later value are made at once
-- too, and make the document that the set makes after all of them. So the set is not refused, the edits up to it are
-- made, and the text is that with its change in the place of the insert's. What is asked of an insert does not hang on
-- its value, so the outlines stay.
--
-- Theorems: `each_instead`: what holds of each change holds with one where another was; `line_here`, `inserted_again`;
-- `done_there`: the set is not refused after the edits.
use Rattle.std.proofs.Common.{[], ◌≡◌, ◌<◌, ◌∷◌, ◌++◌, ℕ, suc, List, take, length, get_or, refl, sym}
use Rattle.std.proofs.Common.{ap, subst, ◌∙◌, All, IsUtf8, inl, inr, None, false, true}
use Rattle.std.specs.Prelude.{◌⊎◌, Any, IsTrue}
use Rattle.std.proofs.lemmas.List.Elements.{All-cons, All-head, All-tail}
use Rattle.std.proofs.lemmas.Str.{IsUtf8-string_bytes}
use Rattle.keep_types.specs.declared.leaf.Profile.TheVariants.{Wide}
use Rattle.keep_syntax.specs.Tree.{Document, Value, text}
use Rattle.keep_path.specs.Path.{Part}
use Rattle.keep_edit_spec.specs.AddedLines.{first_new}
use Rattle.keep_edit_spec.specs.Changed.{put}
use Rattle.keep_edit_spec.specs.InsertKinds.{AddsAs, IsHeaderAt}
use Rattle.keep_edit_spec.specs.declared.line_kind.LineKind.{LineKind}
use Rattle.keep_edit_spec.specs.declared.line_kind.LineKind.TheVariants.{LastInBody, OfDotted, WithHeader}
use Rattle.keep_edit_spec.specs.Edits as law
use Rattle.keep_edit_spec.specs.Edits.{edited_document, place}
use Rattle.keep_edit_spec.specs.InsertLists.{IsRunInsertedAgain}
use Rattle.keep_edit_spec.specs.Laws.{IsGivenValue, IsLawfulEdit}
use Rattle.keep_edit_spec.specs.Refusals.{refusal}
use Rattle.keep_edit_spec.specs.RenameLists.{AllowsKey, IsRenameIn}
use Rattle.keep_edit_spec.specs.RunLists.{IsSetIn, MadeEdit, changes_of, document_after, lines_of, made, seen_of}
use Rattle.keep_edit_spec.specs.Runs as runs
use Rattle.keep_edit_spec.specs.FirstNewline.{LeavesNewline}
use Rattle.keep_edit_spec.specs.Runs.{IsRun, MakesChange}
use Rattle.keep_edit_spec.specs.TextChanges.{Follow, TextChange, text_with}
use Rattle.keep_edit_spec.proofs.Shared.{change_put, each_more, lines_more, run_goes_on_inserted, run_is_known}
use Rattle.keep_edit_spec.proofs.Shared.{set_lawful}
use Rattle.keep_edit_plan.proofs.Shared.{change_in, editable}
use Rattle.keep_edit_plan.specs.TextEdits.{HasInstead, IsChangeIn, change_of}
use Rattle.keep_edit_plan.specs.declared.edit.Edit.{Edit}
use Rattle.keep_edit_plan.specs.declared.edit.Edit.TheVariants as edit
use Rattle.keep_edit_plan.specs.declared.text_edit.TextEdit.{TextEdit}
use Rattle.keep_edit_runs.specs.Again.{InsertsAgainHere}
use Rattle.keep_edit_plan.specs.Answers.{IsSpanOf}
use Rattle.keep_edit_runs.specs.AddedLines.{IsHeaderKnown, IsKnownAt}
use Rattle.keep_edit_runs.specs.Lists.{AreMade, IsEdit}
use Rattle.keep_edit_runs.specs.Newlines.{LeavesHere}
use Rattle.keep_edit_plan.specs.Reading.{IsAcceptedValue, IsTextOfTree, IsTextOfValue, ProfiledText, limit}
use Rattle.keep_edit_runs.specs.Runs.{IsRunTo, changed_text, outlined}
use Rattle.keep_edit_runs.specs.declared.added_lines.AddedLines.{AddedLines}
use Rattle.keep_edit_runs.specs.declared.outline.Outline.{Outline}
use Rattle.keep_edit_runs.proofs.MadeMore.{more_made}
use Rattle.keep_edit_runs.proofs.RunSteps.{AreMadeTo, run_so_far, text_utf8, tree_of_run}
use Rattle.keep_edit_runs.proofs.SetAgainSteps.{IsDoneThere, all_but, counted_too, headers_apart, headers_in}

-- ---- the edits in the list

-- What an insert leaves alone does not hang on its value.
insert_alone : (path : List Part) (v w : Value) (f : law.Edit) → runs.LeavesAlone (law.insert path v) f
    → runs.LeavesAlone (law.insert path w) f
insert_alone path v w (law.set q x) h = h
insert_alone path v w (law.insert q x) h = h
insert_alone path v w (law.rename q name) h = h
insert_alone path v w (law.remove q) h = h
insert_alone path v w (law.append_table ks) h = h
insert_alone path v w (law.append_element ks) h = h

-- What one of them sets, or renames, it sets with another insert in the place of one.
pub set_in_more : (q path other : List Part) (v w : Value) (c d : TextChange) (later earlier : List MadeEdit)
    → IsSetIn q (later ++ made (law.insert path v) c ∷ earlier)
    → IsSetIn q (later ++ made (law.insert other w) d ∷ earlier)
set_in_more q path other v w c d [] earlier (inl (value, same)) = absurd cc
set_in_more q path other v w c d [] earlier (inr h) = inr h
set_in_more q path other v w c d (x ∷ later) earlier (inl its) = inl its
set_in_more q path other v w c d (x ∷ later) earlier (inr h) =
    inr (set_in_more q path other v w c d later earlier h)

pub rename_in_more : (q path other : List Part) (v w : Value) (c d : TextChange) (later earlier : List MadeEdit)
    → IsRenameIn q (later ++ made (law.insert path v) c ∷ earlier)
    → IsRenameIn q (later ++ made (law.insert other w) d ∷ earlier)
rename_in_more q path other v w c d [] earlier (inl (name, same)) = absurd cc
rename_in_more q path other v w c d [] earlier (inr h) = inr h
rename_in_more q path other v w c d (x ∷ later) earlier (inl its) = inl its
rename_in_more q path other v w c d (x ∷ later) earlier (inr h) =
    inr (rename_in_more q path other v w c d later earlier h)

-- what holds of each edit holds with one where another was
pub with_one : (P : MadeEdit → Type 0) (m by : MadeEdit) (later earlier : List MadeEdit) → P by
    → All P (later ++ m ∷ earlier) → All P (later ++ by ∷ earlier)
with_one P m by [] earlier its h = All-cons P by earlier its (All-tail P m earlier h)
with_one P m by (x ∷ later) earlier its h =
    All-cons P x (later ++ by ∷ earlier) (All-head P x (later ++ m ∷ earlier) h)
    (with_one P m by later earlier its (All-tail P x (later ++ m ∷ earlier) h))

-- what holds of each change holds with one where another was
pub each_instead : (P : TextChange → Type 0) (old new : List TextChange) (c d : TextChange) → HasInstead old c d new
    → All P old → P d → All P new
each_instead P old new c d r all its =
    subst (All P) (sym r.is) (all_but P r.before r.after c d (subst (All P) r.was all) its)

-- ---- one more

-- a line leaves the first newline of the text's document, or all edits with these outlines add lines
abbrev pub IsAlike : ProfiledText → List Outline → TextEdit → Type 0
IsAlike now outlines t = LeavesHere now (change_of t) ⊎ All (λ y. runs.is_insert (outlined y) ≡ true) outlines

module _ (s : Document) (edits : List Edit) (n : ℕ) (old now : ProfiledText) (before : Document)
    (outlines : List Outline) (changes new : List TextChange) (adds : AddedLines) (read : IsTextOfTree now before)
    (h : IsRunTo s edits n old now before outlines changes adds) (d x : Edit) (lt : n < length edits)
    (here : get_or edits n d ≡ x) (was t : TextEdit) (again : InsertsAgainHere now x was t)
    (alike : IsAlike now outlines t) (unfollowed : adds.has_follower ≡ false)
    (replaced : HasInstead changes (change_of was) (change_of t) new)
    (utf8 : All (λ b. IsUtf8 b.new) new) (within : All (IsChangeIn now.text) new) where
  abbrev e : law.Edit
  e = law.set again.path again.more

  leaves : IsAlike now outlines t
      → LeavesNewline before (change_of t) ⊎ All (λ f. IsTrue (runs.is_insert f)) (seen_of before h.ms)
  leaves (inl line) = inl (line before read)
  leaves (inr all) = inr (h.inserts all)

  r : IsRunInsertedAgain now.profile limit before h.ms again.path again.more replaced.before (change_of was)
      (change_of t) replaced.after
  r =
      run_goes_on_inserted now.profile limit before h.ms again.path again.value again.more again.kind replaced.before
      (change_of was) (change_of t) replaced.after (editable now before read) h.at_once
      (h.followed unfollowed) (again.added before read) (h.changes_are ∙ replaced.was) (again.adds before read)
      (leaves alike)

  abbrev ms : List MadeEdit
  ms = r.others

  so_far : IsRun now.profile limit before (seen_of before h.ms) changes (lines_of before h.ms) h.made.tree
  so_far = run_so_far s edits n old now before outlines changes adds read h

  goes_on : IsRun now.profile limit before (seen_of before ms) (changes_of ms) (lines_of before ms)
      (document_after before ms)
  goes_on = run_is_known now.profile limit before ms (editable now before read) r.still

  new_is : new ≡ changes_of ms
  new_is = replaced.is ∙ sym r.changes

  -- ---- the edit

  allowed : refusal now.profile limit h.made.tree e ≡ None
  allowed = subst (λ (u : Document). refusal now.profile limit u e ≡ None) h.tree_is r.allowed

  given : (kind : LineKind) → AddsAs kind now.profile limit before again.path again.more (change_of t)
      → IsGivenValue Wide again.more
  given LastInBody adds = adds.given
  given OfDotted adds = adds.given
  given WithHeader adds = adds.given

  lawful : IsLawfulEdit now.profile limit h.made.tree e
  lawful =
      set_lawful now.profile limit h.made.tree again.path again.more so_far.editable
      (given again.kind (again.adds before read)) allowed

  same : edited_document h.made.tree e ≡ document_after before ms
  same = ap (λ (u : Document). edited_document u e) (sym h.tree_is) ∙ r.same

  abbrev next : List ℕ
  next = text_with 0 now.text new

  next_utf8 : IsUtf8 next
  next_utf8 = text_utf8 now.text new read.utf8 (subst (Follow 0) (sym new_is) goes_on.follow) utf8 within

  -- the text is the one before with the edit's change in it
  next_is : next ≡ put (text_with 0 now.text changes) (place h.made.tree e)
  next_is =
      ap (λ (b : List ℕ). text_with 0 b new) read.reads.spelled
      ∙ ap (λ (cs : List TextChange). text_with 0 (text before) cs) new_is
      ∙ sym goes_on.text ∙ ap text (sym same) ∙ change_put h.made.tree e
      ∙ ap (λ (b : List ℕ). put b (place h.made.tree e))
      (so_far.text ∙ ap (λ (b : List ℕ). text_with 0 b changes) (sym read.reads.spelled))

  all_made : AreMade s (take (suc n) edits) old (changed_text now new)
  all_made =
      more_made (changed_text now changes) h.made.tree e h.made.read lawful next next_utf8 next_is s edits n old d x lt
      here again.is h.made refl allowed

  -- ---- the edits in the list

  abbrev first : MadeEdit
  first = made (law.insert again.path r.value) (change_of was)

  abbrev one : MadeEdit
  one = made (law.insert again.path again.more) (change_of t)

  -- what holds of the edits holds of them with the later insert, where it does not hang on the value
  abbrev first_key : List Part
  first_key = first_new before again.path

  all_again : (P : law.Edit → Type 0) → (P (law.insert first_key r.value) → P (law.insert first_key again.more))
      → All P (seen_of before h.ms) → All P (seen_of before ms)
  all_again P on all =
      subst (λ (l : List MadeEdit). All P (seen_of before l)) (sym r.exchanged.other)
      (each_more before P first one r.exchanged.later r.exchanged.earlier on
      (subst (λ (l : List MadeEdit). All P (seen_of before l)) r.exchanged.all all))

  set_in : (q : List Part) → IsSetIn q h.ms → IsSetIn q ms
  set_in q there =
      subst (IsSetIn q) (sym r.exchanged.other)
      (set_in_more q again.path again.path r.value again.more (change_of was) (change_of t) r.exchanged.later
      r.exchanged.earlier (subst (IsSetIn q) r.exchanged.all there))

  rename_in : (q : List Part) → IsRenameIn q h.ms → IsRenameIn q ms
  rename_in q there =
      subst (IsRenameIn q) (sym r.exchanged.other)
      (rename_in_more q again.path again.path r.value again.more (change_of was) (change_of t) r.exchanged.later
      r.exchanged.earlier (subst (IsRenameIn q) r.exchanged.all there))

  -- the line is at its place, and of its table
  lines_same : lines_of before h.ms ≡ lines_of before ms
  lines_same =
      ap (lines_of before) r.exchanged.all
      ∙ lines_more before again.path r.value again.more (change_of was) (change_of t) r.at r.exchanged.later
      r.exchanged.earlier
      ∙ ap (lines_of before) (sym r.exchanged.other)

  -- neither insert appends a header
  headers_same : headers_in before h.ms ≡ headers_in before ms
  headers_same =
      ap (headers_in before) r.exchanged.all
      ∙ headers_apart before first r.exchanged.later r.exchanged.earlier refl
      ∙ sym (headers_apart before one r.exchanged.later r.exchanged.earlier refl)
      ∙ ap (headers_in before) (sym r.exchanged.other)

  pub made_again : IsRunTo s edits (suc n) old now before outlines new adds
  made_again = record {
    made = all_made;
    ms = ms;
    alone = λ f all.
        all_again (λ g. runs.LeavesAlone g f) (insert_alone first_key r.value again.more f) (h.alone f all);
    inserts = λ all. all_again (λ g. IsTrue (runs.is_insert g)) (λ its. its) (h.inserts all);
    headers = λ all. all_again (λ g. IsTrue (runs.is_header g)) (λ its. its) (h.headers all);
    sets = λ q any. set_in q (h.sets q any);
    renames = λ q name any. rename_in q (h.renames q name any);
    allow = λ q name all. all_again (AllowsKey q name) (λ its. its) (h.allow q name all);
    lines = subst (All (IsKnownAt adds)) lines_same h.lines;
    counts = counted_too adds (lines_of before h.ms) (lines_of before ms) (seen_of before h.ms) (seen_of before ms)
        lines_same headers_same h.counts;
    followed = λ none.
        subst (All (λ m. MakesChange now.profile limit before m.edit m.change)) (sym r.exchanged.other)
        (with_one (λ m. MakesChange now.profile limit before m.edit m.change) first one r.exchanged.later
        r.exchanged.earlier (again.kind, again.adds before read)
        (subst (All (λ m. MakesChange now.profile limit before m.edit m.change)) r.exchanged.all (h.followed none)));
    headed = λ i table there. subst (Any (IsHeaderAt i)) lines_same (h.headed i table there);
    headers_known = all_again (IsHeaderKnown adds) (λ its. its) h.headers_known;
    at_once = r.still;
    changes_are = sym new_is;
    tree_is = tree_of_run now before ms new all_made.tree read r.still (sym new_is) all_made.read;
  }

  pub done_there : IsDoneThere now.profile h.made.tree x
  done_there = (e, (again.is, (allowed, lawful)))

-- ---- as the code goes

-- a line of that kind with a value of this text comes by that change
abbrev pub AddsAt : ProfiledText → List Part → List ℕ → TextEdit → LineKind → Type 0
AddsAt now path given t kind =
    (s : Document) → IsTextOfTree now s → (v : Value) → IsTextOfValue given v
    → AddsAs kind now.profile limit s path v (change_of t)

-- the line with the value that was given before, and that with the value that is set
pub line_here : (now : ProfiledText) (x : Edit) (path : List Part) (given value : List ℕ) (was t : TextEdit)
    (kind : LineKind) → x ≡ edit.Set path value → AddsAt now path given was kind → IsAcceptedValue Wide given
    → AddsAt now path value t kind → IsAcceptedValue Wide value → IsSpanOf now.text t.place
    → InsertsAgainHere now x was t
line_here now x path given value was t kind is added (v, given_is) adds (w, value_is) within = record {
  path = path;
  value = v;
  more = w;
  kind = kind;
  is = subst (λ (y : Edit). IsEdit y (law.set path w)) (sym is) (w, value_is, refl);
  added = λ s read. added s read v given_is;
  adds = λ s read. adds s read w value_is;
  within = within;
}

pub inserted_again : (edits : List Edit) (first end : ℕ) (now : ProfiledText) (outlines : List Outline)
    (changes new : List TextChange) (adds : AddedLines) (d x : Edit) (was t : TextEdit)
    → AreMadeTo edits first end now outlines changes adds → end < length edits → get_or edits end d ≡ x
    → InsertsAgainHere now x was t → IsAlike now outlines t → adds.has_follower ≡ false
    → HasInstead changes (change_of was) (change_of t) new
    → AreMadeTo edits first (suc end) now outlines new adds
inserted_again edits first end now outlines changes new adds d x was t so_far lt here again alike unfollowed replaced =
    let utf8 =
    each_instead (λ b. IsUtf8 b.new) changes new (change_of was) (change_of t) replaced so_far.utf8
    (IsUtf8-string_bytes t.new) in
    let within =
    each_instead (IsChangeIn now.text) changes new (change_of was) (change_of t) replaced so_far.within
    (change_in now.text t again.within) in
    record {
      made = λ s old h. made_again s edits end old now h.tree outlines changes new adds h.read (so_far.made s old
          h) d x lt here was t again alike unfollowed replaced utf8 within;
      within = within;
      utf8 = utf8;
    }
