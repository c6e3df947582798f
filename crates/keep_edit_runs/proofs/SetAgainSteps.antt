-- Edits of a list that are made at once, and one more that sets a value which one of them sets, or is of an entry of
-- that value: its change comes in the place of that one's.
--
-- By the law of runs that is set again, the others with the later set are made at once too, and make the document that
-- the set makes after all of them. So that set is not refused, the edits up to it are made, and the text is that with
-- its change in the place of the earlier one. What leaves a set alone does not hang on its value, so the outlines stay.
-- An edit of an entry is known by the text of the value, which is what the earlier change writes: two changes of one
-- place are one (`wrote`). So it makes what the set makes (`as_set`).
--
-- Theorems: `all_but`, `each_replaced`: what holds of each change holds with one in the place of another;
-- `headers_apart`, `counted_too`: of an edit that is no header, and of edits with the same lines and as many headers;
-- `changes_again`; `made_there`, `done_there`: what the edit makes of the document after the edits.
use Rattle.std.proofs.Common.{◌≡◌, ◌<◌, ◌∷◌, ◌++◌, [], ℕ, suc, List, length, take, drop, get_or, refl, sym}
use Rattle.std.proofs.Common.{ap, subst, ◌∙◌, arith, All, IsUtf8, inl, inr, None, false}
use Rattle.std.specs.Prelude.{◌⊎◌, Any, IsTrue}
use Rattle.std.specs.List.{count_by}
use Rattle.std.proofs.lemmas.List.Elements.{All-cons, All-head, All-tail}
use Rattle.std.proofs.lemmas.Str.{IsUtf8-string_bytes}
use Rattle.keep_types.specs.declared.leaf.Profile.{Profile}
use Rattle.keep_syntax.specs.Tree.{Document, Value, text}
use Rattle.keep_path.specs.Path.{Part}
use Rattle.keep_edit_spec.specs.Changed.{put}
use Rattle.keep_edit_spec.specs.Edits as law
use Rattle.keep_edit_spec.specs.Edits.{edited_document, place}
use Rattle.keep_edit_spec.specs.EntryEdits.{MakesSet}
use Rattle.keep_edit_spec.specs.InsertKinds.{Added, IsHeaderAt}
use Rattle.keep_edit_spec.specs.Laws.{IsLawfulEdit}
use Rattle.keep_edit_spec.specs.Refusals.{refusal}
use Rattle.keep_edit_spec.specs.RenameLists.{AllowsKey, IsRenameIn, IsRenameOf}
use Rattle.keep_edit_spec.specs.RunLists.{IsRunSetAgain, IsSetIn, MadeEdit, changes_of, lines_of, made, seen_of}
use Rattle.keep_edit_spec.specs.Runs as runs
use Rattle.keep_edit_spec.specs.LinesAhead.{is_end_at, is_headed_at}
use Rattle.keep_edit_spec.specs.Runs.{IsRun, MakesChange}
use Rattle.keep_edit_spec.specs.SetValues.{SetsValue}
use Rattle.keep_edit_spec.specs.TextChanges.{Follow, IsBeside, TextChange, change_at, moved_by_all, text_with}
use Rattle.keep_edit_spec.specs.TextChanges.{with_change}
use Rattle.keep_edit_spec.proofs.Shared.{change_put, each_of_others, entry_lawful, lines_apart, one_in_place}
use Rattle.keep_edit_spec.proofs.Shared.{put_in_place}
use Rattle.keep_edit_spec.proofs.Shared.{run_goes_on_again, run_is_known, set_bytes, set_lawful}
use Rattle.keep_edit_plan.proofs.Shared.{change_in, editable}
use Rattle.keep_edit_plan.specs.TextEdits.{HasChange, IsChangeIn, IsReplaced, change_of}
use Rattle.keep_edit_plan.specs.declared.edit.Edit.{Edit}
use Rattle.keep_edit_plan.specs.declared.text_edit.TextEdit.{TextEdit}
use Rattle.keep_edit_runs.specs.AddedLines.{IsCounted, IsHeaderKnown, IsKnownAt, is_shorter_at}
use Rattle.keep_edit_runs.specs.Lists.{AreMade, IsEdit}
use Rattle.keep_edit_plan.specs.Reading.{limit, IsTextOfTree, ProfiledText}
use Rattle.keep_edit_runs.specs.Runs.{IsRunTo, SetsAgainHere, changed_text}
use Rattle.keep_edit_runs.specs.declared.added_lines.AddedLines.{AddedLines}
use Rattle.keep_edit_runs.specs.declared.outline.Outline.{Outline}
use Rattle.keep_edit_runs.proofs.MadeMore.{more_made}
use Rattle.keep_edit_runs.proofs.RunSteps.{AreMadeTo, counted_more, made_of_others, one_if, run_so_far, text_utf8}
use Rattle.keep_edit_runs.proofs.RunSteps.{tree_of_run}

-- ---- the edits in the list

-- What a set leaves alone does not hang on its value.
set_alone : (path : List Part) (v w : Value) (f : law.Edit) → runs.LeavesAlone (law.set path v) f
    → runs.LeavesAlone (law.set path w) f
set_alone path v w (law.set q x) h = h
set_alone path v w (law.insert q x) h = h
set_alone path v w (law.rename q name) h = h
set_alone path v w (law.remove q) h = h
set_alone path v w (law.append_table ks) h = h
set_alone path v w (law.append_element ks) h = h

-- A value that one of them sets is set by that one or by the others.
pub set_by_one : (q : List Part) (m : MadeEdit) (later earlier : List MadeEdit) → IsSetIn q (later ++ m ∷ earlier)
    → ((v : Value) × (m.edit ≡ law.set q v)) ⊎ IsSetIn q (later ++ earlier)
set_by_one q m [] earlier (inl its) = inl its
set_by_one q m [] earlier (inr h) = inr h
set_by_one q m (x ∷ later) earlier (inl its) = inr (inl its)
set_by_one q m (x ∷ later) earlier (inr h) = elim (set_by_one q m later earlier h) [
  | inl its ↦ inl its
  | inr further ↦ inr (inr further)
]

-- So is a key that one of them renames.
pub rename_by_one : (q : List Part) (m : MadeEdit) (later earlier : List MadeEdit)
    → IsRenameIn q (later ++ m ∷ earlier) → IsRenameOf q m.edit ⊎ IsRenameIn q (later ++ earlier)
rename_by_one q m [] earlier (inl its) = inl its
rename_by_one q m [] earlier (inr h) = inr h
rename_by_one q m (x ∷ later) earlier (inl its) = inr (inl its)
rename_by_one q m (x ∷ later) earlier (inr h) = elim (rename_by_one q m later earlier h) [
  | inl its ↦ inl its
  | inr further ↦ inr (inr further)
]

-- how many of the edits append headers
abbrev pub headers_in : Document → List MadeEdit → ℕ
headers_in s ms = count_by runs.is_header (seen_of s ms)

-- One that appends none counts nowhere among them.
pub headers_apart : (s : Document) (m : MadeEdit) (later earlier : List MadeEdit)
    → runs.is_header (runs.seen s m.edit) ≡ false
    → headers_in s (later ++ m ∷ earlier) ≡ headers_in s (later ++ earlier)
headers_apart s m [] earlier none =
    omega (arith, counted_more runs.is_header (runs.seen s m.edit) (seen_of s earlier), ap one_if none)
headers_apart s m (x ∷ later) earlier none =
    omega (
      arith,
      counted_more runs.is_header (runs.seen s x.edit) (seen_of s (later ++ m ∷ earlier)),
      counted_more runs.is_header (runs.seen s x.edit) (seen_of s (later ++ earlier)),
      headers_apart s m later earlier none,
    )

-- What is counted of edits is counted of others with the same lines, of which as many append headers.
pub counted_too : (added : AddedLines) (old new : List Added) (es others : List law.Edit) → old ≡ new
    → count_by runs.is_header es ≡ count_by runs.is_header others → IsCounted added old es
    → IsCounted added new others
counted_too added old new es others same as_many counts = record {
  shorter = λ most n. ap (count_by (is_shorter_at most n)) (sym same) ∙ counts.shorter most n;
  ends = λ n. ap (count_by (is_end_at n)) (sym same) ∙ counts.ends n;
  headed = λ n. ap (count_by (is_headed_at n)) (sym same) ∙ counts.headed n;
  appended = sym as_many ∙ counts.appended;
}

-- ---- in a later document

-- the edit is not refused there, and lawful
abbrev pub IsDoneThere : Profile → Document → Edit → Type 0
IsDoneThere profile now x =
    (f : law.Edit) × (IsEdit x f × ((refusal profile limit now f ≡ None) × IsLawfulEdit profile limit now f))

-- One of the changes sets the value, and the others are beside it. The edit sets the value there, in the place of what
-- was set, or is of an entry of it and makes what the set makes.
pub record IsSetThere (profile : Profile) (now : Document) (changes : List TextChange) (f : law.Edit)
    (path : List Part) (value : Value) (c : TextChange) : Type 0 where
  pub rest : List TextChange
  pub was : TextChange
  pub changes_are : changes ≡ with_change rest was
  pub at : was.at ≡ c.at
  pub size : was.size ≡ c.size
  pub some : 0 < was.size
  pub follow : Follow 0 rest
  pub beside : All (λ x. IsBeside x c) rest
  pub sets : SetsValue profile limit now path value
      (change_at (moved_by_all rest c.at) (length was.new) c.new)
  pub makes : (f ≡ law.set path value)
      ⊎ MakesSet profile limit now f path value (change_at (moved_by_all rest c.at) (length was.new) c.new)

-- ---- one more

module _ (s : Document) (edits : List Edit) (n : ℕ) (old now : ProfiledText) (before : Document)
    (outlines : List Outline) (changes new : List TextChange) (adds : AddedLines) (read : IsTextOfTree now before)
    (h : IsRunTo s edits n old now before outlines changes adds) (d x : Edit) (lt : n < length edits)
    (here : get_or edits n d ≡ x) (t : TextEdit) (again : SetsAgainHere now x outlines changes t)
    (replaced : IsReplaced changes (change_of t) new) (utf8 : All (λ b. IsUtf8 b.new) new)
    (within : All (IsChangeIn now.text) new) where
  abbrev c : TextChange
  c = change_of t

  abbrev e : law.Edit
  e = law.set again.path again.value

  r : IsRunSetAgain now.profile limit before h.ms again.path again.value c
  r =
      run_goes_on_again now.profile limit before h.ms again.path again.value c (editable now before read) h.at_once
      (h.sets again.path again.already) (again.sets before read)

  abbrev ms : List MadeEdit
  ms = made e c ∷ r.rest

  so_far : IsRun now.profile limit before (seen_of before h.ms) changes (lines_of before h.ms) h.made.tree
  so_far = run_so_far s edits n old now before outlines changes adds read h

  goes_on : IsRun now.profile limit before (seen_of before ms) (changes_of ms) (lines_of before ms)
      (edited_document h.made.tree e)
  goes_on =
      subst (IsRun now.profile limit before (seen_of before ms) (changes_of ms) (lines_of before ms))
      (sym r.same ∙ ap (λ (u : Document). edited_document u e) h.tree_is)
      (run_is_known now.profile limit before ms (editable now before read) r.still)

  new_is : new ≡ changes_of ms
  new_is =
      replaced.is
      ∙ put_in_place replaced.before replaced.after (changes_of r.rest) replaced.gone r.c c replaced.at replaced.size
      r.at r.size (subst (λ (k : ℕ). 0 < k) r.size r.some)
      (subst (Follow 0) replaced.was so_far.follow) (sym replaced.was ∙ sym h.changes_are ∙ r.changes)

  -- where the edits have moved its place, in the place of what the earlier set wrote
  abbrev moved : TextChange
  moved = change_at (moved_by_all (changes_of r.rest) c.at) (length r.c.new) c.new

  sets : SetsValue now.profile limit h.made.tree again.path again.value moved
  sets = subst (λ (u : Document). SetsValue now.profile limit u again.path again.value moved) h.tree_is r.sets

  -- the edit makes of the document what the set makes, and is not refused
  record IsAsSet (f : law.Edit) : Type 0 where
    allowed : refusal now.profile limit h.made.tree f ≡ None
    lawful : IsLawfulEdit now.profile limit h.made.tree f
    same : edited_document h.made.tree f ≡ edited_document h.made.tree e

  is_set : IsAsSet e
  is_set = record {
    allowed = sets.allowed;
    lawful = set_lawful now.profile limit h.made.tree again.path again.value so_far.editable sets.given sets.allowed;
    same = refl;
  }

  -- the bytes that it replaces are those that the earlier change writes
  wrote : (was : List ℕ) → HasChange changes (change_at c.at c.size was)
      → take (length r.c.new) (drop (moved_by_all (changes_of r.rest) c.at) (text h.made.tree)) ≡ was
  wrote was has =
      let first : SetsValue now.profile limit before again.path again.value c = again.sets before read in
      let one : change_at c.at c.size was ≡ r.c =
      one_in_place has.before has.after (changes_of r.rest) (change_at c.at c.size was) r.c (sym r.at) first.some r.some
      (subst (Follow 0) has.is so_far.follow) (sym has.is ∙ sym h.changes_are ∙ r.changes) in
      ap (λ (u : Document). take (length r.c.new) (drop (moved_by_all (changes_of r.rest) c.at) (text u)))
      (sym h.tree_is)
      ∙ set_bytes now.profile limit before h.ms again.path again.value c (editable now before read) h.at_once first r
      ∙ ap (λ (d : TextChange). d.new) (sym one)

  as_set : IsAsSet again.edit
  as_set = elim again.makes [
    | inl same ↦ subst IsAsSet (sym same) is_set
    | inr of_earlier ↦
        let makes : MakesSet now.profile limit h.made.tree again.edit again.path again.value moved =
        of_earlier.makes h.made.tree moved so_far.editable sets (wrote of_earlier.was of_earlier.earlier) in
        record {
          allowed = makes.allowed;
          lawful = entry_lawful now.profile limit h.made.tree again.edit again.path again.value moved so_far.editable
              makes;
          same = makes.same;
        }
  ]

  abbrev next : List ℕ
  next = text_with 0 now.text new

  next_utf8 : IsUtf8 next
  next_utf8 = text_utf8 now.text new read.utf8 (subst (Follow 0) (sym new_is) goes_on.follow) utf8 within

  -- the text is the one before with the set's change in it
  next_is : next ≡ put (text_with 0 now.text changes) (place h.made.tree again.edit)
  next_is =
      ap (λ (b : List ℕ). text_with 0 b new) read.reads.spelled
      ∙ ap (λ (cs : List TextChange). text_with 0 (text before) cs) new_is
      ∙ sym goes_on.text ∙ ap text (sym as_set.same) ∙ change_put h.made.tree again.edit
      ∙ ap (λ (b : List ℕ). put b (place h.made.tree again.edit))
      (so_far.text ∙ ap (λ (b : List ℕ). text_with 0 b changes) (sym read.reads.spelled))

  all_made : AreMade s (take (suc n) edits) old (changed_text now new)
  all_made =
      more_made (changed_text now changes) h.made.tree again.edit h.made.read as_set.lawful next next_utf8 next_is s
      edits n old d x lt here again.is h.made refl as_set.allowed

  -- what holds of the edits holds of them with the later set, where it does not hang on the value
  all_again : (P : law.Edit → Type 0) → (P (law.set again.path r.value) → P e) → All P (seen_of before h.ms)
      → All P (seen_of before ms)
  all_again P on all =
      let (its, others) = each_of_others before P (made (law.set again.path r.value) r.c) h.ms r.rest r.one all in
      All-cons P e (seen_of before r.rest) (on its) others

  set_in : (q : List Part) → IsSetIn q h.ms → IsSetIn q ms
  set_in q there =
      elim (set_by_one q (made (law.set again.path r.value) r.c) r.one.later r.one.earlier
      (subst (IsSetIn q) r.one.all there)) [
        | inl (v, same) ↦ inl (again.value, ap (λ (p : List Part). law.set p again.value) cc)
        | inr others ↦ inr (subst (IsSetIn q) (sym r.one.others) others)
      ]

  rename_in : (q : List Part) → IsRenameIn q h.ms → IsRenameIn q ms
  rename_in q there =
      elim (rename_by_one q (made (law.set again.path r.value) r.c) r.one.later r.one.earlier
      (subst (IsRenameIn q) r.one.all there)) [
        | inl (name, same) ↦ absurd cc
        | inr others ↦ inr (subst (IsRenameIn q) (sym r.one.others) others)
      ]

  -- a set adds no line
  lines_same : lines_of before h.ms ≡ lines_of before ms
  lines_same =
      ap (lines_of before) r.one.all
      ∙ lines_apart before (made (law.set again.path r.value) r.c) r.one.later r.one.earlier (λ lines. refl)
      ∙ ap (lines_of before) (sym r.one.others)

  -- nor does it append a header
  headers_same : headers_in before h.ms ≡ headers_in before ms
  headers_same =
      ap (headers_in before) r.one.all
      ∙ headers_apart before (made (law.set again.path r.value) r.c) r.one.later r.one.earlier refl
      ∙ ap (headers_in before) (sym r.one.others)
      ∙ sym (headers_apart before (made e c) [] r.rest refl)

  pub made_again : IsRunTo s edits (suc n) old now before outlines new adds
  made_again = record {
    made = all_made;
    ms = ms;
    alone = λ f all.
        all_again (λ g. runs.LeavesAlone g f) (set_alone again.path r.value again.value f) (h.alone f all);
    inserts = λ all. all_again (λ g. IsTrue (runs.is_insert g)) (λ its. its) (h.inserts all);
    headers = λ all. all_again (λ g. IsTrue (runs.is_header g)) (λ its. its) (h.headers all);
    sets = λ q any. set_in q (h.sets q any);
    renames = λ q name any. rename_in q (h.renames q name any);
    allow = λ q name all. all_again (AllowsKey q name) (λ its. its) (h.allow q name all);
    lines = subst (All (IsKnownAt adds)) lines_same h.lines;
    counts = counted_too adds (lines_of before h.ms) (lines_of before ms) (seen_of before h.ms) (seen_of before ms)
        lines_same headers_same h.counts;
    followed = λ none.
        All-cons (λ m. MakesChange now.profile limit before m.edit m.change) (made e c) r.rest (again.sets before read)
        (made_of_others (λ m. MakesChange now.profile limit before m.edit m.change)
        (made (law.set again.path r.value) r.c) h.ms r.rest r.one (h.followed none)).1;
    headed = λ i table there. subst (Any (IsHeaderAt i)) lines_same (h.headed i table there);
    headers_known = all_again (IsHeaderKnown adds) (λ its. its) h.headers_known;
    at_once = r.still;
    changes_are = sym new_is;
    tree_is = tree_of_run now before ms new all_made.tree read r.still (sym new_is) all_made.read;
  }

  pub made_there : IsSetThere now.profile h.made.tree changes again.edit again.path again.value (change_of t)
  made_there = record {
    rest = changes_of r.rest;
    was = r.c;
    changes_are = sym h.changes_are ∙ r.changes;
    at = r.at;
    size = r.size;
    some = r.some;
    follow = r.follow;
    beside = r.beside;
    sets = sets;
    makes = elim again.makes [
      | inl same ↦ inl same
      | inr of_earlier ↦
          inr (of_earlier.makes h.made.tree moved so_far.editable sets (wrote of_earlier.was of_earlier.earlier))
    ];
  }

  pub done_there : IsDoneThere now.profile h.made.tree x
  done_there = (again.edit, (again.is, (as_set.allowed, as_set.lawful)))

-- ---- as the code goes

-- what holds of each change holds where one gives place to another of which it holds
pub all_but : (P : TextChange → Type 0) (before after : List TextChange) (x c : TextChange)
    → All P (before ++ x ∷ after) → P c → All P (before ++ c ∷ after)
all_but P [] after x c all its = All-cons P c after its (All-tail P x after all)
all_but P (b ∷ before) after x c all its =
    All-cons P b (before ++ c ∷ after) (All-head P b (before ++ x ∷ after) all)
    (all_but P before after x c (All-tail P b (before ++ x ∷ after) all) its)

pub each_replaced : (P : TextChange → Type 0) (old new : List TextChange) (c : TextChange) → IsReplaced old c new
    → All P old → P c → All P new
each_replaced P old new c r all its =
    subst (All P) (sym r.is)
    (all_but P r.before r.after r.gone c (subst (All P) r.was all) its)

pub changes_again : (edits : List Edit) (first end : ℕ) (now : ProfiledText) (outlines : List Outline)
    (changes new : List TextChange) (adds : AddedLines) (d x : Edit) (t : TextEdit)
    → AreMadeTo edits first end now outlines changes adds → end < length edits → get_or edits end d ≡ x
    → SetsAgainHere now x outlines changes t → IsReplaced changes (change_of t) new
    → AreMadeTo edits first (suc end) now outlines new adds
changes_again edits first end now outlines changes new adds d x t so_far lt here again replaced =
    let c : TextChange = change_of t in
    let utf8 = each_replaced (λ b. IsUtf8 b.new) changes new c replaced so_far.utf8 (IsUtf8-string_bytes t.new) in
    let within =
    each_replaced (IsChangeIn now.text) changes new c replaced so_far.within (change_in now.text t again.within) in
    record {
      made = λ s old h. made_again s edits end old now h.tree outlines changes new adds h.read (so_far.made s old
          h) d x lt here t again replaced utf8 within;
      within = within;
      utf8 = utf8;
    }
