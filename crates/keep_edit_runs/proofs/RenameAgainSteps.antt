-- Edits of a list that are made at once, and one more that renames a key which one of them renames: its change comes in
-- the place of that one's.
--
-- By the law of runs with a key that is renamed again, the others with the rename of the first key to the last are made
-- at once too, and make the document that the edit makes after all of them. Which key the earlier rename gave is known
-- by what its change writes: two changes of one place are one, and keys that are written alike are the same
-- (`name_is`). So the edit is not refused, the edits up to it are made, and the text is that with its change in the
-- place of the earlier one. The outline of the rename that stands for it comes after the others, of which none is gone:
-- so what all of them leave alone is left alone by the edits that are there.
--
-- Theorems: `renamed_again`; `done_there`: the edit is not refused after the edits.
use Rattle.std.proofs.Common.{◌≡◌, ◌<◌, ◌∷◌, ◌++◌, [], ℕ, suc, List, length, take, get_or, refl, sym}
use Rattle.std.proofs.Common.{ap, subst, ◌∙◌, All, IsUtf8, inl, inr, true}
use Rattle.std.specs.Prelude.{Any, IsTrue}
use Rattle.std.proofs.lemmas.List.Elements.{All-cons}
use Rattle.std.proofs.lemmas.Str.{IsUtf8-string_bytes}
use Rattle.keep_token.specs.Encoded.{encoded_key}
use Rattle.keep_syntax.specs.Tree.{Document, text}
use Rattle.keep_path.specs.Path.{Part, beside}
use Rattle.keep_edit_spec.specs.Changed.{put}
use Rattle.keep_edit_spec.specs.Edits as law
use Rattle.keep_edit_spec.specs.Edits.{edited_document, place}
use Rattle.keep_edit_spec.specs.InsertKinds.{IsHeaderAt}
use Rattle.keep_edit_spec.specs.Laws.{IsLawfulEdit}
use Rattle.keep_edit_spec.specs.RenameLists.{AllowsKey, IsRenameIn, IsRunRenamedAgain}
use Rattle.keep_edit_spec.specs.RenamedKeys.{RenamesKey}
use Rattle.keep_edit_spec.specs.RunLists.{IsSetIn, MadeEdit, changes_of, document_after, lines_of, made, seen_of}
use Rattle.keep_edit_spec.specs.Runs as runs
use Rattle.keep_edit_spec.specs.Runs.{IsRun, MakesChange}
use Rattle.keep_edit_spec.specs.TextChanges.{Follow, TextChange, change_at, moved_by_all, text_with}
use Rattle.keep_edit_spec.proofs.Shared.{lines_apart}
use Rattle.keep_edit_spec.proofs.Shared.{change_put, each_of_others, one_in_place, one_key, put_in_place, rename_lawful}
use Rattle.keep_edit_spec.proofs.Shared.{run_goes_on_renamed, run_is_known}
use Rattle.keep_edit_plan.proofs.Shared.{change_in, editable}
use Rattle.keep_edit_plan.specs.TextEdits.{IsChangeIn, IsReplaced, change_of}
use Rattle.keep_edit_plan.specs.declared.edit.Edit.{Edit}
use Rattle.keep_edit_plan.specs.declared.text_edit.TextEdit.{TextEdit}
use Rattle.keep_edit_runs.specs.AddedLines.{IsHeaderKnown, IsKnownAt}
use Rattle.keep_edit_runs.specs.Lists.{AreMade, IsEdit}
use Rattle.keep_edit_plan.specs.Reading.{limit, IsTextOfTree, ProfiledText}
use Rattle.keep_edit_runs.specs.Runs.{Allows, AllowsRename, IsRenamedBy, IsRunTo, IsSetBy, RenamesAgainHere}
use Rattle.keep_edit_runs.specs.Runs.{changed_text}
use Rattle.keep_edit_runs.specs.Runs.{no_value, outlined, plain}
use Rattle.keep_edit_runs.specs.declared.added_lines.AddedLines.{AddedLines}
use Rattle.keep_edit_runs.specs.declared.outline.Outline.{Outline}
use Rattle.keep_edit_runs.proofs.MadeMore.{more_made}
use Rattle.keep_edit_runs.proofs.RunSteps.{AreMadeTo, one_or_more, parts, plain_alone, run_so_far, text_utf8}
use Rattle.keep_edit_runs.proofs.RunSteps.{made_of_others, tree_of_run}
use Rattle.keep_edit_runs.proofs.SetAgainSteps.{IsDoneThere, set_by_one}
use Rattle.keep_edit_runs.proofs.SetAgainSteps.{counted_too, each_replaced, headers_apart, headers_in, rename_by_one}

module _ (s : Document) (edits : List Edit) (n : ℕ) (old now : ProfiledText) (before : Document)
    (outlines : List Outline) (changes new : List TextChange) (adds : AddedLines) (read : IsTextOfTree now before)
    (h : IsRunTo s edits n old now before outlines changes adds) (d x : Edit) (lt : n < length edits)
    (here : get_or edits n d ≡ x) (o : Outline) (t : TextEdit)
    (again : RenamesAgainHere now x outlines changes o t) (allow : All (λ y. Allows y o) outlines)
    (replaced : IsReplaced changes (change_of t) new) (utf8 : All (λ b. IsUtf8 b.new) new)
    (within : All (IsChangeIn now.text) new) where
  abbrev c : TextChange
  c = change_of t

  -- what stands for the edit
  abbrev e : law.Edit
  e = law.rename again.path again.more

  alone : RenamesKey now.profile limit before again.path again.more c
  alone = again.renames before read

  r : IsRunRenamedAgain now.profile limit before h.ms again.path again.more c
  r =
      run_goes_on_renamed now.profile limit before h.ms again.path again.more c (editable now before read) h.at_once
      (h.renames again.path again.name again.already)
      (h.allow again.path again.more
      (subst (λ (f : law.Edit). All (λ y. AllowsRename (outlined y) f) outlines) again.outline_is allow)) alone

  abbrev ms : List MadeEdit
  ms = made e c ∷ r.rest

  so_far : IsRun now.profile limit before (seen_of before h.ms) changes (lines_of before h.ms) h.made.tree
  so_far = run_so_far s edits n old now before outlines changes adds read h

  goes_on : IsRun now.profile limit before (seen_of before ms) (changes_of ms) (lines_of before ms)
      (document_after before ms)
  goes_on = run_is_known now.profile limit before ms (editable now before read) r.still

  new_is : new ≡ changes_of ms
  new_is =
      replaced.is
      ∙ put_in_place replaced.before replaced.after (changes_of r.rest) replaced.gone r.c c replaced.at replaced.size
      r.at r.size (subst (λ (k : ℕ). 0 < k) r.size r.some)
      (subst (Follow 0) replaced.was so_far.follow) (sym replaced.was ∙ sym h.changes_are ∙ r.changes)

  -- ---- the edit

  -- the key that the earlier rename gave
  name_is : r.text ≡ again.name
  name_is =
      let written : TextChange = change_at c.at c.size (encoded_key again.name) in
      let one : written ≡ r.c =
      one_in_place again.wrote.before again.wrote.after (changes_of r.rest) written r.c (sym r.at) alone.some r.some
      (subst (Follow 0) again.wrote.is so_far.follow) (sym again.wrote.is ∙ sym h.changes_are ∙ r.changes) in
      one_key r.text again.name r.utf8 again.utf8 (sym r.wrote ∙ ap (λ (z : TextChange). z.new) (sym one))

  other : r.text ≡ again.more → ⊥
  other same = again.other (sym name_is ∙ same)

  abbrev f : law.Edit
  f = law.rename (beside again.path r.text) again.more

  is_edit : IsEdit x f
  is_edit =
      subst (λ (name : List ℕ). IsEdit x (law.rename (beside again.path name) again.more)) (sym name_is) again.is

  -- where the edits have moved its place, in the place of what the earlier rename wrote
  abbrev moved : TextChange
  moved = change_at (moved_by_all (changes_of r.rest) c.at) (length r.c.new) c.new

  renames : RenamesKey now.profile limit h.made.tree (beside again.path r.text) again.more moved
  renames =
      subst (λ (u : Document). RenamesKey now.profile limit u (beside again.path r.text) again.more moved) h.tree_is
      (r.renames other)

  lawful : IsLawfulEdit now.profile limit h.made.tree f
  lawful =
      rename_lawful now.profile limit h.made.tree (beside again.path r.text) again.more so_far.editable renames.utf8
      renames.allowed

  same : edited_document h.made.tree f ≡ document_after before ms
  same = ap (λ (u : Document). edited_document u f) (sym h.tree_is) ∙ r.same other

  abbrev next : List ℕ
  next = text_with 0 now.text new

  next_utf8 : IsUtf8 next
  next_utf8 = text_utf8 now.text new read.utf8 (subst (Follow 0) (sym new_is) goes_on.follow) utf8 within

  -- the text is the one before with the edit's change in it
  next_is : next ≡ put (text_with 0 now.text changes) (place h.made.tree f)
  next_is =
      ap (λ (b : List ℕ). text_with 0 b new) read.reads.spelled
      ∙ ap (λ (cs : List TextChange). text_with 0 (text before) cs) new_is
      ∙ sym goes_on.text ∙ ap text (sym same) ∙ change_put h.made.tree f
      ∙ ap (λ (b : List ℕ). put b (place h.made.tree f))
      (so_far.text ∙ ap (λ (b : List ℕ). text_with 0 b changes) (sym read.reads.spelled))

  all_made : AreMade s (take (suc n) edits) old (changed_text now new)
  all_made =
      more_made (changed_text now changes) h.made.tree f h.made.read lawful next next_utf8 next_is s edits n old d x lt
      here is_edit h.made refl renames.allowed

  -- ---- the edits in the list

  -- what holds of the edits so far, and of the one more, holds of those that are there
  all_again : (P : law.Edit → Type 0) → P e → All P (seen_of before h.ms) → All P (seen_of before ms)
  all_again P its all =
      All-cons P e (seen_of before r.rest) its
      (each_of_others before P (made (law.rename again.path r.text) r.c) h.ms r.rest r.one all).1

  set_in : (q : List Part) → IsSetBy (outlines ++ o ∷ []) q → IsSetIn q ms
  set_in q any = elim (one_or_more (λ y. outlined y ≡ law.set q no_value) outlines o any) [
    | inl earlier ↦
        elim (set_by_one q (made (law.rename again.path r.text) r.c) r.one.later r.one.earlier
        (subst (IsSetIn q) r.one.all (h.sets q earlier))) [
          | inl (v, is) ↦ absurd cc
          | inr others ↦ inr (subst (IsSetIn q) (sym r.one.others) others)
        ]
    | inr its ↦ (let no : e ≡ law.set q no_value = sym again.outline_is ∙ its in absurd cc)
  ]

  rename_in : (q : List Part) (name : List ℕ) → IsRenamedBy (outlines ++ o ∷ []) q name → IsRenameIn q ms
  rename_in q name any = elim (one_or_more (λ y. outlined y ≡ law.rename q name) outlines o any) [
    | inl earlier ↦
        elim (rename_by_one q (made (law.rename again.path r.text) r.c) r.one.later r.one.earlier
        (subst (IsRenameIn q) r.one.all (h.renames q name earlier))) [
          | inl (key, is) ↦ inl (again.more, ap (λ (p : List Part). law.rename p again.more) cc)
          | inr others ↦ inr (subst (IsRenameIn q) (sym r.one.others) others)
        ]
    | inr its ↦ inl (name, sym again.outline_is ∙ its)
  ]

  -- a rename adds no line
  lines_same : lines_of before h.ms ≡ lines_of before ms
  lines_same =
      ap (lines_of before) r.one.all
      ∙ lines_apart before (made (law.rename again.path r.text) r.c) r.one.later r.one.earlier (λ lines. refl)
      ∙ ap (lines_of before) (sym r.one.others)

  -- nor does it append a header
  headers_same : headers_in before h.ms ≡ headers_in before ms
  headers_same =
      ap (headers_in before) r.one.all
      ∙ headers_apart before (made (law.rename again.path r.text) r.c) r.one.later r.one.earlier refl
      ∙ ap (headers_in before) (sym r.one.others)
      ∙ sym (headers_apart before (made e c) [] r.rest refl)

  pub made_again : IsRunTo s edits (suc n) old now before (outlines ++ o ∷ []) new adds
  made_again = record {
    made = all_made;
    ms = ms;
    alone = λ g all.
        let (all_before, its) = parts (λ y. runs.LeavesAlone (outlined y) (plain g)) outlines o all in
        all_again (λ z. runs.LeavesAlone z g)
        (plain_alone e g (subst (λ (z : law.Edit). runs.LeavesAlone z (plain g)) again.outline_is its))
        (h.alone g all_before);
    inserts = λ all.
        let (all_before, its) = parts (λ y. runs.is_insert (outlined y) ≡ true) outlines o all in
        all_again (λ z. IsTrue (runs.is_insert z))
        (subst (λ (z : law.Edit). runs.is_insert z ≡ true) again.outline_is its) (h.inserts all_before);
    headers = λ all.
        let (all_before, its) = parts (λ y. runs.is_header (outlined y) ≡ true) outlines o all in
        all_again (λ z. IsTrue (runs.is_header z))
        (subst (λ (z : law.Edit). runs.is_header z ≡ true) again.outline_is its) (h.headers all_before);
    sets = set_in;
    renames = rename_in;
    allow = λ q name all.
        let (all_before, its) = parts (λ y. AllowsKey q name (outlined y)) outlines o all in
        all_again (AllowsKey q name) (subst (AllowsKey q name) again.outline_is its) (h.allow q name all_before);
    lines = subst (All (IsKnownAt adds)) lines_same h.lines;
    counts = counted_too adds (lines_of before h.ms) (lines_of before ms) (seen_of before h.ms) (seen_of before ms)
        lines_same headers_same h.counts;
    followed = λ none.
        All-cons (λ m. MakesChange now.profile limit before m.edit m.change) (made e c) r.rest
        (again.renames before read)
        (made_of_others (λ m. MakesChange now.profile limit before m.edit m.change)
        (made (law.rename again.path r.text) r.c) h.ms r.rest r.one (h.followed none)).1;
    headed = λ i table there. subst (Any (IsHeaderAt i)) lines_same (h.headed i table there);
    headers_known = all_again (IsHeaderKnown adds) tt h.headers_known;
    at_once = r.still;
    changes_are = sym new_is;
    tree_is = tree_of_run now before ms new all_made.tree read r.still (sym new_is) all_made.read;
  }

  pub done_there : IsDoneThere now.profile h.made.tree x
  done_there = (f, (is_edit, (renames.allowed, lawful)))

-- ---- as the code goes

pub renamed_again : (edits : List Edit) (first end : ℕ) (now : ProfiledText) (outlines : List Outline)
    (changes new : List TextChange) (adds : AddedLines) (d x : Edit) (o : Outline) (t : TextEdit)
    → AreMadeTo edits first end now outlines changes adds → end < length edits → get_or edits end d ≡ x
    → RenamesAgainHere now x outlines changes o t → All (λ y. Allows y o) outlines
    → IsReplaced changes (change_of t) new → AreMadeTo edits first (suc end) now (outlines ++ o ∷ []) new adds
renamed_again edits first end now outlines changes new adds d x o t so_far lt here again allow replaced =
    let c : TextChange = change_of t in
    let utf8 = each_replaced (λ b. IsUtf8 b.new) changes new c replaced so_far.utf8 (IsUtf8-string_bytes t.new) in
    let within =
    each_replaced (IsChangeIn now.text) changes new c replaced so_far.within (change_in now.text t again.within) in
    record {
      made = λ s old h. made_again s edits end old now h.tree outlines changes new adds h.read (so_far.made s old
          h) d x lt here o t again allow replaced utf8 within;
      within = within;
      utf8 = utf8;
    }
