-- Edits of a list that are made at once, and one more that renames the key of a line that one of them adds: the line
-- with the later key comes in the place of that one's.
--
-- By the law of runs with a line whose key is renamed later, the edits with an insert at the new path are made at once
-- too, and make the document that the rename makes after all of them. So the rename is not refused, the edits up to it
-- are made, and the text is that with its change in the place of the insert's. The line is at the same place, and of
-- the same kind and table (`known_alike`, `lines_counted`, `lines_some`). The outline of the insert that stands for
-- the rename comes after the others, of which none is gone: so what all of them leave alone is left alone by the edits
-- that are there.
--
-- Theorems: `line_key_here`; `renamed_there`; `done_there`: the rename is not refused after the edits.
use Rattle.std.proofs.Common.{[], ◌≡◌, ◌<◌, ◌∷◌, ◌++◌, ℕ, zero, suc, List, take, length, get_or, refl, sym}
use Rattle.std.proofs.Common.{ap, ap₂, subst, subst₂, ◌∙◌, arith, All, IsUtf8, false, inl, inr, true}
use Rattle.std.specs.Prelude.{◌⊎◌, ◌==◌, ◌&&◌, ◌-◌, Any, Bool, IsTrue, Some, String, string_bytes}
use Rattle.std.specs.Global.{Global}
use Rattle.std.specs.List.{count_by}
use Rattle.std.proofs.lemmas.List.{take_all}
use Rattle.std.proofs.lemmas.Str.{IsUtf8-string_bytes}
use Rattle.keep_types.specs.declared.leaf.Profile.TheVariants.{Wide}
use Rattle.keep_syntax.specs.Tree.{Document, Value, text}
use Rattle.keep_path.specs.Path.{Part, beside}
use Rattle.keep_meaning.specs.Meaning.{mentions_in}
use Rattle.keep_edit_spec.specs.AddedLines.{AddsLine, first_new}
use Rattle.keep_edit_spec.specs.Changed.{put}
use Rattle.keep_edit_spec.specs.Edits as law
use Rattle.keep_edit_spec.specs.Edits.{edited_document, place}
use Rattle.keep_edit_spec.specs.InsertKinds.{Added, IsHeaderAt, added_as, has_header, is_last_in_body, table_of}
use Rattle.keep_edit_spec.specs.Laws.{IsLawfulEdit}
use Rattle.keep_edit_spec.specs.LineKeys.{IsRunRenamedThere}
use Rattle.keep_edit_spec.specs.LinesAhead.{is_end_at, is_headed_at}
use Rattle.keep_edit_spec.specs.Look.{holder}
use Rattle.keep_edit_spec.specs.RenameLists.{AllowsKey, IsRenameIn}
use Rattle.keep_edit_spec.specs.RenamedKeys.{RenamesKey}
use Rattle.keep_edit_spec.specs.RunLists.{IsSetIn, MadeEdit, changes_of, document_after, lines_of, made, seen_of}
use Rattle.keep_edit_spec.specs.Runs as runs
use Rattle.keep_edit_spec.specs.FirstNewline.{LeavesNewline}
use Rattle.keep_edit_spec.specs.Runs.{IsRun, MakesChange, with_line}
use Rattle.keep_edit_spec.specs.TextChanges.{Follow, TextChange, text_with}
use Rattle.keep_edit_spec.specs.declared.line_kind.LineKind.{LineKind}
use Rattle.keep_edit_spec.specs.declared.line_kind.LineKind.TheVariants.{LastInBody, OfDotted, WithHeader}
use Rattle.keep_edit_spec.proofs.Shared.{change_put, each_line_more, each_more, rename_lawful}
use Rattle.keep_edit_spec.proofs.Shared.{run_goes_on_renamed_there, run_is_known}
use Rattle.keep_edit_plan.proofs.Shared.{change_in, editable}
use Rattle.keep_edit_plan.specs.TextEdits.{HasInstead, IsChangeIn, change_of}
use Rattle.keep_edit_plan.specs.Answers.{IsSpanOf}
use Rattle.keep_edit_plan.specs.declared.edit.Edit.{Edit}
use Rattle.keep_edit_plan.specs.declared.edit.Edit.TheVariants as edit
use Rattle.keep_edit_plan.specs.declared.text_edit.TextEdit.{TextEdit}
use Rattle.keep_edit_runs.specs.AddedLines.{HasTable, IsCounted, IsHeaderKnown, IsKnownAs, IsKnownAt, brought_at}
use Rattle.keep_edit_runs.specs.AddedLines.{is_shorter, is_shorter_at}
use Rattle.keep_edit_runs.specs.Again.{RenamesLineHere}
use Rattle.keep_edit_runs.specs.Counts.{count_at}
use Rattle.keep_edit_runs.specs.DottedTables.{IsDottedAt}
use Rattle.keep_edit_runs.specs.Lists.{AreMade, IsEdit}
use Rattle.keep_edit_runs.specs.SeenHeaders.{HasTableOf}
use Rattle.keep_edit_plan.specs.Reading.{IsAcceptedValue, IsTextOfTree, IsTextOfValue, ProfiledText, limit}
use Rattle.keep_edit_runs.specs.Runs.{IsRenamedBy, IsRunTo, IsSetBy, LeavesAlone, changed_text, no_value, outlined}
use Rattle.keep_edit_runs.specs.Runs.{plain}
use Rattle.keep_edit_runs.specs.declared.added_lines.AddedLines.{AddedLines}
use Rattle.keep_edit_runs.specs.declared.outline.Outline.{Outline}
use Rattle.keep_edit_runs.proofs.InsertAgainSteps.{IsAlike, each_instead, rename_in_more, set_in_more, with_one}
use Rattle.keep_edit_runs.proofs.MadeMore.{more_made}
use Rattle.keep_edit_runs.proofs.RunSteps.{AreMadeTo, counted_more, one_if, one_or_more, parts, plain_alone}
use Rattle.keep_edit_runs.proofs.RunSteps.{run_so_far, text_utf8, tree_of_run}
use Rattle.keep_edit_runs.proofs.SetAgainSteps.{IsDoneThere, headers_apart, headers_in}

-- ---- lines that are alike

-- A line of the place, the kind and the table of one that is known is known.
known_alike : (adds : AddedLines) (l m : Added) → l.at ≡ m.at → l.kind ≡ m.kind → table_of l ≡ table_of m
    → IsKnownAt adds l → IsKnownAt adds m
known_alike adds l m at kind table known =
    by m.kind (subst (λ (k : LineKind). IsKnownAs k adds l) kind known)
  where
    by : (k : LineKind) → IsKnownAs k adds l → IsKnownAs k adds m
    by LastInBody h = subst (λ (n : ℕ). 0 < count_at adds.ends n) at h
    by OfDotted h = subst₂ (λ (n : ℕ) (t : List Part). IsDottedAt adds.dotted n t) at table h
    by WithHeader h =
        subst₂ (λ (n : ℕ) (t : List Part). (brought_at adds n ≡ Some t) × (HasTable adds t × HasTableOf adds.headers t))
        at table h

-- what holds of a line of some edits holds of one with other lines of theirs, if it does of one of these
some_with : (s : Document) (P : Added → Type 0) (e : law.Edit) (z : TextChange) (were are : List Added)
    → (Any P were → Any P are) → Any P (with_line s e z were) → Any P (with_line s e z are)
some_with s P (law.insert q new) z were are rest (zero, l, less, is, holds) = (zero, l, omega arith, is, holds)
some_with s P (law.insert q new) z were are rest (suc k, l, less, is, holds) =
    let (n, m, low, same, its) = rest (k, l, omega (arith, less), is, holds) in
    (suc n, m, omega (arith, low), same, its)
some_with s P (law.remove q) z were are rest h = rest h
some_with s P (law.set q new) z were are rest h = rest h
some_with s P (law.rename q name) z were are rest h = rest h
some_with s P (law.append_table keys) z were are rest h = rest h
some_with s P (law.append_element keys) z were are rest h = rest h

-- as many are counted with other lines, if so many are of these
count_with : (s : Document) (p : Added → Bool) (e : law.Edit) (z : TextChange) (were are : List Added)
    → count_by p were ≡ count_by p are → count_by p (with_line s e z were) ≡ count_by p (with_line s e z are)
count_with s p (law.insert q new) z were are same =
    omega (arith, counted_more p (added_as s q z) were, counted_more p (added_as s q z) are, same)
count_with s p (law.remove q) z were are same = same
count_with s p (law.set q new) z were are same = same
count_with s p (law.rename q name) z were are same = same
count_with s p (law.append_table keys) z were are same = same
count_with s p (law.append_element keys) z were are same = same

-- Edits with another insert in the place of one.
module _ (s : Document) (path other : List Part) (v w : Value) (c d : TextChange) where
  abbrev were : List MadeEdit → List MadeEdit → List Added
  were later earlier = lines_of s (later ++ made (law.insert path v) c ∷ earlier)

  abbrev are : List MadeEdit → List MadeEdit → List Added
  are later earlier = lines_of s (later ++ made (law.insert other w) d ∷ earlier)

  lines_some : (P : Added → Type 0) → (P (added_as s path c) → P (added_as s other d))
      → (later earlier : List MadeEdit) → Any P (were later earlier) → Any P (are later earlier)
  lines_some P on [] earlier (zero, l, less, is, holds) =
      (zero, added_as s other d, omega arith, refl, on (subst P (sym is) holds))
  lines_some P on [] earlier (suc k, l, less, is, holds) = (suc k, l, omega (arith, less), is, holds)
  lines_some P on (x ∷ later) earlier h =
      some_with s P x.edit x.change (were later earlier) (are later earlier) (lines_some P on later earlier) h

  lines_counted : (p : Added → Bool) → p (added_as s path c) ≡ p (added_as s other d)
      → (later earlier : List MadeEdit) → count_by p (were later earlier) ≡ count_by p (are later earlier)
  lines_counted p same [] earlier =
      omega (
        arith,
        counted_more p (added_as s path c) (lines_of s earlier),
        counted_more p (added_as s other d) (lines_of s earlier),
        ap one_if same,
      )
  lines_counted p same (x ∷ later) earlier =
      count_with s p x.edit x.change (were later earlier) (are later earlier) (lines_counted p same later earlier)

-- ---- one more

module _ (s : Document) (edits : List Edit) (n : ℕ) (old now : ProfiledText) (before : Document)
    (outlines : List Outline) (changes new : List TextChange) (adds : AddedLines) (read : IsTextOfTree now before)
    (h : IsRunTo s edits n old now before outlines changes adds) (d x : Edit) (lt : n < length edits)
    (here : get_or edits n d ≡ x) (o : Outline) (was t : TextEdit) (again : RenamesLineHere now x o was t)
    (alike : IsAlike now outlines t) (alone : All (λ y. LeavesAlone y o) outlines)
    (unfollowed : adds.has_follower ≡ false) (replaced : HasInstead changes (change_of was) (change_of t) new)
    (utf8 : All (λ b. IsUtf8 b.new) new) (within : All (IsChangeIn now.text) new) where
  abbrev e : law.Edit
  e = law.rename again.path again.name

  -- what stands for it
  abbrev b : List Part
  b = beside again.path again.name

  leaves : IsAlike now outlines t
      → LeavesNewline before (change_of t) ⊎ All (λ f. IsTrue (runs.is_insert f)) (seen_of before h.ms)
  leaves (inl line) = inl (line before read)
  leaves (inr all) = inr (h.inserts all)

  left : All (λ f. runs.LeavesAlone f (law.insert b again.value)) (seen_of before h.ms)
  left =
      h.alone (law.insert b again.value)
      (subst (λ (f : law.Edit). All (λ y. runs.LeavesAlone (outlined y) f) outlines) again.outline_is alone)

  r : IsRunRenamedThere now.profile limit before h.ms again.path again.value again.name replaced.before (change_of was)
      (change_of t) replaced.after
  r =
      run_goes_on_renamed_there now.profile limit before h.ms again.path again.value again.name replaced.before
      (change_of was) (change_of t) replaced.after (editable now before read) h.at_once (h.followed unfollowed)
      (again.added before read) (h.changes_are ∙ replaced.was) (again.one before read) again.utf8
      (again.adds before read) left (leaves alike)

  abbrev ms : List MadeEdit
  ms = r.others

  so_far : IsRun now.profile limit before (seen_of before h.ms) changes (lines_of before h.ms) h.made.tree
  so_far = run_so_far s edits n old now before outlines changes adds read h

  goes_on : IsRun now.profile limit before (seen_of before ms) (changes_of ms) (lines_of before ms)
      (document_after before ms)
  goes_on = run_is_known now.profile limit before ms (editable now before read) r.still

  new_is : new ≡ changes_of ms
  new_is = replaced.is ∙ sym r.changes

  -- ---- the edit

  renames : RenamesKey now.profile limit h.made.tree again.path again.name r.there
  renames =
      subst (λ (u : Document). RenamesKey now.profile limit u again.path again.name r.there) h.tree_is r.renames

  lawful : IsLawfulEdit now.profile limit h.made.tree e
  lawful =
      rename_lawful now.profile limit h.made.tree again.path again.name so_far.editable renames.utf8 renames.allowed

  same : edited_document h.made.tree e ≡ document_after before ms
  same = ap (λ (u : Document). edited_document u e) (sym h.tree_is) ∙ r.same

  abbrev next : List ℕ
  next = text_with 0 now.text new

  next_utf8 : IsUtf8 next
  next_utf8 = text_utf8 now.text new read.utf8 (subst (Follow 0) (sym new_is) goes_on.follow) utf8 within

  -- the text is the one before with the edit's change in it
  next_is : next ≡ put (text_with 0 now.text changes) (place h.made.tree e)
  next_is =
      ap (λ (z : List ℕ). text_with 0 z new) read.reads.spelled
      ∙ ap (λ (cs : List TextChange). text_with 0 (text before) cs) new_is
      ∙ sym goes_on.text ∙ ap text (sym same) ∙ change_put h.made.tree e
      ∙ ap (λ (z : List ℕ). put z (place h.made.tree e))
      (so_far.text ∙ ap (λ (z : List ℕ). text_with 0 z changes) (sym read.reads.spelled))

  all_made : AreMade s (take (suc n) edits) old (changed_text now new)
  all_made =
      more_made (changed_text now changes) h.made.tree e h.made.read lawful next next_utf8 next_is s edits n old d x lt
      here again.is h.made refl renames.allowed

  -- ---- the edits in the list

  abbrev first : MadeEdit
  first = made (law.insert again.path again.value) (change_of was)

  abbrev one : MadeEdit
  one = made (law.insert b again.value) (change_of t)

  -- what holds of the edits so far, and of the insert at the new path, holds of those that are there
  all_again : (P : law.Edit → Type 0) → P (law.insert b again.value) → All P (seen_of before h.ms)
      → All P (seen_of before ms)
  all_again P its all =
      let own : P (law.insert (first_new before b) again.value) =
      subst (λ (p : List Part). P (law.insert p again.value)) (sym r.first) its in
      subst (λ (l : List MadeEdit). All P (seen_of before l)) (sym r.exchanged.other)
      (each_more before P first one r.exchanged.later r.exchanged.earlier (λ before. own)
      (subst (λ (l : List MadeEdit). All P (seen_of before l)) r.exchanged.all all))

  set_in : (q : List Part) → IsSetBy (outlines ++ o ∷ []) q → IsSetIn q ms
  set_in q any = elim (one_or_more (λ y. outlined y ≡ law.set q no_value) outlines o any) [
    | inl earlier ↦
        subst (IsSetIn q) (sym r.exchanged.other)
        (set_in_more q again.path b again.value again.value (change_of was) (change_of t) r.exchanged.later
        r.exchanged.earlier (subst (IsSetIn q) r.exchanged.all (h.sets q earlier)))
    | inr its ↦
        (let no : law.insert b no_value ≡ law.set q no_value = sym again.outline_is ∙ its in absurd cc)
  ]

  rename_in : (q : List Part) (name : List ℕ) → IsRenamedBy (outlines ++ o ∷ []) q name → IsRenameIn q ms
  rename_in q name any = elim (one_or_more (λ y. outlined y ≡ law.rename q name) outlines o any) [
    | inl earlier ↦
        subst (IsRenameIn q) (sym r.exchanged.other)
        (rename_in_more q again.path b again.value again.value (change_of was) (change_of t) r.exchanged.later
        r.exchanged.earlier (subst (IsRenameIn q) r.exchanged.all (h.renames q name earlier)))
    | inr its ↦
        (let no : law.insert b no_value ≡ law.rename q name = sym again.outline_is ∙ its in absurd cc)
  ]

  -- the line is at its place, and of its kind and table
  abbrev l : Added
  l = added_as before again.path (change_of was)

  abbrev m : Added
  m = added_as before b (change_of t)

  lines_known : All (IsKnownAt adds) (lines_of before ms)
  lines_known =
      subst (λ (es : List MadeEdit). All (IsKnownAt adds) (lines_of before es)) (sym r.exchanged.other)
      (each_line_more before again.path b again.value again.value (change_of was) (change_of t) (IsKnownAt adds)
      (known_alike adds l m r.at r.kind r.table) r.exchanged.later r.exchanged.earlier
      (subst (λ (es : List MadeEdit). All (IsKnownAt adds) (lines_of before es)) r.exchanged.all h.lines))

  as_many : (p : Added → Bool) → p l ≡ p m → count_by p (lines_of before h.ms) ≡ count_by p (lines_of before ms)
  as_many p alike =
      ap (λ (es : List MadeEdit). count_by p (lines_of before es)) r.exchanged.all
      ∙ lines_counted before again.path b again.value again.value (change_of was) (change_of t) p alike
      r.exchanged.later r.exchanged.earlier
      ∙ ap (λ (es : List MadeEdit). count_by p (lines_of before es)) (sym r.exchanged.other)

  -- neither insert appends a header
  headers_same : headers_in before h.ms ≡ headers_in before ms
  headers_same =
      ap (headers_in before) r.exchanged.all
      ∙ headers_apart before first r.exchanged.later r.exchanged.earlier refl
      ∙ sym (headers_apart before one r.exchanged.later r.exchanged.earlier refl)
      ∙ ap (headers_in before) (sym r.exchanged.other)

  counted : IsCounted adds (lines_of before ms) (seen_of before ms)
  counted = record {
    shorter = λ most i.
        sym (as_many (is_shorter_at most i)
        (ap₂ (λ (k : ℕ) (short : Bool). (k == i) && short) r.at
        (ap₂ (λ (kind : LineKind) (table : List Part). is_shorter most kind table) r.kind r.table)))
        ∙ h.counts.shorter most i;
    ends = λ i.
        sym (as_many (is_end_at i)
        (ap₂ (λ (k : ℕ) (kind : LineKind). (k == i) && is_last_in_body kind) r.at r.kind))
        ∙ h.counts.ends i;
    headed = λ i.
        sym (as_many (is_headed_at i) (ap₂ (λ (k : ℕ) (kind : LineKind). (k == i) && has_header kind) r.at r.kind))
        ∙ h.counts.headed i;
    appended = sym headers_same ∙ h.counts.appended;
  }

  header_there : (i : ℕ) → Any (IsHeaderAt i) (lines_of before h.ms) → Any (IsHeaderAt i) (lines_of before ms)
  header_there i there =
      subst (λ (es : List MadeEdit). Any (IsHeaderAt i) (lines_of before es)) (sym r.exchanged.other)
      (lines_some before again.path b again.value again.value (change_of was) (change_of t) (IsHeaderAt i)
      (λ its. (sym r.at ∙ its.0, sym r.kind ∙ its.1)) r.exchanged.later r.exchanged.earlier
      (subst (λ (es : List MadeEdit). Any (IsHeaderAt i) (lines_of before es)) r.exchanged.all there))

  pub made_again : IsRunTo s edits (suc n) old now before (outlines ++ o ∷ []) new adds
  made_again = record {
    made = all_made;
    ms = ms;
    alone = λ g all.
        let (all_before, its) = parts (λ y. runs.LeavesAlone (outlined y) (plain g)) outlines o all in
        all_again (λ z. runs.LeavesAlone z g)
        (plain_alone (law.insert b again.value) g
        (subst (λ (z : law.Edit). runs.LeavesAlone z (plain g)) again.outline_is its)) (h.alone g all_before);
    inserts = λ all.
        let (all_before, its) = parts (λ y. runs.is_insert (outlined y) ≡ true) outlines o all in
        all_again (λ z. IsTrue (runs.is_insert z)) refl (h.inserts all_before);
    headers = λ all.
        let (all_before, its) = parts (λ y. runs.is_header (outlined y) ≡ true) outlines o all in
        all_again (λ z. IsTrue (runs.is_header z))
        (subst (λ (z : law.Edit). runs.is_header z ≡ true) again.outline_is its) (h.headers all_before);
    sets = set_in;
    renames = rename_in;
    allow = λ q name all.
        let (all_before, its) = parts (λ y. AllowsKey q name (outlined y)) outlines o all in
        all_again (AllowsKey q name) (subst (AllowsKey q name) again.outline_is its) (h.allow q name all_before);
    lines = lines_known;
    counts = counted;
    followed = λ none.
        subst (All (λ z. MakesChange now.profile limit before z.edit z.change)) (sym r.exchanged.other)
        (with_one (λ z. MakesChange now.profile limit before z.edit z.change) first one r.exchanged.later
        r.exchanged.earlier (LastInBody, again.adds before read)
        (subst (All (λ z. MakesChange now.profile limit before z.edit z.change)) r.exchanged.all (h.followed none)));
    headed = λ i table there. header_there i (h.headed i table there);
    headers_known = all_again (IsHeaderKnown adds) tt h.headers_known;
    at_once = r.still;
    changes_are = sym new_is;
    tree_is = tree_of_run now before ms new all_made.tree read r.still (sym new_is) all_made.read;
  }

  pub done_there : IsDoneThere now.profile h.made.tree x
  done_there = (e, (again.is, (renames.allowed, lawful)))

-- ---- as the code goes

-- a line at the end of a body with a value of this text comes by that change
abbrev pub AddsLineAt : ProfiledText → List Part → List ℕ → TextEdit → Type 0
AddsLineAt now path given t =
    (s : Document) → IsTextOfTree now s → (v : Value) → IsTextOfValue given v
    → AddsLine now.profile limit s path v (change_of t)

-- The line at the path, of which so many steps are there, and the line at the new path.
pub line_key_here : (now : ProfiledText) (x : Edit) (path new : List Part) (name : String Global) (given : List ℕ)
    (o : Outline) (was t : TextEdit) (steps : ℕ) → x ≡ edit.Rename path name
    → beside path (string_bytes name) ≡ new → outlined o ≡ law.insert new no_value
    → ((s : Document) → IsTextOfTree now s → steps ≡ length (holder path (mentions_in s)))
    → steps ≡ length path - 1 → AddsLineAt now path given was → IsAcceptedValue Wide given
    → AddsLineAt now new given t → IsSpanOf now.text t.place → RenamesLineHere now x o was t
line_key_here now x path new name given o was t steps is beside_is outline_is lead all added (v, given_is) adds within =
    record {
      path = path;
      name = string_bytes name;
      value = v;
      is = subst (λ (y : Edit). IsEdit y (law.rename path (string_bytes name))) (sym is) refl;
      outline_is = outline_is ∙ ap (λ (p : List Part). law.insert p no_value) (sym beside_is);
      utf8 = IsUtf8-string_bytes name;
      added = λ s read. added s read v given_is;
      one = λ s read.
          take_all (suc (length (holder path (mentions_in s)))) path (omega (arith, all, lead s read));
      adds = λ s read.
          subst (λ (p : List Part). AddsLine now.profile limit s p v (change_of t)) (sym beside_is)
          (adds s read v given_is);
      within = within;
    }

pub renamed_there : (edits : List Edit) (first end : ℕ) (now : ProfiledText) (outlines : List Outline)
    (changes new : List TextChange) (adds : AddedLines) (d x : Edit) (o : Outline) (was t : TextEdit)
    → AreMadeTo edits first end now outlines changes adds → end < length edits → get_or edits end d ≡ x
    → RenamesLineHere now x o was t → IsAlike now outlines t → All (λ y. LeavesAlone y o) outlines
    → adds.has_follower ≡ false → HasInstead changes (change_of was) (change_of t) new
    → AreMadeTo edits first (suc end) now (outlines ++ o ∷ []) new adds
renamed_there edits first end now outlines changes new adds d x o was t so_far lt here again alike alone unfollowed
    replaced =
    let utf8 =
    each_instead (λ b. IsUtf8 b.new) changes new (change_of was) (change_of t) replaced so_far.utf8
    (IsUtf8-string_bytes t.new) in
    let within =
    each_instead (IsChangeIn now.text) changes new (change_of was) (change_of t) replaced so_far.within
    (change_in now.text t again.within) in
    record {
      made = λ s old h. made_again s edits end old now h.tree outlines changes new adds h.read (so_far.made s old
          h) d x lt here o was t again alike alone unfollowed replaced utf8 within;
      within = within;
      utf8 = utf8;
    }
