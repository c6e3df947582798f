-- Edits of a list that are made at once, and one more that adds a line where others come that have to come behind it:
-- the line comes before those.
--
-- By the law of such lines the edits with it, of which those behind it come last then, are made at once too, and make
-- the document that it makes after all of them. So it is not refused, the edits up to it are made, and the text is that
-- with its change right before as many of those at its byte as are counted.
--
-- Theorems: `more_ahead`; `each_ahead`: what holds of each change holds with one more before others; `made_there`: the
-- insert makes such a change in the document after the edits.
use Rattle.std.proofs.Common.{[], ◌≡◌, ◌≢◌, ◌<◌, ◌+◌, ◌∷◌, ◌++◌, ℕ, suc, Bool, List, take, length, get_or, refl, sym}
use Rattle.std.proofs.Common.{ap, subst, subst₂, ◌∙◌, All, IsUtf8, inl, inr, None, Option, Some, eqb-true, false, true}
use Rattle.std.proofs.Common.{arith, zero}
use Rattle.std.specs.Prelude.{◌⊎◌, ◌==◌, ◌&&◌, nat_lt, Any, IsTrue, if◌then◌else◌}
use Rattle.std.specs.List.{AllByRecursion, count_by, list_any}
use Rattle.std.proofs.lemmas.List.Elements.{All-cons, All-head, All-nil, All-tail, All-weaker}
use Rattle.std.proofs.lemmas.Str.{IsUtf8-string_bytes}
use Rattle.keep_types.specs.declared.leaf.Profile.{Profile}
use Rattle.keep_types.specs.declared.leaf.Profile.TheVariants.{Wide}
use Rattle.keep_syntax.specs.Tree.{Document, Value, text}
use Rattle.keep_path.specs.Path.{Part, without_last}
use Rattle.keep_edit_spec.specs.AddedLines.{first_new}
use Rattle.keep_edit_spec.specs.Changed.{put}
use Rattle.keep_edit_spec.specs.DottedLines.{IsAtOrBelow}
use Rattle.keep_edit_spec.specs.InsertKinds.{Added, AddsAs, IsAfterAs, IsAfterLine, IsHeaderAt, added_as, kind_of}
use Rattle.keep_edit_spec.specs.InsertKinds.{table_of}
use Rattle.keep_edit_spec.specs.declared.line_kind.LineKind.{LineKind}
use Rattle.keep_edit_spec.specs.declared.line_kind.LineKind.TheVariants.{LastInBody, OfDotted, WithHeader}
use Rattle.keep_edit_spec.specs.Edits as law
use Rattle.keep_edit_spec.specs.Edits.{edited_document, place}
use Rattle.keep_edit_spec.specs.Laws.{IsGivenValue, IsLawfulEdit}
use Rattle.keep_edit_spec.specs.LinesAhead.{ComesAhead, IsRunAhead, behind, comes_before, comes_behind, is_above}
use Rattle.keep_edit_spec.specs.LinesAhead.{is_above_at, is_below, is_end_at, is_headed_at, lines_behind, table_in}
use Rattle.keep_edit_spec.specs.Look.{keys_in}
use Rattle.keep_edit_spec.specs.Refusals.{refusal}
use Rattle.keep_edit_spec.specs.RenameLists.{AllowsKey, IsRenameIn}
use Rattle.keep_edit_spec.specs.RunLists.{IsSetIn, MadeEdit, changes_of, document_after, lines_of, made, seen_of}
use Rattle.keep_edit_spec.specs.Runs as runs
use Rattle.keep_edit_spec.specs.FirstNewline.{LeavesNewline}
use Rattle.keep_edit_spec.specs.Runs.{IsRun, LeaveNewline, LetsCome, LetsTable, MakesChange, takes_up_to}
use Rattle.keep_edit_spec.specs.TextChanges.{Follow, IsBeside, TextChange, text_with}
use Rattle.keep_edit_spec.proofs.Shared.{change_put, counts_behind, insert_lawful, kind_is, run_goes_on_ahead}
use Rattle.keep_edit_spec.proofs.Shared.{run_is_known}
use Rattle.keep_edit_plan.proofs.Shared.{change_in, editable}
use Rattle.keep_edit_plan.specs.TextEdits.{IsChangeIn, IsPutAhead, change_of}
use Rattle.keep_edit_plan.specs.declared.edit.Edit.{Edit}
use Rattle.keep_edit_plan.specs.declared.text_edit.TextEdit.{TextEdit}
use Rattle.keep_edit_runs.specs.AddedLines.{IsCountBehind, IsCounted, IsHeaderKnown, IsKnownAt, PassesHeaderAt}
use Rattle.keep_edit_runs.specs.AddedLines.{brought_at, is_shorter, is_shorter_at, line_of, lines_by}
use Rattle.keep_edit_runs.specs.AddedLines.{lines_known_behind, table_by}
use Rattle.keep_edit_runs.specs.Lists.{AreMade, IsEdit}
use Rattle.keep_edit_runs.specs.Newlines.{LeavesHere}
use Rattle.keep_edit_plan.specs.Reading.{IsTextOfTree, ProfiledText, limit}
use Rattle.keep_edit_runs.specs.Runs.{IsAddedAhead, IsKeptAhead, IsRenamedBy, IsRunTo, IsSetBy, LeavesAlone}
use Rattle.keep_edit_runs.specs.Runs.{MakesInRun, MakesInRunHere, changed_text, no_value, outlined, plain}
use Rattle.keep_edit_runs.specs.declared.added_lines.AddedLines.{AddedLines}
use Rattle.keep_edit_runs.specs.SeenHeaders.{HasAppended}
use Rattle.keep_edit_runs.specs.declared.outline.Outline.{Outline}
use Rattle.keep_edit_runs.proofs.AheadLists.{ahead, its_line_ahead, line_ahead, lines_ahead}
use Rattle.keep_edit_runs.proofs.AheadLists.{lines_counted_ahead, made_all_ahead, rename_ahead, seen_ahead}
use Rattle.keep_edit_runs.proofs.AheadLists.{seen_counted_ahead, set_ahead}
use Rattle.keep_edit_runs.proofs.HeaderLaws.{table_passed}
use Rattle.keep_edit_runs.proofs.LengthLaws.{below_shorter, count_alike, not_below}
use Rattle.keep_edit_runs.proofs.LineLaws.{lets_known, lets_no_header, with_header}
use Rattle.keep_edit_runs.proofs.MadeMore.{more_made}
use Rattle.keep_edit_runs.proofs.NewlineSteps.{leave_here}
use Rattle.keep_edit_runs.proofs.RunSteps.{AreMadeTo, IsPlaced, each_uncounted, one_or_more, parts, plain_allows}
use Rattle.keep_edit_runs.proofs.RunSteps.{plain_alone, plain_header, plain_insert, plain_known, run_so_far, text_utf8}
use Rattle.keep_edit_runs.proofs.RunSteps.{tree_of_run}

-- ---- the changes

-- what holds of each change holds with one more before others
pub each_ahead : (P : TextChange → Type 0) (old new : List TextChange) (c : TextChange) → {count : ℕ}
    → IsPutAhead old c count new → All P old → P c → All P new
each_ahead P old new c put all its =
    subst (All P) (sym put.is) (by put.before (subst (All P) put.was all))
  where
    by : (before : List TextChange) → All P (before ++ put.behind ++ put.after)
        → All P (before ++ c ∷ put.behind ++ put.after)
    by [] h = All-cons P c (put.behind ++ put.after) its h
    by (x ∷ before) h =
        All-cons P x (before ++ c ∷ put.behind ++ put.after)
        (All-head P x (before ++ put.behind ++ put.after) h)
        (by before (All-tail P x (before ++ put.behind ++ put.after) h))

-- ---- in a later document

-- The edit is an insert, and others see it so. In a later document it has the same first new key, and makes a change
-- that writes the same, by a line of that kind.
pub record IsInsertThere (profile : Profile) (before now : Document) (e a : law.Edit) (kind : LineKind) (new : List ℕ)
    : Type 0 where
  pub path : List Part
  pub value : Value
  pub is : e ≡ law.insert path value
  pub seen_is : a ≡ law.insert (first_new before path) value
  pub change : TextChange
  pub new_is : change.new ≡ new
  pub makes : MakesChange profile limit now (law.insert path value) change
  pub first : first_new now path ≡ first_new before path
  pub kind_is : kind_of now path ≡ kind

-- ---- how many come behind

-- a line there comes after that of this table, or before it
abbrev IsInOrder : List Part → ℕ → Added → Added → Type 0
IsInOrder table at line l =
    IsAfterLine l line ⊎ ((l.at ≡ at) × (comes_before line.kind table l.kind (table_of l) ≡ true))

-- So one of a table above it is one of a table with fewer steps.
above_is_shorter : (table : List Part) (at : ℕ) (line : Added) → line.kind ≡ OfDotted → line.at ≡ at
    → table_of line ≡ table → (l : Added) → IsInOrder table at line l
    → is_above_at table at l ≡ is_shorter_at (length table) at l
above_is_shorter table at line kind there its l order = by (l.at == at) l.kind refl refl
  where
    as_dotted : IsAfterLine l line → IsAfterAs OfDotted l line
    as_dotted = subst (λ (k : LineKind). IsAfterAs k l line) kind

    of_dotted : l.at ≡ at → l.kind ≡ OfDotted → IsInOrder table at line l
        → is_below table (table_of l) ≡ nat_lt (length (table_of l)) (length table)
    of_dotted same of (inl after) =
        let within : IsAtOrBelow (table_of l) table =
        subst (IsAtOrBelow (table_of l)) its (as_dotted after (same ∙ sym there)).1 in
        not_below table (table_of l) within
    of_dotted same of (inr (here, before)) =
        below_shorter table (table_of l)
        (subst₂ (λ (a b : LineKind). comes_before a table b (table_of l) ≡ true) kind of before)

    by : (b : Bool) (k : LineKind) → (l.at == at) ≡ b → l.kind ≡ k
        → (b && is_above table k (table_of l)) ≡ (b && is_shorter (length table) k (table_of l))
    by false k same of = refl
    by true OfDotted same of = of_dotted (eqb-true l.at at same) of order
    by true LastInBody same of = refl
    by true WithHeader same of = refl

-- as many as are known
lines_known : (adds : AddedLines) (lines : List Added) (es : List law.Edit) → IsCounted adds lines es
    → (kind : LineKind) (table : List Part) (at : ℕ)
    → (kind ≡ OfDotted → All (λ l. is_above_at table at l ≡ is_shorter_at (length table) at l) lines)
    → lines_known_behind adds kind table at ≡ lines_behind kind table at lines
lines_known adds lines es counts OfDotted table at alike =
    omega (
      arith,
      counts.shorter (length table) at,
      count_alike (is_above_at table at) (is_shorter_at (length table) at) lines (alike refl),
      counts.ends at,
      counts.headed at,
    )
lines_known adds lines es counts LastInBody table at alike = sym (counts.headed at)
lines_known adds lines es counts WithHeader table at alike = refl

-- ---- one more

module _ (s : Document) (edits : List Edit) (n : ℕ) (old now : ProfiledText) (before : Document)
    (outlines : List Outline) (changes new : List TextChange) (adds next_adds : AddedLines)
    (read : IsTextOfTree now before) (h : IsRunTo s edits n old now before outlines changes adds) (d x : Edit)
    (lt : n < length edits) (here : get_or edits n d ≡ x) (o : Outline) (e a : law.Edit) (given : IsEdit x e)
    (plain_is : plain a ≡ outlined o) (c : TextChange) (line : Option LineKind)
    (makes : MakesInRun now.profile before e a c line) (others_alone : All (λ y. LeavesAlone y o) outlines)
    (placed : IsPlaced outlines now changes o c.at)
    (it : IsAddedAhead now adds changes o c line next_adds new)
    (utf8 : All (λ b. IsUtf8 b.new) new) (within : All (IsChangeIn now.text) new) where
  abbrev kept : IsKeptAhead adds changes o c.at line (c.at == length now.text) next_adds
  kept = it.kept

  abbrev es : List law.Edit
  es = seen_of before h.ms

  -- the edit is an insert of the line
  record IsInsert : Type 0 where
    path : List Part
    value : Value
    is : e ≡ law.insert path value
    seen_is : a ≡ law.insert (first_new before path) value
    adds_it : AddsAs kept.kind now.profile limit before path value c
    first_is : first_new before path ≡ kept.first
    kind_of_it : kind_of before path ≡ kept.kind

  -- what is outlined as an insert is one
  outline_is : plain a ≡ law.insert kept.first no_value
  outline_is = plain_is ∙ kept.is

  insert_is : IsInsert
  insert_is = by e refl makes
    where
      other : {A : Type 0} (f : law.Edit) → a ≡ f → (plain f ≡ law.insert kept.first no_value → ⊥) → A
      other f is never = absurd (never (sym (ap plain is) ∙ outline_is))

      by : (f : law.Edit) → e ≡ f → MakesInRun now.profile before f a c line → IsInsert
      by f same (inr (holder, value, is, sets)) = other (law.set holder value) is (λ e. cc)
      by (law.insert p v) same (inl (is, (kind, adds_so), of)) =
          let own : kind_of before p ≡ kind = kind_is kind now.profile limit before p v c adds_so in
          let both : Some (kind_of before p) ≡ Some kept.kind = sym of ∙ kept.line_is in
          let kinds : kind_of before p ≡ kept.kind = cc in
          let firsts : law.insert (first_new before p) no_value ≡ law.insert kept.first no_value =
          sym (ap plain is) ∙ outline_is in
          record {
            path = p;
            value = v;
            is = same;
            seen_is = is;
            adds_it = subst (λ (k : LineKind). AddsAs k now.profile limit before p v c) (sym own ∙ kinds) adds_so;
            first_is = cc;
            kind_of_it = kinds;
          }
      by (law.set p v) same (inl (is, makes_it, of)) = other (law.set p v) is (λ e. cc)
      by (law.rename p name) same (inl (is, makes_it, of)) = other (law.rename p name) is (λ e. cc)
      by (law.remove p) same (inl (is, makes_it, of)) = other (law.remove p) is (λ e. cc)
      by (law.append_table ks) same (inl (is, makes_it, of)) = other (law.append_table ks) is (λ e. cc)
      by (law.append_element ks) same (inl (is, makes_it, of)) = other (law.append_element ks) is (λ e. cc)

  abbrev path : List Part
  path = insert_is.path

  abbrev value : Value
  value = insert_is.value

  abbrev its_line : Added
  its_line = added_as before path c

  line_is : line_of kept.first c.at kept.kind ≡ its_line
  line_is =
      ap (λ (p : List Part). line_of p c.at kept.kind) (sym insert_is.first_is)
      ∙ ap (λ (k : LineKind). line_of (first_new before path) c.at k) (sym insert_is.kind_of_it)

  others : All (λ f. runs.LeavesAlone f (law.insert (first_new before path) value)) es
  others =
      subst (λ (g : law.Edit). All (λ f. runs.LeavesAlone f g) es) insert_is.seen_is
      (h.alone a
      (subst (λ (g : law.Edit). All (λ y. runs.LeavesAlone (outlined y) g) outlines) (sym plain_is) others_alone))

  -- headers pass by the table of a header there, unless all are at the end of the text
  passed : c.at ≢ length (text before) → (l : Added) → IsKnownAt adds l → IsHeaderAt c.at l → All (LetsTable l) es
  passed other l known (at, headed) = by (kept.passed (not_at_end refl))
    where
      by : PassesHeaderAt adds c.at → All (LetsTable l) es
      by (inl none) =
          All-weaker (λ f. runs.is_header f ≡ false) (LetsTable l) (lets_no_header l) es
          (each_uncounted runs.is_header es (h.counts.appended ∙ none))
      by (inr passes) =
          let (there, (own, brought)) = with_header adds l known headed in
          let its : brought_at adds c.at ≡ Some (table_of l) =
          subst (λ (i : ℕ). brought_at adds i ≡ Some (table_of l)) at there in
          let lacks : ¬ HasAppended adds.headers (table_of l) = passes (table_of l) its in
          All-weaker (IsHeaderKnown adds) (LetsTable l)
          (lets_known adds l (λ keys has is. table_passed adds.headers keys (table_of l) brought.0 lacks has)) es
          h.headers_known

      not_at_end : {b : Bool} → (c.at == length now.text) ≡ b → (c.at == length now.text) ≡ false
      not_at_end {b = false} is = is
      not_at_end {b = true} is =
          absurd (other (eqb-true c.at (length now.text) is ∙ ap length read.reads.spelled))

  abbrev table : List Part
  table = table_in before path

  -- each line comes after it or before it
  in_order : All (λ l. IsAfterLine l its_line
      ⊎ ((l.at ≡ c.at) × (comes_before kept.kind table l.kind (table_of l) ≡ true))) (lines_of before h.ms)
  in_order =
      All-weaker (IsKnownAt adds)
      (λ l. IsAfterLine l its_line ⊎ ((l.at ≡ c.at) × (comes_before kept.kind table l.kind (table_of l) ≡ true)))
      (λ l known. subst (λ (own : Added). IsAfterLine l own
      ⊎ ((l.at ≡ c.at) × (comes_before kept.kind (table_of own) l.kind (table_of l) ≡ true))) line_is
      (kept.after l known)) (lines_of before h.ms) h.lines

  comes : ComesAhead before h.ms kept.kind its_line c
  comes = record {
    after = in_order;
    lets = All-weaker (IsHeaderKnown adds) (LetsTable its_line)
        (λ f known. subst (λ (own : Added). LetsTable own f) line_is (kept.lets f known)) es h.headers_known;
    passed = λ other. All-weaker (IsKnownAt adds) (λ l. IsHeaderAt c.at l → All (LetsTable l) es) (passed other)
        (lines_of before h.ms) h.lines;
    clear = ap (list_any (takes_up_to c.at)) h.changes_are ∙ kept.clear;
    alike = alike (placed.insert (ap runs.is_insert kept.is));
  }
    where
      alike : All (λ y. runs.is_insert (outlined y) ≡ true) outlines
          ⊎ (All (LeavesHere now) changes × All (LetsCome now.text changes c.at) changes)
          → All (λ f. IsTrue (runs.is_insert f)) es ⊎ (LeaveNewline before (changes_of h.ms) × LeavesNewline before c)
      alike (inl all) = inl (h.inserts all)
      alike (inr (leave, come)) = inr (
        leave_here now before read (changes_of h.ms) (subst (All (LeavesHere now)) (sym h.changes_are) leave),
        it.leaves before read,
      )

  r : IsRunAhead now.profile limit before h.ms path value kept.kind c
  r =
      run_goes_on_ahead now.profile limit before h.ms path value kept.kind c (editable now before read) h.at_once
      insert_is.adds_it others (subst (All (λ b. IsBeside b c)) (sym h.changes_are) it.put.beside) comes

  abbrev one : MadeEdit
  one = made (law.insert path value) c

  -- whether an edit comes behind the line
  abbrev comes_later : MadeEdit → Bool
  comes_later = comes_behind before kept.kind table c.at

  abbrev ms : List MadeEdit
  ms = ahead comes_later h.ms one

  so_far : IsRun now.profile limit before es changes (lines_of before h.ms) h.made.tree
  so_far = run_so_far s edits n old now before outlines changes adds read h

  goes_on : IsRun now.profile limit before (seen_of before ms) (changes_of ms) (lines_of before ms)
      (document_after before ms)
  goes_on = run_is_known now.profile limit before ms (editable now before read) r.still

  table_is : table_by (outlined o) ≡ table
  table_is = ap table_by kept.is ∙ ap without_last (sym insert_is.first_is)

  alike_counted : kept.kind ≡ OfDotted
      → All (λ l. is_above_at table c.at l ≡ is_shorter_at (length table) c.at l) (lines_of before h.ms)
  alike_counted dotted =
      All-weaker
      (λ l. IsAfterLine l its_line ⊎ ((l.at ≡ c.at) × (comes_before kept.kind table l.kind (table_of l) ≡ true)))
      (λ l. is_above_at table c.at l ≡ is_shorter_at (length table) c.at l)
      (λ l order. above_is_shorter table c.at its_line (insert_is.kind_of_it ∙ dotted) refl refl l
      (subst (λ (k : LineKind). IsAfterLine l its_line
      ⊎ ((l.at ≡ c.at) × (comes_before k table l.kind (table_of l) ≡ true))) (sym insert_is.kind_of_it) order))
      (lines_of before h.ms) in_order

  -- as many come behind it as are counted
  many : length it.put.behind ≡ length (behind before kept.kind table c.at h.ms)
  many =
      it.put.many
      ∙ subst₂ (λ (own : Option LineKind) (q : List Part).
      IsCountBehind adds q own c.at (c.at == length now.text) it.count) kept.line_is table_is it.count_is
      ∙ ap (λ (k : ℕ). k + (if c.at == length now.text then adds.appended else 0))
      (lines_known adds (lines_of before h.ms) es h.counts kept.kind table c.at alike_counted)
      ∙ ap (λ (bytes : List ℕ). lines_behind kept.kind table c.at (lines_of before h.ms)
      + (if c.at == length bytes then adds.appended else 0)) read.reads.spelled
      ∙ ap (λ (k : ℕ). lines_behind kept.kind table c.at (lines_of before h.ms)
      + (if c.at == length (text before) then k else 0)) (sym h.counts.appended)
      ∙ sym (counts_behind before kept.kind table c.at h.ms)

  new_is : new ≡ changes_of ms
  new_is =
      it.put.is
      ∙ sym (r.put it.put.before it.put.behind it.put.after (h.changes_are ∙ it.put.was) it.put.at it.put.later
      (subst (λ (k : ℕ). 0 < k) (sym it.put.many) it.some) many)

  -- ---- the edit

  abbrev own : law.Edit
  own = law.insert path value

  allowed : refusal now.profile limit h.made.tree own ≡ None
  allowed = subst (λ (u : Document). refusal now.profile limit u own ≡ None) h.tree_is r.allowed

  given_it : (kind : LineKind) → AddsAs kind now.profile limit before path value c
      → IsGivenValue Wide value × AllByRecursion IsUtf8 (keys_in path)
  given_it LastInBody adds_it = (adds_it.given, adds_it.utf8)
  given_it OfDotted adds_it = (adds_it.given, adds_it.utf8)
  given_it WithHeader adds_it = (adds_it.given, adds_it.utf8)

  lawful : IsLawfulEdit now.profile limit h.made.tree own
  lawful =
      let (value_given, keys_utf8) = given_it kept.kind insert_is.adds_it in
      insert_lawful now.profile limit h.made.tree path value so_far.editable value_given keys_utf8 allowed

  same : edited_document h.made.tree own ≡ document_after before ms
  same = ap (λ (u : Document). edited_document u own) (sym h.tree_is) ∙ r.same

  abbrev next : List ℕ
  next = text_with 0 now.text new

  next_utf8 : IsUtf8 next
  next_utf8 = text_utf8 now.text new read.utf8 (subst (Follow 0) (sym new_is) goes_on.follow) utf8 within

  -- the text is the one before with the edit's change in it
  next_is : next ≡ put (text_with 0 now.text changes) (place h.made.tree own)
  next_is =
      ap (λ (b : List ℕ). text_with 0 b new) read.reads.spelled
      ∙ ap (λ (cs : List TextChange). text_with 0 (text before) cs) new_is
      ∙ sym goes_on.text ∙ ap text (sym same) ∙ change_put h.made.tree own
      ∙ ap (λ (b : List ℕ). put b (place h.made.tree own))
      (so_far.text ∙ ap (λ (b : List ℕ). text_with 0 b changes) (sym read.reads.spelled))

  all_made : AreMade s (take (suc n) edits) old (changed_text now new)
  all_made =
      more_made (changed_text now changes) h.made.tree own h.made.read lawful next next_utf8 next_is s edits n old d x
      lt here (subst (IsEdit x) insert_is.is given) h.made refl allowed

  -- ---- the edits in the list

  -- what holds of the edits and of the insert holds of all
  all_of : (P : law.Edit → Type 0) → P a → All P es → All P (seen_of before ms)
  all_of P its = seen_ahead before comes_later one h.ms P (subst P insert_is.seen_is its)

  set_in : (q : List Part) → IsSetBy (outlines ++ o ∷ []) q → IsSetIn q ms
  set_in q any = elim (one_or_more (λ y. outlined y ≡ law.set q no_value) outlines o any) [
    | inl earlier ↦ set_ahead before comes_later one h.ms q (h.sets q earlier)
    | inr its ↦ (let never : law.insert kept.first no_value ≡ law.set q no_value = sym kept.is ∙ its in absurd cc)
  ]

  rename_in : (q : List Part) (name : List ℕ) → IsRenamedBy (outlines ++ o ∷ []) q name → IsRenameIn q ms
  rename_in q name any = elim (one_or_more (λ y. outlined y ≡ law.rename q name) outlines o any) [
    | inl earlier ↦ rename_ahead before comes_later one h.ms q (h.renames q name earlier)
    | inr its ↦ (let never : law.insert kept.first no_value ≡ law.rename q name = sym kept.is ∙ its in absurd cc)
  ]

  -- the lines are those and one more
  lines_then : All (IsKnownAt next_adds) (lines_of before ms)
  lines_then =
      lines_ahead before comes_later one h.ms (IsKnownAt next_adds)
      (All-cons (IsKnownAt next_adds) its_line [] (subst (IsKnownAt next_adds) line_is kept.here)
      (All-nil (IsKnownAt next_adds)))
      (All-weaker (IsKnownAt adds) (IsKnownAt next_adds) kept.others (lines_of before h.ms) h.lines)

  -- and are counted so
  abbrev counted_by : law.Edit → Option LineKind → (Added → Bool) → ℕ
  counted_by f own p = count_by p (lines_by f c.at own)

  its_counted : (p : Added → Bool) → counted_by (outlined o) line p ≡ count_by p (its_line ∷ [])
  its_counted p =
      ap (λ (f : law.Edit). counted_by f line p) kept.is
      ∙ ap (λ (own : Option LineKind). counted_by (law.insert kept.first no_value) own p) kept.line_is
      ∙ ap (λ (l : Added). count_by p (l ∷ [])) line_is

  counts : IsCounted next_adds (lines_of before ms) (seen_of before ms)
  counts = record {
    shorter = λ most i. omega (
      arith,
      lines_counted_ahead before comes_later one h.ms (is_shorter_at most i),
      h.counts.shorter most i,
      kept.counts.shorter most i,
      its_counted (is_shorter_at most i),
    );
    ends = λ i. omega (
      arith,
      lines_counted_ahead before comes_later one h.ms (is_end_at i),
      h.counts.ends i,
      kept.counts.ends i,
      its_counted (is_end_at i),
    );
    headed = λ i. omega (
      arith,
      lines_counted_ahead before comes_later one h.ms (is_headed_at i),
      h.counts.headed i,
      kept.counts.headed i,
      its_counted (is_headed_at i),
    );
    appended = omega (
      arith,
      seen_counted_ahead before comes_later one h.ms runs.is_header,
      h.counts.appended,
      kept.counts.appended,
      ap (λ (f : law.Edit). count_by runs.is_header (f ∷ [])) kept.is,
    );
  }

  -- headers come where they came, or with it
  headed : (i : ℕ) (table : List Part) → brought_at next_adds i ≡ Some table → Any (IsHeaderAt i) (lines_of before ms)
  headed i table there = elim (kept.brought i table there) [
    | inl was ↦ line_ahead before comes_later one h.ms (IsHeaderAt i) (h.headed i table was)
    | inr (same, (with_it, its)) ↦
        (let both : Some WithHeader ≡ Some kept.kind = sym with_it ∙ kept.line_is in
        let kind : WithHeader ≡ kept.kind = cc in
        its_line_ahead before comes_later one h.ms (IsHeaderAt i)
        (zero, its_line, omega arith, refl, (sym same, insert_is.kind_of_it ∙ sym kind)))
  ]

  pub made_ahead : IsRunTo s edits (suc n) old now before (outlines ++ o ∷ []) new next_adds
  made_ahead = record {
    made = all_made;
    ms = ms;
    alone = λ f all.
        let (all_before, its) = parts (λ y. runs.LeavesAlone (outlined y) (plain f)) outlines o all in
        all_of (λ g. runs.LeavesAlone g f)
        (plain_alone a f (subst (λ (g : law.Edit). runs.LeavesAlone g (plain f)) (sym plain_is) its))
        (h.alone f all_before);
    inserts = λ all.
        let (all_before, its) = parts (λ y. runs.is_insert (outlined y) ≡ true) outlines o all in
        all_of (λ g. IsTrue (runs.is_insert g))
        (sym (plain_insert a) ∙ ap runs.is_insert plain_is ∙ its) (h.inserts all_before);
    headers = λ all.
        let (all_before, its) = parts (λ y. runs.is_header (outlined y) ≡ true) outlines o all in
        all_of (λ g. IsTrue (runs.is_header g))
        (sym (plain_header a) ∙ ap runs.is_header plain_is ∙ its) (h.headers all_before);
    sets = set_in;
    renames = rename_in;
    allow = λ q name all.
        let (all_before, its) = parts (λ y. AllowsKey q name (outlined y)) outlines o all in
        all_of (AllowsKey q name)
        (plain_allows q name a (subst (AllowsKey q name) (sym plain_is) its)) (h.allow q name all_before);
    lines = lines_then;
    counts = counts;
    followed = λ none.
        made_all_ahead before comes_later one h.ms (λ m. MakesChange now.profile limit before m.edit m.change)
        (kept.kind, insert_is.adds_it) (h.followed (sym kept.follower ∙ none));
    headed = headed;
    headers_known = all_of (IsHeaderKnown next_adds)
        (plain_known next_adds a
        (subst (IsHeaderKnown next_adds) (sym plain_is) (subst (IsHeaderKnown next_adds) (sym kept.is) tt)))
        (All-weaker (IsHeaderKnown adds) (IsHeaderKnown next_adds) kept.headers es h.headers_known);
    at_once = r.still;
    changes_are = sym new_is;
    tree_is = tree_of_run now before ms new all_made.tree read r.still (sym new_is) all_made.read;
  }

  -- in the document after the edits it adds its line still
  pub made_there : IsInsertThere now.profile before h.made.tree e a it.kept.kind c.new
  made_there =
      subst (λ (u : Document). IsInsertThere now.profile before u e a it.kept.kind c.new) h.tree_is (record {
        path = path;
        value = value;
        is = insert_is.is;
        seen_is = insert_is.seen_is;
        change = r.there;
        new_is = r.new_is;
        makes = (kept.kind, r.makes);
        first = r.seen_still.0;
        kind_is = r.seen_still.1 ∙ insert_is.kind_of_it;
      })

-- ---- as the code goes

pub more_ahead : (edits : List Edit) (first end : ℕ) (now : ProfiledText) (outlines : List Outline)
    (changes new : List TextChange) (adds next : AddedLines) (d x : Edit) (o : Outline) (t : TextEdit)
    (line : Option LineKind)
    → AreMadeTo edits first end now outlines changes adds → end < length edits → get_or edits end d ≡ x
    → MakesInRunHere now x (outlined o) t line → All (λ y. LeavesAlone y o) outlines
    → IsPlaced outlines now changes o (change_of t).at
    → IsAddedAhead now adds changes o (change_of t) line next new
    → AreMadeTo edits first (suc end) now (outlines ++ o ∷ []) new next
more_ahead edits first end now outlines changes new adds next d x o t line so_far lt here makes alone placed it =
    let c : TextChange = change_of t in
    let utf8 = each_ahead (λ b. IsUtf8 b.new) changes new c it.put so_far.utf8 (IsUtf8-string_bytes t.new) in
    let within =
    each_ahead (IsChangeIn now.text) changes new c it.put so_far.within (change_in now.text t makes.within) in
    record {
      made = λ s old h. made_ahead s edits end old now h.tree outlines changes new adds next h.read
          (so_far.made s old h) d x lt here o makes.edit (makes.in_run h.tree) makes.is
          (makes.outline_is h.tree h.read) c line (makes.makes h.tree h.read) alone placed it utf8 within;
      within = within;
      utf8 = utf8;
    }
