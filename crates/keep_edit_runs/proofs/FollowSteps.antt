-- Edits of a list that are made at once, and one more that inserts a second key of a table whose header one of them
-- brings: its line alone comes behind that header's.
--
-- By the law of such lines the insert is not refused after the edits, and its line is put in where they move it. So the
-- edits up to it are made. The table is that of the header, as others see the insert by its first new key.
--
-- Theorems: `more_following`; `made_there`: the insert adds its line in the document after the edits.
use Rattle.std.proofs.Common.{[], ◌≡◌, ◌<◌, ◌∷◌, ◌++◌, ℕ, suc, List, take, length, get_or, refl, sym}
use Rattle.std.proofs.Common.{ap, subst, ◌∙◌, All, IsUtf8, inl, inr, None, Option, Some, false, map, true}
use Rattle.std.proofs.Common.{arith, string_bytes}
use Rattle.std.specs.Prelude.{◌⊎◌, ◌==◌, ◌&&◌, Any, Bool, IsTrue}
use Rattle.std.specs.List.{list_any}
use Rattle.std.proofs.lemmas.List.Elements.{All-cons, All-weaker}
use Rattle.std.proofs.lemmas.Str.{IsUtf8-string_bytes}
use Rattle.keep_syntax.specs.Tree.{Document, Value, text}
use Rattle.keep_path.specs.Path.{Part, key, without_last}
use Rattle.keep_meaning.specs.Meaning.{mentions_in}
use Rattle.keep_edit_spec.specs.AddedLines.{first_new}
use Rattle.keep_edit_spec.specs.BroughtHeaders.{BringsLine}
use Rattle.keep_edit_spec.specs.InsertKinds.{Added, IsHeaderAt, added_as, has_header, is_last_in_body, kind_of}
use Rattle.keep_edit_spec.specs.InsertKinds.{table_of}
use Rattle.keep_edit_spec.specs.LinesAhead.{is_end_at, is_headed_at}
use Rattle.keep_edit_spec.specs.declared.line_kind.LineKind.TheVariants.{LastInBody, OfDotted, WithHeader}
use Rattle.keep_edit_spec.specs.Edits as law
use Rattle.keep_edit_spec.specs.Edits.{edited_document}
use Rattle.keep_edit_spec.specs.Laws.{IsLawfulEdit}
use Rattle.keep_edit_spec.specs.Look.{holder}
use Rattle.keep_edit_spec.specs.Refusals.{refusal}
use Rattle.keep_edit_spec.specs.RenameLists.{AllowsKey, IsRenameIn}
use Rattle.keep_edit_spec.specs.RunLists.{AreAtOnce, FollowsHeader, IsSetIn, KeepsBehind, MadeEdit, changes_of}
use Rattle.keep_edit_spec.specs.RunLists.{document_after, lines_of, made, seen_of}
use Rattle.keep_edit_spec.specs.Runs as runs
use Rattle.keep_edit_spec.specs.Runs.{IsBeforeHeaders, IsRun, IsRunLonger, LeaveNewline, LetsCome, takes_up_to}
use Rattle.keep_edit_spec.specs.TextChanges.{IsBeside, TextChange, moved_past, with_change}
use Rattle.keep_edit_spec.specs.declared.line_kind.LineKind.{LineKind}
use Rattle.keep_edit_spec.proofs.Shared.{all_with, follows_now, insert_lawful, kind_is, run_goes_on_behind}
use Rattle.keep_edit_spec.proofs.Shared.{without_last-snoc}
use Rattle.keep_edit_plan.proofs.Shared.{change_in, editable}
use Rattle.keep_edit_plan.specs.Reading.{IsTextOfTree, IsTextOfValue, ProfiledText, limit}
use Rattle.keep_edit_plan.specs.TextEdits.{IsChangeIn, change_of}
use Rattle.keep_edit_plan.specs.declared.edit.Edit.{Edit}
use Rattle.keep_edit_plan.specs.declared.edit.Edit.TheVariants as edit
use Rattle.keep_edit_plan.specs.declared.text_edit.TextEdit.{TextEdit}
use Rattle.keep_edit_runs.specs.AddedLines.{HasTable, IsCounted, IsHeaderKnown, IsKnownAs, IsKnownAt, brought_at}
use Rattle.keep_edit_runs.specs.AddedLines.{is_shorter, is_shorter_at}
use Rattle.keep_edit_runs.specs.Counts.{count_at, shorter_at}
use Rattle.keep_edit_runs.specs.Lists.{AreMade, IsEdit}
use Rattle.keep_edit_runs.specs.Newlines.{LeavesHere}
use Rattle.keep_edit_runs.specs.Runs.{IsAddedFollowing, IsKeptBehind, IsRenamedBy, IsRunTo, IsSetBy, LeavesAlone}
use Rattle.keep_edit_runs.specs.Runs.{MakesInRun, MakesInRunHere, changed_text, no_value, outlined, plain}
use Rattle.keep_edit_runs.specs.SeenHeaders.{HasTableOf}
use Rattle.keep_edit_runs.specs.declared.added_lines.AddedLines.{AddedLines}
use Rattle.keep_edit_runs.specs.declared.outline.Outline.{Outline}
use Rattle.keep_edit_runs.proofs.AheadSteps.{IsInsertThere}
use Rattle.keep_edit_runs.proofs.LineLaws.{with_header}
use Rattle.keep_edit_runs.proofs.NewlineSteps.{leave_here}
use Rattle.keep_edit_runs.proofs.RunSteps.{AreMadeTo, IsPlaced, any_later, before_headers, change_made, counted_more}
use Rattle.keep_edit_runs.proofs.RunSteps.{one_if, one_or_more, parts, plain_allows, plain_alone, plain_header}
use Rattle.keep_edit_runs.proofs.RunSteps.{plain_insert, plain_known, run_so_far, tree_of_run}

-- what a path begins with up to one step more than another, with which it begins
first_steps_are : (a : List Part) (k : Part) (ks : List Part) → take (suc (length a)) (a ++ k ∷ ks) ≡ a ++ k ∷ []
first_steps_are [] k ks = refl
first_steps_are (p ∷ a) k ks = ap (λ (l : List Part). p ∷ l) (first_steps_are a k ks)

-- ---- one more

module _ (s : Document) (edits : List Edit) (n : ℕ) (old now : ProfiledText) (before : Document)
    (outlines : List Outline) (changes new : List TextChange) (adds next_adds : AddedLines)
    (read : IsTextOfTree now before) (h : IsRunTo s edits n old now before outlines changes adds) (d x : Edit)
    (lt : n < length edits) (here : get_or edits n d ≡ x) (o : Outline) (e a : law.Edit) (given : IsEdit x e)
    (plain_is : plain a ≡ outlined o) (c : TextChange) (line : Option LineKind)
    (makes : MakesInRun now.profile before e a c line) (others_alone : All (λ y. LeavesAlone y o) outlines)
    (placed : IsPlaced outlines now changes o c.at) (it : IsAddedFollowing now x adds changes o c.at next_adds new)
    (utf8 : All (λ b. IsUtf8 b.new) new) (within : All (IsChangeIn now.text) new) where
  abbrev t : TextChange
  t = change_of it.line

  abbrev kept : IsKeptBehind adds changes o c.at next_adds
  kept = it.kept

  abbrev es : List law.Edit
  es = seen_of before h.ms

  abbrev path : List Part
  path = it.alone.path

  -- the edit is an insert of a value at that path
  record IsInsert : Type 0 where
    value : Value
    is : e ≡ law.insert path value
    seen_is : a ≡ law.insert (first_new before path) value
    brings : BringsLine now.profile limit before path value t
    first_is : first_new before path ≡ kept.of.first

  insert_is : IsInsert
  insert_is = by (subst (λ (y : Edit). IsEdit y e) it.alone.is given) makes
    where
      other : {A : Type 0} (f : law.Edit) → a ≡ f → (plain f ≡ law.insert kept.of.first no_value → ⊥) → A
      other f is never = absurd (never (sym (ap plain is) ∙ plain_is ∙ kept.of.is))

      seen_by : (v : Value) → IsTextOfValue it.alone.given v → e ≡ law.insert path v
          → MakesInRun now.profile before (law.insert path v) a c line → IsInsert
      seen_by v value_given is (inl (seen_as, makes_it, of)) =
          let firsts : law.insert (first_new before path) no_value ≡ law.insert kept.of.first no_value =
          sym (ap plain seen_as) ∙ plain_is ∙ kept.of.is in
          record {
            value = v;
            is = is;
            seen_is = seen_as;
            brings = it.alone.adds before read v value_given;
            first_is = cc;
          }
      seen_by v value_given is (inr (holds, value, seen_as, sets)) = other (law.set holds value) seen_as (λ no_one. cc)

      by : IsEdit (edit.Insert path it.alone.given) e → MakesInRun now.profile before e a c line → IsInsert
      by (v, value_given, is) making =
          seen_by v value_given is (subst (λ (f : law.Edit). MakesInRun now.profile before f a c line) is making)

  abbrev value : Value
  value = insert_is.value

  abbrev own : law.Edit
  own = law.insert path value

  abbrev its_line : Added
  its_line = added_as before path t

  abbrev brings : BringsLine now.profile limit before path value t
  brings = insert_is.brings

  kind : kind_of before path ≡ WithHeader
  kind = kind_is WithHeader now.profile limit before path value brings.whole brings.brings

  -- the table is that of the header
  holder_is : table_of its_line ≡ holder path (mentions_in before)
  holder_is =
      let a : List Part = holder path (mentions_in before) in
      ap without_last
      (ap (take (suc (length a))) brings.brings.new
      ∙ first_steps_are a (key brings.brings.text) (map key brings.brings.more))
      ∙ without_last-snoc a (key brings.brings.text)

  table_is : kept.of.table ≡ table_of its_line
  table_is = kept.of.table_is ∙ ap without_last (sym insert_is.first_is)

  at_is : t.at ≡ c.at
  at_is = it.place

  -- which comes there
  record IsHeader (l : Added) : Type 0 where
    there : IsHeaderAt t.at l
    table : table_of l ≡ table_of its_line
    known : IsKnownAs WithHeader adds l

  headers_there : Any IsHeader (lines_of before h.ms)
  headers_there =
      let (k, l, less, is, (at, headed)) = h.headed c.at kept.of.table kept.of.header in
      let its : IsKnownAt adds l = known_of (lines_of before h.ms) h.lines k l less is in
      let known : IsKnownAs WithHeader adds l = with_header adds l its headed in
      let both : Some (table_of l) ≡ Some kept.of.table =
      sym (subst (λ (i : ℕ). brought_at adds i ≡ Some (table_of l)) at known.0) ∙ kept.of.header in
      let same : table_of l ≡ kept.of.table = cc in
      (k, l, less, is, record { there = (at ∙ sym at_is, headed); table = same ∙ table_is; known = known })
    where
      known_of : (lines : List Added) → All (IsKnownAt adds) lines → (k : ℕ) (l : Added) → k < length lines
          → get_or lines k l ≡ l → IsKnownAt adds l
      known_of lines all k l less is = subst (IsKnownAt adds) is (all k l less)

  follows : FollowsHeader now.profile limit before (lines_of before h.ms) path value t
  follows = record {
    alone = brings;
    header = (let (k, l, less, is, header) = headers_there in
        (k, l, less, is, (header.there, header.table ∙ holder_is)));
  }

  others : All (λ f. runs.LeavesAlone f (law.insert (first_new before path) value)) es
  others =
      subst (λ (g : law.Edit). All (λ f. runs.LeavesAlone f g) es) insert_is.seen_is
      (h.alone a
      (subst (λ (g : law.Edit). All (λ y. runs.LeavesAlone (outlined y) g) outlines) (sym plain_is) others_alone))

  beside_all : All (λ b. IsBeside b t) (changes_of h.ms)
  beside_all = subst (All (λ b. IsBeside b t)) (sym h.changes_are) it.beside

  keeps : KeepsBehind before es (changes_of h.ms) t
  keeps = (
    ap (list_any (takes_up_to t.at)) h.changes_are ∙ ap (λ (i : ℕ). list_any (takes_up_to i) changes) at_is
        ∙ kept.clear,
    alike (placed.insert (ap runs.is_insert kept.of.is)),
  )
    where
      alike : All (λ y. runs.is_insert (outlined y) ≡ true) outlines
          ⊎ (All (LeavesHere now) changes × All (LetsCome now.text changes c.at) changes)
          → All (λ f. IsTrue (runs.is_insert f)) es
          ⊎ (LeaveNewline before (changes_of h.ms) × IsBeforeHeaders (text before) es t.at)
      alike (inl all) = inl (h.inserts all)
      alike (inr (leave, come)) = inr (
        leave_here now before read (changes_of h.ms) (subst (All (LeavesHere now)) (sym h.changes_are) leave),
        subst (λ (i : ℕ). IsBeforeHeaders (text before) es i) (sym at_is)
            (subst (λ (bytes : List ℕ). IsBeforeHeaders bytes es c.at) read.reads.spelled
            (before_headers now.text es c.at adds h.counts.appended it.ends)),
      )

  longer : IsRunLonger now.profile limit before es (changes_of h.ms) (lines_of before h.ms) (document_after before h.ms)
      own t
  longer =
      run_goes_on_behind now.profile limit before h.ms path value t (editable now before read) h.at_once follows others
      beside_all keeps

  abbrev ms : List MadeEdit
  ms = made own t ∷ h.ms

  at_once : AreAtOnce now.profile limit before ms
  at_once = (inr (follows, keeps), (others, (beside_all, h.at_once)))

  so_far : IsRun now.profile limit before es changes (lines_of before h.ms) h.made.tree
  so_far = run_so_far s edits n old now before outlines changes adds read h

  changes_now : with_change (changes_of h.ms) t ≡ with_change changes t
  changes_now = ap (λ (cs : List TextChange). with_change cs t) h.changes_are

  goes_on : IsRun now.profile limit before (runs.seen before own ∷ es) (with_change changes t)
      (runs.with_line before own t (lines_of before h.ms)) (edited_document h.made.tree own)
  goes_on =
      subst (λ (u : Document). IsRun now.profile limit before (runs.seen before own ∷ es) (with_change changes t)
      (runs.with_line before own t (lines_of before h.ms)) (edited_document u own)) h.tree_is
      (subst (λ (cs : List TextChange). IsRun now.profile limit before (runs.seen before own ∷ es) cs
      (runs.with_line before own t (lines_of before h.ms)) (edited_document (document_after before h.ms) own))
      changes_now longer.run)

  allowed : refusal now.profile limit h.made.tree own ≡ None
  allowed = subst (λ (u : Document). refusal now.profile limit u own ≡ None) h.tree_is longer.allowed

  lawful : IsLawfulEdit now.profile limit h.made.tree own
  lawful =
      insert_lawful now.profile limit h.made.tree path value so_far.editable brings.brings.given brings.brings.utf8
      allowed

  new_is : with_change changes t ≡ new
  new_is = sym it.changes_are

  all_made : AreMade s (take (suc n) edits) old (changed_text now (with_change changes t))
  all_made =
      change_made s edits n old now before changes read h.made d x lt here own (subst (IsEdit x) insert_is.is given) t
      so_far.text goes_on.text goes_on.follow allowed lawful (subst (All (λ b. IsUtf8 b.new)) it.changes_are utf8)
      (subst (All (IsChangeIn now.text)) it.changes_are within)

  -- ---- the edits in the list

  -- what holds of the edits and of the insert holds of all
  all_of : (P : law.Edit → Type 0) → P a → All P es → All P (seen_of before ms)
  all_of P its all = All-cons P (runs.seen before own) es (subst P insert_is.seen_is its) all

  set_in : (q : List Part) → IsSetBy (outlines ++ o ∷ []) q → IsSetIn q ms
  set_in q any = elim (one_or_more (λ y. outlined y ≡ law.set q no_value) outlines o any) [
    | inl earlier ↦ inr (h.sets q earlier)
    | inr its ↦ (let never : law.insert kept.of.first no_value ≡ law.set q no_value = sym kept.of.is ∙ its in absurd cc)
  ]

  rename_in : (q : List Part) (name : List ℕ) → IsRenamedBy (outlines ++ o ∷ []) q name → IsRenameIn q ms
  rename_in q name any = elim (one_or_more (λ y. outlined y ≡ law.rename q name) outlines o any) [
    | inl earlier ↦ inr (h.renames q name earlier)
    | inr its ↦ (let never : law.insert kept.of.first no_value ≡ law.rename q name = sym kept.of.is ∙ its in absurd cc)
  ]

  -- all but how many lines come with headers and behind them is as it was
  abbrev one_behind : AddedLines
  one_behind = record adds { headed = next_adds.headed; has_follower = true }

  as_before : (P : AddedLines → Type 0) → P one_behind → P next_adds
  as_before P = subst P (sym kept.rest)

  still_known : (l : Added) → IsKnownAt adds l → IsKnownAt next_adds l
  still_known l known = as_before (λ (next : AddedLines). IsKnownAt next l) (by l.kind known)
    where
      by : (k : LineKind) → IsKnownAs k adds l → IsKnownAs k one_behind l
      by LastInBody is = is
      by OfDotted is = is
      by WithHeader is = is

  -- its line is known as the header's is
  line_known : IsKnownAt next_adds its_line
  line_known =
      let (k, l, less, is, header) = headers_there in
      let (headed, (has, of)) = header.known in
      let there : IsKnownAs WithHeader adds its_line = (
        subst (λ (q : List Part). brought_at adds t.at ≡ Some q) header.table
            (subst (λ (i : ℕ). brought_at adds i ≡ Some (table_of l)) header.there.0 headed),
        (subst (HasTable adds) header.table has, subst (HasTableOf adds.headers) header.table of),
      ) in
      still_known its_line (subst (λ (k : LineKind). IsKnownAs k adds its_line) (sym kind) there)

  -- and counted with those that come there
  line_counted : IsCounted next_adds (lines_of before ms) (seen_of before ms)
  line_counted = record {
    shorter = λ most i.
        let its : one_if ((t.at == i) && is_shorter most its_line.kind (table_of its_line)) ≡ 0 =
        subst (λ (k : LineKind). one_if ((t.at == i) && is_shorter most k (table_of its_line)) ≡ 0) (sym kind)
        (no_end (t.at == i)) in
        let same : shorter_at next_adds.dotted.lengths most i ≡ shorter_at adds.dotted.lengths most i =
        as_before (λ (next : AddedLines).
        shorter_at next.dotted.lengths most i ≡ shorter_at adds.dotted.lengths most i) refl in
        omega (
          arith,
          counted_more (is_shorter_at most i) its_line (lines_of before h.ms),
          its,
          h.counts.shorter most i,
          same,
        );
    ends = λ i.
        let its : one_if ((t.at == i) && is_last_in_body its_line.kind) ≡ 0 =
        subst (λ (k : LineKind). one_if ((t.at == i) && is_last_in_body k) ≡ 0) (sym kind) (no_end (t.at == i)) in
        let same : count_at next_adds.ends i ≡ count_at adds.ends i =
        as_before (λ (next : AddedLines). count_at next.ends i ≡ count_at adds.ends i) refl in
        omega (arith, counted_more (is_end_at i) its_line (lines_of before h.ms), its, h.counts.ends i, same);
    headed = λ i.
        let its : one_if ((t.at == i) && has_header its_line.kind) ≡ one_if (c.at == i) =
        subst (λ (k : LineKind). one_if ((t.at == i) && has_header k) ≡ one_if (c.at == i)) (sym kind)
        (subst (λ (at : ℕ). one_if ((at == i) && true) ≡ one_if (c.at == i)) (sym at_is) (one_there (c.at == i))) in
        omega (
          arith,
          counted_more (is_headed_at i) its_line (lines_of before h.ms),
          its,
          h.counts.headed i,
          kept.one i,
        );
    appended =
        let same : next_adds.appended ≡ adds.appended =
        as_before (λ (next : AddedLines). next.appended ≡ adds.appended) refl in
        omega (arith, counted_more runs.is_header (runs.seen before own) es, h.counts.appended, same);
  }
    where
      no_end : (b : Bool) → one_if (b && false) ≡ 0
      no_end true = refl
      no_end false = refl

      one_there : (b : Bool) → one_if (b && true) ≡ one_if b
      one_there true = refl
      one_there false = refl

  pub made_following : IsRunTo s edits (suc n) old now before (outlines ++ o ∷ []) (with_change changes t) next_adds
  made_following = record {
    made = all_made;
    ms = ms;
    alone = λ f all.
        let (all_before, its) = parts (λ y. runs.LeavesAlone (outlined y) (plain f)) outlines o all in
        all_of (λ g. runs.LeavesAlone g f)
        (plain_alone a f (subst (λ (g : law.Edit). runs.LeavesAlone g (plain f)) (sym plain_is) its))
        (h.alone f all_before);
    inserts = λ all.
        let (all_before, its) = parts (λ y. runs.is_insert (outlined y) ≡ true) outlines o all in
        all_of (λ g. IsTrue (runs.is_insert g))
        (sym (plain_insert a) ∙ ap runs.is_insert plain_is ∙ its) (h.inserts all_before);
    headers = λ all.
        let (all_before, its) = parts (λ y. runs.is_header (outlined y) ≡ true) outlines o all in
        all_of (λ g. IsTrue (runs.is_header g))
        (sym (plain_header a) ∙ ap runs.is_header plain_is ∙ its) (h.headers all_before);
    sets = set_in;
    renames = rename_in;
    allow = λ q name all.
        let (all_before, its) = parts (λ y. AllowsKey q name (outlined y)) outlines o all in
        all_of (AllowsKey q name)
        (plain_allows q name a (subst (AllowsKey q name) (sym plain_is) its)) (h.allow q name all_before);
    lines = All-cons (IsKnownAt next_adds) its_line (lines_of before h.ms) line_known
        (All-weaker (IsKnownAt adds) (IsKnownAt next_adds) still_known (lines_of before h.ms) h.lines);
    counts = line_counted;
    followed = λ none. absurd
        (let follows : next_adds.has_follower ≡ true =
        as_before (λ (next : AddedLines). next.has_follower ≡ true) refl in cc);
    headed = λ i table there. any_later (IsHeaderAt i) its_line (lines_of before h.ms)
        (h.headed i table (subst (λ (next : AddedLines). brought_at next i ≡ Some table) kept.rest there));
    headers_known = all_of (IsHeaderKnown next_adds)
        (plain_known next_adds a
        (subst (IsHeaderKnown next_adds) (sym plain_is) (subst (IsHeaderKnown next_adds) (sym kept.of.is) tt)))
        (All-weaker (IsHeaderKnown adds) (IsHeaderKnown next_adds) headers_still es h.headers_known);
    at_once = at_once;
    changes_are = changes_now;
    tree_is = tree_of_run now before ms (with_change changes t) all_made.tree read at_once changes_now all_made.read;
  }
    where
      headers_still : (f : law.Edit) → IsHeaderKnown adds f → IsHeaderKnown next_adds f
      headers_still f known = as_before (λ (next : AddedLines). IsHeaderKnown next f) (by f known)
        where
          by : (g : law.Edit) → IsHeaderKnown adds g
              → IsHeaderKnown one_behind g
          by (law.append_table ks) is = is
          by (law.append_element ks) is = is
          by (law.insert p v) is = tt
          by (law.remove p) is = tt
          by (law.set p v) is = tt
          by (law.rename p name) is = tt

  -- in the document after the edits the table is there, and the insert adds its line to it
  pub made_there : IsInsertThere now.profile before h.made.tree e a LastInBody (string_bytes it.line.new)
  made_there =
      let (adds, first) =
      follows_now now.profile limit before h.ms path value t (editable now before read) h.at_once follows others
      beside_all keeps in
      let there : TextChange = moved_past (changes_of h.ms) t in
      subst (λ (u : Document). IsInsertThere now.profile before u e a LastInBody (string_bytes it.line.new)) h.tree_is
      (record {
        path = path;
        value = value;
        is = insert_is.is;
        seen_is = insert_is.seen_is;
        change = there;
        new_is = refl;
        makes = (LastInBody, adds);
        first = first;
        kind_is = kind_is LastInBody now.profile limit (document_after before h.ms) path value there adds;
      })

-- ---- as the code goes

pub more_following : (edits : List Edit) (first end : ℕ) (now : ProfiledText) (outlines : List Outline)
    (changes new : List TextChange) (adds next : AddedLines) (d x : Edit) (o : Outline) (t : TextEdit)
    (line : Option LineKind)
    → AreMadeTo edits first end now outlines changes adds → end < length edits → get_or edits end d ≡ x
    → MakesInRunHere now x (outlined o) t line → All (λ y. LeavesAlone y o) outlines
    → IsPlaced outlines now changes o (change_of t).at
    → IsAddedFollowing now x adds changes o (change_of t).at next new
    → AreMadeTo edits first (suc end) now (outlines ++ o ∷ []) new next
more_following edits first end now outlines changes new adds next d x o t line so_far lt here makes alone placed it =
    let c : TextChange = change_of it.line in
    let utf8 =
    subst (All (λ b. IsUtf8 b.new)) (sym it.changes_are)
    (all_with (λ b. IsUtf8 b.new) changes c so_far.utf8 (IsUtf8-string_bytes it.line.new)) in
    let within =
    subst (All (IsChangeIn now.text)) (sym it.changes_are)
    (all_with (IsChangeIn now.text) changes c so_far.within (change_in now.text it.line it.alone.within)) in
    record {
      made = λ s old h. subst (λ (cs : List TextChange). IsRunTo s edits (suc end) old now h.tree
          (outlines ++ o ∷ []) cs next) (sym it.changes_are)
          (made_following s edits end old now h.tree outlines changes new adds next h.read (so_far.made s old h) d x lt
          here o makes.edit (makes.in_run h.tree) makes.is (makes.outline_is h.tree h.read) (change_of t) line
          (makes.makes h.tree h.read) alone placed it utf8 within);
      within = within;
      utf8 = utf8;
    }
