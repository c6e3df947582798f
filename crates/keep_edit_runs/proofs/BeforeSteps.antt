-- Edits of a list that are made at once, and one more that adds a line, where one of them could come after it.
--
-- By the law of such lines the insert is not refused after the edits, and makes the document that they make where it
-- comes before that one, after all others. So the edits up to it are made, and the text is that with its change. What
-- is known of the edits is known of them in that order, too.
--
-- Theorems: `insert_is`: the edit; `made_before`; `made_there`: the insert adds its line in the document after the
-- edits.
use Rattle.std.proofs.Common.{◌≡◌, ◌≢◌, ◌<◌, ◌∷◌, ◌++◌, [], ℕ, suc, List, take, length, get_or, refl, sym}
use Rattle.std.proofs.Common.{ap, subst, ◌∙◌, All, IsUtf8, arith, inl, inr, None, Some, true}
use Rattle.std.specs.Prelude.{Any, Bool, IsTrue}
use Rattle.std.specs.List.{AllByRecursion, count_by}
use Rattle.std.proofs.lemmas.List.Elements.{All-cons, All-weaker}
use Rattle.keep_types.specs.declared.leaf.Profile.TheVariants.{Wide}
use Rattle.keep_syntax.specs.Tree.{Document, Value, text}
use Rattle.keep_path.specs.Path.{Part}
use Rattle.keep_edit_spec.specs.AddedLines.{first_new}
use Rattle.keep_edit_spec.specs.Changed.{put}
use Rattle.keep_edit_spec.specs.InsertKinds.{Added, AddsAs, IsHeaderAt, added_as, kind_of}
use Rattle.keep_edit_spec.specs.declared.line_kind.LineKind.{LineKind}
use Rattle.keep_edit_spec.specs.declared.line_kind.LineKind.TheVariants.{LastInBody, OfDotted, WithHeader}
use Rattle.keep_edit_spec.specs.Edits as law
use Rattle.keep_edit_spec.specs.Edits.{edited_document, place}
use Rattle.keep_edit_spec.specs.Laws.{IsGivenValue, IsLawfulEdit}
use Rattle.keep_edit_spec.specs.LinesAhead.{is_end_at, is_headed_at}
use Rattle.keep_edit_spec.specs.LinesInPlace.{IsRunBefore}
use Rattle.keep_edit_spec.specs.Look.{keys_in}
use Rattle.keep_edit_spec.specs.Refusals.{refusal}
use Rattle.keep_edit_spec.specs.RenameLists.{AllowsKey, IsRenameIn}
use Rattle.keep_edit_spec.specs.RunLists.{IsSetIn, MadeEdit, changes_of, document_after, lines_of, made, seen_of}
use Rattle.keep_edit_spec.specs.Runs as runs
use Rattle.keep_edit_spec.specs.Runs.{IsBeforeHeaders, IsRun, LetsTable, MakesChange}
use Rattle.keep_edit_spec.specs.TextChanges.{Follow, TextChange, text_with}
use Rattle.keep_edit_spec.proofs.Shared.{change_put, each_of_others, insert_lawful, kind_is, lines_apart}
use Rattle.keep_edit_spec.proofs.Shared.{run_is_known}
use Rattle.keep_edit_plan.proofs.Shared.{editable}
use Rattle.keep_edit_plan.specs.TextEdits.{IsChangeIn}
use Rattle.keep_edit_plan.specs.declared.edit.Edit.{Edit}
use Rattle.keep_edit_runs.specs.AddedLines.{IsCounted, IsHeaderKnown, IsKnownAt, brought_at, is_shorter_at, line_of}
use Rattle.keep_edit_runs.specs.AddedLines.{lines_by}
use Rattle.keep_edit_runs.specs.Lists.{AreMade, IsEdit}
use Rattle.keep_edit_plan.specs.Reading.{IsTextOfTree, ProfiledText, limit}
use Rattle.keep_edit_runs.specs.Runs.{IsKnownThen, IsLineKept, IsRenamedBy, IsRunTo, IsSetBy}
use Rattle.keep_edit_runs.specs.Runs.{LeavesAlone, MakesInRun, changed_text, no_value, outlined, plain}
use Rattle.keep_edit_runs.specs.declared.added_lines.AddedLines.{AddedLines}
use Rattle.keep_edit_runs.specs.declared.outline.Outline.{Outline}
use Rattle.keep_edit_runs.proofs.AheadSteps.{IsInsertThere}
use Rattle.keep_edit_runs.proofs.MadeMore.{more_made}
use Rattle.keep_edit_runs.proofs.RunSteps.{any_later, counted_more, made_of_others}
use Rattle.keep_edit_runs.proofs.RunSteps.{one_if, one_or_more, parts, plain_allows, plain_alone, plain_header}
use Rattle.keep_edit_runs.proofs.RunSteps.{plain_insert}
use Rattle.keep_edit_runs.proofs.RunSteps.{plain_known, run_so_far, text_utf8, tree_of_run}
use Rattle.keep_edit_runs.proofs.SetAgainSteps.{headers_apart, rename_by_one, set_by_one}

-- ---- one more

module _ (s : Document) (edits : List Edit) (n : ℕ) (old now : ProfiledText) (before : Document)
    (outlines : List Outline) (changes new : List TextChange) (adds next_adds : AddedLines)
    (read : IsTextOfTree now before) (h : IsRunTo s edits n old now before outlines changes adds) (d x : Edit)
    (lt : n < length edits) (here : get_or edits n d ≡ x) (o : Outline) (e a : law.Edit) (given : IsEdit x e)
    (plain_is : plain a ≡ outlined o) (first : List Part) (is_insert : outlined o ≡ law.insert first no_value)
    (kind : LineKind) (c : TextChange) (makes : MakesInRun now.profile before e a c (Some kind))
    (others_alone : All (λ y. LeavesAlone y o) outlines) (kept : IsLineKept adds changes o c.at (Some kind) next_adds)
  where
    abbrev pub es : List law.Edit
    es = seen_of before h.ms

    -- the edit is an insert of the line
    pub record IsInsert : Type 0 where
      pub path : List Part
      pub value : Value
      pub is : e ≡ law.insert path value
      pub seen_is : a ≡ law.insert (first_new before path) value
      pub adds_it : AddsAs kind now.profile limit before path value c
      pub first_is : first_new before path ≡ first
      pub kind_of_it : kind_of before path ≡ kind

    -- what is outlined as an insert is one
    outline_is : plain a ≡ law.insert first no_value
    outline_is = plain_is ∙ is_insert

    pub insert_is : IsInsert
    insert_is = by e refl makes
      where
        other : {A : Type 0} (f : law.Edit) → a ≡ f → (plain f ≡ law.insert first no_value → ⊥) → A
        other f is never = absurd (never (sym (ap plain is) ∙ outline_is))

        by : (f : law.Edit) → e ≡ f → MakesInRun now.profile before f a c (Some kind) → IsInsert
        by f same (inr (holder, value, is, sets)) = other (law.set holder value) is (λ e. cc)
        by (law.insert p v) same (inl (is, (k, adds_so), of)) =
            let own : kind_of before p ≡ k = kind_is k now.profile limit before p v c adds_so in
            let both : Some (kind_of before p) ≡ Some kind = sym of in
            let kinds : kind_of before p ≡ kind = cc in
            let firsts : law.insert (first_new before p) no_value ≡ law.insert first no_value =
            sym (ap plain is) ∙ outline_is in
            record {
              path = p;
              value = v;
              is = same;
              seen_is = is;
              adds_it = subst (λ (k : LineKind). AddsAs k now.profile limit before p v c) (sym own ∙ kinds) adds_so;
              first_is = cc;
              kind_of_it = kinds;
            }
        by (law.set p v) same (inl (is, makes_it, of)) = other (law.set p v) is (λ e. cc)
        by (law.rename p name) same (inl (is, makes_it, of)) = other (law.rename p name) is (λ e. cc)
        by (law.remove p) same (inl (is, makes_it, of)) = other (law.remove p) is (λ e. cc)
        by (law.append_table ks) same (inl (is, makes_it, of)) = other (law.append_table ks) is (λ e. cc)
        by (law.append_element ks) same (inl (is, makes_it, of)) = other (law.append_element ks) is (λ e. cc)

    abbrev pub path : List Part
    path = insert_is.path

    abbrev pub value : Value
    value = insert_is.value

    abbrev pub own : law.Edit
    own = law.insert path value

    abbrev pub its_line : Added
    its_line = added_as before path c

    pub line_is : line_of first c.at kind ≡ its_line
    line_is =
        ap (λ (p : List Part). line_of p c.at kind) (sym insert_is.first_is)
        ∙ ap (λ (k : LineKind). line_of (first_new before path) c.at k) (sym insert_is.kind_of_it)

    pub known : IsKnownThen adds changes (line_of first c.at kind) next_adds
    known = kept.own first kind is_insert refl

    pub others : All (λ f. runs.LeavesAlone f (law.insert (first_new before path) value)) es
    others =
        subst (λ (g : law.Edit). All (λ f. runs.LeavesAlone f g) es) insert_is.seen_is
        (h.alone a
        (subst (λ (g : law.Edit). All (λ y. runs.LeavesAlone (outlined y) g) outlines) (sym plain_is) others_alone))

    given_it : (k : LineKind) → AddsAs k now.profile limit before path value c
        → IsGivenValue Wide value × AllByRecursion IsUtf8 (keys_in path)
    given_it LastInBody adds_it = (adds_it.given, adds_it.utf8)
    given_it OfDotted adds_it = (adds_it.given, adds_it.utf8)
    given_it WithHeader adds_it = (adds_it.given, adds_it.utf8)

    -- ---- where one of the edits could come after it

    module _ (r : IsRunBefore now.profile limit before h.ms path value kind c new) (apart : WithHeader ≢ kind)
        (utf8 : All (λ b. IsUtf8 b.new) new) (within : All (IsChangeIn now.text) new) where
      abbrev last : MadeEdit
      last = r.last

      abbrev one : MadeEdit
      one = made own c

      abbrev ms : List MadeEdit
      ms = last ∷ one ∷ r.others

      so_far : IsRun now.profile limit before es changes (lines_of before h.ms) h.made.tree
      so_far = run_so_far s edits n old now before outlines changes adds read h

      goes_on : IsRun now.profile limit before (seen_of before ms) (changes_of ms) (lines_of before ms)
          (document_after before ms)
      goes_on = run_is_known now.profile limit before ms (editable now before read) r.still

      new_is : new ≡ changes_of ms
      new_is = sym r.changes_are

      -- ---- the edit

      allowed : refusal now.profile limit h.made.tree own ≡ None
      allowed = subst (λ (u : Document). refusal now.profile limit u own ≡ None) h.tree_is r.allowed

      lawful : IsLawfulEdit now.profile limit h.made.tree own
      lawful =
          let (value_given, keys_utf8) = given_it kind insert_is.adds_it in
          insert_lawful now.profile limit h.made.tree path value so_far.editable value_given keys_utf8 allowed

      same : edited_document h.made.tree own ≡ document_after before ms
      same = ap (λ (u : Document). edited_document u own) (sym h.tree_is) ∙ r.same

      abbrev next : List ℕ
      next = text_with 0 now.text new

      next_utf8 : IsUtf8 next
      next_utf8 = text_utf8 now.text new read.utf8 (subst (Follow 0) (sym new_is) goes_on.follow) utf8 within

      -- the text is the one before with the edit's change in it
      next_is : next ≡ put (text_with 0 now.text changes) (place h.made.tree own)
      next_is =
          ap (λ (b : List ℕ). text_with 0 b new) read.reads.spelled
          ∙ ap (λ (cs : List TextChange). text_with 0 (text before) cs) new_is
          ∙ sym goes_on.text ∙ ap text (sym same) ∙ change_put h.made.tree own
          ∙ ap (λ (b : List ℕ). put b (place h.made.tree own))
          (so_far.text ∙ ap (λ (b : List ℕ). text_with 0 b changes) (sym read.reads.spelled))

      all_made : AreMade s (take (suc n) edits) old (changed_text now new)
      all_made =
          more_made (changed_text now changes) h.made.tree own h.made.read lawful next next_utf8 next_is s edits n old d
          x lt here (subst (IsEdit x) insert_is.is given) h.made refl allowed

      -- ---- the edits in the list

      -- what holds of the edits and of the insert holds of all
      all_of : (P : law.Edit → Type 0) → P a → All P es → All P (seen_of before ms)
      all_of P its all =
          let (first_one, rest) = each_of_others before P last h.ms r.others r.one all in
          All-cons P (runs.seen before last.edit) (seen_of before (one ∷ r.others)) first_one
          (All-cons P (runs.seen before own) (seen_of before r.others) (subst P insert_is.seen_is its) rest)

      set_too : (q : List Part) → IsSetIn q h.ms → IsSetIn q ms
      set_too q its = elim (set_by_one q last r.one.later r.one.earlier (subst (IsSetIn q) r.one.all its)) [
        | inl its ↦ inl its
        | inr further ↦ inr (inr (subst (IsSetIn q) (sym r.one.others) further))
      ]

      rename_too : (q : List Part) → IsRenameIn q h.ms → IsRenameIn q ms
      rename_too q its = elim (rename_by_one q last r.one.later r.one.earlier (subst (IsRenameIn q) r.one.all its)) [
        | inl its ↦ inl its
        | inr further ↦ inr (inr (subst (IsRenameIn q) (sym r.one.others) further))
      ]

      set_in : (q : List Part) → IsSetBy (outlines ++ o ∷ []) q → IsSetIn q ms
      set_in q any = elim (one_or_more (λ y. outlined y ≡ law.set q no_value) outlines o any) [
        | inl earlier ↦ set_too q (h.sets q earlier)
        | inr its ↦ (let never : law.insert first no_value ≡ law.set q no_value = sym is_insert ∙ its in absurd cc)
      ]

      rename_in : (q : List Part) (name : List ℕ) → IsRenamedBy (outlines ++ o ∷ []) q name → IsRenameIn q ms
      rename_in q name any = elim (one_or_more (λ y. outlined y ≡ law.rename q name) outlines o any) [
        | inl earlier ↦ rename_too q (h.renames q name earlier)
        | inr its ↦ (let never : law.insert first no_value ≡ law.rename q name = sym is_insert ∙ its in absurd cc)
      ]

      -- the last one adds no line
      lines_same : lines_of before h.ms ≡ lines_of before r.others
      lines_same =
          ap (lines_of before) r.one.all ∙ lines_apart before last r.one.later r.one.earlier r.no_line
          ∙ ap (lines_of before) (sym r.one.others)

      -- the lines are those and one more
      lines_are : lines_of before ms ≡ its_line ∷ lines_of before r.others
      lines_are = r.no_line (lines_of before (one ∷ r.others))

      lines_then : All (IsKnownAt next_adds) (lines_of before ms)
      lines_then =
          subst (All (IsKnownAt next_adds)) (sym lines_are)
          (All-cons (IsKnownAt next_adds) its_line (lines_of before r.others)
          (subst (IsKnownAt next_adds) line_is known.here)
          (subst (All (IsKnownAt next_adds)) lines_same
          (All-weaker (IsKnownAt adds) (IsKnownAt next_adds) kept.others (lines_of before h.ms) h.lines)))

      -- and are counted so
      abbrev counted_by : law.Edit → (Added → Bool) → ℕ
      counted_by f p = count_by p (lines_by f c.at (Some kind))

      its_counted : (p : Added → Bool) → counted_by (outlined o) p ≡ count_by p (its_line ∷ [])
      its_counted p =
          ap (λ (f : law.Edit). counted_by f p) is_insert ∙ ap (λ (l : Added). count_by p (l ∷ [])) line_is

      counts : IsCounted next_adds (lines_of before ms) (seen_of before ms)
      counts = record {
        shorter = λ most i. omega (
          arith,
          ap (count_by (is_shorter_at most i)) lines_are,
          counted_more (is_shorter_at most i) its_line (lines_of before r.others),
          counted_more (is_shorter_at most i) its_line [],
          ap (count_by (is_shorter_at most i)) lines_same,
          h.counts.shorter most i,
          kept.counts.shorter most i,
          its_counted (is_shorter_at most i),
        );
        ends = λ i. omega (
          arith,
          ap (count_by (is_end_at i)) lines_are,
          counted_more (is_end_at i) its_line (lines_of before r.others),
          counted_more (is_end_at i) its_line [],
          ap (count_by (is_end_at i)) lines_same,
          h.counts.ends i,
          kept.counts.ends i,
          its_counted (is_end_at i),
        );
        headed = λ i. omega (
          arith,
          ap (count_by (is_headed_at i)) lines_are,
          counted_more (is_headed_at i) its_line (lines_of before r.others),
          counted_more (is_headed_at i) its_line [],
          ap (count_by (is_headed_at i)) lines_same,
          h.counts.headed i,
          kept.counts.headed i,
          its_counted (is_headed_at i),
        );
        appended = omega (
          arith,
          counted_more runs.is_header (runs.seen before last.edit) (seen_of before (one ∷ r.others)),
          ap one_if r.no_header,
          counted_more runs.is_header (runs.seen before own) (seen_of before r.others),
          ap (λ (l : List MadeEdit). count_by runs.is_header (seen_of before l)) r.one.all,
          headers_apart before last r.one.later r.one.earlier r.no_header,
          ap (λ (l : List MadeEdit). count_by runs.is_header (seen_of before l)) r.one.others,
          h.counts.appended,
          kept.counts.appended,
          ap (λ (f : law.Edit). count_by runs.is_header (f ∷ [])) is_insert,
        );
      }

      -- headers come where they came
      headed : (i : ℕ) (table : List Part) → brought_at next_adds i ≡ Some table
          → Any (IsHeaderAt i) (lines_of before ms)
      headed i table there = elim (kept.brought i table there) [
        | inl was ↦
            subst (Any (IsHeaderAt i)) (sym lines_are)
            (any_later (IsHeaderAt i) its_line (lines_of before r.others)
            (subst (Any (IsHeaderAt i)) lines_same (h.headed i table was)))
        | inr (same_at, (with_it, its)) ↦
            (let both : Some kind ≡ Some WithHeader = with_it in absurd (apart cc))
      ]

      pub made_before : IsRunTo s edits (suc n) old now before (outlines ++ o ∷ []) new next_adds
      made_before = record {
        made = all_made;
        ms = ms;
        alone = λ f all.
            let (all_before, its) = parts (λ y. runs.LeavesAlone (outlined y) (plain f)) outlines o all in
            all_of (λ g. runs.LeavesAlone g f)
            (plain_alone a f (subst (λ (g : law.Edit). runs.LeavesAlone g (plain f)) (sym plain_is) its))
            (h.alone f all_before);
        inserts = λ all.
            let (all_before, its) = parts (λ y. runs.is_insert (outlined y) ≡ true) outlines o all in
            all_of (λ g. IsTrue (runs.is_insert g))
            (sym (plain_insert a) ∙ ap runs.is_insert plain_is ∙ its) (h.inserts all_before);
        headers = λ all.
            let (all_before, its) = parts (λ y. runs.is_header (outlined y) ≡ true) outlines o all in
            all_of (λ g. IsTrue (runs.is_header g))
            (sym (plain_header a) ∙ ap runs.is_header plain_is ∙ its) (h.headers all_before);
        sets = set_in;
        renames = rename_in;
        allow = λ q name all.
            let (all_before, its) = parts (λ y. AllowsKey q name (outlined y)) outlines o all in
            all_of (AllowsKey q name)
            (plain_allows q name a (subst (AllowsKey q name) (sym plain_is) its)) (h.allow q name all_before);
        lines = lines_then;
        counts = counts;
        followed = λ none.
            let P : MadeEdit → Type 0 = λ (m : MadeEdit). MakesChange now.profile limit before m.edit m.change in
            let (its, rest) =
            made_of_others P last h.ms r.others r.one (h.followed (sym kept.follower ∙ none)) in
            All-cons P last (one ∷ r.others) its (All-cons P one r.others (kind, insert_is.adds_it) rest);
        headed = headed;
        headers_known = all_of (IsHeaderKnown next_adds)
            (plain_known next_adds a
            (subst (IsHeaderKnown next_adds) (sym plain_is) (subst (IsHeaderKnown next_adds) (sym is_insert) tt)))
            (All-weaker (IsHeaderKnown adds) (IsHeaderKnown next_adds) kept.headers es h.headers_known);
        at_once = r.still;
        changes_are = sym new_is;
        tree_is = tree_of_run now before ms new all_made.tree read r.still (sym new_is) all_made.read;
      }

      -- in the document after the edits it adds its line still
      pub made_there : IsInsertThere now.profile before h.made.tree e a kind c.new
      made_there =
          subst (λ (u : Document). IsInsertThere now.profile before u e a kind c.new) h.tree_is (record {
            path = path;
            value = value;
            is = insert_is.is;
            seen_is = insert_is.seen_is;
            change = r.there;
            new_is = r.new_is;
            makes = (kind, r.makes);
            first = r.seen_still.0;
            kind_is = r.seen_still.1 ∙ insert_is.kind_of_it;
          })
