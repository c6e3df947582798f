-- An edit that makes its own change among those of a run, or that removes an element, before what comes at the end of
-- the text: it is made after that, too, and both orders make one document.
--
-- The edit makes its change of the document of the run's edits, at the place to which they move it (the laws of runs
-- from which elements go). By the laws of edits at the end of a text it comes before them then (`ComesBefore`): they
-- leave it alone, as they do by their outlines. Where it brings the header of a table, headers at the end pass by that
-- table, as those that are known do, and the inserts at the end are into other tables, as headers go through theirs
-- (`ends_let`). The first newline is known with the edit as without it, and the text's last byte stays behind the
-- change
-- (EndPlaces). If nothing is at the end, the edit is not refused, and that is all (`lifted_alone`).
--
-- Theorems: `lifts_behind`: an edit that is added behind all others where its change begins; `lifts_taken`: one that
-- removes an element; `one_given`: an edit that is given is one edit; `begins_with_header`: of what is at the end;
-- `no_through`, `ends_let`: a line comes before it; `lifted_alone`, `lifted_change`, `lifted_set`, `lifted_without`: by
-- the laws.
use Rattle.std.proofs.Common.{[], ◌≡◌, ◌≢◌, ◌∙◌, ℕ, ◌+◌, ◌++◌, ◌∷◌, All, List, None, Option, Some, ap, arith}
use Rattle.std.proofs.Common.{false, inl, inr, length, map, refl, subst, subst₂, sym, take, true}
use Rattle.std.specs.Prelude.{◌⊎◌, ◌≤◌}
use Rattle.std.proofs.lemmas.List.Elements.{All-append, All-cons, All-head, All-nil, All-tail, All-weaker}
use Rattle.keep_types.specs.declared.leaf.Profile.{Profile}
use Rattle.keep_types.specs.declared.leaf.Profile.TheVariants.{Wide}
use Rattle.keep_syntax.specs.Tree.{Document, Value, text}
use Rattle.keep_syntax.proofs.Shared.{one_value}
use Rattle.keep_path.specs.Path.{Part, index, key, strip, without_last}
use Rattle.keep_path.proofs.Shared.{strip_append}
use Rattle.keep_edit_spec.specs.AddedLines.{first_new}
use Rattle.keep_edit_spec.specs.Edits as law
use Rattle.keep_edit_spec.specs.Edits.{edited_document}
use Rattle.keep_edit_spec.specs.ElementRuns.{IsElsewhere, KeepsPlaceAmong, changed_path}
use Rattle.keep_edit_spec.specs.EndEdits.{AreAtEnd, BeginWithHeader, ComesBefore, EndEdit}
use Rattle.keep_edit_spec.specs.EndEdits.{IsEntryMadeBefore, IsInto, IsMadeBefore, IsRemovedBefore, LetsEdit, LetsLine}
use Rattle.keep_edit_spec.specs.EndEdits.{document_with}
use Rattle.keep_edit_spec.specs.EntryEdits.{AreOfSameEntry, InsertsEntry, MakesSet, RemovesEntry, RenamesEntry}
use Rattle.keep_edit_spec.specs.EntryEdits.{SetsEntry}
use Rattle.keep_edit_spec.specs.HeadersBelow.{GoThrough}
use Rattle.keep_edit_spec.specs.InsertKinds.{Added, IsAfterLine, kind_of}
use Rattle.keep_edit_spec.specs.Laws.{IsEditable, IsLawfulEdit}
use Rattle.keep_edit_spec.specs.Look.{keys_in}
use Rattle.keep_edit_spec.specs.Refusals.{refusal}
use Rattle.keep_edit_spec.specs.RemovedHeaders.{RemovesHeader}
use Rattle.keep_edit_spec.specs.Runs as runs
use Rattle.keep_edit_spec.specs.Runs.{IsSeenStill, KeepsPlace, LetsTable, MakesChange, PassesBy}
use Rattle.keep_edit_spec.specs.SetValues.{SetsValue}
use Rattle.keep_edit_spec.specs.TextChanges.{IsBeside, TextChange, moved_past, text_with}
use Rattle.keep_edit_spec.specs.declared.line_kind.LineKind.{LineKind}
use Rattle.keep_edit_spec.specs.declared.line_kind.LineKind.TheVariants.{WithHeader}
use Rattle.keep_edit_spec.proofs.Shared.{change_lawful, end_comes_after_element, end_comes_after_entry, end_comes_later}
use Rattle.keep_edit_spec.proofs.Shared.{entry_lawful, fine_after, header_run_goes_on, none_is_header_run, none_is_run}
use Rattle.keep_edit_spec.proofs.Shared.{remove_lawful, run_goes_on, still_makes_set}
use Rattle.keep_edit_plan.specs.Answers.{IsSpanOf}
use Rattle.keep_edit_plan.specs.Reading.{ProfiledText, limit}
use Rattle.keep_edit_plan.specs.TextEdits.{IsChangeIn, change_of}
use Rattle.keep_edit_plan.specs.declared.edit.Edit.{Edit}
use Rattle.keep_edit_plan.specs.declared.edit.Edit.TheVariants as edit
use Rattle.keep_edit_plan.specs.declared.text_edit.TextEdit.{TextEdit}
use Rattle.keep_edit_runs.specs.AddedLines.{IsHeaderKnown, line_of}
use Rattle.keep_edit_runs.specs.GoneBetween.{IsElementRunTo}
use Rattle.keep_edit_runs.specs.KindsRun.{AddsOne, LetsChange, TakesOne}
use Rattle.keep_edit_runs.specs.Lists.{AreMade, IsEdit}
use Rattle.keep_edit_runs.specs.Newlines.{LeavesHere}
use Rattle.keep_edit_runs.specs.Runs.{IsAddedBehind, IsKnownThen, IsOfKind, MakesInRun, outlined, plain}
use Rattle.keep_edit_runs.specs.Tail.{AreBelow, AreBlocks, IsBlock, keys_of}
use Rattle.keep_edit_runs.specs.declared.added_lines.AddedLines.{AddedLines}
use Rattle.keep_edit_runs.specs.declared.kinds_run.KindsRun.{KindsRun}
use Rattle.keep_edit_runs.specs.declared.tail.Block.{Block}
use Rattle.keep_edit_runs.proofs.ElementSteps.{is_elsewhere, keeps_place, left_alone}
use Rattle.keep_edit_runs.proofs.EndPlaces.{before_last}
use Rattle.keep_edit_runs.proofs.RunSteps.{plain_header, plain_insert}
use Rattle.keep_edit_runs.proofs.TailNewlines.{IsFirstKnown}
use Rattle.keep_edit_runs.proofs.TailRuns.{AreMadeIn, IsEndClear, IsLifted, IsTailTo, Lifts}

-- ---- edits that are given

-- An edit that is given is one edit of the definitions, as one text has one value.
pub one_given : (x : Edit) (e f : law.Edit) → IsEdit x e → IsEdit x f → e ≡ f
one_given (edit.Set p w) e f (v, here, is) (u, there, same) =
    is ∙ ap (law.set p)
    (one_value Wide v u here.reads.valid there.reads.valid (sym here.reads.spelled ∙ there.reads.spelled)) ∙ sym same
one_given (edit.Insert p w) e f (v, here, is) (u, there, same) =
    is ∙ ap (law.insert p)
    (one_value Wide v u here.reads.valid there.reads.valid (sym here.reads.spelled ∙ there.reads.spelled)) ∙ sym same
one_given (edit.Rename p name) e f is same = is ∙ sym same
one_given (edit.Remove p) e f is same = is ∙ sym same
one_given (edit.Table ks) e f is same = is ∙ sym same
one_given (edit.Element ks) e f is same = is ∙ sym same

-- others see an edit as the same, where it is seen so still
same_seen : (s now : Document) (e : law.Edit) → IsSeenStill s now e → runs.seen now e ≡ runs.seen s e
same_seen s now (law.insert p v) h = ap (λ (q : List Part). law.insert q v) h.0
same_seen s now (law.set p v) h = refl
same_seen s now (law.rename p name) h = refl
same_seen s now (law.remove p) h = refl
same_seen s now (law.append_table ks) h = refl
same_seen s now (law.append_element ks) h = refl

seen_header : (s : Document) (e : law.Edit) → runs.is_header (runs.seen s e) ≡ runs.is_header e
seen_header s (law.insert p v) = refl
seen_header s (law.set p v) = refl
seen_header s (law.rename p name) = refl
seen_header s (law.remove p) = refl
seen_header s (law.append_table ks) = refl
seen_header s (law.append_element ks) = refl

seen_insert : (s : Document) (e : law.Edit) → runs.is_insert (runs.seen s e) ≡ runs.is_insert e
seen_insert s (law.insert p v) = refl
seen_insert s (law.set p v) = refl
seen_insert s (law.rename p name) = refl
seen_insert s (law.remove p) = refl
seen_insert s (law.append_table ks) = refl
seen_insert s (law.append_element ks) = refl

-- an edit is of the same entry as itself
of_itself : (profile : Profile) (s : Document) (e : law.Edit) (a : List Part) (value : Value) (c : TextChange)
    → MakesSet profile limit s e a value c → AreOfSameEntry a e a e
of_itself profile s (law.insert path new) a value c h =
    let entry : InsertsEntry s a path new = h.of_entry in
    (record { part = entry.part; is = entry.is; there = entry.is }, refl, entry.utf8)
of_itself profile s (law.remove path) a value c h =
    let entry : RemovesEntry s a path = h.of_entry in
    record { part = entry.part; is = entry.is; there = entry.is }
of_itself profile s (law.set path new) a value c h =
    let entry : SetsEntry s a path new = h.of_entry in
    (record { part = entry.part; is = entry.is; there = entry.is }, refl)
of_itself profile s (law.rename path name) a value c h =
    let entry : RenamesEntry s a path name = h.of_entry in
    (record { part = entry.part; is = entry.is; there = entry.is }, refl)
of_itself profile s (law.append_table keys) a value c h = absurd h.of_entry
of_itself profile s (law.append_element keys) a value c h = absurd h.of_entry

-- ---- what is at the end

-- the path of a table through which keys go is of keys alone
keys_alone : (table rest : List Part) (keys : List (List ℕ)) → map key keys ≡ table ++ rest
    → map key (keys_in table) ≡ table
keys_alone [] rest keys e = refl
keys_alone (p ∷ table) rest [] e = absurd cc
keys_alone (key own ∷ table) rest (k ∷ keys) e =
    ap (λ (q : List Part). key own ∷ q) (keys_alone table rest keys cc)
keys_alone (index n ∷ table) rest (k ∷ keys) e = absurd cc

-- A header that goes through a table does not pass by it.
pub no_through : (keys : List (List ℕ)) (table : List Part) → PassesBy keys table → GoThrough keys table → ⊥
no_through keys table passes (k, (ks, e)) =
    let none : strip table (map key keys) ≡ None =
    ap (λ (q : List Part). strip q (map key keys)) (sym (keys_alone table (map key (k ∷ ks)) keys e)) ∙ passes in
    let some : strip table (map key keys) ≡ Some (map key (k ∷ ks)) =
    ap (strip table) e ∙ strip_append table (map key (k ∷ ks)) in
    absurd cc

-- The first edit at the end appends a header.
pub begins_with_header : (blocks : List Block) (ts : List EndEdit) → AreBlocks blocks ts → BeginWithHeader ts
begins_with_header [] ts is = subst BeginWithHeader (sym is) tt
begins_with_header (b ∷ bs) ts (h, (own, (rest, (is, (block, others))))) =
    subst BeginWithHeader (sym is) (by block.header)
  where
    by : (h.edit ≡ law.append_table (keys_of b)) ⊎ (h.edit ≡ law.append_element (keys_of b))
        → runs.is_header h.edit ≡ true
    by (inl same) = ap runs.is_header same
    by (inr same) = ap runs.is_header same

-- what holds of all of two lists holds of those of the last one
all_last : {X : Type 0} (P : X → Type 0) (first last : List X) → All P (first ++ last) → All P last
all_last P [] last h = h
all_last P (x ∷ first) last h = all_last P first last (All-tail P x (first ++ last) h)

-- A line of this kind, whose first new key has that path, comes somewhere. Headers that are known pass by its table.
module _ (adds : AddedLines) (first : List Part) (kind : LineKind) (at there : ℕ)
    (passed : (e : law.Edit) → IsHeaderKnown adds e → LetsTable (line_of first at kind) e) where
  abbrev line : Added
  line = line_of first there kind

  -- so does a header at the end
  abbrev Passes : List (List ℕ) → Type 0
  Passes keys = kind ≡ WithHeader → PassesBy keys (without_last first)

  header_let : (b : Block) (h : EndEdit) (own : List EndEdit) → IsBlock b h own → IsHeaderKnown adds h.seen
      → LetsLine line h.seen × Passes (keys_of b)
  header_let b h own block known = by block.header
    where
      by : (h.edit ≡ law.append_table (keys_of b)) ⊎ (h.edit ≡ law.append_element (keys_of b))
          → LetsLine line h.seen × Passes (keys_of b)
      by (inl is) =
          let same : h.seen ≡ law.append_table (keys_of b) = block.seen ∙ is in
          let its : Passes (keys_of b) =
          passed (law.append_table (keys_of b)) (subst (IsHeaderKnown adds) same known) in
          (subst (LetsLine line) (sym same) its, its)
      by (inr is) =
          let same : h.seen ≡ law.append_element (keys_of b) = block.seen ∙ is in
          let its : Passes (keys_of b) =
          passed (law.append_element (keys_of b)) (subst (IsHeaderKnown adds) same known) in
          (subst (LetsLine line) (sym same) its, its)

  -- and an insert below it is into another table
  insert_let : (keys : List (List ℕ)) (table : List Part) → Passes keys → GoThrough keys table → (f : law.Edit)
      → IsInto table f → LetsLine line f
  insert_let keys table passes through (law.insert p v) into = λ of same.
      no_through keys (without_last first) (passes of) (subst (GoThrough keys) (sym (same ∙ into)) through)
  insert_let keys table passes through (law.set p v) into = absurd into
  insert_let keys table passes through (law.rename p name) into = absurd into
  insert_let keys table passes through (law.remove p) into = absurd into
  insert_let keys table passes through (law.append_table ks) into = absurd into
  insert_let keys table passes through (law.append_element ks) into = absurd into

  inserts_let : (b : Block) (h : EndEdit) (own : List EndEdit) → IsBlock b h own → Passes (keys_of b)
      → All (λ t. LetsLine line t.seen) own
  inserts_let b h own block passes = by b.table refl
    where
      by : (o : Option (List Part)) → b.table ≡ o → All (λ t. LetsLine line t.seen) own
      by None is =
          subst (All (λ t. LetsLine line t.seen)) (sym (block.none is))
          (All-nil (λ (t : EndEdit). LetsLine line t.seen))
      by (Some table) is =
          let below : AreBelow b own table = block.below table is in
          All-weaker (λ (t : EndEdit). IsInto table t.seen) (λ t. LetsLine line t.seen)
          (λ t. insert_let (keys_of b) table passes below.through t.seen) own below.into

  pub ends_let : (blocks : List Block) (ts : List EndEdit) → AreBlocks blocks ts
      → All (λ t. IsHeaderKnown adds t.seen) ts → All (λ t. LetsLine line t.seen) ts
  ends_let [] ts is known =
      subst (All (λ t. LetsLine line t.seen)) (sym is) (All-nil (λ (t : EndEdit). LetsLine line t.seen))
  ends_let (b ∷ bs) ts (h, (own, (rest, (is, (block, others))))) known =
      let all : All (λ t. IsHeaderKnown adds t.seen) (h ∷ own ++ rest) =
      subst (All (λ t. IsHeaderKnown adds t.seen)) is known in
      let (lets, passes) =
      header_let b h own block (All-head (λ (t : EndEdit). IsHeaderKnown adds t.seen) h (own ++ rest) all) in
      let later : All (λ t. LetsLine line t.seen) rest =
      ends_let bs rest others
      (all_last (λ (t : EndEdit). IsHeaderKnown adds t.seen) own rest
      (All-tail (λ (t : EndEdit). IsHeaderKnown adds t.seen) h (own ++ rest) all)) in
      subst (All (λ t. LetsLine line t.seen)) (sym is)
      (All-cons (λ (t : EndEdit). LetsLine line t.seen) h (own ++ rest) lets
      (All-append (λ (t : EndEdit). LetsLine line t.seen) own rest (inserts_let b h own block passes) later))

-- ---- by the laws

-- an edit that makes a change is not refused
not_refused : (profile : Profile) (s : Document) (e : law.Edit) (c : TextChange) → IsEditable profile limit s
    → MakesChange profile limit s e c → refusal profile limit s e ≡ None
not_refused profile s e c fine makes =
    (run_goes_on profile limit s [] [] [] s e c (none_is_run profile limit s fine) makes
    (All-nil (λ f. runs.LeavesAlone f (runs.seen s e))) (All-nil (λ d. IsBeside d c)) (keeps e)).allowed
  where
    keeps : (f : law.Edit) → KeepsPlace s [] [] [] f c
    keeps (law.insert p v) = (
      record {
        after = All-nil (λ l. IsAfterLine l (line_of (first_new s p) c.at (kind_of s p)));
        stays = λ other. refl;
        passed = All-nil (LetsTable (line_of (first_new s p) c.at (kind_of s p)));
      },
      inl (All-nil (λ g. runs.is_insert g ≡ true)),
    )
    keeps (law.append_table ks) =
        (All-nil (runs.IsNoSecond ks), inl (All-nil (λ g. runs.is_header g ≡ true)))
    keeps (law.append_element ks) =
        (All-nil (runs.IsNoSecond ks), inl (All-nil (λ g. runs.is_header g ≡ true)))
    keeps (law.set p v) = tt
    keeps (law.rename p name) = tt
    keeps (law.remove p) = tt

header_not_refused : (profile : Profile) (s : Document) (path : List Part) (c : TextChange)
    → IsEditable profile limit s → RemovesHeader profile limit s path c
    → refusal profile limit s (law.remove path) ≡ None
header_not_refused profile s path c fine removes =
    (header_run_goes_on profile limit s [] [] s path c (none_is_header_run profile limit s fine) removes
    (All-nil (λ d. IsBeside d c))).allowed

-- where nothing is at the end
pub lifted_alone : (profile : Profile) (s : Document) (ts : List EndEdit) (e : law.Edit) → ts ≡ []
    → refusal profile limit s e ≡ None → IsLawfulEdit profile limit s e → IsLifted profile s ts e
lifted_alone profile s ts e none allowed lawful =
    subst (λ (us : List EndEdit). IsLifted profile s us e) (sym none)
    (record { allowed = allowed; lawful = lawful; ends = tt; same = refl })

module _ (profile : Profile) (s : Document) (ts : List EndEdit) (fine : IsEditable profile limit s)
    (ends : AreAtEnd profile limit s ts) where
  after : IsEditable profile limit (document_with s ts)
  after = fine_after profile limit s ts fine ends

  -- an edit that makes its change before them, or where nothing is at the end
  pub lifted_change : (e : law.Edit) (c : TextChange) → MakesChange profile limit s e c
      → (ts ≡ []) ⊎ ComesBefore s ts e c → IsLifted profile s ts e
  lifted_change e c makes (inl none) =
      lifted_alone profile s ts e none (not_refused profile s e c fine makes)
      (change_lawful profile limit s e c fine makes)
  lifted_change e c makes (inr before) =
      let made : IsMadeBefore profile limit s ts e c =
      end_comes_later profile limit s ts e c fine ends makes before in
      record {
        allowed = not_refused profile (document_with s ts) e c after made.makes;
        lawful = change_lawful profile limit (document_with s ts) e c after made.makes;
        ends = made.ends;
        same = made.same;
      }

  -- one of an entry
  pub lifted_set : (e : law.Edit) (holder : List Part) (value : Value) (c : TextChange)
      → MakesSet profile limit s e holder value c → (ts ≡ []) ⊎ ComesBefore s ts (law.set holder value) c
      → IsLifted profile s ts e
  lifted_set e holder value c makes (inl none) =
      lifted_alone profile s ts e none makes.allowed (entry_lawful profile limit s e holder value c fine makes)
  lifted_set e holder value c makes (inr before) =
      let made : IsEntryMadeBefore profile limit s ts e holder value c =
      end_comes_after_entry profile limit s ts e holder value c fine ends makes before in
      record {
        allowed = made.makes.allowed;
        lawful = entry_lawful profile limit (document_with s ts) e holder value c after made.makes;
        ends = made.ends;
        same = made.same;
      }

  -- the remove of an element, where nothing is at the end
  without_alone : (path : List Part) (c : TextChange) → RemovesHeader profile limit s path c → ts ≡ []
      → IsLifted profile s ts (law.remove path)
  without_alone path c removes none =
      let allowed : refusal profile limit s (law.remove path) ≡ None =
      header_not_refused profile s path c fine removes in
      lifted_alone profile s ts (law.remove path) none allowed
      (remove_lawful profile limit s path fine allowed)

  -- or before what is there
  pub lifted_without : (path : List Part) (c : TextChange) → RemovesHeader profile limit s path c
      → All (λ t. IsElsewhere (changed_path path) t.seen) ts
      → (ts ≡ []) ⊎ (c.at + c.size ≢ length (text s))
      → IsFirstKnown s ts (edited_document s (law.remove path)) → IsLifted profile s ts (law.remove path)
  lifted_without path c removes elsewhere (inl none) known = without_alone path c removes none
  lifted_without path c removes elsewhere (inr clear) (inl none) = without_alone path c removes none
  lifted_without path c removes elsewhere (inr clear) (inr (line, (leave, still))) =
      let made : IsRemovedBefore profile limit s ts path c =
      end_comes_after_element profile limit s ts path c fine ends removes elsewhere line leave still clear in
      let allowed : refusal profile limit (document_with s ts) (law.remove path) ≡ None =
      header_not_refused profile (document_with s ts) path c after made.makes in
      record {
        allowed = allowed;
        lawful = remove_lawful profile limit (document_with s ts) path after allowed;
        ends = made.ends;
        same = made.same;
      }

-- ---- among the edits of a run

module _ (edits : List Edit) (first end : ℕ) (now : ProfiledText) (old : KindsRun)
    (so_far : AreMadeIn edits first end now old) (s : Document) (was : ProfiledText)
    (k : AreMade s (take first so_far.own) was now) where
  abbrev changes : List TextChange
  changes = old.so_far.changes

  abbrev base : IsElementRunTo s so_far.own (length so_far.own) was now k.tree old.so_far.outlines.items changes
      old.lines old.gone.arrays.items old.gone.elements
  base = so_far.base.made s was k

  -- the document of the edits elsewhere, and what comes at its end
  abbrev tree : Document
  tree = base.made.tree

  abbrev tail : IsTailTo s edits end was now tree old.so_far.outlines.items changes old.lines old.tail
  tail = so_far.whole s was k

  abbrev Lifted : law.Edit → Type 0
  Lifted e = IsLifted now.profile tree tail.ts e

  text_is : text tree ≡ text_with 0 now.text changes
  text_is = base.run.text ∙ ap (λ (bytes : List ℕ). text_with 0 bytes changes) (sym k.read.reads.spelled)

  -- nothing is at the end, or a change ends before the last byte, if it is no new line
  abbrev IsClearFor : law.Edit → TextEdit → Type 0
  IsClearFor e t =
      runs.is_insert e ≡ false
      → (moved_past changes (change_of t)).at + (change_of t).size ≢ length (text tree)

  clear_for : (e : law.Edit) (t : TextEdit) → IsSpanOf now.text t.place
      → All (λ d. IsBeside d (change_of t)) changes
      → LetsChange (LeavesHere now) old.tail.blocks.items (length now.text) e t
      → (tail.ts ≡ []) ⊎ IsClearFor e t
  clear_for e t span beside lets = by lets (so_far.clear (k.tree, k.read))
    where
      none : old.tail.blocks.items ≡ [] → tail.ts ≡ []
      none is = subst (λ (bs : List Block). AreBlocks bs tail.ts) is tail.is

      by : LetsChange (LeavesHere now) old.tail.blocks.items (length now.text) e t
          → (old.tail.blocks.items ≡ []) ⊎ IsEndClear now changes → (tail.ts ≡ []) ⊎ IsClearFor e t
      by (inl is) clear = inl (none is)
      by (inr lets) (inl is) = inl (none is)
      by (inr (leaves, ahead)) (inr clear) = inr (λ other same.
          omega (
            arith,
            before_last now.text changes (change_of t) base.run.follow
                (All-weaker (IsChangeIn now.text) (λ d. d.at + d.size ≤ length now.text) (λ d h. h.ends.0) changes
                so_far.base.within)
                beside clear.clear (omega (arith, ahead other, span.ordered)),
            same,
            ap (λ (bytes : List ℕ). length bytes) text_is,
          ))

-- ---- an edit that makes its own change

module _ (edits : List Edit) (first end : ℕ) (now : ProfiledText) (old new : KindsRun) (x : Edit)
    (h : AddsOne now old x new)
    (behind : IsAddedBehind now.text old.lines old.so_far.changes h.outline (change_of h.change) h.line new.lines
    new.so_far.changes)
    (so_far : AreMadeIn edits first end now old) (s : Document) (was : ProfiledText)
    (k : AreMade s (take first so_far.own) was now) where
  abbrev cs : List TextChange
  cs = old.so_far.changes

  abbrev run : IsElementRunTo s so_far.own (length so_far.own) was now k.tree old.so_far.outlines.items cs old.lines
      old.gone.arrays.items old.gone.elements
  run = so_far.base.made s was k

  abbrev d : Document
  d = run.made.tree

  abbrev at_end : IsTailTo s edits end was now d old.so_far.outlines.items cs old.lines old.tail
  at_end = so_far.whole s was k

  abbrev f : law.Edit
  f = h.makes.edit

  abbrev a : law.Edit
  a = h.makes.in_run k.tree

  abbrev c : TextChange
  c = change_of h.change

  plain_is : plain a ≡ outlined h.outline
  plain_is = h.makes.outline_is k.tree k.read

  others : All (λ g. runs.LeavesAlone g a) run.es
  others =
      left_alone s so_far.own (length so_far.own) was now k.tree old.so_far.outlines.items cs old.lines
      old.gone.arrays.items old.gone.elements k.read run h.outline a plain_is h.alone.edits

  away : All (λ path. IsElsewhere (changed_path path) a) run.paths
  away =
      is_elsewhere s so_far.own (length so_far.own) was now k.tree old.so_far.outlines.items cs old.lines
      old.gone.arrays.items old.gone.elements k.read run h.outline a plain_is h.alone.elsewhere

  keeps : a ≡ runs.seen k.tree f → IsOfKind k.tree f h.line → KeepsPlaceAmong k.tree run.es cs run.lines f c
  keeps =
      keeps_place s so_far.own (length so_far.own) was now k.tree old.so_far.outlines.items cs old.lines new.lines
      old.gone.arrays.items old.gone.elements k.read run h.outline f a plain_is c h.line h.placed behind.kept
      behind.ends

  -- what is at the end leaves it alone
  ends_alone : All (λ t. runs.LeavesAlone t.seen a) at_end.ts
  ends_alone =
      at_end.alone a
      (subst (λ (g : law.Edit). All (λ y. runs.LeavesAlone (outlined y) g) old.tail.outlines.items) (sym plain_is)
      h.alone.tail)

  -- nothing is there, or it comes before that
  clear : (at_end.ts ≡ []) ⊎ IsClearFor edits first end now old so_far s was k (outlined h.outline) h.change
  clear = clear_for edits first end now old so_far s was k (outlined h.outline) h.change h.makes.within behind.beside
      h.lets

  no_insert : (e : law.Edit) → a ≡ runs.seen k.tree e → runs.is_insert e ≡ false
      → runs.is_insert (outlined h.outline) ≡ false
  no_insert e is other =
      ap runs.is_insert (sym plain_is) ∙ plain_insert a ∙ ap runs.is_insert is ∙ seen_insert k.tree e ∙ other

  no_header : (e : law.Edit) → a ≡ runs.seen k.tree e → runs.is_header e ≡ false
  no_header e is =
      sym (seen_header k.tree e) ∙ ap runs.is_header (sym is) ∙ sym (plain_header a) ∙ ap runs.is_header plain_is
      ∙ h.other

  -- a line that it adds comes before that, too
  lets : (e : law.Edit) → a ≡ runs.seen k.tree e → IsOfKind k.tree e h.line → IsSeenStill k.tree d e
      → All (LetsEdit d e (moved_past cs c)) at_end.ts
  lets (law.insert p v) is of (first_same, kind_same) =
      let known : IsKnownThen old.lines cs (line_of (first_new k.tree p) c.at (kind_of k.tree p)) new.lines =
      behind.kept.own (first_new k.tree p) (kind_of k.tree p) (sym plain_is ∙ ap plain is) of in
      ends_let old.lines (first_new d p) (kind_of d p) c.at (moved_past cs c).at
      (subst₂
      (λ (q : List Part) (kind : LineKind). (g : law.Edit) → IsHeaderKnown old.lines g
      → LetsTable (line_of q c.at kind) g)
      (sym first_same) (sym kind_same) known.passed)
      old.tail.blocks.items at_end.ts at_end.is at_end.known
  lets (law.set p v) is of still = λ n t less. tt
  lets (law.rename p name) is of still = λ n t less. tt
  lets (law.remove p) is of still = λ n t less. tt
  lets (law.append_table ks) is of still = λ n t less. tt
  lets (law.append_element ks) is of still = λ n t less. tt

  comes_before : (e : law.Edit) → a ≡ runs.seen k.tree e → IsOfKind k.tree e h.line → IsSeenStill k.tree d e
      → IsFirstKnown d at_end.ts (edited_document d e)
      → (at_end.ts ≡ []) ⊎ ComesBefore d at_end.ts e (moved_past cs c)
  comes_before e is of still = by clear
    where
      by : (at_end.ts ≡ []) ⊎ IsClearFor edits first end now old so_far s was k (outlined h.outline) h.change
          → IsFirstKnown d at_end.ts (edited_document d e)
          → (at_end.ts ≡ []) ⊎ ComesBefore d at_end.ts e (moved_past cs c)
      by (inl none) known = inl none
      by (inr ends) (inl none) = inl none
      by (inr ends) (inr known) = inr (record {
        other = no_header e is;
        alone = subst (λ (g : law.Edit). All (λ t. runs.LeavesAlone t.seen g) at_end.ts)
            (is ∙ sym (same_seen k.tree d e still)) ends_alone;
        lets = lets e is of still;
        newline = known;
        clear = λ other. ends (no_insert e is other);
        first = λ same. begins_with_header old.tail.blocks.items at_end.ts at_end.is;
      })

  by_itself : a ≡ runs.seen k.tree f → MakesChange now.profile limit k.tree f c → IsOfKind k.tree f h.line
      → IsFirstKnown d at_end.ts (edited_document d f) → IsLifted now.profile d at_end.ts f
  by_itself is makes of known =
      let (makes_now, still) =
      run.run.later f c makes (subst (λ (g : law.Edit). All (λ y. runs.LeavesAlone y g) run.es) is others)
      (subst (λ (g : law.Edit). All (λ path. IsElsewhere (changed_path path) g) run.paths) is away) behind.beside
      (keeps is of) in
      lifted_change now.profile d at_end.ts run.run.editable at_end.ends f (moved_past cs c) makes_now
      (comes_before f is of still known)

  by_set : (holder : List Part) (value : Value) → a ≡ law.set holder value
      → MakesSet now.profile limit k.tree f holder value c → IsFirstKnown d at_end.ts (edited_document d f)
      → IsLifted now.profile d at_end.ts f
  by_set holder value is makes known =
      let sets_now : SetsValue now.profile limit d holder value (moved_past cs c) =
      (run.run.later (law.set holder value) c makes.sets
      (subst (λ (g : law.Edit). All (λ y. runs.LeavesAlone y g) run.es) is others)
      (subst (λ (g : law.Edit). All (λ path. IsElsewhere (changed_path path) g) run.paths) is away) behind.beside
      tt).0 in
      let within : c.at + c.size ≤ length (text k.tree) =
      subst (λ (bytes : List ℕ). c.at + c.size ≤ length bytes) k.read.reads.spelled
      (omega (arith, h.makes.within.ordered, h.makes.within.within)) in
      let makes_now : MakesSet now.profile limit d f holder value (moved_past cs c) =
      still_makes_set now.profile limit k.tree f holder value c d f holder (moved_past cs c) run.run.first
      run.run.editable makes sets_now (run.run.kept c behind.beside within)
      (of_itself now.profile k.tree f holder value c makes) in
      lifted_set now.profile d at_end.ts run.run.editable at_end.ends f holder value (moved_past cs c) makes_now
      (comes_before (law.set holder value) is tt tt
      (subst (IsFirstKnown d at_end.ts) makes_now.same known))

  lifts_by : MakesInRun now.profile k.tree f a c h.line → IsFirstKnown d at_end.ts (edited_document d f)
      → IsLifted now.profile d at_end.ts f
  lifts_by (inl (is, makes, of)) = by_itself is makes of
  lifts_by (inr (holder, value, is, makes)) = by_set holder value is makes

  lifted_behind : (e : law.Edit) → IsEdit x e → IsFirstKnown d at_end.ts (edited_document d e)
      → IsLifted now.profile d at_end.ts e
  lifted_behind e given =
      subst (λ (g : law.Edit). IsFirstKnown d at_end.ts (edited_document d g) → IsLifted now.profile d at_end.ts g)
      (one_given x f e h.makes.is given)
      (lifts_by (h.makes.makes k.tree k.read))

-- An edit that is added behind all others where its change begins is made after what is at the end, too.
pub lifts_behind : (edits : List Edit) (first end : ℕ) (now : ProfiledText) (old new : KindsRun) (x : Edit)
    → (h : AddsOne now old x new)
    → IsAddedBehind now.text old.lines old.so_far.changes h.outline (change_of h.change) h.line new.lines
    new.so_far.changes
    → Lifts edits first end now old x
lifts_behind edits first end now old new x h behind so_far s was k e given =
    lifted_behind edits first end now old new x h behind so_far s was k e given

-- ---- an element that is removed

module _ (edits : List Edit) (first end : ℕ) (now : ProfiledText) (old new : KindsRun) (x : Edit)
    (h : TakesOne now old x new) (so_far : AreMadeIn edits first end now old) (s : Document) (was : ProfiledText)
    (k : AreMade s (take first so_far.own) was now) where
  abbrev so_made : IsElementRunTo s so_far.own (length so_far.own) was now k.tree old.so_far.outlines.items
      old.so_far.changes old.lines old.gone.arrays.items old.gone.elements
  so_made = so_far.base.made s was k

  abbrev ends_so : IsTailTo s edits end was now so_made.made.tree old.so_far.outlines.items old.so_far.changes
      old.lines old.tail
  ends_so = so_far.whole s was k

  abbrev path : List Part
  path = h.takes.removes.header.path

  abbrev taken : TextChange
  taken = moved_past old.so_far.changes (change_of h.takes.change)

  -- where it is now, the element is removed
  removes_now : RemovesHeader now.profile limit so_made.made.tree path taken
  removes_now =
      so_made.run.removes path (change_of h.takes.change)
      (subst
      (λ (q : List Part). RemovesHeader now.profile limit k.tree q (change_of h.takes.change))
      (sym (so_made.leads path)) (h.takes.removes.header.removes k.tree k.read))
      (so_made.elsewhere (changed_path path) h.takes.removes.elsewhere) h.takes.beside

  stays_clear : (ends_so.ts ≡ []) ⊎ (taken.at + taken.size ≢ length (text so_made.made.tree))
  stays_clear =
      by (clear_for edits first end now old so_far s was k (law.remove path) h.takes.change
      h.takes.removes.header.within h.takes.beside h.lets)
    where
      by : (ends_so.ts ≡ []) ⊎ IsClearFor edits first end now old so_far s was k (law.remove path) h.takes.change
          → (ends_so.ts ≡ []) ⊎ (taken.at + taken.size ≢ length (text so_made.made.tree))
      by (inl none) = inl none
      by (inr ends) = inr (ends refl)

  lifted_taken : IsFirstKnown so_made.made.tree ends_so.ts (edited_document so_made.made.tree (law.remove path))
      → IsLifted now.profile so_made.made.tree ends_so.ts (law.remove path)
  lifted_taken =
      lifted_without now.profile so_made.made.tree ends_so.ts so_made.run.editable ends_so.ends path taken removes_now
      (ends_so.elsewhere (changed_path path) h.at_end) stays_clear

-- So is one that removes an element.
pub lifts_taken : (edits : List Edit) (first end : ℕ) (now : ProfiledText) (old new : KindsRun) (x : Edit)
    → TakesOne now old x new → Lifts edits first end now old x
lifts_taken edits first end now old new x h so_far s was k e given =
    subst
    (λ (g : law.Edit). IsFirstKnown (so_far.base.made s was k).made.tree (so_far.whole s was k).ts
    (edited_document (so_far.base.made s was k).made.tree g)
    → IsLifted now.profile (so_far.base.made s was k).made.tree (so_far.whole s was k).ts g)
    (one_given x (law.remove h.takes.removes.header.path) e h.takes.removes.header.is given)
    (lifted_taken edits first end now old new x h so_far s was k)
