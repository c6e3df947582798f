-- Edits that are made with what comes at the end of the text after all others: three kinds of steps in which an edit is
-- made before that, where no element is gone.
--
-- In the document after the edits before it the edit makes its change still: a line comes before those that have to
-- come behind it, or behind the header of its table, or a value is set again (`made_there` of AheadSteps, FollowSteps
-- and SetAgainSteps). So by the law of edits at the end it does so with them, too: they leave it alone, and it ends
-- before the last byte of the text (`ends_before`). A line with a header comes where none of the headers at the end
-- goes through its table, so none of the inserts below these is into that table (`lets_lines`). Where nothing is at the
-- end, it is enough that the edit is not refused.
--
-- Theorems: `lifts_ahead`, `lifts_following`, `lifts_in_place`, `lifts_again`.
use Rattle.std.proofs.Common.{[], ◌≡◌, ◌≤◌, ◌<◌, ◌+◌, ◌∷◌, ◌++◌, ℕ, List, take, length, get_or, refl, sym}
use Rattle.std.proofs.Common.{ap, subst, ◌∙◌, All, IsUtf8, inl, inr, None, Option, Some, arith, cond, false}
use Rattle.std.proofs.Common.{length-append, length-drop, true}
use Rattle.std.specs.Prelude.{◌⊎◌, Bool, nat_lt}
use Rattle.std.specs.List.{AllZip, list_any}
use Rattle.std.proofs.lemmas.Bool.{cases_lt, le-ltb, lt-ltb, or_from, or_parts}
use Rattle.std.proofs.lemmas.List.{take-append-le}
use Rattle.std.proofs.lemmas.List.Elements.{All-append, All-cons, All-head, All-tail, All-weaker}
use Rattle.std.proofs.lemmas.Str.{IsUtf8-string_bytes}
use Rattle.keep_types.specs.declared.leaf.Profile.{Profile}
use Rattle.keep_syntax.specs.Tree.{Document, Value, text}
use Rattle.keep_path.specs.Path.{Part, without_last}
use Rattle.keep_edit_spec.specs.AddedLines.{first_new}
use Rattle.keep_edit_spec.specs.Edits as law
use Rattle.keep_edit_spec.specs.Edits.{edited_document}
use Rattle.keep_edit_spec.specs.EndEdits.{AreAtEnd, BeginWithHeader, ComesBefore, EndEdit, EndsLeave, IsInto}
use Rattle.keep_edit_spec.specs.EndEdits.{IsEntryMadeBefore, IsMadeBefore, LetsLine, document_with}
use Rattle.keep_edit_spec.specs.EntryEdits.{MakesSet}
use Rattle.keep_edit_spec.specs.FirstNewline.{HasFirst}
use Rattle.keep_edit_spec.specs.HeadersBelow.{GoThrough}
use Rattle.keep_edit_spec.specs.InsertKinds.{Added, added_as}
use Rattle.keep_edit_spec.specs.Laws.{IsEditable, IsLawfulEdit}
use Rattle.keep_edit_spec.specs.Refusals.{refusal}
use Rattle.keep_edit_spec.specs.Runs as runs
use Rattle.keep_edit_spec.specs.Runs.{LetsTable, MakesChange, PassesBy, PassesTable, takes_up_to}
use Rattle.keep_edit_spec.specs.SetValues.{SetsValue}
use Rattle.keep_edit_spec.specs.TextChanges.{Follow, IsBeside, TextChange, change_at, moved_by_all, text_with}
use Rattle.keep_edit_spec.specs.TextChanges.{with_change}
use Rattle.keep_edit_spec.specs.declared.line_kind.LineKind.{LineKind}
use Rattle.keep_edit_spec.specs.declared.line_kind.LineKind.TheVariants.{LastInBody, OfDotted, WithHeader}
use Rattle.keep_edit_spec.proofs.Shared.{IsLonger, all_with, change_lawful, end_comes_after_entry, end_comes_later}
use Rattle.keep_edit_spec.proofs.Shared.{entry_lawful, one_of_all, rest_of_all, with_ends}
use Rattle.keep_edit_plan.proofs.Shared.{change_in, editable, one_tree}
use Rattle.keep_edit_plan.specs.Reading.{IsTextOfTree, ProfiledText, limit}
use Rattle.keep_edit_plan.specs.TextEdits.{IsChangeIn, change_of}
use Rattle.keep_edit_plan.specs.declared.edit.Edit.{Edit}
use Rattle.keep_edit_runs.specs.Again.{IsAgainHere, IsPutAgain}
use Rattle.keep_edit_runs.specs.AddedLines.{IsHeaderKnown, line_of}
use Rattle.keep_edit_runs.specs.KindsRun.{AddsInPlace, AddsOne, LetsAgainBefore, PutsOne}
use Rattle.keep_edit_runs.specs.Lists.{AreMade, IsEdit}
use Rattle.keep_edit_runs.specs.Newlines.{LeavesHere}
use Rattle.keep_edit_runs.specs.Runs.{IsAddedAhead, IsAddedFollowing, IsAddedRightBefore, IsLineKept, IsRunTo}
use Rattle.keep_edit_runs.specs.Runs.{MakesInRun}
use Rattle.keep_edit_runs.specs.Runs.{IsSetBy, changed_text, no_value, outlined, plain}
use Rattle.keep_edit_runs.specs.SeenPaths.{IsSeen}
use Rattle.keep_edit_runs.specs.Tail.{AreBlocks, IsBlock, keys_of}
use Rattle.keep_edit_runs.specs.declared.added_lines.AddedLines.{AddedLines}
use Rattle.keep_edit_runs.specs.declared.again.Again.{Again}
use Rattle.keep_edit_runs.specs.declared.again.Again.TheVariants as again
use Rattle.keep_edit_runs.specs.declared.kinds_run.KindsRun.{KindsRun}
use Rattle.keep_edit_runs.specs.declared.outline.Outline.{Outline}
use Rattle.keep_edit_runs.specs.declared.tail.Block.{Block}
use Rattle.keep_edit_runs.proofs.AgainSteps.{done_once_more}
use Rattle.keep_edit_runs.proofs.AheadSteps.{IsInsertThere, each_ahead}
use Rattle.keep_edit_runs.proofs.AheadSteps.{made_there as ahead_there}
use Rattle.keep_edit_runs.proofs.ElementSteps.{placed_too}
use Rattle.keep_edit_runs.proofs.EndPlaces.{before_last, length_from, takes_none}
use Rattle.keep_edit_runs.proofs.FollowSteps.{made_there as following_there}
use Rattle.keep_edit_runs.proofs.InPlaceSteps.{each_before, line_before as before_there}
use Rattle.keep_edit_runs.proofs.InPlaceSteps.{line_in_place as in_place_there}
use Rattle.keep_edit_runs.proofs.LiftsPlain.{begins_with_header, no_through, one_given}
use Rattle.keep_edit_runs.proofs.RunSteps.{AreMadeTo}
use Rattle.keep_edit_runs.proofs.SetAgainSteps.{IsDoneThere, IsSetThere, each_replaced}
use Rattle.keep_edit_runs.proofs.SetAgainSteps.{made_there as set_there}
use Rattle.keep_edit_runs.proofs.TailNewlines.{IsFirstKnown}
use Rattle.keep_edit_runs.proofs.TailRuns.{AreMadeIn, IsEndClear, IsLifted, IsTailTo, Lifts}

-- ---- the edits at the end

-- the inserts below a header that passes by the line's table are into another
lets_own : (l : Added) (keys : List (List ℕ)) (table : List Part) (own : List EndEdit) → GoThrough keys table
    → PassesTable keys l → All (λ t. IsInto table t.seen) own → All (λ t. LetsLine l t.seen) own
lets_own l keys table own through passes into =
    All-weaker (λ (t : EndEdit). IsInto table t.seen) (λ (t : EndEdit). LetsLine l t.seen) (λ t is. by t.seen is) own
    into
  where
    by : (f : law.Edit) → IsInto table f → LetsLine l f
    by (law.insert first v) is = λ head same.
        no_through keys table (subst (PassesBy keys) (same ∙ is) (passes head)) through
    by (law.set p v) is = absurd is
    by (law.rename p name) is = absurd is
    by (law.remove p) is = absurd is
    by (law.append_table ks) is = absurd is
    by (law.append_element ks) is = absurd is

-- one block lets the line come
lets_block : (l : Added) (b : Block) (h : EndEdit) (own : List EndEdit) → IsBlock b h own → LetsTable l h.seen
    → LetsLine l h.seen × All (λ t. LetsLine l t.seen) own
lets_block l b h own block lets =
    elim block.header [
      | inl is ↦
          (let seen : h.seen ≡ law.append_table (keys_of b) = block.seen ∙ is in
          let passes : PassesTable (keys_of b) l = subst (LetsTable l) seen lets in
          (subst (LetsLine l) (sym seen) passes, below passes))
      | inr is ↦
          (let seen : h.seen ≡ law.append_element (keys_of b) = block.seen ∙ is in
          let passes : PassesTable (keys_of b) l = subst (LetsTable l) seen lets in
          (subst (LetsLine l) (sym seen) passes, below passes))
    ]
  where
    below : PassesTable (keys_of b) l → All (λ t. LetsLine l t.seen) own
    below passes = by b.table refl
      where
        by : (o : Option (List Part)) → b.table ≡ o → All (λ t. LetsLine l t.seen) own
        by None is =
            subst (All (λ (t : EndEdit). LetsLine l t.seen)) (sym (block.none is))
            (λ k t less. absurd (omega (arith, less)))
        by (Some table) is =
            let into = block.below table is in
            lets_own l (keys_of b) table own into.through passes into.into

-- all do so if the headers pass by its table
lets_lines : (l : Added) (bs : List Block) (ts : List EndEdit) → AreBlocks bs ts → All (λ t. LetsTable l t.seen) ts
    → All (λ t. LetsLine l t.seen) ts
lets_lines l [] ts is all =
    subst (All (λ (t : EndEdit). LetsLine l t.seen)) (sym is) (λ k t less. absurd (omega (arith, less)))
lets_lines l (b ∷ bs) ts (h, (own, (rest, (is, (block, others))))) all =
    let Lets : EndEdit → Type 0 = λ (t : EndEdit). LetsTable l t.seen in
    let Lines : EndEdit → Type 0 = λ (t : EndEdit). LetsLine l t.seen in
    let here : All Lets (h ∷ own ++ rest) = subst (All Lets) is all in
    let (first, below) = lets_block l b h own block (All-head Lets h (own ++ rest) here) in
    subst (All Lines) (sym is)
    (All-cons Lines h (own ++ rest) first
    (All-append Lines own rest below
    (lets_lines l bs rest others (rest_of Lets own rest (All-tail Lets h (own ++ rest) here)))))
  where
    rest_of : (P : EndEdit → Type 0) (own rest : List EndEdit) → All P (own ++ rest) → All P rest
    rest_of P [] rest h = h
    rest_of P (x ∷ own) rest h = rest_of P own rest (All-tail P x (own ++ rest) h)

-- a line of the same kind and the same first new key
same_line : (l m : Added) → l.first ≡ m.first → l.kind ≡ m.kind → (f : law.Edit) → LetsTable l f → LetsTable m f
same_line l m first kind (law.append_table ks) lets = λ head.
    subst (λ (p : List Part). PassesBy ks (without_last p)) first (lets (kind ∙ head))
same_line l m first kind (law.append_element ks) lets = λ head.
    subst (λ (p : List Part). PassesBy ks (without_last p)) first (lets (kind ∙ head))
same_line l m first kind (law.set p v) lets = tt
same_line l m first kind (law.insert p v) lets = tt
same_line l m first kind (law.rename p name) lets = tt
same_line l m first kind (law.remove p) lets = tt

no_header : {k : LineKind} (kind : LineKind) → k ≡ kind → (kind ≡ WithHeader → ⊥) → k ≡ WithHeader → ⊥
no_header kind is other head = other (sym is ∙ head)

-- a line without a header is let by all
lets_last : (l : Added) → (l.kind ≡ WithHeader → ⊥) → (f : law.Edit) → LetsLine l f
lets_last l other (law.append_table ks) = λ head. absurd (other head)
lets_last l other (law.append_element ks) = λ head. absurd (other head)
lets_last l other (law.insert p v) = λ head. absurd (other head)
lets_last l other (law.set p v) = tt
lets_last l other (law.rename p name) = tt
lets_last l other (law.remove p) = tt

-- what leaves a set alone does not hang on its value
set_too : (f : law.Edit) (path : List Part) (v w : Value) → runs.LeavesAlone f (law.set path v)
    → runs.LeavesAlone f (law.set path w)
set_too (law.set p x) path v w h = h
set_too (law.insert p x) path v w h = h
set_too (law.rename p name) path v w h = h
set_too (law.remove p) path v w h = h
set_too (law.append_table ks) path v w h = h
set_too (law.append_element ks) path v w h = h

-- ---- before the last byte

-- the text with one change more
length_with_one : (from : ℕ) (bytes : List ℕ) (cs : List TextChange) (d : TextChange) → from ≤ d.at
    → d.at + d.size ≤ length bytes → Follow from cs → All (λ x. x.at + x.size ≤ length bytes) cs
    → All (λ x. IsBeside x d) cs
    → length (text_with from bytes (with_change cs d)) + d.size ≡ length (text_with from bytes cs) + length d.new
length_with_one from bytes [] d low its follow within beside =
    omega (
      arith,
      low,
      its,
      length_from from bytes d [] low its,
      length-drop from bytes,
      length-drop (d.at + d.size) bytes,
    )
length_with_one from bytes (x ∷ cs) d low its follow within beside =
    by (cases_lt d.at x.at) (λ ends. length_with_one (x.at + x.size) bytes cs d ends its follow.1
    (All-tail (λ (y : TextChange). y.at + y.size ≤ length bytes) x cs within)
    (All-tail (λ (y : TextChange). IsBeside y d) x cs beside))
  where
    here : x.at + x.size ≤ length bytes
    here = All-head (λ (y : TextChange). y.at + y.size ≤ length bytes) x cs within

    apart : IsBeside x d
    apart = All-head (λ (y : TextChange). IsBeside y d) x cs beside

    by : (d.at < x.at) ⊎ (x.at ≤ d.at)
        → (x.at + x.size ≤ d.at → length (text_with (x.at + x.size) bytes (with_change cs d)) + d.size
        ≡ length (text_with (x.at + x.size) bytes cs) + length d.new)
        → length (text_with from bytes (with_change (x ∷ cs) d)) + d.size
        ≡ length (text_with from bytes (x ∷ cs)) + length d.new
    by (inl less) rest =
        let past : d.at + d.size ≤ x.at = elim apart [
          | inl ends ↦ omega (arith, ends, less)
          | inr (first, ends) ↦ ends
        ] in
        rw (lt-ltb d.at x.at less)
        (omega (
          arith,
          past,
          length_from from bytes d (x ∷ cs) low its,
          length_from (d.at + d.size) bytes x cs past here,
          length_from from bytes x cs follow.0 here,
        ))
    by (inr up) rest =
        let ends : x.at + x.size ≤ d.at = elim apart [
          | inl before ↦ before
          | inr (first, after) ↦ absurd (omega (arith, first, up))
        ] in
        rw (le-ltb d.at x.at up)
        (omega (
          arith,
          rest ends,
          length_from from bytes x (with_change cs d) follow.0 here,
          length_from from bytes x cs follow.0 here,
        ))

-- what no change of a list is, neither one of them nor the others are
none_apart : (p : TextChange → Bool) (cs : List TextChange) (d : TextChange) → list_any p (with_change cs d) ≡ false
    → (p d ≡ false) × (list_any p cs ≡ false)
none_apart p [] d none = ((or_parts (p d) false none).0, refl)
none_apart p (c ∷ cs) d none = by (nat_lt d.at c.at) (none_apart p cs d) none
  where
    by : (b : Bool) → (list_any p (with_change cs d) ≡ false → (p d ≡ false) × (list_any p cs ≡ false))
        → list_any p (cond b (d ∷ c ∷ cs) (c ∷ with_change cs d)) ≡ false
        → (p d ≡ false) × (list_any p (c ∷ cs) ≡ false)
    by true ih none = or_parts (p d) (list_any p (c ∷ cs)) none
    by false ih none =
        let (its, others) = or_parts (p c) (list_any p (with_change cs d)) none in
        let (one, rest) = ih others in
        (one, or_from (p c) (list_any p cs) its rest)

-- What a change wrote, which took no last byte, ends before the end of the text, where the others have moved it.
ends_before : (bytes : List ℕ) (rest : List TextChange) (was c : TextChange) → was.at ≡ c.at → was.size ≡ c.size
    → 0 < was.size → Follow 0 rest → All (λ x. IsBeside x c) rest
    → All (λ x. x.at + x.size ≤ length bytes) (with_change rest was)
    → list_any (takes_up_to (length bytes)) (with_change rest was) ≡ false
    → moved_by_all rest c.at + length was.new < length (text_with 0 bytes (with_change rest was))
ends_before bytes rest was c at size some follow beside within clear =
    let Within : TextChange → Type 0 = λ (x : TextChange). x.at + x.size ≤ length bytes in
    let (its, others) = none_apart (takes_up_to (length bytes)) rest was clear in
    let here : was.at + was.size ≤ length bytes = one_of_all Within rest was within in
    let there : All Within rest = rest_of_all Within rest was within in
    let before : c.at + c.size < length bytes = elim (cases_lt (was.at + was.size) (length bytes)) [
      | inl less ↦ omega (arith, less, at, size)
      | inr up ↦ absurd
          (let no = takes_none (length bytes) was its (omega (arith, here, up)) in omega (arith, no, some))
    ] in
    let apart : All (λ x. IsBeside x was) rest =
    All-weaker (λ (x : TextChange). IsBeside x c) (λ (x : TextChange). IsBeside x was) (λ x. same x) rest beside in
    omega (
      arith,
      size,
      before_last bytes rest c follow there beside others before,
      length_with_one 0 bytes rest was (omega arith) here follow there apart,
    )
  where
    same : (x : TextChange) → IsBeside x c → IsBeside x was
    same x (inl ends) = inl (omega (arith, ends, at))
    same x (inr (first, ends)) = inr (omega (arith, first, at), omega (arith, ends, at, size))

-- ---- in a document with edits at its end

module _ (profile : Profile) (d : Document) (ts : List EndEdit) (fine : IsEditable profile limit d)
    (ends : AreAtEnd profile limit d ts) where
  -- where nothing is at the end
  lifted_alone : ts ≡ [] → (e : law.Edit) → refusal profile limit d e ≡ None → IsLawfulEdit profile limit d e
      → IsLifted profile d ts e
  lifted_alone none e allowed lawful =
      subst (λ (us : List EndEdit). IsLifted profile d us e) (sym none)
      (record { allowed = allowed; lawful = lawful; ends = tt; same = refl })

  allowed_of : (u : Document) (path : List Part) (value : Value) (c : TextChange)
      → MakesChange profile limit u (law.insert path value) c → refusal profile limit u (law.insert path value) ≡ None
  allowed_of u path value c (LastInBody, h) = h.allowed
  allowed_of u path value c (OfDotted, h) = h.allowed
  allowed_of u path value c (WithHeader, h) = h.allowed

  longer : IsLonger profile limit d (document_with d ts)
  longer = with_ends profile limit d ts fine ends

  lifted_insert : (path : List Part) (value : Value) (c : TextChange)
      → MakesChange profile limit d (law.insert path value) c
      → (ts ≡ []) ⊎ ComesBefore d ts (law.insert path value) c → IsLifted profile d ts (law.insert path value)
  lifted_insert path value c makes (inl none) =
      lifted_alone none (law.insert path value) (allowed_of d path value c makes)
      (change_lawful profile limit d (law.insert path value) c fine makes)
  lifted_insert path value c makes (inr before) =
      let e : law.Edit = law.insert path value in
      let there : Document = document_with d ts in
      let m : IsMadeBefore profile limit d ts e c = end_comes_later profile limit d ts e c fine ends makes before in
      record {
        allowed = allowed_of there path value c m.makes;
        lawful = change_lawful profile limit there e c longer.editable m.makes;
        ends = m.ends;
        same = m.same;
      }

  lifted_set : (path : List Part) (value : Value) (c : TextChange) → SetsValue profile limit d path value c
      → ComesBefore d ts (law.set path value) c → IsLifted profile d ts (law.set path value)
  lifted_set path value c makes before =
      let e : law.Edit = law.set path value in
      let m : IsMadeBefore profile limit d ts e c = end_comes_later profile limit d ts e c fine ends makes before in
      let sets : SetsValue profile limit (document_with d ts) path value c = m.makes in
      record {
        allowed = sets.allowed;
        lawful = change_lawful profile limit (document_with d ts) e c longer.editable sets;
        ends = m.ends;
        same = m.same;
      }

  lifted_entry : (e : law.Edit) (path : List Part) (value : Value) (c : TextChange)
      → MakesSet profile limit d e path value c → ComesBefore d ts (law.set path value) c → IsLifted profile d ts e
  lifted_entry e path value c makes before =
      let m : IsEntryMadeBefore profile limit d ts e path value c =
      end_comes_after_entry profile limit d ts e path value c fine ends makes before in
      record {
        allowed = m.makes.allowed;
        lawful = entry_lawful profile limit (document_with d ts) e path value c longer.editable m.makes;
        ends = m.ends;
        same = m.same;
      }

-- ---- the edits so far

-- the edits of a list are made as well as those of a longer one
with_more : (s : Document) (edits more : List Edit) (old now : ProfiledText) (before : Document)
    (outlines : List Outline) (changes : List TextChange) (adds : AddedLines)
    → IsRunTo s edits (length edits) old now before outlines changes adds
    → IsRunTo s (edits ++ more) (length edits) old now before outlines changes adds
with_more s edits more old now before outlines changes adds h = record {
  made = record {
    es = h.made.es;
    are = subst (λ (l : List Edit). AllZip IsEdit l h.made.es)
        (sym (take-append-le (length edits) edits more (omega arith))) h.made.are;
    tree = h.made.tree;
    made = h.made.made;
    read = h.made.read;
    profile = h.made.profile;
    growth = h.made.growth;
  };
  ms = h.ms;
  alone = h.alone;
  inserts = h.inserts;
  headers = h.headers;
  sets = h.sets;
  renames = h.renames;
  allow = h.allow;
  lines = h.lines;
  counts = h.counts;
  followed = h.followed;
  headed = h.headed;
  headers_known = h.headers_known;
  at_once = h.at_once;
  changes_are = h.changes_are;
  tree_is = h.tree_is;
}

last_is : (xs : List Edit) (x d : Edit) → get_or (xs ++ x ∷ []) (length xs) d ≡ x
last_is [] x d = refl
last_is (y ∷ xs) x d = last_is xs x d

module _ (edits : List Edit) (first end : ℕ) (now : ProfiledText) (old : KindsRun) (x : Edit)
    (empty : old.gone.arrays.items ≡ []) (so_far : AreMadeIn edits first end now old) (s : Document)
    (older : ProfiledText) (h : AreMade s (take first so_far.own) older now) where
  abbrev n : ℕ
  n = length so_far.own

  abbrev all : List Edit
  all = so_far.own ++ x ∷ []

  abbrev outlines : List Outline
  outlines = old.so_far.outlines.items

  abbrev changes : List TextChange
  changes = old.so_far.changes

  none : AreMadeTo so_far.own first n now outlines changes old.lines
  none = (so_far.base.none empty).1

  run : IsRunTo s all n older now h.tree outlines changes old.lines
  run = with_more s so_far.own (x ∷ []) older now h.tree outlines changes old.lines (none.made s older h)

  few : n < length all
  few = omega (arith, length-append so_far.own (x ∷ []))

  here : get_or all n x ≡ x
  here = last_is so_far.own x x

  abbrev d : Document
  d = (so_far.base.made s older h).made.tree

  read : IsTextOfTree (changed_text now changes) d
  read = (so_far.base.made s older h).made.read

  same_tree : run.made.tree ≡ d
  same_tree = one_tree (changed_text now changes) run.made.tree d run.made.read read

  fine : IsEditable now.profile limit d
  fine = editable (changed_text now changes) d read

  abbrev whole : IsTailTo s edits end older now d outlines changes old.lines old.tail
  whole = so_far.whole s older h

  abbrev ts : List EndEdit
  ts = whole.ts

  no_ends : old.tail.blocks.items ≡ [] → ts ≡ []
  no_ends is = subst (λ (bs : List Block). AreBlocks bs ts) is whole.is

  begins : BeginWithHeader ts
  begins = begins_with_header old.tail.blocks.items ts whole.is

  -- the first newline is known of the document with an edit, too
  abbrev IsKnownWith : law.Edit → Type 0
  IsKnownWith f = IsFirstKnown d ts (edited_document d f)

  -- ---- an insert

  module _ (f a : law.Edit) (kind : LineKind) (new : List ℕ)
      (i : IsInsertThere now.profile h.tree d f a kind new)
      (alone : All (λ y. runs.LeavesAlone (outlined y) (plain a)) old.tail.outlines.items)
      (lets : All (λ t. LetsLine (added_as d i.path i.change) t.seen) ts) where
    abbrev e : law.Edit
    e = law.insert i.path i.value

    seen_is : a ≡ runs.seen d e
    seen_is = i.seen_is ∙ ap (λ (p : List Part). law.insert p i.value) (sym i.first)

    before : IsKnownWith e → (ts ≡ []) ⊎ ComesBefore d ts e i.change
    before (inl none) = inl none
    before (inr known) = inr (record {
      other = refl;
      alone = subst (λ (g : law.Edit). All (λ t. runs.LeavesAlone t.seen g) ts) seen_is (whole.alone a alone);
      lets = lets;
      newline = known;
      clear = λ no. absurd cc;
      first = λ is. begins;
    })

    insert_lifts : IsKnownWith f → IsLifted now.profile d ts f
    insert_lifts known =
        subst (IsLifted now.profile d ts) (sym i.is)
        (lifted_insert now.profile d ts fine whole.ends i.path i.value i.change i.makes
        (before (subst IsKnownWith i.is known)))

  -- ---- a set

  module _ (f : law.Edit) (path : List Part) (value : Value) (c : TextChange)
      (i : IsSetThere now.profile d changes f path value c) (set_in : IsSetBy outlines path)
      (clear : IsEndClear now changes) where
    abbrev there : TextChange
    there = change_at (moved_by_all i.rest c.at) (length i.was.new) c.new

    alone : All (λ t. runs.LeavesAlone t.seen (law.set path value)) ts
    alone =
        let (k, o, less, is, its) = set_in in
        let left : All (λ t. runs.LeavesAlone t.seen (law.set path no_value)) ts =
        subst (λ (g : law.Edit). All (λ t. runs.LeavesAlone t.seen g) ts) its
        (subst (λ (y : Outline). All (λ t. runs.LeavesAlone t.seen (outlined y)) ts) is (whole.apart k o less)) in
        All-weaker (λ (t : EndEdit). runs.LeavesAlone t.seen (law.set path no_value))
        (λ (t : EndEdit). runs.LeavesAlone t.seen (law.set path value))
        (λ t. set_too t.seen path no_value value) ts left

    all_within : All (λ x. x.at + x.size ≤ length now.text) changes
    all_within =
        All-weaker (IsChangeIn now.text) (λ (x : TextChange). x.at + x.size ≤ length now.text)
        (λ x is. is.ends.0) changes none.within

    less : there.at + there.size < length (text d)
    less =
        let ended : moved_by_all i.rest c.at + length i.was.new
        < length (text_with 0 now.text (with_change i.rest i.was)) =
        ends_before now.text i.rest i.was c i.at i.size i.some i.follow i.beside
        (subst (All (λ (x : TextChange). x.at + x.size ≤ length now.text)) i.changes_are all_within)
        (ap (list_any (takes_up_to (length now.text))) (sym i.changes_are) ∙ clear.clear) in
        subst (λ (bytes : List ℕ). there.at + there.size < length bytes) read.reads.spelled
        (subst (λ (cs : List TextChange). there.at + there.size < length (text_with 0 now.text cs)) (sym i.changes_are)
        ended)

    set_before : (first : Option (List ℕ)) × (EndsLeave first d ts
        × HasFirst first (edited_document d (law.set path value)))
        → ComesBefore d ts (law.set path value) there
    set_before known = record {
      other = refl;
      alone = alone;
      lets = λ k t few. tt;
      newline = known;
      clear = λ no same. omega (arith, less, same);
      first = λ is. begins;
    }

    set_lifts : (first : Option (List ℕ)) × (EndsLeave first d ts × HasFirst first (edited_document d f))
        → IsLifted now.profile d ts f
    set_lifts (line, (leave, still)) = elim i.makes [
      | inl is ↦
          subst (IsLifted now.profile d ts) (sym is)
          (lifted_set now.profile d ts fine whole.ends path value there i.sets
          (set_before (line, (leave, subst (λ (g : law.Edit). HasFirst line (edited_document d g)) is still))))
      | inr makes ↦
          lifted_entry now.profile d ts fine whole.ends f path value there makes
          (set_before (line, (leave, subst (HasFirst line) makes.same still)))
    ]

  -- ---- a line before others

  module _ (new : KindsRun) (k : AddsOne now old x new)
      (it : IsAddedAhead now old.lines changes k.outline (change_of k.change) k.line new.lines
      new.so_far.changes) where
    abbrev c : TextChange
    c = change_of k.change

    abbrev a : law.Edit
    a = k.makes.in_run h.tree

    ahead_is : plain a ≡ outlined k.outline
    ahead_is = k.makes.outline_is h.tree h.read

    ahead : IsInsertThere now.profile h.tree d k.makes.edit a it.kept.kind c.new
    ahead =
        subst (λ (u : Document). IsInsertThere now.profile h.tree u k.makes.edit a it.kept.kind c.new) same_tree
        (ahead_there s all n older now h.tree outlines changes new.so_far.changes old.lines new.lines h.read run x x few
        here k.outline k.makes.edit a k.makes.is ahead_is c k.line (k.makes.makes h.tree h.read) k.alone.edits
        (placed_too outlines now changes k.outline c.at k.placed) it
        (each_ahead (λ b. IsUtf8 b.new) changes new.so_far.changes c it.put none.utf8
        (IsUtf8-string_bytes k.change.new))
        (each_ahead (IsChangeIn now.text) changes new.so_far.changes c it.put none.within
        (change_in now.text k.change k.makes.within)))

    first_is : first_new d ahead.path ≡ it.kept.first
    first_is =
        let firsts : law.insert (first_new h.tree ahead.path) no_value ≡ law.insert it.kept.first no_value =
        sym (ap plain ahead.seen_is) ∙ ahead_is ∙ it.kept.is in
        let same : first_new h.tree ahead.path ≡ it.kept.first = cc in
        ahead.first ∙ same

    -- headers at the end go through no table whose header comes with the line
    ahead_lets : All (λ t. LetsLine (added_as d ahead.path ahead.change) t.seen) ts
    ahead_lets =
        let its : Added = added_as d ahead.path ahead.change in
        lets_lines its old.tail.blocks.items ts whole.is
        (All-weaker (λ (t : EndEdit). IsHeaderKnown old.lines t.seen) (λ (t : EndEdit). LetsTable its t.seen)
        (λ t known. same_line (line_of it.kept.first c.at it.kept.kind) its (sym first_is) (sym ahead.kind_is) t.seen
        (it.kept.lets t.seen known)) ts whole.known)

    ahead_lifts : (e : law.Edit) → IsEdit x e → IsKnownWith e → IsLifted now.profile d ts e
    ahead_lifts e given =
        subst (λ (g : law.Edit). IsKnownWith g → IsLifted now.profile d ts g)
        (one_given x k.makes.edit e k.makes.is given)
        (insert_lifts k.makes.edit a it.kept.kind c.new ahead
        (subst (λ (g : law.Edit). All (λ y. runs.LeavesAlone (outlined y) g) old.tail.outlines.items) (sym ahead_is)
        k.alone.tail) ahead_lets)

  -- ---- a line in the place of what another takes

  module _ (new : KindsRun) (k : AddsInPlace now old x new) where
    abbrev placed_change : TextChange
    placed_change = change_of k.change

    abbrev placed_seen : law.Edit
    placed_seen = k.makes.in_run h.tree

    placed_is : plain placed_seen ≡ outlined k.outline
    placed_is = k.makes.outline_is h.tree h.read

    all_new : (P : TextChange → Type 0) → All P changes → P placed_change → All P new.so_far.changes
    all_new P every its = subst (All P) (sym k.added.changes_are) (all_with P changes placed_change every its)

    placed : IsInsertThere now.profile h.tree d k.makes.edit placed_seen LastInBody placed_change.new
    placed =
        subst
        (λ (u : Document). IsInsertThere now.profile h.tree u k.makes.edit placed_seen LastInBody placed_change.new)
        same_tree
        (in_place_there s all n older now h.tree outlines changes new.so_far.changes old.lines new.lines h.read run x x
        few here k.outline k.makes.edit placed_seen k.makes.is placed_is k.first k.is placed_change
        (k.makes.makes h.tree h.read) k.alone.edits k.newline k.freed k.added
        (all_new (λ b. IsUtf8 b.new) none.utf8 (IsUtf8-string_bytes k.change.new))
        (all_new (IsChangeIn now.text) none.within (change_in now.text k.change k.makes.within)))

    in_place_lifts : (e : law.Edit) → IsEdit x e → IsKnownWith e → IsLifted now.profile d ts e
    in_place_lifts e given =
        subst (λ (g : law.Edit). IsKnownWith g → IsLifted now.profile d ts g)
        (one_given x k.makes.edit e k.makes.is given)
        (insert_lifts k.makes.edit placed_seen LastInBody placed_change.new placed
        (subst (λ (g : law.Edit). All (λ y. runs.LeavesAlone (outlined y) g) old.tail.outlines.items) (sym placed_is)
        k.alone.tail)
        (λ i t less. lets_last (added_as d placed.path placed.change) (no_header LastInBody placed.kind_is (λ same. cc))
        (get_or ts i t).seen))

  -- ---- a line right before what another takes

  module _ (new : KindsRun) (k : AddsOne now old x new)
      (it : IsAddedRightBefore now old.lines changes k.outline (change_of k.change) k.line new.lines new.so_far.changes)
    where
      abbrev its_change : TextChange
      its_change = change_of k.change

      abbrev its_seen : law.Edit
      its_seen = k.makes.in_run h.tree

      its_plain : plain its_seen ≡ outlined k.outline
      its_plain = k.makes.outline_is h.tree h.read

      before_it : IsInsertThere now.profile h.tree d k.makes.edit its_seen OfDotted its_change.new
      before_it =
          subst (λ (u : Document). IsInsertThere now.profile h.tree u k.makes.edit its_seen OfDotted its_change.new)
          same_tree
          (before_there s all n older now h.tree outlines changes new.so_far.changes old.lines new.lines h.read run x x
          few here k.outline k.makes.edit its_seen k.makes.is its_plain it.first it.is its_change
          (subst (MakesInRun now.profile h.tree k.makes.edit its_seen its_change) it.line_is
          (k.makes.makes h.tree h.read))
          k.alone.edits (placed_too outlines now changes k.outline its_change.at k.placed)
          (subst (λ (l : Option LineKind). IsLineKept old.lines changes k.outline its_change.at l new.lines) it.line_is
          it.kept) it.put
          (each_before (λ b. IsUtf8 b.new) changes new.so_far.changes its_change it.put none.utf8
          (IsUtf8-string_bytes k.change.new))
          (each_before (IsChangeIn now.text) changes new.so_far.changes its_change it.put none.within
          (change_in now.text k.change k.makes.within)))

      before_lifts : (e : law.Edit) → IsEdit x e → IsKnownWith e → IsLifted now.profile d ts e
      before_lifts e given =
          subst (λ (g : law.Edit). IsKnownWith g → IsLifted now.profile d ts g)
          (one_given x k.makes.edit e k.makes.is given)
          (insert_lifts k.makes.edit its_seen OfDotted its_change.new before_it
          (subst (λ (g : law.Edit). All (λ y. runs.LeavesAlone (outlined y) g) old.tail.outlines.items) (sym its_plain)
          k.alone.tail)
          (λ i t less. lets_last (added_as d before_it.path before_it.change)
          (no_header OfDotted before_it.kind_is (λ same. cc)) (get_or ts i t).seen))

  -- ---- one behind the header of its table

  module _ (new : KindsRun) (k : AddsOne now old x new)
      (it : IsAddedFollowing now x old.lines changes k.outline (change_of k.change).at new.lines
      new.so_far.changes) where
    abbrev line : TextChange
    line = change_of it.line

    abbrev seen_as : law.Edit
    seen_as = k.makes.in_run h.tree

    following_is : plain seen_as ≡ outlined k.outline
    following_is = k.makes.outline_is h.tree h.read

    following : IsInsertThere now.profile h.tree d k.makes.edit seen_as LastInBody line.new
    following =
        subst (λ (u : Document). IsInsertThere now.profile h.tree u k.makes.edit seen_as LastInBody line.new) same_tree
        (following_there s all n older now h.tree outlines changes new.so_far.changes old.lines new.lines h.read run x x
        few here k.outline k.makes.edit seen_as k.makes.is following_is (change_of k.change) k.line
        (k.makes.makes h.tree h.read) k.alone.edits
        (placed_too outlines now changes k.outline (change_of k.change).at k.placed) it
        (subst (All (λ b. IsUtf8 b.new)) (sym it.changes_are)
        (all_with (λ b. IsUtf8 b.new) changes line none.utf8 (IsUtf8-string_bytes it.line.new)))
        (subst (All (IsChangeIn now.text)) (sym it.changes_are)
        (all_with (IsChangeIn now.text) changes line none.within (change_in now.text it.line it.alone.within))))

    following_lifts : (e : law.Edit) → IsEdit x e → IsKnownWith e → IsLifted now.profile d ts e
    following_lifts e given =
        subst (λ (g : law.Edit). IsKnownWith g → IsLifted now.profile d ts g)
        (one_given x k.makes.edit e k.makes.is given)
        (insert_lifts k.makes.edit seen_as LastInBody line.new following
        (subst (λ (g : law.Edit). All (λ y. runs.LeavesAlone (outlined y) g) old.tail.outlines.items)
        (sym following_is) k.alone.tail)
        (λ i t less. lets_last (added_as d following.path following.change)
        (no_header LastInBody following.kind_is (λ same. cc)) (get_or ts i t).seen))

  -- ---- what is done again

  again_lifts : (new : KindsRun) → PutsOne now old x new → All (IsSeen old.paths) outlines
      → (e : law.Edit) → IsEdit x e → IsKnownWith e → IsLifted now.profile d ts e
  again_lifts new k seen e given known = elim (so_far.clear (h.tree, h.read)) [
    | inl nothing ↦ alone_lifts (no_ends nothing)
    | inr clear ↦ by clear k.again k.is k.does.before k.does.put known
  ]
    where
      alone_lifts : ts ≡ [] → IsLifted now.profile d ts e
      alone_lifts nothing =
          let (f, (is, (allowed, lawful))) =
          subst (λ (u : Document). IsDoneThere now.profile u x) same_tree
          (done_once_more s all n older now h.tree outlines changes new.so_far.changes old.lines h.read run none.utf8
          none.within x x few here (IsSeen old.paths) seen k.again k.is k.does.allowed k.does.lets k.does.put) in
          subst (IsLifted now.profile d ts) (one_given x f e is given)
          (lifted_alone now.profile d ts fine whole.ends nothing f allowed lawful)

      by : IsEndClear now changes → (a : Again) → IsAgainHere now x outlines changes a
          → LetsAgainBefore (LeavesHere now) old.tail.blocks.items a → IsPutAgain a changes new.so_far.changes
          → IsKnownWith e → IsLifted now.profile d ts e
      by clear (again.Value t) is (inl nothing) put fresh = alone_lifts (no_ends nothing)
      by clear (again.Value t) is (inr leaves) put (inl nothing) = alone_lifts nothing
      by clear (again.Value t) is (inr leaves) put (inr fresh) =
          let c : TextChange = change_of t in
          let there : IsSetThere now.profile d changes is.edit is.path is.value c =
          subst (λ (u : Document). IsSetThere now.profile u changes is.edit is.path is.value c) same_tree
          (set_there s all n older now h.tree outlines changes new.so_far.changes old.lines h.read run x x few here t is
          put
          (each_replaced (λ b. IsUtf8 b.new) changes new.so_far.changes c put none.utf8 (IsUtf8-string_bytes t.new))
          (each_replaced (IsChangeIn now.text) changes new.so_far.changes c put none.within
          (change_in now.text t is.within))) in
          subst (IsLifted now.profile d ts) (one_given x is.edit e is.is given)
          (set_lifts is.edit is.path is.value c there is.already clear (
            fresh.0,
            (
              fresh.1.0,
              subst (λ (g : law.Edit). HasFirst fresh.0 (edited_document d g))
                  (sym (one_given x is.edit e is.is given)) fresh.1.1,
            ),
          ))
      by clear (again.Key o t) is nothing put fresh = alone_lifts (no_ends nothing)
      by clear (again.Line number was t) is nothing put fresh = alone_lifts (no_ends nothing)
      by clear (again.LineKey o giving was t) is nothing put fresh = alone_lifts (no_ends nothing)

-- ---- as the code goes

pub lifts_ahead : (edits : List Edit) (first end : ℕ) (now : ProfiledText) (old new : KindsRun) (x : Edit)
    → old.gone.arrays.items ≡ [] → (k : AddsOne now old x new)
    → IsAddedAhead now old.lines old.so_far.changes k.outline (change_of k.change) k.line new.lines
    new.so_far.changes
    → Lifts edits first end now old x
lifts_ahead edits first end now old new x empty k it = λ so_far s older h e given.
    ahead_lifts edits first end now old x empty so_far s older h new k it e given

pub lifts_following : (edits : List Edit) (first end : ℕ) (now : ProfiledText) (old new : KindsRun) (x : Edit)
    → old.gone.arrays.items ≡ [] → (k : AddsOne now old x new)
    → IsAddedFollowing now x old.lines old.so_far.changes k.outline (change_of k.change).at new.lines new.so_far.changes
    → Lifts edits first end now old x
lifts_following edits first end now old new x empty k it = λ so_far s older h e given.
    following_lifts edits first end now old x empty so_far s older h new k it e given

pub lifts_before : (edits : List Edit) (first end : ℕ) (now : ProfiledText) (old new : KindsRun) (x : Edit)
    → old.gone.arrays.items ≡ [] → (k : AddsOne now old x new)
    → IsAddedRightBefore now old.lines old.so_far.changes k.outline (change_of k.change) k.line new.lines
    new.so_far.changes
    → Lifts edits first end now old x
lifts_before edits first end now old new x empty k it = λ so_far s older h e given.
    before_lifts edits first end now old x empty so_far s older h new k it e given

pub lifts_in_place : (edits : List Edit) (first end : ℕ) (now : ProfiledText) (old new : KindsRun) (x : Edit)
    → AddsInPlace now old x new → Lifts edits first end now old x
lifts_in_place edits first end now old new x k = λ so_far s older h e given.
    in_place_lifts edits first end now old x k.none so_far s older h new k e given

pub lifts_again : (edits : List Edit) (first end : ℕ) (now : ProfiledText) (old new : KindsRun) (x : Edit)
    → All (IsSeen old.paths) old.so_far.outlines.items → PutsOne now old x new → Lifts edits first end now old x
lifts_again edits first end now old new x seen k = λ so_far s older h e given.
    again_lifts edits first end now old x k.none so_far s older h new k seen e given
