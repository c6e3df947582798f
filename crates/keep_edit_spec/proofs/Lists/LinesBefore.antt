-- A line of a table that dotted keys make comes right before bytes that an edit of the list takes.
--
-- That edit could come last (`last_of` of RunLists). After the others it and the insert each make their change at one
-- byte, and the insert makes its own after it, too (AddsBefore). The other way round the edit makes its change behind
-- the line, since it leaves alone what leaves it alone (`left_back`). Both texts are the same (`before_bytes`), and a
-- text is that of one document.
--
-- Theorem: `run_goes_on_before`.
use Rattle.std.proofs.Common.{◌≡◌, ◌<◌, ◌+◌, ◌≤◌, ℕ, List, [], ◌∷◌, ◌++◌, All, refl, sym, ap, ap₂, subst, subst₂}
use Rattle.std.proofs.Common.{◌∙◌, append_assoc, arith, inl, inr, map, suc, true, false, None, Some}
use Rattle.std.specs.Prelude.{◌⊎◌, IsTrue}
use Rattle.std.proofs.lemmas.List.Elements.{All-append, All-cons, All-nil, All-weaker}
use Rattle.keep_types.specs.declared.leaf.Profile.{Profile}
use Rattle.keep_syntax.specs.Tree.{Document, Value, text}
use Rattle.keep_syntax.proofs.Shared.{one_document}
use Rattle.keep_path.specs.Path.{Part, key, strip}
use Rattle.keep_meaning.specs.Meaning.{lines, mentions_in}
use Rattle.keep_edit_spec.specs.AddedLines.{first_new}
use Rattle.keep_edit_spec.specs.Changed.{put}
use Rattle.keep_edit_spec.specs.Edits.{Edit, append_element, append_table, edited_document, insert, remove, rename, set}
use Rattle.keep_edit_spec.specs.InsertKinds.{Added, AddsAs, kind_of}
use Rattle.keep_edit_spec.specs.Laws.{IsEditable}
use Rattle.keep_edit_spec.specs.Lines.{reading_at}
use Rattle.keep_edit_spec.specs.LinesInPlace.{IsRunBefore, RunGoesOnBefore}
use Rattle.keep_edit_spec.specs.Look.{holder}
use Rattle.keep_edit_spec.specs.RenamedKeys.{RenamesKey}
use Rattle.keep_edit_spec.specs.RunLists.{AreAtOnce, Follows, IsOneOf, MadeEdit, changes_of}
use Rattle.keep_edit_spec.specs.RunLists.{document_after, lines_of, made, seen_of}
use Rattle.keep_edit_spec.specs.Runs.{AreApart, LeaveNewline, IsBeforeHeaders, IsRun, IsSeenStill, KeepsPlace}
use Rattle.keep_edit_spec.specs.Runs.{LeavesAlone}
use Rattle.keep_edit_spec.specs.Runs.{LetsCome, MakesChange, is_header, is_insert, seen, with_line}
use Rattle.keep_edit_spec.specs.TextChanges.{Follow, IsBeside, TextChange, moved, moved_by_all, moved_past}
use Rattle.keep_edit_spec.specs.TextChanges.{place_of_change, with_change}
use Rattle.keep_edit_spec.specs.declared.line_kind.LineKind.TheVariants.{OfDotted}
use Rattle.keep_edit_spec.proofs.Common.LineLaws.{Cases, beyond, prefix_cases, within_first}
use Rattle.keep_edit_spec.proofs.Common.Runs.{none_or_some, strip-append, strip-sound}
use Rattle.keep_edit_spec.proofs.Insert.InsertDotted.{IsDottedLine}
use Rattle.keep_edit_spec.proofs.Lists.AddsBefore.{is_of_old, still_adds_before}
use Rattle.keep_edit_spec.proofs.Lists.AheadChanges.{put_before_all}
use Rattle.keep_edit_spec.proofs.Lists.AheadDocuments.{text_made}
use Rattle.keep_edit_spec.proofs.Lists.ChangeOrder.{follow_low, others_in_place}
use Rattle.keep_edit_spec.proofs.Lists.DottedLine as dotted
use Rattle.keep_edit_spec.proofs.Lists.LineKinds.{as_of_kind, kind_is}
use Rattle.keep_edit_spec.proofs.Lists.LinesInPlace.{HasMade, has_made, its_kind, makes_own, remove_back}
use Rattle.keep_edit_spec.proofs.Lists.MadeChanges.{added, change_allowed, within_text}
use Rattle.keep_edit_spec.proofs.Lists.NewHolder.{new_clear}
use Rattle.keep_edit_spec.proofs.Lists.PlacesBefore.{placed_before}
use Rattle.keep_edit_spec.proofs.Lists.PlacesKept.{change_placed, same_newline}
use Rattle.keep_edit_spec.proofs.Lists.RenameStarts.{renames_first}
use Rattle.keep_edit_spec.proofs.Lists.RunLaws.{same_seen, seen_on, text_with_change}
use Rattle.keep_edit_spec.proofs.Lists.RunLists.{ComesLast, each_of_others, last_of, moves_past, other_lines, others}
use Rattle.keep_edit_spec.proofs.Lists.RunLists.{run_before, run_is_known, same_document, set_back}
use Rattle.keep_edit_spec.proofs.Lists.TextChanges.{all_with, moved_with, put_in_front}
use Rattle.keep_edit_spec.proofs.Lists.TextsAfter.{IsTextAfter, PutsChange, made_puts, of_run}
use Rattle.keep_edit_spec.proofs.Rename.RenamedParts.{strip_self}

-- ---- an edit of what is there

-- An edit that takes bytes is one.
is_old : (profile : Profile) (limit : ℕ) (s : Document) (lines : List Added) (e : Edit) (c : TextChange) → 0 < c.size
    → MakesChange profile limit s e c ⊎ Follows profile limit s lines e c → is_of_old e ≡ true
is_old profile limit s lines (set path value) c some makes = refl
is_old profile limit s lines (rename path name) c some makes = refl
is_old profile limit s lines (remove path) c some makes = refl
is_old profile limit s lines (insert path value) c some (inl makes) =
    let adds : c.size ≡ 0 = (added profile limit s path value c makes).adds in
    absurd (omega (arith, some, adds))
is_old profile limit s lines (insert path value) c some (inr follows) = absurd (omega (arith, some, follows.alone.adds))
is_old profile limit s lines (append_table keys) c some (inl makes) = absurd (omega (arith, some, makes.adds))
is_old profile limit s lines (append_table keys) c some (inr never) = absurd never
is_old profile limit s lines (append_element keys) c some (inl makes) = absurd (omega (arith, some, makes.adds))
is_old profile limit s lines (append_element keys) c some (inr never) = absurd never

-- It adds no line, and is seen as it is, in any document.
adds_none : (s : Document) (e : Edit) (c : TextChange) (lines : List Added) → is_of_old e ≡ true
    → with_line s e c lines ≡ lines
adds_none s (set path value) c lines old = refl
adds_none s (rename path name) c lines old = refl
adds_none s (remove path) c lines old = refl
adds_none s (insert path value) c lines old = absurd cc
adds_none s (append_table keys) c lines old = absurd cc
adds_none s (append_element keys) c lines old = absurd cc

old_seen : (s : Document) (e : Edit) → is_of_old e ≡ true → seen s e ≡ e
old_seen s (set path value) old = refl
old_seen s (rename path name) old = refl
old_seen s (remove path) old = refl
old_seen s (insert path value) old = absurd cc
old_seen s (append_table keys) old = absurd cc
old_seen s (append_element keys) old = absurd cc

appends_none : (e : Edit) → is_of_old e ≡ true → is_header e ≡ false
appends_none (set path value) old = refl
appends_none (rename path name) old = refl
appends_none (remove path) old = refl
appends_none (insert path value) old = refl
appends_none (append_table keys) old = absurd cc
appends_none (append_element keys) old = absurd cc

no_insert : (e : Edit) → is_of_old e ≡ true → is_insert e ≡ false
no_insert (set path value) old = refl
no_insert (rename path name) old = refl
no_insert (remove path) old = refl
no_insert (insert path value) old = absurd cc
no_insert (append_table keys) old = refl
no_insert (append_element keys) old = refl

-- It keeps its place, and an insert that it leaves alone leaves it alone.
old_placed : (s : Document) (edits : List Edit) (changes : List TextChange) (lines : List Added) (e : Edit)
    (c : TextChange) → is_of_old e ≡ true → KeepsPlace s edits changes lines e c
old_placed s edits changes lines (set path value) c old = tt
old_placed s edits changes lines (rename path name) c old = tt
old_placed s edits changes lines (remove path) c old = tt
old_placed s edits changes lines (insert path value) c old = absurd cc
old_placed s edits changes lines (append_table keys) c old = absurd cc
old_placed s edits changes lines (append_element keys) c old = absurd cc

insert_back : (e : Edit) (path : List Part) (value : Value) → is_of_old e ≡ true → LeavesAlone e (insert path value)
    → LeavesAlone (insert path value) e
insert_back (set other more) path value old h = (h.1, h.0)
insert_back (rename other name) path value old h = ((h.0.1, h.0.0), h.1)
insert_back (remove other) path value old h = (h.1, h.0)
insert_back (insert other more) path value old h = absurd cc
insert_back (append_table keys) path value old h = h
insert_back (append_element keys) path value old h = h

-- So it can come last.
last_there : (profile : Profile) (limit : ℕ) (s : Document) (e : Edit) (c : TextChange) (ms rest : List MadeEdit)
    → is_of_old e ≡ true → 0 < c.size → IsOneOf (made e c) ms rest
    → All (λ f. LeavesAlone e f → LeavesAlone f e) (seen_of s rest) → AreAtOnce profile limit s ms
    → ComesLast profile limit s e c ms rest
last_there profile limit s e c ms rest old some one back =
    last_of profile limit s e c (λ makes. some) (follows_none e old)
    (λ edits changes lines. old_placed s edits changes lines e c old) ms rest one
    (subst (λ (g : Edit). All (λ f. LeavesAlone g f → LeavesAlone f g) (seen_of s rest)) (sym (old_seen s e old)) back)
  where
    follows_none : (f : Edit) → is_of_old f ≡ true → (lines : List Added) → Follows profile limit s lines f c → ⊥
    follows_none (set path value) is lines never = never
    follows_none (rename path name) is lines never = never
    follows_none (remove path) is lines never = never
    follows_none (insert path value) is lines never = absurd cc
    follows_none (append_table keys) is lines never = never
    follows_none (append_element keys) is lines never = never

-- ---- changes that follow one another

each_past : (from at : ℕ) (cs : List TextChange) → at < from → Follow from cs → All (λ x. at < x.at) cs
each_past from at [] less h = All-nil (λ x. at < x.at)
each_past from at (x ∷ cs) less (low, more) =
    All-cons (λ y. at < y.at) x cs (omega (arith, less, low))
    (each_past (x.at + x.size) at cs (omega (arith, less, low)) more)

-- those before a change have ended where it begins, and those after it begin later
around : (from : ℕ) (first later : List TextChange) (c : TextChange) → 0 < c.size → Follow from (first ++ c ∷ later)
    → All (λ x. x.at + x.size ≤ c.at) first × All (λ x. c.at < x.at) later
around from [] later c some (low, more) = (
  All-nil (λ x. x.at + x.size ≤ c.at),
  each_past (c.at + c.size) c.at later (omega (arith, some)) more,
)
around from (x ∷ first) later c some (low, more) =
    let (ends, begins) = around (x.at + x.size) first later c some more in (
      All-cons (λ y. y.at + y.size ≤ c.at) x first (follow_low (x.at + x.size) first later c more) ends,
      begins,
    )

-- ---- a line right before what an edit takes

module _ (profile : Profile) (limit : ℕ) (s : Document) (ms rest : List MadeEdit) (e : Edit) (c : TextChange)
    (path : List Part) (value : Value) (d : TextChange) (fine : IsEditable profile limit s)
    (h : AreAtOnce profile limit s ms) (one : IsOneOf (made e c) ms rest) (old : is_of_old e ≡ true)
    (back : All (λ g. LeavesAlone e g → LeavesAlone g e) (seen_of s rest))
    (adds : AddsAs OfDotted profile limit s path value d)
    (alone : All (λ f. LeavesAlone f (seen s (insert path value))) (seen_of s ms))
    (placed : KeepsPlace s (seen_of s ms) (changes_of ms) (lines_of s ms) (insert path value) d)
    (first later : List TextChange) (all : changes_of ms ≡ first ++ c ∷ later) (at : c.at ≡ d.at)
    (some : 0 < c.size) where
  abbrev f : Edit
  f = insert path value

  abbrev changes : List TextChange
  changes = changes_of rest

  k : ComesLast profile limit s e c ms rest
  k = last_there profile limit s e c ms rest old some one back h

  abbrev now : Document
  now = document_after s rest

  before : IsRun profile limit s (seen_of s rest) changes (lines_of s rest) now
  before = run_before profile limit s e c ms rest fine k

  r : IsTextAfter profile limit s changes now
  r = of_run profile limit s (seen_of s rest) changes (lines_of s rest) now before

  -- ---- the changes

  follow : Follow 0 (first ++ c ∷ later)
  follow = subst (Follow 0) all (run_is_known profile limit s ms fine h).follow

  sides : All (λ x. x.at + x.size ≤ c.at) first × All (λ x. c.at < x.at) later
  sides = around 0 first later c some follow

  none : d.size ≡ 0
  none = adds.adds

  beside_others : All (λ x. IsBeside x d) changes
  beside_others =
      subst (All (λ x. IsBeside x d))
      (sym (others_in_place first later changes c some follow (sym all ∙ k.changes)))
      (All-append (λ x. IsBeside x d) first later
      (All-weaker (λ x. x.at + x.size ≤ c.at) (λ x. IsBeside x d) (λ x ends. inl (omega (arith, ends, at))) first
      sides.0)
      (All-weaker (λ x. c.at < x.at) (λ x. IsBeside x d)
      (λ x less. inr (omega (arith, less, at), omega (arith, less, at, none))) later sides.1))

  left : All (λ x. IsBeside x c) changes
  left = k.last.1.1.0

  -- ---- the others

  each_seen : (P : Edit → Type 0) → All P (seen_of s ms) → All P (seen_of s rest)
  each_seen P every = (each_of_others s P (made e c) ms rest one every).1

  each_line : (P : Added → Type 0) → All P (lines_of s ms) → All P (lines_of s rest)
  each_line P every =
      subst (λ (l : List MadeEdit). All P (lines_of s l)) (sym one.others)
      (other_lines profile limit s e c P one.later one.earlier
      (subst (λ (l : List MadeEdit). All P (lines_of s l)) one.all every))

  left_alone : LeavesAlone (seen s e) (seen s f) × All (λ g. LeavesAlone g (seen s f)) (seen_of s rest)
  left_alone = each_of_others s (λ g. LeavesAlone g (seen s f)) (made e c) ms rest one alone

  placed_there : KeepsPlace s (seen_of s rest) changes (lines_of s rest) f d
  placed_there =
      placed_before s (seen_of s ms) (seen_of s rest) each_seen (lines_of s ms) (lines_of s rest) each_line changes c f
      d (subst (λ (l : List TextChange). KeepsPlace s (seen_of s ms) l (lines_of s ms) f d) k.changes placed)

  leave : LeaveNewline s (with_change changes c)
  leave = subst (LeaveNewline s) k.changes (by placed.1)
    where
      by : All (λ g. IsTrue (is_insert g)) (seen_of s ms)
          ⊎ (LeaveNewline s (changes_of ms)
          × (All (LetsCome (text s) (changes_of ms) d.at) (changes_of ms)
          × IsBeforeHeaders (text s) (seen_of s ms) d.at))
          → LeaveNewline s (changes_of ms)
      by (inl every) =
          let its : is_insert (seen s e) ≡ true =
          (each_of_others s (λ g. IsTrue (is_insert g)) (made e c) ms rest one every).0 in
          let never : false ≡ true = sym (no_insert e old) ∙ ap is_insert (sym (old_seen s e old)) ∙ its in
          absurd cc
      by (inr (are, lets)) = are

  -- ---- after the others

  there : MakesChange profile limit now f (moved_past changes d) × IsSeenStill s now f
  there = before.later f d (OfDotted, adds) left_alone.1 beside_others placed_there

  goes : MakesChange profile limit now e (moved_past changes c)
  goes = (moves_past profile limit s e c ms rest fine k).0

  next : IsTextAfter profile limit s (with_change changes c) (edited_document now e)
  next =
      text_with_change profile limit s changes now e c r (change_placed profile limit s e c fine k.makes) left goes

  kind : kind_of s path ≡ OfDotted
  kind = kind_is OfDotted profile limit s path value d adds

  same_place : (moved_past changes c).at ≡ (moved_past changes d).at
  same_place = ap (moved_by_all changes) at

  after : AddsAs OfDotted profile limit (edited_document now e) path value (moved_past changes d)
      × IsSeenStill now (edited_document now e) f
  after =
      still_adds_before profile limit now e (moved_past changes c) path value (moved_past changes d) before.editable old
      goes
      (as_of_kind OfDotted profile limit now path value (moved_past changes d) (there.1.1 ∙ kind) there.0)
      (subst₂ LeavesAlone (old_seen s e old ∙ sym (old_seen now e old)) (sym (same_seen s now f there.1)) left_alone.0)
      same_place
      (same_newline profile limit s (seen_of s rest) changes (lines_of s rest) now r e c next leave)

  now_is : document_after s ms ≡ edited_document now e
  now_is = same_document profile limit s e c ms rest fine k h

  makes_after : AddsAs OfDotted profile limit (document_after s ms) path value (moved_past changes d)
  makes_after =
      subst (λ (t : Document). AddsAs OfDotted profile limit t path value (moved_past changes d)) (sym now_is) after.0

  -- ---- before that edit

  abbrev both : List MadeEdit
  both = made e c ∷ made f d ∷ rest

  first_at_once : AreAtOnce profile limit s (made f d ∷ rest)
  first_at_once = (
    inl ((OfDotted, adds), placed_there),
    (left_alone.1, (beside_others, others profile limit s e c ms rest fine k)),
  )

  -- the line comes beside what is taken
  beside_it : IsBeside d c
  beside_it = inl (omega (arith, none, at))

  alone_too : All (λ g. LeavesAlone g (seen s e)) (seen_of s (made f d ∷ rest))
  alone_too =
      All-cons (λ g. LeavesAlone g (seen s e)) (seen s f) (seen_of s rest)
      (subst (λ (g : Edit). LeavesAlone (seen s f) g) (sym (old_seen s e old))
      (insert_back e (first_new s path) value old
      (subst (λ (g : Edit). LeavesAlone g (seen s f)) (old_seen s e old) left_alone.0)))
      k.last.1.0

  beside_too : All (λ x. IsBeside x c) (with_change changes d)
  beside_too = all_with (λ x. IsBeside x c) changes d left beside_it

  still_at_once : AreAtOnce profile limit s both
  still_at_once = (
    inl (
      k.makes,
      old_placed s (seen_of s (made f d ∷ rest)) (changes_of (made f d ∷ rest))
          (lines_of s (made f d ∷ rest)) e c old,
    ),
    (alone_too, (beside_too, first_at_once)),
  )

  same_changes : changes_of both ≡ first ++ d ∷ c ∷ later
  same_changes =
      put_before_all (made e c ∷ []) rest (made f d)
      (All-cons (λ b. b.change.at ≡ d.at) (made e c) [] at (All-nil (λ (b : MadeEdit). b.change.at ≡ d.at))) first
      (c ∷ []) later (sym k.changes ∙ all ∙ sym (append_assoc first (c ∷ []) later))
      (All-weaker (λ x. x.at + x.size ≤ c.at) (λ x. x.at ≤ d.at) (λ x ends. omega (arith, ends, at)) first sides.0)
      (All-cons (λ x. x.at ≡ d.at) c [] at (All-nil (λ (x : TextChange). x.at ≡ d.at)))
      (All-weaker (λ x. c.at < x.at) (λ x. d.at < x.at) (λ x less. omega (arith, less, at)) later sides.1) refl
      ∙ append_assoc first (d ∷ c ∷ []) later

  -- ---- the texts

  line_there : IsRun profile limit s (seen_of s (made f d ∷ rest)) (changes_of (made f d ∷ rest))
      (lines_of s (made f d ∷ rest)) (edited_document now f)
  line_there = run_is_known profile limit s (made f d ∷ rest) fine first_at_once

  goes_behind : MakesChange profile limit (edited_document now f) e
      (moved (moved_past changes d) (moved_past changes c))
  goes_behind =
      subst (MakesChange profile limit (edited_document now f) e)
      (moved_with changes d c before.follow beside_others left beside_it)
      (line_there.later e c k.makes alone_too beside_too
      (old_placed s (seen_of s (made f d ∷ rest)) (changes_of (made f d ∷ rest)) (lines_of s (made f d ∷ rest)) e c
      old)).0

  puts : PutsChange profile limit (edited_document now e) f (moved_past changes d)
  puts = made_puts profile limit (edited_document now e) f (moved_past changes d) next.editable (OfDotted, after.0)

  same_text : text (edited_document (edited_document now e) f) ≡ text (document_after s both)
  same_text =
      let c' : TextChange = moved_past changes c in
      let d' : TextChange = moved_past changes d in
      text_made profile limit (edited_document now e) f d' next.editable (OfDotted, after.0)
      ∙ ap (λ (t : List ℕ). put t (place_of_change d')) (text_made profile limit now e c' before.editable goes)
      ∙ put_in_front (text now) d' c' same_place none
      (omega (arith, within_text profile limit now f d' before.editable there.0))
      ∙ sym (ap (λ (t : List ℕ). put t (place_of_change (moved d' c')))
      (text_made profile limit now f d' before.editable there.0))
      ∙ sym (text_made profile limit (edited_document now f) e (moved d' c') line_there.editable goes_behind)

  same_made : edited_document (document_after s ms) f ≡ document_after s both
  same_made =
      ap (λ (t : Document). edited_document t f) now_is
      ∙ one_document profile (edited_document (edited_document now e) f) (document_after s both)
      puts.lawful.reads.valid (run_is_known profile limit s both fine still_at_once).editable.valid same_text

  goes_on : (new : List TextChange) → new ≡ first ++ d ∷ c ∷ later
      → IsRunBefore profile limit s ms path value OfDotted d new
  goes_on new is = record {
    last = made e c;
    others = rest;
    one = one;
    no_line = λ lines. adds_none s e c lines old;
    no_header = ap is_header (old_seen s e old) ∙ appends_none e old;
    there = moved_past changes d;
    new_is = refl;
    makes = makes_after;
    seen_still = subst (λ (t : Document). IsSeenStill s t f) (sym now_is)
        (seen_on s now (edited_document now e) f there.1 after.1);
    allowed = change_allowed profile limit (document_after s ms) f (moved_past changes d) (OfDotted, makes_after);
    same = same_made;
    still = still_at_once;
    changes_are = same_changes ∙ sym is;
  }

-- ---- the law

-- A rename at that byte is of a key of the line's body. So what leaves the insert alone renames nothing above its path.
rename_back : (profile : Profile) (limit : ℕ) (s : Document) (old : List Part) (name : List ℕ) (c : TextChange)
    (path : List Part) (value : Value) (d : TextChange) → IsEditable profile limit s
    → RenamesKey profile limit s old name c → AddsAs OfDotted profile limit s path value d → c.at ≡ d.at
    → (other : List Part) → AreApart other (first_new s path) → strip old other ≡ None → strip other old ≡ None
rename_back profile limit s old name c path value d fine makes adds at other apart below =
    elim (none_or_some (strip other old)) [
      | inl none ↦ none
      | inr (rest, is) ↦ absurd (above rest (ap (strip other) (sym own) ∙ is))
    ]
  where
    n : ℕ
    n = suc adds.number

    body : List Part
    body = (reading_at n (lines s)).body

    its : IsDottedLine s (holder path (mentions_in s)) adds.number
    its = dotted.before profile limit s path value d adds

    first : (k : List ℕ) × (old ≡ body ++ key k ∷ [])
    first =
        renames_first profile limit s old name c n fine makes adds.closed
        (at ∙ dotted.at_is profile limit s path value d adds)

    own : old ≡ body ++ key first.0 ∷ []
    own = first.1

    keys : List (List ℕ)
    keys = dotted.keys profile limit s path value d adds

    whole : path ≡ body ++ map key keys
    whole =
        dotted.whole profile limit s path value d adds ∙ ap (λ (q : List Part). q ++ map key keys) (sym its.at_body)

    clear : strip other path ≡ None
    clear = new_clear s path adds.text adds.more adds.new other apart

    above : (rest : List Part) → strip other (body ++ key first.0 ∷ []) ≡ Some rest → ⊥
    above rest is = by (prefix_cases other body (key first.0 ∷ []) rest is)
      where
        none_left : (ps more : List Part) → ps ++ more ≡ [] → ps ≡ []
        none_left [] more h = refl
        none_left (p ∷ ps) more h = absurd cc

        by : Cases other body (key first.0 ∷ []) → ⊥
        by (within_first (more, reaches)) =
            let under : body ≡ other ++ more = strip-sound other body more reaches in
            let some : strip other path ≡ Some (more ++ map key keys) =
            ap (strip other)
            (whole ∙ ap (λ (q : List Part). q ++ map key keys) under ∙ append_assoc other more (map key keys))
            ∙ strip-append other (more ++ map key keys) in
            let never : None ≡ Some (more ++ map key keys) = sym clear ∙ some in
            cc
        by (beyond p ps is (more, reaches)) =
            let one : key first.0 ∷ [] ≡ p ∷ (ps ++ more) = strip-sound (p ∷ ps) (key first.0 ∷ []) more reaches in
            let part : key first.0 ≡ p = cc in
            let rest : ps ++ more ≡ [] = cc in
            let same : other ≡ old =
            is ∙ ap₂ (λ (q : Part) (qs : List Part). body ++ q ∷ qs) (sym part) (none_left ps more rest) ∙ sym own in
            let self : strip old other ≡ Some [] = ap (strip old) same ∙ strip_self old in
            let never : None ≡ Some [] = sym below ∙ self in
            cc

-- What an edit of what is there leaves alone leaves it alone, if it leaves the insert alone.
left_back : (profile : Profile) (limit : ℕ) (s : Document) (added_lines : List Added) (e : Edit) (c : TextChange)
    (path : List Part) (value : Value) (d : TextChange) → IsEditable profile limit s → is_of_old e ≡ true
    → MakesChange profile limit s e c ⊎ Follows profile limit s added_lines e c
    → AddsAs OfDotted profile limit s path value d → c.at ≡ d.at → (g : Edit)
    → LeavesAlone g (seen s (insert path value)) → LeavesAlone e g → LeavesAlone g e
left_back profile limit s added_lines (remove old) c path value d fine is its adds at =
    λ g apart h. remove_back old g h
left_back profile limit s added_lines (set old more) c path value d fine is its adds at =
    λ g apart h. set_back old more g h
left_back profile limit s added_lines (rename old name) c path value d fine is (inr never) adds at = absurd never
left_back profile limit s added_lines (rename old name) c path value d fine is (inl makes) adds at = by
  where
    by : (g : Edit) → LeavesAlone g (seen s (insert path value)) → LeavesAlone (rename old name) g
        → LeavesAlone g (rename old name)
    by (insert other more) apart h = ((h.0.1, h.0.0), h.1)
    by (remove other) apart h = ((h.0.1, h.0.0), h.1)
    by (set other more) apart h = ((h.0.1, h.0.0), h.1)
    by (rename other more) apart h = record {
      below = rename_back profile limit s old name c path value d fine makes adds at other apart.0 h.below;
      new = λ same. h.new (sym same);
    }
    by (append_table keys) apart h = h
    by (append_element keys) apart h = h
left_back profile limit s added_lines (insert old more) c path value d fine is its adds at = absurd cc
left_back profile limit s added_lines (append_table keys) c path value d fine is its adds at = absurd cc
left_back profile limit s added_lines (append_element keys) c path value d fine is its adds at = absurd cc

pub run_goes_on_before : RunGoesOnBefore
run_goes_on_before profile limit s ms path value d new fine h adds alone placed put =
    let has : HasMade ms put.next = has_made s ms put.before put.after put.next put.was in
    let m : MadeEdit = has.m in
    let earlier : List MadeEdit = has.one.earlier in
    let some : 0 < m.change.size = subst (λ (x : TextChange). 0 < x.size) (sym has.is) put.some in
    let at : m.change.at ≡ d.at = ap (λ (x : TextChange). x.at) has.is ∙ put.at in
    let its : MakesChange profile limit s m.edit m.change
    ⊎ Follows profile limit s (lines_of s earlier) m.edit m.change =
    its_kind profile limit s (seen_of s earlier) (changes_of earlier) (lines_of s earlier) m.edit m.change
    (makes_own profile limit s m has.one.later earlier (subst (AreAtOnce profile limit s) has.one.all h)) in
    let old : is_of_old m.edit ≡ true = is_old profile limit s (lines_of s earlier) m.edit m.change some its in
    let left : All (λ g. LeavesAlone g (seen s (insert path value))) (seen_of s has.rest) =
    (each_of_others s (λ g. LeavesAlone g (seen s (insert path value))) m ms has.rest has.one alone).1 in
    goes_on profile limit s ms has.rest m.edit m.change path value d fine h has.one old
    (All-weaker (λ g. LeavesAlone g (seen s (insert path value))) (λ g. LeavesAlone m.edit g → LeavesAlone g m.edit)
    (left_back profile limit s (lines_of s earlier) m.edit m.change path value d fine old its adds at)
    (seen_of s has.rest) left)
    adds alone placed put.before put.after
    (put.was ∙ ap (λ (x : TextChange). put.before ++ x ∷ put.after) (sym has.is)) at some new
    (put.is ∙ ap (λ (x : TextChange). put.before ++ d ∷ x ∷ put.after) (sym has.is))
