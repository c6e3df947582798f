-- A line that comes in the place of one that an edit of the list takes.
--
-- The edit takes bytes and writes none, so it is a remove (`is_remove`), and could come last (RunLists). After the
-- others it and the insert each make their change, and the insert makes its own after the remove, too: at another place
-- than the bytes that go, or right behind them, where the line before those says something (`in_place`). The other way
-- round a remove needs no place that is kept (`still_at_once`). Both texts are the same, and a text is that of one
-- document.
--
-- Theorem: `run_goes_on_in_place`.
use Rattle.std.proofs.Common.{◌≡◌, ◌≢◌, ◌<◌, ◌+◌, ◌≤◌, ℕ, List, [], ◌∷◌, ◌++◌, All, refl, sym, ap, subst, subst₂}
use Rattle.std.proofs.Common.{◌∙◌, ap₂, arith, inl, inr, Bool, true, false}
use Rattle.std.specs.Prelude.{◌==◌, ◌⊎◌, nat_lt}
use Rattle.std.proofs.lemmas.Bool.{and_left, and_right, cases_lt, eq-eqb, eqb-true, ne_eqb}
use Rattle.std.proofs.lemmas.List.Elements.{All-cons, All-head, All-nil, All-tail, All-weaker}
use Rattle.keep_types.specs.declared.leaf.Profile.{Profile}
use Rattle.keep_syntax.specs.Tree.{Document, Value, text}
use Rattle.keep_syntax.proofs.Shared.{one_document}
use Rattle.keep_path.specs.Path.{Part}
use Rattle.keep_edit_spec.specs.Edits.{Edit, append_element, append_table, edited_document, insert, remove, rename, set}
use Rattle.keep_edit_spec.specs.InsertKinds.{Added, AddsAs, IsAfterLine, added_as, is_last_in_body, kind_of}
use Rattle.keep_edit_spec.specs.Laws.{IsEditable}
use Rattle.keep_edit_spec.specs.LinesInPlace.{CanComeInPlace, FreesPlace, IsRunBefore, RunGoesOnInPlace}
use Rattle.keep_edit_spec.specs.RunLists.{AreAtOnce, Follows, IsOneOf, MadeEdit, MakesInPlace, changes_of}
use Rattle.keep_edit_spec.specs.RunLists.{document_after, lines_of, made, seen_of}
use Rattle.keep_edit_spec.specs.Runs.{LeaveNewline, ComesInPlace, IsRun, IsSeenStill, KeepsPlace, LeavesAlone}
use Rattle.keep_edit_spec.specs.Runs.{LetsCome, LetsTable, MakesChange, StaysPlaced, seen, takes_up_to}
use Rattle.keep_edit_spec.specs.SaidLines.{SaysBefore}
use Rattle.keep_edit_spec.specs.TextChanges.{Follow, IsBeside, TextChange, moved_past, text_with, with_change}
use Rattle.keep_edit_spec.specs.declared.line_kind.LineKind.TheVariants.{LastInBody}
use Rattle.keep_edit_spec.proofs.Lists.ChangeOrder.{others_in_place, with_both}
use Rattle.keep_edit_spec.proofs.Lists.GivenBytes.{rename_gives, set_gives}
use Rattle.keep_edit_spec.proofs.Lists.LineKinds.{as_of_kind, kind_is}
use Rattle.keep_edit_spec.proofs.Lists.MadeChanges.{added, change_allowed, removes_there}
use Rattle.keep_edit_spec.proofs.Lists.OtherOrder.{by_changes}
use Rattle.keep_edit_spec.proofs.Lists.PlacesBefore.{headers_over}
use Rattle.keep_edit_spec.proofs.Lists.PlacesKept.{IsPlacedChange, change_placed, same_newline}
use Rattle.keep_edit_spec.proofs.Lists.RunLaws.{later_placed, same_seen, seen_on, text_with_change}
use Rattle.keep_edit_spec.proofs.Lists.RunLists.{ComesLast, each_of_others, last_of, moves_past, others, run_before}
use Rattle.keep_edit_spec.proofs.Lists.RunLists.{all_hold, other_lines, run_is_known, same_document}
use Rattle.keep_edit_spec.proofs.Lists.TextChanges.{all_with, rest_of_all}
use Rattle.keep_edit_spec.proofs.Lists.TextsAfter.{IsTextAfter, of_run}
use Rattle.keep_edit_spec.specs.FirstNewline.{LeavesNewline}

-- ---- the remove

-- what a remove leaves alone leaves it alone
pub remove_back : (gone : List Part) (f : Edit) → LeavesAlone (remove gone) f → LeavesAlone f (remove gone)
remove_back gone (insert path value) h = (h.1, h.0)
remove_back gone (remove path) h = tt
remove_back gone (set path value) h = (h.1, h.0)
remove_back gone (rename path name) h = ((h.0.1, h.0.0), h.1)
remove_back gone (append_table keys) h = h
remove_back gone (append_element keys) h = h

-- and an insert leaves alone what leaves it alone
alone_back : (path : List Part) (value : Value) (gone : List Part) → LeavesAlone (remove gone) (insert path value)
    → LeavesAlone (insert path value) (remove gone)
alone_back path value gone h = (h.1, h.0)

-- An edit that takes bytes and writes none is one.
is_remove : (profile : Profile) (limit : ℕ) (s : Document) (lines : List Added) (e : Edit) (c : TextChange)
    → IsEditable profile limit s → 0 < c.size → c.new ≡ []
    → MakesChange profile limit s e c ⊎ Follows profile limit s lines e c → (gone : List Part) × (e ≡ remove gone)
is_remove profile limit s lines (remove gone) c fine some none makes = (gone, refl)
is_remove profile limit s lines (set path value) c fine some none (inl makes) =
    absurd (set_gives profile limit s path value c fine makes none)
is_remove profile limit s lines (set path value) c fine some none (inr never) = absurd never
is_remove profile limit s lines (rename path name) c fine some none (inl makes) =
    absurd (rename_gives profile limit s path name c fine makes none)
is_remove profile limit s lines (rename path name) c fine some none (inr never) = absurd never
is_remove profile limit s lines (insert path value) c fine some none (inl makes) =
    let adds : c.size ≡ 0 = (added profile limit s path value c makes).adds in
    absurd (omega (arith, some, adds))
is_remove profile limit s lines (insert path value) c fine some none (inr follows) =
    absurd (omega (arith, some, follows.alone.adds))
is_remove profile limit s lines (append_table keys) c fine some none (inl makes) =
    absurd (omega (arith, some, makes.adds))
is_remove profile limit s lines (append_table keys) c fine some none (inr never) = absurd never
is_remove profile limit s lines (append_element keys) c fine some none (inl makes) =
    absurd (omega (arith, some, makes.adds))
is_remove profile limit s lines (append_element keys) c fine some none (inr never) = absurd never

-- what one of the edits makes after those before it
pub makes_own : (profile : Profile) (limit : ℕ) (s : Document) (m : MadeEdit) (later earlier : List MadeEdit)
    → AreAtOnce profile limit s (later ++ m ∷ earlier)
    → MakesInPlace profile limit s (seen_of s earlier) (changes_of earlier) (lines_of s earlier) m.edit m.change
makes_own profile limit s m [] earlier h = h.0
makes_own profile limit s m (x ∷ later) earlier h = makes_own profile limit s m later earlier h.1.1.1

-- ---- the edit with a change

-- each of the edits is one of them
each_one : (ms : List MadeEdit) → All (λ m. (rest : List MadeEdit) × IsOneOf m ms rest) ms
each_one [] = All-nil (λ m. (rest : List MadeEdit) × IsOneOf m [] rest)
each_one (m ∷ ms) =
    All-cons (λ x. (rest : List MadeEdit) × IsOneOf x (m ∷ ms) rest) m ms
    (ms, record { later = []; earlier = ms; all = refl; others = refl })
    (All-weaker (λ x. (rest : List MadeEdit) × IsOneOf x ms rest)
    (λ x. (rest : List MadeEdit) × IsOneOf x (m ∷ ms) rest)
    (λ x (rest, one). (
      m ∷ rest,
      record {
        later = m ∷ one.later;
        earlier = one.earlier;
        all = ap (λ (l : List MadeEdit). m ∷ l) one.all;
        others = ap (λ (l : List MadeEdit). m ∷ l) one.others;
      },
    )) ms (each_one ms))

-- one of the edits makes the change
pub record HasMade (ms : List MadeEdit) (c : TextChange) : Type 0 where
  pub m : MadeEdit
  pub rest : List MadeEdit
  pub one : IsOneOf m ms rest
  pub is : m.change ≡ c

in_middle : (P : TextChange → Type 0) (before after : List TextChange) (c : TextChange) → All P (before ++ c ∷ after)
    → P c
in_middle P [] after c all = All-head P c after all
in_middle P (x ∷ before) after c all = in_middle P before after c (All-tail P x (before ++ c ∷ after) all)

pub has_made : (s : Document) (ms : List MadeEdit) (before after : List TextChange) (c : TextChange)
    → changes_of ms ≡ before ++ c ∷ after → HasMade ms c
has_made s ms before after c is =
    let Found : TextChange → Type 0 = λ (x : TextChange). x ≡ c → HasMade ms c in
    in_middle Found before after c
    (subst (All Found) is
    (by_changes s Found ms
    (All-weaker (λ m. (rest : List MadeEdit) × IsOneOf m ms rest) (λ m. Found m.change)
    (λ m (rest, one) same. record { m = m; rest = rest; one = one; is = same }) ms (each_one ms)))) refl

pub its_kind : (profile : Profile) (limit : ℕ) (s : Document) (edits : List Edit) (changes : List TextChange)
    (lines : List Added) (e : Edit) (c : TextChange) → MakesInPlace profile limit s edits changes lines e c
    → MakesChange profile limit s e c ⊎ Follows profile limit s lines e c
its_kind profile limit s edits changes lines e c (inl h) = inl h.0
its_kind profile limit s edits changes lines e c (inr h) = inr h.0

-- ---- a line in the place of what it takes

-- a change beside one that takes the bytes up to there takes none of them
takes_none : (at : ℕ) (c x : TextChange) → 0 < c.size → c.at + c.size ≡ at → IsBeside x c → takes_up_to at x ≡ false
takes_none at c x some next beside = by (cases_lt 0 x.size)
  where
    apart : 0 < x.size → IsBeside x c → x.at + x.size ≢ at
    apart bytes (inl ends) same = omega (arith, ends, some, next, same)
    apart bytes (inr (less, far)) same = omega (arith, far, bytes, next, same)

    by : (0 < x.size) ⊎ (x.size ≤ 0) → takes_up_to at x ≡ false
    by (inl bytes) =
        and_right (nat_lt 0 x.size) (x.at + x.size == at) (ne_eqb (x.at + x.size) at (apart bytes beside))
    by (inr none) =
        let zero_size : x.size ≡ 0 = omega (arith, none) in
        and_left (nat_lt 0 x.size) (x.at + x.size == at) (ap (λ (n : ℕ). nat_lt 0 n) zero_size)

module _ (profile : Profile) (limit : ℕ) (s : Document) (ms rest : List MadeEdit) (gone : List Part) (c : TextChange)
    (path : List Part) (value : Value) (d : TextChange) (fine : IsEditable profile limit s)
    (h : AreAtOnce profile limit s ms) (one : IsOneOf (made (remove gone) c) ms rest)
    (adds : AddsAs LastInBody profile limit s path value d)
    (alone : All (λ f. LeavesAlone f (seen s (insert path value))) (seen_of s ms))
    (beside : All (λ x. IsBeside x d) (changes_of ms)) (can : CanComeInPlace s ms path d)
    (first later : List TextChange) (all : changes_of ms ≡ first ++ c ∷ later)
    (frees_it : FreesPlace (text s) (first ++ later) c d.at) where
  abbrev e : Edit
  e = remove gone

  abbrev f : Edit
  f = insert path value

  abbrev changes : List TextChange
  changes = changes_of rest

  k : ComesLast profile limit s e c ms rest
  k =
      last_of profile limit s e c (λ makes. (removes_there profile limit s gone c fine makes).1)
      (λ lines never. never) (λ edits cs lines. tt) ms rest one
      (all_hold (λ g. LeavesAlone e g → LeavesAlone g e) (remove_back gone) (seen_of s rest)) h

  abbrev now : Document
  now = document_after s rest

  before : IsRun profile limit s (seen_of s rest) changes (lines_of s rest) now
  before = run_before profile limit s e c ms rest fine k

  r : IsTextAfter profile limit s changes now
  r = of_run profile limit s (seen_of s rest) changes (lines_of s rest) now before

  -- the others are those beside which it was taken
  changes_are : changes ≡ first ++ later
  changes_are =
      let run : IsRun profile limit s (seen_of s ms) (changes_of ms) (lines_of s ms) (document_after s ms) =
      run_is_known profile limit s ms fine h in
      others_in_place first later changes c frees_it.some (subst (Follow 0) all run.follow) (sym all ∙ k.changes)

  frees : FreesPlace (text s) changes c d.at
  frees = subst (λ (cs : List TextChange). FreesPlace (text s) cs c d.at) (sym changes_are) frees_it

  each_seen : (P : Edit → Type 0) → All P (seen_of s ms) → All P (seen_of s rest)
  each_seen P every = (each_of_others s P (made e c) ms rest one every).1

  each_line : (P : Added → Type 0) → All P (lines_of s ms) → All P (lines_of s rest)
  each_line P every =
      subst (λ (l : List MadeEdit). All P (lines_of s l)) (sym one.others)
      (other_lines profile limit s e c P one.later one.earlier
      (subst (λ (l : List MadeEdit). All P (lines_of s l)) one.all every))

  each_change : (P : TextChange → Type 0) → All P (changes_of ms) → All P changes
  each_change P every = rest_of_all P changes c (subst (All P) k.changes every)

  leave_others : LeaveNewline s changes
  leave_others = each_change (LeavesNewline s) can.newline

  left_alone : LeavesAlone e (seen s f) × All (λ g. LeavesAlone g (seen s f)) (seen_of s rest)
  left_alone = each_of_others s (λ g. LeavesAlone g (seen s f)) (made e c) ms rest one alone

  beside_all : All (λ x. IsBeside x d) (with_change changes c)
  beside_all = subst (All (λ x. IsBeside x d)) k.changes beside

  beside_others : All (λ x. IsBeside x d) changes
  beside_others = rest_of_all (λ x. IsBeside x d) changes c beside_all

  left : All (λ x. IsBeside x c) changes
  left = k.last.1.1.0

  last_there : kind_of s path ≡ LastInBody
  last_there = kind_is LastInBody profile limit s path value d adds

  placed : KeepsPlace s (seen_of s rest) changes (lines_of s rest) f d
  placed = (
    record {
      after = each_line (λ l. IsAfterLine l (added_as s path d)) can.after;
      stays = λ differs. absurd (differs last_there);
      passed = each_seen (LetsTable (added_as s path d)) can.passed;
    },
    inr (
      leave_others,
      (
        All-weaker (λ x. IsBeside x c) (LetsCome (text s) changes d.at)
            (λ x its. inl (takes_none d.at c x frees.some frees.next its)) changes left,
        headers_over s (seen_of s ms) (seen_of s rest) each_seen (lines_of s ms) (lines_of s rest) each_line
            (changes_of ms) changes each_change d.at can.before,
      ),
    ),
  )

  own : MakesChange profile limit s f d
  own = (LastInBody, adds)

  there : MakesChange profile limit now f (moved_past changes d) × IsSeenStill s now f
  there = before.later f d own left_alone.1 beside_others placed

  goes : MakesChange profile limit now e (moved_past changes c)
  goes = (moves_past profile limit s e c ms rest fine k).0

  placed_there : IsPlacedChange s e c
  placed_there = change_placed profile limit s e c fine k.makes

  next : IsTextAfter profile limit s (with_change changes c) (edited_document now e)
  next = text_with_change profile limit s changes now e c r placed_there left goes

  -- the insert comes elsewhere than what is taken ends, or in its place
  in_place : StaysPlaced now e (moved_past changes c) f (moved_past changes d)
  in_place = (
    same_newline profile limit s (seen_of s rest) changes (lines_of s rest) now r e c next
        (subst (LeaveNewline s) k.changes can.newline),
    λ other. by ((moved_past changes c).at + c.size == (moved_past changes d).at) refl,
  )
    where
      by : (b : Bool) → ((moved_past changes c).at + c.size == (moved_past changes d).at) ≡ b
          → ((moved_past changes c).at + c.size ≢ (moved_past changes d).at)
          ⊎ ComesInPlace now (moved_past changes c) f (moved_past changes d)
      by false is = inl (λ same.
          (let both : false ≡ true =
          sym is ∙ eq-eqb ((moved_past changes c).at + c.size) (moved_past changes d).at same in absurd cc))
      by true is = inr (record {
        line = ap is_last_in_body (there.1.1 ∙ last_there);
        some = frees.some;
        takes = frees.takes;
        next = eqb-true ((moved_past changes c).at + c.size) (moved_past changes d).at is;
        said = subst (λ (t : List ℕ). SaysBefore t (moved_past changes c).at) (sym before.text) frees.said;
      })

  after : MakesChange profile limit (edited_document now e) f (moved_past (with_change changes c) d)
      × IsSeenStill now (edited_document now e) f
  after =
      later_placed profile limit s changes now e c r placed_there left goes f d refl there.0
      (same_seen s now f there.1) left_alone.0 beside_all (λ new. in_place, tt)

  now_is : document_after s ms ≡ edited_document now e
  now_is = same_document profile limit s e c ms rest fine k h

  makes_after : AddsAs LastInBody profile limit (document_after s ms) path value (moved_past (changes_of ms) d)
  makes_after =
      subst₂ (λ (t : Document) (cs : List TextChange). AddsAs LastInBody profile limit t path value (moved_past cs d))
      (sym now_is) (sym k.changes)
      (as_of_kind LastInBody profile limit (edited_document now e) path value (moved_past (with_change changes c) d)
      (after.1.1 ∙ there.1.1 ∙ last_there) after.0)

  -- before the remove

  abbrev both : List MadeEdit
  both = made e c ∷ made f d ∷ rest

  still_at_once : AreAtOnce profile limit s both
  still_at_once = (
    inl (k.makes, tt),
    (
      All-cons (λ g. LeavesAlone g e) (seen s f) (seen_of s rest) (left_alone.0.1, left_alone.0.0) k.last.1.0,
      (
        all_with (λ x. IsBeside x c) changes d left
            (inr (omega (arith, frees.some, frees.next), omega (arith, frees.next))),
        (inl (own, placed), (left_alone.1, (beside_others, others profile limit s e c ms rest fine k))),
      ),
    ),
  )

  same_changes : changes_of both ≡ with_change (changes_of ms) d
  same_changes =
      with_both changes d c (λ same. omega (arith, same, frees.some, frees.next))
      ∙ ap (λ (l : List TextChange). with_change l d) (sym k.changes)

  same_made : edited_document (document_after s ms) f ≡ document_after s both
  same_made =
      let run : IsRun profile limit s (seen_of s ms) (changes_of ms) (lines_of s ms) (document_after s ms) =
      run_is_known profile limit s ms fine h in
      let first : IsTextAfter profile limit s (with_change (changes_of ms) d)
      (edited_document (document_after s ms) f) =
      text_with_change profile limit s (changes_of ms) (document_after s ms) f d
      (of_run profile limit s (seen_of s ms) (changes_of ms) (lines_of s ms) (document_after s ms) run)
      (change_placed profile limit s f d fine own) beside (LastInBody, makes_after) in
      let last : IsRun profile limit s (seen_of s both) (changes_of both) (lines_of s both) (document_after s both) =
      run_is_known profile limit s both fine still_at_once in
      one_document profile (edited_document (document_after s ms) f) (document_after s both) first.editable.valid
      last.editable.valid (first.text ∙ ap (text_with 0 (text s)) (sym same_changes) ∙ sym last.text)

  goes_on : IsRunBefore profile limit s ms path value LastInBody d (with_change (changes_of ms) d)
  goes_on = record {
    last = made e c;
    others = rest;
    one = one;
    no_line = λ lines. refl;
    no_header = refl;
    there = moved_past (changes_of ms) d;
    new_is = refl;
    makes = makes_after;
    seen_still = subst (λ (t : Document). IsSeenStill s t f) (sym now_is)
        (seen_on s now (edited_document now e) f there.1 after.1);
    allowed = change_allowed profile limit (document_after s ms) f (moved_past (changes_of ms) d)
        (LastInBody, makes_after);
    same = same_made;
    still = still_at_once;
    changes_are = same_changes;
  }

-- ---- the law

pub run_goes_on_in_place : RunGoesOnInPlace
run_goes_on_in_place profile limit s ms path value before c after d fine h adds alone beside can all frees =
    let has : HasMade ms c = has_made s ms before after c all in
    let earlier : List MadeEdit = has.one.earlier in
    let own : MakesInPlace profile limit s (seen_of s earlier) (changes_of earlier) (lines_of s earlier) has.m.edit
    has.m.change =
    makes_own profile limit s has.m has.one.later earlier (subst (AreAtOnce profile limit s) has.one.all h) in
    let (gone, is) =
    is_remove profile limit s (lines_of s earlier) has.m.edit has.m.change fine
    (subst (λ (x : TextChange). 0 < x.size) (sym has.is) frees.some)
    (ap (λ (x : TextChange). x.new) has.is ∙ frees.takes)
    (its_kind profile limit s (seen_of s earlier) (changes_of earlier) (lines_of s earlier) has.m.edit has.m.change
    own) in
    let same : has.m ≡ made (remove gone) c =
    ap₂ (λ (e : Edit) (x : TextChange). made e x) is has.is in
    goes_on profile limit s ms has.rest gone c path value d fine h
    (subst (λ (x : MadeEdit). IsOneOf x ms has.rest) same has.one) adds alone beside can before after all frees
