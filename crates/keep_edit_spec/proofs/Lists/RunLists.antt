-- Edits that are made at once are a run; and if one of them sets a value, so are the others with a later set of it.
--
-- Each edit makes the run longer (BehindHeaders). One could come last if each later edit leaves it alone and makes its
-- change at another place (`can_come_last`), and if it has its place after the others (`comes_last`): the changes are
-- the same list (ChangeOrder), so the text is the same, and a text is that of one document (`same_document`). An edit
-- that follows a header at another place follows that of another edit (`other_line`, `follows_other`). So could one
-- come last that takes bytes, and that is left alone by what it leaves alone (`last_of`). A set is such an edit. After
-- the others the earlier set and the later one each make their change (`moves_past`), so the law of a value that is set
-- again says what they make one after the other.
--
-- Theorems: `run_is_known`, `run_goes_on_again`, `each_of_others`; of one of the edits that could come last:
-- `can_come_last`, `comes_last`, `last_of`, `other_lines`, `other_line`, `others`, `run_before`, `same_document`,
-- `moves_past`, `beside_rest`.
use Rattle.std.proofs.Common.{◌≡◌, ◌≢◌, ◌<◌, ℕ, List, [], ◌∷◌, ◌++◌, length, All, refl, sym, ap, subst, subst₂, ◌∙◌}
use Rattle.std.proofs.Common.{arith, inl, inr, suc}
use Rattle.std.specs.Prelude.{Any}
use Rattle.std.proofs.lemmas.List.Elements.{All-cons, All-head, All-nil, All-tail, All-weaker}
use Rattle.keep_types.specs.declared.leaf.Profile.{Profile}
use Rattle.keep_syntax.specs.Tree.{Document, Value, text}
use Rattle.keep_syntax.proofs.Shared.{one_document}
use Rattle.keep_path.specs.Path.{Part}
use Rattle.keep_meaning.specs.Meaning.{mentions_in}
use Rattle.keep_edit_spec.specs.InsertKinds.{Added, IsHeaderAt, added_as, table_of}
use Rattle.keep_edit_spec.specs.Look.{holder}
use Rattle.keep_edit_spec.specs.Edits.{Edit, append_element, append_table, edited_document, insert, remove, rename, set}
use Rattle.keep_edit_spec.specs.Laws.{IsEditable}
use Rattle.keep_edit_spec.specs.RunLists.{AreAtOnce, Follows, IsOneOf, IsSetIn, KeepsBehind, MadeEdit, MakesInPlace}
use Rattle.keep_edit_spec.specs.RunLists.{RunGoesOnAgain}
use Rattle.keep_edit_spec.specs.RunLists.{RunIsKnown, changes_of, document_after, lines_of, made, seen_of}
use Rattle.keep_edit_spec.specs.Runs.{IsRun, IsSeenStill, KeepsPlace, LeavesAlone, MakesChange, seen, with_line}
use Rattle.keep_edit_spec.specs.SetValues.{IsSetAgain, SetsValue}
use Rattle.keep_edit_spec.specs.TextChanges.{IsBeside, TextChange, change_at, moved_by_all, moved_past, text_with}
use Rattle.keep_edit_spec.specs.TextChanges.{with_change}
use Rattle.keep_edit_spec.proofs.Lists.ChangeOrder.{beside_back, with_both}
use Rattle.keep_edit_spec.proofs.Lists.PlacesBefore.{behind_before, placed_before}
use Rattle.keep_edit_spec.proofs.Lists.RunLaws.{lines_before}
use Rattle.keep_edit_spec.proofs.Lists.BehindHeaders.{any_rest, run_behind}
use Rattle.keep_edit_spec.proofs.Lists.SetTwice.{sets_again}
use Rattle.keep_edit_spec.proofs.Lists.TextChanges.{all_with, one_of_all, rest_of_all}

-- ---- edits that are made at once

pub run_is_known : RunIsKnown
run_is_known profile limit s ms fine h = (run_behind profile limit s ms fine h).run

-- ---- one of them

-- a set of the value, among them
record HasSet (path : List Part) (ms : List MadeEdit) : Type 0 where
  value : Value
  c : TextChange
  rest : List MadeEdit
  one : IsOneOf (made (set path value) c) ms rest

has_set : (path : List Part) (ms : List MadeEdit) → IsSetIn path ms → HasSet path ms
has_set path [] h = absurd h
has_set path (m ∷ ms) (inl (value, same)) = record {
  value = value;
  c = m.change;
  rest = ms;
  one = record { later = []; earlier = ms; all = ap (λ (e : Edit). made e m.change ∷ ms) same; others = refl };
}
has_set path (m ∷ ms) (inr h) =
    let there : HasSet path ms = has_set path ms h in
    record {
      value = there.value;
      c = there.c;
      rest = m ∷ there.rest;
      one = record {
        later = m ∷ there.one.later;
        earlier = there.one.earlier;
        all = ap (λ (l : List MadeEdit). m ∷ l) there.one.all;
        others = ap (λ (l : List MadeEdit). m ∷ l) there.one.others;
      };
    }

pub each_apart : (s : Document) (P : Edit → Type 0) (m : MadeEdit) (later earlier : List MadeEdit)
    → All P (seen_of s (later ++ m ∷ earlier)) → P (seen s m.edit) × All P (seen_of s (later ++ earlier))
each_apart s P m [] earlier h =
    (All-head P (seen s m.edit) (seen_of s earlier) h, All-tail P (seen s m.edit) (seen_of s earlier) h)
each_apart s P m (x ∷ later) earlier h =
    let (one, rest) =
    each_apart s P m later earlier (All-tail P (seen s x.edit) (seen_of s (later ++ m ∷ earlier)) h) in (
      one,
      All-cons P (seen s x.edit) (seen_of s (later ++ earlier))
          (All-head P (seen s x.edit) (seen_of s (later ++ m ∷ earlier)) h) rest,
    )

-- What holds of all holds of that one, and of the others.
pub each_of_others : (s : Document) (P : Edit → Type 0) (m : MadeEdit) (ms rest : List MadeEdit) → IsOneOf m ms rest
    → All P (seen_of s ms) → P (seen s m.edit) × All P (seen_of s rest)
each_of_others s P m ms rest one h =
    let (this, more) =
    each_apart s P m one.later one.earlier (subst (λ (l : List MadeEdit). All P (seen_of s l)) one.all h) in
    (this, subst (λ (l : List MadeEdit). All P (seen_of s l)) (sym one.others) more)

-- The lines are those of the others, if that one adds none.
pub lines_apart : (s : Document) (m : MadeEdit) (later earlier : List MadeEdit)
    → ((lines : List Added) → with_line s m.edit m.change lines ≡ lines)
    → lines_of s (later ++ m ∷ earlier) ≡ lines_of s (later ++ earlier)
lines_apart s m [] earlier none = none (lines_of s earlier)
lines_apart s m (x ∷ later) earlier none =
    ap (with_line s x.edit x.change) (lines_apart s m later earlier none)

-- with the line of an edit, of fewer lines
pub line_more : (P : Added → Type 0) (s : Document) (e : Edit) (c : TextChange) (lines less : List Added)
    → (All P lines → All P less) → All P (with_line s e c lines) → All P (with_line s e c less)
line_more P s (insert path value) c lines less are h =
    All-cons P (added_as s path c) less (All-head P (added_as s path c) lines h)
    (are (All-tail P (added_as s path c) lines h))
line_more P s (set path value) c lines less are h = are h
line_more P s (rename path name) c lines less are h = are h
line_more P s (remove path) c lines less are h = are h
line_more P s (append_table keys) c lines less are h = are h
line_more P s (append_element keys) c lines less are h = are h

pub any_first : (P : Added → Type 0) (l : Added) (ls : List Added) → P l → Any P (l ∷ ls)
any_first P l ls h = (0, l, omega arith, refl, h)

pub any_later : (P : Added → Type 0) (l : Added) (ls : List Added) → Any P ls → Any P (l ∷ ls)
any_later P l ls (n, m, few, same, h) = (suc n, m, omega (arith, few), same, h)

pub all_hold : (P : Edit → Type 0) → ((e : Edit) → P e) → (es : List Edit) → All P es
all_hold P holds [] = All-nil P
all_hold P holds (e ∷ es) = All-cons P e es (holds e) (all_hold P holds es)

-- ---- what leaves a set alone

-- It is left alone by the set.
pub set_back : (path : List Part) (value : Value) (f : Edit) → LeavesAlone (set path value) f
    → LeavesAlone f (set path value)
set_back path value (insert other more) h = (h.1, h.0)
set_back path value (remove other) h = (h.1, h.0)
set_back path value (set other more) h = tt
set_back path value (rename other name) h = ((h.0.1, h.0.0), h.1)
set_back path value (append_table keys) h = h
set_back path value (append_element keys) h = h

-- And it leaves alone a set to any other value.
alone_again : (path : List Part) (value more : Value) (f : Edit) → LeavesAlone f (set path value)
    → LeavesAlone f (set path more)
alone_again path value more (insert other new) h = h
alone_again path value more (remove other) h = h
alone_again path value more (set other new) h = tt
alone_again path value more (rename other name) h = h
alone_again path value more (append_table keys) h = h
alone_again path value more (append_element keys) h = h

-- a change of the same bytes
beside_again : (x c d : TextChange) → c.at ≡ d.at → c.size ≡ d.size → IsBeside x c → IsBeside x d
beside_again x c d at size (inl ends) = inl (omega (arith, ends, at))
beside_again x c d at size (inr (less, ends)) = inr (omega (arith, less, at), omega (arith, ends, at, size))

-- ---- one of them as the last

module _ (profile : Profile) (limit : ℕ) (s : Document) (e : Edit) (c : TextChange) where
  abbrev one : MadeEdit
  one = made e c

  -- as others see it
  abbrev own : Edit
  own = seen s e

  -- that edit after the others
  pub record ComesLast (ms rest : List MadeEdit) : Type 0 where
    pub changes : changes_of ms ≡ with_change (changes_of rest) c
    pub makes : MakesChange profile limit s e c
    pub placed : KeepsPlace s (seen_of s rest) (changes_of rest) (lines_of s rest) e c
    pub last : AreAtOnce profile limit s (one ∷ rest)

  -- A later edit leaves it alone, and makes its change beside, at another place.
  abbrev pub LetsLast : MadeEdit → Type 0
  LetsLast m = LeavesAlone (seen s m.edit) own × (IsBeside m.change c × (c.at ≢ m.change.at))

  -- one that follows no header makes its change
  own_change : ((lines : List Added) → Follows profile limit s lines e c → ⊥) → (later earlier : List MadeEdit)
      → AreAtOnce profile limit s (later ++ one ∷ earlier) → MakesChange profile limit s e c
  own_change none [] earlier (inl (makes, placed), rest) = makes
  own_change none [] earlier (inr (follows, placed), rest) = absurd (none (lines_of s earlier) follows)
  own_change none (m ∷ later) earlier h = own_change none later earlier h.1.1.1

  one_of_changes : (P : TextChange → Type 0) (later earlier : List MadeEdit)
      → All P (changes_of (later ++ one ∷ earlier)) → P c
  one_of_changes P [] earlier h = one_of_all P (changes_of earlier) c h
  one_of_changes P (m ∷ later) earlier h =
      one_of_changes P later earlier (rest_of_all P (changes_of (later ++ one ∷ earlier)) m.change h)

  -- the lines of the others are among all
  pub other_lines : (P : Added → Type 0) (later earlier : List MadeEdit)
      → All P (lines_of s (later ++ one ∷ earlier)) → All P (lines_of s (later ++ earlier))
  other_lines P [] earlier = lines_before P s e c (lines_of s earlier)
  other_lines P (m ∷ later) earlier =
      line_more P s m.edit m.change (lines_of s (later ++ one ∷ earlier)) (lines_of s (later ++ earlier))
      (other_lines P later earlier)

  -- a line elsewhere than at its byte is one of the others
  pub other_line : (P : Added → Type 0) → ((l : Added) → P l → l.at ≢ c.at) → (later earlier : List MadeEdit)
      → Any P (lines_of s (later ++ one ∷ earlier)) → Any P (lines_of s (later ++ earlier))
  other_line P apart [] earlier =
      by e
    where
      by : (f : Edit) → Any P (with_line s f c (lines_of s earlier)) → Any P (lines_of s earlier)
      by (insert path value) h = elim (any_rest P (added_as s path c) (lines_of s earlier) h) [
        | inl here ↦ absurd (apart (added_as s path c) here refl)
        | inr there ↦ there
      ]
      by (set path value) h = h
      by (rename path name) h = h
      by (remove path) h = h
      by (append_table keys) h = h
      by (append_element keys) h = h
  other_line P apart (m ∷ later) earlier =
      by m.edit (other_line P apart later earlier)
    where
      all : List Added
      all = lines_of s (later ++ one ∷ earlier)

      less : List Added
      less = lines_of s (later ++ earlier)

      by : (f : Edit) → (Any P all → Any P less) → Any P (with_line s f m.change all)
          → Any P (with_line s f m.change less)
      by (insert path value) ih h = elim (any_rest P (added_as s path m.change) all h) [
        | inl here ↦ any_first P (added_as s path m.change) less here
        | inr there ↦ any_later P (added_as s path m.change) less (ih there)
      ]
      by (set path value) ih h = ih h
      by (rename path name) ih h = ih h
      by (remove path) ih h = ih h
      by (append_table keys) ih h = ih h
      by (append_element keys) ih h = ih h

  -- so an edit that follows the header of another does so without it
  pub follows_other : (later earlier : List MadeEdit) (f : Edit) (d : TextChange) → c.at ≢ d.at
      → Follows profile limit s (lines_of s (later ++ one ∷ earlier)) f d
      → Follows profile limit s (lines_of s (later ++ earlier)) f d
  follows_other later earlier (insert path value) d apart h = record {
    alone = h.alone;
    header = other_line (λ l. IsHeaderAt d.at l × (table_of l ≡ holder path (mentions_in s)))
        (λ l there same. apart (sym same ∙ there.0.0)) later earlier h.header;
  }
  follows_other later earlier (set path value) d apart h = h
  follows_other later earlier (rename path name) d apart h = h
  follows_other later earlier (remove path) d apart h = h
  follows_other later earlier (append_table keys) d apart h = h
  follows_other later earlier (append_element keys) d apart h = h

  -- what it needs to come last, but its place
  pub record CanComeLast (ms rest : List MadeEdit) : Type 0 where
    pub changes : changes_of ms ≡ with_change (changes_of rest) c
    makes : MakesChange profile limit s e c
    alone : All (λ f. LeavesAlone f own) (seen_of s rest)
    beside : All (λ x. IsBeside x c) (changes_of rest)
    others : AreAtOnce profile limit s rest

  pub can_come_last : MakesChange profile limit s e c → (later earlier : List MadeEdit) → All LetsLast later
      → AreAtOnce profile limit s (later ++ one ∷ earlier)
      → CanComeLast (later ++ one ∷ earlier) (later ++ earlier)
  can_come_last its_own [] earlier lets (makes, (alone, (beside, others))) =
      record { changes = refl; makes = its_own; alone = alone; beside = beside; others = others }
  can_come_last its_own (m ∷ later) earlier lets (makes, (alone, (beside, more))) =
      let before : CanComeLast ms rest = can_come_last its_own later earlier (All-tail LetsLast m later lets) more in
      let (left, (apart, place)) = All-head LetsLast m later lets in
      record {
        changes = ap (λ (l : List TextChange). with_change l m.change) before.changes
            ∙ with_both (changes_of rest) c m.change place;
        makes = before.makes;
        alone = All-cons (λ f. LeavesAlone f own) (seen s m.edit) (seen_of s rest) left before.alone;
        beside = all_with (λ x. IsBeside x c) (changes_of rest) m.change before.beside apart;
        others = (
          in_place before.changes place makes,
          (
            (each_apart s (λ f. LeavesAlone f (seen s m.edit)) one later earlier alone).1,
            (
              rest_of_all (λ x. IsBeside x m.change) (changes_of rest) c
                  (subst (All (λ x. IsBeside x m.change)) before.changes beside),
              before.others,
            ),
          ),
        );
      }
    where
      ms : List MadeEdit
      ms = later ++ one ∷ earlier

      rest : List MadeEdit
      rest = later ++ earlier

      in_place : changes_of ms ≡ with_change (changes_of rest) c → c.at ≢ m.change.at
          → MakesInPlace profile limit s (seen_of s ms) (changes_of ms) (lines_of s ms) m.edit m.change
          → MakesInPlace profile limit s (seen_of s rest) (changes_of rest) (lines_of s rest) m.edit m.change
      in_place same place (inl (its, placed)) = inl (
        its,
        placed_before s (seen_of s ms) (seen_of s rest) (λ P h. (each_apart s P one later earlier h).1)
            (lines_of s ms) (lines_of s rest) (λ P. other_lines P later earlier) (changes_of rest) c m.edit m.change
            (subst (λ (l : List TextChange). KeepsPlace s (seen_of s ms) l (lines_of s ms) m.edit m.change) same
            placed),
      )
      in_place same place (inr (follows, keeps)) = inr (
        follows_other later earlier m.edit m.change place follows,
        behind_before s (seen_of s ms) (seen_of s rest) (λ P h. (each_apart s P one later earlier h).1) (lines_of s ms)
            (lines_of s rest) (λ P. other_lines P later earlier) (changes_of rest) c m.change
            (subst (λ (l : List TextChange). KeepsBehind s (seen_of s ms) l m.change) same keeps),
      )

  pub comes_last : (ms rest : List MadeEdit) → CanComeLast ms rest
      → KeepsPlace s (seen_of s rest) (changes_of rest) (lines_of s rest) e c → ComesLast ms rest
  comes_last ms rest can placed =
      record {
        changes = can.changes;
        makes = can.makes;
        placed = placed;
        last = (inl (can.makes, placed), (can.alone, (can.beside, can.others)));
      }

  -- an edit that takes bytes, follows no header, and needs no place that is kept
  module _ (some : MakesChange profile limit s e c → 0 < c.size)
      (none : (lines : List Added) → Follows profile limit s lines e c → ⊥)
      (kept : (edits : List Edit) (changes : List TextChange) (lines : List Added)
      → KeepsPlace s edits changes lines e c) where
    -- what it leaves alone leaves it alone
    abbrev pub AreLeftBack : List MadeEdit → Type 0
    AreLeftBack rest = All (λ f. LeavesAlone own f → LeavesAlone f own) (seen_of s rest)

    each_lets : (later earlier : List MadeEdit) → AreLeftBack (later ++ earlier)
        → AreAtOnce profile limit s (later ++ one ∷ earlier) → All LetsLast later
    each_lets [] earlier alone_back h = All-nil LetsLast
    each_lets (m ∷ later) earlier alone_back (makes, (alone, (beside, others))) =
        let left : LeavesAlone own (seen s m.edit) =
        (each_apart s (λ f. LeavesAlone f (seen s m.edit)) one later earlier alone).0 in
        All-cons LetsLast m later (
          All-head (λ f. LeavesAlone own f → LeavesAlone f own) (seen s m.edit) (seen_of s (later ++ earlier))
              alone_back left,
          beside_back c m.change (some (own_change none later earlier others))
              (one_of_changes (λ x. IsBeside x m.change) later earlier beside),
        )
        (each_lets later earlier
        (All-tail (λ f. LeavesAlone own f → LeavesAlone f own) (seen s m.edit) (seen_of s (later ++ earlier))
        alone_back) others)

    pub last_of : (ms rest : List MadeEdit) → IsOneOf one ms rest → AreLeftBack rest → AreAtOnce profile limit s ms
        → ComesLast ms rest
    last_of ms rest is alone_back h =
        let there : AreAtOnce profile limit s (is.later ++ one ∷ is.earlier) =
        subst (AreAtOnce profile limit s) is.all h in
        comes_last ms rest
        (subst₂ (λ (a b : List MadeEdit). CanComeLast a b) (sym is.all) (sym is.others)
        (can_come_last (own_change none is.later is.earlier there) is.later is.earlier
        (each_lets is.later is.earlier (subst AreLeftBack is.others alone_back) there) there))
        (kept (seen_of s rest) (changes_of rest) (lines_of s rest))

  module _ (ms rest : List MadeEdit) (fine : IsEditable profile limit s) (k : ComesLast ms rest) where
    pub others : AreAtOnce profile limit s rest
    others = k.last.1.1.1

    pub run_before : IsRun profile limit s (seen_of s rest) (changes_of rest) (lines_of s rest) (document_after s rest)
    run_before = run_is_known profile limit s rest fine others

    pub same_document : AreAtOnce profile limit s ms
        → document_after s ms ≡ edited_document (document_after s rest) e
    same_document h =
        let run : IsRun profile limit s (seen_of s ms) (changes_of ms) (lines_of s ms) (document_after s ms) =
        run_is_known profile limit s ms fine h in
        let last : IsRun profile limit s (own ∷ seen_of s rest) (with_change (changes_of rest) c)
        (with_line s e c (lines_of s rest)) (edited_document (document_after s rest) e) =
        run_is_known profile limit s (one ∷ rest) fine k.last in
        one_document profile (document_after s ms) (edited_document (document_after s rest) e)
        run.editable.valid last.editable.valid
        (run.text ∙ ap (text_with 0 (text s)) k.changes ∙ sym last.text)

    -- where they make their changes still after the others
    pub moves_past : MakesChange profile limit (document_after s rest) e (moved_past (changes_of rest) c)
        × IsSeenStill s (document_after s rest) e
    moves_past = run_before.later e c k.makes k.last.1.0 k.last.1.1.0 k.placed

    -- a change of the same bytes
    pub beside_rest : (d : TextChange) → c.at ≡ d.at → c.size ≡ d.size → All (λ x. IsBeside x d) (changes_of rest)
    beside_rest d at size =
        All-weaker (λ x. IsBeside x c) (λ x. IsBeside x d) (λ x. beside_again x c d at size) (changes_of rest)
        k.last.1.1.0

-- ---- set again

module _ (profile : Profile) (limit : ℕ) (s : Document) (path : List Part) (value : Value) (c : TextChange) where
  abbrev e : Edit
  e = set path value

  some_bytes : MakesChange profile limit s e c → 0 < c.size
  some_bytes sets = sets.some

  any_place : (edits : List Edit) (changes : List TextChange) (lines : List Added)
      → KeepsPlace s edits changes lines e c
  any_place edits changes lines = tt

  abbrev SetLast : List MadeEdit → List MadeEdit → Type 0
  SetLast = ComesLast profile limit s e c

  set_last : (ms rest : List MadeEdit) → IsOneOf (made e c) ms rest → AreAtOnce profile limit s ms → SetLast ms rest
  set_last ms rest is =
      last_of profile limit s e c some_bytes (λ lines never. never) any_place ms rest is
      (all_hold (λ f. LeavesAlone e f → LeavesAlone f e) (set_back path value) (seen_of s rest))

  module _ (ms rest : List MadeEdit) (fine : IsEditable profile limit s) (k : SetLast ms rest) (more : Value)
      (d : TextChange) (makes : SetsValue profile limit s path more d) (at : c.at ≡ d.at) (size : c.size ≡ d.size)
    where
      before : IsRun profile limit s (seen_of s rest) (changes_of rest) (lines_of s rest) (document_after s rest)
      before = run_before profile limit s e c ms rest fine k

      beside_set : All (λ x. IsBeside x d) (changes_of rest)
      beside_set = beside_rest profile limit s e c ms rest fine k d at size

      alone_rest : All (λ f. LeavesAlone f (set path more)) (seen_of s rest)
      alone_rest =
          All-weaker (λ f. LeavesAlone f e) (λ f. LeavesAlone f (set path more)) (alone_again path value more)
          (seen_of s rest) k.last.1.0

      still_at_once : AreAtOnce profile limit s (made (set path more) d ∷ rest)
      still_at_once = (inl (makes, tt), (alone_rest, (beside_set, others profile limit s e c ms rest fine k)))

      set_again : IsSetAgain profile limit (document_after s rest) path value (moved_past (changes_of rest) c) more
          (moved_past (changes_of rest) d)
      set_again =
          sets_again profile limit (document_after s rest) path value (moved_past (changes_of rest) c) more
          (moved_past (changes_of rest) d) before.editable (moves_past profile limit s e c ms rest fine k).0
          (before.later (set path more) d makes alone_rest beside_set tt).0

pub run_goes_on_again : RunGoesOnAgain
run_goes_on_again profile limit s ms path more d fine h there makes =
    let has : HasSet path ms = has_set path ms there in
    let value : Value = has.value in
    let c : TextChange = has.c in
    let rest : List MadeEdit = has.rest in
    let k : SetLast profile limit s path value c ms rest = set_last profile limit s path value c ms rest has.one h in
    let first : IsSetAgain profile limit s path value c more d =
    sets_again profile limit s path value c more d fine k.makes makes in
    let at : c.at ≡ d.at = sym first.at in
    let size : c.size ≡ d.size = sym first.size in
    let now : document_after s ms ≡ edited_document (document_after s rest) (set path value) =
    same_document profile limit s (set path value) c ms rest fine k h in
    let again : IsSetAgain profile limit (document_after s rest) path value (moved_past (changes_of rest) c) more
    (moved_past (changes_of rest) d) =
    set_again profile limit s path value c ms rest fine k more d makes at size in
    let same : edited_document (document_after s ms) (set path more)
    ≡ edited_document (document_after s rest) (set path more) =
    ap (λ (t : Document). edited_document t (set path more)) now ∙ again.same in
    let still : AreAtOnce profile limit s (made (set path more) d ∷ rest) =
    still_at_once profile limit s path value c ms rest fine k more d makes at size in
    record {
      rest = rest;
      value = value;
      c = c;
      one = has.one;
      changes = k.changes;
      at = at;
      size = size;
      some = k.makes.some;
      follow = (before profile limit s path value c ms rest fine k more d makes at size).follow;
      beside = beside_set profile limit s path value c ms rest fine k more d makes at size;
      sets = subst₂
          (λ (t : Document) (n : ℕ). SetsValue profile limit t path more (change_at n (length c.new) d.new))
          (sym now) (ap (moved_by_all (changes_of rest)) at) again.sets;
      same = same;
      still = still;
      text = ap text same ∙ (run_is_known profile limit s (made (set path more) d ∷ rest) fine still).text;
    }
