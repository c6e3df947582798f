-- A new line or header after an edit of a run: it keeps its place.
--
-- Either all edits before it are of its kind, or all newlines are line feeds, before and after (`same_newline`), and
-- what the last edit takes or writes ends elsewhere than where it comes (`apart_now`, `not_there`), or is a line in
-- whose place it comes (`placed_now`, `line_comes`): then what is before that line is there still (`said_now`). A line
-- of a table which dotted keys make comes in the place of none (`line_placed`). Two lines that are in order are so
-- still, since two changes begin at one place only where they did (`order_now`). Of the run only its text is asked
-- (TextsAfter), and of the edit where it changes that (`IsPlacedChange`).
--
-- Theorems: `same_newline`; `still_placed`, and without the order `stays_placed`; `stays_behind`: of a line behind a
-- header that came; `change_placed`: an edit whose change is known changes the text so.
use Rattle.std.proofs.Common.{◌≡◌, ◌≢◌, ℕ, ◌+◌, ◌<◌, Bool, List, [], ◌∷◌, length, refl, sym, ap, subst, ◌∙◌, arith, All}
use Rattle.std.proofs.Common.{inl, inr, true, false, not, ◌&&◌, ◌||◌, ◌≤◌, suc, subst₂}
use Rattle.std.specs.Prelude.{IsTrue, ◌==◌, ◌⊎◌}
use Rattle.std.specs.List.{list_any}
use Rattle.std.proofs.lemmas.Bool.{eq-eqb, lt-ltb, or_parts, eqb-true}
use Rattle.std.proofs.lemmas.List.Elements.{All-head, All-tail, All-cons, All-nil}
use Rattle.keep_types.specs.declared.leaf.Profile.{Profile}
use Rattle.keep_syntax.specs.Tree.{Document, Value, element, header, text}
use Rattle.keep_path.specs.Path.{Part, without_last}
use Rattle.keep_edit_spec.specs.Changed.{Place}
use Rattle.keep_edit_spec.specs.Edits.{Edit, append_element, append_table, edited_document, insert, key_with, remove}
use Rattle.keep_edit_spec.specs.Edits.{rename, set}
use Rattle.keep_edit_spec.specs.Laws.{IsEditable}
use Rattle.keep_edit_spec.specs.Lines.{newline_of}
use Rattle.keep_edit_spec.specs.Look.{keys_in}
use Rattle.keep_edit_spec.specs.AddedLines.{first_new}
use Rattle.keep_edit_spec.specs.DottedLines.{IsAtOrBelow}
use Rattle.keep_edit_spec.specs.InsertKinds.{Added, IsAfterAs, IsAfterLine, added_as, is_last_in_body}
use Rattle.keep_edit_spec.specs.InsertKinds.{kind_of, table_of}
use Rattle.keep_edit_spec.specs.AppendedHeaders.{AppendsElement, AppendsTable}
use Rattle.keep_edit_spec.specs.Runs.{IsBeforeHeaders, LeaveNewlineBefore, IsStillPlaced, KeepsPlace}
use Rattle.keep_edit_spec.specs.Runs.{MakesChange, is_header, is_insert, is_new_after, takes_up_to, LeaveNewline}
use Rattle.keep_edit_spec.specs.Runs.{ComesInOrder, ComesInPlace, IsSeenStill, LeavesPlace, LetsCome, StaysPlaced, seen}
use Rattle.keep_edit_spec.specs.Runs.{IsNoSecond, IsNoSecondAfter, LetsTable, PassesBy, with_line}
use Rattle.keep_edit_spec.specs.RunLists.{KeepsBehind}
use Rattle.keep_edit_spec.specs.TextChanges.{Follow, IsBeside, TextChange, moved_past, with_change}
use Rattle.keep_edit_spec.specs.TextChanges.{change_at, moved_by_all}
use Rattle.keep_edit_spec.proofs.Append.AppendPlace.{append_place}
use Rattle.keep_edit_spec.proofs.Lists.NewlineStays.{newline_stays}
use Rattle.keep_edit_spec.proofs.Lists.TextChanges.{begins_apart, begins_at_one, end_apart, end_apart_let, moved_next}
use Rattle.keep_edit_spec.proofs.Lists.TextChanges.{none_with, one_of_all, rest_of_all}
use Rattle.keep_edit_spec.proofs.Lists.TextsAfter.{IsTextAfter}
use Rattle.keep_edit_spec.specs.SaidLines.{SaysBefore}
use Rattle.keep_edit_spec.specs.declared.line_kind.LineKind.{LineKind}
use Rattle.keep_edit_spec.specs.declared.line_kind.LineKind.TheVariants.{LastInBody, OfDotted, WithHeader}
use Rattle.keep_edit_spec.proofs.Lists.MadeChanges.{within_text, removes_there}
use Rattle.keep_edit_spec.specs.FirstNewline.{LeavesNewline}

-- a change that takes bytes, but not the one before a place, ends elsewhere
ends_elsewhere : (at : ℕ) (c : TextChange) → 0 < c.size → takes_up_to at c ≡ false → c.at + c.size ≢ at
ends_elsewhere at c some clear same =
    let takes : takes_up_to at c ≡ true = rw (lt-ltb 0 c.size some) (eq-eqb (c.at + c.size) at same) in
    absurd cc

module _ (s : Document) (changes : List TextChange) (c : TextChange) (left : All (λ x. IsBeside x c) changes)
    (follow : Follow 0 changes) where
  -- where an edit takes bytes, but not the one before what is new
  taken_apart : 0 < c.size → (d : TextChange) → All (λ x. IsBeside x d) changes → IsBeside c d
      → LeaveNewlineBefore s (with_change changes c) d.at
      → (moved_past changes c).at + c.size ≢ (moved_past changes d).at
  taken_apart some d right beside (plain, clear) =
      let others = none_with (takes_up_to d.at) changes c clear in
      end_apart changes c d follow left right others.1 beside (ends_elsewhere d.at c some others.0)

  -- where it comes at the end, and what is new does not
  header_apart : c.size ≡ 0 → c.at ≡ length (text s) → (d : TextChange) → All (λ x. IsBeside x d) changes
      → d.at ≢ length (text s) → (moved_past changes c).at + c.size ≢ (moved_past changes d).at
  header_apart none end d right before same =
      begins_apart changes c d follow left right (λ e. before (sym e ∙ end)) (omega (arith, same, none))

-- ---- a line in the place of one that is taken

-- the line before one that is taken, and the line feed before it
abbrev range : {bytes : List ℕ} {at : ℕ} → SaysBefore bytes at → TextChange
range b = change_at b.from (suc (length b.line)) []

module _ (profile : Profile) (limit : ℕ) (s : Document) (changes : List TextChange) (now : Document)
    (r : IsTextAfter profile limit s changes now) (c : TextChange) (some : 0 < c.size)
    (within : c.at + c.size ≤ length (text s)) (left : All (λ x. IsBeside x c) changes) (d : TextChange)
    (right : All (λ x. IsBeside x d) changes) (beside : IsBeside c d)
    (lets : All (LetsCome (text s) (with_change changes c) d.at) (with_change changes c)) where
  abbrev all : List TextChange
  all = with_change changes c

  not_there : takes_up_to d.at c ≡ false → (moved_past changes c).at + c.size ≢ (moved_past changes d).at
  not_there clear =
      end_apart_let (text s) changes c d r.follow left right (rest_of_all (LetsCome (text s) all d.at) changes c lets)
      beside (ends_elsewhere d.at c some clear)

  -- the line before it is there still, and right before it
  said_now : LeavesPlace (text s) all c → SaysBefore (text now) (moved_past changes c).at
  said_now h =
      let line : TextChange = range h.said in
      let stays : All (λ x. IsBeside x line) changes = rest_of_all (λ x. IsBeside x line) changes c h.stays in
      let alone : All (λ x. x.at ≡ c.at → 0 < x.size) changes =
      rest_of_all (λ x. x.at ≡ c.at → 0 < x.size) changes c h.alone in
      record {
        from = moved_by_all changes line.at;
        line = h.said.line;
        ends = moved_next changes line c.at r.follow h.said.ends stays (none_here changes left alone);
        is = r.kept line stays (omega (arith, h.said.ends, within)) ∙ h.said.is;
        said = h.said.said;
      }
    where
      other : (x : TextChange) → IsBeside x c → (x.at ≡ c.at → 0 < x.size) → x.at ≢ c.at
      other x (inl ends) alone same = let bytes = alone same in omega (arith, ends, same, bytes)
      other x (inr (less, far)) alone same = omega (arith, less, same)

      none_here : (cs : List TextChange) → All (λ x. IsBeside x c) cs → All (λ x. x.at ≡ c.at → 0 < x.size) cs
          → All (λ x. x.at ≢ c.at) cs
      none_here [] h k = All-nil (λ x. x.at ≢ c.at)
      none_here (x ∷ cs) h k =
          All-cons (λ y. y.at ≢ c.at) x cs
          (other x (All-head (λ y. IsBeside y c) x cs h) (All-head (λ y. y.at ≡ c.at → 0 < y.size) x cs k))
          (none_here cs (All-tail (λ y. IsBeside y c) x cs h) (All-tail (λ y. y.at ≡ c.at → 0 < y.size) x cs k))

  line_comes : (path : List Part) (value : Value) → kind_of now path ≡ LastInBody
      → ((moved_past changes c).at + c.size ≢ (moved_past changes d).at)
      ⊎ ComesInPlace now (moved_past changes c) (insert path value) (moved_past changes d)
  line_comes path value ends = by (one_of_all (LetsCome (text s) all d.at) changes c lets)
    where
      by : LetsCome (text s) all d.at c → ((moved_past changes c).at + c.size ≢ (moved_past changes d).at)
          ⊎ ComesInPlace now (moved_past changes c) (insert path value) (moved_past changes d)
      by (inl clear) = inl (not_there clear)
      by (inr h) = there ((moved_past changes c).at + c.size == (moved_past changes d).at) refl
        where
          there : (b : Bool) → ((moved_past changes c).at + c.size == (moved_past changes d).at) ≡ b
              → ((moved_past changes c).at + c.size ≢ (moved_past changes d).at)
              ⊎ ComesInPlace now (moved_past changes c) (insert path value) (moved_past changes d)
          there false e = inl (λ same.
              (let both : false ≡ true =
              sym e ∙ eq-eqb ((moved_past changes c).at + c.size) (moved_past changes d).at same in absurd cc))
          there true e = inr (record {
            line = ap is_last_in_body ends;
            some = some;
            takes = h.takes;
            next = eqb-true ((moved_past changes c).at + c.size) (moved_past changes d).at e;
            said = said_now h;
          })

-- ---- what the last edit takes or writes

-- a header comes at the end
table_at_end : (profile : Profile) (limit : ℕ) (s : Document) (keys : List (List ℕ)) (c : TextChange)
    → IsEditable profile limit s → AppendsTable profile limit s keys c → c.at ≡ length (text s)
table_at_end profile limit s keys c fine h =
    ap (λ (p : Place). p.start) (sym h.is)
    ∙ ap (λ (p : Place). p.start) (append_place profile s fine.valid (header [] (key_with keys) []))

element_at_end : (profile : Profile) (limit : ℕ) (s : Document) (keys : List (List ℕ)) (c : TextChange)
    → IsEditable profile limit s → AppendsElement profile limit s keys c → c.at ≡ length (text s)
element_at_end profile limit s keys c fine h =
    ap (λ (p : Place). p.start) (sym h.is)
    ∙ ap (λ (p : Place). p.start) (append_place profile s fine.valid (element [] (key_with keys) []))

none_other : (test : Edit → Bool) (e : Edit) (edits : List Edit) → test e ≡ false
    → All (λ x. IsTrue (test x)) (e ∷ edits) → ⊥
none_other test e edits other all =
    let one : test e ≡ true = All-head (λ x. IsTrue (test x)) e edits all in cc

-- as others see it, an edit is of the same kind
insert_seen : (s : Document) (e : Edit) → is_insert (seen s e) ≡ is_insert e
insert_seen s (set path value) = refl
insert_seen s (insert path value) = refl
insert_seen s (rename path name) = refl
insert_seen s (remove path) = refl
insert_seen s (append_table keys) = refl
insert_seen s (append_element keys) = refl

header_seen : (s : Document) (e : Edit) → is_header (seen s e) ≡ is_header e
header_seen s (set path value) = refl
header_seen s (insert path value) = refl
header_seen s (rename path name) = refl
header_seen s (remove path) = refl
header_seen s (append_table keys) = refl
header_seen s (append_element keys) = refl

-- of the edits before a new line or header, one at least writes none
insert_other : (e : Edit) (path : List Part) (value : Value) → IsTrue (is_new_after e (insert path value))
    → is_insert e ≡ false
insert_other e path value new = by (is_insert e) new
  where
    by : (b : Bool) → ((true && not b) || (false && not (is_header e))) ≡ true → b ≡ false
    by true h = absurd cc
    by false h = refl

header_other : (e f : Edit) → is_insert f ≡ false → is_header f ≡ true → IsTrue (is_new_after e f)
    → is_header e ≡ false
header_other e f line head new = by (is_header e) (is_insert f) (is_header f) line head new
  where
    by : (b i h : Bool) → i ≡ false → h ≡ true → ((i && not (is_insert e)) || (h && not b)) ≡ true → b ≡ false
    by b true h line head new = absurd cc
    by b false false line head new = absurd cc
    by true false true line head new = absurd cc
    by false false true line head new = refl

-- Where an edit changes the text: within it; and one that is no insert takes bytes, or writes a header at the end.
pub record IsPlacedChange (s : Document) (e : Edit) (c : TextChange) : Type 0 where
  pub within : c.at + c.size ≤ length (text s)
  pub takes : is_insert e ≡ false
      → (0 < c.size) ⊎ ((is_header e ≡ true) × ((c.size ≡ 0) × (c.at ≡ length (text s))))

takes_or_ends : (profile : Profile) (limit : ℕ) (s : Document) (e : Edit) (c : TextChange) → IsEditable profile limit s
    → MakesChange profile limit s e c → is_insert e ≡ false
    → (0 < c.size) ⊎ ((is_header e ≡ true) × ((c.size ≡ 0) × (c.at ≡ length (text s))))
takes_or_ends profile limit s (insert path value) c fine h other = absurd cc
takes_or_ends profile limit s (remove path) c fine h other = inl (removes_there profile limit s path c fine h).1
takes_or_ends profile limit s (set path value) c fine h other = inl h.some
takes_or_ends profile limit s (rename path name) c fine h other = inl h.some
takes_or_ends profile limit s (append_table keys) c fine h other =
    inr (refl, (h.adds, table_at_end profile limit s keys c fine h))
takes_or_ends profile limit s (append_element keys) c fine h other =
    inr (refl, (h.adds, element_at_end profile limit s keys c fine h))

pub change_placed : (profile : Profile) (limit : ℕ) (s : Document) (e : Edit) (c : TextChange)
    → IsEditable profile limit s → MakesChange profile limit s e c → IsPlacedChange s e c
change_placed profile limit s e c fine h = record {
  within = within_text profile limit s e c fine h;
  takes = takes_or_ends profile limit s e c fine h;
}

not_after : (bytes : List ℕ) (e : Edit) (edits : List Edit) (at : ℕ) → IsBeforeHeaders bytes (e ∷ edits) at
    → is_header e ≡ true → at ≢ length bytes
not_after bytes e edits at (inl none) one same =
    let no_one = (or_parts (is_header e) (list_any is_header edits) none).0 in absurd cc
not_after bytes e edits at (inr before) one same = before same

-- ---- lines at one place

-- two lines that are in order are so still
order_now : (s : Document) (changes : List TextChange) (now : Document) (path other : List Part) (c d : TextChange)
    → Follow 0 changes → All (λ x. IsBeside x c) changes → All (λ x. IsBeside x d) changes
    → first_new now path ≡ first_new s path → kind_of now path ≡ kind_of s path
    → first_new now other ≡ first_new s other → kind_of now other ≡ kind_of s other
    → IsAfterLine (added_as s path c) (added_as s other d)
    → IsAfterLine (added_as now path (moved_past changes c)) (added_as now other (moved_past changes d))
order_now s changes now path other c d follow left right first kind first' kind' order =
    subst (λ (a : LineKind). IsAfterAs a (added_as now path there) (added_as now other there')) (sym kind')
    (by (kind_of s other) order)
  where
    there : TextChange
    there = moved_past changes c

    there' : TextChange
    there' = moved_past changes d

    one : there.at ≡ there'.at → c.at ≡ d.at
    one same = begins_at_one changes c d follow left right same

    by : (a : LineKind) → IsAfterAs a (added_as s path c) (added_as s other d)
        → IsAfterAs a (added_as now path there) (added_as now other there')
    by LastInBody h = λ same is. h (one same) (sym kind ∙ is)
    by OfDotted h = λ same.
        let was = h (one same) in
        (kind ∙ was.0, subst₂ IsAtOrBelow (sym (ap without_last first)) (sym (ap without_last first')) was.1)
    by WithHeader h = λ is.
        let was = h (sym kind ∙ is) in
        (λ same. was.0 (one same), λ same. was.1 (sym (ap without_last first) ∙ same ∙ ap without_last first'))

-- what holds of the table of a line with a header does so still
table_now : (P : List Part → Type 0) (s now : Document) (path : List Part) (value : Value) (c d : TextChange)
    → IsSeenStill s now (insert path value)
    → (kind_of s path ≡ WithHeader → P (table_of (added_as s path c)))
    → kind_of now path ≡ WithHeader → P (table_of (added_as now path d))
table_now P s now path value c d (first, kind) holds is =
    subst P (sym (ap without_last first)) (holds (sym kind ∙ is))

-- ---- after an edit of a run

module _ (profile : Profile) (limit : ℕ) (s : Document) (edits : List Edit) (changes : List TextChange)
    (lines : List Added) (now : Document) (r : IsTextAfter profile limit s changes now) (e : Edit)
    (c : TextChange) where
  -- where the changes leave it
  pub same_newline : IsTextAfter profile limit s (with_change changes c) (edited_document now e)
      → LeaveNewline s (with_change changes c) → newline_of (edited_document now e) ≡ newline_of now
  same_newline next leave =
      newline_stays profile limit s (edited_document now e) r.first next.editable (with_change changes c) next.text
      leave
      ∙ sym (newline_stays profile limit s now r.first r.editable changes r.text
      (rest_of_all (LeavesNewline s) changes c leave))

  -- what it takes or writes ends elsewhere than where a header comes
  apart_now : IsPlacedChange s e c → All (λ x. IsBeside x c) changes → (d : TextChange)
      → All (λ x. IsBeside x d) changes → IsBeside c d → LeaveNewlineBefore s (with_change changes c) d.at
      → is_header e ≡ false → is_insert e ≡ false → (moved_past changes c).at + c.size ≢ (moved_past changes d).at
  apart_now placed left d right beside plain no_header other =
      elim (placed.takes other) [
        | inl some ↦ taken_apart s changes c left r.follow some d right beside plain
        | inr (head, there) ↦ (let both : true ≡ false = sym head ∙ no_header in absurd cc)
      ]

  -- a header after an edit of another kind
  header_placed : (f : Edit) → is_insert f ≡ false → is_header f ≡ true → IsPlacedChange s e c
      → All (λ x. IsBeside x c) changes → (d : TextChange) → All (λ x. IsBeside x d) changes → IsBeside c d
      → IsTextAfter profile limit s (with_change changes c) (edited_document now e)
      → All (λ x. IsTrue (is_header x)) (seen s e ∷ edits) ⊎ LeaveNewlineBefore s (with_change changes c) d.at
      → IsTrue (is_new_after e f) → StaysPlaced now e (moved_past changes c) f (moved_past changes d)
  header_placed f line head placed left d right beside next k new =
      let no_header : is_header e ≡ false = header_other e f line head new in
      elim k [
        | inl all ↦ absurd (none_other is_header (seen s e) edits (header_seen s e ∙ no_header) all)
        | inr plain ↦ (
          same_newline next plain.0,
          λ other. inl (apart_now placed left d right beside plain no_header other),
        )
      ]

  -- and elsewhere than where a line comes, or this comes in the place of what it takes
  placed_now : IsPlacedChange s e c → All (λ x. IsBeside x c) changes → (path : List Part) (value : Value)
      (d : TextChange) → All (λ x. IsBeside x d) changes → IsBeside c d
      → All (LetsCome (text s) (with_change changes c) d.at) (with_change changes c)
      → (is_header e ≡ true → d.at ≢ length (text s)) → is_insert e ≡ false → kind_of now path ≡ LastInBody
      → ((moved_past changes c).at + c.size ≢ (moved_past changes d).at)
      ⊎ ComesInPlace now (moved_past changes c) (insert path value) (moved_past changes d)
  placed_now placed left path value d right beside lets before other ends =
      elim (placed.takes other) [
        | inl some ↦
            line_comes profile limit s changes now r c some placed.within left d right beside lets path value ends
        | inr (head, (zero_size, end)) ↦ inl
            (header_apart s changes c left r.follow zero_size end d right (before head))
      ]

  -- and elsewhere than where a line comes, if none takes the byte before that
  ends_away : IsPlacedChange s e c → All (λ x. IsBeside x c) changes → (d : TextChange)
      → All (λ x. IsBeside x d) changes → IsBeside c d
      → list_any (takes_up_to d.at) (with_change changes c) ≡ false
      → IsBeforeHeaders (text s) (seen s e ∷ edits) d.at → is_insert e ≡ false
      → (moved_past changes c).at + c.size ≢ (moved_past changes d).at
  ends_away placed left d right beside none before other =
      let clear = none_with (takes_up_to d.at) changes c none in
      elim (placed.takes other) [
        | inl some ↦ end_apart changes c d r.follow left right clear.1 beside (ends_elsewhere d.at c some clear.0)
        | inr (head, (zero_size, end)) ↦
            header_apart s changes c left r.follow zero_size end d right
            (not_after (text s) (seen s e) edits d.at before (header_seen s e ∙ head))
      ]

  -- a line behind a header that came stays behind it
  pub stays_behind : (path : List Part) (value : Value) (d : TextChange) → IsPlacedChange s e c
      → All (λ x. IsBeside x c) changes → All (λ x. IsBeside x d) changes → IsBeside c d
      → IsTextAfter profile limit s (with_change changes c) (edited_document now e)
      → KeepsBehind s (seen s e ∷ edits) (with_change changes c) d → IsTrue (is_new_after e (insert path value))
      → StaysPlaced now e (moved_past changes c) (insert path value) (moved_past changes d)
  stays_behind path value d placed left right beside next (none, alike) new = elim alike [
    | inl all ↦ absurd (none_other is_insert (seen s e) edits (insert_seen s e ∙ insert_other e path value new) all)
    | inr (plain, before) ↦ (
      same_newline next plain,
      λ other. inl (ends_away placed left d right beside none before other),
    )
  ]

  -- an insert, of which it is known where it comes
  module _ (path : List Part) (value : Value) (d : TextChange) (placed : IsPlacedChange s e c)
      (left : All (λ x. IsBeside x c) changes) (right : All (λ x. IsBeside x d) changes) (beside : IsBeside c d)
      (seen_there : IsSeenStill s now (insert path value))
      (k : KeepsPlace s (seen s e ∷ edits) (with_change changes c) (with_line s e c lines) (insert path value) d) where
    -- after one of another kind
    line_placed : All (LetsCome (text s) (with_change changes c) d.at) (with_change changes c)
        → IsBeforeHeaders (text s) (seen s e ∷ edits) d.at → is_insert e ≡ false
        → ((moved_past changes c).at + c.size ≢ (moved_past changes d).at)
        ⊎ ComesInPlace now (moved_past changes c) (insert path value) (moved_past changes d)
    line_placed lets before other = by (kind_of s path) refl
      where
        not_last : is_header e ≡ true → d.at ≢ length (text s)
        not_last head = not_after (text s) (seen s e) edits d.at before (header_seen s e ∙ head)

        -- one that comes in the place of none
        elsewhere : kind_of s path ≢ LastInBody
            → ((moved_past changes c).at + c.size ≢ (moved_past changes d).at)
            ⊎ ComesInPlace now (moved_past changes c) (insert path value) (moved_past changes d)
        elsewhere differs = inl (ends_away placed left d right beside (k.0.stays differs) before other)

        by : (a : LineKind) → kind_of s path ≡ a
            → ((moved_past changes c).at + c.size ≢ (moved_past changes d).at)
            ⊎ ComesInPlace now (moved_past changes c) (insert path value) (moved_past changes d)
        by LastInBody is = placed_now placed left path value d right beside lets not_last other (seen_there.1 ∙ is)
        by OfDotted is = elsewhere (λ last. (let both : OfDotted ≡ LastInBody = sym is ∙ last in absurd cc))
        by WithHeader is = elsewhere (λ last. (let both : WithHeader ≡ LastInBody = sym is ∙ last in absurd cc))

    -- after another line
    lines_ordered : IsSeenStill s now e
        → ComesInOrder now (insert path value) (moved_past changes d) e (moved_past changes c)
    lines_ordered seen_now = by e refl
      where
        passed : (f : Edit) → f ≡ e → LetsTable (added_as s path d) (seen s f)
        passed f is =
            subst (λ (f : Edit). LetsTable (added_as s path d) (seen s f)) (sym is)
            (All-head (LetsTable (added_as s path d)) (seen s e) edits k.0.passed)

        by : (f : Edit) → f ≡ e → ComesInOrder now (insert path value) (moved_past changes d) f (moved_past changes c)
        by (insert other new) is =
            let at_first : Added = added_as s other c in
            let its : Added = added_as s path d in
            let still : IsSeenStill s now (insert other new) = subst (IsSeenStill s now) (sym is) seen_now in
            order_now s changes now other path c d r.follow left right still.0 still.1 seen_there.0 seen_there.1
            (All-head (λ l. IsAfterLine l its) at_first lines
            (subst (λ (f : Edit). All (λ l. IsAfterLine l its) (with_line s f c lines)) (sym is) k.0.after))
        by (set other new) is = tt
        by (rename other name) is = tt
        by (remove other) is = tt
        by (append_table keys) is =
            table_now (PassesBy keys) s now path value d (moved_past changes d) seen_there
            (passed (append_table keys) is)
        by (append_element keys) is =
            table_now (PassesBy keys) s now path value d (moved_past changes d) seen_there
            (passed (append_element keys) is)

  -- a header after a line
  no_second : IsSeenStill s now e → (keys : List (List ℕ)) → All (IsNoSecond keys) (with_line s e c lines)
      → IsNoSecondAfter now keys e (moved_past changes c)
  no_second seen_now keys all = by e refl
    where
      by : (f : Edit) → f ≡ e → IsNoSecondAfter now keys f (moved_past changes c)
      by (insert other new) is =
          table_now (λ p. keys ≢ keys_in p) s now other new c (moved_past changes c)
          (subst (IsSeenStill s now) (sym is) seen_now)
          (All-head (IsNoSecond keys) (added_as s other c) lines
          (subst (λ (f : Edit). All (IsNoSecond keys) (with_line s f c lines)) (sym is) all))
      by (set other new) is = tt
      by (rename other name) is = tt
      by (remove other) is = tt
      by (append_table more) is = tt
      by (append_element more) is = tt

  -- what another writes anew stays where it is
  pub stays_placed : (f : Edit) (d : TextChange)
      → IsPlacedChange s e c → IsSeenStill s now f → All (λ x. IsBeside x c) changes → All (λ x. IsBeside x d) changes
      → IsBeside c d → IsTextAfter profile limit s (with_change changes c) (edited_document now e)
      → KeepsPlace s (seen s e ∷ edits) (with_change changes c) (with_line s e c lines) f d
      → IsTrue (is_new_after e f) → StaysPlaced now e (moved_past changes c) f (moved_past changes d)
  stays_placed (insert path value) d placed seen_f left right beside next k new = elim k.1 [
    | inl all ↦ absurd (none_other is_insert (seen s e) edits (insert_seen s e ∙ insert_other e path value new) all)
    | inr (plain, (lets, before)) ↦ (
      same_newline next plain,
      line_placed path value d placed left right beside seen_f k lets before,
    )
  ]
  stays_placed (append_table keys) d placed seen_f left right beside next k new =
      header_placed (append_table keys) refl refl placed left d right beside next k.1 new
  stays_placed (append_element keys) d placed seen_f left right beside next k new =
      header_placed (append_element keys) refl refl placed left d right beside next k.1 new
  stays_placed (remove path) d placed seen_f left right beside next k new = absurd cc
  stays_placed (set path value) d placed seen_f left right beside next k new = absurd cc
  stays_placed (rename path name) d placed seen_f left right beside next k new = absurd cc

  -- and comes in order
  in_order : (f : Edit) (d : TextChange)
      → IsPlacedChange s e c → IsSeenStill s now e → IsSeenStill s now f
      → All (λ x. IsBeside x c) changes → All (λ x. IsBeside x d) changes → IsBeside c d
      → KeepsPlace s (seen s e ∷ edits) (with_change changes c) (with_line s e c lines) f d
      → ComesInOrder now f (moved_past changes d) e (moved_past changes c)
  in_order (insert path value) d placed seen_e seen_f left right beside k =
      lines_ordered path value d placed left right beside seen_f k seen_e
  in_order (append_table keys) d placed seen_e seen_f left right beside k = no_second seen_e keys k.0
  in_order (append_element keys) d placed seen_e seen_f left right beside k = no_second seen_e keys k.0
  in_order (remove path) d placed seen_e seen_f left right beside k = tt
  in_order (set path value) d placed seen_e seen_f left right beside k = tt
  in_order (rename path name) d placed seen_e seen_f left right beside k = tt

  -- so it keeps its place
  pub still_placed : (f : Edit) (d : TextChange)
      → IsPlacedChange s e c → IsSeenStill s now e → IsSeenStill s now f
      → All (λ x. IsBeside x c) changes → All (λ x. IsBeside x d) changes
      → IsBeside c d → IsTextAfter profile limit s (with_change changes c) (edited_document now e)
      → KeepsPlace s (seen s e ∷ edits) (with_change changes c) (with_line s e c lines) f d
      → IsStillPlaced now e (moved_past changes c) f (moved_past changes d)
  still_placed f d placed seen_e seen_f left right beside next k =
      (stays_placed f d placed seen_f left right beside next k, in_order f d placed seen_e seen_f left right beside k)
