-- An edit that comes behind a line keeps its place over one edit more: over that line, or over one that is elsewhere.
--
-- It is over the other edits already, no change takes the byte before its own, and either all edits are inserts or each
-- newline is alike (`IsFree`). So all that is left is what is asked of its own line or header and of the one edit more
-- (`LetsUnder`); and no header is appended there by that (`before_more`).
--
-- Theorems: `over_more`; `let_come`: where a line can come; `free_moved`.
use Rattle.std.proofs.Common.{◌≡◌, ◌≢◌, ◌⊎◌, ℕ, Bool, true, false, List, [], ◌∷◌, length, All, refl, sym, subst, ◌∙◌}
use Rattle.std.proofs.Common.{arith, inl, inr}
use Rattle.std.specs.Prelude.{Any, IsTrue, ⊤}
use Rattle.std.specs.List.{list_any}
use Rattle.std.proofs.lemmas.List.Elements.{All-cons, All-head, All-tail, All-weaker}
use Rattle.std.proofs.lemmas.List.Folds.{list_any_none}
use Rattle.keep_types.specs.declared.leaf.Profile.{Profile}
use Rattle.keep_syntax.specs.Tree.{Document, text}
use Rattle.keep_path.specs.Path.{Part}
use Rattle.keep_meaning.specs.Meaning.{mentions_in}
use Rattle.keep_edit_spec.specs.Edits.{Edit, append_element, append_table, insert, remove, rename, set}
use Rattle.keep_edit_spec.specs.InsertKinds.{Added, IsAfterLine, IsHeaderAt, added_as, table_of}
use Rattle.keep_edit_spec.specs.Laws.{IsEditable}
use Rattle.keep_edit_spec.specs.Look.{holder}
use Rattle.keep_edit_spec.specs.RunLists.{MadeEdit, MakesInPlace, changes_of, lines_of, seen_of}
use Rattle.keep_edit_spec.specs.Runs.{LeaveNewline, IsBeforeHeaders, IsNoSecond, LeaveNewlineBefore, LeavesAlone}
use Rattle.keep_edit_spec.specs.Runs.{LetsCome, LetsTable, MakesChange, is_header, is_insert, seen, takes_up_to}
use Rattle.keep_edit_spec.specs.Runs.{with_line}
use Rattle.keep_edit_spec.specs.TextChanges.{IsBeside, TextChange}
use Rattle.keep_edit_spec.specs.declared.line_kind.LineKind.{LineKind}
use Rattle.keep_edit_spec.proofs.Lists.BehindLine.{IsBehind, at_byte, left_back}
use Rattle.keep_edit_spec.proofs.Lists.OtherOrder.{IsOver, by_changes, by_seen, own_lines}
use Rattle.keep_edit_spec.proofs.Lists.PlacesBefore.{each_none}
use Rattle.keep_edit_spec.proofs.Lists.RunLists.{any_later, line_more}
use Rattle.keep_edit_spec.proofs.Lists.TextChanges.{all_with}
use Rattle.keep_edit_spec.specs.FirstNewline.{LeavesNewline}

-- a line is among more
any_with : (P : Added → Type 0) (s : Document) (e : Edit) (c : TextChange) (lines : List Added) → Any P lines
    → Any P (with_line s e c lines)
any_with P s (insert path value) c lines h = any_later P (added_as s path c) lines h
any_with P s (set path value) c lines h = h
any_with P s (rename path name) c lines h = h
any_with P s (remove path) c lines h = h
any_with P s (append_table keys) c lines h = h
any_with P s (append_element keys) c lines h = h

-- Each of them adds a line; or they leave the first newline, and no header is appended there.
abbrev pub AreAlike : Document → List Edit → List TextChange → ℕ → Type 0
AreAlike s edits changes at =
    All (λ e. IsTrue (is_insert e)) edits ⊎ (LeaveNewline s changes × IsBeforeHeaders (text s) edits at)

-- so a line can come among them, if none takes the byte before it
pub let_come : (s : Document) (edits : List Edit) (changes : List TextChange) (at : ℕ)
    → list_any (takes_up_to at) changes ≡ false → AreAlike s edits changes at
    → All (λ e. IsTrue (is_insert e)) edits
    ⊎ (LeaveNewline s changes × (All (LetsCome (text s) changes at) changes × IsBeforeHeaders (text s) edits at))
let_come s edits changes at clear (inl all) = inl all
let_come s edits changes at clear (inr (leave, before)) = inr (
  leave,
  (
    All-weaker (λ x. takes_up_to at x ≡ false) (LetsCome (text s) changes at) (λ x none. inl none) changes
        (each_none (takes_up_to at) changes clear),
    before,
  ),
)

-- what inserts are, no header is
no_headers : (edits : List Edit) → All (λ e. IsTrue (is_insert e)) edits → All (λ e. is_header e ≡ false) edits
no_headers edits all = All-weaker (λ e. IsTrue (is_insert e)) (λ e. is_header e ≡ false) by edits all
  where
    by : (e : Edit) → IsTrue (is_insert e) → is_header e ≡ false
    by (insert path value) is = refl
    by (set path value) is = refl
    by (rename path name) is = refl
    by (remove path) is = refl
    by (append_table keys) is = absurd (let e : false ≡ true = is in cc)
    by (append_element keys) is = absurd (let e : false ≡ true = is in cc)

-- with one more, that appends no header there
before_more : (bytes : List ℕ) (e : Edit) (edits : List Edit) (at : ℕ) → (is_header e ≡ true → at ≢ length bytes)
    → All (λ f. IsTrue (is_insert f)) edits ⊎ IsBeforeHeaders bytes edits at → IsBeforeHeaders bytes (e ∷ edits) at
before_more bytes e edits at ends before = by (is_header e) refl before
  where
    none_more : is_header e ≡ false → All (λ f. is_header f ≡ false) edits → IsBeforeHeaders bytes (e ∷ edits) at
    none_more first none =
        inl (list_any_none is_header (e ∷ edits) (All-cons (λ f. is_header f ≡ false) e edits first none))

    by : (b : Bool) → is_header e ≡ b → All (λ f. IsTrue (is_insert f)) edits ⊎ IsBeforeHeaders bytes edits at
        → IsBeforeHeaders bytes (e ∷ edits) at
    by true is h = inr (ends is)
    by false is (inl all) = none_more is (no_headers edits all)
    by false is (inr (inl none)) = none_more is (each_none is_header edits none)
    by false is (inr (inr elsewhere)) = inr elsewhere

-- These edits are beside a change, which takes nothing, and none takes the byte before it. Either all of them add
-- lines, or they leave the first newline.
pub record IsFree (s : Document) (c : TextChange) (ms : List MadeEdit) : Type 0 where
  pub beside : All (λ m. IsBeside m.change c) ms
  pub clear : All (λ m. takes_up_to c.at m.change ≡ false) ms
  pub alike : All (λ m. IsTrue (is_insert (seen s m.edit))) ms
      ⊎ All (λ m. LeavesNewline s m.change) ms

-- so are edits that are among them
pub free_moved : (s : Document) (c : TextChange) (ms others : List MadeEdit)
    → ((P : MadeEdit → Type 0) → All P ms → All P others) → IsFree s c ms → IsFree s c others
free_moved s c ms others move h = record {
  beside = move (λ m. IsBeside m.change c) h.beside;
  clear = move (λ m. takes_up_to c.at m.change ≡ false) h.clear;
  alike = elim h.alike [
    | inl inserts ↦ inl (move (λ m. IsTrue (is_insert (seen s m.edit))) inserts)
    | inr leave ↦ inr (move (λ m. LeavesNewline s m.change) leave)
  ];
}

-- What is asked of an edit that comes behind others, one of which adds these lines.
abbrev pub IsBelow : Document → List Added → Edit → Edit → TextChange → Type 0
IsBelow s lines f (insert path value) d =
    All (λ l. IsAfterLine l (added_as s path d)) lines × LetsTable (added_as s path d) f
IsBelow s lines f (append_table keys) d = All (IsNoSecond keys) lines
IsBelow s lines f (append_element keys) d = All (IsNoSecond keys) lines
IsBelow s lines f e d = ⊤

-- what is asked of the other edit
pub record LetsUnder (profile : Profile) (limit : ℕ) (s : Document) (m b : MadeEdit) : Type 0 where
  pub left : LeavesAlone (seen s b.edit) (seen s m.edit)
  pub below : MakesChange profile limit s b.edit b.change
      → IsBelow s (own_lines s m) (seen s m.edit) b.edit b.change

-- ---- over one more

module _ (profile : Profile) (limit : ℕ) (s : Document) (fine : IsEditable profile limit s) (kind : LineKind)
    (table : List Part) (c : TextChange) (none : c.size ≡ 0) where
  module _ (b m : MadeEdit) (ms : List MadeEdit) (is : IsBehind s kind table c.at b) (free : IsFree s c (b ∷ m ∷ ms))
      (ends : is_header (seen s m.edit) ≡ true → c.at ≢ length (text s)) (under : LetsUnder profile limit s m b)
      (over : IsOver profile limit s b ms) where
    abbrev edits : List Edit
    edits = seen_of s (m ∷ ms)

    abbrev changes : List TextChange
    changes = changes_of (m ∷ ms)

    abbrev lines : List Added
    lines = lines_of s ms

    put_there : (b.change.at ≡ c.at) × (b.change.size ≡ 0)
    put_there = at_byte profile limit s fine kind table c none b (seen_of s ms) (changes_of ms) lines is over.0

    clear : list_any (takes_up_to b.change.at) changes ≡ false
    clear =
        subst (λ (n : ℕ). list_any (takes_up_to n) changes ≡ false) (sym put_there.0)
        (list_any_none (takes_up_to c.at) changes
        (by_changes s (λ x. takes_up_to c.at x ≡ false) (m ∷ ms)
        (All-tail (λ x. takes_up_to c.at x.change ≡ false) b (m ∷ ms) free.clear)))

    beside : IsBeside m.change b.change
    beside =
        by (All-head (λ x. IsBeside x.change c) m ms (All-tail (λ x. IsBeside x.change c) b (m ∷ ms) free.beside))
      where
        by : IsBeside m.change c → IsBeside m.change b.change
        by (inl before) = inl (omega (arith, before, put_there.0))
        by (inr (less, after)) =
            inr (omega (arith, less, put_there.0), omega (arith, after, put_there.0, put_there.1, none))

    leave : All (λ x. LeavesNewline s x.change) (b ∷ m ∷ ms) → LeaveNewline s changes
    leave all = by_changes s (LeavesNewline s) (m ∷ ms) (All-tail (λ x. LeavesNewline s x.change) b (m ∷ ms) all)

    -- for a line
    alike : All (λ f. IsTrue (is_insert f)) (seen_of s ms) ⊎ IsBeforeHeaders (text s) (seen_of s ms) b.change.at
        → AreAlike s edits changes b.change.at
    alike before = elim free.alike [
      | inl inserts ↦ inl
          (by_seen s (λ f. IsTrue (is_insert f)) (m ∷ ms)
          (All-tail (λ x. IsTrue (is_insert (seen s x.edit))) b (m ∷ ms) inserts))
      | inr them ↦ inr (
        leave them,
        before_more (text s) (seen s m.edit) (seen_of s ms) b.change.at
            (λ head same. ends head (sym put_there.0 ∙ same)) before,
      )
    ]

    -- for a header
    alike_header : is_insert (seen s b.edit) ≡ false
        → All (λ f. IsTrue (is_header f)) edits ⊎ LeaveNewlineBefore s changes b.change.at
    alike_header other = elim free.alike [
      | inl inserts ↦
          (let one : is_insert (seen s b.edit) ≡ true =
          All-head (λ x. IsTrue (is_insert (seen s x.edit))) b (m ∷ ms) inserts in absurd cc)
      | inr them ↦ inr (leave them, clear)
    ]

    abbrev InPlace : Edit → Type 0
    InPlace e = MakesInPlace profile limit s edits changes (lines_of s (m ∷ ms)) e b.change

    -- with the line of the other edit, if it adds one
    lines_more : (P : Added → Type 0) → All P (own_lines s m) → All P lines → All P (lines_of s (m ∷ ms))
    lines_more P one rest = line_more P s m.edit m.change [] lines (λ none. rest) one

    in_place : InPlace b.edit
    in_place = by b.edit over.0 under.below alike_header
      where
        by : (e : Edit) → MakesInPlace profile limit s (seen_of s ms) (changes_of ms) lines e b.change
            → (MakesChange profile limit s e b.change → IsBelow s (own_lines s m) (seen s m.edit) e b.change)
            → (is_insert (seen s e) ≡ false
            → All (λ f. IsTrue (is_header f)) edits ⊎ LeaveNewlineBefore s changes b.change.at) → InPlace e
        by (insert path value) (inl (makes, (order, it))) below head =
            let its : Added = added_as s path b.change in
            inl (
              makes,
              (
                record {
                  after = lines_more (λ l. IsAfterLine l its) (below makes).0 order.after;
                  stays = λ last. clear;
                  passed = All-cons (LetsTable its) (seen s m.edit) (seen_of s ms) (below makes).1 order.passed;
                },
                let_come s edits changes b.change.at clear (alike (elim it [
                  | inl inserts ↦ inl inserts
                  | inr (first, (lets, before)) ↦ inr before
                ])),
              ),
            )
        by (insert path value) (inr (follows, keeps)) below head = inr (
          record {
            alone = follows.alone;
            header = any_with (λ l. IsHeaderAt b.change.at l × (table_of l ≡ holder path (mentions_in s))) s m.edit
                m.change lines follows.header;
          },
          (clear, alike (elim keeps.1 [ inl inserts ↦ inl inserts | inr (first, before) ↦ inr before ])),
        )
        by (append_table keys) (inl (makes, (second, it))) below head =
            inl (makes, (lines_more (IsNoSecond keys) (below makes) second, head refl))
        by (append_element keys) (inl (makes, (second, it))) below head =
            inl (makes, (lines_more (IsNoSecond keys) (below makes) second, head refl))
        by (append_table keys) (inr (follows, keeps)) below head = absurd follows
        by (append_element keys) (inr (follows, keeps)) below head = absurd follows
        by (set path value) (inl (makes, placed)) below head = inl (makes, tt)
        by (set path value) (inr (follows, keeps)) below head = absurd follows
        by (rename path name) (inl (makes, placed)) below head = inl (makes, tt)
        by (rename path name) (inr (follows, keeps)) below head = absurd follows
        by (remove path) (inl (makes, placed)) below head = inl (makes, tt)
        by (remove path) (inr (follows, keeps)) below head = absurd follows

    pub over_more : IsOver profile limit s b (m ∷ ms)
    over_more = (
      in_place,
      (
        All-cons (λ f. LeavesAlone f (seen s b.edit)) (seen s m.edit) (seen_of s ms)
            (left_back profile limit s fine kind table c none b (seen s m.edit) is under.left) over.1.0,
        all_with (λ x. IsBeside x b.change) (changes_of ms) m.change over.1.1 beside,
      ),
    )
