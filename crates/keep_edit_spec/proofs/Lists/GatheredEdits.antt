-- Edits that are made at once are so still, and make the same changes, if those that come behind a line are last.
--
-- One that doesn't come behind the line, over one that does, makes its change elsewhere (BehindLine), so it is over the
-- rest without that (`over_fewer`), and that one lets it be under it (`lets_under`): its line comes after another at
-- another byte, and its table is another, if both bring headers (`after_own`, `no_second`). So it goes down below all
-- of those (`each_under`, `put_below`, by OneMoreBelow); by induction all are sorted so (`gather`).
--
-- Theorems: `gathered`; `put_below`: one edit goes below some that come behind the line; `none`, `is_free`.
use Rattle.std.proofs.Common.{◌≡◌, ◌≢◌, ℕ, Bool, true, false, List, [], ◌∷◌, ◌++◌, length, All, refl, sym, ap, subst}
use Rattle.std.proofs.Common.{◌∙◌, inl, inr, get_or}
use Rattle.std.specs.Prelude.{Any, IsTrue}
use Rattle.std.proofs.lemmas.List.Elements.{All-cons, All-filter, All-head, All-nil, All-tail, All-weaker}
use Rattle.std.proofs.lemmas.List.Elements.{filter_passes}
use Rattle.keep_types.specs.declared.leaf.Profile.{Profile}
use Rattle.keep_syntax.specs.Tree.{Document, Value, text}
use Rattle.keep_path.specs.Path.{Part}
use Rattle.keep_meaning.specs.Meaning.{mentions_in}
use Rattle.keep_edit_spec.specs.Edits.{Edit, append_element, append_table, insert, remove, rename, set}
use Rattle.keep_edit_spec.specs.InsertKinds.{Added, AddsAs, IsAfterAs, IsAfterLine, IsHeaderAt, added_as, kind_of}
use Rattle.keep_edit_spec.specs.InsertKinds.{table_of}
use Rattle.keep_edit_spec.specs.Laws.{IsEditable}
use Rattle.keep_edit_spec.specs.LinesAhead.{ComesAhead, before, behind, comes_behind, table_in}
use Rattle.keep_edit_spec.specs.Look.{holder, keys_in}
use Rattle.keep_edit_spec.specs.RunLists.{AreAtOnce, FollowsHeader, MadeEdit, MakesInPlace, changes_of, lines_of, made}
use Rattle.keep_edit_spec.specs.RunLists.{seen_of}
use Rattle.keep_edit_spec.specs.Runs.{IsNoSecond, KeepsPlace, LeavesAlone, LetsTable, MakesChange, PassesBy}
use Rattle.keep_edit_spec.specs.Runs.{is_header, is_insert, seen, takes_up_to, with_line}
use Rattle.keep_edit_spec.specs.TextChanges.{IsBeside, TextChange, with_change}
use Rattle.keep_edit_spec.specs.declared.line_kind.LineKind.{LineKind}
use Rattle.keep_edit_spec.specs.declared.line_kind.LineKind.TheVariants.{LastInBody, OfDotted, WithHeader}
use Rattle.keep_edit_spec.proofs.Lists.BehindHeaders.{not_both}
use Rattle.keep_edit_spec.proofs.Lists.BehindLine.{IsBehind, IsNotBehind, at_byte, elsewhere, ends_elsewhere}
use Rattle.keep_edit_spec.proofs.Lists.LineKinds.{keys_of_line, table_is}
use Rattle.keep_edit_spec.proofs.Lists.MadeChanges.{added}
use Rattle.keep_edit_spec.proofs.Lists.OneMoreBelow.{IsBelow, IsFree, LetsUnder, free_moved, over_more}
use Rattle.keep_edit_spec.proofs.Lists.OtherHeader.{apart_differ}
use Rattle.keep_edit_spec.proofs.Lists.OtherOrder.{IsOver, all_sorted, changes_down, down, goes_down, goes_first}
use Rattle.keep_edit_spec.proofs.Lists.OtherOrder.{joined, of_changes, of_lines, of_seen, of_sorted, over_moved}
use Rattle.keep_edit_spec.proofs.Lists.OtherOrder.{over_of, own_lines, swap, up}
use Rattle.keep_edit_spec.proofs.Lists.PlacesBefore.{behind_before, each_none, placed_before}
use Rattle.keep_edit_spec.proofs.Lists.RunLaws.{lines_before}
use Rattle.keep_edit_spec.proofs.Lists.RunLists.{follows_other}
use Rattle.keep_edit_spec.proofs.Lists.TextChanges.{rest_of_all}
use Rattle.keep_edit_spec.specs.FirstNewline.{LeavesNewline}

-- A line comes after one at another byte, unless both would bring the header of one table.
after_apart : (l m : Added) → l.at ≢ m.at → (m.kind ≡ WithHeader → l.kind ≡ WithHeader → table_of l ≢ table_of m)
    → IsAfterLine l m
after_apart l m apart tables = by m.kind refl
  where
    by : (a : LineKind) → m.kind ≡ a → IsAfterAs a l m
    by LastInBody is = λ same. absurd (apart same)
    by OfDotted is = λ same. absurd (apart same)
    by WithHeader is = λ head. (apart, tables is head)

-- ---- an edit over fewer others

module _ (profile : Profile) (limit : ℕ) (s : Document) where
  -- without one that is elsewhere
  over_fewer : (m b : MadeEdit) (ms : List MadeEdit) → b.change.at ≢ m.change.at → IsOver profile limit s m (b ∷ ms)
      → IsOver profile limit s m ms
  over_fewer m b ms apart (makes, (alone, beside)) = (
    in_place makes,
    (
      All-tail (λ e. LeavesAlone e (seen s m.edit)) (seen s b.edit) (seen_of s ms) alone,
      rest_of_all (λ x. IsBeside x m.change) (changes_of ms) b.change beside,
    ),
  )
    where
      in_place : MakesInPlace profile limit s (seen_of s (b ∷ ms)) (changes_of (b ∷ ms)) (lines_of s (b ∷ ms)) m.edit
          m.change → MakesInPlace profile limit s (seen_of s ms) (changes_of ms) (lines_of s ms) m.edit m.change
      in_place (inl (its, placed)) = inl (
        its,
        placed_before s (seen_of s (b ∷ ms)) (seen_of s ms) (λ P. All-tail P (seen s b.edit) (seen_of s ms))
            (lines_of s (b ∷ ms)) (lines_of s ms) (λ P. lines_before P s b.edit b.change (lines_of s ms))
            (changes_of ms) b.change m.edit m.change placed,
      )
      in_place (inr (follows, keeps)) = inr (
        follows_other profile limit s b.edit b.change [] ms m.edit m.change apart follows,
        behind_before s (seen_of s (b ∷ ms)) (seen_of s ms) (λ P. All-tail P (seen s b.edit) (seen_of s ms))
            (lines_of s (b ∷ ms)) (lines_of s ms) (λ P. lines_before P s b.edit b.change (lines_of s ms))
            (changes_of ms) b.change m.change keeps,
      )

  -- the table of a line that follows a header is the table of that
  table_followed : (P : List Part → Type 0) (path : List Part) (value : Value) (d : TextChange) (lines : List Added)
      → FollowsHeader profile limit s lines path value d → All (λ l. l.kind ≡ WithHeader → P (table_of l)) lines
      → P (table_of (added_as s path d))
  table_followed P path value d lines f all = by f.header
    where
      own : table_of (added_as s path d) ≡ holder path (mentions_in s)
      own =
          table_is profile limit s path value d
          (keys_of_line WithHeader profile limit s path value f.alone.whole f.alone.brings)

      by : Any (λ l. IsHeaderAt d.at l × (table_of l ≡ holder path (mentions_in s))) lines
          → P (table_of (added_as s path d))
      by (n, l, few, same, ((there, head), table)) =
          subst P (table ∙ sym own)
          (subst (λ (x : Added). x.kind ≡ WithHeader → P (table_of x)) same (all n l few) head)

  -- what holds of the line that an edit adds
  pub own_line : (P : Added → Type 0) (m : MadeEdit)
      → ((path : List Part) (value : Value) → m.edit ≡ insert path value → P (added_as s path m.change))
      → All P (own_lines s m)
  own_line P m = by m.edit
    where
      by : (e : Edit)
          → ((path : List Part) (value : Value) → e ≡ insert path value → P (added_as s path m.change))
          → All P (with_line s e m.change [])
      by (insert path value) holds = All-cons P (added_as s path m.change) [] (holds path value refl) (All-nil P)
      by (set path value) holds = All-nil P
      by (rename path name) holds = All-nil P
      by (remove path) holds = All-nil P
      by (append_table keys) holds = All-nil P
      by (append_element keys) holds = All-nil P

-- ---- an edit that does not come behind a line, over one that does

module _ (profile : Profile) (limit : ℕ) (s : Document) (fine : IsEditable profile limit s) (kind : LineKind)
    (table : List Part) (c : TextChange) (none : c.size ≡ 0) where
  -- a header that it appends passes by the header that the other brings, if the line is not at the end
  abbrev PassesBehind : MadeEdit → MadeEdit → Type 0
  PassesBehind m b =
      c.at ≢ length (text s) → All (λ l. IsHeaderAt c.at l → LetsTable l (seen s m.edit)) (own_lines s b)

  -- so what it appends asks nothing of a line there
  lets_line : (l : Added) (f : Edit) → l.at ≡ c.at → (is_header f ≡ true → c.at ≢ length (text s))
      → (c.at ≢ length (text s) → IsHeaderAt c.at l → LetsTable l f) → LetsTable l f
  lets_line l (insert path value) at ends passes = tt
  lets_line l (set path value) at ends passes = tt
  lets_line l (rename path name) at ends passes = tt
  lets_line l (remove path) at ends passes = tt
  lets_line l (append_table keys) at ends passes = λ head. passes (ends refl) (at, head) head
  lets_line l (append_element keys) at ends passes = λ head. passes (ends refl) (at, head) head

  module _ (m : MadeEdit) (e : Edit) (d : TextChange) (ms : List MadeEdit) (apart : d.at ≢ m.change.at)
      (over : IsOver profile limit s m (made e d ∷ ms)) where
    abbrev both : List MadeEdit
    both = made e d ∷ ms

    -- what holds of the table of its line
    own_table : (P : List Part → Type 0)
        → ((path : List Part) (value : Value)
        → KeepsPlace s (seen_of s both) (changes_of both) (lines_of s both) (insert path value) m.change
        → kind_of s path ≡ WithHeader → P (table_of (added_as s path m.change)))
        → All (λ l. l.kind ≡ WithHeader → P (table_of l)) (lines_of s ms)
        → All (λ l. l.kind ≡ WithHeader → P (table_of l)) (own_lines s m)
    own_table P placed_so tables =
        own_line profile limit s (λ l. l.kind ≡ WithHeader → P (table_of l)) m
        (λ path value is. by path value
        (subst
        (λ (f : Edit). MakesInPlace profile limit s (seen_of s both) (changes_of both) (lines_of s both) f m.change) is
        over.0))
      where
        by : (path : List Part) (value : Value)
            → MakesInPlace profile limit s (seen_of s both) (changes_of both) (lines_of s both) (insert path value)
            m.change → kind_of s path ≡ WithHeader → P (table_of (added_as s path m.change))
        by path value (inl (makes, placed)) head = placed_so path value placed head
        by path value (inr (follows, keeps)) head =
            table_followed profile limit s P path value m.change (lines_of s ms)
            (follows_other profile limit s e d [] ms (insert path value) m.change apart follows) tables

    -- under a header
    no_second : (keys : List (List ℕ)) → ((l : Added) → LetsTable l (seen s e) → l.kind ≡ WithHeader
        → PassesBy keys (table_of l)) → All (IsNoSecond keys) (lines_of s ms) → All (IsNoSecond keys) (own_lines s m)
    no_second keys lets =
        own_table (λ table. keys ≢ keys_in table)
        (λ path value placed head same.
        (let its : Added = added_as s path m.change in
        apart_differ (keys_in (table_of its)) keys
        (lets its (All-head (LetsTable its) (seen s e) (seen_of s ms) placed.0.passed) head) (sym same)))

  module _ (m : MadeEdit) (other : List Part) (more : Value) (d : TextChange) (ms : List MadeEdit)
      (apart : d.at ≢ m.change.at) (over : IsOver profile limit s m (made (insert other more) d ∷ ms)) where
    abbrev line : Added
    line = added_as s other d

    -- under a line
    after_own : All (λ l. IsAfterLine l line) (lines_of s ms) → All (λ l. IsAfterLine l line) (own_lines s m)
    after_own after = λ n x few.
        let l : Added = get_or (own_lines s m) n x in
        after_apart l line
        (λ same. apart
        (sym same ∙ own_line profile limit s (λ x. x.at ≡ m.change.at) m (λ path value is. refl) n x few))
        (λ head. tables head n x few)
      where
        tables : line.kind ≡ WithHeader
            → All (λ l. l.kind ≡ WithHeader → table_of l ≢ table_of line) (own_lines s m)
        tables head =
            own_table m (insert other more) d ms apart over (λ table. table ≢ table_of line)
            (λ path value placed is same.
            (let its : Added = added_as s path m.change in
            (subst (λ (a : LineKind). IsAfterAs a line its) is
            (All-head (λ l. IsAfterLine l its) line (lines_of s ms) placed.0.after) head).1 (sym same)))
            (All-weaker (λ l. IsAfterLine l line) (λ l. l.kind ≡ WithHeader → table_of l ≢ table_of line)
            (λ l h is. (subst (λ (a : LineKind). IsAfterAs a l line) head h is).1) (lines_of s ms) after)

  module _ (m b : MadeEdit) (ms : List MadeEdit) (is : IsBehind s kind table c.at b)
      (differs : IsNotBehind s kind table c.at m) (passes : PassesBehind m b) (side : IsBeside m.change c)
      (over : IsOver profile limit s m (b ∷ ms))
      (first : IsOver profile limit s b ms) where
    there : b.change.at ≡ c.at
    there =
        (at_byte profile limit s fine kind table c none b (seen_of s ms) (changes_of ms) (lines_of s ms) is first.0).0

    apart : b.change.at ≢ m.change.at
    apart same = elsewhere profile limit s fine kind table c none m b ms is differs side over (sym same ∙ there)

    below : MakesChange profile limit s b.edit b.change → IsBelow s (own_lines s m) (seen s m.edit) b.edit b.change
    below makes = by b.edit b.change is there apart over (placed makes first.0) passes
      where
        placed : MakesChange profile limit s b.edit b.change
            → MakesInPlace profile limit s (seen_of s ms) (changes_of ms) (lines_of s ms) b.edit b.change
            → KeepsPlace s (seen_of s ms) (changes_of ms) (lines_of s ms) b.edit b.change
        placed own (inl (its, it)) = it
        placed own (inr (follows, keeps)) =
            absurd (not_both profile limit s (lines_of s ms) b.edit b.change own follows)

        by : (e : Edit) (d : TextChange) → IsBehind s kind table c.at (made e d) → d.at ≡ c.at → d.at ≢ m.change.at
            → IsOver profile limit s m (made e d ∷ ms)
            → KeepsPlace s (seen_of s ms) (changes_of ms) (lines_of s ms) e d → PassesBehind m (made e d)
            → IsBelow s (own_lines s m) (seen s m.edit) e d
        by (insert other more) d it at far all place pass =
            let its : Added = added_as s other d in (
              after_own m other more d ms far all place.0.after,
              lets_line its (seen s m.edit) at (ends_elsewhere profile limit s fine kind table c none m differs)
                  (λ before. All-head (λ l. IsHeaderAt c.at l → LetsTable l (seen s m.edit)) its [] (pass before)),
            )
        by (append_table keys) d it at far all place pass =
            no_second m (append_table keys) d ms far all keys (λ l lets. lets) place.0
        by (append_element keys) d it at far all place pass =
            no_second m (append_element keys) d ms far all keys (λ l lets. lets) place.0
        by (set path value) d it at far all place pass = tt
        by (rename path name) d it at far all place pass = tt
        by (remove path) d it at far all place pass = tt

    lets_under : LetsUnder profile limit s m b
    lets_under = record {
      left = All-head (λ e. LeavesAlone e (seen s m.edit)) (seen s b.edit) (seen_of s ms) over.1.0;
      below = below;
    }

  -- ---- and over some that do

  abbrev AreUnder : MadeEdit → MadeEdit → Type 0
  AreUnder m b = LetsUnder profile limit s m b × (b.change.at ≢ m.change.at)

  -- each lets it be under it, and so it is over the others
  each_under : (m : MadeEdit) → IsNotBehind s kind table c.at m → IsBeside m.change c → (bs rest : List MadeEdit)
      → All (IsBehind s kind table c.at) bs → All (PassesBehind m) bs → IsOver profile limit s m (bs ++ rest)
      → AreAtOnce profile limit s (bs ++ rest)
      → All (AreUnder m) bs × IsOver profile limit s m rest
  each_under m differs side [] rest is passes over all = (All-nil (AreUnder m), over)
  each_under m differs side (b ∷ bs) rest is passes over all =
      let one : IsBehind s kind table c.at b = All-head (IsBehind s kind table c.at) b bs is in
      let pass : PassesBehind m b = All-head (PassesBehind m) b bs passes in
      let first : IsOver profile limit s b (bs ++ rest) = over_of profile limit s b (bs ++ rest) all in
      let far : b.change.at ≢ m.change.at = apart m b (bs ++ rest) one differs pass side over first in
      let (under, last) =
      each_under m differs side bs rest (All-tail (IsBehind s kind table c.at) b bs is)
      (All-tail (PassesBehind m) b bs passes) (over_fewer profile limit s m b (bs ++ rest) far over) all.1.1.1 in (
        All-cons (AreUnder m) b bs (lets_under m b (bs ++ rest) one differs pass side over first, far) under,
        last,
      )

  -- an edit below some that come behind the line
  pub put_below : (m : MadeEdit) → (is_header (seen s m.edit) ≡ true → c.at ≢ length (text s))
      → (bs rest : List MadeEdit) → All (IsBehind s kind table c.at) bs → All (LetsUnder profile limit s m) bs
      → IsFree s c (m ∷ bs ++ rest)
      → AreAtOnce profile limit s (bs ++ rest) → IsOver profile limit s m rest
      → AreAtOnce profile limit s (bs ++ m ∷ rest)
  put_below m ends [] rest is under free all over = joined profile limit s m rest over all
  put_below m ends (b ∷ bs) rest is under free all over =
      let ms : List MadeEdit = bs ++ rest in
      let more : List MadeEdit = bs ++ m ∷ rest in
      let swapped : IsFree s c (b ∷ m ∷ ms) = free_moved s c (m ∷ b ∷ ms) (b ∷ m ∷ ms) (λ P. swap P m b ms) free in
      joined profile limit s b more
      (over_moved profile limit s (m ∷ ms) more (λ P. down P m bs rest) (λ P. up P m bs rest) b
      (over_more profile limit s fine kind table c none b m ms (All-head (IsBehind s kind table c.at) b bs is) swapped
      ends (All-head (LetsUnder profile limit s m) b bs under) (over_of profile limit s b ms all)))
      (put_below m ends bs rest (All-tail (IsBehind s kind table c.at) b bs is)
      (All-tail (LetsUnder profile limit s m) b bs under)
      (free_moved s c (b ∷ m ∷ ms) (m ∷ ms) (λ P. All-tail P b (m ∷ ms)) swapped) all.1.1.1 over)

  -- ---- all of them

  abbrev later : List MadeEdit → List MadeEdit
  later = behind s kind table c.at

  abbrev earlier : List MadeEdit → List MadeEdit
  earlier = before s kind table c.at

  abbrev gathered_of : List MadeEdit → List MadeEdit
  gathered_of ms = later ms ++ earlier ms

  -- headers that are appended pass by the headers that are there, if the line is not at the end
  abbrev ArePassed : List MadeEdit → Type 0
  ArePassed ms =
      c.at ≢ length (text s) → All (λ l. IsHeaderAt c.at l → All (LetsTable l) (seen_of s ms)) (lines_of s ms)

  abbrev IsGathered : List MadeEdit → Type 0
  IsGathered ms =
      AreAtOnce profile limit s (gathered_of ms) × (changes_of (gathered_of ms) ≡ changes_of ms)

  over_gathered : (m : MadeEdit) (ms : List MadeEdit) → IsOver profile limit s m ms
      → IsOver profile limit s m (gathered_of ms)
  over_gathered m ms =
      let test : MadeEdit → Bool = comes_behind s kind table c.at in
      over_moved profile limit s ms (gathered_of ms) (λ P. all_sorted test P ms) (λ P. of_sorted test P ms) m

  -- by induction: one that doesn't come behind the line goes below those that do
  gather : (ms : List MadeEdit) → IsFree s c ms → ArePassed ms → AreAtOnce profile limit s ms → IsGathered ms
  gather [] free passed all = (tt, refl)
  gather (m ∷ ms) free passed all =
      by (comes_behind s kind table c.at m) refl
      (gather ms (free_moved s c (m ∷ ms) ms (λ P. All-tail P m ms) free)
      (λ far.
      (let Passed : List Edit → Added → Type 0 = λ edits l. IsHeaderAt c.at l → All (LetsTable l) edits in
      All-weaker (Passed (seen_of s (m ∷ ms))) (Passed (seen_of s ms))
      (λ l h there. All-tail (LetsTable l) (seen s m.edit) (seen_of s ms) (h there)) (lines_of s ms)
      (lines_before (Passed (seen_of s (m ∷ ms))) s m.edit m.change (lines_of s ms) (passed far)))) all.1.1.1)
    where
      test : MadeEdit → Bool
      test = comes_behind s kind table c.at

      over : IsOver profile limit s m (gathered_of ms)
      over = over_gathered m ms (over_of profile limit s m ms all)

      passes : All (PassesBehind m) (later ms)
      passes n x few far =
          let Passed : Added → Type 0 = λ l. IsHeaderAt c.at l → LetsTable l (seen s m.edit) in
          All-filter test (λ b. All Passed (own_lines s b)) ms
          (of_lines s Passed ms
          (All-weaker (λ l. IsHeaderAt c.at l → All (LetsTable l) (seen_of s (m ∷ ms))) Passed
          (λ l h there. All-head (LetsTable l) (seen s m.edit) (seen_of s ms) (h there)) (lines_of s ms)
          (lines_before (λ l. IsHeaderAt c.at l → All (LetsTable l) (seen_of s (m ∷ ms))) s m.edit m.change
          (lines_of s ms) (passed far)))) n x few

      goes_below : IsNotBehind s kind table c.at m → IsGathered ms
          → AreAtOnce profile limit s (later ms ++ m ∷ earlier ms)
          × (changes_of (later ms ++ m ∷ earlier ms) ≡ changes_of (m ∷ ms))
      goes_below is (at_once, same) =
          let are : All (IsBehind s kind table c.at) (later ms) = filter_passes test ms in
          let (under, last) =
          each_under m is (All-head (λ x. IsBeside x.change c) m ms free.beside) (later ms) (earlier ms) are passes over
          at_once in (
            put_below m (ends_elsewhere profile limit s fine kind table c none m is) (later ms) (earlier ms) are
                (All-weaker (AreUnder m) (LetsUnder profile limit s m) (λ b h. h.0) (later ms) under)
                (free_moved s c (m ∷ ms) (m ∷ gathered_of ms)
                (λ P h. All-cons P m (gathered_of ms) (All-head P m ms h)
                (all_sorted test P ms (All-tail P m ms h))) free) at_once last,
            changes_down m (later ms) (earlier ms)
                (All-weaker (AreUnder m) (λ b. b.change.at ≢ m.change.at) (λ b h. h.1) (later ms) under)
                ∙ ap (λ (l : List TextChange). with_change l m.change) same,
          )

      by : (b : Bool) → test m ≡ b → IsGathered ms → IsGathered (m ∷ ms)
      by true is (at_once, same) =
          subst (λ (l : List MadeEdit). AreAtOnce profile limit s l × (changes_of l ≡ changes_of (m ∷ ms)))
          (sym (goes_first test m ms is)) (
            joined profile limit s m (gathered_of ms) over at_once,
            ap (λ (l : List TextChange). with_change l m.change) same,
          )
      by false is ih =
          subst (λ (l : List MadeEdit). AreAtOnce profile limit s l × (changes_of l ≡ changes_of (m ∷ ms)))
          (sym (goes_down test m ms is)) (goes_below is ih)

-- ---- ahead of a line

-- edits among which a line can come ahead
module _ (profile : Profile) (limit : ℕ) (s : Document) (ms : List MadeEdit) (path : List Part) (value : Value)
    (kind : LineKind) (c : TextChange) (fine : IsEditable profile limit s)
    (adds : AddsAs kind profile limit s path value c) (beside : All (λ d. IsBeside d c) (changes_of ms))
    (ahead : ComesAhead s ms kind (added_as s path c) c) where
  pub none : c.size ≡ 0
  none = (added profile limit s path value c (kind, adds)).adds

  pub is_free : IsFree s c ms
  is_free = record {
    beside = of_changes s (λ d. IsBeside d c) ms beside;
    clear = of_changes s (λ d. takes_up_to c.at d ≡ false) ms
        (each_none (takes_up_to c.at) (changes_of ms) ahead.clear);
    alike = elim ahead.alike [
      | inl inserts ↦ inl (of_seen s (λ e. IsTrue (is_insert e)) ms inserts)
      | inr (leave, own) ↦ inr (of_changes s (LeavesNewline s) ms leave)
    ];
  }

  pub gathered : AreAtOnce profile limit s ms
      → AreAtOnce profile limit s (behind s kind (table_in s path) c.at ms ++ before s kind (table_in s path) c.at ms)
      × (changes_of (behind s kind (table_in s path) c.at ms ++ before s kind (table_in s path) c.at ms)
      ≡ changes_of ms)
  gathered all = gather profile limit s fine kind (table_in s path) c none ms is_free ahead.passed all
