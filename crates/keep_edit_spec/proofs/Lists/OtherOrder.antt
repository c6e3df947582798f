-- Edits that are made at once, in another order, or fewer of them.
--
-- What holds of each of them as others see them, of each change, or of each line, holds of each of the list, and the
-- other way round (`of_seen`, `by_seen`, and so on). So it holds of edits that are among them (`seen_moved` and the
-- like). Of two lists of the same edits also a line that is there in one is there in the other (`any_moved`), so one
-- that is over one list is over the other (`over_moved`). One of a list may be further down (`down`, `up`); the changes
-- are the same if those that it passes are elsewhere (`changes_down`). Those that pass a test may be first, with the
-- others after them (`all_sorted`, `of_sorted`).
--
-- Theorems: `over_moved`, `joined`, `over_of`; `of_seen`, `by_seen`, `of_changes`, `by_changes`, `of_lines`,
-- `by_lines`; `down`, `up`, `swap`, `changes_down`; `goes_first`, `goes_down`, `all_sorted`, `of_sorted`.
use Rattle.std.proofs.Common.{◌≡◌, ◌≢◌, ℕ, Bool, true, false, not, List, [], ◌∷◌, ◌++◌, All, refl, sym, ap, subst, ◌∙◌}
use Rattle.std.proofs.Common.{inl, inr}
use Rattle.std.specs.Prelude.{Any, filter}
use Rattle.std.proofs.lemmas.List.Elements.{All-append, All-cons, All-filter, All-head, All-nil, All-tail, All-weaker}
use Rattle.keep_types.specs.declared.leaf.Profile.{Profile}
use Rattle.keep_syntax.specs.Tree.{Document}
use Rattle.keep_meaning.specs.Meaning.{mentions_in}
use Rattle.keep_edit_spec.specs.Edits.{Edit, append_element, append_table, insert, remove, rename, set}
use Rattle.keep_edit_spec.specs.InsertKinds.{Added, IsHeaderAt, table_of}
use Rattle.keep_edit_spec.specs.Look.{holder}
use Rattle.keep_edit_spec.specs.RunLists.{AreAtOnce, Follows, MadeEdit, MakesInPlace, changes_of, lines_of, seen_of}
use Rattle.keep_edit_spec.specs.Runs.{LeavesAlone, seen, with_line}
use Rattle.keep_edit_spec.specs.TextChanges.{IsBeside, TextChange, with_change}
use Rattle.keep_edit_spec.proofs.Lists.ChangeOrder.{with_both}
use Rattle.keep_edit_spec.proofs.Lists.PlacesBefore.{behind_over, placed_over}
use Rattle.keep_edit_spec.proofs.Lists.RunLaws.{lines_before}
use Rattle.keep_edit_spec.proofs.Lists.RunLists.{any_first, any_later, line_more}
use Rattle.keep_edit_spec.proofs.Lists.TextChanges.{all_with, one_of_all, rest_of_all}

-- ---- one edit over others

-- It makes its change in its place after them, beside theirs, and they leave it alone.
abbrev pub IsOver : Profile → ℕ → Document → MadeEdit → List MadeEdit → Type 0
IsOver profile limit s m ms =
    MakesInPlace profile limit s (seen_of s ms) (changes_of ms) (lines_of s ms) m.edit m.change
    × (All (λ e. LeavesAlone e (seen s m.edit)) (seen_of s ms) × All (λ d. IsBeside d m.change) (changes_of ms))

pub joined : (profile : Profile) (limit : ℕ) (s : Document) (m : MadeEdit) (ms : List MadeEdit)
    → IsOver profile limit s m ms → AreAtOnce profile limit s ms → AreAtOnce profile limit s (m ∷ ms)
joined profile limit s m ms (makes, (alone, beside)) all = (makes, (alone, (beside, all)))

pub over_of : (profile : Profile) (limit : ℕ) (s : Document) (m : MadeEdit) (ms : List MadeEdit)
    → AreAtOnce profile limit s (m ∷ ms) → IsOver profile limit s m ms
over_of profile limit s m ms (makes, (alone, (beside, all))) = (makes, (alone, beside))

-- ---- what holds of each

module _ (s : Document) where
  pub of_seen : (P : Edit → Type 0) (ms : List MadeEdit) → All P (seen_of s ms) → All (λ m. P (seen s m.edit)) ms
  of_seen P [] h = All-nil (λ m. P (seen s m.edit))
  of_seen P (m ∷ ms) h =
      All-cons (λ x. P (seen s x.edit)) m ms (All-head P (seen s m.edit) (seen_of s ms) h)
      (of_seen P ms (All-tail P (seen s m.edit) (seen_of s ms) h))

  pub by_seen : (P : Edit → Type 0) (ms : List MadeEdit) → All (λ m. P (seen s m.edit)) ms → All P (seen_of s ms)
  by_seen P [] h = All-nil P
  by_seen P (m ∷ ms) h =
      All-cons P (seen s m.edit) (seen_of s ms) (All-head (λ x. P (seen s x.edit)) m ms h)
      (by_seen P ms (All-tail (λ x. P (seen s x.edit)) m ms h))

  pub of_changes : (P : TextChange → Type 0) (ms : List MadeEdit) → All P (changes_of ms)
      → All (λ m. P m.change) ms
  of_changes P [] h = All-nil (λ m. P m.change)
  of_changes P (m ∷ ms) h =
      All-cons (λ x. P x.change) m ms (one_of_all P (changes_of ms) m.change h)
      (of_changes P ms (rest_of_all P (changes_of ms) m.change h))

  pub by_changes : (P : TextChange → Type 0) (ms : List MadeEdit) → All (λ m. P m.change) ms
      → All P (changes_of ms)
  by_changes P [] h = All-nil P
  by_changes P (m ∷ ms) h =
      all_with P (changes_of ms) m.change (by_changes P ms (All-tail (λ x. P x.change) m ms h))
      (All-head (λ x. P x.change) m ms h)

  -- the line that one of them adds, if it adds one
  abbrev pub own_lines : MadeEdit → List Added
  own_lines m = with_line s m.edit m.change []

  pub of_lines : (P : Added → Type 0) (ms : List MadeEdit) → All P (lines_of s ms) → All (λ m. All P (own_lines m)) ms
  of_lines P [] h = All-nil (λ m. All P (own_lines m))
  of_lines P (m ∷ ms) h =
      All-cons (λ x. All P (own_lines x)) m ms
      (line_more P s m.edit m.change (lines_of s ms) [] (λ all. All-nil P) h)
      (of_lines P ms (lines_before P s m.edit m.change (lines_of s ms) h))

  pub by_lines : (P : Added → Type 0) (ms : List MadeEdit) → All (λ m. All P (own_lines m)) ms → All P (lines_of s ms)
  by_lines P [] h = All-nil P
  by_lines P (m ∷ ms) h =
      let rest : All P (lines_of s ms) = by_lines P ms (All-tail (λ x. All P (own_lines x)) m ms h) in
      line_more P s m.edit m.change [] (lines_of s ms) (λ none. rest) (All-head (λ x. All P (own_lines x)) m ms h)

-- ---- in another list

-- each is there
all_there : (P : Added → Type 0) (lines more : List Added) → All (λ l. Any (λ x. x ≡ l) more) lines → Any P lines
    → Any P more
all_there P lines more there (n, l, few, same, holds) =
    let (k, x, less, at, is) = there n l few in
    (k, x, less, at, subst P (sym (is ∙ same)) holds)

each_there : (lines : List Added) → All (λ l. Any (λ x. x ≡ l) lines) lines
each_there [] = All-nil (λ l. Any (λ x. x ≡ l) [])
each_there (m ∷ lines) =
    All-cons (λ l. Any (λ x. x ≡ l) (m ∷ lines)) m lines (any_first (λ x. x ≡ m) m lines refl)
    (All-weaker (λ l. Any (λ x. x ≡ l) lines) (λ l. Any (λ x. x ≡ l) (m ∷ lines)) (λ l. any_later (λ x. x ≡ l) m lines)
    lines (each_there lines))

module _ (profile : Profile) (limit : ℕ) (s : Document) (ms others : List MadeEdit)
    (move : (P : MadeEdit → Type 0) → All P ms → All P others) where
  pub seen_moved : (P : Edit → Type 0) → All P (seen_of s ms) → All P (seen_of s others)
  seen_moved P h = by_seen s P others (move (λ m. P (seen s m.edit)) (of_seen s P ms h))

  pub changes_moved : (P : TextChange → Type 0) → All P (changes_of ms) → All P (changes_of others)
  changes_moved P h = by_changes s P others (move (λ m. P m.change) (of_changes s P ms h))

  pub lines_moved : (P : Added → Type 0) → All P (lines_of s ms) → All P (lines_of s others)
  lines_moved P h = by_lines s P others (move (λ m. All P (own_lines s m)) (of_lines s P ms h))

module _ (profile : Profile) (limit : ℕ) (s : Document) (ms others : List MadeEdit)
    (move : (P : MadeEdit → Type 0) → All P ms → All P others)
    (back : (P : MadeEdit → Type 0) → All P others → All P ms) where
  any_moved : (P : Added → Type 0) → Any P (lines_of s ms) → Any P (lines_of s others)
  any_moved P =
      let there : List Added = lines_of s others in
      all_there P (lines_of s ms) there
      (lines_moved profile limit s others ms back (λ l. Any (λ x. x ≡ l) there) (each_there there))

  follows_moved : (f : Edit) (d : TextChange) → Follows profile limit s (lines_of s ms) f d
      → Follows profile limit s (lines_of s others) f d
  follows_moved (insert path value) d h =
      record {
        alone = h.alone;
        header = any_moved (λ l. IsHeaderAt d.at l × (table_of l ≡ holder path (mentions_in s))) h.header;
      }
  follows_moved (set path value) d h = h
  follows_moved (rename path name) d h = h
  follows_moved (remove path) d h = h
  follows_moved (append_table keys) d h = h
  follows_moved (append_element keys) d h = h

  in_place_moved : (f : Edit) (d : TextChange)
      → MakesInPlace profile limit s (seen_of s ms) (changes_of ms) (lines_of s ms) f d
      → MakesInPlace profile limit s (seen_of s others) (changes_of others) (lines_of s others) f d
  in_place_moved f d (inl (makes, placed)) = inl (
    makes,
    placed_over s (seen_of s ms) (seen_of s others) (seen_moved profile limit s ms others move) (lines_of s ms)
        (lines_of s others) (lines_moved profile limit s ms others move) (changes_of ms) (changes_of others)
        (changes_moved profile limit s ms others move) f d placed,
  )
  in_place_moved f d (inr (follows, keeps)) = inr (
    follows_moved f d follows,
    behind_over s (seen_of s ms) (seen_of s others) (seen_moved profile limit s ms others move) (lines_of s ms)
        (lines_of s others) (lines_moved profile limit s ms others move) (changes_of ms) (changes_of others)
        (changes_moved profile limit s ms others move) d keeps,
  )

  pub over_moved : (m : MadeEdit) → IsOver profile limit s m ms → IsOver profile limit s m others
  over_moved m (makes, (alone, beside)) = (
    in_place_moved m.edit m.change makes,
    (
      seen_moved profile limit s ms others move (λ e. LeavesAlone e (seen s m.edit)) alone,
      changes_moved profile limit s ms others move (λ d. IsBeside d m.change) beside,
    ),
  )

-- ---- one of a list further down

pub down : (P : MadeEdit → Type 0) (m : MadeEdit) (bs rest : List MadeEdit) → All P (m ∷ bs ++ rest)
    → All P (bs ++ m ∷ rest)
down P m [] rest h = h
down P m (b ∷ bs) rest h =
    let more : All P (b ∷ bs ++ rest) = All-tail P m (b ∷ bs ++ rest) h in
    All-cons P b (bs ++ m ∷ rest) (All-head P b (bs ++ rest) more)
    (down P m bs rest
    (All-cons P m (bs ++ rest) (All-head P m (b ∷ bs ++ rest) h) (All-tail P b (bs ++ rest) more)))

pub up : (P : MadeEdit → Type 0) (m : MadeEdit) (bs rest : List MadeEdit) → All P (bs ++ m ∷ rest)
    → All P (m ∷ bs ++ rest)
up P m [] rest h = h
up P m (b ∷ bs) rest h =
    let more : All P (m ∷ bs ++ rest) = up P m bs rest (All-tail P b (bs ++ m ∷ rest) h) in
    All-cons P m (b ∷ bs ++ rest) (All-head P m (bs ++ rest) more)
    (All-cons P b (bs ++ rest) (All-head P b (bs ++ m ∷ rest) h) (All-tail P m (bs ++ rest) more))

pub swap : (P : MadeEdit → Type 0) (m b : MadeEdit) (ms : List MadeEdit) → All P (m ∷ b ∷ ms) → All P (b ∷ m ∷ ms)
swap P m b ms = down P m (b ∷ []) ms

pub changes_down : (m : MadeEdit) (bs rest : List MadeEdit) → All (λ b. b.change.at ≢ m.change.at) bs
    → changes_of (bs ++ m ∷ rest) ≡ with_change (changes_of (bs ++ rest)) m.change
changes_down m [] rest apart = refl
changes_down m (b ∷ bs) rest apart =
    ap (λ (l : List TextChange). with_change l b.change)
    (changes_down m bs rest (All-tail (λ x. x.change.at ≢ m.change.at) b bs apart))
    ∙ with_both (changes_of (bs ++ rest)) m.change b.change
    (λ same. All-head (λ x. x.change.at ≢ m.change.at) b bs apart (sym same))

-- ---- those that pass a test, and then the others

module _ (test : MadeEdit → Bool) where
  abbrev pub others : List MadeEdit → List MadeEdit
  others ms = filter (λ m. not (test m)) ms

  abbrev pub sorted : List MadeEdit → List MadeEdit
  sorted ms = filter test ms ++ others ms

  pub goes_first : (m : MadeEdit) (ms : List MadeEdit) → test m ≡ true → sorted (m ∷ ms) ≡ m ∷ sorted ms
  goes_first m ms is = rw (is) refl

  pub goes_down : (m : MadeEdit) (ms : List MadeEdit) → test m ≡ false
      → sorted (m ∷ ms) ≡ filter test ms ++ m ∷ others ms
  goes_down m ms is = rw (is) refl

  pub all_sorted : (P : MadeEdit → Type 0) (ms : List MadeEdit) → All P ms → All P (sorted ms)
  all_sorted P ms h =
      All-append P (filter test ms) (others ms) (All-filter test P ms h) (All-filter (λ m. not (test m)) P ms h)

  pub of_sorted : (P : MadeEdit → Type 0) (ms : List MadeEdit) → All P (sorted ms) → All P ms
  of_sorted P [] h = h
  of_sorted P (m ∷ ms) h = by (test m) refl (of_sorted P ms)
    where
      by : (b : Bool) → test m ≡ b → (All P (sorted ms) → All P ms) → All P (m ∷ ms)
      by true is ih =
          let all : All P (m ∷ sorted ms) = subst (All P) (goes_first m ms is) h in
          All-cons P m ms (All-head P m (sorted ms) all) (ih (All-tail P m (sorted ms) all))
      by false is ih =
          let all : All P (m ∷ sorted ms) =
          up P m (filter test ms) (others ms) (subst (All P) (goes_down m ms is) h) in
          All-cons P m ms (All-head P m (sorted ms) all) (ih (All-tail P m (sorted ms) all))
