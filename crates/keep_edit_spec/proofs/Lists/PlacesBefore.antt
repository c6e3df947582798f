-- A new line or header that keeps its place after some edits keeps it after fewer of them, and in any other order.
--
-- What is asked is asked of each edit, of each line and of each change, so of fewer too. Among edits of any kind more
-- is asked (`keeps_place`), and nothing of a remove (`among_with_remove`).
--
-- Theorems: `placed_over`; `behind_over`: of a line behind a header that came; without one of the changes:
-- `placed_before`, and among edits of any kind `among_before`; `behind_before`; `keeps_place`, `among_with_remove`.
use Rattle.std.proofs.Common.{◌≡◌, ℕ, ◌<◌, Bool, false, List, [], ◌∷◌, length, suc, All, ◌⊎◌, inl, inr}
use Rattle.std.specs.Prelude.{IsTrue}
use Rattle.std.specs.List.{list_any}
use Rattle.std.proofs.lemmas.Bool.{or_parts}
use Rattle.std.proofs.lemmas.List.Elements.{All-cons, All-nil, All-weaker}
use Rattle.std.proofs.lemmas.List.Folds.{list_any_none}
use Rattle.keep_syntax.specs.Tree.{Document, text}
use Rattle.keep_path.specs.Path.{Part}
use Rattle.keep_edit_spec.specs.Edits.{Edit, append_element, append_table, insert, remove, rename, set}
use Rattle.keep_edit_spec.specs.ElementRuns.{KeepsPlaceAmong}
use Rattle.keep_edit_spec.specs.FirstNewline.{LeavesNewline}
use Rattle.keep_edit_spec.specs.InsertKinds.{Added, IsAfterLine, added_as}
use Rattle.keep_edit_spec.specs.Runs.{LeaveNewline, IsBeforeHeaders, IsInOrder, LeaveNewlineBefore, KeepsPlace}
use Rattle.keep_edit_spec.specs.Runs.{IsNoSecond, LetsCome, LetsTable, is_header, is_insert, takes_up_to}
use Rattle.keep_edit_spec.specs.RunLists.{KeepsBehind}
use Rattle.keep_edit_spec.specs.TextChanges.{IsBeside, TextChange, change_at, with_change}
use Rattle.keep_edit_spec.proofs.Lists.TextChanges.{rest_of_all}

module _ (bytes : List ℕ) (changes fewer : List TextChange)
    (have : (P : TextChange → Type 0) → All P changes → All P fewer) where
  lets_over : (at : ℕ) → All (LetsCome bytes changes at) changes → All (LetsCome bytes fewer at) fewer
  lets_over at all =
      All-weaker (LetsCome bytes changes at) (LetsCome bytes fewer at) by fewer (have (LetsCome bytes changes at) all)
    where
      by : (x : TextChange) → LetsCome bytes changes at x → LetsCome bytes fewer at x
      by x (inl clear) = inl clear
      by x (inr h) = inr (record {
        takes = h.takes;
        said = h.said;
        stays = have (λ y. IsBeside y (change_at h.said.from (suc (length h.said.line)) [])) h.stays;
        alone = have (λ y. y.at ≡ x.at → 0 < y.size) h.alone;
      })

pub each_none : {A : Type 0} (test : A → Bool) (xs : List A) → list_any test xs ≡ false → All (λ x. test x ≡ false) xs
each_none test [] none = All-nil (λ x. test x ≡ false)
each_none test (x ∷ xs) none =
    let parts = or_parts (test x) (list_any test xs) none in
    All-cons (λ y. test y ≡ false) x xs parts.0 (each_none test xs parts.1)

-- what holds of each of the edits holds of each of the fewer, and of the lines, and of the changes
module _ (s : Document) (edits fewer : List Edit) (are : (P : Edit → Type 0) → All P edits → All P fewer)
    (lines less : List Added) (each : (P : Added → Type 0) → All P lines → All P less)
    (changes some : List TextChange) (have : (P : TextChange → Type 0) → All P changes → All P some) where
  abbrev bytes : List ℕ
  bytes = text s

  pub headers_over : (at : ℕ) → IsBeforeHeaders bytes edits at → IsBeforeHeaders bytes fewer at
  headers_over at (inl none) =
      inl (list_any_none is_header fewer (are (λ e. is_header e ≡ false) (each_none is_header edits none)))
  headers_over at (inr before) = inr before

  none_over : (at : ℕ) → list_any (takes_up_to at) changes ≡ false → list_any (takes_up_to at) some ≡ false
  none_over at none =
      list_any_none (takes_up_to at) some
      (have (λ x. takes_up_to at x ≡ false) (each_none (takes_up_to at) changes none))

  clear_over : (at : ℕ) → LeaveNewlineBefore s changes at → LeaveNewlineBefore s some at
  clear_over at (leave, clear) = (have (LeavesNewline s) leave, none_over at clear)

  order_over : (line : Added) → IsInOrder edits changes lines line → IsInOrder fewer some less line
  order_over line order = record {
    after = each (λ l. IsAfterLine l line) order.after;
    stays = λ is. none_over line.at (order.stays is);
    passed = are (LetsTable line) order.passed;
  }

  header_over : (at : ℕ) → All (λ e. IsTrue (is_header e)) edits ⊎ LeaveNewlineBefore s changes at
      → All (λ e. IsTrue (is_header e)) fewer ⊎ LeaveNewlineBefore s some at
  header_over at (inl all) = inl (are (λ x. IsTrue (is_header x)) all)
  header_over at (inr plain) = inr (clear_over at plain)

  -- where a line can come among others
  abbrev AreLet : List Edit → List TextChange → ℕ → Type 0
  AreLet edits changes at =
      LeaveNewline s changes × (All (LetsCome bytes changes at) changes × IsBeforeHeaders bytes edits at)

  let_over : (at : ℕ) → AreLet edits changes at → AreLet fewer some at
  let_over at (leave, (lets, before)) = (
    have (LeavesNewline s) leave,
    (lets_over bytes changes some have at lets, headers_over at before),
  )

  pub behind_over : (d : TextChange) → KeepsBehind s edits changes d → KeepsBehind s fewer some d
  behind_over d (clear, h) = (
    none_over d.at clear,
    elim h [
      | inl all ↦ inl (are (λ x. IsTrue (is_insert x)) all)
      | inr (leave, before) ↦ inr (have (LeavesNewline s) leave, headers_over d.at before)
    ],
  )

  pub placed_over : (f : Edit) (d : TextChange) → KeepsPlace s edits changes lines f d
      → KeepsPlace s fewer some less f d
  placed_over (insert path value) d (order, h) = (
    order_over (added_as s path d) order,
    elim h [
      | inl all ↦ inl (are (λ x. IsTrue (is_insert x)) all)
      | inr lets ↦ inr (let_over d.at lets)
    ],
  )
  placed_over (append_table keys) d (passed, h) = (each (IsNoSecond keys) passed, header_over d.at h)
  placed_over (append_element keys) d (passed, h) = (each (IsNoSecond keys) passed, header_over d.at h)
  placed_over (remove path) d h = tt
  placed_over (set path value) d h = tt
  placed_over (rename path name) d h = tt

  among_over : (f : Edit) (d : TextChange) → KeepsPlaceAmong s edits changes lines f d
      → KeepsPlaceAmong s fewer some less f d
  among_over (insert path value) d (order, lets) = (order_over (added_as s path d) order, let_over d.at lets)
  among_over (append_table keys) d (passed, plain) = (each (IsNoSecond keys) passed, clear_over d.at plain)
  among_over (append_element keys) d (passed, plain) = (each (IsNoSecond keys) passed, clear_over d.at plain)
  among_over (remove path) d h = tt
  among_over (set path value) d h = tt
  among_over (rename path name) d h = tt

-- the same without one of the changes
module _ (s : Document) (edits fewer : List Edit) (are : (P : Edit → Type 0) → All P edits → All P fewer)
    (lines less : List Added) (each : (P : Added → Type 0) → All P lines → All P less)
    (changes : List TextChange) (c : TextChange) where
  others : (P : TextChange → Type 0) → All P (with_change changes c) → All P changes
  others P = rest_of_all P changes c

  pub behind_before : (d : TextChange) → KeepsBehind s edits (with_change changes c) d → KeepsBehind s fewer changes d
  behind_before = behind_over s edits fewer are lines less each (with_change changes c) changes others

  pub placed_before : (f : Edit) (d : TextChange) → KeepsPlace s edits (with_change changes c) lines f d
      → KeepsPlace s fewer changes less f d
  placed_before = placed_over s edits fewer are lines less each (with_change changes c) changes others

  pub among_before : (f : Edit) (d : TextChange) → KeepsPlaceAmong s edits (with_change changes c) lines f d
      → KeepsPlaceAmong s fewer changes less f d
  among_before = among_over s edits fewer are lines less each (with_change changes c) changes others

-- ---- among edits of any kind

-- What keeps its place among edits of any kind keeps it.
pub keeps_place : (s : Document) (edits : List Edit) (changes : List TextChange) (lines : List Added) (f : Edit)
    (d : TextChange) → KeepsPlaceAmong s edits changes lines f d → KeepsPlace s edits changes lines f d
keeps_place s edits changes lines (insert path value) d (order, lets) = (order, inr lets)
keeps_place s edits changes lines (append_table keys) d (passed, plain) = (passed, inr plain)
keeps_place s edits changes lines (append_element keys) d (passed, plain) = (passed, inr plain)
keeps_place s edits changes lines (remove path) d h = tt
keeps_place s edits changes lines (set path value) d h = tt
keeps_place s edits changes lines (rename path name) d h = tt

-- A remove is one more of these: it writes neither a line nor a header.
pub among_with_remove : (s : Document) (edits : List Edit) (changes : List TextChange) (lines : List Added)
    (gone : List Part) (f : Edit) (d : TextChange)
    → KeepsPlaceAmong s edits changes lines f d → KeepsPlaceAmong s (remove gone ∷ edits) changes lines f d
among_with_remove s edits changes lines gone (insert path value) d (order, lets) = (
  record {
    after = order.after;
    stays = order.stays;
    passed = All-cons (LetsTable (added_as s path d)) (remove gone) edits tt order.passed;
  },
  lets,
)
among_with_remove s edits changes lines gone (append_table keys) d h = h
among_with_remove s edits changes lines gone (append_element keys) d h = h
among_with_remove s edits changes lines gone (remove path) d h = tt
among_with_remove s edits changes lines gone (set path value) d h = tt
among_with_remove s edits changes lines gone (rename path name) d h = tt
