-- Edits that come behind a line of some kind and table at some byte, and those that don't.
--
-- Of tables that dotted keys make, the lines of those above come behind: what is below a table is below each above that
-- (`below_above`).
-- One that comes behind it makes its change at that byte and takes nothing (`at_byte`), and what it leaves alone leaves
-- it alone (`left_back`). One that doesn't, but comes over one that does, makes its change elsewhere (`elsewhere`): a
-- line at that byte can't come after a line behind which it should have come (`not_after`), nor one of any kind after a
-- header that is appended there (`no_line_there`). What takes bytes is beside the line, so it takes none from there on.
--
-- Theorems: `below_more`, `left_below`, `below_is`: of tables; `before_header`; `table_back`, `element_back`,
-- `insert_back`, `at_byte`, `left_back`, `ends_elsewhere`, `elsewhere`.
use Rattle.std.proofs.Common.{◌≡◌, ◌≢◌, ◌⊎◌, ℕ, Bool, true, false, ◌&&◌, List, [], ◌∷◌, ◌++◌, length, All, Option}
use Rattle.std.proofs.Common.{None, Some, refl, sym, subst, ap, ◌∙◌, append_assoc, arith, inl, inr}
use Rattle.std.specs.Prelude.{IsTrue, ◌==◌}
use Rattle.std.specs.List.{list_any}
use Rattle.std.proofs.lemmas.Bool.{and_parts, eq-eqb, eqb-true, or_parts}
use Rattle.std.proofs.lemmas.List.Elements.{All-head}
use Rattle.keep_types.specs.declared.leaf.Profile.{Profile}
use Rattle.keep_syntax.specs.Tree.{Document, Value, text}
use Rattle.keep_path.specs.Path.{Part, strip}
use Rattle.keep_edit_spec.specs.AddedLines.{first_new}
use Rattle.keep_edit_spec.specs.Edits.{Edit, append_element, append_table, insert, remove, rename, set}
use Rattle.keep_edit_spec.specs.DottedLines.{IsAtOrBelow}
use Rattle.keep_edit_spec.specs.InsertKinds.{Added, IsAfterAs, IsAfterLine, added_as, kind_of, table_of}
use Rattle.keep_edit_spec.specs.Laws.{IsEditable}
use Rattle.keep_edit_spec.specs.LinesAhead.{comes_before, comes_behind, is_below, table_in}
use Rattle.keep_edit_spec.specs.RunLists.{Follows, MadeEdit, MakesInPlace, changes_of, lines_of, made, seen_of}
use Rattle.keep_edit_spec.specs.Runs.{IsBeforeHeaders, LeavesAlone, MakesChange, is_header, is_insert, seen, with_line}
use Rattle.keep_edit_spec.specs.TextChanges.{IsBeside, TextChange}
use Rattle.keep_edit_spec.specs.declared.line_kind.LineKind.{LineKind}
use Rattle.keep_edit_spec.specs.declared.line_kind.LineKind.TheVariants.{LastInBody, OfDotted, WithHeader}
use Rattle.keep_edit_spec.proofs.Common.Runs.{strip-append, strip-sound}
use Rattle.keep_edit_spec.proofs.Lists.LineKinds.{kind_is}
use Rattle.keep_edit_spec.proofs.Lists.MadeChanges.{added}
use Rattle.keep_edit_spec.proofs.Lists.OtherOrder.{IsOver}
use Rattle.keep_edit_spec.proofs.Lists.PlacesKept.{change_placed}

-- ---- tables

-- what is left of a path below another one
pub below_more : (path above : List Part) → is_below path above ≡ true
    → (p : Part) × ((ps : List Part) × (path ≡ above ++ p ∷ ps))
below_more path above is = by (strip above path) refl is
  where
    some_left : (more : List Part) → strip above path ≡ Some more
        → elim more [ [] ↦ false | p ∷ ps ↦ true ] ≡ true
        → (p : Part) × ((ps : List Part) × (path ≡ above ++ p ∷ ps))
    some_left [] left is = absurd cc
    some_left (p ∷ ps) left is = (p, (ps, strip-sound above path (p ∷ ps) left))

    by : (o : Option (List Part)) → strip above path ≡ o
        → elim o [ None ↦ false | Some more ↦ elim more [ [] ↦ false | p ∷ ps ↦ true ] ] ≡ true
        → (p : Part) × ((ps : List Part) × (path ≡ above ++ p ∷ ps))
    by None left is = absurd cc
    by (Some more) left is = some_left more left is

-- and the other way round
pub left_below : (path above : List Part) (p : Part) (ps : List Part) → path ≡ above ++ p ∷ ps
    → is_below path above ≡ true
left_below path above p ps is = rw (is_below, is, strip-append above (p ∷ ps)) refl

-- A path below another one is that or below it.
pub below_is : (path above : List Part) → is_below path above ≡ true → IsAtOrBelow path above
below_is path above is = let (p, (ps, left)) = below_more path above is in (p ∷ ps, left)

-- What is below a path is below each that the path is at or below.
below_above : (path middle above : List Part) → is_below path middle ≡ true → IsAtOrBelow middle above
    → is_below path above ≡ true
below_above path middle above is (more, left) =
    let (p, (ps, far)) = below_more path middle is in
    by p ps more (far ∙ ap (λ (q : List Part). q ++ p ∷ ps) left ∙ append_assoc above more (p ∷ ps))
  where
    by : (p : Part) (ps m : List Part) → path ≡ above ++ (m ++ p ∷ ps) → is_below path above ≡ true
    by p ps [] whole = left_below path above p ps whole
    by p ps (q ∷ m) whole = left_below path above q (m ++ p ∷ ps) whole

-- ---- kinds of lines

-- Of two lines at one byte, of which the first comes behind a line of some kind and table and the second does not, the
-- second does not come after the first.
not_after : (a : LineKind) (t : List Part) (l m : Added) → comes_before a t l.kind (table_of l) ≡ true
    → comes_before a t m.kind (table_of m) ≡ false → l.at ≡ m.at → IsAfterLine l m → ⊥
not_after a t l m later other same = by a l.kind m.kind refl later other
  where
    by : (a k n : LineKind) → l.kind ≡ k → comes_before a t k (table_of l) ≡ true
        → comes_before a t n (table_of m) ≡ false → IsAfterAs n l m → ⊥
    by OfDotted OfDotted OfDotted is later other after =
        let below : is_below t (table_of m) ≡ true =
        below_above t (table_of l) (table_of m) later (after same).1 in
        absurd cc
    by OfDotted LastInBody OfDotted is later other after =
        let both : LastInBody ≡ OfDotted = sym is ∙ (after same).0 in absurd cc
    by OfDotted WithHeader OfDotted is later other after =
        let both : WithHeader ≡ OfDotted = sym is ∙ (after same).0 in absurd cc
    by OfDotted k LastInBody is later other after = absurd cc
    by OfDotted k WithHeader is later other after = absurd cc
    by LastInBody WithHeader OfDotted is later other after =
        let both : WithHeader ≡ OfDotted = sym is ∙ (after same).0 in absurd cc
    by LastInBody WithHeader LastInBody is later other after = after same is
    by LastInBody OfDotted n is later other after = absurd cc
    by LastInBody LastInBody n is later other after = absurd cc
    by LastInBody k WithHeader is later other after = absurd cc
    by WithHeader k n is later other after = absurd cc

-- A line that comes before any comes before one with a header.
pub before_header : (a k : LineKind) (t u v : List Part) → comes_before a t k u ≡ true
    → comes_before a t WithHeader v ≡ true
before_header OfDotted k t u v is = refl
before_header LastInBody k t u v is = refl
before_header WithHeader k t u v is = absurd cc

-- What appends a header is left alone by what it leaves alone.
pub table_back : (keys : List (List ℕ)) (f : Edit) → LeavesAlone (append_table keys) f
    → LeavesAlone f (append_table keys)
table_back keys (insert other more) h = h
table_back keys (remove other) h = h
table_back keys (set other more) h = h
table_back keys (rename other name) h = h
table_back keys (append_table more) h = λ same. h (sym same)
table_back keys (append_element more) h = (h.1, h.0)

pub element_back : (keys : List (List ℕ)) (f : Edit) → LeavesAlone (append_element keys) f
    → LeavesAlone f (append_element keys)
element_back keys (insert other more) h = h
element_back keys (remove other) h = h
element_back keys (set other more) h = h
element_back keys (rename other name) h = h
element_back keys (append_table more) h = (h.1, h.0)
element_back keys (append_element more) (inl same) = inl (sym same)
element_back keys (append_element more) (inr apart) = inr (apart.1, apart.0)

-- So is an insert.
pub insert_back : (path : List Part) (value : Value) (f : Edit) → LeavesAlone (insert path value) f
    → LeavesAlone f (insert path value)
insert_back path value (insert other more) h = λ same. h (sym same)
insert_back path value (remove other) h = (h.1, h.0)
insert_back path value (set other more) h = (h.1, h.0)
insert_back path value (rename other name) h = ((h.0.1, h.0.0), h.1)
insert_back path value (append_table keys) h = h
insert_back path value (append_element keys) h = h

-- no insert comes where a header is appended, after edits of which one appends it
no_line_there : (bytes : List ℕ) (e : Edit) (edits : List Edit) (at : ℕ) → is_header e ≡ true → is_insert e ≡ false
    → at ≡ length bytes → All (λ f. IsTrue (is_insert f)) (e ∷ edits) ⊎ IsBeforeHeaders bytes (e ∷ edits) at → ⊥
no_line_there bytes e edits at head line end (inl all) =
    let one : is_insert e ≡ true = All-head (λ f. IsTrue (is_insert f)) e edits all in absurd cc
no_line_there bytes e edits at head line end (inr (inl none)) =
    let no_one = (or_parts (is_header e) (list_any is_header edits) none).0 in absurd cc
no_line_there bytes e edits at head line end (inr (inr elsewhere)) = elsewhere end

-- ---- one that comes behind a line

-- it comes behind a line of that kind at that byte
abbrev pub IsBehind : Document → LineKind → List Part → ℕ → MadeEdit → Type 0
IsBehind s kind table at m = comes_behind s kind table at m ≡ true

abbrev pub IsNotBehind : Document → LineKind → List Part → ℕ → MadeEdit → Type 0
IsNotBehind s kind table at m = comes_behind s kind table at m ≡ false

module _ (profile : Profile) (limit : ℕ) (s : Document) (fine : IsEditable profile limit s) (kind : LineKind)
    (table : List Part) (c : TextChange) (none : c.size ≡ 0) where
  -- its change is at the byte of the line
  pub at_byte : (b : MadeEdit) (edits : List Edit) (changes : List TextChange) (lines : List Added)
      → IsBehind s kind table c.at b
      → MakesInPlace profile limit s edits changes lines b.edit b.change
      → (b.change.at ≡ c.at) × (b.change.size ≡ 0)
  at_byte b edits changes lines = by b.edit b.change
    where
      header_there : (e : Edit) (d : TextChange) → MakesChange profile limit s e d → is_insert e ≡ false
          → d.size ≡ 0 → (c.at == length (text s)) ≡ true → (d.at ≡ c.at) × (d.size ≡ 0)
      header_there e d makes other zero_size end =
          elim ((change_placed profile limit s e d fine makes).takes other) [
            | inl some ↦ absurd (omega (arith, some, zero_size))
            | inr (head, (size, there)) ↦ (there ∙ sym (eqb-true c.at (length (text s)) end), size)
          ]

      line_there : (path : List Part) (value : Value) (d : TextChange)
          → MakesInPlace profile limit s edits changes lines (insert path value) d → d.size ≡ 0
      line_there path value d (inl (makes, placed)) = (added profile limit s path value d makes).adds
      line_there path value d (inr (follows, keeps)) = follows.alone.adds

      by : (e : Edit) (d : TextChange) → IsBehind s kind table c.at (made e d)
          → MakesInPlace profile limit s edits changes lines e d → (d.at ≡ c.at) × (d.size ≡ 0)
      by (insert path value) d is makes = (
        eqb-true d.at c.at (and_parts (d.at == c.at) (comes_before kind table (kind_of s path) (table_in s path)) is).0,
        line_there path value d makes,
      )
      by (append_table keys) d is (inl (makes, placed)) = header_there (append_table keys) d makes refl makes.adds is
      by (append_table keys) d is (inr (follows, keeps)) = absurd follows
      by (append_element keys) d is (inl (makes, placed)) =
          header_there (append_element keys) d makes refl makes.adds is
      by (append_element keys) d is (inr (follows, keeps)) = absurd follows
      by (set path value) d is makes = absurd cc
      by (rename path name) d is makes = absurd cc
      by (remove path) d is makes = absurd cc

  -- it is left alone by what it leaves alone
  pub left_back : (b : MadeEdit) (f : Edit) → IsBehind s kind table c.at b → LeavesAlone (seen s b.edit) f
      → LeavesAlone f (seen s b.edit)
  left_back b f = by b.edit
    where
      by : (e : Edit) → IsBehind s kind table c.at (made e b.change) → LeavesAlone (seen s e) f
          → LeavesAlone f (seen s e)
      by (insert path value) is = insert_back (first_new s path) value f
      by (append_table keys) is = table_back keys f
      by (append_element keys) is = element_back keys f
      by (set path value) is = absurd cc
      by (rename path name) is = absurd cc
      by (remove path) is = absurd cc

  -- ---- one that does not

  -- no header that it appends comes there
  pub ends_elsewhere : (m : MadeEdit) → IsNotBehind s kind table c.at m → is_header (seen s m.edit) ≡ true
      → c.at ≢ length (text s)
  ends_elsewhere m = by m.edit
    where
      by : (e : Edit) → IsNotBehind s kind table c.at (made e m.change) → is_header (seen s e) ≡ true
          → c.at ≢ length (text s)
      by (append_table keys) is head = λ same. (let there = eq-eqb c.at (length (text s)) same in absurd cc)
      by (append_element keys) is head = λ same. (let there = eq-eqb c.at (length (text s)) same in absurd cc)
      by (insert path value) is head = absurd cc
      by (set path value) is head = absurd cc
      by (rename path name) is head = absurd cc
      by (remove path) is head = absurd cc

  other_elsewhere : (e : Edit) (d : TextChange) → MakesChange profile limit s e d → is_insert e ≡ false
      → (is_header e ≡ true → c.at ≢ length (text s)) → IsBeside d c → d.at ≢ c.at
  other_elsewhere e d makes other ends side same =
      elim ((change_placed profile limit s e d fine makes).takes other) [
        | inl some ↦ elim side [
          | inl before ↦ omega (arith, some, before, same)
          | inr after ↦ omega (arith, after.0, same)
        ]
        | inr (head, (zero_size, end)) ↦ ends head (sym same ∙ end)
      ]

  -- an insert over others, of which the first comes behind the line
  module _ (path : List Part) (value : Value) (d : TextChange)
      (other : IsNotBehind s kind table c.at (made (insert path value) d)) (edits : List Edit)
      (changes : List TextChange) (lines : List Added) where
    -- after these lines, if it makes its change of the first document
    abbrev OverThese : List Edit → List Added → Type 0
    OverThese before there = MakesInPlace profile limit s before changes there (insert path value) d

    comes_first : d.at ≡ c.at → comes_before kind table (kind_of s path) (table_in s path) ≡ false
    comes_first same =
        subst (λ (b : Bool). (b && comes_before kind table (kind_of s path) (table_in s path)) ≡ false)
        (eq-eqb d.at c.at same) other

    behind_line : (l : Added) (before : List Edit)
        → (l.at ≡ c.at) × (comes_before kind table l.kind (table_of l) ≡ true)
        → OverThese before (l ∷ lines) → d.at ≢ c.at
    behind_line l before (there, later) (inl (makes, placed)) same =
        let its : Added = added_as s path d in
        not_after kind table l its later (comes_first same) (there ∙ sym same)
        (All-head (λ x. IsAfterLine x its) l lines placed.0.after)
    behind_line l before (there, later) (inr (follows, keeps)) same =
        let head : kind_of s path ≡ WithHeader =
        kind_is WithHeader profile limit s path value follows.alone.whole follows.alone.brings in
        let first : comes_before kind table (kind_of s path) (table_in s path) ≡ true =
        subst (λ (k : LineKind). comes_before kind table k (table_in s path) ≡ true) (sym head)
        (before_header kind l.kind table (table_of l) (table_in s path) later) in
        let none : comes_before kind table (kind_of s path) (table_in s path) ≡ false = comes_first same in
        absurd cc

    alike_there : (before : List Edit) (there : List Added) → OverThese before there
        → All (λ f. IsTrue (is_insert f)) before ⊎ IsBeforeHeaders (text s) before d.at
    alike_there before there (inl (makes, (order, inl all))) = inl all
    alike_there before there (inl (makes, (order, inr (plain, (lets, ends))))) = inr ends
    alike_there before there (inr (follows, (clear, inl all))) = inl all
    alike_there before there (inr (follows, (clear, inr (plain, ends)))) = inr ends

    behind_header : (e : Edit) → is_header e ≡ true → is_insert e ≡ false → (c.at == length (text s)) ≡ true
        → OverThese (e ∷ edits) lines → d.at ≢ c.at
    behind_header e head line end makes same =
        no_line_there (text s) e edits d.at head line (same ∙ eqb-true c.at (length (text s)) end)
        (alike_there (e ∷ edits) lines makes)

    line_elsewhere : (b : MadeEdit) → IsBehind s kind table c.at b
        → OverThese (seen s b.edit ∷ edits) (with_line s b.edit b.change lines) → d.at ≢ c.at
    line_elsewhere b = by b.edit b.change
      where
        by : (e : Edit) (x : TextChange) → IsBehind s kind table c.at (made e x)
            → OverThese (seen s e ∷ edits) (with_line s e x lines) → d.at ≢ c.at
        by (insert other more) x is makes =
            let parts = and_parts (x.at == c.at) (comes_before kind table (kind_of s other) (table_in s other)) is in
            behind_line (added_as s other x) (seen s (insert other more) ∷ edits) (eqb-true x.at c.at parts.0, parts.1)
            makes
        by (append_table keys) x is makes = behind_header (append_table keys) refl refl is makes
        by (append_element keys) x is makes = behind_header (append_element keys) refl refl is makes
        by (set path value) x is makes = absurd cc
        by (rename path name) x is makes = absurd cc
        by (remove path) x is makes = absurd cc

  pub elsewhere : (m b : MadeEdit) (ms : List MadeEdit) → IsBehind s kind table c.at b → IsNotBehind s kind table c.at m
      → IsBeside m.change c → IsOver profile limit s m (b ∷ ms) → m.change.at ≢ c.at
  elsewhere m b ms is other side (makes, rest) = by m.edit m.change other side makes
    where
      not_line : (e : Edit) (d : TextChange) → (Follows profile limit s (lines_of s (b ∷ ms)) e d → ⊥)
          → is_insert e ≡ false → (is_header e ≡ true → c.at ≢ length (text s)) → IsBeside d c
          → MakesInPlace profile limit s (seen_of s (b ∷ ms)) (changes_of (b ∷ ms)) (lines_of s (b ∷ ms)) e d
          → d.at ≢ c.at
      not_line e d follows_none no_insert ends near (inl (its, placed)) =
          other_elsewhere e d its no_insert ends near
      not_line e d follows_none no_insert ends near (inr (follows, keeps)) = absurd (follows_none follows)

      by : (e : Edit) (d : TextChange) → IsNotBehind s kind table c.at (made e d) → IsBeside d c
          → MakesInPlace profile limit s (seen_of s (b ∷ ms)) (changes_of (b ∷ ms)) (lines_of s (b ∷ ms)) e d
          → d.at ≢ c.at
      by (insert path value) d differs near it =
          line_elsewhere path value d differs (seen_of s ms) (changes_of (b ∷ ms)) (lines_of s ms) b is it
      by (append_table keys) d differs near it =
          not_line (append_table keys) d (λ never. never) refl
          (ends_elsewhere (made (append_table keys) d) differs) near it
      by (append_element keys) d differs near it =
          not_line (append_element keys) d (λ never. never) refl
          (ends_elsewhere (made (append_element keys) d) differs) near it
      by (set path value) d differs near it =
          not_line (set path value) d (λ never. never) refl (λ head. absurd cc) near it
      by (rename path name) d differs near it =
          not_line (rename path name) d (λ never. never) refl (λ head. absurd cc) near it
      by (remove path) d differs near it = not_line (remove path) d (λ never. never) refl (λ head. absurd cc) near it
