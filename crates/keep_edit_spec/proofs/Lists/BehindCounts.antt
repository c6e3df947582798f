-- How many edits come behind a line: as many as add such lines, and as append headers, where the line comes at the end.
--
-- By induction on the edits: each counts on both sides, or on none (`one_edit`), a line by the two kinds (`one_line`).
--
-- Theorem: `counts_behind`.
use Rattle.std.proofs.Common.{◌≡◌, ℕ, ◌+◌, Bool, true, false, cond, List, [], ◌∷◌, length, refl, sym, ap, ap₂, ◌∙◌}
use Rattle.std.proofs.Common.{arith}
use Rattle.std.specs.Prelude.{◌==◌, ◌&&◌}
use Rattle.std.specs.List.{count_by}
use Rattle.std.proofs.lemmas.List.Sums.{length-filter, sum_by-cons}
use Rattle.keep_syntax.specs.Tree.{Document, text}
use Rattle.keep_path.specs.Path.{Part}
use Rattle.keep_edit_spec.specs.Edits.{Edit, append_element, append_table, insert, remove, rename, set}
use Rattle.keep_edit_spec.specs.InsertKinds.{Added, added_as, has_header, is_last_in_body, kind_of, table_of}
use Rattle.keep_edit_spec.specs.LinesAhead.{CountsBehind, comes_before, comes_behind, is_above, is_above_at}
use Rattle.keep_edit_spec.specs.LinesAhead.{is_end_at, is_headed_at, lines_behind, table_in}
use Rattle.keep_edit_spec.specs.RunLists.{MadeEdit, lines_of, made, seen_of}
use Rattle.keep_edit_spec.specs.Runs.{is_header, seen, with_line}
use Rattle.keep_edit_spec.specs.declared.line_kind.LineKind.{LineKind}
use Rattle.keep_edit_spec.specs.declared.line_kind.LineKind.TheVariants.{LastInBody, OfDotted, WithHeader}

abbrev one_if : Bool → ℕ
one_if b = cond b 1 0

-- one element more
more : {A : Type 0} (test : A → Bool) (x : A) (xs : List A)
    → count_by test (x ∷ xs) ≡ one_if (test x) + count_by test xs
more test x xs = sum_by-cons (λ y. one_if (test y)) x xs

-- A line more comes behind one of that kind and table, or doesn't.
one_line : (kind : LineKind) (table : List Part) (at : ℕ) (l : Added) (lines : List Added)
    → lines_behind kind table at (l ∷ lines)
    ≡ one_if ((l.at == at) && comes_before kind table l.kind (table_of l)) + lines_behind kind table at lines
one_line OfDotted table at l lines =
    ap₂ (λ (n m : ℕ). n + m) (more (is_above_at table at) l lines)
    (ap₂ (λ (n m : ℕ). n + m) (more (is_end_at at) l lines) (more (is_headed_at at) l lines))
    ∙ by (l.at == at) l.kind (count_by (is_above_at table at) lines) (count_by (is_end_at at) lines)
    (count_by (is_headed_at at) lines)
  where
    by : (b : Bool) (kind : LineKind) (above ends headed : ℕ)
        → (one_if (b && is_above table kind (table_of l)) + above)
        + ((one_if (b && is_last_in_body kind) + ends) + (one_if (b && has_header kind) + headed))
        ≡ one_if (b && comes_before OfDotted table kind (table_of l)) + (above + (ends + headed))
    by true OfDotted above ends headed = omega arith
    by true LastInBody above ends headed = omega arith
    by true WithHeader above ends headed = omega arith
    by false kind above ends headed = omega arith
one_line LastInBody table at l lines =
    more (is_headed_at at) l lines
    ∙ by (l.at == at) l.kind (count_by (is_headed_at at) lines)
  where
    by : (b : Bool) (kind : LineKind) (headed : ℕ)
        → one_if (b && has_header kind) + headed
        ≡ one_if (b && comes_before LastInBody table kind (table_of l)) + headed
    by true OfDotted headed = refl
    by true LastInBody headed = refl
    by true WithHeader headed = refl
    by false kind headed = refl
one_line WithHeader table at l lines = by (l.at == at) l.kind
  where
    by : (b : Bool) (kind : LineKind) → 0 ≡ one_if (b && comes_before WithHeader table kind (table_of l)) + 0
    by true kind = refl
    by false kind = refl

-- the lines, and the headers if the byte is at the end
abbrev all_behind : Document → LineKind → List Part → ℕ → List MadeEdit → ℕ
all_behind s kind table at ms =
    lines_behind kind table at (lines_of s ms) + cond (at == length (text s)) (count_by is_header (seen_of s ms)) 0

none_behind : (s : Document) (kind : LineKind) (table : List Part) (at : ℕ) → 0 ≡ all_behind s kind table at []
none_behind s kind table at = by kind (at == length (text s))
  where
    by : (kind : LineKind) (b : Bool) → 0 ≡ lines_behind kind table at [] + cond {A = ℕ} b 0 0
    by OfDotted true = omega arith
    by OfDotted false = omega arith
    by LastInBody true = omega arith
    by LastInBody false = omega arith
    by WithHeader true = omega arith
    by WithHeader false = omega arith

-- one header more, or one line more or none
one_header : (end : Bool) (lines headers now : ℕ) → now ≡ 1 + headers
    → lines + cond end now 0 ≡ one_if end + (lines + cond end headers 0)
one_header true lines headers now is = omega (arith, is)
one_header false lines headers now is = omega arith

no_header : (end : Bool) (one lines headers more now : ℕ) → more ≡ one + lines → now ≡ headers
    → more + cond end now 0 ≡ one + (lines + cond end headers 0)
no_header true one lines headers more now line is = omega (arith, line, is)
no_header false one lines headers more now line is = omega (arith, line)

-- so one edit more
one_edit : (s : Document) (kind : LineKind) (table : List Part) (at : ℕ) (m : MadeEdit) (ms : List MadeEdit)
    → all_behind s kind table at (m ∷ ms) ≡ one_if (comes_behind s kind table at m) + all_behind s kind table at ms
one_edit s kind table at m ms = by m.edit
  where
    headed : (e : Edit) → is_header (seen s e) ≡ true
        → count_by is_header (seen s e ∷ seen_of s ms) ≡ 1 + count_by is_header (seen_of s ms)
    headed e is =
        more is_header (seen s e) (seen_of s ms)
        ∙ ap (λ (b : Bool). one_if b + count_by is_header (seen_of s ms)) is

    other : (e : Edit) → is_header (seen s e) ≡ false
        → count_by is_header (seen s e ∷ seen_of s ms) ≡ count_by is_header (seen_of s ms)
    other e is =
        more is_header (seen s e) (seen_of s ms)
        ∙ ap (λ (b : Bool). one_if b + count_by is_header (seen_of s ms)) is
        ∙ omega arith

    header : (e : Edit) → is_header (seen s e) ≡ true
        → lines_behind kind table at (lines_of s ms)
        + cond (at == length (text s)) (count_by is_header (seen s e ∷ seen_of s ms)) 0
        ≡ one_if (at == length (text s)) + all_behind s kind table at ms
    header e is =
        one_header (at == length (text s)) (lines_behind kind table at (lines_of s ms))
        (count_by is_header (seen_of s ms)) (count_by is_header (seen s e ∷ seen_of s ms)) (headed e is)

    neither : (e : Edit) → is_header (seen s e) ≡ false
        → lines_behind kind table at (lines_of s ms)
        + cond (at == length (text s)) (count_by is_header (seen s e ∷ seen_of s ms)) 0
        ≡ 0 + all_behind s kind table at ms
    neither e is =
        no_header (at == length (text s)) 0 (lines_behind kind table at (lines_of s ms))
        (count_by is_header (seen_of s ms)) (lines_behind kind table at (lines_of s ms))
        (count_by is_header (seen s e ∷ seen_of s ms)) (omega arith) (other e is)

    by : (e : Edit)
        → lines_behind kind table at (with_line s e m.change (lines_of s ms))
        + cond (at == length (text s)) (count_by is_header (seen s e ∷ seen_of s ms)) 0
        ≡ one_if (comes_behind s kind table at (made e m.change)) + all_behind s kind table at ms
    by (insert path value) =
        no_header (at == length (text s))
        (one_if ((m.change.at == at) && comes_before kind table (kind_of s path) (table_in s path)))
        (lines_behind kind table at (lines_of s ms)) (count_by is_header (seen_of s ms))
        (lines_behind kind table at (added_as s path m.change ∷ lines_of s ms))
        (count_by is_header (seen s (insert path value) ∷ seen_of s ms))
        (one_line kind table at (added_as s path m.change) (lines_of s ms)) (other (insert path value) refl)
    by (append_table keys) = header (append_table keys) refl
    by (append_element keys) = header (append_element keys) refl
    by (set path value) = neither (set path value) refl
    by (rename path name) = neither (rename path name) refl
    by (remove path) = neither (remove path) refl

pub counts_behind : CountsBehind
counts_behind s kind table at ms = length-filter (comes_behind s kind table at) ms ∙ count ms
  where
    count : (l : List MadeEdit) → count_by (comes_behind s kind table at) l ≡ all_behind s kind table at l
    count [] = none_behind s kind table at
    count (m ∷ l) =
        more (comes_behind s kind table at) m l
        ∙ ap (λ (n : ℕ). one_if (comes_behind s kind table at m) + n) (count l)
        ∙ sym (one_edit s kind table at m l)
