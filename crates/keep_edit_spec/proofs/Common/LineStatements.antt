-- New lines put into a document, or lines taken out: its statements are then those of the lines before and after, and
-- of the new ones.
--
-- Theorems: `put_statements`: new lines; `dropped_statements`: lines taken out; `reading_statements`: the reading after
-- lines is that after their statements.
use Rattle.std.proofs.Common.{◌≡◌, ℕ, zero, suc, ◌≤◌, List, [], ◌∷◌, ◌++◌, length, map, take, drop, refl, sym, ap, ◌∙◌}
use Rattle.std.proofs.Common.{append_assoc, arith, Option, Some, None}
use Rattle.std.specs.List.{cons_option, filter_map}
use Rattle.std.proofs.lemmas.List.{append-nil, map-append}
use Rattle.std.proofs.lemmas.List.Elements.{filter_map-append}
use Rattle.keep_syntax.specs.Tree.{Written, Line, Ended}
use Rattle.keep_syntax.specs.WholeLines.{empty_line}
use Rattle.keep_meaning.specs.Counts.{line_statement}
use Rattle.keep_meaning.specs.Marks.{Reading, Statement, next_reading, reading_after}
use Rattle.keep_meaning.specs.Meaning.{line_of, reading_after_lines, statement_of}
use Rattle.keep_edit_spec.specs.Lines.{drop_lines, drop_prefix, put_lines}
use Rattle.keep_edit_spec.proofs.Common.SetDocument.{page_lines}

abbrev pub statements_of : List Line → List Statement
statements_of ls = filter_map line_statement ls

pub statements-append : (xs ys : List Line) → statements_of (xs ++ ys) ≡ statements_of xs ++ statements_of ys
statements-append xs ys = filter_map-append line_statement xs ys

-- new lines before line n; where n is the number of all lines, after the last
pub put_statements : (n : ℕ) (new : List Ended) (newline : Written) (es : List Ended) (last : Line)
    → n ≤ suc (length es)
    → statements_of (page_lines (put_lines n new newline es last).to)
    ≡ statements_of (take n (map line_of es ++ last ∷ []) ++ (map line_of new ++ drop n (map line_of es ++ last ∷ [])))
put_statements zero new newline [] last h = refl
put_statements (suc zero) new newline [] last h =
    statements-append (last ∷ map line_of new) (empty_line ∷ []) ∙ append-nil (statements_of (last ∷ map line_of new))
    ∙ ap (λ (l : List Line). statements_of (last ∷ l)) (sym (append-nil (map line_of new)))
put_statements (suc (suc m)) new newline [] last h = absurd (let k : suc (suc m) ≤ suc 0 = h in omega (arith, k))
put_statements zero new newline (e ∷ es) last h =
    ap statements_of (ap (λ l. l ++ last ∷ []) (map-append line_of new (e ∷ es))
    ∙ append_assoc (map line_of new) (map line_of (e ∷ es)) (last ∷ []))
put_statements (suc m) new newline (e ∷ es) last h =
    ap (cons_option (line_statement e.line))
    (put_statements m new newline es last (let k : suc m ≤ suc (suc (length es)) = h in omega (arith, k)))

drop_none : (m : ℕ) → drop {A = Line} m [] ≡ []
drop_none zero = refl
drop_none (suc m) = refl

prefix_statements : (n : ℕ) (es : List Ended) (last : Line)
    → statements_of (page_lines (drop_prefix n es last).to) ≡ statements_of (drop n (map line_of es ++ last ∷ []))
prefix_statements zero [] last = refl
prefix_statements (suc m) [] last = ap statements_of (sym (drop_none m))
prefix_statements zero (e ∷ es) last = refl
prefix_statements (suc m) (e ∷ es) last = prefix_statements m es last

-- n lines gone, from line number i on
pub dropped_statements : (i n : ℕ) (es : List Ended) (last : Line) → i ≤ length es
    → statements_of (page_lines (drop_lines i n es last).to)
    ≡ statements_of (take i (map line_of es ++ last ∷ []) ++ drop n (drop i (map line_of es ++ last ∷ [])))
dropped_statements zero n [] last h = prefix_statements n [] last
dropped_statements (suc i) n [] last h = absurd (let k : suc i ≤ 0 = h in omega (arith, k))
dropped_statements zero n (e ∷ es) last h = prefix_statements n (e ∷ es) last
dropped_statements (suc i) n (e ∷ es) last h =
    ap (cons_option (line_statement e.line))
    (dropped_statements i n es last (let k : suc i ≤ suc (length es) = h in omega (arith, k)))

-- how far the reading is after lines
pub reading_statements : (r : Reading) (ls : List Line) → reading_after r (statements_of ls) ≡ reading_after_lines r ls
reading_statements r [] = refl
reading_statements r (l ∷ ls) = by (statement_of l.content) (λ q. reading_statements q ls)
  where
    by : (o : Option Statement) → ((q : Reading) → reading_after q (statements_of ls) ≡ reading_after_lines q ls)
        → reading_after r (cons_option o (statements_of ls))
        ≡ reading_after_lines (elim o [ None ↦ r | Some s ↦ next_reading r s ]) ls
    by None more = more r
    by (Some s) more = more (next_reading r s)
