-- The statements of the lines before the end of a body, by their number.
--
-- A body ends with its last keyval, so the lines up to there say as much as its keyvals (`lines_counted`). Which
-- statements are keyvals, the list of all statements says by their kinds, and the lines by what they say: both count
-- the same (`kinds_counted`).
--
-- Theorems: `root_counted`, `header_counted`.
use Rattle.std.proofs.Common.{◌≡◌, ℕ, zero, suc, ◌+◌, ◌≤◌, true, false, List, [], ◌∷◌, ◌++◌, length, map, take, drop}
use Rattle.std.proofs.Common.{refl, sym, ap, ◌∙◌, arith, Option, Some, None}
use Rattle.std.specs.List.{cons_option}
use Rattle.std.proofs.lemmas.List.{append-nil, length-map}
use Rattle.keep_types.specs.declared.syntax.Statement.{Statement as Listed}
use Rattle.keep_types.specs.declared.syntax.StatementKind.{StatementKind}
use Rattle.keep_types.specs.declared.syntax.StatementKind.TheVariants as kind
use Rattle.keep_syntax.specs.Tree.{Content, blank, keyval, header, element, Line, Ended, Document, ended_leaves}
use Rattle.keep_syntax.specs.Tree.{line_leaves}
use Rattle.keep_syntax.specs.Numbered as syntax
use Rattle.keep_syntax.specs.Numbered.{width, Count, line_statements, content_statements, over_lines, next_line}
use Rattle.keep_syntax.specs.Numbered.{first_line, after_lines}
use Rattle.keep_syntax.proofs.Shared.{over_ended, after_lines-statements}
use Rattle.keep_meaning.specs.Counts.{line_statement, statements_in}
use Rattle.keep_meaning.specs.Marks as marks
use Rattle.keep_meaning.specs.Marks.{Statement}
use Rattle.keep_meaning.specs.Meaning.{line_of, lines, statement_of}
use Rattle.keep_edit_spec.specs.Insertion.{body_count}
use Rattle.keep_edit_spec.specs.Lines.{body_length, more_lines}
use Rattle.keep_edit_spec.proofs.Common.LineStatements.{statements-append, statements_of}
use Rattle.keep_edit_spec.proofs.Remove.RemoveLinePlace.{head_line, tail_lines, over_tail, lines_split}
use Rattle.keep_edit_spec.proofs.Remove.RemoveSectionPlace.{prefix_statements}

-- how many keyvals come first
abbrev keyvals : List Statement → ℕ
keyvals [] = 0
keyvals (s ∷ ss) = elim s [
  | marks.keyval ms ↦ suc (keyvals ss)
  | marks.header ks ↦ 0
  | marks.element_header ks ↦ 0
]

-- ---- by the lines

take_none : (ls : List Line) → take 0 ls ≡ []
take_none [] = refl
take_none (l ∷ ls) = refl

blank_taken : (l : Line) (ls : List Line) (n : ℕ) → line_statement l ≡ None
    → statements_of (take (more_lines false n) (l ∷ ls)) ≡ statements_of (take n ls)
blank_taken l ls zero e = ap statements_of (sym (take_none ls))
blank_taken l ls (suc m) e = ap (λ (o : Option Statement). cons_option o (statements_of (take (suc m) ls))) e

lines_counted : (ls : List Line)
    → statements_of (take (body_length ls) ls) ≡ take (keyvals (statements_of ls)) (statements_of ls)
lines_counted [] = refl
lines_counted (l ∷ ls) = by l.content refl (lines_counted ls)
  where
    by : (x : Content) → l.content ≡ x
        → statements_of (take (body_length ls) ls) ≡ take (keyvals (statements_of ls)) (statements_of ls)
        → statements_of (take (elim x [
          | blank ↦ more_lines false (body_length ls)
          | keyval name value ↦ more_lines true (body_length ls)
          | header before k after ↦ 0
          | element before k after ↦ 0
        ]) (l ∷ ls)) ≡ take (keyvals (cons_option (statement_of x) (statements_of ls))) (cons_option (statement_of x)
        (statements_of ls))
    by blank e more = blank_taken l ls (body_length ls) (ap statement_of e) ∙ more
    by (keyval name v) e more =
        ap (λ (o : Option Statement). cons_option o (statements_of (take (body_length ls) ls))) (ap statement_of e)
        ∙ ap (cons_option (statement_of (keyval name v))) more
    by (header b k a) e more = refl
    by (element b k a) e more = refl

-- ---- by their kinds

content_counted : (c : Count) (l : Line) (line_end : ℕ) (x : Content) (listed : List Listed) (ss : List Statement)
    → body_count listed ≡ keyvals ss
    → body_count (content_statements c l line_end x ++ listed) ≡ keyvals (cons_option (statement_of x) ss)
content_counted c l line_end blank listed ss h = h
content_counted c l line_end (keyval name v) listed ss h = ap suc h
content_counted c l line_end (header b k a) listed ss h = refl
content_counted c l line_end (element b k a) listed ss h = refl

kinds_counted : (c : Count) (es : List Ended) (last : Line)
    → body_count (over_lines line_statements c es last) ≡ keyvals (statements_of (map line_of es ++ last ∷ []))
kinds_counted c [] last =
    let line_end : ℕ = c.at + width (line_leaves last) in
    ap body_count (sym (append-nil (line_statements c last line_end)))
    ∙ content_counted c last line_end last.content [] [] refl
kinds_counted c (e ∷ es) last =
    content_counted c e.line (c.at + width (ended_leaves e)) e.line.content
    (over_lines line_statements (next_line c e) es last) (statements_of (map line_of es ++ last ∷ []))
    (kinds_counted (next_line c e) es last)

tail_counted : (c : Count) (rest : List Ended) (last : Line)
    → body_count (over_tail line_statements c rest last) ≡ keyvals (statements_of (tail_lines rest last))
tail_counted c [] last = refl
tail_counted c (e ∷ es) last = kinds_counted (next_line c e) es last

kind_few : (k : StatementKind) (n m : ℕ) → n ≤ m → elim k [
  | kind.KeyVal ↦ suc n
  | _ ↦ 0
] ≤ suc m
kind_few kind.KeyVal n m h = omega (arith, h)
kind_few kind.Header n m h = omega arith
kind_few kind.Element n m h = omega arith

pub count_few : (listed : List Listed) → body_count listed ≤ length listed
count_few [] = omega arith
count_few (s ∷ listed) = kind_few s.kind (body_count listed) (length listed) (count_few listed)

-- ---- the root's body, and a header's

pub root_counted : (s : Document)
    → statements_of (take (body_length (lines s)) (lines s)) ≡ take (body_count (syntax.statements s)) (statements_in s)
root_counted s =
    lines_counted (lines s)
    ∙ ap (λ (n : ℕ). take n (statements_in s)) (sym (kinds_counted (first_line s) s.ended s.last))

taken_past : {A : Type 0} (xs : List A) (y : A) (ys : List A) (n m : ℕ) → n ≡ suc (length xs) + m
    → take n (xs ++ y ∷ ys) ≡ xs ++ y ∷ take m ys
taken_past [] y ys n m e = ap (λ (k : ℕ). take k (y ∷ ys)) (let same : n ≡ suc m = omega (arith, e) in same)
taken_past (x ∷ xs) y ys zero m e = absurd (omega (arith, e))
taken_past {A} (x ∷ xs) y ys (suc n) m e = ap (λ (l : List A). x ∷ l) (taken_past xs y ys n m (omega (arith, e)))

-- the statement after a header has the next number
next_listed : {A : Type 0} (xs : List A) (y : A) (ys : List A) (n : ℕ) → n ≡ length xs
    → drop (suc n) (xs ++ y ∷ ys) ≡ ys
next_listed [] y ys n e = ap (λ (k : ℕ). drop (suc k) (y ∷ ys)) e
next_listed (x ∷ xs) y ys zero e = absurd (omega (arith, e))
next_listed (x ∷ xs) y ys (suc n) e = next_listed xs y ys n (omega (arith, e))

module _ (s : Document) (pre rest : List Ended) (was : s.ended ≡ pre ++ rest) (stated : Statement)
    (says : statement_of (head_line rest s.last).content ≡ Some stated) (listed : Listed)
    (all : syntax.statements s ≡ over_ended line_statements (first_line s) pre ++ listed
    ∷ over_tail line_statements (after_lines (first_line s) pre) rest s.last) where
  abbrev number : ℕ
  number = (after_lines (first_line s) pre).statements

  abbrev earlier : List Statement
  earlier = statements_of (map line_of pre)

  abbrev later : List Statement
  later = statements_of (tail_lines rest s.last)

  lines_are : lines s ≡ map line_of pre ++ (head_line rest s.last ∷ tail_lines rest s.last)
  lines_are = ap (λ (es : List Ended). map line_of es ++ s.last ∷ []) was ∙ lines_split pre rest s.last

  statements_are : statements_in s ≡ earlier ++ stated ∷ later
  statements_are =
      ap statements_of lines_are ∙ statements-append (map line_of pre) (head_line rest s.last ∷ tail_lines rest s.last)
      ∙ ap (λ (o : Option Statement). earlier ++ cons_option o later) says

  count : number ≡ length (over_ended line_statements (first_line s) pre)
  count = omega (arith, after_lines-statements (first_line s) pre)

  keyvals_after : body_count (drop (suc number) (syntax.statements s)) ≡ keyvals later
  keyvals_after =
      ap (λ (l : List Listed). body_count (drop (suc number) l)) all
      ∙ ap body_count (next_listed (over_ended line_statements (first_line s) pre) listed
      (over_tail line_statements (after_lines (first_line s) pre) rest s.last) number count)
      ∙ tail_counted (after_lines (first_line s) pre) rest s.last

  -- up to the end of the body of the header on that line
  pub header_counted : statements_of (take (suc (length pre) + body_length (tail_lines rest s.last)) (lines s))
      ≡ take (suc number + body_count (drop (suc number) (syntax.statements s))) (statements_in s)
  header_counted =
      let m : ℕ = body_length (tail_lines rest s.last) in
      let kept : List Line = take m (tail_lines rest s.last) in
      ap (λ (ls : List Line). statements_of (take (suc (length pre) + m) ls)) lines_are
      ∙ ap statements_of (taken_past (map line_of pre) (head_line rest s.last) (tail_lines rest s.last)
      (suc (length pre) + m) m (omega (arith, length-map pre line_of)))
      ∙ statements-append (map line_of pre) (head_line rest s.last ∷ kept)
      ∙ ap (λ (o : Option Statement). earlier ++ cons_option o (statements_of kept)) says
      ∙ ap (λ (ss : List Statement). earlier ++ stated ∷ ss) (lines_counted (tail_lines rest s.last))
      ∙ sym (taken_past earlier stated later (suc number + body_count (drop (suc number) (syntax.statements s)))
      (keyvals later) (omega (arith, keyvals_after, count, prefix_statements (first_line s) pre)))
      ∙ ap (take (suc number + body_count (drop (suc number) (syntax.statements s)))) (sym statements_are)
