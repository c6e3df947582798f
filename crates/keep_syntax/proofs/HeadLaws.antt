-- How many key parts and values come before lines shows in the first statement, and the first keyval, among them.
--
-- Theorems: `head_is`: the key parts; `values_from`: the values.
use Rattle.std.proofs.Common.{◌≡◌, ℕ, ◌+◌, ◌≤◌, List, [], ◌∷◌, ◌++◌, length, refl, ap, ◌∙◌, arith, Option, Some, None}
use Rattle.keep_types.specs.declared.syntax.Statement.{Statement}
use Rattle.keep_types.specs.declared.syntax.KeyPart.{KeyPart}
use Rattle.keep_types.specs.declared.syntax.ValueInfo.{ValueInfo}
use Rattle.keep_syntax.specs.Tree.{Content, blank, keyval, header, element, Line, Ended, line_leaves, ended_leaves}
use Rattle.keep_syntax.specs.Numbered.{width, Count, content_start, line_start, content_statements, content_parts}
use Rattle.keep_syntax.specs.Numbered.{content_values, line_statements, line_parts, line_values, next_line, over_lines}
use Rattle.keep_syntax_store.proofs.Shared.{ByValue, HeadIs, ValuesFrom}

abbrev all_parts : Count → List Ended → Line → List KeyPart
all_parts c es last = over_lines (λ c l line_end. line_parts c l) c es last

abbrev all_values : Count → List Ended → Line → List ValueInfo
all_values c es last = over_lines (λ c l line_end. line_values c l) c es last

values_same : (c d : Count) (ss : List Statement) (vs : List ValueInfo) → c.values ≡ d.values → ValuesFrom c ss vs
    → ValuesFrom d ss vs
values_same c d [] vs e h = h
values_same c d (s ∷ ss) vs e h = by s.value h (values_same c d ss vs e)
  where
    by : (o : Option ℕ) → ByValue c (ValuesFrom c ss vs) o → (ValuesFrom c ss vs → ValuesFrom d ss vs)
        → ByValue d (ValuesFrom d ss vs) o
    by None h more = more h
    by (Some v) h more = h ∙ e

head_same : (c d : Count) (ss : List Statement) (ks : List KeyPart) → c.parts ≡ d.parts → d.at ≤ c.at → HeadIs c ss ks
    → HeadIs d ss ks
head_same c d [] ks e l h = h
head_same c d (s ∷ ss) ks e l h = (h.0 ∙ e, omega (arith, h.1, l))

pub head_is : (c : Count) (es : List Ended) (last : Line)
    → HeadIs c (over_lines line_statements c es last) (all_parts c es last)
head_is c [] last = by last.content
  where
    by : (k : Content)
        → HeadIs c (content_statements c last (c.at + width (line_leaves last)) k)
        (content_parts (content_start c last) k)
    by blank = refl
    by (keyval name value) = (refl, omega arith)
    by (header before key after) = (refl, omega arith)
    by (element before key after) = (refl, omega arith)
head_is c (e ∷ es) last = by e.line.content refl (head_is (next_line c e) es last)
  where
    by : (k : Content) → e.line.content ≡ k
        → HeadIs (next_line c e) (over_lines line_statements (next_line c e) es last)
        (all_parts (next_line c e) es last)
        → HeadIs c (content_statements c e.line (c.at + width (ended_leaves e)) k
        ++ over_lines line_statements (next_line c e) es last)
        (content_parts (content_start c e.line) k ++ all_parts (next_line c e) es last)
    by blank is h =
        head_same (next_line c e) c (over_lines line_statements (next_line c e) es last)
        (all_parts (next_line c e) es last)
        (omega (arith, ap (λ k. length (content_parts (content_start c e.line) k)) is)) (omega arith) h
    by (keyval name value) is h = (refl, omega arith)
    by (header before key after) is h = (refl, omega arith)
    by (element before key after) is h = (refl, omega arith)

pub values_from : (c : Count) (es : List Ended) (last : Line)
    → ValuesFrom c (over_lines line_statements c es last) (all_values c es last)
values_from c [] last = by last.content
  where
    by : (k : Content)
        → ValuesFrom c (content_statements c last (c.at + width (line_leaves last)) k)
        (content_values (line_start c last) k)
    by blank = refl
    by (keyval name value) = refl
    by (header before key after) = refl
    by (element before key after) = refl
values_from c (e ∷ es) last = by e.line.content refl (values_from (next_line c e) es last)
  where
    by : (k : Content) → e.line.content ≡ k
        → ValuesFrom (next_line c e) (over_lines line_statements (next_line c e) es last)
        (all_values (next_line c e) es last)
        → ValuesFrom c (content_statements c e.line (c.at + width (ended_leaves e)) k
        ++ over_lines line_statements (next_line c e) es last)
        (content_values (line_start c e.line) k ++ all_values (next_line c e) es last)
    by blank is h =
        values_same (next_line c e) c (over_lines line_statements (next_line c e) es last)
        (all_values (next_line c e) es last)
        (omega (arith, ap (λ k. length (content_values (line_start c e.line) k)) is)) h
    by (keyval name value) is h = refl
    by (header before key after) is h =
        values_same (next_line c e) c (over_lines line_statements (next_line c e) es last)
        (all_values (next_line c e) es last)
        (omega (arith, ap (λ k. length (content_values (line_start c e.line) k)) is)) h
    by (element before key after) is h =
        values_same (next_line c e) c (over_lines line_statements (next_line c e) es last)
        (all_values (next_line c e) es last)
        (omega (arith, ap (λ k. length (content_values (line_start c e.line) k)) is)) h
