-- How a list over lines grows by one line, and what is counted after lines.
--
-- Theorems: `over-last`: the list with the last line; `after_lines-at`: the place after lines;
-- `after_lines-statements`, and its like for key parts and values: how many there are up to there.
use Rattle.std.proofs.Common.{◌≡◌, ℕ, ◌+◌, List, [], ◌∷◌, ◌++◌, length, refl, sym, ap, ◌∙◌, arith, append_assoc}
use Rattle.std.specs.List.{flat_map}
use Rattle.std.proofs.lemmas.List.{append-nil, length-append}
use Rattle.keep_syntax.specs.Tree.{Content, blank, keyval, header, element, Line, Ended, line_leaves, ended_leaves}
use Rattle.keep_syntax.specs.Numbered.{width, Count, line_parts, line_values, line_statements, content_statements}
use Rattle.keep_syntax.specs.Numbered.{next_line, over_lines, after_lines}
use Rattle.keep_syntax.proofs.GrowthLaws.{width-append}

-- ---- lines

-- one list over lines that end
abbrev pub over_ended : {A : Type 0} → (Count → Line → ℕ → List A) → Count → List Ended → List A
over_ended f c [] = []
over_ended f c (e ∷ es) = f c e.line (c.at + width (ended_leaves e)) ++ over_ended f (next_line c e) es

pub ended-snoc : {A : Type 0} (f : Count → Line → ℕ → List A) (c : Count) (es : List Ended) (e : Ended)
    → over_ended f c (es ++ (e ∷ [])) ≡ over_ended f c es
    ++ f (after_lines c es) e.line ((after_lines c es).at + width (ended_leaves e))
ended-snoc f c [] e = append-nil (f c e.line (c.at + width (ended_leaves e)))
ended-snoc {A} f c (d ∷ es) e =
    let q = next_line c d in
    let here = f c d.line (c.at + width (ended_leaves d)) in
    let last = f (after_lines q es) e.line ((after_lines q es).at + width (ended_leaves e)) in
    ap (λ (xs : List A). here ++ xs) (ended-snoc f q es e) ∙ sym (append_assoc here (over_ended f q es) last)

-- with the last line
pub over-last : {A : Type 0} (f : Count → Line → ℕ → List A) (c : Count) (es : List Ended) (l : Line)
    → over_lines f c es l ≡ over_ended f c es ++ f (after_lines c es) l ((after_lines c es).at + width (line_leaves l))
over-last f c [] l = refl
over-last {A} f c (d ∷ es) l =
    let q = next_line c d in
    let here = f c d.line (c.at + width (ended_leaves d)) in
    let last = f (after_lines q es) l ((after_lines q es).at + width (line_leaves l)) in
    ap (λ (xs : List A). here ++ xs) (over-last f q es l) ∙ sym (append_assoc here (over_ended f q es) last)

-- the count after lines
pub after_lines-at : (c : Count) (es : List Ended) → (after_lines c es).at ≡ c.at + width (flat_map ended_leaves es)
after_lines-at c [] = omega arith
after_lines-at c (e ∷ es) =
    omega (arith, after_lines-at (next_line c e) es, width-append (ended_leaves e) (flat_map ended_leaves es))

-- a line has as many statements wherever it ends
pub length-statements : (c : Count) (l : Line) (x y : ℕ)
    → length (line_statements c l x) ≡ length (line_statements c l y)
length-statements c l x y = by l.content
  where
    by : (k : Content) → length (content_statements c l x k) ≡ length (content_statements c l y k)
    by blank = refl
    by (keyval name value) = refl
    by (header before key after) = refl
    by (element before key after) = refl

pub after_lines-statements : (c : Count) (es : List Ended)
    → (after_lines c es).statements ≡ c.statements + length (over_ended line_statements c es)
after_lines-statements c [] = omega arith
after_lines-statements c (e ∷ es) =
    let q = next_line c e in
    let here = line_statements c e.line (c.at + width (ended_leaves e)) in
    omega (
      arith,
      after_lines-statements q es,
      length-append here (over_ended line_statements q es),
      length-statements c e.line (c.at + width (ended_leaves e)) 0,
    )

pub after_lines-parts : (c : Count) (es : List Ended)
    → (after_lines c es).parts ≡ c.parts + length (over_ended (λ c l line_end. line_parts c l) c es)
after_lines-parts c [] = omega arith
after_lines-parts c (e ∷ es) =
    let q = next_line c e in
    omega (
      arith,
      after_lines-parts q es,
      length-append (line_parts c e.line) (over_ended (λ c l line_end. line_parts c l) q es),
    )

pub after_lines-values : (c : Count) (es : List Ended)
    → (after_lines c es).values ≡ c.values + length (over_ended (λ c l line_end. line_values c l) c es)
after_lines-values c [] = omega arith
after_lines-values c (e ∷ es) =
    let q = next_line c e in
    omega (
      arith,
      after_lines-values q es,
      length-append (line_values c e.line) (over_ended (λ c l line_end. line_values c l) q es),
    )
