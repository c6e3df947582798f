-- With new lines put into it, a document is no deeper than it was, or no deeper than the lines.
--
-- Theorems: `line_depth`: that; `appended`: what is appended is put in as lines, which are no deeper than its content.
use Rattle.std.proofs.Common.{◌≡◌, ℕ, zero, suc, ◌≤◌, Bool, true, false, cond, List, [], ◌∷◌, ◌++◌, length, map, refl}
use Rattle.std.proofs.Common.{ap, arith, Option}
use Rattle.std.specs.Prelude.{max}
use Rattle.keep_syntax.specs.Tree.{Written, Content, blank, Line, Ended, Document, bom_leaves, text_of, content_depth}
use Rattle.keep_syntax.specs.Tree.{lines_depth, depth}
use Rattle.keep_edit_spec.specs.Changed.{Changed, framed_change}
use Rattle.keep_edit_spec.specs.Lines.{with_page, put_lines, new_line, newline_of, is_empty}
use Rattle.keep_edit_spec.specs.Edits.{at_line, append}
use Rattle.keep_edit_spec.proofs.Common.DoneInDocument.{page_depth}

abbrev pub contents_depth : List Content → ℕ
contents_depth [] = 0
contents_depth (c ∷ cs) = max (content_depth c) (contents_depth cs)

new_depth : (newline : Written) (cs : List Content) → lines_depth (map (new_line newline) cs) ≡ contents_depth cs
new_depth newline [] = refl
new_depth newline (c ∷ cs) = ap (max (content_depth c)) (new_depth newline cs)

lines_depth-append : (es fs : List Ended) → lines_depth (es ++ fs) ≤ max (lines_depth es) (lines_depth fs)
lines_depth-append [] fs = omega arith
lines_depth-append (e ∷ es) fs = omega (arith, lines_depth-append es fs)

put_depth : (n : ℕ) (new : List Ended) (newline : Written) (es : List Ended) (last : Line)
    → page_depth (put_lines n new newline es last).to
    ≤ max (page_depth (record { ended = es; last = last })) (lines_depth new)
put_depth zero new newline [] last = omega arith
put_depth (suc m) new newline [] last = omega arith
put_depth zero new newline (e ∷ es) last = omega (arith, lines_depth-append new (e ∷ es))
put_depth (suc m) new newline (e ∷ es) last = omega (arith, put_depth m new newline es last)

-- the change that puts lines in
abbrev pub line_change : Document → ℕ → List Content → Changed Document
line_change s n contents =
    framed_change (with_page s) (text_of (bom_leaves s.bom)) []
    (put_lines n (map (new_line (newline_of s)) contents) (newline_of s) s.ended s.last)

pub line_depth : (s : Document) (n : ℕ) (contents : List Content)
    → depth (line_change s n contents).to ≤ max (depth s) (contents_depth contents)
line_depth s n contents =
    omega (
      arith,
      put_depth n (map (new_line (newline_of s)) contents) (newline_of s) s.ended s.last,
      new_depth (newline_of s) contents,
    )

-- What is appended is put in as lines.
pub record IsAppended (s : Document) (content : Content) : Type 0 where
  pub number : ℕ
  pub contents : List Content
  pub is : append s content ≡ at_line s number contents
  pub flat : contents_depth contents ≤ content_depth content

alone : (s : Document) (content : Content) (n m : ℕ) (b : Bool) (o : Option (Changed Document))
    → o ≡ cond b (at_line s n (content ∷ [])) (at_line s m (blank ∷ content ∷ []))
    → (number : ℕ) × (contents : List Content) × (o ≡ at_line s number contents)
    × (contents_depth contents ≤ content_depth content)
alone s content n m true o e = (n, content ∷ [], e, omega arith)
alone s content n m false o e = (m, blank ∷ content ∷ [], e, omega arith)

after_all : (s : Document) (content : Content) (n m : ℕ) (b : Bool) (o : Option (Changed Document))
    → o ≡ cond b (at_line s n (blank ∷ content ∷ [])) (at_line s m (blank ∷ content ∷ []))
    → (number : ℕ) × (contents : List Content) × (o ≡ at_line s number contents)
    × (contents_depth contents ≤ content_depth content)
after_all s content n m true o e = (n, blank ∷ content ∷ [], e, omega arith)
after_all s content n m false o e = (m, blank ∷ content ∷ [], e, omega arith)

pub appended : (s : Document) (content : Content) → IsAppended s content
appended s content = by s.ended refl
  where
    by : (es : List Ended) → s.ended ≡ es → IsAppended s content
    by [] e =
        let (number, contents, is, flat) = alone s content 0 1 (is_empty s.last) (append s content) (rw e refl) in
        record { number = number; contents = contents; is = is; flat = flat }
    by (x ∷ xs) e =
        let (number, contents, is, flat) =
        after_all s content (length s.ended) (suc (length s.ended)) (is_empty s.last) (append s content) (rw e refl) in
        record { number = number; contents = contents; is = is; flat = flat }
