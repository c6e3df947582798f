-- The reading before a keyval behind new lines where the body of a header ends.
--
-- After the end of a body no keyval comes before the next header. So if the new lines leave the tables of the reading
-- as they are, the reading before a keyval behind them is as before (`same_reading`). If none of the new lines passes a
-- test, the last line that does is the same: one before them, or one behind them (`last_place`).
--
-- Theorems: `reading_behind`, `same_reading`, `last_place`.
use Rattle.std.proofs.Common.{◌≡◌, ◌≢◌, ℕ, zero, suc, ◌+◌, ◌<◌, List, [], ◌∷◌, ◌++◌, length, take, drop, sym, ap, subst}
use Rattle.std.proofs.Common.{false, refl, ◌∙◌, length-append, arith, Option, Some, None, ◌⊎◌, inl, inr}
use Rattle.std.proofs.Math.Seq.{take-append-add}
use Rattle.keep_syntax.specs.Tree.{Written, Gap, Name, Value, Content, blank, keyval, header, element, Line}
use Rattle.keep_path.specs.Path.{Part}
use Rattle.keep_meaning.specs.Marks.{Reading, start}
use Rattle.keep_meaning.specs.Meaning.{reading_after_lines}
use Rattle.keep_edit_spec.specs.Lines.{body_length, last_line, more_lines}
use Rattle.keep_edit_spec.proofs.Append.AppendLaw.{reading_append}
use Rattle.keep_edit_spec.proofs.Common.BodyEnd.{IsLast, last_found}
use Rattle.keep_edit_spec.proofs.Lists.BodyEnds.{drop_none}
use Rattle.keep_edit_spec.proofs.Lists.HeaderLines.{last_before}
use Rattle.keep_edit_spec.proofs.Lists.LinesAfterBody.{Test, last_behind}

-- the reading before a line behind others
pub reading_behind : (r : Reading) (first more : List Line) (k : ℕ)
    → reading_after_lines r (take (length first + k) (first ++ more))
    ≡ reading_after_lines (reading_after_lines r first) (take k more)
reading_behind r first more k =
    ap (reading_after_lines r) (take-append-add first more k) ∙ reading_append r first (take k more)

-- ---- the reading before a keyval that comes after the end of a body

-- after another line than the first
past_first : (l : Line) (ls pre : List Line) (here : Line) (post : List Line) → l ∷ ls ≡ pre ++ here ∷ post
    → l ≢ here → (p : List Line) × ((pre ≡ l ∷ p) × (ls ≡ p ++ here ∷ post))
past_first l ls [] here post e other = absurd (let same : l ≡ here = cc in other same)
past_first l ls (x ∷ p) here post e other =
    let same : x ≡ l = cc in
    (p, (ap (λ (y : Line). y ∷ p) same, (let tail : ls ≡ p ++ here ∷ post = cc in tail)))

module _ (t : List (List Part)) (a b : List Part) (here : Line) (name : Name) (v : Value)
    (is : here.content ≡ keyval name v) (post : List Line) where
  abbrev from_a : Reading
  from_a = record { tables = t; body = a }

  abbrev from_b : Reading
  from_b = record { tables = t; body = b }

  abbrev Same : List Line → Type 0
  Same pre = reading_after_lines from_a pre ≡ reading_after_lines from_b pre

  -- where the first line is no keyval, and the readings after it are the same if that helps
  same_past : (l : Line) (ls pre : List Line) → (l.content ≡ keyval name v → ⊥) → l ∷ ls ≡ pre ++ here ∷ post
      → ((p : List Line) → ls ≡ p ++ here ∷ post → Same (l ∷ p)) → Same pre
  same_past l ls pre other e next =
      let u = past_first l ls pre here post e (λ same. other (ap (λ (y : Line). y.content) same ∙ is)) in
      subst Same (sym u.1.0) (next u.0 u.1.1)

  reading_by : (before after : Gap) (comment : Option Written) (c : Content) (ls pre : List Line)
      → ((p : List Line) → drop (body_length ls) ls ≡ p ++ here ∷ post → Same p)
      → (let l : Line = record { before = before; content = c; after = after; comment = comment } in
      drop (body_length (l ∷ ls)) (l ∷ ls) ≡ pre ++ here ∷ post → Same pre)
  reading_by before after comment blank ls pre more e = by (body_length ls) more e
    where
      l : Line
      l = record { before = before; content = blank; after = after; comment = comment }

      by : (k : ℕ) → ((p : List Line) → drop k ls ≡ p ++ here ∷ post → Same p)
          → drop (more_lines false k) (l ∷ ls) ≡ pre ++ here ∷ post → Same pre
      by zero h g = same_past l ls pre (λ same. absurd cc) g (λ p tail. h p (drop_none ls ∙ tail))
      by (suc k) h g = h pre g
  reading_by before after comment (keyval other value) ls pre more e = more pre e
  reading_by before after comment (header x k y) ls pre more e =
      same_past (record { before = before; content = header x k y; after = after; comment = comment }) ls pre
      (λ same. absurd cc) e (λ p tail. refl)
  reading_by before after comment (element x k y) ls pre more e =
      same_past (record { before = before; content = element x k y; after = after; comment = comment }) ls pre
      (λ same. absurd cc) e (λ p tail. refl)

  pub same_reading : (ls pre : List Line) → drop (body_length ls) ls ≡ pre ++ here ∷ post → Same pre
  same_reading [] [] e = absurd cc
  same_reading [] (x ∷ pre) e = absurd cc
  same_reading (l ∷ ls) pre e = reading_by l.before l.after l.comment l.content ls pre (same_reading ls) e

-- ---- the last line that passes

-- The line of that number comes behind the new ones: it was the last to pass, and is.
pub record IsBehind (test : Test) (first new rest : List Line) (i : ℕ) : Type 0 where
  pub number : ℕ
  pub was : i ≡ length first + number
  pub found : last_line test (reading_after_lines start first) rest ≡ Some number
  pub last : last_line test start (first ++ (new ++ rest)) ≡ Some (length first + (length new + number))

module _ (test : Test) (pre : List Line) (here : Line) (body rest new : List Line) where
  abbrev pub first : List Line
  first = pre ++ here ∷ body

  abbrev pub was : List Line
  was = first ++ rest

  abbrev pub now : List Line
  now = first ++ (new ++ rest)

  abbrev r : Reading
  r = reading_after_lines start first

  abbrev to : Reading
  to = reading_after_lines r new

  -- where none of the new ones passes
  pub last_place : last_line test r new ≡ None → last_line test to rest ≡ last_line test r rest → (i : ℕ)
      → last_line test start was ≡ Some i
      → ((last_line test start now ≡ Some i) × (i < length first)) ⊎ IsBehind test first new rest i
  last_place fails same i last = by (last_line test r rest) refl
    where
      by : (o : Option ℕ) → last_line test r rest ≡ o
          → ((last_line test start now ≡ Some i) × (i < length first)) ⊎ IsBehind test first new rest i
      by None e =
          let before : last_line test start first ≡ Some i = sym (last_before test start first rest e) ∙ last in
          let f : IsLast test start first i = last_found test start first i before in
          inl (
            last_before test start first (new ++ rest) (last_before test r new rest (same ∙ e) ∙ fails) ∙ before,
            omega (
              arith,
              f.number,
              ap (λ (ls : List Line). length ls) f.was,
              length-append f.pre (f.here ∷ f.post),
            ),
          )
      by (Some k) e =
          let both : Some i ≡ Some (length first + k) = sym last ∙ last_behind test start first rest k e in
          inr (
          record {
            number = k;
            was = cc;
            found = e;
            last = last_behind test start first (new ++ rest) (length new + k)
                (last_behind test r new rest k (same ∙ e));
          }
          )
