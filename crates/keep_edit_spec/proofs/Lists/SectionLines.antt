-- The body of a header among lines: no header is in it (`none_in_body`), and after it no keyval is before the next one
-- (`body_done`).
--
-- Theorems: `none_in_body`, `body_done`, `body_within`; `last_behind`.
use Rattle.std.proofs.Common.{◌≡◌, ℕ, zero, suc, ◌≤◌, Bool, true, false, List, [], ◌∷◌, ◌++◌, length, take, drop, refl}
use Rattle.std.proofs.Common.{ap, ◌∙◌, arith, Option, Some, None}
use Rattle.std.proofs.lemmas.List.{append-nil}
use Rattle.keep_syntax.specs.Tree.{Written, Gap, Content, blank, keyval, header, element, Line}
use Rattle.keep_path.specs.Path.{Part}
use Rattle.keep_meaning.specs.Marks.{Reading}
use Rattle.keep_meaning.specs.Meaning.{after_line, reading_after_lines}
use Rattle.keep_edit_spec.specs.Lines.{begins, body_length, last_line, more_lines}
use Rattle.keep_edit_spec.proofs.Common.BodyEnd.{body_few}
use Rattle.keep_edit_spec.proofs.Lists.HeaderEnds.{lengths_same}
use Rattle.keep_edit_spec.proofs.Lists.RemovedOwn.{last_or}

-- ---- a body

none_by : (q : List Part) (r : Reading) (before after : Gap) (comment : Option Written) (c : Content) (ls : List Line)
    → ((r : Reading) → last_line (begins q) r (take (body_length ls) ls) ≡ None)
    → (let l : Line = record { before = before; content = c; after = after; comment = comment } in
    last_line (begins q) r (take (body_length (l ∷ ls)) (l ∷ ls)) ≡ None)
none_by q r before after comment blank ls more = by (body_length ls) (more r)
  where
    by : (k : ℕ) → last_line (begins q) r (take k ls) ≡ None
        → last_line (begins q) r (take (more_lines false k)
        (record { before = before; content = blank; after = after; comment = comment } ∷ ls)) ≡ None
    by zero e = refl
    by (suc m) e = ap (last_or false) e
none_by q r before after comment (keyval name v) ls more = ap (last_or false) (more r)
none_by q r before after comment (header x k y) ls more = refl
none_by q r before after comment (element x k y) ls more = refl

pub none_in_body : (q : List Part) (r : Reading) (ls : List Line)
    → last_line (begins q) r (take (body_length ls) ls) ≡ None
none_in_body q r [] = refl
none_in_body q r (l ∷ ls) =
    none_by q r l.before l.after l.comment l.content ls (λ r. none_in_body q r ls)

done_by : (before after : Gap) (comment : Option Written) (c : Content) (ls : List Line)
    → body_length (drop (body_length ls) ls) ≡ 0
    → (let l : Line = record { before = before; content = c; after = after; comment = comment } in
    body_length (drop (body_length (l ∷ ls)) (l ∷ ls)) ≡ 0)
done_by before after comment blank ls more = by (body_length ls) refl more
  where
    by : (k : ℕ) → body_length ls ≡ k → body_length (drop k ls) ≡ 0
        → body_length (drop (more_lines false k)
        (record { before = before; content = blank; after = after; comment = comment } ∷ ls)) ≡ 0
    by zero k e = ap (more_lines false) k
    by (suc m) k e = e
done_by before after comment (keyval name v) ls more = more
done_by before after comment (header x k y) ls more = refl
done_by before after comment (element x k y) ls more = refl

pub body_done : (ls : List Line) → body_length (drop (body_length ls) ls) ≡ 0
body_done [] = refl
body_done (l ∷ ls) = done_by l.before l.after l.comment l.content ls (body_done ls)

-- a last line that says nothing is in none
pub body_within : (ls : List Line) (last : Line) → last.content ≡ blank
    → (body_length (ls ++ last ∷ []) ≡ body_length ls) × (body_length (ls ++ last ∷ []) ≤ length ls)
body_within ls last empty =
    let none : body_length (last ∷ []) ≡ body_length [] = by last.before last.after last.comment last.content empty in
    let same : body_length (ls ++ last ∷ []) ≡ body_length ls =
    lengths_same ls (last ∷ []) [] none ∙ ap body_length (append-nil ls) in
    (same, omega (arith, same, body_few ls))
  where
    by : (before after : Gap) (comment : Option Written) (c : Content) → c ≡ blank
        → body_length (record { before = before; content = c; after = after; comment = comment } ∷ []) ≡ 0
    by before after comment blank e = refl
    by before after comment (keyval name v) e = absurd cc
    by before after comment (header x k y) e = absurd cc
    by before after comment (element x k y) e = absurd cc

-- ---- the last of lines that passes, where one of the later ones does

pub last_behind : (test : Reading → Line → Bool) (r : Reading) (first more : List Line)
    → last_line test r first ≡ None → last_line test r (first ++ more) ≡ None
    → last_line test (reading_after_lines r first) more ≡ None
last_behind test r [] more none e = e
last_behind test r (l ∷ first) more none e =
    last_behind test (after_line r l) first more (by (last_line test (after_line r l) first) (test r l) none)
    (by (last_line test (after_line r l) (first ++ more)) (test r l) e)
  where
    by : (o : Option ℕ) (b : Bool) → last_or b o ≡ None → o ≡ None
    by None b e = refl
    by (Some n) true e = absurd cc
    by (Some n) false e = absurd cc
