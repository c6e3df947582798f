-- Where lines begin after a change within one line: those up to it where they did, and those after it moved by the
-- bytes that come and go.
--
-- The search for the line is followed (`lines_begin`): the change is in the first line, whose text is known from the
-- cut, or in a later one. A line that begins beside the change, where a change of its own begins or ends, begins where
-- that does once it is moved (`line_moves`).
--
-- Theorems: `set_lines_begin`, `rename_lines_begin`: after a set, and after a rename; `line_moves`; `line_stays`: where
-- the change begins.
use Rattle.std.proofs.Common.{◌≡◌, ℕ, zero, suc, ◌+◌, ◌<◌, ◌≤◌, List, [], ◌∷◌, ◌++◌, length, take, refl, ap}
use Rattle.std.proofs.Common.{length-append, arith, Option, Some, None, inl, inr}
use Rattle.std.specs.Prelude.{◌⊎◌}
use Rattle.std.proofs.lemmas.Bool.{le-ltb, lt-ltb}
use Rattle.keep_syntax.specs.Tree.{Document, Ended, Line, Value, Written, bom_leaves, ended_leaves, text_of}
use Rattle.keep_path.specs.Path.{Part}
use Rattle.keep_meaning.specs.Marks.{Reading, start}
use Rattle.keep_meaning.specs.Meaning.{after_line}
use Rattle.keep_edit_spec.specs.Changed.{Changed, IsChangeOf, framed_change, within}
use Rattle.keep_edit_spec.specs.ClearedLines.{line_start}
use Rattle.keep_edit_spec.specs.Edits.{change, key_part, nested, rename, set}
use Rattle.keep_edit_spec.specs.Lines.{Page, in_document, in_line, in_lines, line_text, page_text, rename_line}
use Rattle.keep_edit_spec.specs.Lines.{with_page}
use Rattle.keep_edit_spec.specs.TextChanges.{IsBeside, TextChange, moved_by}
use Rattle.keep_edit_spec.specs.Values.{renaming, replacement}
use Rattle.keep_edit_spec.proofs.Common.DoneAtValue.{EachOf, of_or_else, of_within}
use Rattle.keep_edit_spec.proofs.Common.LineTexts.{in_line-is, rename_line-is}
use Rattle.keep_edit_spec.proofs.Common.Texts.{EachIs, renaming-is, replacement-is}
use Rattle.keep_edit_spec.proofs.Lists.PartPlaces.{cut_long, ended_long}
use Rattle.keep_edit_spec.proofs.Lists.Places.{width, width_more}
use Rattle.keep_edit_spec.proofs.Lists.RenamePlaces.{IsChangeAt}

-- a place, and where it is after a change: up to the change, or after it
abbrev Moves : {A : Type 0} → Changed A → ℕ → ℕ → Type 0
Moves c at next =
    ((at ≤ length c.before) × (next ≡ at))
    ⊎ ((length c.before + length c.old ≤ at) × (next + length c.old ≡ at + length c.new))

-- ---- in lines

record BeginLines (es : List Ended) (c : Changed Page) : Type 0 where
  count : length c.to.ended ≡ length es
  moves : (n : ℕ) → Moves c (width (take n es)) (width (take n c.to.ended))

each_cut : {A B : Type 0} (text : A → List ℕ) (x : A) (Q : Changed B → Type 0) (outer : A → B) (left right : List ℕ)
    (o : Option (Changed A)) → ((c : Changed A) → IsChangeOf text x c → Q (framed_change outer left right c))
    → EachIs text x o → EachOf Q (within outer left right o)
each_cut text x Q outer left right None f h = tt
each_cut text x Q outer left right (Some c) f h = f c h

no_width : (n : ℕ) → width (take n []) ≡ 0
no_width zero = refl
no_width (suc n) = refl

lines_begin : (f : Reading → Line → Option (Changed Line))
    → ((r : Reading) (l : Line) → EachIs line_text l (f r l)) → (r : Reading) (es : List Ended) (last : Line)
    → EachOf (BeginLines es) (in_lines f r es last)
lines_begin f cuts r [] last =
    each_cut line_text last (BeginLines []) (λ l. record { ended = []; last = l }) [] [] (f r last)
    (λ c cut. record { count = refl; moves = λ n. inl (omega (arith, no_width n), refl) }) (cuts r last)
lines_begin f cuts r (e ∷ es) last =
    of_or_else (BeginLines (e ∷ es)) _ _
    (each_cut line_text e.line (BeginLines (e ∷ es)) (λ l. record { ended = with_line l ∷ es; last = last }) []
    (e.newline.text ++ page_text (record { ended = es; last = last })) (f r e.line) here (cuts r e.line))
    (of_within (BeginLines es) (BeginLines (e ∷ es)) (λ b. record { ended = e ∷ b.ended; last = b.last })
    (text_of (ended_leaves e)) [] (in_lines f (after_line r e.line) es last) later
    (lines_begin f cuts (after_line r e.line) es last))
  where
    with_line : Line → Ended
    with_line l = record { line = l; newline = e.newline }

    -- the change is in this line
    here : (c : Changed Line) → IsChangeOf line_text e.line c
        → BeginLines (e ∷ es) (framed_change (λ l. record { ended = with_line l ∷ es; last = last }) []
        (e.newline.text ++ page_text (record { ended = es; last = last })) c)
    here c cut = record { count = refl; moves = by }
      where
        by : (n : ℕ) → Moves c (width (take n (e ∷ es))) (width (take n (with_line c.to ∷ es)))
        by zero = inl (omega arith, refl)
        by (suc n) =
            let long = cut_long line_text e.line c cut in
            let was = width_more e (take n es) in
            let is = width_more (with_line c.to) (take n es) in
            let first = ended_long e in
            let next = ended_long (with_line c.to) in
            inr (omega (arith, was, first, long.fits), omega (arith, was, is, first, next, long.grown))

    -- the change is in a later line
    later : (c : Changed Page) → BeginLines es c
        → BeginLines (e ∷ es) (framed_change (λ b. record { ended = e ∷ b.ended; last = b.last })
        (text_of (ended_leaves e)) [] c)
    later c h = record { count = ap suc h.count; moves = by }
      where
        by : (n : ℕ) → Moves {A = Page} (framed_change (λ (b : Page). record { ended = e ∷ b.ended; last = b.last })
            (text_of (ended_leaves e)) [] c) (width (take n (e ∷ es))) (width (take n (e ∷ c.to.ended)))
        by zero = inl (omega arith, refl)
        by (suc n) =
            let was = width_more e (take n es) in
            let is = width_more e (take n c.to.ended) in
            let past = length-append (text_of (ended_leaves e)) c.before in
            elim (h.moves n) [
              | inl g ↦ inl (omega (arith, was, past, g.0), omega (arith, was, is, g.1))
              | inr g ↦ inr (omega (arith, was, past, g.0), omega (arith, was, is, g.1))
            ]

-- ---- in a document

pub record LinesBegin (s : Document) (c : Changed Document) : Type 0 where
  pub count : length c.to.ended ≡ length s.ended
  pub moves : (n : ℕ) → Moves c (line_start s n) (line_start c.to n)

page_begins : (s : Document) (c : Changed Page) → BeginLines s.ended c
    → LinesBegin s (framed_change (with_page s) (text_of (bom_leaves s.bom)) [] c)
page_begins s c h = record { count = h.count; moves = by }
  where
    by : (n : ℕ) → Moves (framed_change (with_page s) (text_of (bom_leaves s.bom)) [] c) (line_start s n)
        (line_start (with_page s c.to) n)
    by n =
        let past = length-append (text_of (bom_leaves s.bom)) c.before in
        elim (h.moves n) [
          | inl g ↦ inl (omega (arith, past, g.0), omega (arith, g.1))
          | inr g ↦ inr (omega (arith, past, g.0), omega (arith, g.1))
        ]

pub document_begins : (f : Reading → Line → Option (Changed Line))
    → ((r : Reading) (l : Line) → EachIs line_text l (f r l))
    → (s : Document) → EachOf (LinesBegin s) (in_document s (in_lines f start s.ended s.last))
document_begins f cuts s =
    of_within (BeginLines s.ended) (LinesBegin s) (with_page s) (text_of (bom_leaves s.bom)) []
    (in_lines f start s.ended s.last) (page_begins s) (lines_begin f cuts start s.ended s.last)

pub set_lines_begin : (s : Document) (path : List Part) (value : Value)
    → EachOf (LinesBegin s) (change s (set path value))
set_lines_begin s path value =
    document_begins (in_line (replacement value) path)
    (λ r l. in_line-is (replacement value) (replacement-is value) path r l) s

pub rename_lines_begin : (s : Document) (path : List Part) (text : List ℕ)
    → EachOf (LinesBegin s) (change s (rename path text))
rename_lines_begin s path text =
    let new : Written = key_part text in
    of_or_else (LinesBegin s) (in_document s (in_lines (rename_line new path) start s.ended s.last))
    (nested (renaming new) path s)
    (document_begins (rename_line new path) (λ r l. rename_line-is new path r l) s)
    (document_begins (in_line (renaming new) path) (λ r l. in_line-is (renaming new) (renaming-is new) path r l) s)

-- ---- beside the change

-- Where a line begins as the change d begins, or any number of its bytes later, it begins so after c too.
pub line_moves : (s : Document) (x : Changed Document) (c d : TextChange) → LinesBegin s x → IsChangeAt c x
    → 0 < c.size → IsBeside c d → (n k : ℕ) → k ≤ d.size → d.at + k ≡ line_start s n
    → line_start x.to n ≡ moved_by c d.at + k
line_moves s x c d begin there some side n k few is = by (begin.moves n) side
  where
    by : Moves x (line_start s n) (line_start x.to n) → IsBeside c d → line_start x.to n ≡ moved_by c d.at + k
    by (inl g) (inl far) = absurd (omega (arith, g.0, there.at, far, is, some))
    by (inl g) (inr far) =
        let same : moved_by c d.at ≡ d.at = rw (lt-ltb d.at c.at far.0) refl in omega (arith, g.1, is, same)
    by (inr g) (inl far) =
        let past : c.at + c.size ≤ d.at = far in
        let same : moved_by c d.at + c.size ≡ d.at + length c.new =
        rw (le-ltb d.at c.at (omega (arith, past))) (omega (arith, past)) in
        omega (arith, g.1, there.size, there.new, is, same)
    by (inr g) (inr far) = absurd (omega (arith, g.0, there.at, there.size, far.1, is, few, some))

-- Where a line begins as the change itself does, it begins so after it, too.
pub line_stays : (s : Document) (x : Changed Document) (c : TextChange) → LinesBegin s x → IsChangeAt c x
    → 0 < c.size → (n : ℕ) → c.at ≡ line_start s n → line_start x.to n ≡ line_start s n
line_stays s x c begin there some n is = elim (begin.moves n) [
  | inl up_to ↦ up_to.1
  | inr past ↦ absurd (omega (arith, past.0, there.at, there.size, some, is))
]
