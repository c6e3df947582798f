-- What a change finds in the lines of a document, once there are more lines in which it finds nothing.
--
-- If it finds behind the new lines what it found there before, it finds what it found: in the same line, at the same
-- place if that is before the new lines, and else later by their length (`more_past`, in the terms of SetPlaces). So it
-- is with one new line that leaves the reading as it is (`lines_past`).
--
-- Theorems: `more_past`, `lines_past`.
use Rattle.std.proofs.Common.{◌≡◌, ℕ, zero, suc, ◌+◌, ◌≤◌, List, [], ◌∷◌, ◌++◌, length, map, take, drop, refl, sym, ap}
use Rattle.std.proofs.Common.{subst, length-append, arith, Option, Some, None, inl}
use Rattle.std.specs.Prelude.{⊤}
use Rattle.std.proofs.lemmas.List.{append-nil}
use Rattle.keep_syntax.specs.Tree.{Written, Line, Ended, ended_leaves, text_of}
use Rattle.keep_meaning.specs.Marks.{Reading}
use Rattle.keep_meaning.specs.Meaning.{after_line, line_of, reading_after_lines}
use Rattle.keep_edit_spec.specs.Changed.{Changed, framed_change, or_else, within}
use Rattle.keep_edit_spec.specs.Lines.{Page, ended_text, in_lines, line_text, page_text, put_lines}
use Rattle.keep_edit_spec.proofs.Common.Texts.{EachIs}
use Rattle.keep_edit_spec.proofs.Lists.Places.{width, width_more}
use Rattle.keep_edit_spec.proofs.Lists.SetPlaces.{Stays, framed_stays, later_stays, past_line}

-- ---- further on

-- the same change, with that many more bytes before it
record IsFurther {A : Type 0} (n : ℕ) (d : Changed A) (o : Option (Changed A)) : Type 0 where
  next : Changed A
  is : o ≡ Some next
  old : next.old ≡ d.old
  given : next.new ≡ d.new
  place : length next.before ≡ n + length d.before

abbrev Further : {A : Type 0} → ℕ → Option (Changed A) → Option (Changed A) → Type 0
Further n None o = o ≡ None
Further n (Some d) o = IsFurther n d o

no_further : {A : Type 0} (o : Option (Changed A)) → Further 0 o o
no_further None = refl
no_further (Some d) = record { next = d; is = refl; old = refl; given = refl; place = omega arith }

further_within : {A : Type 0} (n : ℕ) (o p : Option (Changed A)) (inside : A → A) (left : List ℕ) → Further n o p
    → Further (length left + n) o (within inside left [] p)
further_within n None p inside left h = ap (within inside left []) h
further_within n (Some d) p inside left h = record {
  next = framed_change inside left [] h.next;
  is = ap (within inside left []) h.is;
  old = h.old;
  given = h.given;
  place = omega (arith, h.place, length-append left h.next.before);
}

-- after a change that is only such bytes at the start
further_stays : {A : Type 0} (c : Changed A) (o p : Option (Changed A)) → length c.before ≡ 0 → length c.old ≡ 0
    → Further (length c.new) o p → Stays c o p
further_stays c None p e f h = h
further_stays c (Some d) p e f h = record {
  next = h.next;
  is = h.is;
  old = h.old;
  given = h.given;
  place = inl ((omega (arith, e, f)), (omega (arith, f, h.place)));
}

module _ (f : Reading → Line → Option (Changed Line))
    (cuts : (r : Reading) (l : Line) → EachIs line_text l (f r l)) where
  abbrev with_line : Written → Page → Line → Page
  with_line w b l = record { ended = record { line = l; newline = w } ∷ b.ended; last = b.last }

  abbrev right : Written → Page → List ℕ
  right w b = w.text ++ page_text b

  abbrev before_lines : Ended → Page → Page
  before_lines e b = record { ended = e ∷ b.ended; last = b.last }

  -- nothing is found in these lines
  abbrev pub FindsNone : Reading → List Ended → Type 0
  FindsNone r [] = ⊤
  FindsNone r (x ∷ xs) = (f r x.line ≡ None) × FindsNone (after_line r x.line) xs

  -- ---- the new lines are first

  past_first : (r : Reading) (x : Ended) (es : List Ended) (last : Line) → f r x.line ≡ None
      → in_lines f r (x ∷ es) last
      ≡ within (before_lines x) (text_of (ended_leaves x)) [] (in_lines f (after_line r x.line) es last)
  past_first r x es last none =
      let page : Page = record { ended = es; last = last } in
      ap (λ (o : Option (Changed Line)).
      or_else (within (with_line x.newline page) [] (right x.newline page) o)
      (within (before_lines x) (text_of (ended_leaves x)) [] (in_lines f (after_line r x.line) es last))) none

  first_further : (xs : List Ended) (r : Reading) (es : List Ended) (last : Line) → FindsNone r xs
      → Further (width xs) (in_lines f (reading_after_lines r (map line_of xs)) es last) (in_lines f r (xs ++ es) last)
  first_further [] r es last none = no_further (in_lines f r es last)
  first_further (x ∷ xs) r es last none =
      let to : Reading = after_line r x.line in
      let o : Option (Changed Page) = in_lines f (reading_after_lines to (map line_of xs)) es last in
      subst (Further (width (x ∷ xs)) o) (sym (past_first r x (xs ++ es) last none.0))
      (subst (λ (n : ℕ). Further n o (within (before_lines x) (text_of (ended_leaves x)) []
      (in_lines f to (xs ++ es) last))) (sym (width_more x xs))
      (further_within (width xs) o (in_lines f to (xs ++ es) last) (before_lines x) (text_of (ended_leaves x))
      (first_further xs to es last none.1)))

  first_past : (xs : List Ended) (r : Reading) (c : Changed Page) (es : List Ended) (last : Line) → FindsNone r xs
      → in_lines f (reading_after_lines r (map line_of xs)) es last ≡ in_lines f r es last
      → length c.before ≡ 0 → length c.old ≡ 0 → c.new ≡ ended_text xs
      → Stays c (in_lines f r es last) (in_lines f r (xs ++ es) last)
  first_past xs r c es last none same before old new =
      further_stays c (in_lines f r es last) (in_lines f r (xs ++ es) last) before old
      (subst (λ (t : List ℕ). Further (length t) (in_lines f r es last) (in_lines f r (xs ++ es) last)) (sym new)
      (subst (λ (o : Option (Changed Page)). Further (width xs) o (in_lines f r (xs ++ es) last)) same
      (first_further xs r es last none)))

  -- ---- they come after one line

  next_past : (e : Ended) (page : Page) (c : Changed Page) (p q : Option (Changed Page)) (o : Option (Changed Line))
      → EachIs line_text e.line o → Stays c p q
      → Stays (framed_change (before_lines e) (text_of (ended_leaves e)) [] c)
      (or_else (within (with_line e.newline page) [] (right e.newline page) o)
      (within (before_lines e) (text_of (ended_leaves e)) [] p))
      (or_else (within (with_line e.newline c.to) [] (right e.newline c.to) o)
      (within (before_lines e) (text_of (ended_leaves e)) [] q))
  next_past e page c p q None cut h = framed_stays (before_lines e) (text_of (ended_leaves e)) [] c p q h
  next_past e page c p q (Some d) cut h =
      subst (λ (t : List ℕ). Stays (framed_change (before_lines e) t [] c)
      (within (with_line e.newline page) [] (right e.newline page) (Some d))
      (within (with_line e.newline c.to) [] (right e.newline c.to) (Some d))) (sym (past_line e.line e.newline))
      (later_stays line_text e.line (with_line e.newline page) (with_line e.newline c.to) [] (right e.newline page)
      (right e.newline c.to) e.newline.text (Some d) (before_lines e) c cut)

  -- ---- they come before line number n

  module _ (xs : List Ended) (newline : Written) where
    pub more_past : (r : Reading) (n : ℕ) (es : List Ended) (last : Line) → n ≤ length es
        → (let q : Reading = reading_after_lines r (map line_of (take n es)) in
        let c : Changed Page = put_lines n xs newline es last in
        FindsNone q xs
        → in_lines f (reading_after_lines q (map line_of xs)) (drop n es) last ≡ in_lines f q (drop n es) last
        → Stays c (in_lines f r es last) (in_lines f r c.to.ended c.to.last))
    more_past r zero [] last few none same =
        let c : Changed Page = put_lines zero xs newline [] last in
        subst (λ (l : List Ended). Stays c (in_lines f r [] last) (in_lines f r l last)) (append-nil xs)
        (first_past xs r c [] last none same refl refl refl)
    more_past r (suc m) [] last few none same = absurd (let k : suc m ≤ 0 = few in omega (arith, k))
    more_past r zero (e ∷ es) last few none same =
        first_past xs r (put_lines zero xs newline (e ∷ es) last) (e ∷ es) last none same refl refl refl
    more_past r (suc m) (e ∷ es) last few none same =
        let k : suc m ≤ suc (length es) = few in
        let c : Changed Page = put_lines m xs newline es last in
        let q : Reading = after_line r e.line in
        next_past e (record { ended = es; last = last }) c (in_lines f q es last) (in_lines f q c.to.ended c.to.last)
        (f r e.line) (cuts r e.line) (more_past q m es last (omega (arith, k)) none same)

  -- ---- one line more, which leaves the reading

  pub lines_past : (x : Ended) (newline : Written) (r : Reading) (n : ℕ) (es : List Ended) (last : Line)
      → n ≤ length es
      → (let q : Reading = reading_after_lines r (map line_of (take n es)) in
      let c : Changed Page = put_lines n (x ∷ []) newline es last in
      after_line q x.line ≡ q → f q x.line ≡ None
      → Stays c (in_lines f r es last) (in_lines f r c.to.ended c.to.last))
  lines_past x newline r n es last few keeps none =
      more_past (x ∷ []) newline r n es last few (none, tt)
      (ap (λ (q : Reading). in_lines f q (drop n es) last) keeps)
