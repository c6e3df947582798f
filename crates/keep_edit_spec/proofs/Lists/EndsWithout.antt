-- Where bodies end without a keyval's line.
--
-- A body's length counts the lines up to the last keyval before the next header. So without one keyval's line that is
-- not the last of its body it is less by one if the line is in the body, and else the same (`length_without`). The line
-- begins no body and leaves the reading as it is. So each end moves back as a line does, unless it is right after the
-- line (`end_without`).
--
-- Theorems: `end_without`; `body_end_without`: of the body that begins after any line.
use Rattle.std.proofs.Common.{◌≡◌, ◌≢◌, ℕ, zero, suc, Bool, true, false, ◌&&◌, List, [], ◌∷◌, ◌++◌, length, refl, sym}
use Rattle.std.proofs.Common.{ap, ap₂, ◌∙◌, arith, Option, Some, None, inl, inr}
use Rattle.std.specs.Option.{option_map}
use Rattle.std.proofs.lemmas.Bool.{cases_lt}
use Rattle.keep_syntax.specs.Tree.{Name, Value, Content, blank, keyval, header, element, Line, Document}
use Rattle.keep_path.specs.Path.{Part, same_path}
use Rattle.keep_meaning.specs.Marks.{Reading, start}
use Rattle.keep_meaning.specs.Meaning.{after_line, lines}
use Rattle.keep_edit_spec.specs.Edits.{end_of}
use Rattle.keep_edit_spec.specs.Lines.{begins, body_end, body_length, is_header}
use Rattle.keep_edit_spec.proofs.Common.SetDocument.{reading_of}
use Rattle.keep_edit_spec.proofs.Lists.BodyEnds.{end_among, end_cons, end_first, end_in, end_is_among, end_next, end_or}
use Rattle.keep_edit_spec.proofs.Lists.BodyEnds.{later_before, later_from, later_suc, length_after}
use Rattle.keep_edit_spec.proofs.Lists.Places.{later_line}

-- ---- one body

none_later : (n b : ℕ) → 0 ≡ later_line n b → b ≡ 0
none_later n b e = elim (cases_lt b n) [
  | inl l ↦ omega (arith, e, later_before n b l)
  | inr g ↦ omega (arith, e, later_from n b g)
]

-- Of a body with one line more, from that of the lines after the first: not the last is more.
length_step : (x : Content) (m b n : ℕ) → (m ≢ suc n → m ≡ later_line n b) → length_after x m ≢ suc (suc n)
    → length_after x m ≡ later_line (suc n) (length_after x b)
length_step blank zero zero n go h = sym (later_before (suc n) 0 (omega arith))
length_step blank zero (suc b) n go h =
    let none : suc b ≡ 0 = none_later n (suc b) (go (λ e. omega (arith, e))) in absurd (omega (arith, none))
length_step blank (suc m) zero n go h =
    let e : suc m ≡ later_line n 0 = go (λ z. h (ap suc z)) in
    elim (cases_lt 0 n) [
      | inl l ↦ absurd (omega (arith, e, later_before n 0 l))
      | inr g ↦ absurd (h (omega (arith, e, later_from n 0 g, g)))
    ]
length_step blank (suc m) (suc b) n go h = ap suc (go (λ z. h (ap suc z))) ∙ later_suc n (suc b)
length_step (keyval name v) m b n go h = ap suc (go (λ z. h (ap suc z))) ∙ later_suc n b
length_step (header x k y) m b n go h = sym (later_before (suc n) 0 (omega arith))
length_step (element x k y) m b n go h = sym (later_before (suc n) 0 (omega arith))

-- from the end among the lines after one line
end_step : (begun : Bool) (o p : Option ℕ) (m b n : ℕ)
    → (((i : ℕ) → o ≡ Some i → i ≢ suc n) → o ≡ option_map (later_line n) p) → (m ≢ suc n → m ≡ later_line n b)
    → ((i : ℕ) → end_or begun m o ≡ Some i → i ≢ suc (suc n))
    → end_or begun m o ≡ option_map (later_line (suc n)) (end_or begun b p)
end_step begun (Some i) (Some j) m b n rest go h =
    let e : Some i ≡ Some (later_line n j) = rest (λ k is z. h (suc k) (ap (option_map suc) is) (ap suc z)) in
    let same : i ≡ later_line n j = cc in
    ap (λ (k : ℕ). Some k) (ap suc same ∙ later_suc n j)
end_step begun (Some i) None m b n rest go h =
    let e : Some i ≡ None = rest (λ k is z. h (suc k) (ap (option_map suc) is) (ap suc z)) in absurd cc
end_step begun None (Some j) m b n rest go h =
    let e : None ≡ Some (later_line n j) = rest (λ k is z. absurd cc) in absurd cc
end_step true None None m b n rest go h =
    ap (λ (k : ℕ). Some k) (ap suc (go (λ z. h (suc m) refl (ap suc z))) ∙ later_suc n b)
end_step false None None m b n rest go h = refl

-- ---- without a keyval's line

pub record IsEndNow (to : Document) (a : List Part) (gone was : ℕ) : Type 0 where
  pub number : ℕ
  pub ends : end_of to a ≡ Some number
  pub later : was ≡ later_line gone number

module _ (x : Line) (name : Name) (v : Value) (is : x.content ≡ keyval name v) where
  length_without : (pre post : List Line) → body_length (pre ++ x ∷ post) ≢ suc (length pre)
      → body_length (pre ++ x ∷ post) ≡ later_line (length pre) (body_length (pre ++ post))
  length_without [] post h =
      ap (λ (c : Content). length_after c (body_length post)) is
      ∙ sym (later_from 0 (body_length post) (omega arith))
  length_without (l ∷ pre) post h =
      length_step l.content (body_length (pre ++ x ∷ post)) (body_length (pre ++ post)) (length pre)
      (length_without pre post) h

  -- of the body that begins after any line
  pub body_end_without : (pre post : List Line) (i : ℕ)
      → body_end (later_line (length pre) i) (pre ++ x ∷ post) ≢ suc (length pre)
      → body_end (later_line (length pre) i) (pre ++ x ∷ post) ≡ later_line (length pre) (body_end i (pre ++ post))
  body_end_without [] post i h =
      ap (λ (k : ℕ). body_end k (x ∷ post)) (later_from 0 i (omega arith)) ∙ end_next i x post
      ∙ sym (later_from 0 (body_end i post) (omega arith))
  body_end_without (l ∷ pre) post zero h =
      let n : ℕ = length pre in
      let long : body_end (later_line (suc n) 0) (l ∷ (pre ++ x ∷ post)) ≡ suc (body_length (pre ++ x ∷ post)) =
      ap (λ (k : ℕ). body_end k (l ∷ (pre ++ x ∷ post))) (later_before (suc n) 0 (omega arith))
      ∙ end_first l (pre ++ x ∷ post) in
      long ∙ ap suc (length_without pre post (λ e. h (long ∙ ap suc e))) ∙ later_suc n (body_length (pre ++ post))
      ∙ ap (later_line (suc n)) (sym (end_first l (pre ++ post)))
  body_end_without (l ∷ pre) post (suc i) h =
      let n : ℕ = length pre in
      let long : body_end (later_line (suc n) (suc i)) (l ∷ (pre ++ x ∷ post))
      ≡ suc (body_end (later_line n i) (pre ++ x ∷ post)) =
      ap (λ (k : ℕ). body_end k (l ∷ (pre ++ x ∷ post))) (sym (later_suc n i))
      ∙ end_next (later_line n i) l (pre ++ x ∷ post) in
      long ∙ ap suc (body_end_without pre post i (λ e. h (long ∙ ap suc e))) ∙ later_suc n (body_end i (pre ++ post))
      ∙ ap (later_line (suc n)) (sym (end_next i l (pre ++ post)))

  ends_without : (a : List Part) (r : Reading) (pre post : List Line)
      → ((i : ℕ) → end_in a r (pre ++ x ∷ post) ≡ Some i → i ≢ suc (length pre))
      → end_in a r (pre ++ x ∷ post) ≡ option_map (later_line (length pre)) (end_in a r (pre ++ post))
  ends_without a r [] post h =
      end_cons a r x post
      ∙ ap₂ (λ (b : Bool) (y : Reading). end_or b (body_length post) (end_in a y post))
      (ap (λ (c : Content). is_header c && same_path (after_line r x).body a) is) (reading_of r x name v is)
      ∙ by (end_in a r post)
    where
      by : (o : Option ℕ) → end_or false (body_length post) o ≡ option_map (later_line 0) o
      by None = refl
      by (Some n) = ap (λ (m : ℕ). Some m) (sym (later_from 0 n (omega arith)))
  ends_without a r (l ∷ pre) post h =
      end_cons a r l (pre ++ x ∷ post)
      ∙ end_step (begins a r l) (end_in a (after_line r l) (pre ++ x ∷ post)) (end_in a (after_line r l) (pre ++ post))
      (body_length (pre ++ x ∷ post)) (body_length (pre ++ post)) (length pre)
      (ends_without a (after_line r l) pre post) (length_without pre post)
      (λ i e. h i (end_cons a r l (pre ++ x ∷ post) ∙ e))
      ∙ ap (option_map (later_line (suc (length pre)))) (sym (end_cons a r l (pre ++ post)))

  among_without : (a : List Part) (pre post : List Line) (n : ℕ) → end_among name v a (pre ++ x ∷ post) ≡ Some n
      → n ≢ suc (length pre)
      → Some n ≡ option_map (later_line (length pre)) (end_among name v a (pre ++ post))
  among_without [] pre post n e h =
      let same : body_length (pre ++ x ∷ post) ≡ n = cc in
      sym e ∙ ap (λ (m : ℕ). Some m) (length_without pre post (λ z. h (sym same ∙ z)))
  among_without (p ∷ ps) pre post n e h =
      sym e ∙ ends_without (p ∷ ps) start pre post (λ i f z. (let same : n ≡ i = cc in h (same ∙ z)))

  pub end_without : (s to : Document) (pre post : List Line) → lines s ≡ pre ++ x ∷ post → lines to ≡ pre ++ post
      → (a : List Part) (n : ℕ) → end_of s a ≡ Some n → n ≢ suc (length pre) → IsEndNow to a (length pre) n
  end_without s to pre post was now a n ends h =
      by (end_among name v a (pre ++ post)) refl
      (among_without a pre post n
      (ap (end_among name v a) (sym was) ∙ sym (end_is_among name v s a) ∙ ends) h)
    where
      by : (o : Option ℕ) → end_among name v a (pre ++ post) ≡ o → Some n ≡ option_map (later_line (length pre)) o
          → IsEndNow to a (length pre) n
      by None e f = absurd cc
      by (Some j) e f =
          let same : n ≡ later_line (length pre) j = cc in
          record {
            number = j;
            ends = end_is_among name v to a ∙ ap (end_among name v a) now ∙ e;
            later = same;
          }
