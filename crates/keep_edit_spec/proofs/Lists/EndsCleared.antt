-- Where bodies end once a keyval's line is cleared to its comment.
--
-- A body's length counts the lines up to the last keyval before the next header. So it is the same if a keyval's line
-- that is not the last of its body becomes blank (`length_cleared`). The line begins no body and leaves the reading as
-- it is, before and after. So each end is the same, unless it is right after the line (`end_cleared`).
--
-- Theorems: `end_cleared`; `body_end_cleared`: of the body that begins after any line.
use Rattle.std.proofs.Common.{◌≡◌, ◌≢◌, ℕ, zero, suc, Bool, true, false, ◌&&◌, List, [], ◌∷◌, ◌++◌, length, refl, sym}
use Rattle.std.proofs.Common.{ap, ap₂, ◌∙◌, Option, Some, None}
use Rattle.std.specs.Option.{option_map}
use Rattle.keep_syntax.specs.Tree.{Name, Value, Written, Content, blank, keyval, header, element, Line, Document}
use Rattle.keep_path.specs.Path.{Part, same_path}
use Rattle.keep_meaning.specs.Marks.{Reading, start}
use Rattle.keep_meaning.specs.Meaning.{after_line, lines}
use Rattle.keep_edit_spec.specs.Edits.{end_of}
use Rattle.keep_edit_spec.specs.Lines.{begins, body_end, body_length, is_header, more_lines}
use Rattle.keep_edit_spec.proofs.Common.LineTexts.{cleared}
use Rattle.keep_edit_spec.proofs.Common.SetDocument.{reading_of}
use Rattle.keep_edit_spec.proofs.Lists.BodyEnds.{end_among, end_cons, end_first, end_in, end_is_among, end_next, end_or}
use Rattle.keep_edit_spec.proofs.Lists.BodyEnds.{length_after}

-- from the length of the lines after the first
length_step : (x : Content) (m b n : ℕ) → (m ≢ suc n → b ≡ m) → length_after x m ≢ suc (suc n)
    → length_after x b ≡ length_after x m
length_step blank m b n go h = ap (more_lines false) (go (λ z. h (ap (more_lines false) z)))
length_step (keyval name v) m b n go h = ap suc (go (λ z. h (ap suc z)))
length_step (header x k y) m b n go h = refl
length_step (element x k y) m b n go h = refl

-- from the end among the lines after one line
end_step : (begun : Bool) (o p : Option ℕ) (m b n : ℕ) → (((i : ℕ) → o ≡ Some i → i ≢ suc n) → p ≡ o)
    → (m ≢ suc n → b ≡ m) → ((i : ℕ) → end_or begun m o ≡ Some i → i ≢ suc (suc n))
    → end_or begun b p ≡ end_or begun m o
end_step begun (Some i) p m b n rest go h =
    ap (end_or begun b) (rest (λ k is z. h (suc k) (ap (option_map suc) is) (ap suc z)))
end_step true None p m b n rest go h =
    ap₂ (end_or true) (go (λ z. h (suc m) refl (ap suc z))) (rest (λ k is z. absurd cc))
end_step false None p m b n rest go h = ap (end_or false b) (rest (λ k is z. absurd cc))

module _ (x : Line) (name : Name) (v : Value) (is : x.content ≡ keyval name v) (comment : Written) where
  abbrev y : Line
  y = (cleared x comment).to

  length_cleared : (pre post : List Line) → body_length (pre ++ x ∷ post) ≢ suc (length pre)
      → body_length (pre ++ y ∷ post) ≡ body_length (pre ++ x ∷ post)
  length_cleared [] post h = by (body_length post) (λ z. h (long ∙ z)) ∙ sym long
    where
      long : body_length (x ∷ post) ≡ suc (body_length post)
      long = ap (λ (c : Content). length_after c (body_length post)) is

      by : (n : ℕ) → suc n ≢ 1 → more_lines false n ≡ suc n
      by zero some = absurd (some refl)
      by (suc n) some = refl
  length_cleared (l ∷ pre) post h =
      length_step l.content (body_length (pre ++ x ∷ post)) (body_length (pre ++ y ∷ post)) (length pre)
      (length_cleared pre post) h

  -- of the body that begins after any line
  pub body_end_cleared : (pre post : List Line) (i : ℕ) → body_end i (pre ++ x ∷ post) ≢ suc (length pre)
      → body_end i (pre ++ y ∷ post) ≡ body_end i (pre ++ x ∷ post)
  body_end_cleared [] post i h = refl
  body_end_cleared (l ∷ pre) post zero h =
      let long : body_end 0 (l ∷ (pre ++ x ∷ post)) ≡ suc (body_length (pre ++ x ∷ post)) =
      end_first l (pre ++ x ∷ post) in
      end_first l (pre ++ y ∷ post) ∙ ap suc (length_cleared pre post (λ e. h (long ∙ ap suc e))) ∙ sym long
  body_end_cleared (l ∷ pre) post (suc i) h =
      let long : body_end (suc i) (l ∷ (pre ++ x ∷ post)) ≡ suc (body_end i (pre ++ x ∷ post)) =
      end_next i l (pre ++ x ∷ post) in
      end_next i l (pre ++ y ∷ post) ∙ ap suc (body_end_cleared pre post i (λ e. h (long ∙ ap suc e))) ∙ sym long

  ends_cleared : (a : List Part) (r : Reading) (pre post : List Line)
      → ((i : ℕ) → end_in a r (pre ++ x ∷ post) ≡ Some i → i ≢ suc (length pre))
      → end_in a r (pre ++ y ∷ post) ≡ end_in a r (pre ++ x ∷ post)
  ends_cleared a r [] post h =
      end_cons a r y post
      ∙ sym (end_cons a r x post
      ∙ ap₂ (λ (b : Bool) (q : Reading). end_or b (body_length post) (end_in a q post))
      (ap (λ (c : Content). is_header c && same_path (after_line r x).body a) is) (reading_of r x name v is))
  ends_cleared a r (l ∷ pre) post h =
      end_cons a r l (pre ++ y ∷ post)
      ∙ end_step (begins a r l) (end_in a (after_line r l) (pre ++ x ∷ post))
      (end_in a (after_line r l) (pre ++ y ∷ post)) (body_length (pre ++ x ∷ post)) (body_length (pre ++ y ∷ post))
      (length pre) (ends_cleared a (after_line r l) pre post) (length_cleared pre post)
      (λ i e. h i (end_cons a r l (pre ++ x ∷ post) ∙ e))
      ∙ sym (end_cons a r l (pre ++ x ∷ post))

  among_cleared : (a : List Part) (pre post : List Line) (n : ℕ) → end_among name v a (pre ++ x ∷ post) ≡ Some n
      → n ≢ suc (length pre) → end_among name v a (pre ++ y ∷ post) ≡ Some n
  among_cleared [] pre post n e h =
      let same : body_length (pre ++ x ∷ post) ≡ n = cc in
      ap (λ (m : ℕ). Some m) (length_cleared pre post (λ z. h (sym same ∙ z)) ∙ same)
  among_cleared (p ∷ ps) pre post n e h =
      ends_cleared (p ∷ ps) start pre post (λ i f z. (let same : n ≡ i = cc in h (same ∙ z))) ∙ e

  pub end_cleared : (s to : Document) (pre post : List Line) → lines s ≡ pre ++ x ∷ post → lines to ≡ pre ++ y ∷ post
      → (a : List Part) (n : ℕ) → end_of s a ≡ Some n → n ≢ suc (length pre) → end_of to a ≡ Some n
  end_cleared s to pre post was now a n ends h =
      end_is_among name v to a ∙ ap (end_among name v a) now
      ∙ among_cleared a pre post n (ap (end_among name v a) (sym was) ∙ sym (end_is_among name v s a) ∙ ends) h
