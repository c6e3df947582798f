-- Where bodies end without the keyval line that was the last of its body.
--
-- The body ended right after that line. Without it, it ends where the line was, if the line before that is not blank:
-- this one is a keyval, so it is of the body, too, or a header, which begins the body (`ends_here`, by induction over
-- the lines before it). A body that did not end, as no line began it, still does not (`IsEarlier`).
--
-- Theorem: `end_in_place`.
use Rattle.std.proofs.Common.{◌≡◌, ◌≢◌, ℕ, zero, suc, Bool, true, false, ◌&&◌, List, [], ◌∷◌, ◌++◌, length, refl, sym}
use Rattle.std.proofs.Common.{ap, ap₂, ◌∙◌, append_assoc, length-append, arith, Option, Some, None}
use Rattle.std.specs.Option.{option_map}
use Rattle.keep_syntax.specs.Tree.{Name, Value, Content, blank, keyval, header, element, Line, Document}
use Rattle.keep_path.specs.Path.{Part, same_path}
use Rattle.keep_meaning.specs.Marks.{Reading, start}
use Rattle.keep_meaning.specs.Meaning.{after_line, lines}
use Rattle.keep_edit_spec.specs.Edits.{end_of}
use Rattle.keep_edit_spec.specs.Lines.{begins, body_length, is_header, more_lines}
use Rattle.keep_edit_spec.proofs.Common.SetDocument.{reading_of}
use Rattle.keep_edit_spec.proofs.Lists.BodyEnds.{end_among, end_cons, end_in, end_is_among, end_or, length_after}

-- ---- one line before the others

-- what ended one line after line n now ends at it, and what ended nowhere still does
record IsEarlier (n : ℕ) (was are : Option ℕ) : Type 0 where
  some : was ≡ Some (suc n) → are ≡ Some n
  none : was ≡ None → are ≡ None

earlier_as : (n : ℕ) (was from are to : Option ℕ) → was ≡ from → are ≡ to → IsEarlier n from to → IsEarlier n was are
earlier_as n was from are to e f h =
    record { some = λ k. f ∙ h.some (sym e ∙ k); none = λ k. f ∙ h.none (sym e ∙ k) }

length_first : (c : Content) (n : ℕ) → c ≢ blank → length_after c (suc n) ≡ 2 → length_after c n ≡ 1
length_first blank n said h = absurd (said refl)
length_first (keyval name v) n said h = omega (arith, h)
length_first (header x k y) n said h = absurd (omega (arith, h))
length_first (element x k y) n said h = absurd (omega (arith, h))

length_next : (c : Content) (m k n : ℕ) → (m ≡ suc (suc n) → k ≡ suc n) → length_after c m ≡ suc (suc (suc n))
    → length_after c k ≡ suc (suc n)
length_next blank zero k n go h = absurd (omega (arith, h))
length_next blank (suc m) k n go h = ap (more_lines false) (go (omega (arith, h)))
length_next (keyval name v) m k n go h = ap suc (go (omega (arith, h)))
length_next (header x c y) m k n go h = absurd (omega (arith, h))
length_next (element x c y) m k n go h = absurd (omega (arith, h))

end_first : (begun : Bool) (n : ℕ) (o : Option ℕ)
    → IsEarlier 1 (end_or begun (suc n) (option_map suc o)) (end_or begun n o)
end_first begun n (Some k) = record {
  some = λ h. (let e : suc (suc k) ≡ 2 = cc in ap (λ (m : ℕ). Some m) (omega (arith, e)));
  none = λ h. absurd cc;
}
end_first true n None = record {
  some = λ h. (let e : suc (suc n) ≡ 2 = cc in ap (λ (m : ℕ). Some m) (omega (arith, e)));
  none = λ h. absurd cc;
}
end_first false n None = record { some = λ h. absurd cc; none = λ h. refl }

end_next : (begun : Bool) (o p : Option ℕ) (m k n : ℕ) → IsEarlier (suc n) o p → (m ≡ suc (suc n) → k ≡ suc n)
    → IsEarlier (suc (suc n)) (end_or begun m o) (end_or begun k p)
end_next begun (Some i) p m k n rest go = record {
  some = λ h. ap (end_or begun k) (rest.some (let e : suc i ≡ suc (suc (suc n)) = cc in
      ap (λ (j : ℕ). Some j) (omega (arith, e))));
  none = λ h. absurd cc;
}
end_next true None p m k n rest go = record {
  some = λ h. ap (end_or true k) (rest.none refl)
      ∙ (let e : suc m ≡ suc (suc (suc n)) = cc in ap (λ (j : ℕ). Some (suc j)) (go (omega (arith, e))));
  none = λ h. absurd cc;
}
end_next false None p m k n rest go = record {
  some = λ h. absurd cc;
  none = λ h. ap (end_or false k) (rest.none refl);
}

-- ---- without a keyval's line

module _ (x : Line) (name : Name) (v : Value) (is : x.content ≡ keyval name v) (l : Line)
    (said : l.content ≢ blank) where
  length_here : (first post : List Line) → body_length (first ++ l ∷ x ∷ post) ≡ suc (suc (length first))
      → body_length (first ++ l ∷ post) ≡ suc (length first)
  length_here [] post h =
      length_first l.content (body_length post) said
      (ap (λ (c : Content). length_after l.content (length_after c (body_length post))) (sym is) ∙ h)
  length_here (y ∷ first) post h =
      length_next y.content (body_length (first ++ l ∷ x ∷ post)) (body_length (first ++ l ∷ post)) (length first)
      (length_here first post) h

  end_past : (a : List Part) (r : Reading) (post : List Line)
      → end_in a r (x ∷ post) ≡ option_map suc (end_in a r post)
  end_past a r post =
      end_cons a r x post
      ∙ ap₂ (λ (b : Bool) (y : Reading). end_or b (body_length post) (end_in a y post))
      (ap (λ (c : Content). is_header c && same_path (after_line r x).body a) is) (reading_of r x name v is)
      ∙ by (end_in a r post)
    where
      by : (o : Option ℕ) → end_or false (body_length post) o ≡ option_map suc o
      by None = refl
      by (Some n) = refl

  ends_here : (a : List Part) (r : Reading) (first post : List Line)
      → IsEarlier (suc (length first)) (end_in a r (first ++ l ∷ x ∷ post)) (end_in a r (first ++ l ∷ post))
  ends_here a r [] post =
      let n : ℕ = body_length post in
      let q : Reading = after_line r l in
      let later : Option ℕ = end_in a q post in
      earlier_as 1 (end_in a r (l ∷ x ∷ post)) (end_or (begins a r l) (suc n) (option_map suc later))
      (end_in a r (l ∷ post)) (end_or (begins a r l) n later)
      (end_cons a r l (x ∷ post)
      ∙ ap₂ (end_or (begins a r l)) (ap (λ (c : Content). length_after c n) is) (end_past a q post))
      (end_cons a r l post) (end_first (begins a r l) n later)
  ends_here a r (y ∷ first) post =
      let q : Reading = after_line r y in
      let ls : List Line = first ++ l ∷ x ∷ post in
      let left : List Line = first ++ l ∷ post in
      earlier_as (suc (suc (length first))) (end_in a r (y ∷ ls))
      (end_or (begins a r y) (body_length ls) (end_in a q ls)) (end_in a r (y ∷ left))
      (end_or (begins a r y) (body_length left) (end_in a q left)) (end_cons a r y ls) (end_cons a r y left)
      (end_next (begins a r y) (end_in a q ls) (end_in a q left) (body_length ls) (body_length left) (length first)
      (ends_here a q first post) (length_here first post))

  among_here : (a : List Part) (first post : List Line)
      → end_among name v a (first ++ l ∷ x ∷ post) ≡ Some (suc (suc (length first)))
      → end_among name v a (first ++ l ∷ post) ≡ Some (suc (length first))
  among_here [] first post h =
      let e : body_length (first ++ l ∷ x ∷ post) ≡ suc (suc (length first)) = cc in
      ap (λ (n : ℕ). Some n) (length_here first post e)
  among_here (p ∷ ps) first post h = (ends_here (p ∷ ps) start first post).some h

  pub end_in_place : (s to : Document) (pre post : List Line) → lines s ≡ pre ++ x ∷ post → lines to ≡ pre ++ post
      → (first : List Line) → pre ≡ first ++ l ∷ [] → (a : List Part) → end_of s a ≡ Some (suc (length pre))
      → end_of to a ≡ Some (length pre)
  end_in_place s to pre post was are first cut a ends =
      let number : length pre ≡ suc (length first) =
      omega (arith, ap (λ (ls : List Line). length ls) cut, length-append first (l ∷ [])) in
      let was_here : lines s ≡ first ++ l ∷ x ∷ post =
      was ∙ ap (λ (ls : List Line). ls ++ x ∷ post) cut ∙ append_assoc first (l ∷ []) (x ∷ post) in
      let are_here : lines to ≡ first ++ l ∷ post =
      are ∙ ap (λ (ls : List Line). ls ++ post) cut ∙ append_assoc first (l ∷ []) post in
      end_is_among name v to a ∙ ap (end_among name v a) are_here
      ∙ among_here a first post
      (ap (end_among name v a) (sym was_here) ∙ sym (end_is_among name v s a) ∙ ends
      ∙ ap (λ (n : ℕ). Some (suc n)) number)
      ∙ ap (λ (n : ℕ). Some n) (sym number)
