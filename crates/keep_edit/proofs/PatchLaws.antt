-- An edit that is written into a text: its bytes begin there at a boundary of characters, the old bytes bring back the
-- old text, and the splice is that of the place.
--
-- Theorems: `starts_there`: where the bytes begin; `is_back`: the old text is brought back; `splice_is`: the splice.
use Rattle.std.proofs.Common.{◌≡◌, ℕ, ◌+◌, ◌-◌, ◌≤◌, List, ◌++◌, length, take, drop, refl, sym, ap, ap₂, subst, ◌∙◌}
use Rattle.std.proofs.Common.{arith, append_assoc, IsUtf8, IsCharBoundary}
use Rattle.std.specs.Prelude.{String, string_bytes, slice_range}
use Rattle.std.specs.Global.{Global}
use Rattle.std.specs.List.{replace_range}
use Rattle.std.proofs.lemmas.List.{length-append, length-take-le, take-append-drop, drop-drop}
use Rattle.std.proofs.lemmas.Str.{IsUtf8-append, IsUtf8-drop, IsUtf8-string_bytes, IsCharBoundary-at_seam}
use Rattle.std.proofs.Math.Seq.{take-append_seam, drop-append_seam}
use Rattle.keep_types.specs.declared.leaf.Profile.{Profile}
use Rattle.keep_types.specs.declared.syntax.Span.{Span}
use Rattle.keep_syntax.specs.Numbered.{span}
use Rattle.keep_syntax.specs.Tree.{Document}
use Rattle.keep_edit_spec.specs.declared.splice.Splice.{Splice}
use Rattle.keep_edit_spec.specs.Changed.{Place}
use Rattle.keep_edit_spec.specs.TouchedLines.{scanned}
use Rattle.keep_edit_plan.specs.Answers.{IsMadeAt, splice_of, text_after}
use Rattle.keep_edit_plan.specs.declared.text_edit.TextEdit.{TextEdit}
use Rattle.keep_edit.specs.Patches.{CanPutBack}
use Rattle.keep_edit.specs.Places.{after}
use Rattle.keep_edit.specs.Reading.{ProfiledText, text_in}

-- ---- of any bytes

module _ (before new : List ℕ) (start end : ℕ) (ordered : start ≤ end) (within : end ≤ length before) where
  prefix : List ℕ
  prefix = take start before

  front_len : length prefix ≡ start
  unfolding prefix
  front_len = length-take-le start before (omega arith)

  -- the part with what comes before and after it
  whole : (take start before ++ slice_range before start end) ++ drop end before ≡ before
  whole =
      let after : drop (end - start) (drop start before) ≡ drop end before =
      drop-drop (end - start) start before
      ∙ ap (λ (n : ℕ). drop n before) (let sum : start + (end - start) ≡ end = omega arith in sum) in
      append_assoc (take start before) (slice_range before start end) (drop end before)
      ∙ ap (λ (x : List ℕ). take start before ++ (slice_range before start end ++ x)) (sym after)
      ∙ ap (λ (x : List ℕ). take start before ++ x) (take-append-drop (end - start) (drop start before))
      ∙ take-append-drop start before

  pub back : replace_range (take start before ++ (new ++ drop end before)) start (start + length new)
      (slice_range before start end) ≡ before
  unfolding prefix front_len
  back =
      let first : take start (take start before ++ (new ++ drop end before)) ≡ take start before =
      ap (λ (n : ℕ). take n (take start before ++ (new ++ drop end before))) (sym front_len)
      ∙ take-append_seam prefix (new ++ drop end before) in
      let size : length (prefix ++ new) ≡ start + length new =
      length-append prefix new ∙ ap (λ (n : ℕ). n + length new) front_len in
      let last : drop (start + length new) (take start before ++ (new ++ drop end before)) ≡ drop end before =
      ap₂ (λ (n : ℕ) (x : List ℕ). drop n x) (sym size) (sym (append_assoc prefix new (drop end before)))
      ∙ drop-append_seam (prefix ++ new) (drop end before) in
      ap₂ (λ (a b : List ℕ). (a ++ slice_range before start end) ++ b) first last ∙ whole

  module _ (new_utf8 : IsUtf8 new) (utf8 : IsUtf8 before) (ends : IsCharBoundary before end) where
    pub start_cut : IsCharBoundary (take start before ++ (new ++ drop end before)) start
    unfolding prefix front_len
    start_cut =
        subst (λ (n : ℕ). IsCharBoundary (take start before ++ (new ++ drop end before)) n) front_len
        (IsCharBoundary-at_seam (take start before ++ (new ++ drop end before)) prefix (new ++ drop end before) refl
        (IsUtf8-append new (drop end before) new_utf8 (IsUtf8-drop before end utf8 ends)))

-- ---- of an edit

module _ (made : TextEdit) (before replaced_bytes : List ℕ) (text : String Global)
    (can : CanPutBack made before replaced_bytes text) where
  pub starts_there : IsCharBoundary (string_bytes text) made.place.start
  starts_there =
      subst (λ (x : List ℕ). IsCharBoundary x made.place.start) (sym can.put)
      (start_cut before (string_bytes made.new) made.place.start made.place.end can.within.ordered can.within.within
      (IsUtf8-string_bytes made.new) can.utf8 can.within.ends)

  pub is_back : (new : List ℕ)
      → new ≡ replace_range (string_bytes text) made.place.start (made.place.start + length (string_bytes made.new))
      replaced_bytes → new ≡ before
  is_back new is =
      is ∙ ap₂ (λ (x y : List ℕ).
      replace_range x made.place.start (made.place.start + length (string_bytes made.new)) y) can.put can.was
      ∙ back before (string_bytes made.new) made.place.start made.place.end can.within.ordered can.within.within

-- ---- of a document

-- by the bytes that the document's text is seen as
pub patched_is : (old : ProfiledText) (made : TextEdit) (profile : Profile) (bytes new : List ℕ)
    → text_in profile bytes ≡ old → new ≡ text_after bytes made → text_in profile new ≡ after old made
patched_is old made profile bytes new same put =
    ap (λ (b : List ℕ). text_in profile b) put ∙ ap (λ (d : ProfiledText). after d made) same

splice_with : Span → ℕ → ℕ → Splice
splice_with place added n = record { start = place.start; end = place.end; added = added; scanned = n }

pub splice_is : (s : Document) (p : Place) (made : TextEdit) (added n : ℕ) → IsMadeAt p made
    → added ≡ length (string_bytes made.new) → n ≡ scanned s p
    → ◌≡◌ {A = Splice} (record { start = made.place.start; end = made.place.end; added = added; scanned = n })
    (splice_of s p)
unfolding splice_with
splice_is s p made added n at size count =
    ap₂ (λ (x : Span) (a : ℕ). splice_with x a n) at.0 (size ∙ ap length at.1)
    ∙ ap (λ (m : ℕ). splice_with (span p.start p.end) (length p.new) m) count
