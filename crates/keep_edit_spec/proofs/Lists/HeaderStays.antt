-- A header makes the same change at the end of the text after an edit that keeps the document's newline, if it is not
-- refused then (`table_again`), as it is not if what is said of the paths with its first keys lets it come as before
-- (HeaderSaid; `table_stays`).
--
-- What comes after the first change stays, and so does the last byte, which ends a newline; a change up to the text's
-- end must end it so (`still_closed`). So the header is written at the end of the new text as it was at the end of the
-- old one, after a blank line (`header_place`, by `first_place`).
--
-- Theorems: `table_again`, `element_again`; `table_stays`, `element_stays`.
use Rattle.std.proofs.Common.{◌≡◌, ℕ, zero, suc, ◌+◌, ◌-◌, ◌<◌, Bool, true, cond, List, [], ◌++◌, length, refl, sym, ap}
use Rattle.std.proofs.Common.{ap₂, ◌∙◌, append_assoc, arith, Option, Some, None}
use Rattle.std.proofs.lemmas.Bool.{le-ltb}
use Rattle.keep_types.specs.declared.leaf.Profile.{Profile}
use Rattle.keep_syntax.specs.Grammar.{IsDocument}
use Rattle.keep_syntax.specs.Tree.{Content, Document, Written, element, header, text}
use Rattle.keep_meaning.specs.Meaning.{mentions_in}
use Rattle.keep_edit_spec.specs.AppendedHeaders.{AppendsElement, AppendsTable}
use Rattle.keep_edit_spec.specs.Changed.{Changed, IsChangeOf, Place, place_of}
use Rattle.keep_edit_spec.specs.Edits.{Edit, append, append_element, append_table, change, changed_or_same}
use Rattle.keep_edit_spec.specs.Edits.{edited_document, key_with, place}
use Rattle.keep_edit_spec.specs.Laws.{IsEditable, IsLawfulEdit}
use Rattle.keep_edit_spec.specs.Lines.{content_text, newline_of}
use Rattle.keep_edit_spec.specs.Refusals.{refusal}
use Rattle.keep_edit_spec.specs.TextChanges.{TextChange, moved, moved_by, place_of_change}
use Rattle.keep_edit_spec.specs.TextEnds.{ends_in_newline}
use Rattle.keep_edit_spec.proofs.Common.LineEnds.{ends_after}
use Rattle.keep_edit_spec.proofs.Common.LineTexts.{change-is}
use Rattle.keep_edit_spec.proofs.Common.Texts.{EachIs}
use Rattle.keep_edit_spec.proofs.Lists.HeaderPlaces.{first_place}
use Rattle.keep_edit_spec.proofs.Lists.HeaderSaid.{LetsCome, element_unrefused, table_unrefused}
use Rattle.keep_edit_spec.proofs.Lists.SetPlaces.{length_cut}

-- ---- after a change of the text

module _ (profile : Profile) (s : Document) (valid : IsDocument profile s) (closed : ends_in_newline (text s) ≡ true)
    (x : Changed Document) (cut : IsChangeOf text s x) (c : TextChange) (is : place_of x ≡ place_of_change c)
    (more : Content) (d : TextChange) (there : place_of (changed_or_same s (append s more)) ≡ place_of_change d)
    (adds : d.size ≡ 0) (ends : c.at + c.size ≡ d.at → ends_in_newline (text x.to) ≡ true) where
  abbrev at_end : ℕ → Written → Place
  at_end n w = record { start = n; end = n; new = w.text ++ (content_text more ++ w.text) }

  was_there : at_end (length (text s)) (newline_of s) ≡ place_of_change d
  was_there = sym (first_place profile s valid closed more) ∙ there

  was_end : length (text s) ≡ d.at
  was_end = ap (λ (p : Place). p.start) was_there

  was_long : length (text s) ≡ length x.before + (length x.old + length x.after)
  was_long = length_cut (text s) x.before x.old x.after cut.was

  start_is : length x.before ≡ c.at
  start_is = ap (λ (p : Place). p.start) is

  end_is : length x.before + length x.old ≡ c.at + c.size
  end_is = ap (λ (p : Place). p.end) is

  still_closed : ends_in_newline (text x.to) ≡ true
  still_closed = by (length x.after) refl
    where
      by : (n : ℕ) → length x.after ≡ n → ends_in_newline (text x.to) ≡ true
      by zero e = ends (omega (arith, e, was_end, was_long, end_is))
      by (suc n) e =
          let some : 0 < length x.after = omega (arith, e) in
          ap ends_in_newline (cut.is ∙ sym (append_assoc x.before x.new x.after))
          ∙ ends_after (x.before ++ x.new) x.after some
          ∙ sym (ap ends_in_newline (cut.was ∙ sym (append_assoc x.before x.old x.after))
          ∙ ends_after (x.before ++ x.old) x.after some)
          ∙ closed

  header_place : IsDocument profile x.to → newline_of x.to ≡ newline_of s
      → place_of (changed_or_same x.to (append x.to more)) ≡ place_of_change (moved c d)
  header_place valid_now newline =
      let long : length (text x.to) ≡ length x.before + (length x.new + length x.after) =
      length_cut (text x.to) x.before x.new x.after cut.is in
      let came : length x.new ≡ length c.new = ap (λ (p : Place). length p.new) is in
      let to : moved_by c d.at ≡ length (text x.to) =
      ap (λ (b : Bool). cond b d.at ((d.at + length c.new) - c.size))
      (le-ltb d.at c.at (omega (arith, was_end, was_long, start_is)))
      ∙ omega (arith, was_end, was_long, start_is, end_is, long, came) in
      let end : moved_by c d.at + d.size ≡ length (text x.to) = omega (arith, to, adds) in
      first_place profile x.to valid_now still_closed more
      ∙ ap (at_end (length (text x.to))) newline
      ∙ ap (λ (t : List ℕ). record { start = length (text x.to); end = length (text x.to); new = t })
      (ap (λ (p : Place). p.new) was_there)
      ∙ ap₂ (λ (a b : ℕ). record { start = a; end = b; new = d.new }) (sym to) (sym end)

-- ---- after an edit

cut_of : (s : Document) (o : Option (Changed Document)) (y : Changed Document) → o ≡ Some y → EachIs text s o
    → IsChangeOf text s (changed_or_same s o)
cut_of s None y is h = absurd cc
cut_of s (Some x) y is h = h

module _ (profile : Profile) (limit : ℕ) (s : Document) (e : Edit) (c : TextChange) (more : List (List ℕ))
    (d : TextChange) (fine : IsEditable profile limit s) (law : IsLawfulEdit profile limit s e)
    (made : place s e ≡ place_of_change c)
    (newline : newline_of (edited_document s e) ≡ newline_of s)
    (ends : c.at + c.size ≡ d.at → ends_in_newline (text (edited_document s e)) ≡ true) where
  abbrev edited : Changed Document
  edited = changed_or_same s (change s e)

  cut : IsChangeOf text s edited
  cut = cut_of s (change s e) law.changed law.is (change-is s e)

  pub table_again : refusal profile limit edited.to (append_table more) ≡ None → AppendsTable profile limit s more d
      → AppendsTable profile limit edited.to more (moved c d)
  table_again allowed h =
      let one : Content = header [] (key_with more) [] in
      record {
        utf8 = h.utf8;
        allowed = allowed;
        closed = still_closed profile s fine.valid h.closed edited cut c made one d h.is h.adds ends;
        adds = h.adds;
        is = header_place profile s fine.valid h.closed edited cut c made one d h.is h.adds ends law.reads.valid
            newline;
      }

  pub element_again : refusal profile limit edited.to (append_element more) ≡ None
      → AppendsElement profile limit s more d → AppendsElement profile limit edited.to more (moved c d)
  element_again allowed h =
      let one : Content = element [] (key_with more) [] in
      record {
        utf8 = h.utf8;
        allowed = allowed;
        closed = still_closed profile s fine.valid h.closed edited cut c made one d h.is h.adds ends;
        adds = h.adds;
        is = header_place profile s fine.valid h.closed edited cut c made one d h.is h.adds ends law.reads.valid
            newline;
      }

  module _ (come : LetsCome (mentions_in s) (mentions_in edited.to) more) where
    pub table_stays : AppendsTable profile limit s more d → AppendsTable profile limit edited.to more (moved c d)
    table_stays h =
        table_again (table_unrefused profile limit s edited.to fine.obeys law.obeys more come h.allowed) h

    pub element_stays : AppendsElement profile limit s more d → AppendsElement profile limit edited.to more (moved c d)
    element_stays h =
        element_again (element_unrefused profile limit s edited.to fine.obeys law.obeys more come h.allowed) h
