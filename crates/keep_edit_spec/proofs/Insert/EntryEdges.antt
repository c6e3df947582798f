-- What comes after the place of a new entry begins with no byte of a longer character.
--
-- Theorems: `gap_low`: of a gap and what comes after it; `back_low`: of what follows an entry in its brackets;
-- `low_put`: where a change puts bytes in before such a text, no such byte is at its place.
use Rattle.std.proofs.Common.{◌≡◌, ℕ, ◌<◌, true, false, List, [], ◌∷◌, ◌++◌, length, drop, refl, sym, ap, subst, ◌∙◌}
use Rattle.std.proofs.Common.{append_assoc, length-append, arith, Option, Some, None, drop_at}
use Rattle.std.specs.Prelude.{IsTrue, ◌==◌}
use Rattle.std.specs.List.{list_all}
use Rattle.std.proofs.lemmas.Bool.{and_parts}
use Rattle.keep_types.specs.declared.leaf.Leaf.{Leaf}
use Rattle.keep_types.specs.declared.leaf.Leaf.TheVariants as leaf
use Rattle.keep_types.specs.declared.leaf.Profile.{Profile}
use Rattle.keep_types.specs.declared.leaf.Profile.TheVariants.{Strict}
use Rattle.keep_token.specs.Abnf.{is_ws}
use Rattle.keep_token.specs.Leaves.{IsLeaf, is_gap_leaf}
use Rattle.keep_token.specs.Pieces.{first}
use Rattle.keep_syntax.specs.declared.info.Brackets.{Brackets}
use Rattle.keep_syntax.specs.Tree.{Gap, Entries, Document, comma_leaves, text_of, text}
use Rattle.keep_syntax.specs.Grammar.{AreEntries, IsGap, IsBlank}
use Rattle.keep_syntax.specs.Reading.{close_byte}
use Rattle.keep_syntax.proofs.Shared.{entries_begin, newline_class, comment_class, place_of as grammar_place, gap_blank}
use Rattle.keep_edit_spec.specs.Changed.{Changed, Place, IsChangeOf, place_of}
use Rattle.keep_edit_spec.specs.Edits.{Edit, change, changed_or_same}
use Rattle.keep_edit_spec.specs.Values.{entries_text, entry_back}
use Rattle.keep_edit_spec.proofs.Common.Texts.{EachIs}
use Rattle.keep_edit_spec.proofs.Common.LineTexts.{change-is}
use Rattle.keep_edit_spec.proofs.Remove.RemoveLinePlace.{is_high, ws_low, solid_low}
use Rattle.keep_edit_spec.proofs.Insert.LineBefore.{IsLowPlace}

leaf_low : (l : Leaf) (t x : List ℕ) → IsTrue (is_gap_leaf l) → IsLeaf Strict l t → is_high (first (t ++ x)) ≡ false
leaf_low leaf.Ws t x k i = by t i.0 i.1
  where
    by : (t : List ℕ) → 0 < length t → IsTrue (list_all is_ws t) → is_high (first (t ++ x)) ≡ false
    by [] some all = absurd (omega (arith, some))
    by (c ∷ t) some all = ws_low c (and_parts (is_ws c) (list_all is_ws t) all).0
leaf_low leaf.Newline t x k i = newline_class is_high t x refl refl i
leaf_low leaf.Comment t x k i = comment_class is_high t x refl i
leaf_low _ t x k i = absurd cc

pub gap_low : (g : Gap) (x : List ℕ) → IsBlank g → is_high (first x) ≡ false → is_high (first (text_of g ++ x)) ≡ false
gap_low [] x h low = low
gap_low (w ∷ g) x h low =
    subst (λ (t : List ℕ). is_high (first t) ≡ false) (sym (append_assoc w.text (text_of g) x))
    (leaf_low w.leaf w.text (text_of g ++ x) h.0 h.1)

-- entries, and what closes their brackets
pub entries_low : (profile : Profile) (b : Brackets) (es : Entries) (x : List ℕ)
    → AreEntries profile (grammar_place b) es → (first x == close_byte b) ≡ true
    → is_high (first (entries_text es ++ x)) ≡ false
entries_low profile b es x are closed =
    solid_low (first (entries_text es ++ x)) (entries_begin profile b es x are closed)

-- what follows an entry
pub back_low : (profile : Profile) (b : Brackets) (after : Gap) (comma : Option Gap) (rest : Entries) (x : List ℕ)
    → IsGap profile (grammar_place b) after → AreEntries profile (grammar_place b) rest
    → (first x == close_byte b) ≡ true
    → is_high (first (entry_back after comma rest ++ x)) ≡ false
back_low profile b after comma rest x gap are closed =
    subst (λ (t : List ℕ). is_high (first t) ≡ false)
    (sym (append_assoc (text_of after) (text_of (comma_leaves comma) ++ entries_text rest) x))
    (gap_low after ((text_of (comma_leaves comma) ++ entries_text rest) ++ x) (gap_blank profile b after gap)
    (by comma))
  where
    by : (comma : Option Gap) → is_high (first ((text_of (comma_leaves comma) ++ entries_text rest) ++ x)) ≡ false
    by None = entries_low profile b rest x are closed
    by (Some g) = refl

-- ---- seen from the document

-- where bytes are put in before such a text
pub low_put : (s : Document) (e : Edit) (c : Changed Document) (p : Place) → change s e ≡ Some c → c.old ≡ []
    → place_of c ≡ p → is_high (first c.after) ≡ false → IsLowPlace s e p
low_put s e c p is nothing at low =
    let cut : IsChangeOf text s c = subst (λ (o : Option (Changed Document)). EachIs text s o) is (change-is s e) in
    let start : p.start ≡ length c.before = sym (ap (λ (q : Place). q.start) at) in
    let whole : text s ≡ c.before ++ c.after = cut.was ∙ ap (λ (t : List ℕ). c.before ++ (t ++ c.after)) nothing in
    record {
      placed = ap (λ (o : Option (Changed Document)). place_of (changed_or_same s o)) is ∙ at;
      within = omega (arith, start, ap (λ (t : List ℕ). length t) whole, length-append c.before c.after);
      low = ap (λ (n : ℕ). is_high (first (drop n (text s)))) start
          ∙ ap (λ (t : List ℕ). is_high (first (drop (length c.before) t))) whole
          ∙ ap (λ (t : List ℕ). is_high (first t)) (drop_at c.before c.after (length c.before) refl) ∙ low;
    }
