-- Where new lines are put: after the text of the lines before them. A newline comes first only after a last line
-- without one.
--
-- Theorem: `lines_place`.
use Rattle.std.proofs.Common.{◌≡◌, ℕ, zero, suc, ◌+◌, Bool, true, false, cond, List, [], ◌∷◌, ◌++◌, length, map, refl}
use Rattle.std.proofs.Common.{sym, ap, ◌∙◌, append_assoc, length-append, arith, Some}
use Rattle.std.proofs.lemmas.Option.{same_Some}
use Rattle.std.specs.List.{flat_map}
use Rattle.std.proofs.lemmas.List.{append-nil}
use Rattle.keep_syntax.specs.Tree.{Written, Content, Line, Ended, Document, ended_leaves, bom_leaves, text_of}
use Rattle.keep_edit_spec.specs.Changed.{Changed, place_of, framed_change}
use Rattle.keep_edit_spec.specs.Lines.{Page, ended_text, with_page, put_lines, drop_prefix, new_line, newline_of}
use Rattle.keep_edit_spec.specs.Edits.{at_line}
use Rattle.keep_edit_spec.proofs.Common.Texts.{text_of-append}
use Rattle.keep_edit_spec.proofs.Remove.RemovePlace.{same_place}
use Rattle.keep_edit_spec.proofs.Remove.RemoveLinePlace.{head_text}

-- ---- among the lines

-- the line with that number comes after the last
abbrev pub is_past : ℕ → List Ended → Bool
is_past n [] = elim n [ zero ↦ false | suc m ↦ true ]
is_past n (e ∷ es) = elim n [ zero ↦ false | suc m ↦ is_past m es ]

-- a newline, if that is so
abbrev pub newline_if : Bool → List ℕ → List ℕ
newline_if past newline = cond past newline []

-- the text of the lines before the line with that number
abbrev pub prefix_of : ℕ → List Ended → Line → List ℕ
prefix_of n es last = (drop_prefix n es last).old

pub record ArePut (n : ℕ) (lines : List Ended) (newline : Written) (es : List Ended) (last : Line)
    (c : Changed Page) : Type 0 where
  pub before : c.before ≡ prefix_of n es last
  pub old : c.old ≡ []
  pub new : c.new ≡ newline_if (is_past n es) newline.text ++ ended_text lines
  pub after : c.after ≡ (drop_prefix n es last).after

pub lines_are_put : (n : ℕ) (lines : List Ended) (newline : Written) (es : List Ended) (last : Line)
    → ArePut n lines newline es last (put_lines n lines newline es last)
lines_are_put zero lines newline [] last = record { before = refl; old = refl; new = refl; after = refl }
lines_are_put (suc m) lines newline [] last = record { before = refl; old = refl; new = refl; after = refl }
lines_are_put zero lines newline (e ∷ es) last = record { before = refl; old = refl; new = refl; after = refl }
lines_are_put (suc m) lines newline (e ∷ es) last =
    let h = lines_are_put m lines newline es last in
    record {
      before = ap (λ (t : List ℕ). text_of (ended_leaves e) ++ t) h.before;
      old = h.old;
      new = h.new;
      after = append-nil (put_lines m lines newline es last).after ∙ h.after;
    }

-- ---- in the document

-- how many bytes come before the first line
abbrev pub bom_width : Document → ℕ
bom_width s = length (text_of (bom_leaves s.bom))

-- where the line with that number begins
abbrev pub line_begins : Document → ℕ → ℕ
line_begins s n = bom_width s + length (prefix_of n s.ended s.last)

pub record AreLinesPut (s : Document) (n : ℕ) (contents : List Content) (c : Changed Document) : Type 0 where
  pub before : c.before ≡ text_of (bom_leaves s.bom) ++ prefix_of n s.ended s.last
  pub old : c.old ≡ []
  pub new : c.new ≡ newline_if (is_past n s.ended) (newline_of s).text
      ++ ended_text (map (new_line (newline_of s)) contents)
  pub after : c.after ≡ (drop_prefix n s.ended s.last).after

pub lines_put : (s : Document) (n : ℕ) (contents : List Content) (c : Changed Document) → at_line s n contents ≡ Some c
    → AreLinesPut s n contents c
lines_put s n contents c is =
    let lines : List Ended = map (new_line (newline_of s)) contents in
    let p : Changed Page = put_lines n lines (newline_of s) s.ended s.last in
    let h : ArePut n lines (newline_of s) s.ended s.last p = lines_are_put n lines (newline_of s) s.ended s.last in
    let same : framed_change (with_page s) (text_of (bom_leaves s.bom)) [] p ≡ c =
    same_Some (framed_change (with_page s) (text_of (bom_leaves s.bom)) [] p) c is in
    record {
      before =
          sym (ap (λ (x : Changed Document). x.before) same)
          ∙ ap (λ (t : List ℕ). text_of (bom_leaves s.bom) ++ t) h.before;
      old = sym (ap (λ (x : Changed Document). x.old) same) ∙ h.old;
      new = sym (ap (λ (x : Changed Document). x.new) same) ∙ h.new;
      after = sym (ap (λ (x : Changed Document). x.after) same) ∙ append-nil p.after ∙ h.after;
    }

-- as a place
pub lines_place : (s : Document) (n : ℕ) (contents : List Content) (c : Changed Document)
    → at_line s n contents ≡ Some c
    → place_of c ≡ record {
      start = line_begins s n;
      end = line_begins s n;
      new = newline_if (is_past n s.ended) (newline_of s).text ++ ended_text (map (new_line (newline_of s)) contents);
    }
lines_place s n contents c is =
    let h : AreLinesPut s n contents c = lines_put s n contents c is in
    let at : length c.before ≡ line_begins s n =
    ap (λ (t : List ℕ). length t) h.before ∙ length-append (text_of (bom_leaves s.bom)) (prefix_of n s.ended s.last) in
    same_place (length c.before) (line_begins s n) (length c.before + length c.old) (line_begins s n) c.new
    _ at (omega (arith, at, ap (λ (t : List ℕ). length t) h.old)) h.new

-- ---- the text of the lines before a line

-- before the first, none
pub prefix_none : (es : List Ended) (last : Line) → prefix_of 0 es last ≡ []
prefix_none [] last = refl
prefix_none (e ∷ es) last = refl

-- past whole lines
pub prefix_past : (pre : List Ended) (k : ℕ) (rest : List Ended) (last : Line) (n : ℕ) → n ≡ length pre + k
    → prefix_of n (pre ++ rest) last ≡ ended_text pre ++ prefix_of k rest last
prefix_past [] k rest last n e = ap (λ (m : ℕ). prefix_of m rest last) (let same : n ≡ k = omega (arith, e) in same)
prefix_past (x ∷ pre) k rest last zero e = absurd (omega (arith, e))
prefix_past (x ∷ pre) k rest last (suc m) e =
    ap (λ (t : List ℕ). text_of (ended_leaves x) ++ t) (prefix_past pre k rest last m (omega (arith, e)))
    ∙ sym (append_assoc (text_of (ended_leaves x)) (ended_text pre) (prefix_of k rest last))
    ∙ ap (λ (t : List ℕ). t ++ prefix_of k rest last)
    (sym (text_of-append (ended_leaves x) (flat_map ended_leaves pre)))

pub past_past : (pre : List Ended) (k : ℕ) (rest : List Ended) (n : ℕ) → n ≡ length pre + k
    → is_past n (pre ++ rest) ≡ is_past k rest
past_past [] k rest n e = ap (λ (m : ℕ). is_past m rest) (let same : n ≡ k = omega (arith, e) in same)
past_past (x ∷ pre) k rest zero e = absurd (omega (arith, e))
past_past (x ∷ pre) k rest (suc m) e = past_past pre k rest m (omega (arith, e))

-- one line
pub prefix_one : (rest : List Ended) (last : Line) → prefix_of 1 rest last ≡ head_text rest last
prefix_one [] last = refl
prefix_one (e ∷ es) last =
    ap (λ (t : List ℕ). text_of (ended_leaves e) ++ t) (prefix_none es last) ∙ append-nil (text_of (ended_leaves e))
