-- A header at the end of a text that ends in a newline: where it comes, and what is written.
--
-- It is written after a blank line, by `append_place` (`first_place`). The newline of a document whose first line has
-- one is that line's (`newline_kept`).
--
-- Theorems: `not_bare`, `newline_kept`, `first_place`.
use Rattle.std.proofs.Common.{◌≡◌, ℕ, Bool, true, false, ◌&&◌, ◌==◌, List, [], ◌∷◌, ◌++◌, length, refl}
use Rattle.std.proofs.Common.{sym, ap, ◌∙◌, arith}
use Rattle.std.specs.List.{flat_map}
use Rattle.std.proofs.lemmas.Bool.Decides.{nat_tests}
use Rattle.keep_types.specs.declared.leaf.Leaf.TheVariants as leaf
use Rattle.keep_types.specs.declared.leaf.Profile.{Profile}
use Rattle.keep_syntax.specs.Tree.{Written, Content, Line, Ended, Document, bom_leaves, ended_leaves, line_leaves}
use Rattle.keep_syntax.specs.Tree.{text, token}
use Rattle.keep_syntax.specs.Grammar.{IsDocument}
use Rattle.keep_edit_spec.specs.Changed.{Place, place_of}
use Rattle.keep_edit_spec.specs.Edits.{append, changed_or_same}
use Rattle.keep_edit_spec.specs.Lines.{content_text, first_newline, newline_of}
use Rattle.keep_edit_spec.specs.TextEnds.{ends_in_newline, header_at_end, is_bare_start}
use Rattle.keep_edit_spec.proofs.Append.AppendPlace.{append_place}
use Rattle.keep_edit_spec.proofs.Lists.Places.{first_line, or_line_feed, up_to_newline}

-- ---- a text that ends in a newline

and_false : (b : Bool) → (b && false) ≡ false
and_false true = refl
and_false false = refl

pub not_bare : (t : List ℕ) → ends_in_newline t ≡ true → is_bare_start t ≡ false
not_bare [] h = absurd cc
not_bare (a ∷ []) h = refl
not_bare (a ∷ b ∷ []) h = refl
not_bare (a ∷ b ∷ c ∷ d ∷ t) h = refl
not_bare (a ∷ b ∷ c ∷ []) h =
    let ends : (c == 0x0A) ≡ true = h in
    let other : (c == 0xBF) ≡ false = grind (arith, nat_tests) in
    ap (λ (x : Bool). (a == 0xEF && b == 0xBB) && x) other ∙ and_false (a == 0xEF && b == 0xBB)

after_newline : (t newline new : List ℕ) → ends_in_newline t ≡ true
    → header_at_end t newline new ≡ newline ++ (new ++ newline)
after_newline t newline new h = rw (not_bare t h, h) refl

-- ---- the newline

pub newline_kept : (bom : Bool) (e : Ended) (es others : List Ended) (last other : Line) → e.newline.leaf ≡ leaf.Newline
    → newline_of (record { bom = bom; ended = e ∷ es; last = last })
    ≡ newline_of (record { bom = bom; ended = e ∷ others; last = other })
newline_kept bom e es others last other kind =
    let rest : List Ended → Line → List Written =
    λ l x. flat_map ended_leaves l ++ (line_leaves x ++ token leaf.End []) in
    ap (λ (ws : List Written). or_line_feed (first_newline ws)) (first_line bom e es last)
    ∙ ap or_line_feed (up_to_newline (bom_leaves bom ++ line_leaves e.line) e.newline (rest es last)
    (rest others other) kind)
    ∙ ap (λ (ws : List Written). or_line_feed (first_newline ws)) (sym (first_line bom e others other))

-- ---- the header

module _ (profile : Profile) (s : Document) (valid : IsDocument profile s)
    (closed : ends_in_newline (text s) ≡ true) where
  -- what is written for a header
  abbrev pub written : Content → List ℕ
  written c = (newline_of s).text ++ (content_text c ++ (newline_of s).text)

  abbrev pub at_end : ℕ → List ℕ → Place
  at_end n new = record { start = n; end = n; new = new }

  pub first_place : (c : Content) → place_of (changed_or_same s (append s c)) ≡ at_end (length (text s)) (written c)
  first_place c =
      append_place profile s valid c
      ∙ ap (at_end (length (text s))) (after_newline (text s) (newline_of s).text (content_text c) closed)
