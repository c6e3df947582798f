-- An insert that adds a line to a table which dotted keys make adds the same one after an edit that put a keyval in, if
-- its holder stays, it is not refused, and the last line that leads through the holder is known.
--
-- No line begins a body that none began before (`bare_by`). If the line after the last one is at the moved number, the
-- last line is in the same body as before (OneLineMore), and the next one begins at the moved place (Places). So the
-- same line comes (DottedAgain).
--
-- Theorems: `dotted_still`; `bare_by`, `bare_now`.
use Rattle.std.proofs.Common.{◌≡◌, ℕ, suc, true, List, [], ◌∷◌, ◌++◌, length, take, drop, refl, sym, ap, subst, ◌∙◌}
use Rattle.std.proofs.Common.{length-append, arith, Option, Some, None}
use Rattle.std.proofs.lemmas.List.{take-append-drop}
use Rattle.keep_types.specs.declared.leaf.Profile.{Profile}
use Rattle.keep_syntax.specs.Tree.{Name, Value, Ended, Line, Document, bom_leaves, keyval, text_of}
use Rattle.keep_path.specs.Path.{Part}
use Rattle.keep_meaning.specs.Marks.{start}
use Rattle.keep_meaning.specs.Meaning.{lines, mentions_in, reading_after_lines}
use Rattle.keep_edit_spec.specs.ClearedLines.{line_start}
use Rattle.keep_edit_spec.specs.DottedLines.{AddsDotted, StillAdds}
use Rattle.keep_edit_spec.specs.Edits.{end_of, insert}
use Rattle.keep_edit_spec.specs.Laws.{IsEditable}
use Rattle.keep_edit_spec.specs.Lines.{begins, ended_text, last_line, leads_dotted, new_line, newline_of, reading_at}
use Rattle.keep_edit_spec.specs.Look.{holder}
use Rattle.keep_edit_spec.specs.Refusals.{refusal}
use Rattle.keep_edit_spec.specs.TextChanges.{TextChange, moved, moved_by}
use Rattle.keep_edit_spec.proofs.Lists.BodyEnds.{end_at}
use Rattle.keep_edit_spec.proofs.Lists.DottedAgain.{IsLastThere, dotted_again}
use Rattle.keep_edit_spec.proofs.Lists.DottedLine.{at_is, before}
use Rattle.keep_edit_spec.proofs.Lists.OneLineMore.{body_still, none_still}
use Rattle.keep_edit_spec.proofs.Lists.Places.{later_line, line_moves}
use Rattle.keep_edit_spec.proofs.Lists.PutsKeyval.{PutsKeyval, few_still, first_long, lines_are}

-- no body of that path is there still, if no line begins one
pub bare_by : (s now : Document) (b : List Part) → end_of s b ≡ None
    → (last_line (begins b) start (lines s) ≡ None → last_line (begins b) start (lines now) ≡ None)
    → end_of now b ≡ None
bare_by s now [] e still = absurd cc
bare_by s now (p ∷ ps) e still =
    ap (end_at (lines now)) (still (by (last_line (begins (p ∷ ps)) start (lines s)) e))
  where
    by : (o : Option ℕ) → end_at (lines s) o ≡ None → o ≡ None
    by None k = refl
    by (Some i) k = absurd cc

module _ (profile : Profile) (limit : ℕ) (s now : Document) (n : ℕ) (name : Name) (value : Value) (c : TextChange)
    (p : PutsKeyval s now n name value c) (fine : IsEditable profile limit s)
    (other : List Part) (more : Value) (d : TextChange) (k : AddsDotted profile limit s other more d) where
  abbrev b : List Part
  b = holder other (mentions_in s)

  abbrev x : Ended
  x = new_line (newline_of s) (keyval name value)

  abbrev first : List Line
  first = take n (lines s)

  abbrev rest : List Line
  rest = drop n (lines s)

  cut : first ++ rest ≡ lines s
  cut = take-append-drop n (lines s)

  now_are : lines now ≡ first ++ x.line ∷ rest
  now_are = lines_are s now n name value c p

  pub bare_now : end_of now b ≡ None
  bare_now =
      bare_by s now b k.bare
      (λ none. ap (last_line (begins b) start) now_are
      ∙ none_still (begins b) start first x.line rest refl refl (ap (last_line (begins b) start) cut ∙ none))

  module _ (j : ℕ) (number : suc j ≡ later_line n (suc k.number))
      (holds : holder other (mentions_in now) ≡ holder other (mentions_in s))
      (allowed : refusal profile limit now (insert other more) ≡ None)
      (last : last_line (leads_dotted (holder other (mentions_in s))) start (lines now) ≡ Some j) where
    body_now : (reading_at j (lines now)).body ≡ (reading_at k.number (lines s)).body
    body_now =
        ap (λ (ls : List Line). (reading_at j ls).body) now_are
        ∙ body_still start first x.line rest k.number j refl
        (number ∙ ap (λ (m : ℕ). later_line m (suc k.number)) (sym (first_long s now n name value c p)))
        (subst (λ (ls : List Line).
        (reading_after_lines start (take (suc k.number) ls)).body ≡ (reading_after_lines start (take k.number ls)).body)
        (sym cut) (before profile limit s other more d k).at_body)
        ∙ ap (λ (ls : List Line). (reading_at k.number ls).body) cut

    there : IsLastThere s other k.number now j
    there = record {
      bare = bare_now;
      last = last;
      body = body_now;
      closed = omega (arith, number, few_still s now n name value c p (suc k.number) k.closed);
    }

    begins_at : line_start now (suc j) ≡ moved_by c d.at
    begins_at =
        let bom : List ℕ = text_of (bom_leaves s.bom) in
        let es : List Ended = take n s.ended ++ x ∷ drop n s.ended in
        ap (λ (t : Document). line_start t (suc j)) p.is
        ∙ sym (length-append bom (ended_text (take (suc j) es)))
        ∙ ap (λ (i : ℕ). length (bom ++ ended_text (take i es))) number
        ∙ line_moves profile bom s.ended fine.valid.ended n (suc k.number) x c d p.few k.closed p.adds p.line p.at
        (at_is profile limit s other more d k)

    pub dotted_still : StillAdds true profile limit s now other more (moved c d)
    dotted_still = dotted_again profile limit s now other more c d k j there begins_at p.newline holds allowed
