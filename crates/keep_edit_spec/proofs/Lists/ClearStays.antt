-- A remove that leaves its line with the comment does so after another change, where that change leaves its own.
--
-- The line is cleared as before, since the change of the lines stays after the other (`page_now`), and so the place is
-- the moved one. The bytes after it up to the end of the line are the same (WiderChanges).
--
-- Theorems: `made_by`: the change of such a remove; `not_cleared`: of which lines it is none; `clears_now`.
use Rattle.std.proofs.Common.{◌≡◌, ℕ, suc, ◌+◌, ◌-◌, ◌<◌, ◌≤◌, List, [], length, drop, refl, sym, ap, subst, ◌∙◌, arith}
use Rattle.std.proofs.Common.{true, false, Option, Some, None}
use Rattle.keep_types.specs.declared.leaf.Profile.{Profile}
use Rattle.keep_syntax.specs.Tree.{Document, Line, bom_leaves, text, text_of}
use Rattle.keep_path.specs.Path.{Part}
use Rattle.keep_meaning.specs.Marks.{Reading, start}
use Rattle.keep_meaning.specs.Meaning.{lines}
use Rattle.keep_edit_spec.specs.Changed.{Changed, Place, framed_change, or_else, place_of, put}
use Rattle.keep_edit_spec.specs.ClearedLines.{ClearsLine, line_start}
use Rattle.keep_edit_spec.specs.Edits.{change, clear_line, is_own, nested, place, remove, without_lines}
use Rattle.keep_edit_spec.specs.Lines.{Page, begins, body_length, in_document, in_lines, last_line, with_page}
use Rattle.keep_edit_spec.specs.Refusals.{refusal}
use Rattle.keep_edit_spec.specs.TextChanges.{IsBeside, TextChange, moved, moved_by, place_of_change}
use Rattle.keep_edit_spec.specs.Values.{removal}
use Rattle.keep_edit_spec.proofs.Common.LineTexts.{clear_cases}
use Rattle.keep_edit_spec.proofs.Lists.RemovedPlaces.{mine}
use Rattle.keep_edit_spec.proofs.Lists.SetPlaces.{IsStill, Stays, stays_as, still_place}
use Rattle.keep_edit_spec.proofs.Lists.WiderChanges.{narrow, narrow_place, still_wider}

-- ---- the change of such a remove

module _ (s : Document) (path : List Part) where
  abbrev otherwise : Option (Changed Document)
  otherwise =
      or_else (elim (last_line (mine path) start (lines s)) [ None ↦ None | Some i ↦ without_lines s i 1 ])
      (or_else (elim (last_line (begins path) start (lines s)) [
        | None ↦ None
        | Some i ↦ without_lines s i (suc (body_length (drop (suc i) (lines s))))
      ])
      (nested removal path s))

  pub made_by : (p : Changed Page) → in_lines (clear_line path) start s.ended s.last ≡ Some p
      → change s (remove path) ≡ Some (framed_change (with_page s) (text_of (bom_leaves s.bom)) [] p)
  made_by p is = ap (λ (o : Option (Changed Page)). or_else (in_document s o) otherwise) is

-- a line that is not the path's own is not cleared
pub not_cleared : (path : List Part) (r : Reading) (l : Line) → is_own path r l.content ≡ false
    → clear_line path r l ≡ None
not_cleared path r l other =
    clear_cases (λ (o : Option (Changed Line)). o ≡ None) path r l refl
    (λ w e own. (let both : true ≡ false = sym own ∙ other in absurd cc))

-- ---- after another change

module _ (profile : Profile) (limit : ℕ) (s now : Document) (path : List Part) (c d : TextChange)
    (k : ClearsLine profile limit s path d) where
  abbrev clear : Document → Option (Changed Document)
  clear t = in_document t (in_lines (clear_line path) start t.ended t.last)

  abbrev y : Changed Document
  y = framed_change (with_page s) (text_of (bom_leaves s.bom)) [] k.cleared

  found : clear s ≡ Some y
  found = ap (in_document s) k.commented

  record IsClearedNow (o : Option (Changed Page)) : Type 0 where
    page : Changed Page
    is : o ≡ Some page

  page_now : (x : Changed Document) → Stays x (clear s) (clear now)
      → IsClearedNow (in_lines (clear_line path) start now.ended now.last)
  page_now x stays = by (in_lines (clear_line path) start now.ended now.last) refl
    where
      still : IsStill x y (clear now)
      still = subst (λ (o : Option (Changed Document)). Stays x o (clear now)) found stays

      by : (o : Option (Changed Page)) → in_lines (clear_line path) start now.ended now.last ≡ o → IsClearedNow o
      by None e = let none : None ≡ Some still.next = sym (ap (in_document now) e) ∙ still.is in absurd cc
      by (Some p) e = record { page = p; is = refl }

  -- x is the other change, and b is it in the text; c is b, or goes on past it
  pub clears_now : IsBeside c d → refusal profile limit now (remove path) ≡ None → (n : ℕ)
      → last_line (mine path) start (lines now) ≡ Some n → n < length now.ended
      → line_start now (suc n) ≡ moved_by c d.at + d.size → text now ≡ put (text s) (place_of_change c)
      → c.at + c.size ≤ length (text s) → (x : Changed Document) (b : TextChange) → place_of x ≡ place_of_change b
      → ((at : ℕ) → moved_by b at ≡ moved_by c at) → Stays x (clear s) (clear now)
      → ClearsLine profile limit now path (moved c d)
  clears_now side allowed n own closed ends spelled within x b placed alike stays =
      let page : IsClearedNow (in_lines (clear_line path) start now.ended now.last) = page_now x stays in
      let p : Place = place s (remove path) in
      let low : p.start ≤ p.end = omega (arith, k.some) in
      let made : change s (remove path) ≡ Some y = made_by s path k.cleared k.commented in
      let made_now : change now (remove path) ≡ clear now =
      made_by now path page.page page.is ∙ sym (ap (in_document now) page.is) in
      let at : place now (remove path) ≡ place_of_change (moved c (narrow p)) =
      still_place b (narrow p) s now (remove path) x y placed (narrow_place p low) (omega (arith, k.some)) made
      (stays_as x (clear s) (clear now) (change s (remove path)) (change now (remove path)) (made ∙ sym found) made_now
      stays)
      ∙ ap (λ (i : ℕ). place_of_change (record (narrow p) { at = i })) (alike p.start) in
      let start_now : (place now (remove path)).start ≡ moved_by c p.start = ap (λ (q : Place). q.start) at in
      let end_now : (place now (remove path)).end ≡ moved_by c p.start + (p.end - p.start) =
      ap (λ (q : Place). q.end) at in
      record {
        allowed = allowed;
        cleared = page.page;
        commented = page.is;
        number = n;
        own = own;
        closed = closed;
        some = omega (arith, k.some, start_now, end_now);
        is = still_wider (text s) (text now) p (place now (remove path)) c d k.is k.some spelled within side at;
        ends = sym ends;
      }
