-- A remove takes the same line, or leaves its own line with the comment, after an insert brought the header of its
-- table, if its own path is apart from that of the first new key.
--
-- Of the new lines only the keyval is an own line, and that of the new path alone; and no line behind them becomes an
-- own line of another path, as no keyval comes before the next header. So the line that the remove takes or clears is
-- still the last own line of its path, three lines later if it comes after the new ones (`own_now`, BroughtBodies). No
-- comment is on the new lines, so it has one if it had one (BroughtFound), and the remove is not refused (RemovedOwn).
-- Its place is as before, or later by the new lines' length (`places`), and so is its end (`ends_now`).
--
-- Theorems: `remove_after_brought`, `clear_after_brought`.
use Rattle.std.proofs.Common.{◌≡◌, ℕ, suc, ◌+◌, ◌<◌, ◌≤◌, false, List, [], ◌∷◌, ◌++◌, length, refl, sym, ap, ap₂, subst}
use Rattle.std.proofs.Common.{◌∙◌, arith, Option, Some, None, ◌⊎◌, inl, inr}
use Rattle.std.proofs.lemmas.Bool.{le-ltb, lt-ltb}
use Rattle.keep_types.specs.declared.leaf.Profile.{Profile}
use Rattle.keep_syntax.specs.Tree.{Document, Ended, Value, bom_leaves, text, text_of}
use Rattle.keep_path.specs.Path.{Part, same_path}
use Rattle.keep_meaning.specs.Marks.{start}
use Rattle.keep_meaning.specs.Meaning.{after_line, lines, step}
use Rattle.keep_edit_spec.specs.AddedLines.{first_new}
use Rattle.keep_edit_spec.specs.BroughtHeaders.{BringsHeader}
use Rattle.keep_edit_spec.specs.Changed.{Changed, Place, put}
use Rattle.keep_edit_spec.specs.ClearedLines.{ClearsLine, line_start}
use Rattle.keep_edit_spec.specs.Edits.{clear_line, edited_document, insert, is_own, name_with, place, remove}
use Rattle.keep_edit_spec.specs.Laws.{IsEditable, IsLawfulEdit}
use Rattle.keep_edit_spec.specs.Lines.{Page, ended_text, in_document, in_lines, last_line, with_page}
use Rattle.keep_edit_spec.specs.Refusals.{refusal}
use Rattle.keep_edit_spec.specs.RemovedLines.{RemovesLine}
use Rattle.keep_edit_spec.specs.Runs.{AreApart}
use Rattle.keep_edit_spec.specs.TextChanges.{IsBeside, TextChange, moved, moved_by, place_of_change}
use Rattle.keep_edit_spec.proofs.EditLaws.{change_put, insert_lawful, place_within}
use Rattle.keep_edit_spec.proofs.Common.LineTexts.{clear_line-is}
use Rattle.keep_edit_spec.proofs.Common.Marks.{rules_of_document}
use Rattle.keep_edit_spec.proofs.Lists.BroughtBodies as bodies
use Rattle.keep_edit_spec.proofs.Lists.BroughtBodies.{last_now, new_none}
use Rattle.keep_edit_spec.proofs.Lists.BroughtFound as found
use Rattle.keep_edit_spec.proofs.Lists.BroughtFound.{FindsInAnyBody, found_stays, its, made_place, path_differs}
use Rattle.keep_edit_spec.proofs.Lists.BroughtKinds.{ClearAfterBrought, RemoveAfterBrought}
use Rattle.keep_edit_spec.proofs.Lists.BroughtLines as brought
use Rattle.keep_edit_spec.proofs.Lists.BroughtLines.{at_is, edited_is, length_now, new_is}
use Rattle.keep_edit_spec.proofs.Lists.BroughtWay.{path_is}
use Rattle.keep_edit_spec.proofs.Lists.ClearStays.{clears_now}
use Rattle.keep_edit_spec.proofs.Lists.LinesAfterBody.{IsLastNow, bodiless_own}
use Rattle.keep_edit_spec.proofs.Lists.Places.{earlier, later_width, width_grows, width_stays}
use Rattle.keep_edit_spec.proofs.Lists.RemovedOwn.{own_allowed, within_none}
use Rattle.keep_edit_spec.proofs.Lists.RemovedPlaces.{at_is as taken_at, end_is as taken_end, is_other, mine, place_is}
use Rattle.keep_edit_spec.proofs.Lists.SetPlaces.{Stays}
use Rattle.keep_edit_spec.proofs.Remove.RemoveWhole.{removable}

-- a remove clears no line but a keyval's
clears_in_any_body : (other : List Part) → FindsInAnyBody (clear_line other)
clears_in_any_body other before after None = ((λ r. refl), λ x y k. ((λ t a b. refl), λ t a b. refl))
clears_in_any_body other before after (Some w) = ((λ r. refl), λ x y k. ((λ t a b. refl), λ t a b. refl))

module _ (profile : Profile) (limit : ℕ) (s : Document) (path : List Part) (value : Value) (c : TextChange)
    (other : List Part) (d : TextChange) (fine : IsEditable profile limit s)
    (h : BringsHeader profile limit s path value c) (apart : AreApart (first_new s path) other)
    (allowed : refusal profile limit s (remove other) ≡ None) (m : ℕ)
    (own : last_line (mine other) start (lines s) ≡ Some m) (closed : m < length s.ended)
    (d_end : d.at + d.size ≡ line_start s (suc m)) where
  abbrev now : Document
  now = edited_document s (insert path value)

  -- the number of the first new line, and the new lines
  abbrev n : ℕ
  n = brought.n profile limit s path value c h

  abbrev new_lines : List Ended
  new_lines = brought.new_lines profile limit s path value c h

  law : IsLawfulEdit profile limit s (insert path value)
  law = insert_lawful profile limit s path value fine h.given h.utf8 h.allowed

  -- ---- its line

  not_mine : is_own other (after_line (bodies.r profile limit s path value c fine h)
      (bodies.header profile limit s path value c fine h))
      (bodies.statement profile limit s path value c fine h).content ≡ false
  not_mine =
      ap (λ (b : List Part). same_path (b ++ step 0 (Some (name_with (h.text ∷ h.more)))) other)
      (path_is profile limit s path value c fine h)
      ∙ is_other path other (found.inside profile limit s path value c fine h)
      (found.statement profile limit s path value c fine h).content (its profile limit s path value c fine h)
      (path_differs profile limit s path value c fine h other apart.0)

  own_now : IsLastNow (mine other) (lines now) n 3 m
  own_now =
      last_now profile limit s path value c fine h (mine other) (bodiless_own other)
      (new_none profile limit s path value c fine h (mine other) refl refl not_mine) m own

  abbrev j : ℕ
  j = own_now.number

  closed_now : j < length now.ended
  closed_now = elim own_now.moves [
    | inl x ↦ omega (arith, closed, x.0, length_now profile limit s path value c h)
    | inr x ↦ omega (arith, closed, x.0, length_now profile limit s path value c h)
  ]

  allowed_now : refusal profile limit now (remove other) ≡ None
  allowed_now =
      own_allowed profile limit now other j (rules_of_document now law.obeys) own_now.last
      (removable profile limit s other allowed).below_root

  -- ---- the place

  starts_before : (i : ℕ) → i ≤ n → line_start now i ≡ line_start s i
  starts_before i few =
      ap (λ (t : Document). line_start t i) (edited_is profile limit s path value c h)
      ∙ ap (λ (es : List Ended). length (text_of (bom_leaves s.bom)) + length (ended_text es))
      (earlier n i new_lines s.ended few h.closed)

  starts_after : (i : ℕ) → n ≤ i → i ≤ length s.ended → line_start now (3 + i) ≡ line_start s i + length c.new
  starts_after i past few =
      ap (λ (t : Document). line_start t (3 + i)) (edited_is profile limit s path value c h)
      ∙ omega (
        arith,
        later_width n i new_lines s.ended past few,
        ap (λ (t : List ℕ). length t) (new_is profile limit s path value c h),
      )

  moved_before : d.at < c.at → moved_by c d.at ≡ d.at
  moved_before less = rw (lt-ltb d.at c.at less) refl

  moved_after : c.at ≤ d.at → moved_by c d.at ≡ d.at + length c.new
  moved_after past = rw (le-ltb d.at c.at past) (omega (arith, h.adds))

  ends_before : m < n → j ≡ m → d.at < c.at → line_start now (suc j) ≡ moved_by c d.at + d.size
  ends_before less same earlier_at =
      ap (λ (i : ℕ). line_start now (suc i)) same
      ∙ omega (arith, starts_before (suc m) (omega (arith, less)), d_end, moved_before earlier_at)

  ends_after : n ≤ m → j ≡ 3 + m → c.at ≤ d.at → line_start now (suc j) ≡ moved_by c d.at + d.size
  ends_after past later later_at =
      let next : suc j ≡ 3 + suc m = omega (arith, later) in
      ap (line_start now) next
      ∙ omega (
        arith,
        starts_after (suc m) (omega (arith, past)) (omega (arith, closed)),
        d_end,
        moved_after later_at,
      )

  abbrev IsMoved : Type 0
  IsMoved = (line_start now j ≡ moved_by c d.at) × (line_start now (suc j) ≡ moved_by c d.at + d.size)

  places : d.at ≡ line_start s m → IsMoved
  places d_at = by own_now.moves
    where
      by : ((j ≡ m) × (m < n)) ⊎ ((j ≡ 3 + m) × (n ≤ m)) → IsMoved
      by (inl (same, less)) =
          let earlier_at : d.at < c.at =
          omega (
            arith,
            at_is profile limit s path value c h,
            d_at,
            width_grows profile n m s.ended fine.valid.ended less h.closed,
          ) in (
            ap (line_start now) same ∙ starts_before m (omega (arith, less)) ∙ sym d_at ∙ sym (moved_before earlier_at),
            ends_before less same earlier_at,
          )
      by (inr (later, past)) =
          let later_at : c.at ≤ d.at =
          omega (arith, at_is profile limit s path value c h, d_at, width_stays n m s.ended past) in (
            ap (line_start now) later
                ∙ omega (arith, starts_after m past (omega (arith, closed)), d_at, moved_after later_at),
            ends_after past later later_at,
          )

  -- ---- the line is taken

  -- what a remove clears
  found_now : Stays (found.made profile limit s path value c fine h)
      (in_document s (in_lines (clear_line other) start s.ended s.last))
      (in_document now (in_lines (clear_line other) start now.ended now.last))
  found_now =
      found_stays profile limit s path value c fine h (clear_line other) (λ q e. clear_line-is other q e)
      (clears_in_any_body other) refl refl

  bare_now : in_lines (clear_line other) start s.ended s.last ≡ None
      → in_lines (clear_line other) start now.ended now.last ≡ None
  bare_now bare =
      within_none (with_page now) (text_of (bom_leaves now.bom)) []
      (in_lines (clear_line other) start now.ended now.last)
      (subst (λ (o : Option (Changed Page)). Stays (found.made profile limit s path value c fine h) (in_document s o)
      (in_document now (in_lines (clear_line other) start now.ended now.last))) bare found_now)

  removes_now : RemovesLine profile limit s other d → d.at ≡ line_start s m
      → RemovesLine profile limit now other (moved c d)
  removes_now k d_at = record {
    allowed = allowed_now;
    bare = bare_now k.bare;
    number = j;
    own = own_now.last;
    closed = closed_now;
    takes = k.takes;
    is = place_is now other j (bare_now k.bare) own_now.last closed_now
        ∙ ap₂ (λ (b e : ℕ). record { start = b; end = e; new = [] }) (places d_at).0 (places d_at).1;
  }

  -- ---- the line stays with its comment

  -- where it ends, since the new lines are before it or after
  ends_now : 0 < d.size → IsBeside c d → line_start now (suc j) ≡ moved_by c d.at + d.size
  ends_now some side = by own_now.moves side
    where
      by : ((j ≡ m) × (m < n)) ⊎ ((j ≡ 3 + m) × (n ≤ m)) → IsBeside c d
          → line_start now (suc j) ≡ moved_by c d.at + d.size
      by (inl (same, less)) side =
          ends_before less same
          (omega (
            arith,
            at_is profile limit s path value c h,
            d_end,
            some,
            width_stays (suc m) n s.ended (omega (arith, less)),
          ))
      by (inr (later, past)) (inl far) = ends_after past later (omega (arith, far))
      by (inr (later, past)) (inr (less, far)) =
          absurd (omega (
            arith,
            far,
            at_is profile limit s path value c h,
            d_end,
            width_grows profile (suc m) n s.ended fine.valid.ended (omega (arith, past)) (omega (arith, closed)),
          ))

  clears_after : ClearsLine profile limit s other d → IsBeside c d → ClearsLine profile limit now other (moved c d)
  clears_after k side =
      clears_now profile limit s now other c d k side allowed_now j own_now.last closed_now
      (ends_now (omega (arith, k.some, k.is.start, k.is.end)) side)
      (change_put s (insert path value) ∙ ap (put (text s)) at_change)
      (subst (λ (p : Place). p.end ≤ length (text s)) at_change (place_within s (insert path value)))
      (found.made profile limit s path value c fine h) c (made_place profile limit s path value c fine h)
      (λ at. refl) found_now
    where
      at_change : place s (insert path value) ≡ place_of_change c
      at_change = h.is ∙ ap (λ (e : ℕ). record { start = c.at; end = e; new = c.new }) (omega (arith, h.adds))

pub remove_after_brought : RemoveAfterBrought
remove_after_brought profile limit s path value c other d fine h k apart side =
    removes_now profile limit s path value c other d fine h apart k.allowed k.number k.own k.closed
    (taken_end profile limit s other d k) k (taken_at profile limit s other d k)

pub clear_after_brought : ClearAfterBrought
clear_after_brought profile limit s path value c other d fine h k apart side =
    clears_after profile limit s path value c other d fine h apart k.allowed k.number k.own k.closed k.ends k side
