-- A remove takes the same table or element with its header after an insert brought the header of another table.
--
-- The new header begins another body, since the removed path is apart from that of the first new key, which is under
-- the new header's (`none_new`). So the removed header is still the last that begins its body. If the body did not end
-- where the new lines come, the header and the end are each three lines later if they come after these, and where they
-- begin is moved as the bytes are (`elsewhere`). If it did, the header is where it was, and the body ends where the new
-- lines begin (`right_before`; both by BroughtBodies). The new lines say nothing at the removed path (BroughtFound),
-- and the text still ends in a newline. So the remove takes these lines (TakenAgain).
--
-- Theorem: `taken_after_brought`.
use Rattle.std.proofs.Common.{◌≡◌, ◌≢◌, ℕ, ◌+◌, ◌<◌, ◌≤◌, true, false, List, [], ◌∷◌, length, refl, sym, ap, ◌∙◌, arith}
use Rattle.std.proofs.Common.{None, Some, inl, inr}
use Rattle.std.proofs.lemmas.Bool.{and_parts, cases_lt, lt-ltb}
use Rattle.keep_types.specs.declared.leaf.Profile.{Profile}
use Rattle.keep_syntax.specs.Tree.{Document, Line, Value}
use Rattle.keep_path.specs.Path.{Part, same_path}
use Rattle.keep_meaning.specs.Marks.{Reading, start}
use Rattle.keep_meaning.specs.Meaning.{after_line, lines}
use Rattle.keep_meaning.specs.Nodes.{is_root}
use Rattle.keep_edit_spec.specs.AddedLines.{first_new}
use Rattle.keep_edit_spec.specs.BroughtHeaders.{BringsHeader}
use Rattle.keep_edit_spec.specs.ClearedLines.{line_start}
use Rattle.keep_edit_spec.specs.Edits.{edited_document, end_of, insert}
use Rattle.keep_edit_spec.specs.Laws.{IsEditable, IsLawfulEdit}
use Rattle.keep_edit_spec.specs.Lines.{begins, body_end, is_header, last_line}
use Rattle.keep_edit_spec.specs.RemovedHeaders.{RemovesHeader}
use Rattle.keep_edit_spec.specs.Runs.{AreApart}
use Rattle.keep_edit_spec.specs.TextChanges.{IsBeside, TextChange, change_at, moved, moved_by}
use Rattle.keep_edit_spec.proofs.EditLaws.{insert_lawful}
use Rattle.keep_edit_spec.proofs.Lists.BodyEnds.{end_at}
use Rattle.keep_edit_spec.proofs.Lists.BroughtBodies as bodies
use Rattle.keep_edit_spec.proofs.Lists.BroughtBodies.{new_none, new_there, not_begun, still_before, still_closed}
use Rattle.keep_edit_spec.proofs.Lists.BroughtBodies.{still_last}
use Rattle.keep_edit_spec.proofs.Lists.BroughtFound.{kinds_stay, table_differs}
use Rattle.keep_edit_spec.proofs.Lists.TakenKinds.{TakenAfterBrought}
use Rattle.keep_edit_spec.proofs.Lists.BroughtLines as brought
use Rattle.keep_edit_spec.proofs.Lists.BroughtLines.{at_is, new_start, starts_at}
use Rattle.keep_edit_spec.proofs.Lists.InsertInPlace.{same_number}
use Rattle.keep_edit_spec.proofs.Lists.LinesAfterBody.{IsLastBefore, IsStillLast, bodiless_begins}
use Rattle.keep_edit_spec.proofs.Lists.TakenAfterInsert.{moves_whole}
use Rattle.keep_edit_spec.proofs.Lists.TakenAgain as section

-- where a body ends that a header begins
end_after : (s : Document) (path : List Part) (i : ℕ) → is_root path ≡ false
    → last_line (begins path) start (lines s) ≡ Some i → end_of s path ≡ Some (body_end i (lines s))
end_after s [] i below last = absurd cc
end_after s (p ∷ ps) i below last = ap (end_at (lines s)) last

module _ (profile : Profile) (limit : ℕ) (s : Document) (path : List Part) (value : Value) (c : TextChange)
    (other : List Part) (d : TextChange) (fine : IsEditable profile limit s)
    (h : BringsHeader profile limit s path value c) (k : RemovesHeader profile limit s other d)
    (apart : AreApart (first_new s path) other) where
  abbrev now : Document
  now = edited_document s (insert path value)

  -- the number of the first new line
  abbrev n : ℕ
  n = brought.n profile limit s path value c h

  -- those of the removed header, and of the line after its body
  abbrev head : ℕ
  head = section.head_number profile limit s other d fine k

  abbrev end : ℕ
  end = body_end head (lines s)

  below_root : is_root other ≡ false
  below_root = (section.its profile limit s other d fine k).below_root

  end_is : end ≡ section.end_number profile limit s other d fine k
  end_is =
      let both : Some end ≡ Some (section.end_number profile limit s other d fine k) =
      sym (end_after s other head below_root (section.head_is profile limit s other d fine k))
      ∙ section.ends_is profile limit s other d fine k in
      cc

  few : end ≤ length s.ended
  few = omega (arith, end_is, section.few profile limit s other d fine k)

  ends_at : d.at + d.size ≡ line_start s end
  ends_at = section.ends_at profile limit s other d fine k ∙ ap (line_start s) (sym end_is)

  heads : (x : Reading) (l : Line) → begins other x l ≡ true → is_header l.content ≡ true
  heads x l e = (and_parts (is_header l.content) (same_path (after_line x l).body other) e).0

  none_new : last_line (begins other) (bodies.r profile limit s path value c fine h)
      (bodies.new profile limit s path value c fine h)
      ≡ None
  none_new =
      new_none profile limit s path value c fine h (begins other) refl
      (not_begun profile limit s path value c fine h other
      (table_differs profile limit s path value c fine h other apart)) refl

  -- where that header is now, and the end of its body
  again : (i e : ℕ) → last_line (begins other) start (lines now) ≡ Some i → body_end i (lines now) ≡ e
      → line_start now i ≡ moved_by c d.at → line_start now e ≡ moved_by c d.at + d.size
      → RemovesHeader profile limit now other (moved c d)
  again i e last ends from to =
      let law : IsLawfulEdit profile limit s (insert path value) =
      insert_lawful profile limit s path value fine h.given h.utf8 h.allowed in
      section.taken_again profile limit s other d fine k now c i e
      (record { valid = law.reads.valid; shallow = law.reads.shallow; obeys = law.obeys })
      (still_closed profile limit s path value c fine h (section.its profile limit s other d fine k).closed)
      (kinds_stay profile limit s path value c fine h other apart) last
      (end_after now other i below_root last ∙ ap (λ (m : ℕ). Some m) ends) from to

  -- ---- the body ends elsewhere

  elsewhere : IsBeside c d → c.at ≢ d.at + d.size → RemovesHeader profile limit now other (moved c d)
  elsewhere side away =
      again still.number (body_end still.number (lines now)) still.last refl
      (starts_at profile limit s path value c h fine head still.number (omega (arith, few)) still.moves d
      (section.starts_at profile limit s other d fine k))
      (starts_at profile limit s path value c h fine end (body_end still.number (lines now)) few still.ends
      (change_at (d.at + d.size) 0 []) ends_at
      ∙ moves_whole c d h.adds side (λ at. away (sym at)))
    where
      still : IsStillLast (begins other) (lines s) (lines now) n 3 head
      still =
          still_last profile limit s path value c fine h (begins other) (bodiless_begins other) heads
          (inr (new_there profile limit s path value c fine h (begins other) none_new)) head
          (section.head_is profile limit s other d fine k)
          (λ at. away (at_is profile limit s path value c h ∙ ap (line_start s) (sym at) ∙ sym ends_at))

  -- ---- or right where the new lines come

  right_before : d.at < c.at → d.at + d.size ≡ c.at → RemovesHeader profile limit now other (moved c d)
  right_before less at =
      again head n still.last still.ends
      (starts_at profile limit s path value c h fine head head (omega (arith, few)) (inl (refl, still.less)) d
      (section.starts_at profile limit s other d fine k))
      (new_start profile limit s path value c h ∙ sym at ∙ ap (λ (b : ℕ). b + d.size) (sym first))
    where
      still : IsLastBefore (begins other) (lines now) n head
      still =
          still_before profile limit s path value c fine h (begins other) (bodiless_begins other) heads none_new head
          (section.head_is profile limit s other d fine k)
          (same_number profile limit s fine end n few h.closed
          (sym ends_at ∙ at ∙ at_is profile limit s path value c h))

      first : moved_by c d.at ≡ d.at
      first = rw (lt-ltb d.at c.at less) refl

  takes_still : IsBeside c d → RemovesHeader profile limit now other (moved c d)
  takes_still (inl first) =
      elsewhere (inl first)
      (λ at. absurd (omega (arith, first, h.adds, at, section.has_bytes profile limit s other d fine k)))
  takes_still (inr (less, within)) = elim (cases_lt (d.at + d.size) c.at) [
    | inl before ↦ elsewhere (inr (less, within)) (λ at. absurd (omega (arith, before, at)))
    | inr far ↦ right_before less (omega (arith, within, far))
  ]

pub taken_after_brought : TakenAfterBrought
taken_after_brought profile limit s path value c other d fine h k apart side =
    takes_still profile limit s path value c other d fine h k apart side
