-- A header makes the same change at the end of the text after a remove took its line.
--
-- The marks that are left without the line refuse no more than all did, and a keyval begins no element
-- (`tables_beside`), so the header is let come (`lets_without`). The line does not end where the header comes, so that
-- is written as before (HeaderStays).
--
-- Theorems: `table_after_remove`, `element_after_remove`; `lets_without`.
use Rattle.std.proofs.Common.{◌≡◌, ℕ, ◌+◌, ◌<◌, Bool, List, ◌∷◌, ◌++◌, length, sym, ap, ◌∙◌, Some}
use Rattle.std.specs.List.{list_any}
use Rattle.keep_types.specs.declared.leaf.Profile.{Profile}
use Rattle.keep_syntax.specs.Tree.{Name, Value, keyval, Line, Document}
use Rattle.keep_path.specs.Path.{Part}
use Rattle.keep_meaning.specs.Faults.{refuses}
use Rattle.keep_meaning.specs.Marks.{Mention, Reading, elements_of, mark_of, start}
use Rattle.keep_meaning.specs.Meaning.{lines, lines_mentions, mentions_in, reading_after_lines}
use Rattle.keep_meaning.specs.Rules.{Mark}
use Rattle.keep_edit_spec.specs.Edits.{edited_document, place, remove}
use Rattle.keep_edit_spec.specs.Laws.{IsEditable}
use Rattle.keep_edit_spec.specs.Lines.{last_line}
use Rattle.keep_edit_spec.proofs.Lists.TwoKinds.{ElementAfterRemove, TableAfterRemove}
use Rattle.keep_edit_spec.specs.Refusals.{tables_in}
use Rattle.keep_edit_spec.specs.RemovedLines.{RemovesLine}
use Rattle.keep_edit_spec.specs.TextChanges.{TextChange, place_of_change}
use Rattle.keep_edit_spec.proofs.EditLaws.{remove_lawful}
use Rattle.keep_edit_spec.proofs.Append.AppendLaw.{reading_append}
use Rattle.keep_edit_spec.proofs.Append.AppendTable.{tables_stated}
use Rattle.keep_edit_spec.proofs.Common.LineLaws.{lines_mentions-append}
use Rattle.keep_edit_spec.proofs.Common.SetDocument.{reading_of}
use Rattle.keep_edit_spec.proofs.Lists.HeaderSaid.{LetsCome, any_made, some_passes}
use Rattle.keep_edit_spec.proofs.Lists.HeaderStays.{element_stays, table_stays}
use Rattle.keep_edit_spec.proofs.Lists.LineGone as gone
use Rattle.keep_edit_spec.proofs.Lists.OwnLine as line
use Rattle.keep_edit_spec.proofs.Lists.RemovedPlaces.{mine}

-- ---- what a header meets

-- A keyval's line changes nothing of the elements.
tables_beside : (pre post : List Line) (l : Line) (name : Name) (v : Value) → l.content ≡ keyval name v
    → tables_in (lines_mentions start (pre ++ l ∷ post)) ≡ tables_in (lines_mentions start (pre ++ post))
tables_beside pre post l name v e =
    sym (tables_stated start (pre ++ l ∷ post))
    ∙ ap (λ (r : Reading). r.tables)
    (reading_append start pre (l ∷ post)
    ∙ ap (λ (r : Reading). reading_after_lines r post) (reading_of (reading_after_lines start pre) l name v e)
    ∙ sym (reading_append start pre post))
    ∙ tables_stated start (pre ++ post)

module _ (profile : Profile) (limit : ℕ) (s : Document) (path : List Part) (n : ℕ) (fine : IsEditable profile limit s)
    (own : last_line (mine path) start (lines s) ≡ Some n) (closed : n < length s.ended) where
  tables_without : tables_in (line.without profile limit s path n fine own closed) ≡ tables_in (mentions_in s)
  tables_without =
      let its = line.its profile limit s path n fine own closed in
      let before : List Line = line.before profile limit s path n fine own closed in
      let after : List Line = line.after profile limit s path n fine own closed in
      ap tables_in (sym (lines_mentions-append start before after))
      ∙ sym (ap (λ (ls : List Line). tables_in (lines_mentions start ls))
      (line.lines_were profile limit s path n fine own closed)
      ∙ tables_beside before after (line.c profile limit s path n fine own closed).here.line its.name its.held its.was)

  pub lets_without : (now : List Mention) (more : List (List ℕ))
      → now ≡ line.without profile limit s path n fine own closed → LetsCome (mentions_in s) now more
  lets_without now more said = record {
    lets = λ role q rest e comes free.
        let T : Mark → Bool = refuses (record { role = role; path = q }) in
        any_made mark_of T now
        ∙ ap (list_any (λ (m : Mention). some_passes T (mark_of m))) said
        ∙ line.unsaid_without profile limit s path n fine own closed (λ (m : Mention). some_passes T (mark_of m))
        (sym (any_made mark_of T (mentions_in s)) ∙ free);
    counts = λ q rest e. ap (elements_of q) (ap tables_in said ∙ tables_without);
  }

-- ---- the header

module _ (profile : Profile) (limit : ℕ) (s : Document) (path : List Part) (c : TextChange)
    (more : List (List ℕ)) (fine : IsEditable profile limit s) (h : RemovesLine profile limit s path c) where
  lets_come : LetsCome (mentions_in s) (mentions_in (edited_document s (remove path))) more
  lets_come =
      lets_without profile limit s path h.number fine h.own h.closed
      (mentions_in (edited_document s (remove path))) more
      (ap mentions_in (gone.is_now profile limit s path c fine h) ∙ gone.said_now profile limit s path c fine h)

  made : place s (remove path) ≡ place_of_change c
  made = h.is ∙ ap (λ (t : List ℕ). record { start = c.at; end = c.at + c.size; new = t }) (sym h.takes)

pub table_after_remove : TableAfterRemove
table_after_remove profile limit s path c more d fine h k newline far =
    table_stays profile limit s (remove path) c more d fine (remove_lawful profile limit s path fine h.allowed)
    (made profile limit s path c more fine h) newline (λ e. absurd (far e))
    (lets_come profile limit s path c more fine h) k

pub element_after_remove : ElementAfterRemove
element_after_remove profile limit s path c more d fine h k newline far =
    element_stays profile limit s (remove path) c more d fine (remove_lawful profile limit s path fine h.allowed)
    (made profile limit s path c more fine h) newline (λ e. absurd (far e))
    (lets_come profile limit s path c more fine h) k
