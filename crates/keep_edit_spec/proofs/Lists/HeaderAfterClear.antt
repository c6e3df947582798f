-- A header makes the same change at the end of the text after a remove left its line with the comment.
--
-- What is said but for the line lets the header come, as after a remove that takes the line (HeaderAfterRemove). The
-- place of the remove alone does not end where the header comes, since it ends where its change does or before that
-- (`thin_far`). So the header is written as before (HeaderStays).
--
-- Theorems: `table_after_clear`, `element_after_clear`.
use Rattle.std.proofs.Common.{◌≡◌, ◌≢◌, ℕ, ◌+◌, true, List, [], length, sym, ap, subst, ◌∙◌, arith}
use Rattle.keep_types.specs.declared.leaf.Profile.{Profile}
use Rattle.keep_syntax.specs.Tree.{Content, Document, element, header, text}
use Rattle.keep_path.specs.Path.{Part}
use Rattle.keep_meaning.specs.Meaning.{mentions_in}
use Rattle.keep_edit_spec.specs.AppendedHeaders.{AppendsElement, AppendsTable}
use Rattle.keep_edit_spec.specs.Changed.{Place, place_of}
use Rattle.keep_edit_spec.specs.ClearedLines.{ClearsLine}
use Rattle.keep_edit_spec.specs.Edits.{append, changed_or_same, edited_document, key_with, remove}
use Rattle.keep_edit_spec.specs.Laws.{IsEditable}
use Rattle.keep_edit_spec.specs.TextChanges.{TextChange, place_of_change}
use Rattle.keep_edit_spec.specs.TextEnds.{ends_in_newline}
use Rattle.keep_edit_spec.proofs.EditLaws.{remove_lawful}
use Rattle.keep_edit_spec.proofs.Lists.ClearedKinds.{ElementAfterClear, TableAfterClear}
use Rattle.keep_edit_spec.proofs.Lists.HeaderAfterRemove.{lets_without}
use Rattle.keep_edit_spec.proofs.Lists.HeaderPlaces.{first_place}
use Rattle.keep_edit_spec.proofs.Lists.HeaderSaid.{LetsCome}
use Rattle.keep_edit_spec.proofs.Lists.HeaderStays.{element_stays, table_stays}
use Rattle.keep_edit_spec.proofs.Lists.LineCleared as done

module _ (profile : Profile) (limit : ℕ) (s : Document) (path : List Part) (c : TextChange)
    (more : List (List ℕ)) (d : TextChange) (fine : IsEditable profile limit s)
    (h : ClearsLine profile limit s path c) where
  abbrev thin : TextChange
  thin = done.thin profile limit s path c fine h

  lets_come : LetsCome (mentions_in s) (mentions_in (edited_document s (remove path))) more
  lets_come =
      lets_without profile limit s path h.number fine h.own h.closed
      (mentions_in (edited_document s (remove path))) more
      (ap mentions_in (done.is_now profile limit s path c fine h) ∙ done.said_now profile limit s path c fine h)

  thin_far : ends_in_newline (text s) ≡ true → (one : Content)
      → place_of (changed_or_same s (append s one)) ≡ place_of_change d → c.at + c.size ≢ d.at
      → thin.at + thin.size ≢ d.at
  thin_far closed one is far ends =
      let last : length (text s) ≡ d.at =
      ap (λ (p : Place). p.start) (sym (first_place profile s fine.valid closed one) ∙ is) in
      far (omega (arith, last, ends, h.is.end, h.is.within, h.some))

pub table_after_clear : TableAfterClear
table_after_clear profile limit s path c more d fine h k newline far =
    subst (AppendsTable profile limit (edited_document s (remove path)) more)
    (done.moves_same profile limit s path c fine h d)
    (table_stays profile limit s (remove path) (done.thin profile limit s path c fine h) more d fine
    (remove_lawful profile limit s path fine h.allowed) (done.placed profile limit s path c fine h) newline
    (λ e. absurd (thin_far profile limit s path c more d fine h k.closed (header [] (key_with more) []) k.is far e))
    (lets_come profile limit s path c more d fine h) k)

pub element_after_clear : ElementAfterClear
element_after_clear profile limit s path c more d fine h k newline far =
    subst (AppendsElement profile limit (edited_document s (remove path)) more)
    (done.moves_same profile limit s path c fine h d)
    (element_stays profile limit s (remove path) (done.thin profile limit s path c fine h) more d fine
    (remove_lawful profile limit s path fine h.allowed) (done.placed profile limit s path c fine h) newline
    (λ e. absurd (thin_far profile limit s path c more d fine h k.closed (element [] (key_with more) []) k.is far e))
    (lets_come profile limit s path c more d fine h) k)
