-- A header makes the same change at the end of the text after an insert added its line.
--
-- At each path with first keys of a header that passes the first new key by, what the new line says was said before
-- (AddedKeyval), so the header is let come (`lets_come`). The last line is the same, and there is a line with a
-- newline: the new one (`still_closed`). So the header is written as before (HeaderStays).
--
-- Theorems: `table_after_insert`, `element_after_insert`; `line_lawful`; `still_closed`.
use Rattle.std.proofs.Common.{◌≡◌, ℕ, Bool, true, false, List, ◌∷◌, length, drop, ap, ◌∙◌, length-append, arith}
use Rattle.keep_types.specs.declared.leaf.Profile.{Profile}
use Rattle.keep_syntax.specs.Tree.{Value, Document, text}
use Rattle.keep_path.specs.Path.{Part}
use Rattle.keep_meaning.specs.Meaning.{mentions_in}
use Rattle.keep_edit_spec.specs.AddedLines.{first_new}
use Rattle.keep_edit_spec.specs.DottedLines.{AddsLineTo}
use Rattle.keep_edit_spec.specs.Edits.{edited_document, insert, place}
use Rattle.keep_edit_spec.specs.Laws.{IsEditable, IsLawfulEdit}
use Rattle.keep_edit_spec.specs.Lines.{is_empty}
use Rattle.keep_edit_spec.specs.Runs.{PassesBy}
use Rattle.keep_edit_spec.specs.TextChanges.{TextChange, place_of_change}
use Rattle.keep_edit_spec.specs.TextEnds.{ends_in_newline}
use Rattle.keep_edit_spec.proofs.EditLaws.{insert_lawful}
use Rattle.keep_edit_spec.proofs.Lists.AddedKeyval.{AddsKeyval, any_stays, elements_stay, first, keyval_of, x}
use Rattle.keep_edit_spec.proofs.Lists.HeaderLines.{last_empty, lines_end}
use Rattle.keep_edit_spec.proofs.Lists.HeaderSaid.{LetsCome, any_lets, passes_clear}
use Rattle.keep_edit_spec.proofs.Lists.HeaderStays.{element_stays, table_stays}
use Rattle.keep_edit_spec.proofs.Lists.TwoKinds.{ElementAfterInsert, TableAfterInsert}

pub line_lawful : (to : Bool) (profile : Profile) (limit : ℕ) (s : Document) (path : List Part) (value : Value)
    (c : TextChange) → IsEditable profile limit s → AddsLineTo to profile limit s path value c
    → IsLawfulEdit profile limit s (insert path value)
line_lawful true profile limit s path value c fine h =
    insert_lawful profile limit s path value fine h.given h.utf8 h.allowed
line_lawful false profile limit s path value c fine h =
    insert_lawful profile limit s path value fine h.given h.utf8 h.allowed

pub still_closed : (profile : Profile) (limit : ℕ) (s : Document) (path : List Part) (value : Value) (c : TextChange)
    (fine : IsEditable profile limit s) (law : IsLawfulEdit profile limit s (insert path value))
    (h : AddsKeyval profile limit s path value c)
    → ends_in_newline (text s) ≡ true → ends_in_newline (text (edited_document s (insert path value))) ≡ true
still_closed profile limit s path value c fine law h closed =
    lines_end profile (edited_document s (insert path value)) law.reads.valid
    (ap (λ (d : Document). is_empty d.last) h.puts.is ∙ last_empty profile s fine.valid closed)
    (omega (
      arith,
      ap (λ (d : Document). length d.ended) h.puts.is,
      length-append (first profile limit s path value c h) (x profile limit s path value c h ∷ drop h.n s.ended),
    ))

module _ (profile : Profile) (limit : ℕ) (s : Document) (path : List Part) (value : Value) (c : TextChange)
    (h : AddsKeyval profile limit s path value c) where
  made : place s (insert path value) ≡ place_of_change c
  made = h.is ∙ ap (λ (e : ℕ). record { start = c.at; end = e; new = c.new }) (omega (arith, h.puts.adds))

  lets_come : (more : List (List ℕ)) → PassesBy more (first_new s path)
      → LetsCome (mentions_in s) (mentions_in (edited_document s (insert path value))) more
  lets_come more passes =
      let clear = passes_clear more (first_new s path) in
      any_lets (mentions_in s) (mentions_in (edited_document s (insert path value))) more
      (λ test q rest is. any_stays profile limit s path value c h test q (clear q rest passes is))
      (λ q rest is. elements_stay profile limit s path value c h q (clear q rest passes is))

pub table_after_insert : TableAfterInsert
table_after_insert profile limit s path value c to more d fine h k passes newline =
    let law : IsLawfulEdit profile limit s (insert path value) = line_lawful to profile limit s path value c fine h in
    let its : AddsKeyval profile limit s path value c = keyval_of profile limit s path value c to fine h in
    table_stays profile limit s (insert path value) c more d fine law (made profile limit s path value c its) newline
    (λ e. still_closed profile limit s path value c fine law its k.closed)
    (lets_come profile limit s path value c its more passes) k

pub element_after_insert : ElementAfterInsert
element_after_insert profile limit s path value c to more d fine h k passes newline =
    let law : IsLawfulEdit profile limit s (insert path value) = line_lawful to profile limit s path value c fine h in
    let its : AddsKeyval profile limit s path value c = keyval_of profile limit s path value c to fine h in
    element_stays profile limit s (insert path value) c more d fine law (made profile limit s path value c its) newline
    (λ e. still_closed profile limit s path value c fine law its k.closed)
    (lets_come profile limit s path value c its more passes) k
