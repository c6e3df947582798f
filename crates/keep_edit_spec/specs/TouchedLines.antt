-- The lines that an edit touches, and those that replace them: only the new ones are scanned.
use Rattle.std.specs.Prelude.{◌≡◌, ℕ, ◌+◌, ◌-◌, ◌≤◌, ◌⊎◌, false, length, Some, slice_range}
use Rattle.keep_types.specs.declared.leaf.Profile.{Profile}
use Rattle.keep_types.specs.declared.syntax.Span.{Span}
use Rattle.keep_syntax.specs.Tree.{Document, text, depth}
use Rattle.keep_syntax.specs.Grammar.{IsDocument, Reads}
use Rattle.keep_syntax.specs.Numbered.{span}
use Rattle.keep_syntax.specs.WholeLines.{empty_line, begin, touched, replaced}
use Rattle.keep_edit_spec.specs.Changed.{Changed, Place, place_of}
use Rattle.keep_edit_spec.specs.Edits.{Edit, change}

-- the lines of the old text that a place touches
abbrev pub touched_by : Document → Place → Span
touched_by s p = touched s (span p.start p.end)

-- the lines of the new text that replace them: they begin at the same place, and end later by as much as the text grows
abbrev pub touched_in_new : Document → Place → Span
touched_in_new s p = span (touched_by s p).start ((touched_by s p).end + length p.new - (p.end - p.start))

-- how many bytes those have
abbrev pub scanned : Document → Place → ℕ
scanned s p = (touched_in_new s p).end - (touched_in_new s p).start

-- What a change of a document does to its lines. In the new text, those that replace the touched ones are the text of a
-- document within the limit: whole lines, since the last of them is empty unless the touched lines end the text. The
-- new document is the old one with these in place of the touched lines.
pub record TouchesLines (profile : Profile) (limit : ℕ) (s : Document) (c : Changed Document) : Type 0 where
  -- the change is in the text, after its byte order mark
  pub low : begin s ≤ (place_of c).start
  pub within : (place_of c).end ≤ length (text s)
  -- the new lines
  pub lines : Document
  pub bom : lines.bom ≡ false
  pub reads : Reads profile limit
      (slice_range (text c.to) (touched_in_new s (place_of c)).start (touched_in_new s (place_of c)).end) lines
  pub closed : (lines.last ≡ empty_line) ⊎ ((touched_by s (place_of c)).end ≡ length (text s))
  pub is : c.to ≡ replaced s (touched_by s (place_of c)) lines

-- Of every edit that changes a valid document to a valid one within the limit.
abbrev pub TouchedLinesAreLines : Type 0
TouchedLinesAreLines =
    (profile : Profile) (limit : ℕ) (s : Document) (e : Edit) (c : Changed Document) → IsDocument profile s
    → change s e ≡ Some c
    → IsDocument profile c.to → depth c.to ≤ limit → TouchesLines profile limit s c
