-- Whole lines of a document: where they begin, which of them a span touches, and a document with some replaced.
use Rattle.std.specs.Prelude.{ℕ, ◌+◌, ltb, if◌then◌else◌, List, [], ◌∷◌, ◌++◌, length, None}
use Rattle.keep_types.specs.declared.syntax.Span.{Span}
pub use Rattle.keep_syntax_store.specs.Starts.{last_to, first_from}
use Rattle.keep_syntax.specs.Tree.{Line, blank, Ended, Document, ended_leaves, bom_leaves, text}
use Rattle.keep_syntax.specs.Numbered.{width, span}

-- a line without bytes
abbrev pub empty_line : Line
empty_line = record { before = []; content = blank; after = []; comment = None }

-- ---- where lines begin

-- Where lines begin, the first of them at a place. A line ends with a newline of the tree, not with one inside a value.
-- The last place is where the line after them begins.
abbrev pub line_starts : ℕ → List Ended → List ℕ
line_starts at [] = at ∷ []
line_starts at (e ∷ es) = at ∷ line_starts (at + width (ended_leaves e)) es

-- the first line of a document begins after its byte order mark
abbrev pub begin : Document → ℕ
begin s = width (bom_leaves s.bom)

abbrev pub starts_of : Document → List ℕ
starts_of s = line_starts (begin s) s.ended

-- ---- the lines that a span touches

-- From the last line start at or before the span's start to the first line start at or after its end, or to the end of
-- the text.
abbrev pub touched : Document → Span → Span
touched s sp = span (last_to sp.start (begin s) (starts_of s)) (first_from sp.end (length (text s)) (starts_of s))

-- ---- lines replaced by others

-- Of lines, the first of which begins at `at`: those that begin before a place, and the others.
abbrev pub lines_before : ℕ → ℕ → List Ended → List Ended
lines_before place at [] = []
lines_before place at (e ∷ es) = if ltb at place then e ∷ lines_before place (at + width (ended_leaves e)) es else []

abbrev pub lines_from : ℕ → ℕ → List Ended → List Ended
lines_from place at [] = []
lines_from place at (e ∷ es) = if ltb at place then lines_from place (at + width (ended_leaves e)) es else e ∷ es

-- The document with the lines of `whole` replaced by those of m. Its last line is that of m if `whole` ends with the
-- text.
abbrev pub replaced : Document → Span → Document → Document
replaced s whole m = record {
  bom = s.bom;
  ended = lines_before whole.start (begin s) s.ended ++ (m.ended ++ lines_from whole.end (begin s) s.ended);
  last = if ltb whole.end (length (text s)) then s.last else m.last;
}
