-- The lines of `list`, block by block, in room that was taken before.
use Rattle.std.specs.Prelude.{⊤, ℕ, ◌+◌, ◌^◌, ◌<◌, ◌≤◌, List, [], length, slice_get, Option, Some, None, String}
use Rattle.std.specs.Prelude.{string_bytes, string_capacity}
use Rattle.std.specs.Global.{Global}
use Rattle.keep_syntax.specs.Tree.{Document}
use Rattle.keep_edit.specs.declared.document.Entry.{Entry}
use Rattle.keep_edit.specs.Answers.{entries_of}
use Rattle.keep_edit.specs.Reading.{ProfiledText}
use Rattle.keep_commands.specs.Answer.{entry_line, lines_of}
use Rattle.keep_commands.specs.declared.lines.TheConstants.{BLOCK}

-- what a `Lines` is: the document, and the lines that are in the block
pub record ListState : Type 0 where
  pub document : ProfiledText
  pub block : List ℕ

-- the line of an entry; none where there is none
abbrev pub line_of : Option Entry → List ℕ
line_of None = []
line_of (Some e) = entry_line e

abbrev pub line_at : List Entry → ℕ → List ℕ
line_at entries number = line_of (slice_get entries number)

-- there is room for as many nodes as the path of an entry has steps, and for so many bytes
abbrev pub FitsLine : ℕ → ℕ → Option Entry → Type 0
FitsLine nodes bytes None = ⊤
FitsLine nodes bytes (Some e) = (length e.path ≤ nodes) × (length (entry_line e) ≤ bytes)

-- there is room for as many nodes, and for so many bytes after those of a text
abbrev pub HasLineRoom : ℕ → String Global → Option Entry → Type 0
HasLineRoom nodes out None = ⊤
HasLineRoom nodes out (Some e) =
    (length e.path ≤ nodes) × (length (string_bytes out) + length (entry_line e) ≤ string_capacity out)

-- no line is longer than so many bytes, and all together are no more than a number counts
pub record HaveLineRoom (s : Document) (nodes longest : ℕ) : Type 0 where
  pub each : (number : ℕ) → FitsLine nodes longest (slice_get (entries_of s) number)
  pub all : length (lines_of (entries_of s)) < 2 ^ 64

-- there is room for a block, and then for any line
pub record HasBlockRoom (s : Document) (nodes bytes : ℕ) : Type 0 where
  pub longest : ℕ
  pub lines : HaveLineRoom s nodes longest
  pub block : BLOCK + longest ≤ bytes
