-- Where `insert` writes lines: after which line, and what.
use Rattle.std.specs.Prelude.{◌≡◌, ℕ, List, Option, Some, None, drop, slice_get}
use Rattle.std.specs.Option.{option_and_then}
use Rattle.keep_syntax.specs.Tree.{Value, Document, text}
use Rattle.keep_syntax.specs.Numbered as syntax
use Rattle.keep_edit_spec.specs.Changed as changed
use Rattle.keep_edit_spec.specs.Insertion.{section_at, section_end}
use Rattle.keep_edit_spec.specs.Lines.{newline_of}
use Rattle.keep_edit_spec.specs.Removal.{body_end}
use Rattle.keep_edit_plan.specs.Inserting.{line_end_of, lines_start}
use Rattle.keep_edit_plan.specs.Reading.{IsTextOfTree, ProfiledText}
use Rattle.keep_edit_plan.specs.declared.planner.BodyEnd.{BodyEnd}

-- where the body ends of the header with that number, or of the root
abbrev pub body_end_of : Document → Option ℕ → ℕ
body_end_of s None = body_end (lines_start s) (syntax.statements s)
body_end_of s (Some h) = section_end (drop h (syntax.statements s))

-- the body of that header, or of the root, ends there in the document of this text
abbrev pub IsBodyEnd : ProfiledText → BodyEnd → Type 0
IsBodyEnd now e = (s : Document) → IsTextOfTree now s → e.at ≡ body_end_of s e.header

-- where the line ends of the keyval with that value number
abbrev pub keyval_end_of : Document → ℕ → Option ℕ
keyval_end_of s v = option_and_then (line_end_of (syntax.statements s)) (slice_get (syntax.values s) v)

abbrev pub new_section_at : Document → ℕ → List (List ℕ) → List (List ℕ) → Value → changed.Place
new_section_at s at table keys value = section_at (text s) (newline_of s).text (lines_start s) at table keys value
