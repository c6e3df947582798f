-- Inserts of a list that add lines of their own, each at the end of a body, to a table that dotted keys make, or with
-- the header that it brings.
use Rattle.std.specs.Prelude.{◌≡◌, ◌≢◌, ℕ, Bool, true, false, List, Some, None}
use Rattle.keep_types.specs.declared.leaf.Profile.{Profile}
use Rattle.keep_syntax.specs.Tree.{Value, Document}
use Rattle.keep_path.specs.Path.{Part, without_last}
use Rattle.keep_meaning.specs.Marks.{start}
use Rattle.keep_meaning.specs.Meaning.{lines, mentions_in}
use Rattle.keep_edit_spec.specs.AddedLines.{AddsLine, first_new}
use Rattle.keep_edit_spec.specs.BroughtHeaders.{BringsHeader}
use Rattle.keep_edit_spec.specs.DottedLines.{AddsDotted, IsAtOrBelow}
use Rattle.keep_edit_spec.specs.Edits.{end_of}
use Rattle.keep_edit_spec.specs.Lines.{last_line, leads_dotted}
use Rattle.keep_edit_spec.specs.Look.{holder}
use Rattle.keep_edit_spec.specs.TextChanges.{TextChange}
use Rattle.keep_edit_spec.specs.declared.line_kind.LineKind.{LineKind}
use Rattle.keep_edit_spec.specs.declared.line_kind.LineKind.TheVariants.{LastInBody, OfDotted, WithHeader}

-- The kind of the line that an insert adds, by its table: a header defines it, or dotted keys make it, or neither.
abbrev pub kind_of : Document → List Part → LineKind
kind_of s path = elim (end_of s (holder path (mentions_in s))) [
  | Some n ↦ LastInBody
  | None ↦ elim (last_line (leads_dotted (holder path (mentions_in s))) start (lines s)) [
    | Some n ↦ OfDotted
    | None ↦ WithHeader
  ]
]

-- it is the last of its body
abbrev pub is_last_in_body : LineKind → Bool
is_last_in_body LastInBody = true
is_last_in_body OfDotted = false
is_last_in_body WithHeader = false

-- it has a header before it
abbrev pub has_header : LineKind → Bool
has_header LastInBody = false
has_header OfDotted = false
has_header WithHeader = true

-- an insert that adds such a line
abbrev pub AddsAs : LineKind → Profile → ℕ → Document → List Part → Value → TextChange → Type 0
AddsAs LastInBody profile limit s path value c = AddsLine profile limit s path value c
AddsAs OfDotted profile limit s path value c = AddsDotted profile limit s path value c
AddsAs WithHeader profile limit s path value c = BringsHeader profile limit s path value c

-- A line that is added: the path of its first new key, the byte at which it comes, and its kind.
pub record Added : Type 0 where
  pub first : List Part
  pub at : ℕ
  pub kind : LineKind

abbrev pub added_as : Document → List Part → TextChange → Added
added_as s path c = record { first = first_new s path; at = c.at; kind = kind_of s path }

-- one with a header, at that byte
abbrev pub IsHeaderAt : ℕ → Added → Type 0
IsHeaderAt at l = (l.at ≡ at) × (l.kind ≡ WithHeader)

-- the path of the table in which it is new
abbrev pub table_of : Added → List Part
table_of l = without_last l.first

-- Where two lines come to one place, the later one comes after the earlier: behind a header comes neither a line nor a
-- header, and before a line of a table that dotted keys make only one of that table, or of such a table below it. And
-- no table gets two headers.
abbrev pub IsAfterAs : LineKind → Added → Added → Type 0
IsAfterAs LastInBody l m = l.at ≡ m.at → l.kind ≢ WithHeader
IsAfterAs OfDotted l m = l.at ≡ m.at → (l.kind ≡ OfDotted) × IsAtOrBelow (table_of l) (table_of m)
IsAfterAs WithHeader l m = l.kind ≡ WithHeader → (l.at ≢ m.at) × (table_of l ≢ table_of m)

abbrev pub IsAfterLine : Added → Added → Type 0
IsAfterLine l m = IsAfterAs m.kind l m
