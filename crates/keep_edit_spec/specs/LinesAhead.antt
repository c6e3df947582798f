-- Lists of edits that are made at once, where a line comes to a byte at which earlier edits of the list have brought
-- what has to come behind it: the line comes before that, as if its edit had been made first.
use Rattle.std.specs.Prelude.{◌≡◌, ◌≢◌, ◌⊎◌, ℕ, ◌+◌, ◌==◌, ◌&&◌, ◌<◌, not, Bool, true, false, IsTrue, List, ◌∷◌, ◌++◌}
use Rattle.std.specs.Prelude.{[], Some, None, All, filter, if◌then◌else◌, length}
use Rattle.std.specs.List.{count_by, list_any}
use Rattle.keep_types.specs.declared.leaf.Profile.{Profile}
use Rattle.keep_syntax.specs.Tree.{Document, Value, text}
use Rattle.keep_path.specs.Path.{Part, strip, without_last}
use Rattle.keep_edit_spec.specs.AddedLines.{first_new}
use Rattle.keep_edit_spec.specs.AppendedHeaders.{AppendsElement, AppendsTable}
use Rattle.keep_edit_spec.specs.BroughtHeaders.{BringsHeader}
use Rattle.keep_edit_spec.specs.Edits.{Edit, append_element, append_table, edited_document, insert, remove, rename, set}
use Rattle.keep_edit_spec.specs.InsertKinds.{Added, AddsAs, IsAfterLine, IsHeaderAt, added_as, is_last_in_body}
use Rattle.keep_edit_spec.specs.InsertKinds.{has_header, kind_of, table_of}
use Rattle.keep_edit_spec.specs.Laws.{IsEditable}
use Rattle.keep_edit_spec.specs.Refusals.{refusal}
use Rattle.keep_edit_spec.specs.RunLists.{AreAtOnce, MadeEdit, changes_of, document_after, lines_of, made, seen_of}
use Rattle.keep_edit_spec.specs.FirstNewline.{LeavesNewline}
use Rattle.keep_edit_spec.specs.Runs.{IsSeenStill, LeaveNewline, LeavesAlone, LetsTable, PassesBy, is_header}
use Rattle.keep_edit_spec.specs.Runs.{is_insert, seen, takes_up_to}
use Rattle.keep_edit_spec.specs.TextChanges.{IsBeside, TextChange}
use Rattle.keep_edit_spec.specs.declared.line_kind.LineKind.{LineKind}
use Rattle.keep_edit_spec.specs.declared.line_kind.LineKind.TheVariants.{LastInBody, OfDotted, WithHeader}

-- ---- tables

-- the path begins with that one, and goes on
abbrev pub is_below : List Part → List Part → Bool
is_below path above = elim (strip above path) [
  | None ↦ false
  | Some more ↦ elim more [
    | [] ↦ false
    | p ∷ ps ↦ true
  ]
]

-- the path of the table in which an insert's first new key is new
abbrev pub table_in : Document → List Part → List Part
table_in s path = without_last (first_new s path)

-- ---- two edits

-- An insert that adds a line without a header adds the same one, at the same byte, after another insert brought the
-- header of its table there.
abbrev pub StillAddsAhead : Type 0
StillAddsAhead =
    (profile : Profile) (limit : ℕ) (s : Document) (path : List Part) (value : Value) (c : TextChange)
    (kind : LineKind) (other : List Part) (more : Value) (d : TextChange)
    → IsEditable profile limit s → BringsHeader profile limit s path value c
    → AddsAs kind profile limit s other more d → kind ≢ WithHeader
    → first_new s path ≢ first_new s other → c.at ≡ d.at
    → AddsAs kind profile limit (edited_document s (insert path value)) other more d
    × IsSeenStill s (edited_document s (insert path value)) (insert other more)

-- An insert that adds a line to a table which dotted keys make adds the same one, at the same byte, after another.
abbrev pub AddsDottedStill : Profile → ℕ → Document → Edit → List Part → Value → TextChange → Type 0
AddsDottedStill profile limit s e path value c =
    AddsAs OfDotted profile limit (edited_document s e) path value c
    × IsSeenStill s (edited_document s e) (insert path value)

-- So it does after an insert added a line there that ends its body.
abbrev pub StillAddsAheadOfEnd : Type 0
StillAddsAheadOfEnd =
    (profile : Profile) (limit : ℕ) (s : Document) (path : List Part) (value : Value) (c : TextChange)
    (other : List Part) (more : Value) (d : TextChange)
    → IsEditable profile limit s → AddsAs LastInBody profile limit s path value c
    → AddsAs OfDotted profile limit s other more d
    → first_new s path ≢ first_new s other → c.at ≡ d.at
    → AddsDottedStill profile limit s (insert path value) other more d

-- And after another insert added a line there to such a table above its own.
abbrev pub StillAddsAheadOfAbove : Type 0
StillAddsAheadOfAbove =
    (profile : Profile) (limit : ℕ) (s : Document) (path : List Part) (value : Value) (c : TextChange)
    (other : List Part) (more : Value) (d : TextChange)
    → IsEditable profile limit s → AddsAs OfDotted profile limit s path value c
    → AddsAs OfDotted profile limit s other more d
    → is_below (table_in s other) (table_in s path) ≡ true
    → first_new s path ≢ first_new s other → c.at ≡ d.at
    → AddsDottedStill profile limit s (insert path value) other more d

-- So does any insert that adds a line, after a header was appended that passes by its path, and by the table of a
-- header that it brings. The line may come at the end of the text, where the header comes.
abbrev pub StillAddsAheadOfTable : Type 0
StillAddsAheadOfTable =
    (profile : Profile) (limit : ℕ) (s : Document) (keys : List (List ℕ)) (c : TextChange)
    (kind : LineKind) (other : List Part) (more : Value) (d : TextChange)
    → IsEditable profile limit s → AppendsTable profile limit s keys c
    → AddsAs kind profile limit s other more d
    → PassesBy keys (first_new s other) → LetsTable (added_as s other d) (append_table keys)
    → AddsAs kind profile limit (edited_document s (append_table keys)) other more d
    × IsSeenStill s (edited_document s (append_table keys)) (insert other more)

abbrev pub StillAddsAheadOfElement : Type 0
StillAddsAheadOfElement =
    (profile : Profile) (limit : ℕ) (s : Document) (keys : List (List ℕ)) (c : TextChange)
    (kind : LineKind) (other : List Part) (more : Value) (d : TextChange)
    → IsEditable profile limit s → AppendsElement profile limit s keys c
    → AddsAs kind profile limit s other more d
    → PassesBy keys (first_new s other) → LetsTable (added_as s other d) (append_element keys)
    → AddsAs kind profile limit (edited_document s (append_element keys)) other more d
    × IsSeenStill s (edited_document s (append_element keys)) (insert other more)

-- ---- what comes behind a line

-- A line of the first kind and table comes before one of the second that comes to the same byte, whichever was added
-- first: lines of tables that dotted keys make, of a table below before those of one above it, then those at the end of
-- the body, then headers with their lines.
abbrev pub comes_before : LineKind → List Part → LineKind → List Part → Bool
comes_before OfDotted table OfDotted other = is_below table other
comes_before OfDotted table LastInBody other = true
comes_before OfDotted table WithHeader other = true
comes_before LastInBody table WithHeader other = true
comes_before LastInBody table OfDotted other = false
comes_before LastInBody table LastInBody other = false
comes_before WithHeader table kind other = false

-- The edit comes behind a line of that kind and table at that byte: it adds such a line there, or appends a header, and
-- the byte is at the end of the text.
abbrev pub comes_behind : Document → LineKind → List Part → ℕ → MadeEdit → Bool
comes_behind s kind table at m = elim m.edit [
  | insert path value ↦ (m.change.at == at) && comes_before kind table (kind_of s path) (table_in s path)
  | append_table keys ↦ at == length (text s)
  | append_element keys ↦ at == length (text s)
  | set path value ↦ false
  | rename path name ↦ false
  | remove path ↦ false
]

-- those of the edits, and the others
abbrev pub behind : Document → LineKind → List Part → ℕ → List MadeEdit → List MadeEdit
behind s kind table at ms = filter (comes_behind s kind table at) ms

abbrev pub before : Document → LineKind → List Part → ℕ → List MadeEdit → List MadeEdit
before s kind table at ms = filter (λ m. not (comes_behind s kind table at m)) ms

-- the edits with one more, which adds a line of that kind and table: it comes after the others and before those
abbrev pub with_ahead : Document → LineKind → List Part → List MadeEdit → MadeEdit → List MadeEdit
with_ahead s kind table ms m = behind s kind table m.change.at ms ++ m ∷ before s kind table m.change.at ms

-- ---- in a run

-- A line comes after all others at its byte, or they come behind it. Headers that are appended pass by its table, if it
-- has a header; and by those of headers that come there with lines, unless all are at the end. No edit takes the byte
-- before it. Either all edits add lines, or each newline is alike.
pub record ComesAhead (s : Document) (ms : List MadeEdit) (kind : LineKind) (line : Added) (c : TextChange)
    : Type 0 where
  pub after : All (λ l. IsAfterLine l line
      ⊎ ((l.at ≡ c.at) × (comes_before kind (table_of line) l.kind (table_of l) ≡ true))) (lines_of s ms)
  pub lets : All (LetsTable line) (seen_of s ms)
  pub passed : c.at ≢ length (text s)
      → All (λ l. IsHeaderAt c.at l → All (LetsTable l) (seen_of s ms)) (lines_of s ms)
  pub clear : list_any (takes_up_to c.at) (changes_of ms) ≡ false
  pub alike : All (λ e. IsTrue (is_insert e)) (seen_of s ms) ⊎ (LeaveNewline s (changes_of ms) × LeavesNewline s c)

-- Such an insert after these edits: it adds its line there still, with the same bytes, and is seen as before. It is not
-- refused, and makes the document that they make if it comes before those that come behind its line. Its change is
-- right before as many of those at its byte, the last ones.
pub record IsRunAhead (profile : Profile) (limit : ℕ) (s : Document) (ms : List MadeEdit) (path : List Part)
    (value : Value) (kind : LineKind) (c : TextChange) : Type 0 where
  pub there : TextChange
  pub new_is : there.new ≡ c.new
  pub makes : AddsAs kind profile limit (document_after s ms) path value there
  pub seen_still : IsSeenStill s (document_after s ms) (insert path value)
  pub allowed : refusal profile limit (document_after s ms) (insert path value) ≡ None
  pub same : edited_document (document_after s ms) (insert path value)
      ≡ document_after s (with_ahead s kind (table_in s path) ms (made (insert path value) c))
  pub still : AreAtOnce profile limit s (with_ahead s kind (table_in s path) ms (made (insert path value) c))
  pub put : (first between last : List TextChange) → changes_of ms ≡ first ++ between ++ last
      → All (λ x. x.at ≡ c.at) between → All (λ x. c.at < x.at) last → 0 < length between
      → length between ≡ length (behind s kind (table_in s path) c.at ms)
      → changes_of (with_ahead s kind (table_in s path) ms (made (insert path value) c)) ≡ first ++ c ∷ between ++ last

abbrev pub RunGoesOnAhead : Type 0
RunGoesOnAhead =
    (profile : Profile) (limit : ℕ) (s : Document) (ms : List MadeEdit) (path : List Part) (value : Value)
    (kind : LineKind) (c : TextChange)
    → IsEditable profile limit s → AreAtOnce profile limit s ms
    → AddsAs kind profile limit s path value c
    → All (λ f. LeavesAlone f (seen s (insert path value))) (seen_of s ms)
    → All (λ d. IsBeside d c) (changes_of ms) → ComesAhead s ms kind (added_as s path c) c
    → IsRunAhead profile limit s ms path value kind c

-- ---- how many come behind

-- of a table that dotted keys make, above that one
abbrev pub is_above : List Part → LineKind → List Part → Bool
is_above table OfDotted other = is_below table other
is_above table LastInBody other = false
is_above table WithHeader other = false

-- a line at that byte, of such a table, at the end of a body, or with a header
abbrev pub is_above_at : List Part → ℕ → Added → Bool
is_above_at table at l = (l.at == at) && is_above table l.kind (table_of l)

abbrev pub is_end_at : ℕ → Added → Bool
is_end_at at l = (l.at == at) && is_last_in_body l.kind

abbrev pub is_headed_at : ℕ → Added → Bool
is_headed_at at l = (l.at == at) && has_header l.kind

-- how many of these lines come behind one of that kind and table at that byte
abbrev pub lines_behind : LineKind → List Part → ℕ → List Added → ℕ
lines_behind OfDotted table at lines =
    count_by (is_above_at table at) lines + (count_by (is_end_at at) lines + count_by (is_headed_at at) lines)
lines_behind LastInBody table at lines = count_by (is_headed_at at) lines
lines_behind WithHeader table at lines = 0

abbrev pub CountsBehind : Type 0
CountsBehind =
    (s : Document) (kind : LineKind) (table : List Part) (at : ℕ) (ms : List MadeEdit)
    → length (behind s kind table at ms)
    ≡ lines_behind kind table at (lines_of s ms)
    + (if at == length (text s) then count_by is_header (seen_of s ms) else 0)
