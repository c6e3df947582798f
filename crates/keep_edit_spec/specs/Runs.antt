-- Edits of a list that are known by the document before all of them: each makes its own change of that document's text.
use Rattle.std.specs.Prelude.{◌≡◌, ◌≢◌, ◌⊎◌, ⊤, ℕ, ◌+◌, ◌==◌, nat_lt, Bool, true, false, not, ◌&&◌, ◌||◌, IsTrue, List}
use Rattle.std.specs.Prelude.{suc, ◌<◌, ◌≤◌, [], ◌∷◌, length, map, take, drop, All, Some, None, slice_get}
use Rattle.std.specs.List.{list_any}
use Rattle.keep_types.specs.declared.leaf.Profile.{Profile}
use Rattle.keep_syntax.specs.Tree as tree
use Rattle.keep_syntax.specs.Tree.{Document, text}
use Rattle.keep_path.specs.Path.{Part, beside, key, strip}
use Rattle.keep_edit_spec.specs.AddedLines.{first_new}
use Rattle.keep_edit_spec.specs.AppendedHeaders.{AppendsElement, AppendsTable, AreSameOrApart}
use Rattle.keep_edit_spec.specs.ClearedLines.{ClearsLine}
use Rattle.keep_edit_spec.specs.FirstNewline.{LeavesNewline}
use Rattle.keep_edit_spec.specs.InsertKinds.{Added, AddsAs, IsAfterLine, added_as, is_last_in_body, kind_of}
use Rattle.keep_edit_spec.specs.InsertKinds.{table_of}
use Rattle.keep_edit_spec.specs.Edits.{Edit, append_element, append_table, edited_document, insert, place, remove}
use Rattle.keep_edit_spec.specs.Edits.{rename, set}
use Rattle.keep_edit_spec.specs.Laws.{IsEditable}
use Rattle.keep_edit_spec.specs.Lines.{newline_of}
use Rattle.keep_edit_spec.specs.Look.{keys_in}
use Rattle.keep_edit_spec.specs.Refusals.{refusal}
use Rattle.keep_edit_spec.specs.RemovedLines.{RemovesLine}
use Rattle.keep_edit_spec.specs.RemovedSections.{RemovesSection}
use Rattle.keep_edit_spec.specs.RenamedKeys.{ArePathsApart, RenamesKey}
use Rattle.keep_edit_spec.specs.SaidLines.{SaysBefore}
use Rattle.keep_edit_spec.specs.SetValues.{SetsValue}
use Rattle.keep_edit_spec.specs.TextChanges.{Follow, IsBeside, IsWider, TextChange, change_at, moved, moved_by_all}
use Rattle.keep_edit_spec.specs.TextChanges.{moved_past, place_of_change, text_with, with_change}
use Rattle.keep_edit_spec.specs.declared.line_kind.LineKind.{LineKind}
use Rattle.keep_edit_spec.specs.declared.line_kind.LineKind.TheVariants.{LastInBody, WithHeader}

-- The edit is one whose change of the text is known from the first document on, and this is its change. An insert adds
-- a line, at the end of a body, to a table that dotted keys make, or with the header that it brings. A remove takes a
-- line, leaves it with its comment, or takes a table with its header.
abbrev pub MakesChange : Profile → ℕ → Document → Edit → TextChange → Type 0
MakesChange profile limit s (insert path value) c = (kind : LineKind) × AddsAs kind profile limit s path value c
MakesChange profile limit s (remove path) c =
    RemovesLine profile limit s path c
    ⊎ (ClearsLine profile limit s path c ⊎ RemovesSection profile limit s path c)
MakesChange profile limit s (set path value) c = SetsValue profile limit s path value c
MakesChange profile limit s (rename path text) c = RenamesKey profile limit s path text c
MakesChange profile limit s (append_table keys) c = AppendsTable profile limit s keys c
MakesChange profile limit s (append_element keys) c = AppendsElement profile limit s keys c

-- The change is of the edit's place; that of a remove may go on to the end of a line, whose comment comes back.
abbrev pub IsOfPlace : Document → Edit → TextChange → Type 0
IsOfPlace s (remove path) c = IsWider (text s) (place s (remove path)) c
IsOfPlace s e c = place s e ≡ place_of_change c

-- The edit as others see it: an insert of several keys is as one of the first.
abbrev pub seen : Document → Edit → Edit
seen s (insert path value) = insert (first_new s path) value
seen s e = e

-- It is seen so in another document, too, and the line of an insert is of the same kind there.
abbrev pub IsSeenStill : Document → Document → Edit → Type 0
IsSeenStill s now (insert path value) =
    (first_new now path ≡ first_new s path) × (kind_of now path ≡ kind_of s path)
IsSeenStill s now e = ⊤

-- neither path is the other or below it
abbrev pub AreApart : List Part → List Part → Type 0
AreApart path other = (strip path other ≡ None) × (strip other path ≡ None)

-- no step of the path is that key
abbrev pub IsNoStep : List ℕ → List Part → Type 0
IsNoStep name path = (n : ℕ) → slice_get path n ≢ Some (key name)

-- the path of an edit of what is there, or of what comes there; headers that are appended have none
abbrev pub path_of : Edit → List Part
path_of (set path value) = path
path_of (insert path value) = path
path_of (rename path name) = path
path_of (remove path) = path
path_of _ = []

-- No header of these keys is that of the path, or of a table below it.
abbrev pub PassesBy : List (List ℕ) → List Part → Type 0
PassesBy keys path = strip (map key (keys_in path)) (map key keys) ≡ None

-- the same of all paths of an edit
abbrev pub PassesByPaths : List (List ℕ) → Edit → Type 0
PassesByPaths keys (rename path name) = PassesBy keys path × PassesBy keys (beside path name)
PassesByPaths keys e = PassesBy keys (path_of e)

-- The first edit leaves the second alone. Of one kind, lines that are added have other paths, keys that are renamed
-- paths apart, and headers of tables other keys; those of elements the same keys, or keys apart. Edits of two kinds
-- have paths apart, and the new key of a rename is no step of the other path; a header passes by the paths of the other
-- edit.
abbrev pub LeavesAlone : Edit → Edit → Type 0
LeavesAlone (insert path value) (insert other more) = path ≢ other
LeavesAlone (remove path) (remove other) = ⊤
LeavesAlone (set path value) (set other more) = ⊤
LeavesAlone (rename path name) (rename other more) = ArePathsApart path name other more
LeavesAlone (append_table keys) (append_table more) = keys ≢ more
LeavesAlone (append_element keys) (append_element more) = AreSameOrApart keys more
LeavesAlone (append_table keys) (append_element more) = AreApart (map key keys) (map key more)
LeavesAlone (append_element keys) (append_table more) = AreApart (map key keys) (map key more)
LeavesAlone (append_table keys) f = PassesByPaths keys f
LeavesAlone (append_element keys) f = PassesByPaths keys f
LeavesAlone e (append_table keys) = PassesByPaths keys e
LeavesAlone e (append_element keys) = PassesByPaths keys e
LeavesAlone (rename path name) f = AreApart path (path_of f) × IsNoStep name (path_of f)
LeavesAlone e (rename other name) = AreApart (path_of e) other × IsNoStep name (path_of e)
LeavesAlone e f = AreApart (path_of e) (path_of f)

abbrev pub is_insert : Edit → Bool
is_insert (insert path value) = true
is_insert _ = false

abbrev pub is_header : Edit → Bool
is_header (append_table keys) = true
is_header (append_element keys) = true
is_header _ = false

-- an insert at the end of a body
abbrev pub ends_body : Document → Edit → Bool
ends_body s (insert path value) = is_last_in_body (kind_of s path)
ends_body s e = false

-- A line that is added at the end of a body comes in the place of one that was taken, after one that says something.
pub record ComesInPlace (s : Document) (c : TextChange) (f : Edit) (d : TextChange) : Type 0 where
  pub line : ends_body s f ≡ true
  pub some : 0 < c.size
  pub takes : c.new ≡ []
  pub next : c.at + c.size ≡ d.at
  pub said : SaysBefore (text s) c.at

-- A new line or header after an edit of another kind: the document's first newline is the same then, and what is before
-- the new bytes is not gone, but for a line in whose place it comes, nor comes anything there but a line.
abbrev pub StaysPlaced : Document → Edit → TextChange → Edit → TextChange → Type 0
StaysPlaced s e c f d =
    (newline_of (edited_document s e) ≡ newline_of s)
    × (is_insert e ≡ false → (c.at + c.size ≢ d.at) ⊎ ComesInPlace s c f d)

abbrev pub is_new_after : Edit → Edit → Bool
is_new_after e f = (is_insert f && not (is_insert e)) || (is_header f && not (is_header e))

-- A header that is appended passes by the table of a line with a header of its own that comes later.
abbrev pub PassesTable : List (List ℕ) → Added → Type 0
PassesTable keys l = l.kind ≡ WithHeader → PassesBy keys (table_of l)

-- One that is appended after such a line is no second header of its table; it may be of a table below that.
abbrev pub IsNoSecond : List (List ℕ) → Added → Type 0
IsNoSecond keys l = l.kind ≡ WithHeader → keys ≢ keys_in (table_of l)

-- and so of that which an edit adds
abbrev pub IsNoSecondAfter : Document → List (List ℕ) → Edit → TextChange → Type 0
IsNoSecondAfter s keys (insert path value) c = IsNoSecond keys (added_as s path c)
IsNoSecondAfter s keys e c = ⊤

-- The first edit leaves the second alone, where it comes after it, by the lines that they add: such a line comes after
-- that of the other, and a header that came before passes by the table of one that has a header.
abbrev pub ComesInOrder : Document → Edit → TextChange → Edit → TextChange → Type 0
ComesInOrder s (insert other more) d (insert path value) c = IsAfterLine (added_as s path c) (added_as s other d)
ComesInOrder s (insert other more) d (append_table keys) c = PassesTable keys (added_as s other d)
ComesInOrder s (insert other more) d (append_element keys) c = PassesTable keys (added_as s other d)
ComesInOrder s (append_table keys) d e c = IsNoSecondAfter s keys e c
ComesInOrder s (append_element keys) d e c = IsNoSecondAfter s keys e c
ComesInOrder s f d e c = ⊤

abbrev pub IsStillPlaced : Document → Edit → TextChange → Edit → TextChange → Type 0
IsStillPlaced s e c f d = (IsTrue (is_new_after e f) → StaysPlaced s e c f d) × ComesInOrder s f d e c

-- An edit makes its change after another that leaves it alone made one beside it, and is seen as before.
abbrev pub StillMakesChange : Type 0
StillMakesChange =
    (profile : Profile) (limit : ℕ) (s : Document) (e : Edit) (c : TextChange) (f : Edit) (d : TextChange)
    → IsEditable profile limit s → MakesChange profile limit s e c → MakesChange profile limit s f d
    → LeavesAlone (seen s e) (seen s f) → IsBeside c d → IsStillPlaced s e c f d
    → MakesChange profile limit (edited_document s e) f (moved c d) × IsSeenStill s (edited_document s e) f

-- ---- edits of several kinds

-- the change takes the byte before this one
abbrev pub takes_up_to : ℕ → TextChange → Bool
takes_up_to at c = nat_lt 0 c.size && (c.at + c.size == at)

-- the document's first newline is the same after these changes
abbrev pub LeaveNewline : Document → List TextChange → Type 0
LeaveNewline s changes = All (LeavesNewline s) changes

-- and none of them takes the byte before this one
abbrev pub LeaveNewlineBefore : Document → List TextChange → ℕ → Type 0
LeaveNewlineBefore s changes at = LeaveNewline s changes × (list_any (takes_up_to at) changes ≡ false)

-- The change takes a line, the one before it says something and stays as it is, and nothing comes between them.
pub record LeavesPlace (bytes : List ℕ) (changes : List TextChange) (d : TextChange) : Type 0 where
  pub takes : d.new ≡ []
  pub said : SaysBefore bytes d.at
  pub stays : All (λ x. IsBeside x (change_at said.from (suc (length said.line)) [])) changes
  pub alone : All (λ x. x.at ≡ d.at → 0 < x.size) changes

-- the change doesn't take the byte before this one, or takes a line in whose place another can come
abbrev pub LetsCome : List ℕ → List TextChange → ℕ → TextChange → Type 0
LetsCome bytes changes at d = (takes_up_to at d ≡ false) ⊎ LeavesPlace bytes changes d

-- no header is appended, or this byte is not at the end, where one would come
abbrev pub IsBeforeHeaders : List ℕ → List Edit → ℕ → Type 0
IsBeforeHeaders bytes edits at = (list_any is_header edits ≡ false) ⊎ (at ≢ length bytes)

-- the lines with the one that the edit adds, if it adds one
abbrev pub with_line : Document → Edit → TextChange → List Added → List Added
with_line s (insert path value) c lines = added_as s path c ∷ lines
with_line s e c lines = lines

-- the header that the edit appends, if it does, passes by the table of such a line
abbrev pub LetsTable : Added → Edit → Type 0
LetsTable l (append_table keys) = PassesTable keys l
LetsTable l (append_element keys) = PassesTable keys l
LetsTable l e = ⊤

-- A line comes after those at its place; one that is not at the end of a body comes after the line that it follows, and
-- the header of a table comes after no other that goes through the table.
pub record IsInOrder (edits : List Edit) (changes : List TextChange) (lines : List Added) (line : Added) : Type 0 where
  pub after : All (λ l. IsAfterLine l line) lines
  pub stays : line.kind ≢ LastInBody → list_any (takes_up_to line.at) changes ≡ false
  pub passed : All (LetsTable line) edits

-- A new line or header is written after these edits, which added these lines, as before them, and after the same line.
abbrev pub KeepsPlace : Document → List Edit → List TextChange → List Added → Edit → TextChange → Type 0
KeepsPlace s edits changes lines (insert path value) c =
    IsInOrder edits changes lines (added_as s path c)
    × (All (λ e. IsTrue (is_insert e)) edits
    ⊎ (LeaveNewline s changes
    × (All (LetsCome (text s) changes c.at) changes × IsBeforeHeaders (text s) edits c.at)))
KeepsPlace s edits changes lines (append_table keys) c =
    All (IsNoSecond keys) lines × (All (λ e. IsTrue (is_header e)) edits ⊎ LeaveNewlineBefore s changes c.at)
KeepsPlace s edits changes lines (append_element keys) c =
    All (IsNoSecond keys) lines × (All (λ e. IsTrue (is_header e)) edits ⊎ LeaveNewlineBefore s changes c.at)
KeepsPlace s edits changes lines e c = ⊤

-- ---- a run of edits

-- The document after these edits, each of which makes its change of the first document's text: the text is that of the
-- first with the changes, bytes beside these are there still, and an edit that they leave alone makes its change beside
-- them still, and is seen as before. The edits are as they are seen, and these are the lines that they add.
pub record IsRun (profile : Profile) (limit : ℕ) (s : Document) (edits : List Edit) (changes : List TextChange)
    (lines : List Added) (now : Document) : Type 0 where
  pub first : IsEditable profile limit s
  pub editable : IsEditable profile limit now
  pub follow : Follow 0 changes
  pub text : text now ≡ text_with 0 (text s) changes
  pub kept : (r : TextChange) → All (λ d. IsBeside d r) changes → r.at + r.size ≤ length (tree.text s)
      → take r.size (drop (moved_by_all changes r.at) (tree.text now)) ≡ take r.size (drop r.at (tree.text s))
  pub later : (e : Edit) (c : TextChange) → MakesChange profile limit s e c
      → All (λ f. LeavesAlone f (seen s e)) edits → All (λ d. IsBeside d c) changes
      → KeepsPlace s edits changes lines e c
      → MakesChange profile limit now e (moved_past changes c) × IsSeenStill s now e

-- one edit more: it is not refused, and the run is longer
pub record IsRunLonger (profile : Profile) (limit : ℕ) (s : Document) (edits : List Edit) (changes : List TextChange)
    (lines : List Added) (now : Document) (e : Edit) (c : TextChange) : Type 0 where
  pub allowed : refusal profile limit now e ≡ None
  pub is : IsOfPlace now e (moved_past changes c)
  pub run : IsRun profile limit s (seen s e ∷ edits) (with_change changes c) (with_line s e c lines)
      (edited_document now e)

abbrev pub NoneIsRun : Type 0
NoneIsRun =
    (profile : Profile) (limit : ℕ) (s : Document) → IsEditable profile limit s → IsRun profile limit s [] [] [] s

abbrev pub RunGoesOn : Type 0
RunGoesOn =
    (profile : Profile) (limit : ℕ) (s : Document) (edits : List Edit) (changes : List TextChange)
    (lines : List Added) (now : Document) (e : Edit) (c : TextChange)
    → IsRun profile limit s edits changes lines now → MakesChange profile limit s e c
    → All (λ f. LeavesAlone f (seen s e)) edits
    → All (λ d. IsBeside d c) changes → KeepsPlace s edits changes lines e c
    → IsRunLonger profile limit s edits changes lines now e c
