-- Inserts of a list that bring the headers of their tables: each is known by the first document alone, as long as the
-- tables of all are others, and come to other places.
use Rattle.std.specs.Prelude.{◌≡◌, ◌≢◌, ℕ, ◌+◌, ◌≤◌, List, ◌∷◌, ◌++◌, length, map, Some, None, IsUtf8}
use Rattle.std.specs.List.{AllByRecursion}
use Rattle.keep_types.specs.declared.leaf.Profile.{Profile}
use Rattle.keep_types.specs.declared.leaf.Profile.TheVariants.{Wide}
use Rattle.keep_syntax.specs.Tree.{Value, Document}
use Rattle.keep_path.specs.Path.{Part, key}
use Rattle.keep_meaning.specs.Marks.{start}
use Rattle.keep_meaning.specs.Meaning.{lines, mentions_in}
use Rattle.keep_edit_spec.specs.AddedLines.{AddsLine, first_new}
use Rattle.keep_edit_spec.specs.Edits.{edited_document, end_of, insert, place}
use Rattle.keep_edit_spec.specs.Insertion.{keyed_text, put_in}
use Rattle.keep_edit_spec.specs.Laws.{IsEditable, IsGivenValue}
use Rattle.keep_edit_spec.specs.Lines.{body_end, last_line, leads_dotted, leads_through, newline_of}
use Rattle.keep_edit_spec.specs.Look.{holder, keys_in}
use Rattle.keep_edit_spec.specs.Refusals.{refusal}
use Rattle.keep_edit_spec.specs.TextChanges.{TextChange, change_at, moved}

-- An insert of one key or of several, which is not refused, into a table that is there because headers go through it:
-- none defines it, and no dotted keys make it. It brings the table's header, after the body of the last header that
-- goes through the table; the line before is ended by a newline.
pub record BringsHeader (profile : Profile) (limit : ℕ) (s : Document) (path : List Part) (value : Value)
    (c : TextChange) : Type 0 where
  pub utf8 : AllByRecursion IsUtf8 (keys_in path)
  pub given : IsGivenValue Wide value
  pub allowed : refusal profile limit s (insert path value) ≡ None
  pub text : List ℕ
  pub more : List (List ℕ)
  pub new : path ≡ holder path (mentions_in s) ++ map key (text ∷ more)
  pub bare : end_of s (holder path (mentions_in s)) ≡ None
  pub no_dots : last_line (leads_dotted (holder path (mentions_in s))) start (lines s) ≡ None
  pub number : ℕ
  pub last : last_line (leads_through (holder path (mentions_in s))) start (lines s) ≡ Some number
  pub closed : body_end number (lines s) ≤ length s.ended
  pub adds : c.size ≡ 0
  pub is : place s (insert path value) ≡ put_in c.at c.new

-- It brings the same header in another document, too, where its table is the same.
abbrev pub StillBrings : Profile → ℕ → Document → Document → List Part → Value → TextChange → Type 0
StillBrings profile limit s now path value c =
    BringsHeader profile limit now path value c × (holder path (mentions_in now) ≡ holder path (mentions_in s))

-- The line alone of such an insert, at the same byte: without the header before it.
pub record BringsLine (profile : Profile) (limit : ℕ) (s : Document) (path : List Part) (value : Value)
    (c : TextChange) : Type 0 where
  pub whole : TextChange
  pub brings : BringsHeader profile limit s path value whole
  pub at : c.at ≡ whole.at
  pub adds : c.size ≡ 0
  pub line : c.new ≡ keyed_text (brings.text ∷ brings.more) value ++ (newline_of s).text

-- ---- two inserts

-- a table whose header comes, and the byte at which it does
pub record BroughtAt : Type 0 where
  pub table : List Part
  pub at : ℕ

abbrev pub brought_at : Document → List Part → TextChange → BroughtAt
brought_at s path c = record { table = holder path (mentions_in s); at = c.at }

-- The tables are others, and come to other places.
pub record AreOthers (l m : BroughtAt) : Type 0 where
  pub table : l.table ≢ m.table
  pub at : l.at ≢ m.at

-- An insert that brings a header brings the same after another such insert brought its own, of another table to another
-- place.
abbrev pub StillBringsHeader : Type 0
StillBringsHeader =
    (profile : Profile) (limit : ℕ) (s : Document) (path : List Part) (value : Value) (c : TextChange)
    (other : List Part) (more : Value) (d : TextChange)
    → IsEditable profile limit s → BringsHeader profile limit s path value c
    → BringsHeader profile limit s other more d
    → AreOthers (brought_at s path c) (brought_at s other d)
    → StillBrings profile limit s (edited_document s (insert path value)) other more (moved c d)

-- ---- the table that is open then

-- After such an insert the table has its header. Another insert into it, which would bring that header too, adds its
-- line alone, directly behind what came.
abbrev pub OpensTable : Type 0
OpensTable =
    (profile : Profile) (limit : ℕ) (s : Document) (path : List Part) (value : Value) (c : TextChange)
    (other : List Part) (more : Value) (d : TextChange)
    → IsEditable profile limit s → BringsHeader profile limit s path value c
    → (k : BringsHeader profile limit s other more d)
    → holder path (mentions_in s) ≡ holder other (mentions_in s) → first_new s path ≢ first_new s other
    → AddsLine profile limit (edited_document s (insert path value)) other more
    (change_at (c.at + length c.new) 0 (keyed_text (k.text ∷ k.more) more ++ (newline_of s).text))
    × (first_new (edited_document s (insert path value)) other ≡ first_new s other)
