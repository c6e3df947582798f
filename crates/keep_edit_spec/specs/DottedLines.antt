-- Inserts of a list that add lines, at the ends of bodies and to tables which dotted keys make: each is known by the
-- first document alone, as long as the first new keys of all have other paths, and of lines that come to one place the
-- later one ends its body, or is of the same table as the earlier one, or of one above that.
use Rattle.std.specs.Prelude.{◌≡◌, ◌≢◌, ℕ, ◌≤◌, suc, Bool, true, false, List, ◌∷◌, ◌++◌, length, map, Some, None}
use Rattle.std.specs.Prelude.{IsUtf8}
use Rattle.std.specs.List.{AllByRecursion}
use Rattle.keep_types.specs.declared.leaf.Profile.{Profile}
use Rattle.keep_types.specs.declared.leaf.Profile.TheVariants.{Wide}
use Rattle.keep_syntax.specs.Tree.{Value, Document}
use Rattle.keep_path.specs.Path.{Part, key, without_last}
use Rattle.keep_meaning.specs.Marks.{start}
use Rattle.keep_meaning.specs.Meaning.{lines, mentions_in}
use Rattle.keep_edit_spec.specs.AddedLines.{AddsLine, first_new}
use Rattle.keep_edit_spec.specs.Edits.{edited_document, end_of, insert, place}
use Rattle.keep_edit_spec.specs.Insertion.{put_in}
use Rattle.keep_edit_spec.specs.Laws.{IsEditable, IsGivenValue}
use Rattle.keep_edit_spec.specs.Lines.{last_line, leads_dotted}
use Rattle.keep_edit_spec.specs.Look.{holder, keys_in}
use Rattle.keep_edit_spec.specs.Refusals.{refusal}
use Rattle.keep_edit_spec.specs.TextChanges.{TextChange, moved}

-- An insert of one key or of several, which is not refused, into a table that dotted keys make and no header defines.
-- It adds this line after the last one whose key leads through the table; that one is ended by a newline.
pub record AddsDotted (profile : Profile) (limit : ℕ) (s : Document) (path : List Part) (value : Value)
    (c : TextChange) : Type 0 where
  pub utf8 : AllByRecursion IsUtf8 (keys_in path)
  pub given : IsGivenValue Wide value
  pub allowed : refusal profile limit s (insert path value) ≡ None
  pub text : List ℕ
  pub more : List (List ℕ)
  pub new : path ≡ holder path (mentions_in s) ++ map key (text ∷ more)
  pub bare : end_of s (holder path (mentions_in s)) ≡ None
  pub number : ℕ
  pub last : last_line (leads_dotted (holder path (mentions_in s))) start (lines s) ≡ Some number
  pub closed : suc number ≤ length s.ended
  pub adds : c.size ≡ 0
  pub is : place s (insert path value) ≡ put_in c.at c.new

-- no header defines the holder of the path: where an insert adds a line, dotted keys make the table

-- an insert that adds a line: to a table that dotted keys make, or at the end of a body
abbrev pub AddsLineTo : Bool → Profile → ℕ → Document → List Part → Value → TextChange → Type 0
AddsLineTo true profile limit s path value c = AddsDotted profile limit s path value c
AddsLineTo false profile limit s path value c = AddsLine profile limit s path value c

-- It adds its line in another document, too, and its first new key is the same there.
abbrev pub StillAdds : Bool → Profile → ℕ → Document → Document → List Part → Value → TextChange → Type 0
StillAdds dotted profile limit s now path value c =
    AddsLineTo dotted profile limit now path value c × (first_new now path ≡ first_new s path)

-- ---- two inserts

-- the path is that one, or begins with it
abbrev pub IsAtOrBelow : List Part → List Part → Type 0
IsAtOrBelow path above = (more : List Part) × (path ≡ above ++ more)

-- A line that is added: the path of its first new key, the byte at which it comes, and whether it is one of a table
-- that dotted keys make.
pub record AddedAt : Type 0 where
  pub first : List Part
  pub at : ℕ
  pub dotted : Bool

abbrev pub added_at : Document → List Part → TextChange → Bool → AddedAt
added_at s path c dotted = record { first = first_new s path; at = c.at; dotted = dotted }

-- Where the lines come to one place, the later one ends its body, or dotted keys make the tables of both, and the table
-- of the earlier one is that of the later, or below it: so the later line comes after the earlier one.
abbrev pub IsAfter : AddedAt → AddedAt → Type 0
IsAfter l m =
    m.dotted ≡ true → l.at ≡ m.at → (l.dotted ≡ true) × IsAtOrBelow (without_last l.first) (without_last m.first)

-- The lines are of two first new keys, and in order where they come to one place.
pub record AreInOrder (l m : AddedAt) : Type 0 where
  pub other : l.first ≢ m.first
  pub table : IsAfter l m

-- An insert that adds a line adds the same one after another such insert added its own, if they are in order.
abbrev pub StillAddsLineTo : Type 0
StillAddsLineTo =
    (profile : Profile) (limit : ℕ) (s : Document) (path : List Part) (value : Value) (c : TextChange) (to : Bool)
    (other : List Part) (more : Value) (d : TextChange) (dotted : Bool)
    → IsEditable profile limit s → AddsLineTo to profile limit s path value c
    → AddsLineTo dotted profile limit s other more d
    → AreInOrder (added_at s path c to) (added_at s other d dotted)
    → StillAdds dotted profile limit s (edited_document s (insert path value)) other more (moved c d)
