-- Lists of edits that are made at once: each makes a change of the first document's text. A value that is set again is
-- set once, by the later edit.
use Rattle.std.specs.Prelude.{◌≡◌, ◌⊎◌, ⊤, ℕ, ◌<◌, false, IsTrue, List, [], ◌∷◌, ◌++◌, length, map, All, Any}
use Rattle.std.specs.List.{list_any}
use Rattle.keep_types.specs.declared.leaf.Profile.{Profile}
use Rattle.keep_syntax.specs.Tree as tree
use Rattle.keep_syntax.specs.Tree.{Document, Value, text}
use Rattle.keep_path.specs.Path.{Part}
use Rattle.keep_meaning.specs.Meaning.{mentions_in}
use Rattle.keep_edit_spec.specs.BroughtHeaders.{BringsLine}
use Rattle.keep_edit_spec.specs.InsertKinds.{Added, IsHeaderAt, table_of}
use Rattle.keep_edit_spec.specs.Edits.{Edit, edited_document, insert, set}
use Rattle.keep_edit_spec.specs.Laws.{IsEditable}
use Rattle.keep_edit_spec.specs.Look.{holder}
use Rattle.keep_edit_spec.specs.Runs.{IsBeforeHeaders, IsRun, IsRunLonger, KeepsPlace, LeaveNewline, LeavesAlone}
use Rattle.keep_edit_spec.specs.Runs.{MakesChange, is_insert, seen, takes_up_to, with_line}
use Rattle.keep_edit_spec.specs.SetValues.{SetsValue}
use Rattle.keep_edit_spec.specs.TextChanges.{Follow, IsBeside, TextChange, change_at, moved_by_all, text_with}
use Rattle.keep_edit_spec.specs.TextChanges.{with_change}

-- an edit with the change that it makes of the first document's text
pub record MadeEdit : Type 0 where
  pub edit : Edit
  pub change : TextChange

abbrev pub made : Edit → TextChange → MadeEdit
made e c = record { edit = e; change = c }

-- In these lists the last edit comes first. The edits, as others see them:
abbrev pub seen_of : Document → List MadeEdit → List Edit
seen_of s = map (λ m. seen s m.edit)

-- their changes, in the order of the places
abbrev pub changes_of : List MadeEdit → List TextChange
changes_of [] = []
changes_of (m ∷ ms) = with_change (changes_of ms) m.change

-- the lines that they add
abbrev pub lines_of : Document → List MadeEdit → List Added
lines_of s [] = []
lines_of s (m ∷ ms) = with_line s m.edit m.change (lines_of s ms)

-- the document after all of them
abbrev pub document_after : Document → List MadeEdit → Document
document_after s [] = s
document_after s (m ∷ ms) = edited_document (document_after s ms) m.edit

-- An insert into a table whose header one of these lines brings. By the first document it would bring that header, too;
-- now its line alone comes, behind what comes at that byte.
pub record FollowsHeader (profile : Profile) (limit : ℕ) (s : Document) (lines : List Added) (path : List Part)
    (value : Value) (c : TextChange) : Type 0 where
  pub alone : BringsLine profile limit s path value c
  pub header : Any (λ l. IsHeaderAt c.at l × (table_of l ≡ holder path (mentions_in s))) lines

abbrev pub Follows : Profile → ℕ → Document → List Added → Edit → TextChange → Type 0
Follows profile limit s lines (insert path value) c = FollowsHeader profile limit s lines path value c
Follows profile limit s lines e c = ⊥

-- No edit takes the byte before it; and either all of them add lines, or each newline is alike, and no header is
-- appended there.
abbrev pub KeepsBehind : Document → List Edit → List TextChange → TextChange → Type 0
KeepsBehind s edits changes c =
    (list_any (takes_up_to c.at) changes ≡ false)
    × (All (λ e. IsTrue (is_insert e)) edits ⊎ (LeaveNewline s changes × IsBeforeHeaders (text s) edits c.at))

-- An edit makes its change of the first document in its place, or follows a header.
abbrev pub MakesInPlace : Profile → ℕ → Document → List Edit → List TextChange → List Added → Edit → TextChange → Type 0
MakesInPlace profile limit s edits changes lines e c =
    (MakesChange profile limit s e c × KeepsPlace s edits changes lines e c)
    ⊎ (Follows profile limit s lines e c × KeepsBehind s edits changes c)

-- Each does so beside those before it, which leave it alone.
abbrev pub AreAtOnce : Profile → ℕ → Document → List MadeEdit → Type 0
AreAtOnce profile limit s [] = ⊤
AreAtOnce profile limit s (m ∷ ms) =
    MakesInPlace profile limit s (seen_of s ms) (changes_of ms) (lines_of s ms) m.edit m.change
    × (All (λ e. LeavesAlone e (seen s m.edit)) (seen_of s ms)
    × (All (λ d. IsBeside d m.change) (changes_of ms)
    × AreAtOnce profile limit s ms))

-- So they are a run.
abbrev pub RunIsKnown : Type 0
RunIsKnown =
    (profile : Profile) (limit : ℕ) (s : Document) (ms : List MadeEdit)
    → IsEditable profile limit s → AreAtOnce profile limit s ms
    → IsRun profile limit s (seen_of s ms) (changes_of ms) (lines_of s ms) (document_after s ms)

-- And such an insert that follows a header makes the run longer, too.
abbrev pub RunGoesOnBehind : Type 0
RunGoesOnBehind =
    (profile : Profile) (limit : ℕ) (s : Document) (ms : List MadeEdit) (path : List Part) (value : Value)
    (c : TextChange)
    → IsEditable profile limit s → AreAtOnce profile limit s ms
    → FollowsHeader profile limit s (lines_of s ms) path value c
    → All (λ e. LeavesAlone e (seen s (insert path value))) (seen_of s ms)
    → All (λ d. IsBeside d c) (changes_of ms) → KeepsBehind s (seen_of s ms) (changes_of ms) c
    → IsRunLonger profile limit s (seen_of s ms) (changes_of ms) (lines_of s ms) (document_after s ms)
    (insert path value) c

-- ---- a value that is set again

-- one of them sets the value at that path
abbrev pub IsSetIn : List Part → List MadeEdit → Type 0
IsSetIn path [] = ⊥
IsSetIn path (m ∷ ms) = ((value : Value) × (m.edit ≡ set path value)) ⊎ IsSetIn path ms

-- the first is one of the second, and the third are the others
pub record IsOneOf (m : MadeEdit) (ms rest : List MadeEdit) : Type 0 where
  pub later : List MadeEdit
  pub earlier : List MadeEdit
  pub all : ms ≡ later ++ m ∷ earlier
  pub others : rest ≡ later ++ earlier

-- A set after these edits, one of which, with the change c, sets that value too: it makes its change there, where that
-- one has made its own. And the others with the later set, in the place of the earlier one, are at once and make the
-- same document.
pub record IsRunSetAgain (profile : Profile) (limit : ℕ) (s : Document) (ms : List MadeEdit) (path : List Part)
    (more : Value) (d : TextChange) : Type 0 where
  pub rest : List MadeEdit
  pub value : Value
  pub c : TextChange
  pub one : IsOneOf (made (set path value) c) ms rest
  pub changes : changes_of ms ≡ with_change (changes_of rest) c
  pub at : c.at ≡ d.at
  pub size : c.size ≡ d.size
  pub some : 0 < c.size
  pub follow : Follow 0 (changes_of rest)
  pub beside : All (λ x. IsBeside x d) (changes_of rest)
  pub sets : SetsValue profile limit (document_after s ms) path more
      (change_at (moved_by_all (changes_of rest) d.at) (length c.new) d.new)
  pub same : edited_document (document_after s ms) (set path more)
      ≡ document_after s (made (set path more) d ∷ rest)
  pub still : AreAtOnce profile limit s (made (set path more) d ∷ rest)
  pub text : tree.text (edited_document (document_after s ms) (set path more))
      ≡ text_with 0 (tree.text s) (with_change (changes_of rest) d)

abbrev pub RunGoesOnAgain : Type 0
RunGoesOnAgain =
    (profile : Profile) (limit : ℕ) (s : Document) (ms : List MadeEdit) (path : List Part) (more : Value)
    (d : TextChange)
    → IsEditable profile limit s → AreAtOnce profile limit s ms → IsSetIn path ms
    → SetsValue profile limit s path more d
    → IsRunSetAgain profile limit s ms path more d
