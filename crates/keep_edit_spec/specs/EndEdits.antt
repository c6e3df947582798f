-- Edits of a list that write at the end of the text: headers that are appended, and inserts that come below one of
-- these, into a table through which it goes. They may be made after all other edits of the list, whichever comes first.
use Rattle.std.specs.Prelude.{◌≡◌, ◌≢◌, ⊤, ℕ, ◌+◌, ◌<◌, true, false, List, [], ◌∷◌, ◌++◌, All, None, Option, length}
use Rattle.std.specs.Prelude.{map}
use Rattle.keep_types.specs.declared.leaf.Profile.{Profile}
use Rattle.keep_syntax.specs.Tree.{Document, Value, text}
use Rattle.keep_path.specs.Path.{Part, key, strip, without_last}
use Rattle.keep_meaning.specs.Meaning.{mentions_in}
use Rattle.keep_edit_spec.specs.BroughtHeaders.{BringsHeader}
use Rattle.keep_edit_spec.specs.Edits.{Edit, append_element, append_table, edited_document, insert, remove, set}
use Rattle.keep_edit_spec.specs.ElementRuns.{IsElsewhere, changed_path}
use Rattle.keep_edit_spec.specs.EntryEdits.{MakesSet}
use Rattle.keep_edit_spec.specs.HeadersBelow.{GoThrough}
use Rattle.keep_edit_spec.specs.InsertKinds.{Added, added_as, table_of}
use Rattle.keep_edit_spec.specs.Insertion.{keyed_text}
use Rattle.keep_edit_spec.specs.Laws.{IsEditable, IsLawfulEdit}
use Rattle.keep_edit_spec.specs.Lines.{newline_of}
use Rattle.keep_edit_spec.specs.Look.{holder, keys_in}
use Rattle.keep_edit_spec.specs.Refusals.{refusal}
use Rattle.keep_edit_spec.specs.RemovedHeaders.{RemovesHeader}
use Rattle.keep_edit_spec.specs.FirstNewline.{HasFirst, LeavesFirstAtEnd}
use Rattle.keep_edit_spec.specs.Runs.{IsSeenStill, LeavesAlone, MakesChange, PassesTable, is_header}
use Rattle.keep_edit_spec.specs.Runs.{is_insert, seen}
use Rattle.keep_edit_spec.specs.TextChanges.{TextChange, change_at}
use Rattle.keep_edit_spec.specs.declared.line_kind.LineKind.TheVariants.{WithHeader}

-- an edit at the end of the text, how others see it, and what it writes
pub record EndEdit : Type 0 where
  pub edit : Edit
  pub seen : Edit
  pub new : List ℕ

-- the change by which it writes that at the end of this document's text
abbrev pub end_change : Document → EndEdit → TextChange
end_change s t = change_at (length (text s)) 0 t.new

-- it makes that change, others see it so, and it writes some bytes
pub record IsAtEnd (profile : Profile) (limit : ℕ) (s : Document) (t : EndEdit) : Type 0 where
  pub makes : MakesChange profile limit s t.edit (end_change s t)
  pub seen_is : seen s t.edit ≡ t.seen
  pub some : 0 < length t.new

-- Each is at the end of the text after those before it. The first of them comes first.
abbrev pub AreAtEnd : Profile → ℕ → Document → List EndEdit → Type 0
AreAtEnd profile limit s [] = ⊤
AreAtEnd profile limit s (t ∷ ts) =
    IsAtEnd profile limit s t × AreAtEnd profile limit (edited_document s t.edit) ts

-- the document after all of them
abbrev pub document_with : Document → List EndEdit → Document
document_with s [] = s
document_with s (t ∷ ts) = document_with (edited_document s t.edit) ts

-- ---- an edit before them

-- The header of a table that comes with this line is that of no table into which such an edit inserts, and no header
-- that one appends is of the table or goes through it.
abbrev pub LetsLine : Added → Edit → Type 0
LetsLine l (append_table keys) = PassesTable keys l
LetsLine l (append_element keys) = PassesTable keys l
LetsLine l (insert first value) = l.kind ≡ WithHeader → table_of l ≢ without_last first
LetsLine l e = ⊤

-- so for the line that the edit adds, if it adds one
abbrev pub LetsEdit : Document → Edit → TextChange → EndEdit → Type 0
LetsEdit s (insert path value) c t = LetsLine (added_as s path c) t.seen
LetsEdit s e c t = ⊤

-- the first of them appends a header
abbrev pub BeginWithHeader : List EndEdit → Type 0
BeginWithHeader [] = ⊤
BeginWithHeader (t ∷ ts) = is_header t.edit ≡ true

-- The document has its first newline so, and what these edits write leaves it.
pub record EndsLeave (first : Option (List ℕ)) (s : Document) (ts : List EndEdit) : Type 0 where
  pub has : HasFirst first s
  pub ends : All (λ t. LeavesFirstAtEnd first t.new) ts

-- The edit appends no header, and the others leave it alone. It takes no byte right before the end of the text; at the
-- end it comes right before a header alone.
pub record ComesBefore (s : Document) (ts : List EndEdit) (e : Edit) (c : TextChange) : Type 0 where
  pub other : is_header e ≡ false
  pub alone : All (λ t. LeavesAlone t.seen (seen s e)) ts
  pub lets : All (LetsEdit s e c) ts
  pub newline : (line : Option (List ℕ)) × (EndsLeave line s ts × HasFirst line (edited_document s e))
  pub clear : is_insert e ≡ false → c.at + c.size ≢ length (text s)
  pub first : c.at ≡ length (text s) → BeginWithHeader ts

-- After them it makes the same change, and what they and it make is what they make after it.
pub record IsMadeBefore (profile : Profile) (limit : ℕ) (s : Document) (ts : List EndEdit) (e : Edit) (c : TextChange)
    : Type 0 where
  pub makes : MakesChange profile limit (document_with s ts) e c
  pub still : IsSeenStill s (document_with s ts) e
  pub ends : AreAtEnd profile limit (edited_document s e) ts
  pub same : edited_document (document_with s ts) e ≡ document_with (edited_document s e) ts

abbrev pub EndComesLater : Type 0
EndComesLater =
    (profile : Profile) (limit : ℕ) (s : Document) (ts : List EndEdit) (e : Edit) (c : TextChange)
    → IsEditable profile limit s → AreAtEnd profile limit s ts → MakesChange profile limit s e c
    → ComesBefore s ts e c → IsMadeBefore profile limit s ts e c

-- The same of an edit of an entry, which makes what a set makes.
pub record IsEntryMadeBefore (profile : Profile) (limit : ℕ) (s : Document) (ts : List EndEdit) (e : Edit)
    (path : List Part) (value : Value) (c : TextChange) : Type 0 where
  pub makes : MakesSet profile limit (document_with s ts) e path value c
  pub ends : AreAtEnd profile limit (edited_document s e) ts
  pub same : edited_document (document_with s ts) e ≡ document_with (edited_document s e) ts

abbrev pub EndComesAfterEntry : Type 0
EndComesAfterEntry =
    (profile : Profile) (limit : ℕ) (s : Document) (ts : List EndEdit) (e : Edit) (path : List Part) (value : Value)
    (c : TextChange)
    → IsEditable profile limit s → AreAtEnd profile limit s ts → MakesSet profile limit s e path value c
    → ComesBefore s ts (set path value) c → IsEntryMadeBefore profile limit s ts e path value c

-- The same of the remove of an element of an array of tables, or of a table, with its header.
pub record IsRemovedBefore (profile : Profile) (limit : ℕ) (s : Document) (ts : List EndEdit) (path : List Part)
    (c : TextChange) : Type 0 where
  pub makes : RemovesHeader profile limit (document_with s ts) path c
  pub ends : AreAtEnd profile limit (edited_document s (remove path)) ts
  pub same : edited_document (document_with s ts) (remove path) ≡ document_with (edited_document s (remove path)) ts

abbrev pub EndComesAfterElement : Type 0
EndComesAfterElement =
    (profile : Profile) (limit : ℕ) (s : Document) (ts : List EndEdit) (path : List Part) (c : TextChange)
    → IsEditable profile limit s → AreAtEnd profile limit s ts → RemovesHeader profile limit s path c
    → All (λ t. IsElsewhere (changed_path path) t.seen) ts
    → (line : Option (List ℕ)) → EndsLeave line s ts → HasFirst line (edited_document s (remove path))
    → c.at + c.size ≢ length (text s)
    → IsRemovedBefore profile limit s ts path c

-- ---- one more of them

-- the header that the edit appends is not that of the table into which the other one inserts
abbrev pub IsNoSecondHeader : Edit → Edit → Type 0
IsNoSecondHeader (append_table keys) (insert first value) = keys ≢ keys_in (without_last first)
IsNoSecondHeader (append_element keys) (insert first value) = keys ≢ keys_in (without_last first)
IsNoSecondHeader e f = ⊤

-- A header that is at the end without the others is so after them.
abbrev pub EndGoesOn : Type 0
EndGoesOn =
    (profile : Profile) (limit : ℕ) (s : Document) (ts : List EndEdit) (t : EndEdit)
    → IsEditable profile limit s → AreAtEnd profile limit s ts → IsAtEnd profile limit s t
    → is_header t.edit ≡ true → All (λ u. LeavesAlone u.seen t.seen) ts
    → All (λ u. IsNoSecondHeader t.edit u.seen) ts → (line : Option (List ℕ)) → EndsLeave line s ts
    → AreAtEnd profile limit s (ts ++ t ∷ [])

-- ---- one below a header

-- the edit appends a header that goes through the table
abbrev pub GoesThrough : List Part → Edit → Type 0
GoesThrough table (append_table keys) = GoThrough keys table
GoesThrough table (append_element keys) = GoThrough keys table
GoesThrough table e = ⊥

-- It appends no header of the table, nor inserts into a table which is that or below it.
abbrev pub IsNotOf : List Part → Edit → Type 0
IsNotOf table (append_table keys) = map key keys ≢ table
IsNotOf table (append_element keys) = map key keys ≢ table
IsNotOf table (insert first value) = strip table (without_last first) ≡ None
IsNotOf table e = ⊤

-- it inserts into the table
abbrev pub IsInto : List Part → Edit → Type 0
IsInto table (insert first value) = without_last first ≡ table
IsInto table e = ⊥

-- An insert into the table comes behind the header `h`, which goes through the table, and behind the lines of the table
-- that came there. Where none came, `h` is the last header through the table: of those later none goes through it. The
-- others leave it alone, and none is of the table or inserts into it or into one below it.
pub record ComesBelow (s : Document) (before : List EndEdit) (h : EndEdit) (own later : List EndEdit)
    (table : List Part) (e : Edit) : Type 0 where
  pub through : GoesThrough table h.edit
  pub into : All (λ t. IsInto table t.seen) own
  pub passes : own ≡ [] → All (λ t. GoesThrough table t.edit → ⊥) later
  pub others : All (λ t. IsNotOf table t.seen) (before ++ h ∷ later)
  pub alone : All (λ t. LeavesAlone t.seen (seen s e)) (before ++ h ∷ own ++ later)
  pub first : BeginWithHeader later

-- what it writes: its header and its line, or its line alone behind others of the table
abbrev pub written_below : Document → Value → List (List ℕ) → List ℕ → List EndEdit → List ℕ
written_below s value keys whole [] = whole
written_below s value keys whole (t ∷ ts) = keyed_text keys value ++ (newline_of s).text

-- It is not refused, and is at the end like the others: behind that header and those lines, and before what came later.
pub record IsMadeBelow (profile : Profile) (limit : ℕ) (s : Document) (upper later : List EndEdit) (t : EndEdit)
    : Type 0 where
  pub allowed : refusal profile limit (document_with s (upper ++ later)) t.edit ≡ None
  pub lawful : IsLawfulEdit profile limit (document_with s (upper ++ later)) t.edit
  pub ends : AreAtEnd profile limit s (upper ++ t ∷ later)
  pub same : edited_document (document_with s (upper ++ later)) t.edit ≡ document_with s (upper ++ t ∷ later)

abbrev pub EndGoesOnBelow : Type 0
EndGoesOnBelow =
    (profile : Profile) (limit : ℕ) (s : Document) (before : List EndEdit) (h : EndEdit) (own later : List EndEdit)
    (path : List Part) (value : Value) (c : TextChange)
    → IsEditable profile limit s → AreAtEnd profile limit s (before ++ h ∷ own ++ later)
    → (k : BringsHeader profile limit s path value c)
    → ComesBelow s before h own later (holder path (mentions_in s)) (insert path value)
    → (line : Option (List ℕ)) → EndsLeave line s (before ++ h ∷ own ++ later) → LeavesFirstAtEnd line c.new
    → IsMadeBelow profile limit s (before ++ h ∷ own) later
    (record {
      edit = insert path value;
      seen = seen s (insert path value);
      new = written_below s value (k.text ∷ k.more) c.new own;
    })
