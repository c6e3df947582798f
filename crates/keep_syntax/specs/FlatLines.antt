-- What reading lines and whole texts adds to what is stored.
use Rattle.std.specs.Prelude.{◌≡◌, ℕ, List, [], ◌∷◌, ◌++◌, length, drop, Option, Some, None, Result, Ok, Err}
use Rattle.std.specs.List.{flat_map}
use Rattle.keep_types.specs.declared.leaf.Leaf.{Leaf}
use Rattle.keep_types.specs.declared.leaf.Leaf.TheVariants as leaf
use Rattle.keep_types.specs.declared.leaf.Profile.{Profile}
use Rattle.keep_token.specs.Scanning.{gap_at}
use Rattle.keep_syntax.specs.declared.fault.ReadFault.{ReadFault}
use Rattle.keep_types.specs.declared.syntax.Owner.TheVariants as owner
use Rattle.keep_types.specs.declared.syntax.Start.{Start}
use Rattle.keep_types.specs.declared.syntax.Statement.{Statement}
use Rattle.keep_types.specs.declared.syntax.StatementKind.TheVariants.{KeyVal, Header, Element}
use Rattle.keep_syntax.specs.declared.line.Head.{Head}
use Rattle.keep_syntax_store.specs.declared.parts.Parts.{Parts}
use Rattle.keep_syntax.specs.Tree.{Written, Content, blank, keyval, header, element, Value, Line, Ended, Document}
use Rattle.keep_syntax.specs.Tree.{content_leaves, comment_leaves, line_leaves, ended_leaves, bom_leaves}
use Rattle.keep_syntax_store.specs.Rereading.{count_at}
pub use Rattle.keep_syntax_store.specs.Rereading.{with_statements}
use Rattle.keep_syntax.specs.WholeLines.{line_starts, starts_of}
use Rattle.keep_syntax.specs.Numbered.{span, key_count, content_parts, content_values, Count, line_parts, line_values}
use Rattle.keep_syntax.specs.Numbered.{line_statements, over_lines, statements, parts, values}
use Rattle.keep_syntax.specs.Reading.{Bad, Read, written, content_at, comment_at, line_at, Lines, lines_of, has_bom}
use Rattle.keep_syntax.specs.Reading.{after_line, ended_at, after_bom, read_document, read_one_value}
use Rattle.keep_syntax_store.specs.Flat.{Flat, flat, empty}
use Rattle.keep_syntax.specs.Growth.{add_at, Taken, only, Grows, Fails, PartIs, PartRead, value_taken}

-- ---- the content of a line

-- its statement but for the places: kind, number of key parts, and value number
abbrev pub content_head : Start → Content → Option Head
content_head p blank = None
content_head p (keyval name value) = Some (record { kind = KeyVal; keys = key_count name.key; value = Some p.values })
content_head p (header before key after) = Some (record { kind = Header; keys = key_count key; value = None })
content_head p (element before key after) = Some (record { kind = Element; keys = key_count key; value = None })

abbrev pub content_taken : Start → Content → Taken
content_taken p c =
    record { leaves = content_leaves c; statements = []; keys = content_parts p.at c; values = content_values p c }

-- a content that is not blank
pub record ContentIs (profile : Profile) (depth_left : ℕ) (text : List ℕ) (p : Start) (old new : Flat) (end : ℕ)
    (head : Head)
    : Type 0 where
  pub read : PartIs text p.at 1 (content_at profile depth_left (drop p.at text)) (content_taken p) old new end
  pub stated : content_head p read.part ≡ Some head

abbrev pub ContentRead : Profile → ℕ → List ℕ → Start → Flat → Flat → Result (ℕ × Head) ReadFault → Type 0
ContentRead profile depth_left text p old new (Ok r) = ContentIs profile depth_left text p old new r.0 r.1
ContentRead profile depth_left text p old new (Err e) = Fails text e (content_at profile depth_left (drop p.at text))

-- ---- lines

abbrev pub CommentRead : List ℕ → ℕ → Flat → Flat → Result ℕ ReadFault → Type 0
CommentRead text at old new r =
    PartRead text at 0 (Ok (comment_at (drop at text))) (λ w. only (comment_leaves w)) old new r

abbrev pub line_taken : Count → Line → Taken
line_taken c l = record { leaves = line_leaves l; statements = []; keys = line_parts c l; values = line_values c l }

abbrev pub statement_list : Option Statement → List Statement
statement_list None = []
statement_list (Some s) = s ∷ []

-- a line without its newline, and its statement as if the line ended there
pub record LineIs (profile : Profile) (depth_left : ℕ) (text : List ℕ) (at : ℕ) (old new : Flat) (end : ℕ)
    (s : Option Statement) : Type 0 where
  pub read : PartIs text at 0 (line_at profile depth_left (drop at text)) (line_taken (count_at at old)) old new end
  pub stated : statement_list s ≡ line_statements (count_at at old) read.part end

abbrev pub newline_by : List ℕ → Option (Leaf × ℕ) → Read Written
newline_by text (Some (leaf.Newline, n)) = Ok (written leaf.Newline n text, drop n text)
newline_by text _ = Err Bad

abbrev pub NewlineRead : List ℕ → ℕ → Flat → Flat → Result ℕ ReadFault → Type 0
NewlineRead text at old new r =
    PartRead text at 1 (newline_by (drop at text) (gap_at (drop at text))) (λ w. only (w ∷ [])) old new r

-- a newline, or the end of the text, and where the next line begins, if one does
abbrev pub NewlineOrEndRead : List ℕ → ℕ → Flat → Flat → Result (Option ℕ) ReadFault → Type 0
NewlineOrEndRead text at old new (Ok (Some next)) = NewlineRead text at old new (Ok next)
NewlineOrEndRead text at old new (Ok None) = (at ≡ length text) × (new ≡ old)
NewlineOrEndRead text at old new (Err e) = (at ≡ length text → ⊥) × NewlineRead text at old new (Err e)

-- a comment, if there is one, and the newline after it
pub record EndIs (text : List ℕ) (at : ℕ) (old new : Flat) (next : ℕ) : Type 0 where
  pub close : ℕ
  pub mid : Flat
  pub comment : CommentRead text at old mid (Ok close)
  pub newline : NewlineRead text close mid new (Ok next)

-- what ends a line, and where the next one begins, if one does
abbrev pub EndRead : List ℕ → ℕ → Flat → Flat → Result (Option ℕ) ReadFault → Type 0
EndRead text at old new (Ok (Some next)) = EndIs text at old new next
EndRead text at old new (Ok None) = CommentRead text at old new (Ok (length text))
EndRead text at old new (Err e) =
    (prefix : List Ended) (l : Line) → Fails text e (after_line prefix l (comment_at (drop at text)).1)

-- a line's statement, now that the line's end is known
abbrev pub ended_list : ℕ → Option Statement → List Statement
ended_list end None = []
ended_list end (Some s) = record s { line = span s.line.start end } ∷ []

-- a line and its newline, and its statement
pub record EndedIs (profile : Profile) (depth_left : ℕ) (text : List ℕ) (at : ℕ) (old new : Flat) (next : ℕ)
    : Type 0 where
  pub close : ℕ
  pub statement : Option Statement
  pub mid : Flat
  pub ended : Flat
  pub line : LineIs profile depth_left text at old mid close statement
  pub newline : NewlineRead text close mid ended (Ok next)
  pub stored : new ≡ with_statements (ended_list next statement) ended

-- the last line, and its statement
pub record LastIs (profile : Profile) (depth_left : ℕ) (text : List ℕ) (at : ℕ) (old new : Flat) : Type 0 where
  pub statement : Option Statement
  pub mid : Flat
  pub line : LineIs profile depth_left text at old mid (length text) statement
  pub stored : new ≡ with_statements (ended_list (length text) statement) mid

-- a line, and where the next one begins, if one does
abbrev pub LineRead : Profile → ℕ → List ℕ → ℕ → Flat → Flat → Result (Option ℕ) ReadFault → Type 0
LineRead profile depth_left text at old new (Ok (Some next)) = EndedIs profile depth_left text at old new next
LineRead profile depth_left text at old new (Ok None) = LastIs profile depth_left text at old new
LineRead profile depth_left text at old new (Err e) =
    (prefix : List Ended) → Fails text e (ended_at profile depth_left prefix (drop at text))

abbrev pub lines_taken : Count → Lines → Taken
lines_taken c ls = record {
  leaves = flat_map ended_leaves ls.0 ++ line_leaves ls.1;
  statements = over_lines line_statements c ls.0 ls.1;
  keys = over_lines (λ c l line_end. line_parts c l) c ls.0 ls.1;
  values = over_lines (λ c l line_end. line_values c l) c ls.0 ls.1;
}

-- All lines from a place on, up to the end of the text, were read, and the places where they begin are stored.
pub record LinesAre (profile : Profile) (depth_left : ℕ) (text : List ℕ) (at : ℕ) (old new : Flat)
    (before after : List ℕ)
    : Type 0 where
  pub read : PartIs text at 0 (lines_of profile depth_left [] (drop at text)) (lines_taken (count_at at old)) old new
      (length text)
  pub starts : after ≡ before ++ line_starts at read.part.0

abbrev pub LinesRead : {A : Type 0} → Profile → ℕ → List ℕ → ℕ → Flat → Flat → List ℕ → List ℕ → Result A ReadFault
    → Type 0
LinesRead profile depth_left text at old new before after (Ok r) =
    LinesAre profile depth_left text at old new before after
LinesRead profile depth_left text at old new before after (Err e) =
    Fails text e (lines_of profile depth_left [] (drop at text))

-- ---- whole texts

-- a byte order mark, if there is one
abbrev pub BomRead : List ℕ → Flat → Flat → Result ℕ ReadFault → Type 0
BomRead text old new r =
    PartRead text 0 0 (Ok (has_bom text, after_bom (has_bom text) text)) (λ b. only (bom_leaves b)) old new r

-- a document's tokens but End, and its statements, key parts and values
abbrev pub document_taken : Document → Taken
document_taken d = record {
  leaves = bom_leaves d.bom ++ (flat_map ended_leaves d.ended ++ line_leaves d.last);
  statements = statements d;
  keys = parts d;
  values = values d;
}

-- all that is stored of it
abbrev pub flat_of : Document → Flat
flat_of d = add_at empty 0 (document_taken d)

-- A document was read: what is stored of it, and where its lines begin.
pub record DocumentIs (profile : Profile) (limit : ℕ) (text : List ℕ) (new : Flat) (starts : List ℕ) : Type 0 where
  pub document : Document
  pub is_read : read_document profile limit text ≡ Ok document
  pub grows : Grows text empty new 0 (length text) (document_taken document)
  pub lines : starts ≡ starts_of document

abbrev pub DocumentRead : Profile → ℕ → List ℕ → Result (Parts × List ℕ) ReadFault → Type 0
DocumentRead profile limit text (Ok made) = DocumentIs profile limit text (flat made.0) made.1
DocumentRead profile limit text (Err e) = Fails text e (read_document profile limit text)

-- where a value alone begins
abbrev pub alone : Start
alone = record { at = 0; values = 0; parts = 0; owner = owner.Line 0; depth = 0; comma = None }

pub record OneIs (profile : Profile) (limit : ℕ) (text : List ℕ) (new : Flat) : Type 0 where
  pub value : Value
  pub is_read : read_one_value profile limit text ≡ Ok value
  pub grows : Grows text empty new 0 (length text) (value_taken alone 0 0 value)

abbrev pub OneRead : Profile → ℕ → List ℕ → Result Parts ReadFault → Type 0
OneRead profile limit text (Ok made) = OneIs profile limit text (flat made)
OneRead profile limit text (Err e) = Fails text e (read_one_value profile limit text)
