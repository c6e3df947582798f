-- The lines that edits of small documents touch, computed: reading the new ones alone gives the new document.
--
-- Each group of rows is a theorem of its own.
use Rattle.std.proofs.Common.{◌≡◌, ℕ, List, [], ◌∷◌, map, refl}
use Rattle.std.specs.Prelude.{codes, slice_range, Result, Ok, Err}
use Rattle.keep_types.specs.declared.leaf.Profile.{Profile}
use Rattle.keep_types.specs.declared.leaf.Profile.TheVariants.{Strict, Wide}
use Rattle.keep_token.specs.Scanning.{gap_at, key_at, scalar_at}
use Rattle.keep_token.specs.Words.{word_leaf}
use Rattle.keep_types.specs.declared.syntax.Span.{Span}
use Rattle.keep_syntax.specs.Limit.{standard_depth}
use Rattle.keep_syntax.specs.Tree.{Document, text}
use Rattle.keep_syntax.specs.Numbered.{span}
use Rattle.keep_syntax.specs.Reading.{Fault, repeat, space_at, blank_from, further_at, key_of, name_of, item_by}
use Rattle.keep_syntax.specs.Reading.{entry_by, value_of, content_at, comment_at, line_at, ended_at, read_document}
use Rattle.keep_syntax.specs.Reading.{read_one_value}
use Rattle.keep_syntax.specs.WholeLines.{replaced}
use Rattle.keep_path.specs.Path.{key, index}
use Rattle.keep_edit_spec.specs.Changed.{Place, put}
use Rattle.keep_edit_spec.specs.Edits.{Edit, set, insert, rename, remove, append_table, append_element, edited_document}
use Rattle.keep_edit_spec.specs.Edits.{place}
use Rattle.keep_edit_spec.specs.TouchedLines.{touched_by, touched_in_new, scanned}
use Rattle.keep_edit_spec.proofs.Rows.{value}

-- the document, the edit, the touched lines in the old text, and how many bytes of the new text replace them
pub record Row : Type 0 where
  pub profile : Profile
  pub old : List ℕ
  pub edit : Edit
  pub from : ℕ
  pub to : ℕ
  pub scanned : ℕ

abbrev row : Profile → List ℕ → Edit → ℕ → ℕ → ℕ → Row
row profile old e from to n = record { profile = profile; old = old; edit = e; from = from; to = to; scanned = n }

-- the touched lines, how many bytes are scanned, and the old document with its touched lines replaced by what those are
-- read as
pub record Outcome : Type 0 where
  pub touched : Span
  pub scanned : ℕ
  pub again : Result Document Fault

abbrev with_lines : Document → Span → Result Document Fault → Result Document Fault
with_lines s whole (Ok m) = Ok (replaced s whole m)
with_lines s whole (Err f) = Err f

abbrev reread : Profile → Document → Edit → Place → Result Document Fault
reread profile s e p =
    let new : Span = touched_in_new s p in
    with_lines s (touched_by s p) (read_document profile standard_depth
    (slice_range (put (text s) p) new.start new.end))

abbrev outcome : Row → Document → Outcome
outcome r s =
    let p : Place = place s r.edit in
    record { touched = touched_by s p; scanned = scanned s p; again = reread r.profile s r.edit p }

abbrev computed : Row → Result Document Fault → Result Outcome Fault
computed r (Ok s) = Ok (outcome r s)
computed r (Err f) = Err f

-- what the row states: the document that is read again is the one that the edit gives
abbrev stated : Row → Result Document Fault → Result Outcome Fault
stated r (Ok s) = Ok (record { touched = span r.from r.to; scanned = r.scanned; again = Ok (edited_document s r.edit) })
stated r (Err f) = Ok (record { touched = span r.from r.to; scanned = r.scanned; again = Err f })

abbrev is_computed : Row → Result Outcome Fault
is_computed r = computed r (read_document r.profile standard_depth r.old)

abbrev is_stated : Row → Result Outcome Fault
is_stated r = stated r (read_document r.profile standard_depth r.old)

abbrev AllHold : List Row → Type 0
AllHold rows = map is_computed rows ≡ map is_stated rows

rows : AllHold (
    -- set value before a comment
    row Strict (codes "a = 1 # x\n") (set (key (codes "a") ∷ []) (value (codes "2"))) 0 10 10
    -- insert section after a header without a newline
    ∷ row Strict (codes "x = 1\r\n[a.b]") (insert (key (codes "a") ∷ key (codes "c") ∷ []) (value (codes "1"))) 7 12 21
    -- insert after the byte order mark
    ∷ row Strict (0xEF ∷ 0xBB ∷ 0xBF ∷ codes "[t]\n") (insert (key (codes "k") ∷ []) (value (codes "true"))) 3 3 9
    -- insert dotted line
    ∷ row Strict (codes "p.q = 1\nz = 2\n") (insert (key (codes "p") ∷ key (codes "r") ∷ []) (value (codes "3"))) 8 8 8
    -- remove element
    ∷ row Strict (codes "[[a]]\nn = 1\n[[a]]\nn = 2\n") (remove (key (codes "a") ∷ index 0 ∷ [])) 0 12 0
    -- insert in braces
    ∷ row Strict (codes "t = { x = 1 }\n")
    (insert (key (codes "t") ∷ key (codes "y") ∷ key (codes "z") ∷ []) (value (codes "2"))) 0 14 23
    -- remove in braces
    ∷ row Strict (codes "t = { x = 1, y.z = 2 }\n") (remove (key (codes "t") ∷ key (codes "x") ∷ [])) 0 23 16
    -- append table to the empty text
    ∷ row Strict [] (append_table ((codes "t") ∷ [])) 0 0 4
    -- append element after the last newline
    ∷ row Strict (codes "[t]\n") (append_element ((codes "a") ∷ (codes "b c") ∷ [])) 4 4 13
    -- remove keyval, its comment stays
    ∷ row Strict (codes "  a = 1 # c\nb = [1, 2,]\n") (remove (key (codes "a") ∷ [])) 0 12 6
    -- remove the one keyval, its comment stays
    ∷ row Strict (codes "a = 1 # c\n") (remove (key (codes "a") ∷ [])) 0 10 4
    -- insert in braces of three lines, Wide
    ∷ row Wide (codes "a = {x = 1,\n # c\n}") (insert (key (codes "a") ∷ key (codes "y") ∷ []) (value (codes "2"))) 0 18
    25
    -- remove in braces of three lines, Wide
    ∷ row Wide (codes "a = {x = 1, y = 2,\n # c\n}") (remove (key (codes "a") ∷ key (codes "y") ∷ [])) 0 25 19
    ∷ [])
unfolding repeat space_at blank_from further_at key_of name_of item_by entry_by value_of content_at comment_at line_at
    ended_at read_document read_one_value gap_at key_at scalar_at word_leaf
rows = refl

-- values of several lines, CRLF with a byte order mark, no last newline, blank lines, the end of the text
edges : AllHold (
    -- set item, after the byte order mark: the lines of the old value and of the new one
    row Strict (0xEF ∷ 0xBB ∷ 0xBF ∷ codes "# c\r\na = [1,\r\n2]\r\nb = 3")
    (set (key (codes "a") ∷ index 1 ∷ []) (value (codes "[4,\n5]"))) 8 21 18
    -- remove keyval between blank lines
    ∷ row Strict (codes "# c\n\na = 1\n\n# d\nb = 2\n") (remove (key (codes "a") ∷ [])) 5 11 0
    -- remove the last line, without a newline
    ∷ row Strict (codes "a = 1\nb = 2") (remove (key (codes "b") ∷ [])) 6 11 0
    -- set in the last line, without a newline
    ∷ row Strict (codes "a = 1\nb = 2") (set (key (codes "b") ∷ []) (value (codes "33"))) 6 11 6
    -- append after a comment without a newline
    ∷ row Strict (codes "a = 1\n# c") (append_table ((codes "t") ∷ [])) 6 9 9
    -- append after blanks without a newline
    ∷ row Strict (codes "a = 1\n  ") (append_table ((codes "t") ∷ [])) 6 8 8
    -- insert after a line without a newline
    ∷ row Strict (codes "a = 1") (insert (key (codes "b") ∷ []) (value (codes "-2"))) 0 5 13
    -- remove table with its body
    ∷ row Strict (codes "[t]\nk = 1\n\n[u]\n") (remove (key (codes "t") ∷ [])) 0 10 0
    -- rename table
    ∷ row Strict (codes "[t]\nk = 1\n\n[u]\n") (rename (key (codes "t") ∷ []) (codes "x y")) 0 4 8
    -- insert at the end of a body, before a blank line
    ∷ row Strict (codes "[t]\nk = 1\n\n# c") (insert (key (codes "t") ∷ key (codes "l") ∷ []) (value (codes "2"))) 10 10
    6
    -- insert before comments
    ∷ row Strict (codes "# c\n\n[t]\n") (insert (key (codes "k") ∷ []) (value (codes "1"))) 0 0 6
    ∷ [])
unfolding repeat space_at blank_from further_at key_of name_of item_by entry_by value_of content_at comment_at line_at
    ended_at read_document read_one_value gap_at key_at scalar_at word_leaf
edges = refl
