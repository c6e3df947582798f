-- Edits of small documents, from text to text, computed.
--
-- A row has the text of a document, an edit, and the text that is wanted with the place of the change; or the fault
-- that is wanted (`Row`). `computed` reads the text and applies the definitions to the document; `stated` is what the
-- row says. That they are equal is computed for each group of rows (`AllHold`), so there is no induction and no lemma.
-- Each edit has groups of its own, for what it does and for what it refuses.
--
-- Each group of rows is a theorem of its own.
use Rattle.std.proofs.Common.{◌≡◌, ℕ, List, [], ◌∷◌, ◌++◌, length, map, refl, Option, Some, None}
use Rattle.std.specs.Prelude.{codes, Result, Ok, Err}
use Rattle.keep_types.specs.declared.leaf.Profile.{Profile}
use Rattle.keep_types.specs.declared.leaf.Profile.TheVariants.{Strict, Wide}
use Rattle.keep_types.specs.declared.leaf.Leaf.TheVariants as leaf
use Rattle.keep_token.specs.Scanning.{gap_at, key_at, scalar_at}
use Rattle.keep_token.specs.Words.{word_leaf}
use Rattle.keep_syntax.specs.declared.fault.Why.{Why}
use Rattle.keep_syntax.specs.declared.fault.Why.TheVariants as why
use Rattle.keep_syntax.specs.Limit.{standard_depth}
use Rattle.keep_syntax.specs.Tree.{scalar, none, Value, Document, text}
use Rattle.keep_syntax.specs.Reading.{Fault, repeat, space_at, blank_from, further_at, key_of, name_of, item_by}
use Rattle.keep_syntax.specs.Reading.{entry_by, value_of, content_at, comment_at, line_at, ended_at, read_document}
use Rattle.keep_syntax.specs.Reading.{read_one_value}
use Rattle.keep_path.specs.Path.{Part, key, index}
use Rattle.keep_meaning.specs.Fact.{Fact}
use Rattle.keep_meaning.specs.Marks.{Mention, marks}
use Rattle.keep_meaning.specs.Meaning.{mentions_in}
use Rattle.keep_meaning.specs.Nodes.{fact_at}
use Rattle.keep_edit_spec.specs.declared.fault.EditFault.{EditFault}
use Rattle.keep_edit_spec.specs.declared.fault.EditFault.TheVariants as fault
use Rattle.keep_edit_spec.specs.Changed.{Place, put}
use Rattle.keep_edit_spec.specs.Edits.{Edit, set, insert, rename, remove, append_table, append_element, edited_document}
use Rattle.keep_edit_spec.specs.Edits.{place}
use Rattle.keep_edit_spec.specs.Refusals.{refusal, first_conflict}
use Rattle.keep_edit_spec.specs.Trees.{source, fact_from, new_mentions}

-- the value that a text is read as
abbrev or_zero : Result Value Fault → Value
or_zero (Ok v) = v
or_zero (Err f) = record { body = scalar (record { leaf = leaf.Integer; text = codes "0" }); nested = none }

abbrev pub value : List ℕ → Value
value text = or_zero (read_one_value Wide standard_depth text)

-- the paths that either document speaks of, and what is there
abbrev asked : Document → Document → List (List Part)
asked s s' = [] ∷ map (λ m. m.path) (mentions_in s) ++ map (λ m. m.path) (mentions_in s')

abbrev facts : List (List Part) → List Mention → List (Option Fact)
facts qs ms = map (λ q. fact_at q ms) qs

abbrev facts_from : List (List Part) → List Mention → Edit → List (Option Fact)
facts_from qs ms e = map (λ q. fact_from ms (new_mentions e) (source ms e q)) qs

-- what comes of an edit
pub record Outcome : Type 0 where
  pub refused : Option EditFault
  pub conflict : Option Why
  pub facts : List (Option Fact)
  pub text : List ℕ
  pub start : ℕ
  pub end : ℕ
  pub added : ℕ
  pub read_again : Result Document Fault

abbrev outcome : Profile → Document → Edit → List ℕ → Outcome
outcome profile s e new =
    let s' : Document = edited_document s e in
    let p : Place = place s e in
    record {
      refused = refusal profile standard_depth s e;
      conflict = first_conflict [] (marks (mentions_in s'));
      facts = facts (asked s s') (mentions_in s');
      text = put (text s) p;
      start = p.start;
      end = p.end;
      added = length p.new;
      read_again = read_document profile standard_depth new;
    }

-- Nothing is refused, the rules hold, the facts come from where they are said to come from, start..end of the old text
-- gives way to so many bytes, and reading the new text gives the new document.
abbrev wanted : Document → Edit → List ℕ → ℕ → ℕ → ℕ → Outcome
wanted s e new start end added =
    let s' : Document = edited_document s e in
    record {
      refused = None;
      conflict = None;
      facts = facts_from (asked s s') (mentions_in s) e;
      text = new;
      start = start;
      end = end;
      added = added;
      read_again = Ok s';
    }

-- a row: the document's text, the edit, and the new text with the place; or the refusal, in TOML v1.0.0 and under a
-- limit of depth
pub data Row : Type 0 where
  goes : (profile : Profile) (old : List ℕ) (e : Edit) (new : List ℕ) (start end added : ℕ) → Row
  refuses : (limit : ℕ) (old : List ℕ) (e : Edit) (f : EditFault) → Row

pub data RowOutcome : Type 0 where
  made : Outcome → RowOutcome
  refused : Option EditFault → RowOutcome
  unread : RowOutcome

-- of the document that was read
abbrev of : (Document → RowOutcome) → RowOutcome → Result Document Fault → RowOutcome
of f other (Ok s) = f s
of f other (Err e) = other

-- what the definitions tell of a row, and what they should
abbrev computed : Row → RowOutcome
computed (goes profile old e new start end added) =
    of (λ s. made (outcome profile s e new)) unread (read_document profile standard_depth old)
computed (refuses limit old e f) =
    of (λ s. refused (refusal Strict limit s e)) unread (read_document Strict standard_depth old)

abbrev stated : Row → RowOutcome
stated (goes profile old e new start end added) =
    of (λ s. made (wanted s e new start end added)) (refused None) (read_document profile standard_depth old)
stated (refuses limit old e f) = refused (Some f)

abbrev AllHold : List Row → Type 0
AllHold rows = map computed rows ≡ map stated rows

-- ---- set

set_rows : AllHold (
    -- set value
    goes Strict (codes "a = 1 # x\n") (set (key (codes "a") ∷ []) (value (codes "2"))) (codes "a = 2 # x\n") 4 5 1
    -- set table
    ∷ refuses standard_depth (codes "[t]\n") (set (key (codes "t") ∷ []) (value (codes "1"))) fault.NotValue
    -- set in braces in an array
    ∷ goes Strict (codes "a = [\"x\", {b = 1}]\n")
    (set (key (codes "a") ∷ index 1 ∷ key (codes "b") ∷ []) (value (codes "[2, 3]")))
    (codes "a = [\"x\", {b = [2, 3]}]\n") 15 16 6
    -- set unknown
    ∷ refuses standard_depth (codes "a = 1\n") (set (key (codes "b") ∷ []) (value (codes "2"))) fault.NotFound
    -- set root
    ∷ refuses standard_depth (codes "a = 1\n") (set [] (value (codes "2"))) fault.NotValue
    -- set dotted table
    ∷ refuses standard_depth (codes "a.b = 1\n") (set (key (codes "a") ∷ []) (value (codes "2"))) fault.NotValue
    -- set array
    ∷ goes Strict (codes "a = [1, 2] # x\n") (set (key (codes "a") ∷ []) (value (codes "{}"))) (codes "a = {} # x\n") 4
    10 2
    -- set too deep
    ∷ refuses 1 (codes "a = 1\n") (set (key (codes "a") ∷ []) (value (codes "[[1]]"))) fault.TooDeep
    -- set wide value
    ∷ refuses standard_depth (codes "a = 1\n") (set (key (codes "a") ∷ []) (value (codes "\"\\e\""))) fault.Profile
    -- set wide value unknown
    ∷ refuses standard_depth (codes "a = 1\n") (set (key (codes "q") ∷ []) (value (codes "\"\\e\""))) fault.NotFound
    -- set wide value too deep
    ∷ refuses 1 (codes "a = 1\n") (set (key (codes "a") ∷ []) (value (codes "[[07:32]]"))) fault.TooDeep
    -- set wide value in wide
    ∷ goes Wide (codes "a = 1\n") (set (key (codes "a") ∷ []) (value (codes "\"\\e\""))) (codes "a = \"\\e\"\n") 4 5 4
    -- set escape of both
    ∷ goes Strict (codes "a = 1\n") (set (key (codes "a") ∷ []) (value (codes "\"\\u001b\"")))
    (codes "a = \"\\u001b\"\n") 4 5 8
    ∷ [])
unfolding repeat space_at blank_from further_at key_of name_of item_by entry_by value_of content_at comment_at line_at
    ended_at read_document read_one_value gap_at key_at scalar_at word_leaf
set_rows = refl

-- ---- insert, as lines of the document

insert_lines : AllHold (
    -- insert section
    goes Strict (codes "x = 1\r\n[a.b]") (insert (key (codes "a") ∷ key (codes "c") ∷ []) (value (codes "1")))
    (codes "x = 1\r\n[a.b]\r\n\r\n[a]\r\nc = 1\r\n") 12 12 16
    -- insert after bom
    ∷ goes Strict (0xEF ∷ 0xBB ∷ 0xBF ∷ codes "[t]\n") (insert (key (codes "k") ∷ []) (value (codes "true")))
    (0xEF ∷ 0xBB ∷ 0xBF ∷ codes "k = true\n[t]\n") 3 3 9
    -- insert dotted line
    ∷ goes Strict (codes "p.q = 1\nz = 2\n") (insert (key (codes "p") ∷ key (codes "r") ∷ []) (value (codes "3")))
    (codes "p.q = 1\np.r = 3\nz = 2\n") 8 8 8
    -- insert after last
    ∷ goes Strict (codes "a = 1") (insert (key (codes "b") ∷ []) (value (codes "-2"))) (codes "a = 1\nb = -2\n") 5 5 8
    -- insert with the first newline, in an array
    ∷ goes Strict (codes "a = [\r\n1]\nb = 2") (insert (key (codes "c") ∷ []) (value (codes "3")))
    (codes "a = [\r\n1]\nb = 2\r\nc = 3\r\n") 15 15 9
    -- insert long key
    ∷ goes Strict (codes "[t]") (insert (key (codes "t") ∷ key (codes "u") ∷ key (codes "v") ∷ []) (value (codes "1")))
    (codes "[t]\nu.v = 1\n") 3 3 9
    -- insert in element
    ∷ goes Strict (codes "[[a]]\n[[a]]\n")
    (insert (key (codes "a") ∷ index 0 ∷ key (codes "k") ∷ []) (value (codes "1"))) (codes "[[a]]\nk = 1\n[[a]]\n") 6 6
    6
    -- insert section in element
    ∷ goes Strict (codes "[[a]]\n[a.s]\nx.y = 1\n[[a]]\nz = [1, 2]\n[a.s.t.u]\n")
    (insert (key (codes "a") ∷ index 1 ∷ key (codes "s") ∷ key (codes "k") ∷ key (codes "l") ∷ [])
    (value (codes "{p = 1}"))) (codes "[[a]]\n[a.s]\nx.y = 1\n[[a]]\nz = [1, 2]\n[a.s.t.u]\n\n[a.s]\nk.l = {p = 1}\n")
    47 47 21
    -- insert before comments
    ∷ goes Strict (codes "# c\n\n[t]\n") (insert (key (codes "k") ∷ []) (value (codes "1")))
    (codes "k = 1\n# c\n\n[t]\n") 0 0 6
    ∷ [])
unfolding repeat space_at blank_from further_at key_of name_of item_by entry_by value_of content_at comment_at line_at
    ended_at read_document read_one_value gap_at key_at scalar_at word_leaf
insert_lines = refl

-- ---- insert, inside a value

insert_in_values : AllHold (
    -- insert in braces
    goes Strict (codes "t = { x = 1 }\n")
    (insert (key (codes "t") ∷ key (codes "y") ∷ key (codes "z") ∷ []) (value (codes "2")))
    (codes "t = { x = 1, y.z = 2 }\n") 11 11 9
    -- insert in empty array
    ∷ goes Strict (codes "a = [ ]\n") (insert (key (codes "a") ∷ index 0 ∷ []) (value (codes "1"))) (codes "a = [1 ]\n")
    5 5 1
    -- insert last item
    ∷ goes Strict (codes "a = [1 ]\n") (insert (key (codes "a") ∷ index 1 ∷ []) (value (codes "2")))
    (codes "a = [1, 2 ]\n") 6 6 3
    -- insert first item
    ∷ goes Strict (codes "a = [1, 2 ]\n") (insert (key (codes "a") ∷ index 0 ∷ []) (value (codes "0")))
    (codes "a = [0, 1, 2 ]\n") 5 5 3
    -- insert after dotted
    ∷ goes Strict (codes "t = {p.q = 1, z = 2}")
    (insert (key (codes "t") ∷ key (codes "p") ∷ key (codes "r") ∷ []) (value (codes "3")))
    (codes "t = {p.q = 1, p.r = 3, z = 2}") 12 12 9
    -- wide insert
    ∷ goes Wide (codes "a = {x = 1,\n # c\n}") (insert (key (codes "a") ∷ key (codes "y") ∷ []) (value (codes "2")))
    (codes "a = {x = 1, y = 2,\n # c\n}") 10 10 7
    -- wide insert of wide value
    ∷ goes Wide (codes "a = [1]") (insert (key (codes "a") ∷ index 1 ∷ []) (value (codes "07:32")))
    (codes "a = [1, 07:32]") 6 6 7
    ∷ [])
unfolding repeat space_at blank_from further_at key_of name_of item_by entry_by value_of content_at comment_at line_at
    ended_at read_document read_one_value gap_at key_at scalar_at word_leaf
insert_in_values = refl

-- ---- insert, refused

insert_refused : AllHold (
    -- insert exists
    refuses standard_depth (codes "a = 1\nb = -2\n") (insert (key (codes "b") ∷ []) (value (codes "-2"))) fault.Exists
    -- insert beyond
    ∷ refuses standard_depth (codes "a = [0, 1, 2 ]\n") (insert (key (codes "a") ∷ index 4 ∷ []) (value (codes "9")))
    fault.NotFound
    -- insert root
    ∷ refuses standard_depth (codes "a = 1\n") (insert [] (value (codes "1"))) fault.Exists
    -- insert below value
    ∷ refuses standard_depth (codes "s = 1\n") (insert (key (codes "s") ∷ key (codes "x") ∷ []) (value (codes "1")))
    fault.NotTable
    -- insert item in value
    ∷ refuses standard_depth (codes "s = 1\n") (insert (key (codes "s") ∷ index 0 ∷ []) (value (codes "1")))
    fault.NotFound
    -- insert in no element
    ∷ refuses standard_depth (codes "[[a]]\n[[a]]\n")
    (insert (key (codes "a") ∷ index 2 ∷ key (codes "k") ∷ []) (value (codes "1"))) fault.NotFound
    -- insert in elements
    ∷ refuses standard_depth (codes "[[a]]\n[[a]]\n")
    (insert (key (codes "a") ∷ key (codes "k") ∷ []) (value (codes "1"))) fault.NotTable
    -- insert too deep
    ∷ refuses 1 (codes "a = [1]\n") (insert (key (codes "a") ∷ index 0 ∷ []) (value (codes "[]"))) fault.TooDeep
    -- insert wide value
    ∷ refuses standard_depth (codes "a = 1\n") (insert (key (codes "b") ∷ []) (value (codes "{x = 1,}"))) fault.Profile
    -- insert wide item
    ∷ refuses standard_depth (codes "a = [1]\n") (insert (key (codes "a") ∷ index 1 ∷ []) (value (codes "07:32")))
    fault.Profile
    -- insert wide value below value
    ∷ refuses standard_depth (codes "s = 1\n") (insert (key (codes "s") ∷ key (codes "x") ∷ []) (value (codes "07:32")))
    fault.NotTable
    ∷ [])
unfolding repeat space_at blank_from further_at key_of name_of item_by entry_by value_of content_at comment_at line_at
    ended_at read_document read_one_value gap_at key_at scalar_at word_leaf
insert_refused = refl

-- ---- rename

rename_rows : AllHold (
    -- rename scattered
    refuses standard_depth (codes "[a]\n[a.b]\n") (rename (key (codes "a") ∷ []) (codes "z")) fault.Scattered
    -- rename passed
    ∷ refuses standard_depth (codes "[[a]]\n[a.s]\n") (rename (key (codes "a") ∷ []) (codes "z")) fault.Scattered
    -- rename quoted
    ∷ goes Strict (codes "\"a b\" = 1\n") (rename (key (codes "a b") ∷ []) (codes "c")) (codes "c = 1\n") 0 5 1
    -- rename exists
    ∷ refuses standard_depth (codes "a = 1\nb = 2\n") (rename (key (codes "a") ∷ []) (codes "b")) fault.Exists
    -- rename root
    ∷ refuses standard_depth (codes "a = 1\n") (rename [] (codes "x")) fault.NotKey
    -- rename header
    ∷ goes Strict (codes "[t]\nk = 1\n") (rename (key (codes "t") ∷ []) (codes "x y")) (codes "[\"x y\"]\nk = 1\n") 1 2
    5
    -- rename last key
    ∷ goes Strict (codes "a.b.c = 1 # x\n[d]\na.b = 2\n")
    (rename (key (codes "a") ∷ key (codes "b") ∷ key (codes "c") ∷ []) (codes "q.r"))
    (codes "a.b.\"q.r\" = 1 # x\n[d]\na.b = 2\n") 4 5 5
    -- rename item
    ∷ refuses standard_depth (codes "a = [1]\n") (rename (key (codes "a") ∷ index 0 ∷ []) (codes "x")) fault.NotKey
    -- rename unknown
    ∷ refuses standard_depth (codes "a = 1\n") (rename (key (codes "b") ∷ []) (codes "x")) fault.NotFound
    ∷ [])
unfolding repeat space_at blank_from further_at key_of name_of item_by entry_by value_of content_at comment_at line_at
    ended_at read_document read_one_value gap_at key_at scalar_at word_leaf
rename_rows = refl

-- ---- remove, inside a value

remove_in_values : AllHold (
    -- remove last item
    goes Strict (codes "a = [1, # one\n 2]\n") (remove (key (codes "a") ∷ index 1 ∷ [])) (codes "a = [1 # one\n ]\n") 6
    16 8
    -- remove first in braces
    ∷ goes Strict (codes "t = { x = 1, y.z = 2 }\n") (remove (key (codes "t") ∷ key (codes "x") ∷ []))
    (codes "t = { y.z = 2 }\n") 6 13 0
    -- remove before last comma
    ∷ goes Strict (codes "  # c\nb = [1, 2,]\n") (remove (key (codes "b") ∷ index 1 ∷ [])) (codes "  # c\nb = [1, ]\n")
    14 16 0
    -- remove last in braces
    ∷ goes Strict (codes "t = {x = 1, y = 2}") (remove (key (codes "t") ∷ key (codes "y") ∷ [])) (codes "t = {x = 1}")
    10 17 0
    -- remove only in braces
    ∷ goes Strict (codes "t = {x = 1}") (remove (key (codes "t") ∷ key (codes "x") ∷ [])) (codes "t = {}") 5 10 0
    -- wide remove last
    ∷ goes Wide (codes "a = {x = 1, y = 2,\n # c\n}") (remove (key (codes "a") ∷ key (codes "y") ∷ []))
    (codes "a = {x = 1, \n # c\n}") 12 18 0
    -- wide remove first
    ∷ goes Wide (codes "a = {x = 1,\n # c\n}") (remove (key (codes "a") ∷ key (codes "x") ∷ []))
    (codes "a = {\n # c\n}") 5 11 0
    -- wide remove only
    ∷ goes Wide (codes "a = {x = 1 # c\n,}") (remove (key (codes "a") ∷ key (codes "x") ∷ [])) (codes "a = { # c\n}") 5
    16 5
    -- remove with gap comment
    ∷ goes Strict (codes "a = [1, 2 # c\n, 3]") (remove (key (codes "a") ∷ index 1 ∷ [])) (codes "a = [1,  # c\n3]") 8
    16 5
    -- remove where gaps meet
    ∷ goes Strict (codes "a = [1 , 2 ]") (remove (key (codes "a") ∷ index 1 ∷ [])) (codes "a = [1  ]") 7 10 0
    ∷ [])
unfolding repeat space_at blank_from further_at key_of name_of item_by entry_by value_of content_at comment_at line_at
    ended_at read_document read_one_value gap_at key_at scalar_at word_leaf
remove_in_values = refl

-- ---- remove, of lines

remove_lines : AllHold (
    -- remove element
    goes Strict (codes "[[a]]\nn = 1\n[[a]]\nn = 2\n") (remove (key (codes "a") ∷ index 0 ∷ []))
    (codes "[[a]]\nn = 2\n") 0 12 0
    -- remove before comment
    ∷ goes Strict (codes "  a = 1 # c\nb = [1, 2,]\n") (remove (key (codes "a") ∷ [])) (codes "  # c\nb = [1, 2,]\n") 2
    8 0
    -- remove last line
    ∷ goes Strict (codes "  # c\nb = [1, ]\n") (remove (key (codes "b") ∷ [])) (codes "  # c\n") 6 16 0
    -- remove table
    ∷ goes Strict (codes "[t]\nk = 1\n\n[u]\n") (remove (key (codes "t") ∷ [])) (codes "\n[u]\n") 0 10 0
    -- remove with comment
    ∷ goes Strict (codes "a = 1 # c\n") (remove (key (codes "a") ∷ [])) (codes "# c\n") 0 6 0
    -- remove first element
    ∷ goes Strict (codes "[[a]]\nx = 1\n[[a]]\n[a.s]\ny.z = 2\n") (remove (key (codes "a") ∷ index 0 ∷ []))
    (codes "[[a]]\n[a.s]\ny.z = 2\n") 0 12 0
    -- remove table before comment
    ∷ goes Strict (codes "[t]\na.b = 1\n\n# end\n[u]\n") (remove (key (codes "t") ∷ [])) (codes "\n# end\n[u]\n") 0 12 0
    -- remove last line without newline
    ∷ goes Strict (codes "a = 1\nb = 2") (remove (key (codes "b") ∷ [])) (codes "a = 1\n") 6 11 0
    ∷ [])
unfolding repeat space_at blank_from further_at key_of name_of item_by entry_by value_of content_at comment_at line_at
    ended_at read_document read_one_value gap_at key_at scalar_at word_leaf
remove_lines = refl

-- ---- remove, refused

remove_refused : AllHold (
    -- remove passed element
    refuses standard_depth (codes "[[a]]\nn = 1\n[a.s]\n[[a]]\nn = 2\n") (remove (key (codes "a") ∷ index 0 ∷ []))
    fault.Scattered
    -- remove elements
    ∷ refuses standard_depth (codes "[[a]]\nn = 1\n[[a]]\nn = 2\n") (remove (key (codes "a") ∷ [])) fault.Scattered
    -- remove root
    ∷ refuses standard_depth (codes "a = 1\n") (remove []) fault.NotKey
    -- remove unknown
    ∷ refuses standard_depth (codes "a = 1\n") (remove (key (codes "b") ∷ [])) fault.NotFound
    ∷ [])
unfolding repeat space_at blank_from further_at key_of name_of item_by entry_by value_of content_at comment_at line_at
    ended_at read_document read_one_value gap_at key_at scalar_at word_leaf
remove_refused = refl

-- ---- append

append_rows : AllHold (
    -- append to empty
    goes Strict [] (append_table ((codes "t") ∷ [])) (codes "[t]\n") 0 0 4
    -- append quoted
    ∷ goes Strict (codes "[t]\n") (append_element ((codes "a") ∷ (codes "b c") ∷ [])) (codes "[t]\n\n[[a.\"b c\"]]\n") 4
    4 13
    -- append conflict
    ∷ refuses standard_depth (codes "[t]\n\n[[a.\"b c\"]]\n") (append_table ((codes "t") ∷ []))
    (fault.Conflict why.DefinedTwice)
    -- append no keys
    ∷ refuses standard_depth (codes "[t]\n") (append_table []) fault.NotKey
    -- append after white space
    ∷ goes Strict (codes "a = 1\n  ") (append_table ((codes "t") ∷ [])) (codes "a = 1\n  \n\n[t]\n") 8 8 6
    ∷ [])
unfolding repeat space_at blank_from further_at key_of name_of item_by entry_by value_of content_at comment_at line_at
    ended_at read_document read_one_value gap_at key_at scalar_at word_leaf
append_rows = refl
