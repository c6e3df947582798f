-- The numbers of what is said, by what comes before it: statements, values and key parts.
use Rattle.std.specs.Prelude.{ℕ, ◌+◌, Bool, true, false, List, [], ◌∷◌, ◌++◌, fold}
use Rattle.std.specs.List.{filter_map}
use Rattle.keep_syntax.specs.Tree.{Line, Document}
use Rattle.keep_meaning.specs.Marks.{MentionKind, value, begun, passed, item, Mention, Statement, Reading}
use Rattle.keep_meaning.specs.Marks.{statement_mentions, next_reading, start}
use Rattle.keep_meaning.specs.Meaning.{statement_of, lines}
use Rattle.std.specs.Prelude.{Option}

-- how many of each come before
pub record Count : Type 0 where
  pub statements : ℕ
  pub values : ℕ
  pub keys : ℕ

-- A mention, with what comes before it. So the three numbers are those of its statement, of the value that it states
-- (for a keyval on its way the keyval's value), and of the key part that makes it.
pub record Numbered : Type 0 where
  pub mention : Mention
  pub before : Count

-- said by the value's own text: a keyval's value or an item
abbrev pub is_value : MentionKind → Bool
is_value (value fact) = true
is_value (item fact) = true
is_value _ = false

-- said by a key part
abbrev pub is_mark : MentionKind → Bool
is_mark begun = false
is_mark passed = false
is_mark (item fact) = false
is_mark _ = true

abbrev pub one_if : Bool → ℕ
one_if true = 1
one_if false = 0

-- after a mention, in the same statement
abbrev pub count_with_mention : Count → Mention → Count
count_with_mention c m =
    record c { values = c.values + one_if (is_value m.kind); keys = c.keys + one_if (is_mark m.kind) }

-- the mentions of one statement, or of one value, with their numbers
abbrev pub numbered_mentions : Count → List Mention → List Numbered
numbered_mentions c [] = []
numbered_mentions c (m ∷ ms) = record { mention = m; before = c } ∷ numbered_mentions (count_with_mention c m) ms

-- after them
abbrev pub count_after : Count → List Mention → Count
count_after c ms = fold count_with_mention c ms

-- after a statement with these mentions
abbrev pub next_count : Count → List Mention → Count
next_count c ms = let d = count_after c ms in record d { statements = d.statements + 1 }

abbrev pub no_count : Count
no_count = record { statements = 0; values = 0; keys = 0 }

-- statement by statement
abbrev pub numbered_from : Count → Reading → List Statement → List Numbered
numbered_from c r [] = []
numbered_from c r (s ∷ ss) =
    numbered_mentions c (statement_mentions r s)
    ++ numbered_from (next_count c (statement_mentions r s)) (next_reading r s) ss

-- after statements
abbrev pub count_from : Count → Reading → List Statement → Count
count_from c r [] = c
count_from c r (s ∷ ss) = count_from (next_count c (statement_mentions r s)) (next_reading r s) ss

-- the statements of a document, in the order of the text
abbrev pub line_statement : Line → Option Statement
line_statement l = statement_of l.content

abbrev pub statements_in : Document → List Statement
statements_in s = filter_map line_statement (lines s)

-- all that a document says, with its numbers
abbrev pub numbered_in : Document → List Numbered
numbered_in s = numbered_from no_count start (statements_in s)
