-- From a document's tree to its statements: what its keys and scalars mean.
use Rattle.std.specs.Prelude.{ℕ, zero, suc, ◌+◌, ◌-◌, Bool, ◌||◌, ◌==◌, if◌then◌else◌, List, [], ◌∷◌, ◌++◌, length, map}
use Rattle.std.specs.Prelude.{take, drop, encode_utf8, slice_index, Option, Some, None}
use Rattle.std.specs.List.{prefix_len}
use Rattle.keep_types.specs.declared.leaf.Leaf.{Leaf}
use Rattle.keep_types.specs.declared.leaf.Leaf.TheVariants as leaf
use Rattle.keep_types.specs.declared.leaf.Profile.TheVariants.{Wide}
use Rattle.keep_token.specs.Abnf.{is_ws}
use Rattle.keep_token.specs.Numbers.{sum_of_digits, integer_value}
use Rattle.keep_token.specs.Strings.{letter_value, digit_count}
use Rattle.keep_syntax.specs.Tree.{Written, Further, Key, Name, Body, scalar, array, inline, Entries, none, entry}
use Rattle.keep_syntax.specs.Tree.{Value, Content, blank, keyval, header, element, Line, Ended, Document}
use Rattle.keep_meaning.specs.Fact as fact
use Rattle.keep_meaning.specs.Fact.{Fact}
use Rattle.keep_path.specs.Path.{Part, key, index}
use Rattle.keep_meaning.specs.Marks as marks
use Rattle.keep_meaning.specs.Marks.{Statement, Mention, MentionKind, below, Reading}

-- ---- what a string leaf means, from left to right (TOML 1.0.0, String)

abbrev pub is_blank_byte : ℕ → Bool
is_blank_byte c = is_ws c || (c == 0x0A || c == 0x0D)

-- how many bytes belong to the escape after a backslash
abbrev pub escape_length : List ℕ → ℕ
escape_length [] = 0
escape_length (c ∷ cs) = if is_blank_byte c then prefix_len is_blank_byte (c ∷ cs) else 1 + digit_count Wide c

-- what it gives
abbrev pub escape_value : List ℕ → List ℕ
escape_value [] = []
escape_value (c ∷ cs) =
    if is_blank_byte c then []
    else if digit_count Wide c == 0 then letter_value Wide c ∷ []
    else encode_utf8 (sum_of_digits 16 (take (digit_count Wide c) cs))

-- the first bytes are passed over
abbrev pub unescaped_text : ℕ → List ℕ → List ℕ
unescaped_text n [] = []
unescaped_text n (c ∷ cs) = elim n [
  | zero ↦ (if c == 0x5C then escape_value cs else c ∷ [])
      ++ unescaped_text (if c == 0x5C then escape_length cs else 0) cs
  | suc m ↦ unescaped_text m cs
]

-- a newline right after the opening is left out (TOML 1.0.0, String)
abbrev pub without_newline : List ℕ → List ℕ
without_newline text =
    if slice_index text 0 == 0x0A then drop 1 text else if slice_index text 0 == 0x0D then drop 2 text else text

-- what is between n marks on each side
abbrev pub between_marks : ℕ → List ℕ → List ℕ
between_marks n text = take (length text - (n + n)) (drop n text)

abbrev pub string_value : Leaf → List ℕ → List ℕ
string_value leaf.Basic text = unescaped_text 0 (between_marks 1 text)
string_value leaf.Literal text = between_marks 1 text
string_value leaf.MlBasic text = unescaped_text 0 (without_newline (between_marks 3 text))
string_value leaf.MlLiteral text = without_newline (between_marks 3 text)
string_value _ text = text

abbrev pub key_value : Written → List ℕ
key_value w = string_value w.leaf w.text

abbrev pub further_value : Further → List ℕ
further_value f = key_value f.part

-- the decoded keys of a key: bare and quoted parts of one text are the same (TOML 1.0.0, Keys)
abbrev pub keys_of : Key → List (List ℕ)
keys_of k = key_value k.first ∷ map further_value k.more

-- what a scalar means (TOML 1.0.0: String, Integer, Float, Boolean, Offset Date-Time and the local ones)
abbrev pub scalar_fact : Leaf → List ℕ → Fact
scalar_fact leaf.Integer text = fact.integer (integer_value text)
scalar_fact leaf.Float text = fact.float text
scalar_fact leaf.Boolean text = fact.boolean (slice_index text 0 == 0x74)
scalar_fact leaf.Basic text = fact.string (string_value leaf.Basic text)
scalar_fact leaf.Literal text = fact.string (string_value leaf.Literal text)
scalar_fact leaf.MlBasic text = fact.string (string_value leaf.MlBasic text)
scalar_fact leaf.MlLiteral text = fact.string (string_value leaf.MlLiteral text)
scalar_fact l text = fact.moment l text

abbrev pub body_fact : Body → Fact
body_fact (scalar w) = scalar_fact w.leaf w.text
body_fact (array first) = fact.array
body_fact (inline first) = fact.inline

-- ---- what entries say, by paths that begin at what they are in

-- the path of an entry: its keys, or its number in the array
abbrev pub step : ℕ → Option Name → List Part
step n None = index n ∷ []
step n (Some name) = map key (keys_of name.key)

-- What a value says of itself, and what is said inside it, by paths that begin at it.
abbrev pub valued_mentions : MentionKind → List Mention → List Mention
valued_mentions mention_kind nested = record { path = []; kind = mention_kind } ∷ nested

-- The mentions of a value, seen from where its key begins: the key continues from each path on its way.
abbrev pub keyed_mentions : List (List ℕ) → List Mention → List Mention
keyed_mentions [] ms = ms
keyed_mentions (k ∷ []) ms = map (below (key k ∷ [])) ms
keyed_mentions (k ∷ l ∷ ks) ms =
    map (below (key k ∷ [])) (record { path = []; kind = marks.dotted } ∷ keyed_mentions (l ∷ ks) ms)

-- an item is at its number, a keyval at its key
abbrev pub entry_mentions : ℕ → Option Name → Fact → List Mention → List Mention
entry_mentions n None f nested = map (below (index n ∷ [])) (valued_mentions (marks.item f) nested)
entry_mentions n (Some name) f nested = keyed_mentions (keys_of name.key) (valued_mentions (marks.value f) nested)

-- what entries say; n is the number of the first item (TOML 1.0.0: Array, Inline Table)
abbrev pub entries_mentions : ℕ → Entries → List Mention
entries_mentions n none = []
entries_mentions n (entry name body nested after comma rest) =
    entry_mentions n name (body_fact body) (entries_mentions 0 nested) ++ entries_mentions (n + 1) rest

-- a line's keyval
abbrev pub keyval_mentions : Name → Value → List Mention
keyval_mentions name v = entry_mentions 0 (Some name) (body_fact v.body) (entries_mentions 0 v.nested)

-- What a value alone says of itself and of what is in it, by paths that begin at the value.
abbrev pub mentions_of_value : Value → List Mention
mentions_of_value v = valued_mentions (marks.item (body_fact v.body)) (entries_mentions 0 v.nested)

-- ---- statements

abbrev pub statement_of : Content → Option Statement
statement_of blank = None
statement_of (keyval name value) = Some (marks.keyval (keyval_mentions name value))
statement_of (header before k after) = Some (marks.header (keys_of k))
statement_of (element before k after) = Some (marks.element_header (keys_of k))

-- what a line says, and how the reading is after it
abbrev pub line_mentions : Reading → Line → List Mention
line_mentions r l = elim (statement_of l.content) [ None ↦ [] | Some s ↦ marks.statement_mentions r s ]

abbrev pub after_line : Reading → Line → Reading
after_line r l = elim (statement_of l.content) [ None ↦ r | Some s ↦ marks.next_reading r s ]

-- of lines, in their order
abbrev pub lines_mentions : Reading → List Line → List Mention
lines_mentions r [] = []
lines_mentions r (l ∷ ls) = line_mentions r l ++ lines_mentions (after_line r l) ls

abbrev pub reading_after_lines : Reading → List Line → Reading
reading_after_lines r [] = r
reading_after_lines r (l ∷ ls) = reading_after_lines (after_line r l) ls

abbrev pub line_of : Ended → Line
line_of e = e.line

abbrev pub lines : Document → List Line
lines s = map line_of s.ended ++ s.last ∷ []

-- all that a document says
abbrev pub mentions_in : Document → List Mention
mentions_in s = lines_mentions marks.start (lines s)
