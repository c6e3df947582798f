-- Where `insert` writes and what, by the lists of all statements and values, and the bytes of the text.
use Rattle.std.specs.Prelude.{ℕ, suc, ◌+◌, ◌==◌, nat_lt, Bool, true, false, not, if◌then◌else◌, List, [], ◌∷◌, ◌++◌}
use Rattle.std.specs.Prelude.{take}
use Rattle.std.specs.Prelude.{drop, codes, Option, Some, None}
use Rattle.keep_types.specs.declared.syntax.Statement.{Statement}
use Rattle.keep_types.specs.declared.syntax.StatementKind.TheVariants.{KeyVal}
use Rattle.keep_types.specs.declared.syntax.ValueInfo.{ValueInfo}
use Rattle.keep_syntax.specs.Tree.{Name, Value, named_leaves, text_of}
use Rattle.keep_edit_spec.specs.Changed.{Place}
use Rattle.keep_edit_spec.specs.Edits.{name_with, new_header}
use Rattle.keep_edit_spec.specs.Lines.{content_text}
use Rattle.keep_edit_spec.specs.Removal.{body_end}
use Rattle.keep_edit_spec.specs.Values.{text_of_value}

-- bytes put in at a place, where nothing goes
abbrev pub put_in : ℕ → List ℕ → Place
put_in at new = record { start = at; end = at; new = new }

-- ---- in brackets

-- no keys are no name: the value is an item
abbrev pub name_of : List (List ℕ) → Option Name
name_of [] = None
name_of (k ∷ ks) = Some (name_with (k ∷ ks))

-- `VALUE`, or `KEYS = VALUE`
abbrev pub keyed_text : List (List ℕ) → Value → List ℕ
keyed_text keys value = text_of (named_leaves (name_of keys)) ++ text_of_value value

abbrev pub before_item : ValueInfo → Value → Place
before_item v value = put_in v.whole.start (text_of_value value ++ codes ", ")

abbrev pub after_entry : ValueInfo → List (List ℕ) → Value → Place
after_entry v keys value = put_in v.span.end (codes ", " ++ keyed_text keys value)

-- directly after the opening bracket
abbrev pub in_empty : ValueInfo → List (List ℕ) → Value → Place
in_empty v keys value = put_in (suc v.span.start) (keyed_text keys value)

-- The number of the last keyval of braces that are so deep. Of the values after the braces' own, those inside are
-- deeper, and the braces' own keyvals by one. The first of these values has the number `at`.
abbrev pub last_keyval : ℕ → ℕ → List ValueInfo → Option ℕ
last_keyval at depth [] = None
last_keyval at depth (v ∷ vs) = elim (nat_lt depth v.depth) [
  | false ↦ None
  | true ↦ elim (last_keyval (suc at) depth vs) [
    | Some n ↦ Some n
    | None ↦ (if v.depth == suc depth then Some at else None)
  ]
]

-- ---- lines

-- the text ends in the midst of a line that has bytes
abbrev pub is_open : List ℕ → Bool
is_open [] = false
is_open (b ∷ []) = not (b == 0x0A)
is_open (b ∷ c ∷ bs) = is_open (c ∷ bs)

-- the newline that a line lacks which ends at a place; the lines begin at `start`
abbrev pub missing_newline : List ℕ → List ℕ → ℕ → ℕ → List ℕ
missing_newline bytes newline start at = if is_open (drop start (take at bytes)) then newline else []

-- after the line that ends at a place: a line with a keyval
abbrev pub line_at : List ℕ → List ℕ → ℕ → ℕ → List (List ℕ) → Value → Place
line_at bytes newline start at keys value =
    put_in at (missing_newline bytes newline start at ++ (keyed_text keys value ++ newline))

-- there: an empty line, a header, and a line with a keyval
abbrev pub section_at : List ℕ → List ℕ → ℕ → ℕ → List (List ℕ) → List (List ℕ) → Value → Place
section_at bytes newline start at table keys value =
    put_in at (missing_newline bytes newline start at
    ++ (newline ++ (content_text (new_header table) ++ (newline ++ (keyed_text keys value ++ newline)))))

-- the end of the body of a header, of the statements from it on
abbrev pub section_end : List Statement → ℕ
section_end [] = 0
section_end (s ∷ ss) = body_end s.line.end ss

-- how many keyvals there are before the next header
abbrev pub body_count : List Statement → ℕ
body_count [] = 0
body_count (s ∷ ss) = elim s.kind [
  | KeyVal ↦ suc (body_count ss)
  | _ ↦ 0
]

-- the number of the statement after the body of the header with that number, or of the root
abbrev pub next_statement : Option ℕ → List Statement → ℕ
next_statement None ss = body_count ss
next_statement (Some h) ss = suc h + body_count (drop (suc h) ss)
