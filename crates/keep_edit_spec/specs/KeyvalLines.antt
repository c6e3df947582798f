-- A line with a keyval that an `insert` writes or a `remove` takes: which of the two documents has one line more.
use Rattle.std.specs.Prelude.{◌≡◌, ℕ, suc, ◌-◌, false, List, [], ◌∷◌, ◌++◌, length, map, take, Some, None, IsUtf8}
use Rattle.std.specs.List.{AllByRecursion, filter_map}
use Rattle.keep_types.specs.declared.leaf.Profile.{Profile}
use Rattle.keep_types.specs.declared.leaf.Profile.TheVariants.{Wide}
use Rattle.keep_syntax.specs.Tree.{Further, Name, Value, Line, Document, keyval, none}
use Rattle.keep_path.specs.Path.{Part, key}
use Rattle.keep_meaning.specs.Counts.{count_from, line_statement, no_count}
use Rattle.keep_meaning.specs.DotsMore.{HasDotsMore, new_path}
use Rattle.keep_meaning.specs.Fact.{Fact}
use Rattle.keep_meaning.specs.KeysMore.{HasKeysMore, IsUnsaid}
use Rattle.keep_meaning.specs.LinesMore.{HasLineMore, path_after}
use Rattle.keep_meaning.specs.Marks.{marks, start}
use Rattle.keep_meaning.specs.Meaning.{body_fact, key_value, keys_of, lines, mentions_in, reading_after_lines, step}
use Rattle.keep_meaning.specs.Nodes.{is_node, mark_count}
use Rattle.keep_meaning.specs.OtherValues.{HasOtherValue, totals_of}
use Rattle.keep_meaning.specs.Rules.{ObeysRules}
use Rattle.keep_edit_spec.specs.Edits.{edited_document, end_of, insert, remove}
use Rattle.keep_edit_spec.specs.Laws.{IsEditable, IsGivenValue}
use Rattle.keep_edit_spec.specs.Lines.{last_line, leads_dotted, reading_at}
use Rattle.keep_edit_spec.specs.Look.{holder, keys_in}
use Rattle.keep_edit_spec.specs.Refusals.{refusal}

-- The second document has one line more, after these lines: it gives this path, which the first has not, this fact.
pub record HasLineAt (d more : Document) (path : List Part) (fact : Fact) (before : List Line) : Type 0 where
  pub line : HasLineMore d more
  pub after : line.before ≡ filter_map line_statement before
  pub place : path_after line.before line.text ≡ path
  pub gives : line.fact ≡ fact
  pub fresh : is_node path (mentions_in d) ≡ false

-- After these lines is a keyval of one key part with this path, and in its value there is nothing.
pub record IsLineOf (s : Document) (path : List Part) (before : List Line) (value : Value) : Type 0 where
  pub line : Line
  pub after : List Line
  pub name : Name
  pub here : lines s ≡ before ++ line ∷ after
  pub content : line.content ≡ keyval name value
  pub place : (reading_after_lines start before).body ++ step 0 (Some name) ≡ path
  pub one : name.key.more ≡ []
  pub empty : value.nested ≡ none

-- It is the value of a line's keyval, before which there are so many values.
pub record IsLineValue (d : Document) (number : ℕ) (value : Value) : Type 0 where
  pub before : List Line
  pub line : Line
  pub after : List Line
  pub name : Name
  pub here : lines d ≡ before ++ line ∷ after
  pub content : line.content ≡ keyval name value
  pub counted : (count_from no_count start (filter_map line_statement before)).values ≡ number

-- An insert of one key into the root, a table or an element that is defined adds a line at its end.
abbrev pub InsertAddsLine : Type 0
InsertAddsLine =
    (profile : Profile) (limit : ℕ) (s : Document) (path : List Part) (text : List ℕ) (value : Value) (n : ℕ)
    → AllByRecursion IsUtf8 (keys_in path) → refusal profile limit s (insert path value) ≡ None
    → path ≡ holder path (mentions_in s) ++ key text ∷ [] → end_of s (holder path (mentions_in s)) ≡ Some n
    → value.nested ≡ none
    → HasLineAt s (edited_document s (insert path value)) path (body_fact value.body) (take n (lines s))

-- A remove of such a line takes it, or what it says.
abbrev pub RemoveTakesLine : Type 0
RemoveTakesLine =
    (s : Document) (path : List Part) (before : List Line) (value : Value) → ObeysRules (marks (mentions_in s))
    → IsLineOf s path before value
    → HasLineAt (edited_document s (remove path)) s path (body_fact value.body) before

-- ---- the same where something is in the value: the line comes with nothing in its value, and then that is put there

-- the value with nothing in it
abbrev pub bare_value : Value → Value
bare_value v = record v { nested = none }

-- The second document has one line more, after these lines: it gives this path, which the first has not, this fact.
pub record IsBareLine (d bare : Document) (path : List Part) (fact : Fact) (before : List Line) : Type 0 where
  pub line : HasLineAt d bare path fact before
  pub values : (totals_of bare).values ≡ suc (totals_of d).values
  pub keys : (totals_of bare).keys ≡ suc (totals_of d).keys
  pub obeys : ObeysRules (marks (mentions_in bare))

-- After these lines is a keyval of one key part with this path, with this value.
pub record IsValueLine (s : Document) (path : List Part) (before : List Line) (value : Value) : Type 0 where
  pub line : Line
  pub after : List Line
  pub name : Name
  pub here : lines s ≡ before ++ line ∷ after
  pub content : line.content ≡ keyval name value
  pub place : (reading_after_lines start before).body ++ step 0 (Some name) ≡ path
  pub one : name.key.more ≡ []

-- An insert of one key into the root, a table or an element that is defined adds a line at its end, and the value
-- there.
abbrev pub InsertAddsValue : Type 0
InsertAddsValue =
    (profile : Profile) (limit : ℕ) (s : Document) (path : List Part) (text : List ℕ) (value : Value) (n : ℕ)
    → IsEditable profile limit s → IsGivenValue Wide value → AllByRecursion IsUtf8 (keys_in path)
    → refusal profile limit s (insert path value) ≡ None
    → path ≡ holder path (mentions_in s) ++ key text ∷ [] → end_of s (holder path (mentions_in s)) ≡ Some n
    → (bare : Document) × IsBareLine s bare path (body_fact value.body) (take n (lines s))
    × HasOtherValue bare (edited_document s (insert path value)) path value

-- A remove of such a line takes the value, and then the line, or what it says.
abbrev pub RemoveTakesValue : Type 0
RemoveTakesValue =
    (profile : Profile) (limit : ℕ) (s : Document) (path : List Part) (before : List Line) (value : Value)
    → IsEditable profile limit s → IsValueLine s path before value
    → (bare : Document) × HasOtherValue s bare path (bare_value value)
    × IsBareLine (edited_document s (remove path)) bare path (body_fact value.body) before

-- ---- the same of a line whose key has several parts, of which the first is named nowhere else

-- The second document has one line more, after these lines: by several keys, the first of which has an unsaid path in
-- the first document, it gives this path this value.
pub record HasKeysAt (d more : Document) (path : List Part) (value : Value) (before : List Line) : Type 0 where
  pub line : HasKeysMore d more
  pub after : line.before ≡ filter_map line_statement before
  pub place : path_after line.before line.first ++ map key (line.next ∷ line.further) ≡ path
  pub gives : line.fact ≡ body_fact value.body
  pub holds : line.nested ≡ value.nested
  pub unsaid : IsUnsaid d (path_after line.before line.first)

-- After these lines is a keyval with this path and this value, whose key goes on after the first part.
pub record IsKeysLineOf (s : Document) (path : List Part) (before : List Line) (value : Value) : Type 0 where
  pub line : Line
  pub after : List Line
  pub name : Name
  pub next : Further
  pub further : List Further
  pub here : lines s ≡ before ++ line ∷ after
  pub content : line.content ≡ keyval name value
  pub place : (reading_after_lines start before).body ++ step 0 (Some name) ≡ path
  pub several : name.key.more ≡ next ∷ further

-- An insert of several new keys into the root, a table or an element that is defined adds a line at its end.
abbrev pub InsertAddsKeys : Type 0
InsertAddsKeys =
    (profile : Profile) (limit : ℕ) (s : Document) (path : List Part) (first next : List ℕ) (further : List (List ℕ))
    (value : Value) (n : ℕ)
    → AllByRecursion IsUtf8 (keys_in path) → refusal profile limit s (insert path value) ≡ None
    → path ≡ holder path (mentions_in s) ++ map key (first ∷ next ∷ further)
    → end_of s (holder path (mentions_in s)) ≡ Some n
    → HasKeysAt s (edited_document s (insert path value)) path value (take n (lines s))

-- A remove of such a line takes it, or what it says, where no other key part names the path of its first key.
abbrev pub RemoveTakesKeys : Type 0
RemoveTakesKeys =
    (s : Document) (path : List Part) (before : List Line) (value : Value) → ObeysRules (marks (mentions_in s))
    → (line : IsKeysLineOf s path before value)
    → mark_count ((reading_after_lines start before).body ++ key (key_value line.name.key.first) ∷ []) (mentions_in s)
    ≡ 1
    → HasKeysAt (edited_document s (remove path)) s path value before

-- ---- the same of a line whose key goes on from tables of dotted keys

-- The second document has one line more, after these lines: by keys of which so many are passed it gives this path this
-- value, and the first of the others has an unsaid path in the first document.
pub record HasDotsAt (d more : Document) (path : List Part) (value : Value) (passed : ℕ) (before : List Line) : Type 0
  where
    pub line : HasDotsMore d more
    pub after : line.before ≡ filter_map line_statement before
    pub place : new_path line.before line.passed line.first ++ map key line.further ≡ path
    pub count : length line.passed ≡ passed
    pub gives : line.fact ≡ body_fact value.body
    pub holds : line.nested ≡ value.nested
    pub unsaid : IsUnsaid d (new_path line.before line.passed line.first)

-- After these lines is a keyval with this path and this value, of whose keys so many are passed and the others are
-- these.
pub record IsDotsLineOf (s : Document) (path : List Part) (before : List Line) (value : Value) : Type 0 where
  pub line : Line
  pub after : List Line
  pub name : Name
  pub passed : List (List ℕ)
  pub first : List ℕ
  pub further : List (List ℕ)
  pub here : lines s ≡ before ++ line ∷ after
  pub content : line.content ≡ keyval name value
  pub place : (reading_after_lines start before).body ++ step 0 (Some name) ≡ path
  pub parts : keys_of name.key ≡ passed ++ first ∷ further

-- the path of the first of its keys that is not passed
abbrev pub first_path : List Line → List (List ℕ) → List ℕ → List Part
first_path before passed first = ((reading_after_lines start before).body ++ map key passed) ++ key first ∷ []

-- An insert of new keys into a table that dotted keys make adds a line after the last one that leads through it.
abbrev pub InsertAddsDots : Type 0
InsertAddsDots =
    (profile : Profile) (limit : ℕ) (s : Document) (path : List Part) (first : List ℕ) (further : List (List ℕ))
    (value : Value) (i : ℕ)
    → AllByRecursion IsUtf8 (keys_in path) → refusal profile limit s (insert path value) ≡ None
    → path ≡ holder path (mentions_in s) ++ map key (first ∷ further)
    → end_of s (holder path (mentions_in s)) ≡ None
    → last_line (leads_dotted (holder path (mentions_in s))) start (lines s) ≡ Some i
    → HasDotsAt s (edited_document s (insert path value)) path value
    (length (holder path (mentions_in s)) - length (reading_at i (lines s)).body) (take (suc i) (lines s))

-- A remove of such a line takes it, or what it says, where no other key part names the path of the first key that is
-- not passed.
abbrev pub RemoveTakesDots : Type 0
RemoveTakesDots =
    (s : Document) (path : List Part) (before : List Line) (value : Value) → ObeysRules (marks (mentions_in s))
    → (line : IsDotsLineOf s path before value)
    → mark_count (first_path before line.passed line.first) (mentions_in s) ≡ 1
    → HasDotsAt (edited_document s (remove path)) s path value (length line.passed) before
