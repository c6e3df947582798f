-- What the text says, in its order: the marks with their full paths, and the elements and items between them.
-- (TOML 1.0.0: Keys, Table, Array of Tables, Inline Table.) What is said has no numbers: those are in Counts.
use Rattle.std.specs.Prelude.{ℕ, ◌-◌, ◌==◌, if◌then◌else◌, List, [], ◌∷◌, ◌++◌, map, Option, Some, None}
use Rattle.std.specs.List.{count_by, filter_map}
use Rattle.keep_types.specs.declared.role.Role.{Role}
use Rattle.keep_types.specs.declared.role.Role.TheVariants.{Through, Past, Define, Element, Dotted, Value}
use Rattle.keep_meaning.specs.Fact.{Fact, table}
use Rattle.keep_path.specs.Path.{Part, key, index, same_path}
use Rattle.keep_meaning.specs.Rules.{Mark}

-- What kind of mention a path has at one place of the text.
pub data MentionKind : Type 0 where
  through : MentionKind  -- a header continues from it
  past : MentionKind  -- a header continues from its last element
  define : MentionKind  -- `[..]` defines it
  element : MentionKind  -- `[[..]]` names it
  dotted : MentionKind  -- a keyval continues from it
  value : Fact → MentionKind  -- a keyval gives it this value
  begun : MentionKind  -- it is the element that a `[[..]]` begins
  passed : MentionKind  -- it is the element that a header goes past
  item : Fact → MentionKind  -- it is this item of an array

pub record Mention : Type 0 where
  pub path : List Part
  pub kind : MentionKind

-- seen from outside what is at a path
abbrev pub below : List Part → Mention → Mention
below at m = record { path = at ++ m.path; kind = m.kind }

-- A statement: `[..]`, `[[..]]` with their keys, or a keyval. A keyval's mentions have paths that begin at its body.
pub data Statement : Type 0 where
  header : List (List ℕ) → Statement
  element_header : List (List ℕ) → Statement
  keyval : List Mention → Statement

-- How many `[[..]]` lines have this full path (TOML 1.0.0, Array of Tables); `tables` are the full paths of all such
-- lines.
abbrev pub elements_of : List Part → List (List Part) → ℕ
elements_of path tables = count_by (λ t. same_path t path) tables

-- Where the next key of a header goes: on from the path, or from its last element where earlier `[[..]]` lines have the
-- path.
abbrev pub entered_path : List (List Part) → List Part → List Part
entered_path tables path =
    if 0 == elements_of path tables then path else path ++ index (elements_of path tables - 1) ∷ []

-- what a header says of a path on its way
abbrev pub passing_mentions : List (List Part) → List Part → List Mention
passing_mentions tables path =
    if 0 == elements_of path tables
    then record { path = path; kind = through } ∷ []
    else record { path = path; kind = past } ∷ record { path = entered_path tables path; kind = passed } ∷ []

-- the full path of a header with these keys; `at` is the path so far
abbrev pub header_path : List (List Part) → List Part → List (List ℕ) → List Part
header_path tables at [] = at
header_path tables at (k ∷ []) = at ++ key k ∷ []
header_path tables at (k ∷ l ∷ ks) = header_path tables (entered_path tables (at ++ key k ∷ [])) (l ∷ ks)

-- what a header says of the paths on its way
abbrev pub header_prefixes : List (List Part) → List Part → List (List ℕ) → List Mention
header_prefixes tables at [] = []
header_prefixes tables at (k ∷ []) = []
header_prefixes tables at (k ∷ l ∷ ks) =
    passing_mentions tables (at ++ key k ∷ [])
    ++ header_prefixes tables (entered_path tables (at ++ key k ∷ [])) (l ∷ ks)

-- How far the reading has come: the full paths of the `[[..]]` lines so far, and the path of the body.
pub record Reading : Type 0 where
  pub tables : List (List Part)
  pub body : List Part

-- What a statement says. A `[[..]]` line begins the element after those that earlier such lines began (TOML 1.0.0,
-- Array of Tables); a keyval's paths continue from its body (TOML 1.0.0, Table).
abbrev pub statement_mentions : Reading → Statement → List Mention
statement_mentions r (header keys) =
    header_prefixes r.tables [] keys ++ record { path = header_path r.tables [] keys; kind = define } ∷ []
statement_mentions r (element_header keys) =
    let path = header_path r.tables [] keys in
    header_prefixes r.tables [] keys
    ++ record { path = path; kind = element }
    ∷ record { path = path ++ index (elements_of path r.tables) ∷ []; kind = begun } ∷ []
statement_mentions r (keyval nested) = map (below r.body) nested

-- how far the reading is after a statement
abbrev pub next_reading : Reading → Statement → Reading
next_reading r (header keys) = record r { body = header_path r.tables [] keys }
next_reading r (element_header keys) =
    let path = header_path r.tables [] keys in
    record r { tables = r.tables ++ path ∷ []; body = path ++ index (elements_of path r.tables) ∷ [] }
next_reading r (keyval nested) = r

-- what statements say, from a reading on
abbrev pub mentions_from : Reading → List Statement → List Mention
mentions_from r [] = []
mentions_from r (s ∷ ss) = statement_mentions r s ++ mentions_from (next_reading r s) ss

-- how far the reading is after statements
abbrev pub reading_after : Reading → List Statement → Reading
reading_after r [] = r
reading_after r (s ∷ ss) = reading_after (next_reading r s) ss

abbrev pub start : Reading
start = record { tables = []; body = [] }

-- all that a document says
abbrev pub mentions : List Statement → List Mention
mentions statements = mentions_from start statements

-- the role of a key part, where a key part says it
abbrev pub role_of : MentionKind → Option Role
role_of through = Some Through
role_of past = Some Past
role_of define = Some Define
role_of element = Some Element
role_of dotted = Some Dotted
role_of (value _) = Some Value
role_of begun = None
role_of passed = None
role_of (item _) = None

abbrev pub with_path : List Part → Option Role → Option Mark
with_path path None = None
with_path path (Some role) = Some (record { role = role; path = path })

abbrev pub mark_of : Mention → Option Mark
mark_of m = with_path m.path (role_of m.kind)

-- the marks: one for each key part, in the order of the text
abbrev pub marks : List Mention → List Mark
marks = filter_map mark_of

-- ---- the tree

-- the fact that a mention kind states
abbrev pub fact_of : MentionKind → Option Fact
fact_of (value fact) = Some fact
fact_of (item fact) = Some fact
fact_of define = Some table
fact_of begun = Some table
fact_of _ = None
