-- The lines that edits of a list add which are made at once, and the headers that they append, as far as they are gone
-- through.
use Rattle.std.specs.Prelude.{◌≡◌, ◌≢◌, ◌⊎◌, ⊤, ℕ, suc, ◌+◌, ◌<◌, ◌==◌, ◌&&◌, Bool, false, IsTrue, List, [], ◌∷◌}
use Rattle.std.specs.Prelude.{Option, Some, None, if◌then◌else◌, length, map, nat_eq, nat_lt}
use Rattle.std.specs.HashMap.{get}
use Rattle.std.specs.HashSet.{contains_by}
use Rattle.std.specs.List.{count_by}
use Rattle.keep_path.specs.Path.{Part, key, without_last}
use Rattle.keep_edit_spec.specs.Edits as law
use Rattle.keep_edit_spec.specs.InsertKinds.{Added, table_of}
use Rattle.keep_edit_spec.specs.LinesAhead.{is_end_at, is_headed_at}
use Rattle.keep_edit_spec.specs.Runs.{is_header}
use Rattle.keep_edit_spec.specs.declared.line_kind.LineKind.{LineKind}
use Rattle.keep_edit_spec.specs.declared.line_kind.LineKind.TheVariants.{LastInBody, OfDotted, WithHeader}
use Rattle.keep_edit_runs.specs.Counts.{IsOneMore, count_at, shorter_at}
use Rattle.keep_edit_runs.specs.DottedTables.{IsDottedAt, IsDottedMore}
use Rattle.keep_edit_runs.specs.Seen.{number_of}
use Rattle.keep_edit_runs.specs.SeenHeaders.{HasAppended, HasHeader, HasMore, HasTableOf, IsHeaderAppendedLater}
use Rattle.keep_edit_runs.specs.SeenHeaders.{IsHeaderBrought}
use Rattle.keep_edit_runs.specs.declared.added_lines.AddedLines.{AddedLines}

-- the table whose header comes there
abbrev pub brought_at : AddedLines → ℕ → Option (List Part)
brought_at added at = get nat_eq added.brought at

-- the header of that table is one of those
abbrev pub HasTable : AddedLines → List Part → Type 0
HasTable added table = IsTrue (contains_by (λ n. number_of table == n) added.tables)

-- A line of that kind is known: lines that end a body are counted at its byte, or it is one of those there of tables
-- that dotted keys make, or its table is that of the header there, which is one of those by its path and its keys.
abbrev pub IsKnownAs : LineKind → AddedLines → Added → Type 0
IsKnownAs LastInBody added l = 0 < count_at added.ends l.at
IsKnownAs OfDotted added l = IsDottedAt added.dotted l.at (table_of l)
IsKnownAs WithHeader added l =
    (brought_at added l.at ≡ Some (table_of l)) × (HasTable added (table_of l) × HasTableOf added.headers (table_of l))

abbrev pub IsKnownAt : AddedLines → Added → Type 0
IsKnownAt added l = IsKnownAs l.kind added l

-- No header is appended among these edits, or none that is of the table whose header comes at that byte or goes through
-- it.
abbrev pub PassesHeaderAt : AddedLines → ℕ → Type 0
PassesHeaderAt added at =
    (added.appended ≡ 0)
    ⊎ ((table : List Part) → brought_at added at ≡ Some table → ¬ HasAppended added.headers table)

-- The header that the edit appends, if it does, is known.
abbrev pub IsHeaderKnown : AddedLines → law.Edit → Type 0
IsHeaderKnown added (law.append_table keys) = HasHeader added.headers (map key keys)
IsHeaderKnown added (law.append_element keys) = HasHeader added.headers (map key keys)
IsHeaderKnown added e = ⊤

-- ---- how many there are

-- a line of a table that dotted keys make, with fewer steps than so many
abbrev pub is_shorter : ℕ → LineKind → List Part → Bool
is_shorter most OfDotted table = nat_lt (length table) most
is_shorter most LastInBody table = false
is_shorter most WithHeader table = false

-- one at that byte
abbrev pub is_shorter_at : ℕ → ℕ → Added → Bool
is_shorter_at most at l = (l.at == at) && is_shorter most l.kind (table_of l)

-- Of edits that add these lines those of tables that dotted keys make are counted by the lengths of these, and the
-- lines that end bodies, those with headers and behind them, and the headers that are appended.
pub record IsCounted (added : AddedLines) (lines : List Added) (edits : List law.Edit) : Type 0 where
  pub shorter : (most n : ℕ) → count_by (is_shorter_at most n) lines ≡ shorter_at added.dotted.lengths most n
  pub ends : (n : ℕ) → count_by (is_end_at n) lines ≡ count_at added.ends n
  pub headed : (n : ℕ) → count_by (is_headed_at n) lines ≡ count_at added.headed n
  pub appended : count_by is_header edits ≡ added.appended

-- the line of an insert with that first new key
abbrev pub line_of : List Part → ℕ → LineKind → Added
line_of first at kind = record { first = first; at = at; kind = kind }

-- the line of this kind that an edit adds at a byte, if it adds one
abbrev pub lines_by : law.Edit → ℕ → Option LineKind → List Added
lines_by e at None = []
lines_by e at (Some kind) = elim e [
  | law.insert first value ↦ line_of first at kind ∷ []
  | _ ↦ []
]

-- One edit more is counted.
pub record IsCountedMore (old : AddedLines) (e : law.Edit) (at : ℕ) (line : Option LineKind) (new : AddedLines)
    : Type 0 where
  pub shorter : (most n : ℕ) → shorter_at new.dotted.lengths most n
      ≡ count_by (is_shorter_at most n) (lines_by e at line) + shorter_at old.dotted.lengths most n
  pub ends : (n : ℕ) → count_at new.ends n ≡ count_by (is_end_at n) (lines_by e at line) + count_at old.ends n
  pub headed : (n : ℕ) → count_at new.headed n ≡ count_by (is_headed_at n) (lines_by e at line) + count_at old.headed n
  pub appended : new.appended ≡ count_by is_header (e ∷ []) + old.appended

-- the table into which an insert with that first new key adds a line
abbrev pub table_by : law.Edit → List Part
table_by e = elim e [
  | law.insert first value ↦ without_last first
  | _ ↦ []
]

-- how many lines at a byte come behind one of that kind and table, where each table there that dotted keys make is on
-- the way to that or below it
abbrev pub lines_known_behind : AddedLines → LineKind → List Part → ℕ → ℕ
lines_known_behind added OfDotted table at =
    shorter_at added.dotted.lengths (length table) at + (count_at added.ends at + count_at added.headed at)
lines_known_behind added LastInBody table at = count_at added.headed at
lines_known_behind added WithHeader table at = 0

-- So many come behind a line of this kind and table at a byte, with the headers that are appended, if it is at the end
-- of the text.
abbrev pub IsCountBehind : AddedLines → List Part → Option LineKind → ℕ → Bool → ℕ → Type 0
IsCountBehind added table None at is_at_end n = n ≡ 0
IsCountBehind added table (Some kind) at is_at_end n =
    n ≡ lines_known_behind added kind table at + (if is_at_end then added.appended else 0)

-- ---- one line more

-- the same headers with lines
pub record IsSameOfHeaders (old new : AddedLines) : Type 0 where
  pub brought : new.brought ≡ old.brought
  pub headed : new.headed ≡ old.headed
  pub follower : new.has_follower ≡ old.has_follower
  pub tables : new.tables ≡ old.tables
  pub headers : new.headers ≡ old.headers
  pub appended : new.appended ≡ old.appended

-- one more that ends a body
pub record IsEndMore (old : AddedLines) (at : ℕ) (new : AddedLines) : Type 0 where
  pub one : IsOneMore old.ends at new.ends
  pub dotted : new.dotted ≡ old.dotted
  pub same : IsSameOfHeaders old new

-- which is behind no header
pub record IsEndKept (old : AddedLines) (at : ℕ) (new : AddedLines) : Type 0 where
  pub free : brought_at old at ≡ None
  pub more : IsEndMore old at new

-- one more of a table that dotted keys make
pub record IsTableMore (old : AddedLines) (at : ℕ) (table : List Part) (new : AddedLines) : Type 0 where
  pub dotted : IsDottedMore old.dotted at table new.dotted
  pub ends : new.ends ≡ old.ends
  pub same : IsSameOfHeaders old new

-- which is behind none with fewer steps, none that ends a body, and no header
pub record IsTableKept (old : AddedLines) (at : ℕ) (table : List Part) (new : AddedLines) : Type 0 where
  pub free : brought_at old at ≡ None
  pub endless : count_at old.ends at ≡ 0
  pub shortest : shorter_at old.dotted.lengths (length table) at ≡ 0
  pub more : IsTableMore old at table new

-- a header, which is the first there, and of its table
pub record IsHeaderKept (old : AddedLines) (at : ℕ) (table : List Part) (new : AddedLines) : Type 0 where
  pub free : brought_at old at ≡ None
  pub dotted : new.dotted ≡ old.dotted
  pub ends : new.ends ≡ old.ends
  pub one : IsOneMore old.headed at new.headed
  pub follower : new.has_follower ≡ old.has_follower
  pub appended : new.appended ≡ old.appended
  pub here : brought_at new at ≡ Some table
  pub others : (n : ℕ) → n ≢ at → brought_at new n ≡ brought_at old n
  pub first : ¬ HasTable old table
  pub with_it : HasTable new table
  pub more : (q : List Part) → HasTable old q → HasTable new q
  pub brought : IsHeaderBrought old.headers table new.headers

-- a header that is appended, of no table of a line with one
pub record IsAppendedKept (old : AddedLines) (keys : List (List ℕ)) (new : AddedLines) : Type 0 where
  pub appends : IsHeaderAppendedLater old.headers (map key keys) new.headers
  pub one : new.appended ≡ suc old.appended
  pub rest : new ≡ record old { headers = new.headers; appended = new.appended }

-- a header at the end of the text, behind all others, of no table of a line with one
pub record IsHeaderLast (old : AddedLines) (keys : List (List ℕ)) (new : AddedLines) : Type 0 where
  pub appends : IsHeaderAppendedLater old.headers (map key keys) new.headers
  pub rest : new ≡ record old { headers = new.headers }

-- a table whose header comes with a line at the end of the text, and would come at this byte, where no header comes,
-- and its own comes nowhere
pub record IsTableBelow (old : AddedLines) (at : ℕ) (table : List Part) (new : AddedLines) : Type 0 where
  pub free : brought_at old at ≡ None
  pub first : ¬ HasTable old table
  pub here : HasTableOf new.headers table
  pub more : HasMore old.headers new.headers
  pub rest : new ≡ record old { headers = new.headers }
