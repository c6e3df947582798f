-- What rereading lines stores: that of the lines before unchanged, that of the new lines lifted, that of the lines
-- after moved.
use Rattle.std.specs.Prelude.{ℕ, suc, ◌<◌, ◌≤◌, ltb, if◌then◌else◌, List, [], ◌∷◌, ◌++◌, length, map, drop, slice_range}
use Rattle.std.specs.Prelude.{Option, Some, None, ⊤}
use Rattle.keep_types.specs.declared.leaf.Leaf.{Leaf}
use Rattle.keep_types.specs.declared.syntax.Span.{Span}
use Rattle.keep_types.specs.declared.syntax.Statement.{Statement}
use Rattle.keep_syntax_store.specs.declared.moves.Counts.{Counts}
use Rattle.keep_syntax_store.specs.Counts.{Count}
use Rattle.keep_syntax_store.specs.Flat.{Flat, empty}
use Rattle.keep_syntax_store.specs.Lifted.{moved, moved_key, moved_statement, moved_value}

-- what comes before a line that begins at a place
abbrev pub count_at : ℕ → Flat → Count
count_at at f = record { at = at; statements = length f.statements; parts = length f.keys; values = length f.values }

abbrev pub count_of : Counts → Count
count_of c = record { at = c.at; statements = c.statements; parts = c.keys; values = c.values }

-- all that is stored, and the place after it
abbrev pub counts_at : ℕ → Flat → Counts
counts_at at f = record {
  at = at;
  tokens = length f.kinds;
  statements = length f.statements;
  keys = length f.keys;
  values = length f.values;
}

abbrev pub nothing : Counts
nothing = record { at = 0; tokens = 0; statements = 0; keys = 0; values = 0 }

-- ---- how much comes before a place

-- how many of ascending places are before a place
abbrev pub places_before : ℕ → List ℕ → ℕ
places_before place [] = 0
places_before place (x ∷ xs) = if ltb x place then suc (places_before place xs) else 0

-- how many of these statements have a line that begins before a place
abbrev pub statements_before : ℕ → List Statement → ℕ
statements_before place [] = 0
statements_before place (s ∷ ss) = if ltb s.line.start place then suc (statements_before place ss) else 0

-- no line of a statement begins before that of the one before it, the first not before `low`
abbrev pub LinesAscend : ℕ → List Statement → Type 0
LinesAscend low [] = ⊤
LinesAscend low (s ∷ ss) = (low ≤ s.line.start) × LinesAscend s.line.start ss

-- The number of the first key part from these statements on: the first statement has it. Without one it is the number
-- of all.
abbrev pub first_key : ℕ → List Statement → ℕ
first_key all [] = all
first_key all (s ∷ ss) = s.first_key

-- The number of the first value from these statements on: the first keyval has it. Without one it is the number of all.
abbrev pub value_or : ℕ → Option ℕ → ℕ
value_or others None = others
value_or others (Some number) = number

abbrev pub first_value : ℕ → List Statement → ℕ
first_value all [] = all
first_value all (s ∷ ss) = value_or (first_value all ss) s.value

-- how much comes before the line that begins at a place
abbrev pub counts_before : Flat → ℕ → Counts
counts_before f place =
    let after : List Statement = drop (statements_before place f.statements) f.statements in
    record {
      at = place;
      tokens = places_before place f.starts;
      statements = statements_before place f.statements;
      keys = first_key (length f.keys) after;
      values = first_value (length f.values) after;
    }

-- ---- parts of what is stored, moved and joined

-- from one count to a later one, of what is stored
pub record IsPart (from to : Counts) (f : Flat) : Type 0 where
  pub tokens_from : from.tokens ≤ to.tokens
  pub tokens : to.tokens ≤ length f.kinds
  pub statements_from : from.statements ≤ to.statements
  pub statements : to.statements ≤ length f.statements
  pub keys_from : from.keys ≤ to.keys
  pub keys : to.keys ≤ length f.keys
  pub values_from : from.values ≤ to.values
  pub values : to.values ≤ length f.values

abbrev pub part_of : Counts → Counts → Flat → Flat
part_of from to f = record {
  kinds = slice_range f.kinds from.tokens to.tokens;
  starts = slice_range f.starts from.tokens to.tokens;
  statements = slice_range f.statements from.statements to.statements;
  keys = slice_range f.keys from.keys to.keys;
  values = slice_range f.values from.values to.values;
}

abbrev pub moved_flat : Count → Count → Flat → Flat
moved_flat old new f = record {
  kinds = f.kinds;
  starts = map (moved old.at new.at) f.starts;
  statements = map (moved_statement old new) f.statements;
  keys = map (moved_key old new) f.keys;
  values = map (moved_value old new) f.values;
}

abbrev pub joined : Flat → Flat → Flat
joined f g = record {
  kinds = f.kinds ++ g.kinds;
  starts = f.starts ++ g.starts;
  statements = f.statements ++ g.statements;
  keys = f.keys ++ g.keys;
  values = f.values ++ g.values;
}

-- what is stored if other parts are appended
abbrev pub appended : Flat → Flat → Counts → Counts → ℕ → Flat
appended out other from to at = joined out (moved_flat (count_of from) (count_at at out) (part_of from to other))

-- ---- lines replaced

-- what is stored of f up to a place
abbrev pub with_prefix : Flat → ℕ → Flat
with_prefix f start = appended empty f nothing (counts_before f start) 0

-- and then all of g, a text of so many bytes
abbrev pub with_new : Flat → Flat → ℕ → ℕ → Flat
with_new f g start size = appended (with_prefix f start) g nothing (counts_at size g) start

-- and then that of f from the end of the span on, which is the place `end` now; f is a text of `len` bytes
abbrev pub with_back : Flat → Flat → Span → ℕ → ℕ → ℕ → Flat
with_back f g whole len size end =
    appended (with_new f g whole.start size) f (counts_before f whole.end) (counts_at len f) end

abbrev pub replaced_flat : Flat → Flat → Span → ℕ → ℕ → ℕ → Flat
replaced_flat f g whole len size end =
    if ltb whole.end len then with_back f g whole len size end else with_new f g whole.start size

-- what is before the span and after it can be sought, and taken
pub record CanMove (f : Flat) (whole : Span) (len : ℕ) : Type 0 where
  pub order : LinesAscend 0 f.statements
  pub prefix : IsPart nothing (counts_before f whole.start) f
  pub back : whole.end < len → IsPart (counts_before f whole.end) (counts_at len f) f

-- where lines begin, in the same way; the last place of the new ones is where the line after them begins
abbrev pub prefix_starts : List ℕ → ℕ → List ℕ
prefix_starts ns start = map (moved 0 0) (slice_range ns 0 (places_before start ns))

abbrev pub back_starts : List ℕ → ℕ → ℕ → List ℕ
back_starts ns from end = map (moved from end) (slice_range ns (places_before from ns) (length ns))

abbrev pub replaced_starts : List ℕ → List ℕ → Span → ℕ → ℕ → ℕ → List ℕ
replaced_starts ns ms whole len size end =
    if ltb whole.end len
    then (prefix_starts ns whole.start ++ map (moved 0 whole.start) (slice_range ms 0 (places_before size ms)))
    ++ back_starts ns whole.end end
    else prefix_starts ns whole.start ++ map (moved 0 whole.start) (slice_range ms 0 (length ms))

abbrev pub with_tokens : List Leaf → List ℕ → Flat → Flat
with_tokens ls ns f = record f { kinds = f.kinds ++ ls; starts = f.starts ++ ns }

abbrev pub with_statements : List Statement → Flat → Flat
with_statements ss f = record f { statements = f.statements ++ ss }

-- the statements, key parts and values of g
abbrev pub with_entries : Flat → Flat → Flat
with_entries g f =
    record f { statements = f.statements ++ g.statements; keys = f.keys ++ g.keys; values = f.values ++ g.values }
