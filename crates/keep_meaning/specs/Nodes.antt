-- The nodes of a document, in the order in which they are first met, and what is known of each.
use Rattle.std.specs.Prelude.{ℕ, Bool, true, false, ◌&&◌, ◌||◌, if◌then◌else◌, List, [], ◌∷◌, ◌++◌, map, filter, fold}
use Rattle.std.specs.Prelude.{Option, Some, None, position, slice_get}
use Rattle.std.specs.List.{count_by, filter_map, list_any}
use Rattle.std.specs.Option.{option_map, option_and_then}
use Rattle.keep_types.specs.declared.leaf.Leaf.{Leaf}
use Rattle.keep_types.specs.declared.leaf.Leaf.TheVariants as leaf
use Rattle.keep_types.specs.declared.syntax.Span.{Span}
use Rattle.keep_types.specs.declared.syntax.KeyPart.{KeyPart}
use Rattle.keep_types.specs.declared.syntax.ValueInfo.{ValueInfo}
use Rattle.keep_syntax.specs.Tree.{Document}
use Rattle.keep_types.specs.declared.node.Kind.{Kind}
use Rattle.keep_types.specs.declared.node.Kind.TheVariants as kind
use Rattle.keep_types.specs.declared.node.Origin.{Origin}
use Rattle.keep_types.specs.declared.node.Origin.TheVariants as origin
use Rattle.keep_types.specs.declared.node.NodeInfo.{NodeInfo}
use Rattle.keep_meaning.specs.Fact as fact
use Rattle.keep_meaning.specs.Fact.{Fact}
use Rattle.keep_path.specs.Path.{Part, same_part, same_path}
use Rattle.keep_meaning.specs.Marks.{MentionKind, through, define, element, dotted, begun, passed, Mention, marks}
use Rattle.keep_meaning.specs.Marks.{fact_of}
use Rattle.keep_meaning.specs.Counts.{Count, Numbered, is_value, is_mark, numbered_in}

-- ---- what is said of a path

abbrev pub is_at : List Part → Mention → Bool
is_at path m = same_path m.path path

abbrev pub kinds_at : List Part → List Mention → List MentionKind
kinds_at path ms = map (λ m. m.kind) (filter (is_at path) ms)

abbrev pub is_root : List Part → Bool
is_root [] = true
is_root _ = false

-- the path names a node: the root, and what is mentioned
abbrev pub is_node : List Part → List Mention → Bool
is_node path ms = is_root path || list_any (is_at path) ms

abbrev pub first_of : List Fact → Option Fact
first_of [] = None
first_of (f ∷ fs) = Some f

-- what is at the path, if its text or a header says so
abbrev pub fact_at : List Part → List Mention → Option Fact
fact_at path ms = first_of (filter_map fact_of (kinds_at path ms))

abbrev pub is_through : MentionKind → Bool
is_through through = true
is_through _ = false

abbrev pub is_define : MentionKind → Bool
is_define define = true
is_define _ = false

abbrev pub is_element : MentionKind → Bool
is_element element = true
is_element _ = false

abbrev pub is_dotted : MentionKind → Bool
is_dotted dotted = true
is_dotted _ = false

abbrev pub is_begun : MentionKind → Bool
is_begun begun = true
is_begun _ = false

abbrev pub is_passed : MentionKind → Bool
is_passed passed = true
is_passed _ = false

-- such a thing is said of the path
abbrev pub has : (MentionKind → Bool) → List Part → List Mention → Bool
has is path ms = list_any is (kinds_at path ms)

-- how many key parts name the path
abbrev pub mark_count : List Part → List Mention → ℕ
mark_count path ms = count_by (λ m. same_path m.path path) (marks ms)

-- ---- the nodes: the root, and what is mentioned

-- a path joins the nodes when it is first met
abbrev pub paths_with : List (List Part) → List Part → List (List Part)
paths_with paths path = if list_any (same_path path) paths then paths else paths ++ path ∷ []

abbrev pub node_paths : List Mention → List (List Part)
node_paths ms = fold paths_with ([] ∷ []) (map (λ m. m.path) ms)

-- the number of the node with this path
abbrev pub node_number : List (List Part) → List Part → Option ℕ
node_number paths path = position (same_path path) paths

-- the second path is one step longer than the first
abbrev pub is_child : List Part → List Part → Bool
is_child [] (q ∷ []) = true
is_child (p ∷ ps) (q ∷ qs) = same_part p q && is_child ps qs
is_child _ _ = false

-- the nodes one step below a path, in the order of first meeting
abbrev pub children : List Part → List (List Part) → List (List Part)
children parent paths = filter (is_child parent) paths

-- ---- kinds

-- of a date, a time or both
abbrev pub moment_kind : Leaf → Kind
moment_kind leaf.OffsetDateTime = kind.OffsetDateTime
moment_kind leaf.LocalDateTime = kind.LocalDateTime
moment_kind leaf.LocalDate = kind.LocalDate
moment_kind _ = kind.LocalTime

abbrev pub fact_kind : Fact → Kind
fact_kind (fact.string v) = kind.Str
fact_kind (fact.integer v) = kind.Integer
fact_kind (fact.boolean v) = kind.Boolean
fact_kind (fact.float v) = kind.Float
fact_kind (fact.moment l v) = moment_kind l
fact_kind fact.array = kind.Array
fact_kind fact.inline = kind.Inline
fact_kind fact.table = kind.Table

-- a node that neither a value nor a header names is a table
abbrev pub kind_or_table : Option Fact → Kind
kind_or_table None = kind.Table
kind_or_table (Some f) = fact_kind f

-- the kind of a node of which this is said
abbrev pub mentioned_kind : List MentionKind → Kind
mentioned_kind kinds =
    if list_any is_element kinds then kind.Tables else kind_or_table (first_of (filter_map fact_of kinds))

abbrev pub kind_at : List Part → List Mention → Kind
kind_at path ms = mentioned_kind (kinds_at path ms)

-- ---- what is known of a node: from what is said at its path alone

abbrev pub is_numbered_at : List Part → Numbered → Bool
is_numbered_at path n = is_at path n.mention

abbrev pub numbered_at : List Part → List Numbered → List Numbered
numbered_at path ns = filter (is_numbered_at path) ns

abbrev pub mention_of : Numbered → Mention
mention_of n = n.mention

abbrev pub mention_kind_of : Numbered → MentionKind
mention_kind_of n = n.mention.kind

-- the number that the last mention of one kind has, and the first
abbrev pub last_number : (MentionKind → Bool) → (Count → ℕ) → List Numbered → Option ℕ
last_number is number ns = fold (λ known n. if is n.mention.kind then Some (number n.before) else known) None ns

abbrev pub first_number : (MentionKind → Bool) → (Count → ℕ) → List Numbered → Option ℕ
first_number is number [] = None
first_number is number (n ∷ ns) = if is n.mention.kind then Some (number n.before) else first_number is number ns

abbrev pub statement_number : Count → ℕ
statement_number c = c.statements

abbrev pub value_number : Count → ℕ
value_number c = c.values

abbrev pub key_number : Count → ℕ
key_number c = c.keys

abbrev pub first_that_fits : List (Option Origin) → Origin
first_that_fits [] = origin.Root
first_that_fits (None ∷ rest) = first_that_fits rest
first_that_fits (Some p ∷ rest) = p

-- where a node comes from: the first that fits, by the last mention of its kind
abbrev pub mentioned_origin : List Numbered → Origin
mentioned_origin ns = first_that_fits (
    option_map origin.Value (last_number is_value value_number ns)
    ∷ option_map (λ i. origin.Tables) (last_number is_element statement_number ns)
    ∷ option_map origin.Element (last_number is_begun statement_number ns)
    ∷ option_map origin.Header (last_number is_define statement_number ns)
    ∷ option_map origin.Dotted (last_number is_dotted value_number ns)
    ∷ option_map origin.Through (last_number is_through statement_number ns)
    ∷ [])

-- A node's path, the number of its value and of the first key part that names it, and what else is known of it.
pub record Node : Type 0 where
  pub path : List Part
  pub kind : Kind
  pub value : Option ℕ
  pub key : Option ℕ
  pub marks : ℕ
  pub passed : Bool
  pub origin : Origin

abbrev pub node_path : Node → List Part
node_path n = n.path

-- the node at a path of which this is said
abbrev pub mentioned_node : List Part → List Numbered → Node
mentioned_node path ns = record {
  path = path;
  kind = mentioned_kind (map mention_kind_of ns);
  value = last_number is_value value_number ns;
  key = first_number is_mark key_number ns;
  marks = count_by (λ n. is_mark n.mention.kind) ns;
  passed = list_any (λ n. is_passed n.mention.kind) ns;
  origin = mentioned_origin ns;
}

abbrev pub node_at : List Numbered → List Part → Node
node_at ns path = mentioned_node path (numbered_at path ns)

abbrev pub nodes_of : List Numbered → List Node
nodes_of ns = map (node_at ns) (node_paths (map mention_of ns))

-- the nodes of a document
abbrev pub nodes_in : Document → List Node
nodes_in s = nodes_of (numbered_in s)

-- ---- what the index states: numbers

abbrev pub node_info : Node → NodeInfo
node_info n = record { kind = n.kind; key = n.key; marks = n.marks; passed = n.passed; origin = n.origin }

-- what is known of each node of a document
abbrev pub infos_in : Document → List NodeInfo
infos_in s = map node_info (nodes_in s)

-- ---- where it is in the text

abbrev pub value_span : List ValueInfo → ℕ → Option Span
value_span values v = option_map (λ i. i.span) (slice_get values v)

abbrev pub key_span : List KeyPart → ℕ → Option Span
key_span parts k = option_map (λ p. p.span) (slice_get parts k)

-- the text of a node's value, and the first key part that names it
abbrev pub value_span_of : List ValueInfo → Node → Option Span
value_span_of values n = option_and_then (value_span values) n.value

abbrev pub key_span_of : List KeyPart → Node → Option Span
key_span_of parts n = option_and_then (key_span parts) n.key
