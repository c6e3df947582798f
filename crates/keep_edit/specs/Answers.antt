-- What a document answers, by its tree.
use Rattle.std.specs.Prelude.{◌≡◌, ℕ, ℤ, if◌then◌else◌, List, ◌++◌, drop, map, length, Option, Some, None, Result}
use Rattle.std.specs.Prelude.{⊤, String, string_bytes}
use Rattle.std.specs.Global.{Global}
use Rattle.keep_syntax.specs.Tree.{Document}
use Rattle.keep_syntax.specs.Numbered.{tokens}
use Rattle.keep_types.specs.declared.node.Kind.{Kind}
use Rattle.keep_meaning.specs.Fact as fact
use Rattle.keep_meaning.specs.Fact.{Fact}
use Rattle.keep_meaning.specs.Marks.{Mention}
use Rattle.keep_meaning.specs.Meaning.{mentions_in}
use Rattle.keep_meaning.specs.Nodes.{node_paths, nodes_in, is_node, kind_at, fact_at}
use Rattle.keep_path.specs.Path.{Part}
use Rattle.keep_path.specs.PathText.{encoded_path}
use Rattle.keep_rules.specs.PathRooms.{HasRoom}
use Rattle.keep_edit_spec.specs.declared.fault.EditFault.{EditFault}
use Rattle.keep_edit_spec.specs.declared.splice.Splice.{Splice}
use Rattle.keep_edit_spec.specs.Answers.{string_of}
use Rattle.keep_edit_spec.specs.Edits.{Edit}
use Rattle.keep_edit.specs.Reading.{ProfiledText, text_in}
use Rattle.keep_edit.specs.declared.document.Counts.{Counts}
use Rattle.keep_edit.specs.declared.document.Entry.{Entry}
use Rattle.keep_edit_plan.specs.declared.text_edit.TextEdit.{TextEdit}
pub use Rattle.keep_edit_plan.specs.Answers.{path_at, refusal_in, splice_of, text_after, value_number_of, HasNoValue}
pub use Rattle.keep_edit_plan.specs.Answers.{IsDone, IsEdited, IsFound, IsMade, IsSpanOf, IsTextAfter}

-- ---- the whole

-- how many tokens, `End` among them, and how many nodes, the root among them
abbrev pub counts_of : Document → Counts
counts_of s = record { tokens = length (tokens s); nodes = length (nodes_in s) }

abbrev pub entry_at : List Mention → List Part → Entry
entry_at ms path = record { path = path; kind = kind_at path ms }

-- all nodes but the root, in the order of the text
abbrev pub entries_of : Document → List Entry
entries_of s = map (entry_at (mentions_in s)) (drop 1 (node_paths (mentions_in s)))

-- After a text the path of an entry is written, and its kind is reported; where there is none, nothing is.
abbrev pub AddsEntryPath : Option Entry → Option Kind → List ℕ → List ℕ → Type 0
AddsEntryPath None kind old new = (kind ≡ None) × (new ≡ old)
AddsEntryPath (Some e) kind old new = (kind ≡ Some e.kind) × (new ≡ old ++ encoded_path e.path)

-- there is room for the text of its path, if there is an entry
abbrev pub HasEntryRoom : ℕ → String Global → Option Entry → Type 0
HasEntryRoom nodes out None = ⊤
HasEntryRoom nodes out (Some e) = HasRoom nodes out e.path

-- ---- one node

abbrev pub kind_of : List Part → Document → Option Kind
kind_of path s = if is_node path (mentions_in s) then Some (kind_at path (mentions_in s)) else None

-- what an integer means
abbrev pub integer_of : Option Fact → Option ℤ
integer_of None = None
integer_of (Some f) = elim f [ fact.integer n ↦ Some n | _ ↦ None ]

abbrev pub int_value_of : List Part → Document → Option ℤ
int_value_of path s = integer_of (fact_at path (mentions_in s))

-- what a string means
abbrev pub str_value_of : List Part → Document → Option (List ℕ)
str_value_of path s = string_of (fact_at path (mentions_in s))

-- ---- edits

-- the document is changed
abbrev pub EditDone : Document → Edit → ProfiledText → ProfiledText → Result Splice EditFault → Type 0
EditDone s e old new result = IsDone (IsEdited s e new old) (refusal_in old s e) result

-- the changed text is given
abbrev pub EditReported : Document → Edit → ProfiledText → Result (String Global) EditFault → Type 0
EditReported s e old result =
    IsDone (λ text. IsTextAfter s e (text_in old.profile (string_bytes text)) old) (refusal_in old s e) result

-- what is written into the text is given, and where
abbrev pub EditWritten : Document → Edit → ProfiledText → Result TextEdit EditFault → Type 0
EditWritten s e old result = IsDone (IsMade s e old) (refusal_in old s e) result
