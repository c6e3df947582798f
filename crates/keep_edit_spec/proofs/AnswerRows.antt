-- What is known of small documents, and what comes of lists of edits, computed from the texts.
--
-- A row has a question and the answer that is wanted (`Row`): the text of a value or what a string means, or why there
-- is none; how many tokens and nodes there are; the paths of the nodes with their kinds, or the lines in which they are
-- listed; or what a list of edits makes of the text, else the first edit that is refused. `stated` puts what the
-- definitions give in the place of the answer. `StatesEdits` reads the text as a document and says that its rows stay
-- the same by that; a text that can't be read makes it false. Each proof is by computing, so there is no induction and
-- no lemma.
--
-- Each row is a theorem of its own.
use Rattle.std.proofs.Common.{◌≡◌, ℕ, List, [], ◌∷◌, length, map, refl}
use Rattle.std.specs.Prelude.{codes, Result, Ok, Err}
use Rattle.keep_types.specs.declared.leaf.Profile.TheVariants.{Strict}
use Rattle.keep_token.specs.Scanning.{gap_at, key_at, scalar_at}
use Rattle.keep_token.specs.Words.{word_leaf}
use Rattle.keep_syntax.specs.Limit.{standard_depth}
use Rattle.keep_syntax.specs.Tree.{Document, leaves, text}
use Rattle.keep_syntax.specs.Reading.{Fault, repeat, space_at, blank_from, further_at, key_of, name_of, item_by}
use Rattle.keep_syntax.specs.Reading.{entry_by, value_of, content_at, comment_at, line_at, ended_at, read_document}
use Rattle.keep_syntax.specs.Reading.{read_one_value}
use Rattle.keep_types.specs.declared.node.Kind.{Kind}
use Rattle.keep_types.specs.declared.node.Kind.TheVariants as kind
use Rattle.keep_path.specs.Path.{Part, key, index}
use Rattle.keep_meaning.specs.Meaning.{mentions_in}
use Rattle.keep_meaning.specs.Nodes.{node_paths, kind_at}
use Rattle.keep_edit_spec.specs.declared.fault.EditFault.{EditFault}
use Rattle.keep_edit_spec.specs.declared.fault.EditFault.TheVariants as fault
use Rattle.keep_edit_spec.specs.Edits.{Edit, set, insert, rename, remove}
use Rattle.keep_edit_spec.specs.Answers.{get, string_at, Listed, listed_in, Refused, applied_edits}
use Rattle.keep_edit_spec.proofs.Rows.{value}

-- what is asked of a document, and what is answered
pub data Row : Type 0 where
  gets : (path : List Part) (stated : Result (List ℕ) EditFault) → Row
  string_is : (path : List Part) (stated : Result (List ℕ) EditFault) → Row
  counts : (tokens nodes : ℕ) → Row
  nodes_are : (paths : List (List Part)) (kinds : List Kind) → Row
  lists : (nodes : List Listed) → Row
  becomes : (edits : List Edit) (stated : Result (List ℕ) Refused) → Row

abbrev text_of : Result Document Refused → Result (List ℕ) Refused
text_of (Ok s) = Ok (text s)
text_of (Err r) = Err r

abbrev kinds_of : Document → List Kind
kinds_of s = map (λ path. kind_at path (mentions_in s)) (node_paths (mentions_in s))

-- what the definitions tell
abbrev stated : Document → Row → Row
stated s (gets path t) = gets path (get path s)
stated s (string_is path t) = string_is path (string_at path s)
stated s (counts tokens nodes) = counts (length (leaves s)) (length (node_paths (mentions_in s)))
stated s (nodes_are paths kinds) = nodes_are (node_paths (mentions_in s)) (kinds_of s)
stated s (lists nodes) = lists (listed_in s)
stated s (becomes edits t) = becomes edits (text_of (applied_edits Strict standard_depth edits s))

abbrev Of : Result Document Fault → (Document → Type 0) → Type 0
Of (Ok s) P = P s
Of (Err f) P = ⊥

-- of the document with this text
abbrev StatesEdits : List ℕ → List Row → Type 0
StatesEdits text rows = Of (read_document Strict standard_depth text) (λ s. map (stated s) rows ≡ rows)

number_with_comment : StatesEdits (codes "a = 1 # x\n") (
    gets (key (codes "a") ∷ []) (Ok (codes "1"))
    ∷ gets (key (codes "c") ∷ []) (Err fault.NotFound)
    ∷ gets [] (Err fault.NotValue)
    ∷ string_is (key (codes "a") ∷ []) (Err fault.NotValue)
    ∷ [])
unfolding repeat space_at blank_from further_at key_of name_of item_by entry_by value_of content_at comment_at line_at
    ended_at read_document read_one_value gap_at key_at scalar_at word_leaf
number_with_comment = refl

value_in_value : StatesEdits (codes "a = [1, {b = [ 2, 3 ]}]\n[t]\n") (
    gets (key (codes "a") ∷ index 1 ∷ key (codes "b") ∷ []) (Ok (codes "[ 2, 3 ]"))
    ∷ gets (key (codes "a") ∷ index 1 ∷ key (codes "b") ∷ index 1 ∷ []) (Ok (codes "3"))
    ∷ gets (key (codes "t") ∷ []) (Err fault.NotValue)
    ∷ [])
unfolding repeat space_at blank_from further_at key_of name_of item_by entry_by value_of content_at comment_at line_at
    ended_at read_document read_one_value gap_at key_at scalar_at word_leaf
value_in_value = refl

string_without_escapes : StatesEdits (codes "a = \"x\\n\"\n") (
    gets (key (codes "a") ∷ []) (Ok (codes "\"x\\n\""))
    ∷ string_is (key (codes "a") ∷ []) (Ok (codes "x\n"))
    ∷ [])
unfolding repeat space_at blank_from further_at key_of name_of item_by entry_by value_of content_at comment_at line_at
    ended_at read_document read_one_value gap_at key_at scalar_at word_leaf
string_without_escapes = refl

empty : StatesEdits [] (counts 1 1 ∷ lists [] ∷ [])
unfolding repeat space_at blank_from further_at key_of name_of item_by entry_by value_of content_at comment_at line_at
    ended_at read_document read_one_value gap_at key_at scalar_at word_leaf
empty = refl

two_keys : StatesEdits (codes "a = 1\nb = true\n") (counts 13 3 ∷ [])
unfolding repeat space_at blank_from further_at key_of name_of item_by entry_by value_of content_at comment_at line_at
    ended_at read_document read_one_value gap_at key_at scalar_at word_leaf
two_keys = refl

arrays_in_arrays : StatesEdits (codes "a = [1, [2, 'x'],]") (counts 17 6 ∷ [])
unfolding repeat space_at blank_from further_at key_of name_of item_by entry_by value_of content_at comment_at line_at
    ended_at read_document read_one_value gap_at key_at scalar_at word_leaf
arrays_in_arrays = refl

braces_with_dotted_keys : StatesEdits (codes "a = {b.c = 1, b.d = {}}") (counts 24 5 ∷ [])
unfolding repeat space_at blank_from further_at key_of name_of item_by entry_by value_of content_at comment_at line_at
    ended_at read_document read_one_value gap_at key_at scalar_at word_leaf
braces_with_dotted_keys = refl

elements_in_elements : StatesEdits (codes "[[a]]\n[[a.b]]\n[[a]]\n[[a.b]]\n") (counts 21 8 ∷ [])
unfolding repeat space_at blank_from further_at key_of name_of item_by entry_by value_of content_at comment_at line_at
    ended_at read_document read_one_value gap_at key_at scalar_at word_leaf
elements_in_elements = refl

long_header : StatesEdits (codes "[x.y.z.w]\n[x]\n") (counts 15 5 ∷ [])
unfolding repeat space_at blank_from further_at key_of name_of item_by entry_by value_of content_at comment_at line_at
    ended_at read_document read_one_value gap_at key_at scalar_at word_leaf
long_header = refl

keys_below_element : StatesEdits (codes "[[a]]\n[a.s]\nx.y = 1\n") (counts 19 6 ∷ [])
unfolding repeat space_at blank_from further_at key_of name_of item_by entry_by value_of content_at comment_at line_at
    ended_at read_document read_one_value gap_at key_at scalar_at word_leaf
keys_below_element = refl

header_below_dotted_keys : StatesEdits (codes "[f]\np.c = 1\n[f.p.q]\n") (counts 21 5 ∷ [])
unfolding repeat space_at blank_from further_at key_of name_of item_by entry_by value_of content_at comment_at line_at
    ended_at read_document read_one_value gap_at key_at scalar_at word_leaf
header_below_dotted_keys = refl

elements_in_order : StatesEdits (codes "[[a]]\n[a.b]\n[[a]]\n[a.b]\n") (
    nodes_are
    ([] ∷ (key (codes "a") ∷ []) ∷ (key (codes "a") ∷ index 0 ∷ []) ∷ (key (codes "a") ∷ index 0 ∷ key (codes "b") ∷ [])
    ∷ (key (codes "a") ∷ index 1 ∷ []) ∷ (key (codes "a") ∷ index 1 ∷ key (codes "b") ∷ []) ∷ [])
    (kind.Table ∷ kind.Tables ∷ kind.Table ∷ kind.Table ∷ kind.Table ∷ kind.Table ∷ [])
    ∷ [])
unfolding repeat space_at blank_from further_at key_of name_of item_by entry_by value_of content_at comment_at line_at
    ended_at read_document read_one_value gap_at key_at scalar_at word_leaf
elements_in_order = refl

-- dotted keys before the keys that they hold, the root left out, keys in quotation marks where they must be
listed_in_order : StatesEdits (codes "a.b = 1\n'x y' = \"s\"\n[t]\nu = {v = 1979-05-27}\n") (
    lists (
    record { path = codes "a"; kind = kind.Table }
    ∷ record { path = codes "a.b"; kind = kind.Integer }
    ∷ record { path = codes "\"x y\""; kind = kind.Str }
    ∷ record { path = codes "t"; kind = kind.Table }
    ∷ record { path = codes "t.u"; kind = kind.Inline }
    ∷ record { path = codes "t.u.v"; kind = kind.LocalDate }
    ∷ [])
    ∷ [])
unfolding repeat space_at blank_from further_at key_of name_of item_by entry_by value_of content_at comment_at line_at
    ended_at read_document read_one_value gap_at key_at scalar_at word_leaf
listed_in_order = refl

edits_in_order : StatesEdits (codes "a = 1\n") (
    becomes [] (Ok (codes "a = 1\n"))
    ∷ becomes (set (key (codes "a") ∷ []) (value (codes "2")) ∷ set (key (codes "q") ∷ []) (value (codes "1")) ∷ [])
    (Err (record { number = 1; fault = fault.NotFound }))
    ∷ becomes (rename (key (codes "a") ∷ []) (codes "b") ∷ insert (key (codes "a") ∷ []) (value (codes "[]"))
    ∷ remove (key (codes "b") ∷ []) ∷ []) (Ok (codes "a = []\n"))
    ∷ [])
unfolding repeat space_at blank_from further_at key_of name_of item_by entry_by value_of content_at comment_at line_at
    ended_at read_document read_one_value gap_at key_at scalar_at word_leaf
edits_in_order = refl
