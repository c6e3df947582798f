-- What holds of every edit that is not refused, and of the text that is got.
use Rattle.std.specs.Prelude.{◌≡◌, ℕ, ◌+◌, ◌≤◌, Bool, true, false, List, ◌++◌, length, map, Option, Some, None, IsUtf8}
use Rattle.std.specs.List.{AllByRecursion}
use Rattle.keep_types.specs.declared.leaf.Profile.{Profile}
use Rattle.keep_types.specs.declared.leaf.Profile.TheVariants.{Wide}
use Rattle.keep_token.specs.Encoded.{encoded_key}
use Rattle.keep_syntax.specs.Limit.{standard_depth}
use Rattle.keep_syntax.specs.Tree.{Value, Document, text, value_text, depth}
use Rattle.keep_syntax.specs.Grammar.{IsValue, IsDocument, Reads}
use Rattle.keep_path.specs.Path.{Part, key}
use Rattle.keep_path.specs.PathText.{encoded_path}
use Rattle.keep_meaning.specs.Rules.{ObeysRules}
use Rattle.keep_meaning.specs.Marks.{marks}
use Rattle.keep_meaning.specs.Meaning.{mentions_in, mentions_of_value}
use Rattle.keep_meaning.specs.Nodes.{fact_at}
use Rattle.keep_edit_spec.specs.Changed.{Changed, put}
use Rattle.keep_edit_spec.specs.Edits.{Edit, set, insert, rename, remove, append_table, append_element, change}
use Rattle.keep_edit_spec.specs.Edits.{edited_document, place}
use Rattle.keep_edit_spec.specs.Look.{keys_in}
use Rattle.keep_edit_spec.specs.Refusals.{refusal, has_value}
use Rattle.keep_edit_spec.specs.Trees.{IsTreeOf}
use Rattle.keep_edit_spec.specs.Answers.{value_at}

-- how many bytes the edit gives, as they are written: its path or key, and its value
abbrev pub given_size : Edit → ℕ
given_size (set path value) = length (encoded_path path) + length (value_text value)
given_size (insert path value) = length (encoded_path path) + length (value_text value)
given_size (rename path name) = length (encoded_key name)
given_size (remove path) = 0
given_size (append_table keys) = length (encoded_path (map key keys))
given_size (append_element keys) = length (encoded_path (map key keys))

-- ---- an edit that is not refused

-- There is a change. The new text is the old one with the stated place replaced, and it is read as the new document:
-- within the limit, by the rules, with the stated tree; and it has grown by no more than stated.
pub record IsLawfulEdit (profile : Profile) (limit : ℕ) (s : Document) (e : Edit) : Type 0 where
  pub changed : Changed Document
  pub is : change s e ≡ Some changed
  pub reads : Reads profile limit (put (text s) (place s e)) (edited_document s e)
  pub obeys : ObeysRules (marks (mentions_in (edited_document s e)))
  pub tree : IsTreeOf (mentions_in s) e (mentions_in (edited_document s e))
  pub growth : length (text (edited_document s e)) ≤ length (text s) + given_size e + 12

-- the document is valid, within the limit, and obeys the rules
pub record IsEditable (profile : Profile) (limit : ℕ) (s : Document) : Type 0 where
  pub valid : IsDocument profile s
  pub shallow : depth s ≤ limit
  pub obeys : ObeysRules (marks (mentions_in s))

-- ---- set

-- the value is of the profile's grammar and obeys the rules
pub record IsGivenValue (profile : Profile) (v : Value) : Type 0 where
  pub valid : IsValue profile v
  pub obeys : ObeysRules (marks (mentions_of_value v))

-- The value may be any of Wide's grammar: what a Strict document can't hold is refused.
abbrev pub SetIsLawful : Type 0
SetIsLawful =
    (profile : Profile) (limit : ℕ) (s : Document) (path : List Part) (new : Value) → IsEditable profile limit s
    → IsGivenValue Wide new
    → refusal profile limit s (set path new) ≡ None → IsLawfulEdit profile limit s (set path new)

-- ---- append_table, append_element

-- the keys are in UTF-8
abbrev pub AppendTableIsLawful : Type 0
AppendTableIsLawful =
    (profile : Profile) (limit : ℕ) (s : Document) (keys : List (List ℕ)) → IsEditable profile limit s
    → AllByRecursion IsUtf8 keys
    → refusal profile limit s (append_table keys) ≡ None → IsLawfulEdit profile limit s (append_table keys)

abbrev pub AppendElementIsLawful : Type 0
AppendElementIsLawful =
    (profile : Profile) (limit : ℕ) (s : Document) (keys : List (List ℕ)) → IsEditable profile limit s
    → AllByRecursion IsUtf8 keys
    → refusal profile limit s (append_element keys) ≡ None → IsLawfulEdit profile limit s (append_element keys)

-- ---- insert

-- the keys are in UTF-8, and the value is as for `set`
abbrev pub InsertIsLawful : Type 0
InsertIsLawful =
    (profile : Profile) (limit : ℕ) (s : Document) (path : List Part) (new : Value) → IsEditable profile limit s
    → IsGivenValue Wide new
    → AllByRecursion IsUtf8 (keys_in path) → refusal profile limit s (insert path new) ≡ None
    → IsLawfulEdit profile limit s (insert path new)

-- ---- remove

abbrev pub RemoveIsLawful : Type 0
RemoveIsLawful = (profile : Profile) (limit : ℕ) (s : Document) (path : List Part) → IsEditable profile limit s
    → refusal profile limit s (remove path) ≡ None → IsLawfulEdit profile limit s (remove path)

-- ---- rename

-- the key is in UTF-8
abbrev pub RenameIsLawful : Type 0
RenameIsLawful =
    (profile : Profile) (limit : ℕ) (s : Document) (path : List Part) (text : List ℕ) → IsEditable profile limit s
    → IsUtf8 text
    → refusal profile limit s (rename path text) ≡ None → IsLawfulEdit profile limit s (rename path text)

-- ---- get

-- It is the text of a value whose facts are those at the path, and it is in the document's text where `set` puts
-- others.
pub record IsTextAt (path : List Part) (s : Document) (t : List ℕ) : Type 0 where
  pub value : Value
  pub spelled : t ≡ value_text value
  pub facts : (q : List Part) → fact_at (path ++ q) (mentions_in s) ≡ fact_at q (mentions_of_value value)
  pub before : List ℕ
  pub after : List ℕ
  pub here : text s ≡ before ++ (t ++ after)
  pub set_there : (new : Value) → place s (set path new)
      ≡ record { start = length before; end = length before + length t; new = value_text new }

-- a text where there is a value, and else none
abbrev pub GivesText : List Part → Document → Bool → Option (List ℕ) → Type 0
GivesText path s true found = (t : List ℕ) × (found ≡ Some t) × IsTextAt path s t
GivesText path s false found = found ≡ None

abbrev pub GetIsRight : Type 0
GetIsRight =
    (path : List Part) (s : Document) → ObeysRules (marks (mentions_in s))
    → GivesText path s (has_value path (mentions_in s)) (value_at path s)

-- ---- every edit

abbrev pub GrowthIsBounded : Type 0
GrowthIsBounded =
    (profile : Profile) (limit : ℕ) (s : Document) (e : Edit) → IsDocument profile s
    → ObeysRules (marks (mentions_in s)) → refusal profile limit s e ≡ None
    → length (text (edited_document s e)) ≤ length (text s) + given_size e + 12

-- In either profile there are a document and an edit of it that is not refused, by which the text grows by as much.
abbrev pub GrowthReachesBound : Type 0
GrowthReachesBound =
    (profile : Profile) → (s : Document) × (path : List Part) × (new : Value) × IsEditable profile standard_depth s
    × IsGivenValue profile new
    × (refusal profile standard_depth s (insert path new) ≡ None)
    × (length (text (edited_document s (insert path new))) ≡ length (text s) + given_size (insert path new) + 12)

-- A change replaces its place in the text, and nothing else.
abbrev pub ChangeIsPut : Type 0
ChangeIsPut = (s : Document) (e : Edit) → text (edited_document s e) ≡ put (text s) (place s e)
