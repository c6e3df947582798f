-- Tables and elements of arrays of tables that a list appends, with keys that it inserts into the last of them: all is
-- written at the end of the text. No array of tables is on their way, so their paths are those of their headers' keys,
-- and of an element its number after them.
use Rattle.std.specs.Prelude.{◌≡◌, ◌≢◌, ℕ, ◌+◌, ◌≤◌, Bool, false, List, [], ◌∷◌, ◌++◌, length, map, take, drop, All}
use Rattle.std.specs.Prelude.{None, IsUtf8}
use Rattle.std.specs.List.{count_by}
use Rattle.keep_types.specs.declared.leaf.Profile.{Profile}
use Rattle.keep_types.specs.declared.leaf.Profile.TheVariants.{Wide}
use Rattle.keep_syntax.specs.Tree as tree
use Rattle.keep_syntax.specs.Tree.{Document, Value, text, value_depth}
use Rattle.keep_path.specs.Path.{Part, index, key, same_path, strip}
use Rattle.keep_meaning.specs.Marks.{elements_of}
use Rattle.keep_meaning.specs.Meaning.{mentions_in}
use Rattle.keep_meaning.specs.Nodes.{is_node}
use Rattle.keep_edit_spec.specs.AddedLines.{AddsLine, first_new}
use Rattle.keep_edit_spec.specs.AppendedHeaders.{AppendsElement, AppendsTable, AreSameOrApart}
use Rattle.keep_edit_spec.specs.Edits.{Edit, append_element, append_table, edited_document, insert, remove, rename, set}
use Rattle.keep_edit_spec.specs.Insertion.{keyed_text}
use Rattle.keep_edit_spec.specs.Laws.{IsEditable, IsGivenValue, IsLawfulEdit}
use Rattle.keep_edit_spec.specs.Lines.{newline_of}
use Rattle.keep_edit_spec.specs.Look.{is_bracket_at}
use Rattle.keep_edit_spec.specs.Refusals.{is_foreign, refusal, tables_in}
use Rattle.keep_edit_spec.specs.Runs.{AreApart, PassesBy}
use Rattle.keep_edit_spec.specs.TextChanges.{Follow, IsBeside, TextChange, change_at, moved_by_all, moved_past}
use Rattle.keep_edit_spec.specs.TextChanges.{text_with, with_change}

-- The header of a table is appended that is not there yet: neither an array of tables nor a value in brackets is on its
-- way.
pub record AppendsNewTable (profile : Profile) (limit : ℕ) (s : Document) (keys : List (List ℕ)) (c : TextChange)
    : Type 0 where
  pub appends : AppendsTable profile limit s keys c
  pub new : is_node (map key keys) (mentions_in s) ≡ false
  pub no_elements : (k : List ℕ) (ks rest : List (List ℕ)) → keys ≡ k ∷ ks ++ rest
      → elements_of (map key (k ∷ ks)) (tables_in (mentions_in s)) ≡ 0
  pub no_brackets : (ks rest : List (List ℕ)) → keys ≡ ks ++ rest
      → is_bracket_at (mentions_in s) (map key ks) ≡ false

-- The header of the element with that number is appended, by such a way.
pub record AppendsNewElement (profile : Profile) (limit : ℕ) (s : Document) (keys : List (List ℕ)) (number : ℕ)
    (c : TextChange) : Type 0 where
  pub appends : AppendsElement profile limit s keys c
  pub counted : elements_of (map key keys) (tables_in (mentions_in s)) ≡ number
  pub no_elements : (k : List ℕ) (ks : List (List ℕ)) (l : List ℕ) (rest : List (List ℕ)) → keys ≡ k ∷ ks ++ l ∷ rest
      → elements_of (map key (k ∷ ks)) (tables_in (mentions_in s)) ≡ 0
  pub no_brackets : (ks rest : List (List ℕ)) → keys ≡ ks ++ rest
      → is_bracket_at (mentions_in s) (map key ks) ≡ false

abbrev pub element_at : List (List ℕ) → ℕ → List Part
element_at keys number = map key keys ++ index number ∷ []

-- ---- a key in such a table or element, by its path

abbrev pub key_in : List Part → List ℕ → List Part
key_in at name = at ++ key name ∷ []

abbrev pub key_path : List (List ℕ) → List ℕ → List Part
key_path keys name = key_in (map key keys) name

abbrev pub key_line : List ℕ → List ℕ → Value → List ℕ
key_line newline name value = keyed_text (name ∷ []) value ++ newline

-- a value that a document of this profile can hold in a table
pub record IsFitting (profile : Profile) (limit : ℕ) (value : Value) : Type 0 where
  pub given : IsGivenValue Wide value
  pub allowed : is_foreign profile value ≡ false
  pub shallow : value_depth value ≤ limit

-- A new key of what is at this path is inserted as a line at the end of the text, unless it is one of these.
abbrev pub IsOpen : Profile → ℕ → List ℕ → Document → List Part → List (List ℕ) → Type 0
IsOpen profile limit newline s at names =
    (name : List ℕ) (value : Value) → IsUtf8 name → IsFitting profile limit value → All (λ n. n ≢ name) names
    → AddsLine profile limit s (key_in at name) value
    (change_at (length (text s)) 0 (key_line newline name value))
    × (first_new s (key_in at name) ≡ key_in at name)

abbrev pub IsOpenTable : Profile → ℕ → List ℕ → Document → List (List ℕ) → List (List ℕ) → Type 0
IsOpenTable profile limit newline s keys names = IsOpen profile limit newline s (map key keys) names

-- ---- a run of tables, elements and keys

-- After the edit the table can still be new: no header is of it or of a table below it, and no key is on its way; and
-- no element is.
abbrev pub LetsTableCome : List (List ℕ) → Edit → Type 0
LetsTableCome keys (append_table more) = strip (map key keys) (map key more) ≡ None
LetsTableCome keys (append_element more) = AreApart (map key more) (map key keys)
LetsTableCome keys (insert path value) = PassesBy keys path
LetsTableCome keys (set path value) = ⊥
LetsTableCome keys (rename path name) = ⊥
LetsTableCome keys (remove path) = ⊥

-- and so an element can come: of the same array, or one that is apart from what came
abbrev pub LetsElementCome : List (List ℕ) → Edit → Type 0
LetsElementCome keys (append_table more) = AreApart (map key more) (map key keys)
LetsElementCome keys (append_element more) = AreSameOrApart more keys
LetsElementCome keys (insert path value) = PassesBy keys path
LetsElementCome keys (set path value) = ⊥
LetsElementCome keys (rename path name) = ⊥
LetsElementCome keys (remove path) = ⊥

-- how many of these edits append an element of that array
abbrev pub is_element_of : List (List ℕ) → Edit → Bool
is_element_of keys (append_element more) = same_path (map key more) (map key keys)
is_element_of keys e = false

abbrev pub elements_among : List (List ℕ) → List Edit → ℕ
elements_among keys edits = count_by (is_element_of keys) edits

-- The document after these edits, each of which appended a new table or an element, or inserted a key into the last.
-- The text is that of the first document with the changes, and bytes beside these are there still. A new table is
-- appended by its change still, if the edits let it come, and so is an element, with its number then.
pub record IsFilledRun (profile : Profile) (limit : ℕ) (s : Document) (edits : List Edit) (changes : List TextChange)
    (now : Document) : Type 0 where
  pub first : IsEditable profile limit s
  pub editable : IsEditable profile limit now
  pub follow : Follow 0 changes
  pub text : text now ≡ text_with 0 (text s) changes
  pub kept : (r : TextChange) → All (λ d. IsBeside d r) changes → r.at + r.size ≤ length (tree.text s)
      → take r.size (drop (moved_by_all changes r.at) (tree.text now)) ≡ take r.size (drop r.at (tree.text s))
  pub newline : newline_of now ≡ newline_of s
  pub end : moved_by_all changes (length (tree.text s)) ≡ length (tree.text now)
  pub later : (keys : List (List ℕ)) (c : TextChange) → AppendsNewTable profile limit s keys c
      → All (LetsTableCome keys) edits → All (λ d. IsBeside d c) changes
      → AppendsNewTable profile limit now keys (moved_past changes c)
  pub later_element : (keys : List (List ℕ)) (number : ℕ) (c : TextChange)
      → AppendsNewElement profile limit s keys number c → All (LetsElementCome keys) edits
      → All (λ d. IsBeside d c) changes
      → AppendsNewElement profile limit now keys (elements_among keys edits + number) (moved_past changes c)

-- one edit more: it is not refused, and the run is longer
pub record IsFilledRunLonger (profile : Profile) (limit : ℕ) (s : Document) (edits : List Edit)
    (changes : List TextChange) (now : Document) (e : Edit) (c : TextChange) : Type 0 where
  pub allowed : refusal profile limit now e ≡ None
  pub lawful : IsLawfulEdit profile limit now e
  pub run : IsFilledRun profile limit s (e ∷ edits) (with_change changes c) (edited_document now e)

abbrev pub NoneIsFilledRun : Type 0
NoneIsFilledRun = (profile : Profile) (limit : ℕ) (s : Document) → IsEditable profile limit s
    → IsFilledRun profile limit s [] [] s

-- With a new table more, that is the open one.
abbrev pub FilledRunGoesOnTable : Type 0
FilledRunGoesOnTable =
    (profile : Profile) (limit : ℕ) (s : Document) (edits : List Edit) (changes : List TextChange) (now : Document)
    (keys : List (List ℕ)) (c : TextChange)
    → IsFilledRun profile limit s edits changes now → AppendsNewTable profile limit s keys c
    → All (LetsTableCome keys) edits → All (λ d. IsBeside d c) changes
    → IsFilledRunLonger profile limit s edits changes now (append_table keys) c
    × IsOpenTable profile limit (newline_of s).text (edited_document now (append_table keys)) keys []

-- With an element more, that is the open one.
abbrev pub FilledRunGoesOnElement : Type 0
FilledRunGoesOnElement =
    (profile : Profile) (limit : ℕ) (s : Document) (edits : List Edit) (changes : List TextChange) (now : Document)
    (keys : List (List ℕ)) (number : ℕ) (c : TextChange)
    → IsFilledRun profile limit s edits changes now → AppendsNewElement profile limit s keys number c
    → All (LetsElementCome keys) edits → All (λ d. IsBeside d c) changes
    → IsFilledRunLonger profile limit s edits changes now (append_element keys) c
    × IsOpen profile limit (newline_of s).text (edited_document now (append_element keys))
    (element_at keys (elements_among keys edits + number)) []

-- With a key more it stays open for others.
abbrev pub FilledRunGoesOnKey : Type 0
FilledRunGoesOnKey =
    (profile : Profile) (limit : ℕ) (s : Document) (edits : List Edit) (changes : List TextChange) (now : Document)
    (at : List Part) (names : List (List ℕ)) (name : List ℕ) (value : Value) (c : TextChange)
    → IsFilledRun profile limit s edits changes now
    → IsOpen profile limit (newline_of s).text now at names
    → IsUtf8 name → IsFitting profile limit value → All (λ n. n ≢ name) names
    → c ≡ change_at (length (text s)) 0 (key_line (newline_of s).text name value) → All (λ d. IsBeside d c) changes
    → IsFilledRunLonger profile limit s edits changes now (insert (key_in at name) value) c
    × IsOpen profile limit (newline_of s).text (edited_document now (insert (key_in at name) value)) at
    (name ∷ names)
