-- What is planned of tables and elements that are new at the end of a text: a header, and the line of a key.
use Rattle.std.specs.Prelude.{◌≡◌, ℕ, false, List, [], ◌∷◌, ◌++◌, length, map, IsUtf8}
use Rattle.keep_types.specs.declared.leaf.Profile.{Profile}
use Rattle.keep_syntax.specs.Tree.{Document, Value, text}
use Rattle.keep_path.specs.Path.{Part, key}
use Rattle.keep_meaning.specs.Marks.{elements_of}
use Rattle.keep_meaning.specs.Meaning.{mentions_in}
use Rattle.keep_meaning.specs.Nodes.{is_node}
use Rattle.keep_edit_spec.specs.Lines.{newline_of}
use Rattle.keep_edit_spec.specs.Look.{is_bracket_at}
use Rattle.keep_edit_spec.specs.Refusals.{tables_in}
use Rattle.keep_edit_spec.specs.TextChanges.{TextChange, change_at}
use Rattle.keep_edit_spec.specs.FilledTables.{AppendsNewElement, AppendsNewTable, IsFitting, key_line}
use Rattle.keep_edit_plan.specs.Answers.{IsSpanOf}
use Rattle.keep_edit_plan.specs.Reading.{IsTextOfTree, ProfiledText, limit}
use Rattle.keep_edit_plan.specs.TextEdits.{change_of}
use Rattle.keep_edit_plan.specs.declared.text_edit.TextEdit.{TextEdit}

-- The keys lead to no node of the document, and neither an array of tables nor a value in brackets is on their way.
pub record LeadToNone (s : Document) (keys : List (List ℕ)) : Type 0 where
  pub new : is_node (map key keys) (mentions_in s) ≡ false
  pub no_elements : (k : List ℕ) (ks rest : List (List ℕ)) → keys ≡ k ∷ ks ++ rest
      → elements_of (map key (k ∷ ks)) (tables_in (mentions_in s)) ≡ 0
  pub no_brackets : (ks rest : List (List ℕ)) → keys ≡ ks ++ rest
      → is_bracket_at (mentions_in s) (map key ks) ≡ false

-- The path has so many elements of an array of tables, and no value in brackets is there.
pub record HasElements (s : Document) (path : List Part) (number : ℕ) : Type 0 where
  pub counted : elements_of path (tables_in (mentions_in s)) ≡ number
  pub flat : is_bracket_at (mentions_in s) path ≡ false

-- The keys lead to so many elements of an array of tables, and neither another one nor a value in brackets is on their
-- way.
pub record LeadToElements (s : Document) (keys : List (List ℕ)) (number : ℕ) : Type 0 where
  pub counted : elements_of (map key keys) (tables_in (mentions_in s)) ≡ number
  pub no_elements : (k : List ℕ) (ks : List (List ℕ)) (l : List ℕ) (rest : List (List ℕ)) → keys ≡ k ∷ ks ++ l ∷ rest
      → elements_of (map key (k ∷ ks)) (tables_in (mentions_in s)) ≡ 0
  pub no_brackets : (ks rest : List (List ℕ)) → keys ≡ ks ++ rest
      → is_bracket_at (mentions_in s) (map key ks) ≡ false

-- The header of a table with these keys is appended to the document of this text by the change, and the table is new.
pub record AppendsNewTableHere (now : ProfiledText) (keys : List (List ℕ)) (t : TextEdit) : Type 0 where
  pub appends : (s : Document) → IsTextOfTree now s → AppendsNewTable now.profile limit s keys (change_of t)
  pub within : IsSpanOf now.text t.place

-- The header of the element with that number is appended by the change, past no other array of tables.
pub record AppendsNewElementHere (now : ProfiledText) (keys : List (List ℕ)) (number : ℕ) (t : TextEdit) : Type 0 where
  pub appends : (s : Document) → IsTextOfTree now s → AppendsNewElement now.profile limit s keys number (change_of t)
  pub within : IsSpanOf now.text t.place

-- The path ends in a key, whose line comes at the end of the text by this change, with a value that the document can
-- hold in a table.
pub record IsKeyLine (profile : Profile) (s : Document) (path : List Part) (value : Value) (c : TextChange) : Type
    0 where
  pub holder : List Part
  pub name : List ℕ
  pub whole : path ≡ holder ++ key name ∷ []
  pub utf8 : IsUtf8 name
  pub fitting : IsFitting profile limit value
  pub is : c ≡ change_at (length (text s)) 0 (key_line (newline_of s).text name value)
