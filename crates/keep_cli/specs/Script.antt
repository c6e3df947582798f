-- What a script's text means: a document whose only key is `edit`, an array of tables, each of which states an edit.
use Rattle.std.specs.Prelude.{◌≡◌, ⊤, ℕ, zero, suc, ◌+◌, ◌<◌, List, [], ◌∷◌, codes, length, Option, Some, None}
use Rattle.std.specs.Option.{option_and_then}
use Rattle.keep_types.specs.declared.leaf.Profile.{Profile}
use Rattle.keep_types.specs.declared.leaf.Profile.TheVariants.{Strict}
use Rattle.keep_syntax.specs.Tree.{Document}
use Rattle.keep_path.specs.Path.{Part, key, index}
use Rattle.keep_types.specs.declared.node.Kind.{Kind}
use Rattle.keep_types.specs.declared.node.Kind.TheVariants.{Tables}
use Rattle.keep_meaning.specs.ReadText.{IsReadFault}
use Rattle.keep_edit.specs.Answers.{kind_of, str_value_of}
use Rattle.keep_edit.specs.Children.{child_count_of}
use Rattle.keep_edit.specs.Reading.{limit, text_in, IsTextOfTree}
use Rattle.keep_edit_plan.specs.declared.edit.Edit.{Edit}
use Rattle.keep_args.specs.declared.subcommand.Op.{Op}
use Rattle.keep_args.specs.declared.subcommand.Word.{Word}
use Rattle.keep_args.specs.declared.subcommand.Word.TheVariants as word
use Rattle.keep_args.specs.Table.{edit_words}
use Rattle.keep_args.specs.Wanted.{op_named}
use Rattle.keep_cli.specs.declared.edit.WordFault.{WordFault}
use Rattle.keep_cli.specs.declared.edit.WordFault.TheVariants as word_fault
use Rattle.keep_cli.specs.declared.fault.EntryWhy.{EntryWhy}
use Rattle.keep_cli.specs.declared.fault.EntryWhy.TheVariants as why
use Rattle.keep_cli.specs.declared.fault.UseFault.{UseFault}
use Rattle.keep_cli.specs.declared.fault.UseFault.TheVariants as fault
use Rattle.keep_cli.specs.EditWords.{Makes, MakesNone}

-- ---- the elements

abbrev pub edit_path : List Part
edit_path = key (codes "edit") ∷ []

abbrev pub element_path : ℕ → List Part
element_path n = key (codes "edit") ∷ index n ∷ []

abbrev pub key_path : ℕ → List ℕ → List Part
key_path n name = key (codes "edit") ∷ index n ∷ key name ∷ []

-- how many elements there are, by the number of top-level keys, and the kind and the elements of `edit`
abbrev pub counted : Option ℕ → Option Kind → Option ℕ → Option ℕ
counted (Some zero) kind n = Some 0
counted (Some (suc zero)) (Some Tables) n = n
counted _ _ _ = None

-- How many elements a script has: none where the document has no key. Where `edit` is not the only key, or no array of
-- tables, it is no script.
abbrev pub element_count : Document → Option ℕ
element_count s = counted (child_count_of [] s) (kind_of edit_path s) (child_count_of edit_path s)

-- ---- what an element gives

-- what the string at a key of an element means; nothing where there is no such key, or no string
abbrev pub given : Document → ℕ → List ℕ → Option (List ℕ)
given s n name = str_value_of (key_path n name) s

abbrev pub op_of : Document → ℕ → Option Op
op_of s n = option_and_then op_named (given s n (codes "op"))

-- the key at which an element has a word of its op
abbrev pub word_key : Word → List ℕ
word_key word.Value = codes "value"
word_key word.Key = codes "key"
word_key _ = codes "path"

-- the element has these strings at the keys of such words
abbrev pub AreGiven : Document → ℕ → List Word → List (List ℕ) → Type 0
AreGiven s n [] [] = ⊤
AreGiven s n (w ∷ ws) (text ∷ texts) = (given s n (word_key w) ≡ Some text) × AreGiven s n ws texts
AreGiven s n _ _ = ⊥

-- the element has these words, as strings, and beside them `op` alone
abbrev pub HasWords : Document → ℕ → List Word → List (List ℕ) → Type 0
HasWords s n kinds words = (child_count_of (element_path n) s ≡ Some (1 + length kinds)) × AreGiven s n kinds words

-- ---- the edit of an element

-- the element with this number states this edit
abbrev pub IsEntry : Profile → Document → ℕ → Edit → Type 0
IsEntry profile s n e =
    (o : Op) × (op_of s n ≡ Some o)
    × ((words : List (List ℕ)) × HasWords s n (edit_words o) words × Makes profile o words e)

-- the elements from a number on tell these edits
abbrev pub AreEntries : Profile → Document → ℕ → List Edit → Type 0
AreEntries profile s n [] = ⊤
AreEntries profile s n (e ∷ es) = IsEntry profile s n e × AreEntries profile s (suc n) es

-- ---- faults

-- the reason that a word is for an element
abbrev pub why_of : WordFault → Option EntryWhy
why_of (word_fault.Path at) = Some why.Path
why_of (word_fault.Value f) = Some why.Value
why_of word_fault.Memory = None

-- the words make no edit, and this is why
abbrev pub MakesNoneFor : EntryWhy → Profile → Op → List (List ℕ) → Type 0
MakesNoneFor why profile o words = (f : WordFault) × MakesNone profile o words f × (why_of f ≡ Some why)

-- the element with this number states no edit, and this is the first reason
abbrev pub IsNoEntry : Profile → Document → ℕ → EntryWhy → Type 0
IsNoEntry profile s n why.Op = op_of s n ≡ None
IsNoEntry profile s n why.Keys =
    (o : Op) × (op_of s n ≡ Some o) × ((words : List (List ℕ)) → HasWords s n (edit_words o) words → ⊥)
IsNoEntry profile s n why =
    (o : Op) × (op_of s n ≡ Some o)
    × ((words : List (List ℕ)) × HasWords s n (edit_words o) words × MakesNoneFor why profile o words)

-- ---- scripts

-- The edits of a script, in order. The script itself is read in Strict, and its values in the profile.
pub record IsScript (profile : Profile) (bytes : List ℕ) (edits : List Edit) : Type 0 where
  pub tree : Document
  pub read : IsTextOfTree (text_in Strict bytes) tree
  pub count : element_count tree ≡ Some (length edits)
  pub entries : AreEntries profile tree 0 edits

-- the element with this number is the first that states no edit
pub record IsFirstFault (profile : Profile) (s : Document) (n : ℕ) (why : EntryWhy) : Type 0 where
  pub before : List Edit
  pub many : length before ≡ n
  pub entries : AreEntries profile s 0 before
  pub fault : IsNoEntry profile s n why

-- the document has a top level as a script's; or not
abbrev pub IsTreeFault : Profile → Document → UseFault → Type 0
IsTreeFault profile s fault.Shape = element_count s ≡ None
IsTreeFault profile s (fault.Entry n why) =
    (count : ℕ) × (element_count s ≡ Some count) × (n < count) × IsFirstFault profile s n why
IsTreeFault profile s _ = ⊥

-- the text is no script, and this is why
abbrev pub IsScriptFault : Profile → List ℕ → UseFault → Type 0
IsScriptFault profile bytes (fault.Script f) = IsReadFault Strict limit bytes f
IsScriptFault profile bytes f = (s : Document) × IsTextOfTree (text_in Strict bytes) s × IsTreeFault profile s f
