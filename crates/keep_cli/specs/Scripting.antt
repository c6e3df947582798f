-- What the reading of a script finds, step by step.
use Rattle.std.specs.Prelude.{◌≡◌, ℕ, List, [], ◌∷◌, codes, length, take, Option, Some, None}
use Rattle.std.specs.Prelude.{option_map, slice_get}
use Rattle.keep_types.specs.declared.leaf.Profile.{Profile}
use Rattle.keep_syntax.specs.Tree.{Document}
use Rattle.keep_edit.specs.Children.{child_count_of}
use Rattle.keep_edit.specs.NodeRefs.{IsNodeAt}
use Rattle.keep_edit.specs.StrTexts.{text_of_str}
use Rattle.keep_edit.specs.declared.nodes.NodeRef.{NodeRef}
use Rattle.keep_edit_plan.specs.declared.edit.Edit.{Edit}
use Rattle.keep_args.specs.declared.subcommand.Op.{Op}
use Rattle.keep_args.specs.declared.subcommand.Word.{Word}
use Rattle.keep_cli.specs.declared.fault.EntryWhy.{EntryWhy}
use Rattle.keep_cli.specs.declared.fault.UseFault.{UseFault}
use Rattle.keep_cli.specs.declared.fault.UseFault.TheVariants.{Entry}
use Rattle.keep_cli.specs.declared.script.Texts.{Texts}
use Rattle.keep_cli.specs.Script.{element_count, element_path, given, word_key, AreEntries, HasWords}
use Rattle.keep_cli.specs.Script.{IsNoEntry, MakesNoneFor}

-- these edits are given by all elements
pub record StatesEdits (profile : Profile) (s : Document) (edits : List Edit) : Type 0 where
  pub count : element_count s ≡ Some (length edits)
  pub entries : AreEntries profile s 0 edits

-- the node is the element with this number
abbrev pub IsElement : Document → ℕ → NodeRef → Type 0
IsElement s n element = IsNodeAt s (element_path n) element

-- the third key of an element, beside `op` and `path`: that of the second word
abbrev pub third_key : List Word → Option (List ℕ)
third_key words = option_map word_key (slice_get words 1)

-- the keys of an element, with this third one or none: the texts at `path` and at that
abbrev pub HasKeys : Document → ℕ → Option (List ℕ) → List ℕ → List ℕ → Type 0
HasKeys s n None path third = (child_count_of (element_path n) s ≡ Some 2) × (given s n (codes "path") ≡ Some path)
HasKeys s n (Some name) path third =
    (child_count_of (element_path n) s ≡ Some 3) × (given s n (codes "path") ≡ Some path)
    × (given s n name ≡ Some third)

abbrev pub AreTexts : Document → ℕ → Option (List ℕ) → Option Texts → Type 0
AreTexts s n third (Some texts) = HasKeys s n third (text_of_str texts.path) (text_of_str texts.third)
AreTexts s n third None = (path third_text : List ℕ) → HasKeys s n third path third_text → ⊥

-- the texts of an element that has such words
abbrev pub AreTextsOf : Document → ℕ → List Word → Option Texts → Type 0
AreTextsOf s n kinds (Some texts) =
    HasWords s n kinds (take (length kinds) (text_of_str texts.path ∷ text_of_str texts.third ∷ []))
AreTextsOf s n kinds None = (words : List (List ℕ)) → HasWords s n kinds words → ⊥

-- the fault is that of the element, by this reason
abbrev pub IsAt : ℕ → (EntryWhy → Type 0) → UseFault → Type 0
IsAt n is (Entry m w) = (m ≡ n) × is w
IsAt n is _ = ⊥

abbrev pub IsFaultAt : Profile → Document → ℕ → UseFault → Type 0
IsFaultAt profile s n fault = IsAt n (IsNoEntry profile s n) fault

abbrev pub IsTextsFault : Profile → Op → ℕ → List (List ℕ) → UseFault → Type 0
IsTextsFault profile o n words fault = IsAt n (λ why. MakesNoneFor why profile o words) fault
