-- What is known of a document's nodes, and what comes of a list of edits.
use Rattle.std.specs.Prelude.{ℕ, suc, true, false, List, [], ◌∷◌, map, drop, Option, Some, None, Result, Ok, Err}
use Rattle.std.specs.Option.{option_map}
use Rattle.keep_types.specs.declared.leaf.Profile.{Profile}
use Rattle.keep_syntax.specs.Tree.{Document}
use Rattle.keep_types.specs.declared.node.Kind.{Kind}
use Rattle.keep_path.specs.Path.{Part}
use Rattle.keep_meaning.specs.Fact.{Fact}
use Rattle.keep_meaning.specs.Fact as fact
use Rattle.keep_meaning.specs.Marks.{Mention}
use Rattle.keep_meaning.specs.Meaning.{mentions_in}
use Rattle.keep_meaning.specs.Nodes.{node_paths, is_node, kind_at, fact_at}
use Rattle.keep_path.specs.PathText.{encoded_path}
use Rattle.keep_edit_spec.specs.declared.fault.EditFault.{EditFault}
use Rattle.keep_edit_spec.specs.declared.fault.EditFault.TheVariants as fault
use Rattle.keep_edit_spec.specs.Values.{replacement}
use Rattle.keep_edit_spec.specs.Edits.{Edit, edited_document, nested}
use Rattle.keep_edit_spec.specs.Refusals.{refusal}

-- ---- one node

-- NotFound where no node is named, and NotValue where the node has none of what is asked for
abbrev pub or_not_value : {A : Type 0} → Option A → Result A EditFault
or_not_value None = Err fault.NotValue
or_not_value (Some a) = Ok a

abbrev pub at_node : {A : Type 0} → List Part → Document → Option A → Result A EditFault
at_node path s found = elim (is_node path (mentions_in s)) [ true ↦ or_not_value found | false ↦ Err fault.NotFound ]

-- the text of the value at a path, as it is written
abbrev pub value_at : List Part → Document → Option (List ℕ)
value_at path s = option_map (λ c. c.old) (nested (λ more v. replacement v more v) path s)

abbrev pub get : List Part → Document → Result (List ℕ) EditFault
get path s = at_node path s (value_at path s)

-- what the string at a path means
abbrev pub string_of : Option Fact → Option (List ℕ)
string_of None = None
string_of (Some f) = elim f [ fact.string v ↦ Some v | _ ↦ None ]

abbrev pub string_at : List Part → Document → Result (List ℕ) EditFault
string_at path s = at_node path s (string_of (fact_at path (mentions_in s)))

-- ---- all nodes but the root, in the order of the text

pub record Listed : Type 0 where
  pub path : List ℕ
  pub kind : Kind

abbrev pub listed : List Mention → List Part → Listed
listed ms path = record { path = encoded_path path; kind = kind_at path ms }

abbrev pub listed_in : Document → List Listed
listed_in s = map (listed (mentions_in s)) (drop 1 (node_paths (mentions_in s)))

-- ---- edits in their order

-- the number of the first refused edit, from 0, and why
pub record Refused : Type 0 where
  pub number : ℕ
  pub fault : EditFault

abbrev pub applied_from : Profile → ℕ → ℕ → List Edit → Document → Result Document Refused
applied_from profile limit n [] s = Ok s
applied_from profile limit n (e ∷ es) s = elim (refusal profile limit s e) [
  | Some f ↦ Err (record { number = n; fault = f })
  | None ↦ applied_from profile limit (suc n) es (edited_document s e)
]

-- the document after all edits, or the first refused one
abbrev pub applied_edits : Profile → ℕ → List Edit → Document → Result Document Refused
applied_edits profile limit edits s = applied_from profile limit 0 edits s
