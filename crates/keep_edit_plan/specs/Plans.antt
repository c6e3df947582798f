-- What is decided of an edit: what it writes, and what it changes of the index.
use Rattle.std.specs.Prelude.{◌≡◌, ◌⊎◌, ⊤, ℕ, true, List, [], IfSome, Option, Some, is_some, Result, Ok, Err}
use Rattle.keep_types.specs.declared.syntax.Span.{Span}
use Rattle.keep_token.specs.Encoded.{encoded_key}
use Rattle.keep_syntax.specs.Tree.{Document, value_depth}
use Rattle.keep_meaning.specs.Meaning.{mentions_in}
use Rattle.keep_meaning.specs.Nodes.{children, node_number, node_paths}
use Rattle.keep_path.specs.Path.{EndsInKey, Part}
use Rattle.keep_rules.specs.declared.index.NodeId.{NodeId}
use Rattle.keep_edit_spec.specs.declared.fault.EditFault.{EditFault}
use Rattle.keep_edit_spec.specs.declared.fault.EditFault.TheVariants.{Memory}
use Rattle.keep_edit_spec.specs.Edits.{Edit, set, rename, append_table, append_element, edited_document}
use Rattle.keep_edit_plan.specs.Answers.{IsDone, IsFound, IsMade, IsMadeAt, refusal_in, text_after}
use Rattle.keep_edit_plan.specs.IndexChanges.{IsIndexChange}
use Rattle.keep_edit_plan.specs.Places.{IsDoneAt, IsOfEdit, place_at}
use Rattle.keep_edit_plan.specs.Reading.{ProfiledText, IsTextOfTree, text_in}
use Rattle.keep_edit_plan.specs.declared.plan.IndexChange.{IndexChange}
use Rattle.keep_edit_plan.specs.declared.plan.Plan.{Plan}
use Rattle.keep_edit_plan.specs.declared.text_edit.TextEdit.{TextEdit}

-- ---- what a plan is

-- The edits whose plans say what they change of the index: another value with a key, a scalar in place of a value below
-- which no node is, another key, and a header at the end.
abbrev pub SaysIndexChange : Document → Edit → Type 0
SaysIndexChange s (set path value) =
    EndsInKey path ⊎ ((value_depth value ≡ 0) × (children path (node_paths (mentions_in s)) ≡ []))
SaysIndexChange s (rename path text) = ⊤
SaysIndexChange s (append_table keys) = ⊤
SaysIndexChange s (append_element keys) = ⊤
SaysIndexChange s _ = ⊥

-- What is written is the edit's. If it says what the edit changes of the index, that is all that changes; and of these
-- edits it does say so.
pub record IsPlan (s : Document) (e : Edit) (old : ProfiledText) (plan : Plan) : Type 0 where
  pub made : IsMade s e old plan.text_edit
  pub change : IfSome plan.index_change (IsIndexChange s (edited_document s e))
  pub some : SaysIndexChange s e → is_some plan.index_change ≡ true

-- the edit is decided: it is refused, or this is its plan
abbrev pub EditPlanned : Document → Edit → ProfiledText → Result Plan EditFault → Type 0
EditPlanned s e old result = IsDone (IsPlan s e old) (refusal_in old s e) result

-- ---- what can be done by a plan, whatever the edit

-- All that changes of the index, with what is written, is this.
pub record IsIndexChanged (old : ProfiledText) (made : TextEdit) (change : IndexChange) : Type 0 where
  pub from : Document
  pub to : Document
  pub read : IsTextOfTree old from
  pub new : IsTextOfTree (text_in old.profile (text_after old.text made)) to
  pub is : IsIndexChange from to change

-- a plan of some edit of the document of this text
abbrev pub IsPlanOf : ProfiledText → Plan → Type 0
IsPlanOf old plan = IsOfEdit old plan.text_edit × IfSome plan.index_change (IsIndexChanged old plan.text_edit)

-- ---- how it is decided

-- these bytes are to replace the span, with this change of the index; or memory ran out
abbrev pub IsPlanAt : Span → List ℕ → Option IndexChange → Result Plan EditFault → Type 0
IsPlanAt span given change (Ok plan) = IsMadeAt (place_at span given) plan.text_edit × (plan.index_change ≡ change)
IsPlanAt span given change (Err f) = f ≡ Memory

-- the node of a path
abbrev pub IsNodeOf : List Part → Document → NodeId → Type 0
IsNodeOf path s id = node_number (node_paths (mentions_in s)) path ≡ Some id.0

-- the node of a path and the number of its value, or why there is none
abbrev pub IsValueFound : List Part → Document → Result (NodeId × ℕ) EditFault → Type 0
IsValueFound path s (Ok found) = IsNodeOf path s found.0 × IsFound path s (Ok found.1)
IsValueFound path s (Err f) = IsFound path s (Err f)

-- the node of a path whose key is to be another, and where that key is; or the refusal
abbrev pub IsKeyFound : List Part → List ℕ → Document → ProfiledText → Result (NodeId × Span) EditFault → Type 0
IsKeyFound path text s old (Ok found) =
    IsNodeOf path s found.0 × IsDoneAt s (rename path text) old (encoded_key text) (Ok found.1)
IsKeyFound path text s old (Err f) = IsDoneAt s (rename path text) old (encoded_key text) (Err f)
