-- What `remove` takes hold of, and where it cuts.
use Rattle.std.specs.Prelude.{◌≡◌, ◌⊎◌, ℕ, suc, ◌≤◌, ◌<◌, Bool, true, false, List, [], ◌∷◌, ◌++◌, length, take}
use Rattle.std.specs.Prelude.{Option, Some, None, Result, Ok, Err, slice_get}
use Rattle.keep_types.specs.declared.leaf.Profile.{Profile}
use Rattle.keep_types.specs.declared.node.Origin.{Origin}
use Rattle.keep_types.specs.declared.node.Origin.TheVariants as origin
use Rattle.keep_types.specs.declared.syntax.Owner.TheVariants as owner
use Rattle.keep_types.specs.declared.syntax.ValueInfo.{ValueInfo}
use Rattle.keep_syntax.specs.Numbered as numbered
use Rattle.keep_syntax.specs.Tree.{Document}
use Rattle.keep_meaning.specs.KeyText.{text_at}
use Rattle.keep_path.specs.Path.{Part}
use Rattle.keep_index_store.specs.declared.renumbering.LineNumbers.{LineNumbers}
use Rattle.keep_meaning.specs.Counts.{is_mark, numbered_in}
use Rattle.keep_meaning.specs.Meaning.{mentions_in}
use Rattle.keep_meaning.specs.Nodes.{first_number, is_begun, is_define, key_number, last_number, mark_count}
use Rattle.keep_meaning.specs.Nodes.{numbered_at, statement_number}
use Rattle.keep_rules.specs.declared.index.NodeId.{NodeId}
use Rattle.keep_edit_spec.specs.declared.fault.EditFault.{EditFault}
use Rattle.keep_edit_spec.specs.Changed.{Place}
use Rattle.keep_edit_spec.specs.Edits.{remove, place}
use Rattle.keep_edit_spec.specs.Refusals.{refusal}
use Rattle.keep_edit_plan.specs.Reading.{limit}
use Rattle.keep_edit_plan.specs.Answers.{value_number_of, IsSpanOf}
use Rattle.keep_edit_plan.specs.Inserting.{origin_of}
use Rattle.keep_edit_plan.specs.Plans.{IsNodeOf}
use Rattle.keep_edit_plan.specs.declared.remove.Cut.{Cut}
use Rattle.keep_edit_plan.specs.declared.remove.change.FirstAlone.{FirstAlone}
use Rattle.keep_edit_plan.specs.declared.remove.Piece.{Piece}
use Rattle.keep_edit_plan.specs.declared.remove.Piece.TheVariants.{Value, Section}

-- ---- what is removed

-- the number of the last statement that says such a thing of the path
abbrev pub defined_by : List Part → Document → Option ℕ
defined_by path s = last_number is_define statement_number (numbered_at path (numbered_in s))

abbrev pub begun_by : List Part → Document → Option ℕ
begun_by path s = last_number is_begun statement_number (numbered_at path (numbered_in s))

-- a header defines the table, or begins the element
abbrev pub IsHeaded : List Part → Document → ℕ → Type 0
IsHeaded path s number =
    ((defined_by path s ≡ Some number) × (begun_by path s ≡ None))
    ⊎ ((begun_by path s ≡ Some number) × (defined_by path s ≡ None))

-- the value of the path, or its header
abbrev pub IsPieceOf : List Part → Document → Piece → Type 0
IsPieceOf path s (Value number) = value_number_of path s ≡ Some number
IsPieceOf path s (Section number) = (value_number_of path s ≡ None) × IsHeaded path s number

-- what is removed with the path, or why it is refused
abbrev pub IsRemovalOf : Profile → List Part → Document → Result Piece EditFault → Type 0
IsRemovalOf profile path s (Ok piece) = (refusal profile limit s (remove path) ≡ None) × IsPieceOf path s piece
IsRemovalOf profile path s (Err f) = refusal profile limit s (remove path) ≡ Some f

-- the node of the path, and what is removed with it; or why it is refused
abbrev pub IsRemovalFound : Profile → List Part → Document → Result (NodeId × Piece) EditFault → Type 0
IsRemovalFound profile path s (Ok found) = IsNodeOf path s found.0 × IsRemovalOf profile path s (Ok found.1)
IsRemovalFound profile path s (Err f) = IsRemovalOf profile path s (Err f)

-- After so many steps of the path at least, one more leads to this node, which one key part names.
pub record IsFirstAlone (path : List Part) (s : Document) (body : ℕ) (first : FirstAlone) : Type 0 where
  pub low : body ≤ first.before
  pub within : first.before < length path
  pub number : IsNodeOf (take (suc first.before) path) s first.node
  pub once : mark_count (take (suc first.before) path) (mentions_in s) ≡ 1

-- of a keyval's value, or of a table from which a keyval continues
abbrev pub is_keyval_origin : Origin → Bool
is_keyval_origin (origin.Value v) = true
is_keyval_origin (origin.Dotted v) = true
is_keyval_origin _ = false

-- The path of some node one step below the table is first named by a key part before the one with this number, and it
-- has such an origin.
pub record IsDottedBefore (table : List Part) (s : Document) (key : ℕ) : Type 0 where
  pub last : Part
  pub first : ℕ
  pub named : first_number is_mark key_number (numbered_at (table ++ last ∷ []) (numbered_in s)) ≡ Some first
  pub before : first < key
  pub origin : is_keyval_origin (origin_of (table ++ last ∷ []) s) ≡ true

-- The path has a node and a value on a line with these numbers, and its key has so many parts, several; a remove of it
-- is not refused.
pub record IsKeysRemoval (profile : Profile) (path : List Part) (s : Document) (line : LineNumbers) (keys : ℕ) : Type 0
  where
    pub node : NodeId
    pub allowed : refusal profile limit s (remove path) ≡ None
    pub number : IsNodeOf path s node
    pub value : value_number_of path s ≡ Some line.value
    pub info : ValueInfo
    pub stored : slice_get (numbered.values s) line.value ≡ Some info
    pub owned : info.owner ≡ owner.Line line.statement
    pub first : info.first_key ≡ line.key
    pub many : info.keys ≡ keys
    pub several : keys ≡ 1 → ⊥

-- ---- where the text is cut

-- what a cut does to the bytes
abbrev pub cut_place : List ℕ → Cut → Place
cut_place bytes cut = record { start = cut.span.start; end = cut.span.end; new = text_at bytes cut.preserved }

-- nothing is kept
abbrev pub KeepsNothing : Cut → Type 0
KeepsNothing cut = (cut.preserved.start ≡ cut.span.start) × (cut.preserved.end ≡ cut.span.start)

-- The value is in brackets in these bytes: it ends before the comma after it, or begins after the one before it.
pub record IsEntryIn (bytes : List ℕ) (v : ValueInfo) : Type 0 where
  pub within : v.span.end ≤ length bytes
  pub after : (comma : ℕ) → v.comma_after ≡ Some comma → (v.span.end ≤ comma) × (comma < length bytes)
  pub before : (comma : ℕ) → v.comma_after ≡ None → v.comma_before ≡ Some comma
      → (suc comma ≤ v.whole.start) × (v.whole.start ≤ length bytes)

-- what a cut of a value in brackets keeps: nothing, or the gap before its comma, or the one after it
abbrev pub KeepsGap : ValueInfo → Cut → Type 0
KeepsGap v cut =
    KeepsNothing cut
    ⊎ (((cut.preserved.start ≡ v.span.end) × (v.comma_after ≡ Some cut.preserved.end))
    ⊎ ((v.comma_after ≡ None) × (v.comma_before ≡ Some cut.span.start) × (cut.preserved.start ≡ suc cut.span.start)
    × (cut.preserved.end ≡ v.whole.start)))

-- The text is cut where the edit's place is, between characters.
abbrev pub IsCutAt : List Part → Document → List ℕ → Cut → Type 0
IsCutAt path s bytes cut =
    (place s (remove path) ≡ cut_place bytes cut) × IsSpanOf bytes cut.span × IsSpanOf bytes cut.preserved
