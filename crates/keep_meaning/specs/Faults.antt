-- The first faulty mark of a document, or of a value alone, and its place in the text.
use Rattle.std.specs.Prelude.{◌≡◌, ℕ, Bool, true, false, not, ◌&&◌, List, [], ◌∷◌, ◌++◌, length, Option, Some, None}
use Rattle.std.specs.Prelude.{slice_get}
use Rattle.std.specs.List.{list_any}
use Rattle.keep_syntax.specs.declared.fault.Why.{Why}
use Rattle.keep_types.specs.declared.syntax.KeyPart.{KeyPart}
use Rattle.keep_syntax.specs.Tree.{Value, Document}
use Rattle.keep_syntax.specs.Numbered as syntax
use Rattle.keep_path.specs.Path.{same_path}
use Rattle.keep_meaning.specs.Rules.{Mark, allows, why_of, IsFirstFaulty}
use Rattle.keep_meaning.specs.Marks.{marks}
use Rattle.keep_meaning.specs.Meaning.{mentions_in, mentions_of_value}

-- The key part with the number of the first faulty mark begins there, and this is the reason.
pub record IsFirstFaultAt (ms : List Mark) (parts : List KeyPart) (at : ℕ) (why : Why) : Type 0 where
  pub number : ℕ
  pub part : KeyPart
  pub first : IsFirstFaulty ms number why
  pub occurs : slice_get parts number ≡ Some part
  pub here : part.span.start ≡ at

-- the document breaks the rules there
abbrev pub IsFaultIn : Document → ℕ → Why → Type 0
IsFaultIn s at why = IsFirstFaultAt (marks (mentions_in s)) (syntax.parts s) at why

-- the key parts in a value, with places in its text
abbrev pub parts_in : Value → List KeyPart
parts_in v = syntax.entries_parts (syntax.nested_start 0 v.body) v.nested

-- the value breaks the rules there
abbrev pub IsFaultInValue : Value → ℕ → Why → Type 0
IsFaultInValue v at why = IsFirstFaultAt (marks (mentions_of_value v)) (parts_in v) at why

-- ---- the first fault, computed

pub record Fault : Type 0 where
  pub number : ℕ
  pub why : Why

-- the earlier mark does not allow the later one
abbrev pub refuses : Mark → Mark → Bool
refuses later earlier = same_path earlier.path later.path && not (allows earlier.role later.role)

-- the first of further marks that some mark before it refuses
abbrev pub first_fault_after : List Mark → List Mark → Option Fault
first_fault_after earlier [] = None
first_fault_after earlier (m ∷ ms) = elim (list_any (refuses m) earlier) [
  | true ↦ Some (record { number = length earlier; why = why_of m.role })
  | false ↦ first_fault_after (earlier ++ m ∷ []) ms
]

abbrev pub first_fault : List Mark → Option Fault
first_fault ms = first_fault_after [] ms

pub record FaultAt : Type 0 where
  pub at : ℕ
  pub why : Why

abbrev pub at_part : Why → Option KeyPart → Option FaultAt
at_part why None = None
at_part why (Some part) = Some (record { at = part.span.start; why = why })

abbrev pub fault_at : List KeyPart → Option Fault → Option FaultAt
fault_at parts None = None
fault_at parts (Some f) = at_part f.why (slice_get parts f.number)

abbrev pub fault_in : Document → Option FaultAt
fault_in s = fault_at (syntax.parts s) (first_fault (marks (mentions_in s)))

abbrev pub fault_in_value : Value → Option FaultAt
fault_in_value v = fault_at (parts_in v) (first_fault (marks (mentions_of_value v)))
