-- The refusals of an edit, in their order, by what the document says.
use Rattle.std.specs.Prelude.{ℕ, ◌+◌, Bool, true, false, not, ◌&&◌, ◌||◌, nat_lt, ◌==◌, if◌then◌else◌, List, [], ◌∷◌}
use Rattle.std.specs.Prelude.{length, drop, Option, Some, None}
use Rattle.std.specs.List.{list_any, filter_map}
use Rattle.std.specs.Option.{option_map}
use Rattle.keep_types.specs.declared.leaf.Profile.{Profile}
use Rattle.keep_syntax.specs.Tree.{Value, value_depth, Document}
use Rattle.keep_syntax.specs.Profiles.{is_allowed_in}
use Rattle.keep_syntax.specs.declared.fault.Why.{Why}
use Rattle.keep_edit_spec.specs.declared.fault.EditFault.{EditFault}
use Rattle.keep_edit_spec.specs.declared.fault.EditFault.TheVariants as fault
use Rattle.keep_path.specs.Path.{Part}
pub use Rattle.keep_path.specs.Path.{beside}
use Rattle.keep_meaning.specs.Rules.{Mark}
use Rattle.keep_meaning.specs.Faults.{first_fault_after}
use Rattle.keep_meaning.specs.Marks.{Mention, Statement, header, element_header, statement_mentions, Reading, marks}
use Rattle.keep_meaning.specs.Meaning.{mentions_in}
use Rattle.keep_edit_spec.specs.Look.{is_table, enclosing, holder, last_part, without_last, is_index, item_number}
use Rattle.keep_edit_spec.specs.Look.{item_count}
use Rattle.keep_meaning.specs.Nodes.{is_root, is_node, fact_at, has, is_define, is_begun, is_passed, is_through}
use Rattle.keep_meaning.specs.Nodes.{is_element, mark_count}
use Rattle.keep_edit_spec.specs.Edits.{Edit, set, insert, rename, remove, append_table, append_element}
use Rattle.keep_meaning.specs.Fact.{is_value_fact}

-- the first whose condition holds
abbrev pub first_that_holds : List (Bool × EditFault) → Option EditFault
first_that_holds [] = None
first_that_holds (c ∷ cs) = elim c.0 [ true ↦ Some c.1 | false ↦ first_that_holds cs ]

abbrev pub has_value : List Part → List Mention → Bool
has_value path ms = elim (fact_at path ms) [ None ↦ false | Some f ↦ is_value_fact f ]

abbrev pub is_too_deep : ℕ → List Part → Value → List Mention → Bool
is_too_deep limit path value ms = nat_lt limit (enclosing path ms + value_depth value)

-- a document of this profile has no such value
abbrev pub is_foreign : Profile → Value → Bool
is_foreign profile value = not (is_allowed_in profile value)

abbrev pub ends_in_index : List Part → Bool
ends_in_index path = elim (last_part path) [ None ↦ false | Some part ↦ is_index part ]

-- a keyval, an item, a table that is written once, or an element that no header goes past
abbrev pub is_one_piece : List Part → List Mention → Bool
is_one_piece path ms =
    has_value path ms
    || ((has is_define path ms && not (has is_through path ms))
    || (has is_begun path ms && not (has is_passed path ms)))

-- ---- the rules at a new header

-- the reason of the first of further marks that one before it does not allow
abbrev pub first_conflict : List Mark → List Mark → Option Why
first_conflict earlier more = option_map (λ f. f.why) (first_fault_after earlier more)

-- the full paths of the `[[..]]` lines
abbrev pub element_path : Mention → Option (List Part)
element_path m = if is_element m.kind then Some m.path else None

abbrev pub tables_in : List Mention → List (List Part)
tables_in = filter_map element_path

-- what the reading is at the end, but for the body
abbrev pub end_reading : List Mention → Reading
end_reading ms = record { tables = tables_in ms; body = [] }

abbrev pub conflict : Statement → List Mention → Option EditFault
conflict s ms = option_map fault.Conflict (first_conflict (marks ms) (marks (statement_mentions (end_reading ms) s)))

abbrev pub is_empty : List (List ℕ) → Bool
is_empty [] = true
is_empty (k ∷ ks) = false

abbrev pub or_conflict : Option EditFault → Statement → List Mention → Option EditFault
or_conflict (Some f) s ms = Some f
or_conflict None s ms = conflict s ms

-- ---- the refusal of an edit of a document of this profile, with the greatest depth that is allowed

abbrev pub refusal_by : Profile → ℕ → List Mention → Edit → Option EditFault
refusal_by profile limit ms (set path value) = first_that_holds (
    (not (is_node path ms), fault.NotFound)
    ∷ (not (has_value path ms), fault.NotValue)
    ∷ (is_too_deep limit path value ms, fault.TooDeep)
    ∷ (is_foreign profile value, fault.Profile) ∷ [])
refusal_by profile limit ms (insert path value) = elim (item_number path ms) [
  | Some n ↦ first_that_holds (
      (nat_lt (item_count (without_last path) ms) n, fault.NotFound)
      ∷ (is_too_deep limit path value ms, fault.TooDeep)
      ∷ (is_foreign profile value, fault.Profile) ∷ [])
  | None ↦
      let a : List Part = holder path ms in
      first_that_holds (
      (not (is_node path ms) && list_any is_index (drop (length a) path), fault.NotFound)
      ∷ (is_node path ms, fault.Exists)
      ∷ (not (is_table a ms), fault.NotTable)
      ∷ (is_too_deep limit path value ms, fault.TooDeep)
      ∷ (is_foreign profile value, fault.Profile) ∷ [])
]
refusal_by profile limit ms (rename path text) = first_that_holds (
    (not (is_node path ms), fault.NotFound)
    ∷ ((not (is_root path) && not (ends_in_index path)) && is_node (beside path text) ms, fault.Exists)
    ∷ (is_root path || ends_in_index path, fault.NotKey)
    ∷ (not (mark_count path ms == 1), fault.Scattered) ∷ [])
refusal_by profile limit ms (remove path) = first_that_holds (
    (not (is_node path ms), fault.NotFound)
    ∷ (is_root path, fault.NotKey)
    ∷ (not (is_one_piece path ms), fault.Scattered) ∷ [])
refusal_by profile limit ms (append_table keys) =
    or_conflict (first_that_holds ((is_empty keys, fault.NotKey) ∷ [])) (header keys) ms
refusal_by profile limit ms (append_element keys) =
    or_conflict (first_that_holds ((is_empty keys, fault.NotKey) ∷ [])) (element_header keys) ms

abbrev pub refusal : Profile → ℕ → Document → Edit → Option EditFault
refusal profile limit s e = refusal_by profile limit (mentions_in s) e
