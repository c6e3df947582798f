-- Where `insert` writes: what it takes hold of, and the place there.
use Rattle.std.specs.Prelude.{◌≡◌, ◌⊎◌, ℕ, suc, ◌≤◌, ◌<◌, Bool, true, false, List, [], ◌∷◌, ◌++◌, length, take, drop}
use Rattle.std.specs.Prelude.{Option, Some, None, Result, Ok, Err, slice_get}
use Rattle.std.specs.Option.{option_map, option_and_then}
use Rattle.keep_types.specs.declared.leaf.Profile.{Profile}
use Rattle.keep_types.specs.declared.syntax.Owner.TheVariants as owner
use Rattle.keep_types.specs.declared.syntax.Statement.{Statement}
use Rattle.keep_types.specs.declared.syntax.ValueInfo.{ValueInfo}
use Rattle.keep_syntax.specs.Tree.{Value, Document, text}
use Rattle.keep_syntax.specs.Numbered as syntax
use Rattle.keep_path.specs.Path.{Part, index}
use Rattle.keep_types.specs.declared.node.Origin.{Origin}
use Rattle.keep_types.specs.declared.node.Origin.TheVariants as origin
use Rattle.keep_meaning.specs.Counts.{numbered_in}
use Rattle.keep_meaning.specs.Meaning.{mentions_in}
use Rattle.keep_meaning.specs.Nodes.{numbered_at, mentioned_origin}
use Rattle.keep_edit_spec.specs.declared.fault.EditFault.{EditFault}
use Rattle.keep_edit_spec.specs.Changed as changed
use Rattle.keep_edit_spec.specs.Edits.{insert, place}
use Rattle.keep_edit_spec.specs.Insertion.{before_item, after_entry, in_empty, last_keyval, line_at, put_in, section_at}
use Rattle.keep_edit_spec.specs.Insertion.{section_end}
use Rattle.keep_edit_spec.specs.Lines.{newline_of}
use Rattle.keep_edit_spec.specs.Look.{holder, item_number, item_count, keys_in, without_last}
use Rattle.keep_edit_spec.specs.Refusals.{refusal}
use Rattle.keep_edit_spec.specs.Removal.{body_end}
use Rattle.keep_edit_plan.specs.Reading.{limit}
use Rattle.keep_edit_plan.specs.Answers.{IsSpanOf, value_number_of}
use Rattle.keep_edit_plan.specs.declared.insert.Insertion.{Insertion}
use Rattle.keep_edit_plan.specs.declared.insert.Spot.{Spot}
use Rattle.keep_edit_plan.specs.declared.insert.Spot.TheVariants.{BeforeItem, AfterEntry, InEmpty, AfterBody, AfterLine}
use Rattle.keep_edit_plan.specs.declared.insert.Spot.TheVariants.{NewSection}

-- ---- what an insertion takes hold of, by what the document says

-- where the node of a path comes from, by the last mention of it
abbrev pub origin_of : List Part → Document → Origin
origin_of path s = mentioned_origin (numbered_at path (numbered_in s))

-- as item n of an array: before the item that is there, else after the last, or in empty brackets
abbrev pub IsItemSpot : List Part → ℕ → Document → Spot → Type 0
IsItemSpot path n s (BeforeItem v) = value_number_of path s ≡ Some v
IsItemSpot path n s (AfterEntry v) =
    (m : ℕ) × (n ≡ suc m) × (item_count (without_last path) (mentions_in s) ≡ n)
    × (value_number_of (without_last path ++ index m ∷ []) s ≡ Some v)
IsItemSpot path n s (InEmpty v) =
    (n ≡ 0) × (item_count (without_last path) (mentions_in s) ≡ 0) × (value_number_of (without_last path) s ≡ Some v)
IsItemSpot path n s _ = ⊥

-- a keyval continues from the path by dots, and it is no header's and no value's
abbrev pub is_dotted_origin : Origin → Bool
is_dotted_origin (origin.Dotted v) = true
is_dotted_origin _ = false

-- The first so many steps of a path lead to a body, or to braces, from which dots continue to the whole path.
pub record IsBase (path : List Part) (s : Document) (from : ℕ) : Type 0 where
  pub within : from ≤ length path
  pub base : is_dotted_origin (origin_of (take from path) s) ≡ false
  pub dots : (n : ℕ) → from < n → n ≤ length path → is_dotted_origin (origin_of (take n path) s) ≡ true

-- the number of the last keyval of the braces with that number
abbrev pub last_keyval_among : ℕ → List ValueInfo → Option ℕ
last_keyval_among n values =
    option_and_then (λ (v : ValueInfo). last_keyval (suc n) v.depth (drop (suc n) values)) (slice_get values n)

abbrev pub last_keyval_of : ℕ → Document → Option ℕ
last_keyval_of n s = last_keyval_among n (syntax.values s)

-- As a keyval with a new path, of which the prefix `a` names a node and no longer one does: after the body of the root,
-- of a table or of an element; in braces; after the last keyval that continues from `a` by dots; or in a new section.
abbrev pub IsKeyvalSpot : List Part → Document → ℕ → Spot → Type 0
IsKeyvalSpot a s from (AfterBody None) = (a ≡ []) × (from ≡ 0)
IsKeyvalSpot a s from (AfterBody (Some h)) =
    ((origin_of a s ≡ origin.Header h) ⊎ (origin_of a s ≡ origin.Element h)) × (from ≡ length a)
IsKeyvalSpot a s from (InEmpty v) = (origin_of a s ≡ origin.Value v) × (from ≡ length a) × (last_keyval_of v s ≡ None)
IsKeyvalSpot a s from (AfterEntry v) =
    ((b : ℕ) × (origin_of a s ≡ origin.Value b) × (from ≡ length a) × (last_keyval_of b s ≡ Some v))
    ⊎ ((b : ℕ) × (origin_of a s ≡ origin.Dotted v) × IsBase a s from × (origin_of (take from a) s ≡ origin.Value b))
IsKeyvalSpot a s from (AfterLine v) =
    (origin_of a s ≡ origin.Dotted v) × IsBase a s from × (value_number_of (take from a) s ≡ None)
IsKeyvalSpot a s from (NewSection h) = (origin_of a s ≡ origin.Through h) × (from ≡ length a)
IsKeyvalSpot a s from (BeforeItem v) = ⊥

-- What is inserted for the path is put there, and its steps from number `from` on are written as keys.
abbrev pub IsSpotOf : List Part → Document → Insertion → Type 0
IsSpotOf path s i = elim (item_number path (mentions_in s)) [
  | Some n ↦ (i.from ≡ length path) × IsItemSpot path n s i.spot
  | None ↦ IsKeyvalSpot (holder path (mentions_in s)) s i.from i.spot
]

-- where it is put, or why it is refused
abbrev pub IsInsertionOf : Profile → List Part → Value → Document → Result Insertion EditFault → Type 0
IsInsertionOf profile path v s (Ok i) = (refusal profile limit s (insert path v) ≡ None) × IsSpotOf path s i
IsInsertionOf profile path v s (Err f) = refusal profile limit s (insert path v) ≡ Some f

-- ---- the place there

-- where the lines begin, after a byte order mark
abbrev pub lines_start : Document → ℕ
lines_start s = (syntax.first_line s).at

-- the line of the statement in which the value is
abbrev pub line_end_of : List Statement → ValueInfo → Option ℕ
line_end_of statements v = elim v.owner [
  | owner.Line n ↦ option_map (λ t. t.line.end) (slice_get statements n)
  | owner.Inline n ↦ None
  | owner.Item n ↦ None
]

abbrev pub new_line_at : Document → ℕ → List (List ℕ) → Value → changed.Place
new_line_at s at keys value = line_at (text s) (newline_of s).text (lines_start s) at keys value

-- by the numbers of the values and of the statements
abbrev pub spot_place : Document → List Part → Value → Insertion → Option changed.Place
spot_place s path value i =
    let keys : List (List ℕ) = keys_in (drop i.from path) in
    elim i.spot [
      | BeforeItem v ↦ option_map (λ (info : ValueInfo). before_item info value) (slice_get (syntax.values s) v)
      | AfterEntry v ↦ option_map (λ (info : ValueInfo). after_entry info keys value) (slice_get (syntax.values s) v)
      | InEmpty v ↦ option_map (λ (info : ValueInfo). in_empty info keys value) (slice_get (syntax.values s) v)
      | AfterBody o ↦ (elim o [
        | None ↦ Some (new_line_at s (body_end (lines_start s) (syntax.statements s)) keys value)
        | Some h ↦ Some (new_line_at s (section_end (drop h (syntax.statements s))) keys value)
      ])
      | AfterLine v ↦
          option_map (λ (at : ℕ). new_line_at s at keys value)
          (option_and_then (line_end_of (syntax.statements s)) (slice_get (syntax.values s) v))
      | NewSection h ↦
          Some (section_at (text s) (newline_of s).text (lines_start s) (section_end (drop h (syntax.statements s)))
          (keys_in (take i.from path)) keys value)
    ]

-- Bytes were added that the edit puts in at this byte of the text, between characters.
abbrev pub IsPutIn : List Part → Value → Document → List ℕ → ℕ → List ℕ → List ℕ → Type 0
IsPutIn path v s bytes at old new =
    (given : List ℕ) × (new ≡ old ++ given) × (place s (insert path v) ≡ put_in at given)
    × IsSpanOf bytes (syntax.span at at)
