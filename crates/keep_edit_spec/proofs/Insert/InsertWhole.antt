-- `insert` as a line, where it is not refused: there is a change, it is right, and within the limit.
--
-- Theorems: `insert_whole`: that, where the table has lines; `suits_there`: the profile allows the value;
-- `shallow_there`: the value is not too deep at the path.
use Rattle.std.proofs.Common.{◌≡◌, ℕ, suc, ◌+◌, ◌≤◌, Bool, true, false, not, ◌&&◌, List, [], ◌∷◌, ◌++◌, length, drop}
use Rattle.std.proofs.Common.{refl, ap, arith, Option, Some, None}
use Rattle.std.specs.List.{list_any}
use Rattle.std.proofs.lemmas.Bool.{ltb-false}
use Rattle.keep_types.specs.declared.leaf.Profile.{Profile}
use Rattle.keep_syntax.specs.Profiles.{is_allowed_in}
use Rattle.keep_syntax.specs.Tree.{Value, Content, blank, Document, value_depth, depth}
use Rattle.keep_path.specs.Path.{Part}
use Rattle.keep_meaning.specs.Marks.{Mention, start}
use Rattle.keep_meaning.specs.Meaning.{lines, mentions_in}
use Rattle.keep_meaning.specs.Nodes.{is_node}
use Rattle.keep_edit_spec.specs.declared.fault.EditFault.{EditFault}
use Rattle.keep_edit_spec.specs.declared.fault.EditFault.TheVariants as fault
use Rattle.keep_edit_spec.specs.Look.{holder, item_number, keys_in, enclosing, is_table, is_index}
use Rattle.keep_edit_spec.specs.Changed.{Changed}
use Rattle.keep_edit_spec.specs.Lines.{last_line, leads_dotted, leads_through, body_end, reading_at}
use Rattle.keep_edit_spec.specs.Edits.{insert, change, end_of, at_line, new_header, new_keyval}
use Rattle.keep_edit_spec.specs.Refusals.{refusal, refusal_by, first_that_holds, is_too_deep}
use Rattle.keep_edit_spec.specs.Laws.{IsEditable, IsGivenValue}
use Rattle.keep_edit_spec.proofs.Common.Runs.{AllOf}
use Rattle.keep_edit_spec.proofs.Common.SetWhole.{IsSetWhole}
use Rattle.keep_edit_spec.proofs.Common.NewLines.{IsKeyText}
use Rattle.keep_edit_spec.proofs.Insert.LineDepths.{contents_depth, line_change, line_depth}
use Rattle.keep_edit_spec.proofs.Insert.InsertLine.{insert_at_body_end, change_here}
use Rattle.keep_edit_spec.proofs.Insert.InsertDotted.{insert_after_dotted, change_there}
use Rattle.keep_edit_spec.proofs.Insert.InsertSection.{insert_section, change_section}

-- ---- the value is not too deep, and the profile's grammar has it

-- what the last two of five tests say, where none holds
last_tests : (a b c d e : Bool) (f g h i j : EditFault)
    → first_that_holds ((a, f) ∷ (b, g) ∷ (c, h) ∷ (d, i) ∷ (not e, j) ∷ []) ≡ None → (d ≡ false) × (e ≡ true)
last_tests true b c d e f g h i j k = absurd cc
last_tests false true c d e f g h i j k = absurd cc
last_tests false false true d e f g h i j k = absurd cc
last_tests false false false true e f g h i j k = absurd cc
last_tests false false false false false f g h i j k = absurd cc
last_tests false false false false true f g h i j k = (refl, refl)

value_tests : (profile : Profile) (limit : ℕ) (s : Document) (path : List Part) (v : Value)
    → item_number path (mentions_in s) ≡ None → refusal profile limit s (insert path v) ≡ None
    → (is_too_deep limit path v (mentions_in s) ≡ false) × (is_allowed_in profile v ≡ true)
value_tests profile limit s path v no_item allowed =
    let ms : List Mention = mentions_in s in
    let a : List Part = holder path ms in
    let tests : first_that_holds (
    (not (is_node path ms) && list_any is_index (drop (length a) path), fault.NotFound)
    ∷ (is_node path ms, fault.Exists)
    ∷ (not (is_table a ms), fault.NotTable)
    ∷ (is_too_deep limit path v ms, fault.TooDeep)
    ∷ (not (is_allowed_in profile v), fault.Profile) ∷ []) ≡ None =
    rw (no_item, refusal_by) at allowed in
    last_tests (not (is_node path ms) && list_any is_index (drop (length a) path)) (is_node path ms)
    (not (is_table a ms)) (is_too_deep limit path v ms) (is_allowed_in profile v) _ _ _ _ _ tests

pub suits_there : (profile : Profile) (limit : ℕ) (s : Document) (path : List Part) (v : Value)
    → item_number path (mentions_in s) ≡ None → refusal profile limit s (insert path v) ≡ None
    → is_allowed_in profile v ≡ true
suits_there profile limit s path v no_item allowed = (value_tests profile limit s path v no_item allowed).1

pub shallow_there : (profile : Profile) (limit : ℕ) (s : Document) (path : List Part) (v : Value)
    → item_number path (mentions_in s) ≡ None → refusal profile limit s (insert path v) ≡ None
    → enclosing path (mentions_in s) + value_depth v ≤ limit
shallow_there profile limit s path v no_item allowed =
    ltb-false limit (enclosing path (mentions_in s) + value_depth v)
    (value_tests profile limit s path v no_item allowed).0

shallow : (profile : Profile) (limit : ℕ) (s : Document) (path : List Part) (v : Value)
    → item_number path (mentions_in s) ≡ None → refusal profile limit s (insert path v) ≡ None → value_depth v ≤ limit
shallow profile limit s path v no_item allowed = omega (arith, shallow_there profile limit s path v no_item allowed)

-- ---- the change

-- the table has a body of its own, or a line whose key or header continues from it
abbrev pub has_lines : Document → List Part → Bool
has_lines s a =
    elim (end_of s a) [
      | Some n ↦ true
      | None ↦
          elim (last_line (leads_dotted a) start (lines s)) [
            | Some i ↦ true
            | None ↦
                elim (last_line (leads_through a) start (lines s)) [ Some i ↦ true | None ↦ false ]
          ]
    ]

pub record IsInsertedWhole (profile : Profile) (limit : ℕ) (s : Document) (path : List Part) (v : Value) : Type 0 where
  pub changed : Changed Document
  pub is : change s (insert path v) ≡ Some changed
  pub whole : IsSetWhole profile s (insert path v) changed
  pub low : depth changed.to ≤ limit

same_change : (x y : Changed Document) (o : Option (Changed Document)) → o ≡ Some x → o ≡ Some y → x ≡ y
same_change x y o e h = cc

-- from lines put in
lines_whole : (profile : Profile) (limit : ℕ) (s : Document) (path : List Part) (v : Value) (n : ℕ)
    (contents : List Content) → depth s ≤ limit → contents_depth contents ≤ limit
    → (c : Changed Document) × ((change s (insert path v) ≡ Some c) × IsSetWhole profile s (insert path v) c)
    → change s (insert path v) ≡ at_line s n contents
    → IsInsertedWhole profile limit s path v
lines_whole profile limit s path v n contents low given (c, both) is =
    let same : depth c.to ≡ depth (line_change s n contents).to =
    ap (λ (x : Changed Document). depth x.to)
    (same_change c (line_change s n contents) (change s (insert path v)) both.0 is) in
    record { changed = c; is = both.0; whole = both.1; low = omega (arith, same, line_depth s n contents, low, given) }

pub insert_whole : (profile : Profile) (limit : ℕ) (s : Document) (path : List Part) (v : Value)
    → IsEditable profile limit s → IsGivenValue profile v → AllOf (IsKeyText profile) (keys_in path)
    → item_number path (mentions_in s) ≡ None → has_lines s (holder path (mentions_in s)) ≡ true
    → refusal profile limit s (insert path v) ≡ None → IsInsertedWhole profile limit s path v
insert_whole profile limit s path v editable given texts no_item has allowed =
    by (end_of s a) refl (last_line (leads_dotted a) start (lines s)) refl (last_line (leads_through a) start (lines s))
    refl has
  where
    a : List Part
    a = holder path (mentions_in s)

    low : value_depth v ≤ limit
    low = shallow profile limit s path v no_item allowed

    by : (o : Option ℕ) → end_of s a ≡ o → (p : Option ℕ) → last_line (leads_dotted a) start (lines s) ≡ p
        → (q : Option ℕ) → last_line (leads_through a) start (lines s) ≡ q
        → elim o [ Some n ↦ true | None ↦ elim p [ Some i ↦ true | None ↦ elim q [ Some i ↦ true | None ↦ false ] ] ]
        ≡ true → IsInsertedWhole profile limit s path v
    by (Some n) e p k q m h =
        lines_whole profile limit s path v n (new_keyval (drop (length a) path) v ∷ []) editable.shallow
        (omega (arith, low))
        (insert_at_body_end profile limit s path v n allowed no_item e texts editable.valid editable.obeys given.valid
        given.obeys) (change_here s path v n no_item e)
    by None e (Some i) k q m h =
        lines_whole profile limit s path v (suc i)
        (new_keyval (drop (length (reading_at i (lines s)).body) (a ++ drop (length a) path)) v ∷ []) editable.shallow
        (omega (arith, low))
        (insert_after_dotted profile limit s path v i allowed no_item e k texts editable.valid editable.obeys
        given.valid given.obeys) (change_there s path v i no_item e k)
    by None e None k (Some i) m h =
        lines_whole profile limit s path v (body_end i (lines s))
        (blank ∷ new_header (keys_in a) ∷ new_keyval (drop (length a) path) v ∷ []) editable.shallow
        (omega (arith, low))
        (insert_section profile limit s path v i allowed no_item e k m texts editable.valid editable.obeys given.valid
        given.obeys) (change_section s path v i no_item e k m)
    by None e None k None m h = absurd cc
