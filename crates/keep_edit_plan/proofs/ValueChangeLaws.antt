-- `set` puts another value in the place of one with a key: of all that the index tells, the nodes in the value change,
-- and the numbers of what comes after it.
--
-- The law of the edit gives the document with another value (`value_set`); of such a document what is known of the
-- nodes is known (`value_gives_nodes`), and how they are nested (`value_is_nested`).
--
-- Theorem: `value_changed`.
use Rattle.std.proofs.Common.{◌≡◌, ℕ, suc, ◌-◌, Bor, List, [], ◌∷◌, length, sym, ap, subst, ◌∙◌, arith, Option, Some}
use Rattle.std.proofs.Common.{None, slice_get}
use Rattle.keep_syntax.specs.declared.syntax.Syntax.{Syntax}
use Rattle.keep_syntax.specs.Tree.{Value, Document}
use Rattle.keep_path.specs.NodeInfos.{NodeInfos}
use Rattle.keep_path.specs.NodesBelow.{Totals, with_value}
use Rattle.keep_path.specs.Path.{Part, EndsInKey, key, last_part}
use Rattle.keep_index_store.specs.Below.{totals_in}
use Rattle.keep_index_store.specs.declared.shift.Totals as numbers
use Rattle.keep_meaning.specs.Counts.{statements_in}
use Rattle.keep_meaning.specs.Marks.{start, reading_after}
use Rattle.keep_meaning.specs.Meaning.{body_fact, mentions_in}
use Rattle.keep_meaning.specs.Nodes.{fact_kind, node_number}
use Rattle.keep_meaning.specs.OtherValues.{HasOtherValue, nodes_in_value, totals_of}
use Rattle.keep_meaning.proofs.Shared.{paths-nodes_in, value_gives_nodes}
use Rattle.keep_rules.specs.declared.index.NodeId.{NodeId}
use Rattle.keep_rules.specs.Nested.{AreNested}
use Rattle.keep_rules.proofs.Shared.{number_is, value_is_nested}
use Rattle.keep_edit_spec.specs.Changed.{Changed}
use Rattle.keep_edit_spec.specs.Edits.{changed_or_same, edited_document, set as set_edit}
use Rattle.keep_edit_spec.specs.Laws.{IsLawfulEdit}
use Rattle.keep_edit_spec.proofs.Shared.{set_lawful, rules_of_document, value_set}
use Rattle.keep_edit_plan.specs.Answers.{refusal_in}
use Rattle.keep_edit_plan.specs.IndexChanges.{IsIndexChange}
use Rattle.keep_edit_plan.specs.Plans.{IsNodeOf}
use Rattle.keep_edit_plan.specs.declared.plan.IndexChange.TheVariants as change
use Rattle.keep_edit_plan.specs.Reading.{limit, ProfiledText, Holds, IsTextOfTree, IsTextOfValue, telling_in}
use Rattle.keep_edit_plan.proofs.AnswerLaws.{tree_is}
use Rattle.keep_edit_plan.proofs.EditedLaws.{editable}

further : (x y : Part) (p : List Part) → suc (length (y ∷ p) - 1) ≡ length (x ∷ y ∷ p) - 1
further x y p = omega arith

-- a path whose step of the greatest number is a key ends in it
pub ends_in_key : (path : List Part) (text : List ℕ) → slice_get path (length path - 1) ≡ Some (key text)
    → EndsInKey path
ends_in_key path text e = (text, by path e)
  where
    by : (p : List Part) → slice_get p (length p - 1) ≡ Some (key text) → last_part p ≡ Some (key text)
    by [] e = absurd cc
    by (x ∷ []) e = e
    by (x ∷ y ∷ p) e = by (y ∷ p) (ap (λ (n : ℕ). slice_get (x ∷ y ∷ p) n) (further x y p) ∙ e)

-- and one that ends in a key has it as that step
pub key_at_end : (path : List Part) → EndsInKey path
    → (text : List ℕ) × (slice_get path (length path - 1) ≡ Some (key text))
key_at_end path (text, e) = (text, by path e)
  where
    by : (p : List Part) → last_part p ≡ Some (key text) → slice_get p (length p - 1) ≡ Some (key text)
    by [] e = absurd cc
    by (x ∷ []) e = e
    by (x ∷ y ∷ p) e = sym (ap (λ (n : ℕ). slice_get (x ∷ y ∷ p) n) (further x y p)) ∙ by (y ∷ p) e

-- the edit of the value of a node
pub value_changed : (d : ProfiledText) (syntax : Syntax) (index : NodeInfos) (path : List Part) (s : Document)
    → Holds d syntax index → IsTextOfTree d s → (id : NodeId) → IsNodeOf path s id
    → (given : Bor (List ℕ)) (v : Value) → IsTextOfValue given.now v → refusal_in d s (set_edit path v) ≡ None
    → EndsInKey path → (old : numbers.Totals) → totals_in old ≡ totals_of s
    → IsIndexChange s (edited_document s (set_edit path v)) (change.Value id given old)
value_changed d syntax index path s holds read id its_number given v value allowed ends old many =
    let new : Document = edited_document s (set_edit path v) in
    let law : IsLawfulEdit d.profile limit s (set_edit path v) =
    set_lawful d.profile limit s path v (editable d s read) (record { valid = value.reads.valid; obeys = value.obeys })
    allowed in
    let to : new ≡ law.changed.to = ap (λ (c : Option (Changed Document)). (changed_or_same s c).to) law.is in
    let h : HasOtherValue s new path v =
    subst (λ (u : Document). HasOtherValue s u path v) (sym to)
    (value_set s path v law.changed (rules_of_document s read.obeys) law.is ends) in
    let nested : AreNested (mentions_in s) (reading_after start (statements_in s)).tables =
    subst (λ (u : Document). AreNested (mentions_in u) (reading_after start (statements_in u)).tables)
    (tree_is d syntax index s holds read) holds.nested in
    let here : node_number (telling_in s).paths path ≡ Some id.0 =
    ap (λ (ps : List (List Part)). node_number ps path) (paths-nodes_in s) ∙ its_number in
    let (gone, below, is) = value_gives_nodes s new path v h id.0 here in
    record {
      can = (number_is (telling_in s).paths path id.0 here).0;
      facts = λ u by. by v value gone below
          ∙ ap (λ (t : Totals).
          with_value (telling_in s) id.0 gone t (totals_of new) (nodes_in_value v) (fact_kind (body_fact v.body))) many
          ∙ sym is;
      nested = value_is_nested s new path v h read.obeys law.obeys nested;
    }
