-- A remove of a keyval's line, of one key part, takes from the index the nodes in its value, and then that of the line.
--
-- The law of the edit gives a document between the old and the new one, which has the line with nothing in its value.
-- From the old one to it there is another value, in which there are no nodes (`value_gives_nodes`), so the line's node
-- keeps its number (`number_kept`), and no node is below it (`empty_has_no_child`). From it to the new one there is a
-- line less (`line_less`).
--
-- Theorem: `line_value_removed`.
use Rattle.std.proofs.Common.{◌≡◌, ℕ, suc, ◌+◌, List, [], ◌++◌, length, get_or, take, drop, map, refl, sym, ap, ap₂}
use Rattle.std.proofs.Common.{◌∙◌, arith, length-append, None, Some, slice_get}
use Rattle.std.proofs.lemmas.List.{get_or-take, get_or_append_left, length-take-le}
use Rattle.keep_types.specs.declared.node.Kind.{Kind}
use Rattle.keep_types.specs.declared.syntax.Owner.TheVariants as owner
use Rattle.keep_types.specs.declared.syntax.ValueInfo.{ValueInfo}
use Rattle.keep_syntax.specs.declared.syntax.Syntax.{Syntax}
use Rattle.keep_syntax.specs.Contract.{values_of}
use Rattle.keep_syntax.specs.Tree.{Document, Value}
use Rattle.keep_path.specs.NodeInfos.{NodeInfos, root_infos, without_node}
use Rattle.keep_path.specs.NodesBelow.{AreBelow, Totals, with_value}
use Rattle.keep_path.specs.Path.{Part}
use Rattle.keep_index_store.specs.Below.{totals_in}
use Rattle.keep_index_store.specs.declared.renumbering.LineNumbers.{LineNumbers}
use Rattle.keep_index_store.specs.declared.shift.Totals as shift
use Rattle.keep_index_store.specs.Renumbering.{numbers_of}
use Rattle.keep_meaning.specs.Counts.{statements_in}
use Rattle.keep_meaning.specs.Marks.{reading_after, start}
use Rattle.keep_meaning.specs.Meaning.{body_fact, line_of, mentions_in}
use Rattle.keep_meaning.specs.Nodes.{children, fact_kind, node_number, node_paths}
use Rattle.keep_meaning.specs.OtherValues.{HasOtherValue, totals_of}
use Rattle.keep_meaning.proofs.Shared.{value_gives_nodes}
use Rattle.keep_rules.specs.declared.index.NodeId.{NodeId}
use Rattle.keep_rules.specs.LinePlaces.{one_more}
use Rattle.keep_rules.specs.Nested.{AreNested}
use Rattle.keep_rules.proofs.Shared.{empty_has_no_child, number_is, value_is_nested}
use Rattle.keep_edit_spec.specs.Edits.{edited_document, remove}
use Rattle.keep_edit_spec.specs.KeyvalLines.{IsBareLine, RemoveTakesValue, bare_value}
use Rattle.keep_edit_spec.specs.Refusals.{refusal}
use Rattle.keep_edit_spec.proofs.Shared.{value_line}
use Rattle.keep_edit_plan.specs.Answers.{value_number_of}
use Rattle.keep_edit_plan.specs.IndexChanges.{IsIndexChange}
use Rattle.keep_edit_plan.specs.Plans.{IsNodeOf}
use Rattle.keep_edit_plan.specs.Reading.{limit, ProfiledText, Holds, IsTextOfTree, telling_in}
use Rattle.keep_edit_plan.specs.declared.plan.IndexChange.TheVariants as change
use Rattle.keep_edit_plan.proofs.EditedLaws.{editable}
use Rattle.keep_edit_plan.proofs.LineRemovalLaws as removal
use Rattle.keep_rules.proofs.Shared.{number_at, paths_differ}
use Rattle.keep_edit_plan.proofs.RemoveCut.{IsLineOfValue}

-- a value's own path is among those before the nodes in it, so it keeps its number
number_kept : (s bare : Document) (path : List Part) (i gone : ℕ) (old new : Totals) (inside : NodeInfos) (kind : Kind)
    → node_number (telling_in s).paths path ≡ Some i
    → telling_in bare ≡ with_value (telling_in s) i gone old new inside kind
    → node_number (telling_in bare).paths path ≡ Some i
number_kept s bare path i gone old new inside kind here is =
    let ps : List (List Part) = (telling_in s).paths in
    let late : List (List Part) =
    map (λ (p : List Part). get_or ps i [] ++ p) (drop 1 inside.paths) ++ drop (suc i + gone) ps in
    let (low, stands) = number_is ps path i here in
    let front : length (take (suc i) ps) ≡ suc i = length-take-le (suc i) ps (omega (arith, low)) in
    let are : (telling_in bare).paths ≡ take (suc i) ps ++ late = ap (λ (t : NodeInfos). t.paths) is in
    number_at (telling_in bare).paths (paths_differ bare) i path
    (omega (arith, ap length are, length-append (take (suc i) ps) late, front))
    (ap (λ (l : List (List Part)). get_or l i []) are
    ∙ get_or_append_left (take (suc i) ps) late [] i (omega (arith, front))
    ∙ get_or-take (suc i) ps i [] (omega arith) ∙ stands)

module _ (law : RemoveTakesValue) (d : ProfiledText) (syntax : Syntax) (index : NodeInfos) (path : List Part)
    (s : Document) (holds : Holds d syntax index)
    (read : IsTextOfTree d s) (id : NodeId) (its_number : IsNodeOf path s id)
    (allowed : refusal d.profile limit s (remove path) ≡ None) (number : ℕ)
    (found : value_number_of path s ≡ Some number) (info : ValueInfo)
    (stored : slice_get (values_of syntax) number ≡ Some info) (line : ℕ)
    (owned : info.owner ≡ owner.Line line) (one : info.keys ≡ 1) (old : shift.Totals)
    (many : totals_in old ≡ totals_of s) where
  abbrev new : Document
  new = edited_document s (remove path)

  abbrev numbers : LineNumbers
  numbers = record { statement = line; value = number; key = info.first_key }

  abbrev of : IsLineOfValue d syntax index path s holds read allowed number info line
  of = removal.of d syntax index path s holds read id its_number allowed number found info stored line owned

  abbrev held : Value
  held = of.found.its_line.held

  abbrev kind : Kind
  kind = fact_kind (body_fact held.body)

  here : node_number (telling_in s).paths path ≡ Some id.0
  here = removal.here d syntax index path s holds read id its_number allowed number found info stored line owned

  nested : AreNested (mentions_in s) (reading_after start (statements_in s)).tables
  nested = removal.nested d syntax index path s holds read id its_number allowed number found info stored line owned

  -- the document between
  module _ (bare : Document) (other : HasOtherValue s bare path (bare_value held))
      (is_bare : IsBareLine new bare path (body_fact held.body) (map line_of of.pre)) where
    totals : totals_of bare ≡ one_more (totals_of new)
    totals = let both : ℕ → ℕ → Totals = λ a b. record { values = a; keys = b } in ap₂ both is_bare.values is_bare.keys

    changed : (gone : ℕ) → AreBelow (telling_in s).paths id.0 gone
        → telling_in bare ≡ with_value (telling_in s) id.0 gone (totals_of s) (totals_of bare) root_infos kind
        → IsIndexChange s new (change.RemovedValue id numbers old)
    changed gone below is =
        let there : node_number (telling_in bare).paths path ≡ Some id.0 =
        number_kept s bare path id.0 gone (totals_of s) (totals_of bare) root_infos kind here is in
        let alone : children path (node_paths (mentions_in bare)) ≡ [] =
        empty_has_no_child s bare path (bare_value held) other refl in
        let less =
        removal.line_less d syntax index path s holds read id its_number allowed number found info stored line owned
        bare is_bare.line there alone in
        let left =
        removal.nested_less d syntax index path s holds read id its_number allowed number found info stored line owned
        bare is_bare.line there alone in
        record {
          can = (number_is (telling_in s).paths path id.0 here).0;
          facts = λ u by. by gone kind below
              ∙ ap (λ (t : NodeInfos). without_node t id.0 (numbers_of numbers))
              (ap (λ (t : Totals). with_value (telling_in s) id.0 gone t (one_more (totals_of new)) root_infos kind)
              many
              ∙ ap (λ (t : Totals). with_value (telling_in s) id.0 gone (totals_of s) t root_infos kind) (sym totals)
              ∙ sym is)
              ∙ less;
          nested = left (value_is_nested s bare path (bare_value held) other read.obeys is_bare.obeys nested);
        }

    taken : IsIndexChange s new (change.RemovedValue id numbers old)
    taken = let (gone, below, is) =
        value_gives_nodes s bare path (bare_value held) other id.0 here in changed gone below is

  pub line_value_removed : IsIndexChange s new (change.RemovedValue id numbers old)
  line_value_removed =
      let one_key =
      removal.one_key d syntax index path s holds read id its_number allowed number found info stored line owned one in
      let its_line = value_line path s of.pre of.rest of.was of.found one_key in
      let (bare, other, is_bare) = law d.profile limit s path (map line_of of.pre) held (editable d s read) its_line in
      taken bare other is_bare
