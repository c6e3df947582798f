-- An insert of one key at the end of a body, with anything in its value, gives the index the node of the line, and
-- below it those in the value.
--
-- The law of the edit gives a document between the old and the new one, which has the line with nothing in its value.
-- What is known of its nodes is known of any document with a line more (`line_added`), and from it to the new one there
-- is another value (`value_gives_nodes`). The line's node has the number under which it was put (`number_at`), and no
-- node is below it, since below a path without a node there is none (`nothing_gone`).
--
-- Theorem: `line_value_added`.
use Rattle.std.proofs.Common.{◌≡◌, ℕ, zero, suc, ◌+◌, ◌-◌, Bor, List, [], ◌++◌, length, get_or, take, slice_get, refl}
use Rattle.std.proofs.Common.{sym, ap, ap₂, ◌∙◌, arith, Option, Some, None, Ok}
use Rattle.std.specs.List.{insert as put}
use Rattle.std.proofs.lemmas.List.Edits.{get_or-insert_above, get_or-insert_at, length-insert}
use Rattle.keep_types.specs.declared.leaf.Profile.TheVariants.{Wide}
use Rattle.keep_types.specs.declared.node.Kind.{Kind}
use Rattle.keep_syntax.specs.declared.syntax.Syntax.{Syntax}
use Rattle.keep_syntax.specs.Tree.{Value, Document}
use Rattle.keep_path.specs.NodeInfos.{NodeInfos, with_node}
use Rattle.keep_path.specs.NodesBelow.{AreBelow, Totals, with_value}
use Rattle.keep_path.specs.Path.{Part, AreUtf8, key}
use Rattle.keep_index_store.specs.Below.{totals_in}
use Rattle.keep_index_store.specs.declared.renumbering.LineNumbers.{LineNumbers}
use Rattle.keep_index_store.specs.declared.shift.Totals as shift
use Rattle.keep_index_store.specs.Renumbering.{numbers_of}
use Rattle.keep_meaning.specs.Meaning.{body_fact, mentions_in}
use Rattle.keep_meaning.specs.Nodes.{fact_kind, node_number}
use Rattle.keep_meaning.specs.OtherValues.{HasOtherValue, nodes_in_value, totals_of}
use Rattle.keep_meaning.proofs.Shared.{paths-nodes_in, value_gives_nodes}
use Rattle.keep_rules.specs.declared.index.NodeId.{NodeId}
use Rattle.keep_rules.specs.LinePlaces.{one_more}
use Rattle.keep_rules.proofs.Shared.{value_is_nested}
use Rattle.keep_edit_spec.specs.Edits.{edited_document, insert}
use Rattle.keep_edit_spec.specs.KeyvalLines.{InsertAddsValue}
use Rattle.keep_edit_spec.specs.Laws.{IsGivenValue}
use Rattle.keep_edit_spec.specs.Look.{holder}
use Rattle.keep_edit_spec.proofs.Shared.{insert_lawful}
use Rattle.keep_edit_plan.specs.IndexChanges.{IsIndexChange}
use Rattle.keep_edit_plan.specs.Inserting.{IsInsertionOf}
use Rattle.keep_edit_plan.specs.LineNumbers.{AreNumbersAfter}
use Rattle.keep_edit_plan.specs.Reading.{limit, ProfiledText, Holds, IsTextOfTree, IsTextOfValue, telling_in}
use Rattle.keep_edit_plan.specs.declared.insert.Insertion.{Insertion}
use Rattle.keep_edit_plan.specs.declared.insert.Spot.TheVariants.{AfterBody}
use Rattle.keep_edit_plan.specs.declared.plan.IndexChange.TheVariants as change
use Rattle.keep_edit_plan.proofs.EditedLaws.{editable}
use Rattle.keep_edit_plan.proofs.KeysLaws.{keys_utf8}
use Rattle.keep_edit_plan.proofs.LineChangeLaws.{IsLineAdded, can_add, line_added, place_in, whole}
use Rattle.keep_rules.proofs.Shared.{has_number, number_at, paths_differ}

-- ---- another value for a line that has nothing in it

module _ (s bare new : Document) (path : List Part) (v : Value) (parent : NodeId) (text : List ℕ)
    (numbers : LineNumbers)
    (added : IsLineAdded s bare path (fact_kind (body_fact v.body)) parent text numbers)
    (other : HasOtherValue bare new path v) where
  abbrev old_paths : List (List Part)
  old_paths = (telling_in s).paths

  abbrev place : ℕ
  place = place_in s numbers

  abbrev kind : Kind
  kind = fact_kind (body_fact v.body)

  paths_are : (telling_in bare).paths ≡ put old_paths place path
  paths_are = ap (λ (t : NodeInfos). t.paths) (sym added.facts)

  one_longer : length (telling_in bare).paths ≡ length old_paths + 1
  one_longer = ap length paths_are ∙ length-insert old_paths place path added.within

  stands : get_or (telling_in bare).paths place [] ≡ path
  stands =
      ap (λ (ps : List (List Part)). get_or ps place []) paths_are
      ∙ get_or-insert_at old_paths place path [] added.within

  -- below a path that had no node there was none
  no_longer : (more : List Part) → node_number old_paths (path ++ more) ≡ None
  no_longer more =
      ap (λ (ps : List (List Part)). node_number ps (path ++ more)) (paths-nodes_in s)
      ∙ added.was.closed path more (ap (λ (ps : List (List Part)). node_number ps path) (sym (paths-nodes_in s))
      ∙ added.fresh)

  nothing_gone : (gone : ℕ) → AreBelow (telling_in bare).paths place gone → gone ≡ 0
  nothing_gone zero below = refl
  nothing_gone (suc n) below =
      let (more, some, is) = below.below (place + 1) (omega arith) (omega arith) in
      let was : get_or old_paths place [] ≡ path ++ more =
      sym (ap (λ (ps : List (List Part)). get_or ps (place + 1) []) paths_are
      ∙ get_or-insert_above old_paths place path [] place (omega arith) added.within)
      ∙ is ∙ ap (λ (p : List Part). p ++ more) stands in
      absurd (has_number old_paths place (path ++ more) (omega (arith, below.within, one_longer)) was (no_longer more))

  pub value_added : with_value (with_node (telling_in s) place (numbers_of numbers) path kind) place 0 (totals_of bare)
      (totals_of new) (nodes_in_value v) kind
      ≡ telling_in new
  value_added =
      let here : node_number (telling_in bare).paths path ≡ Some place =
      number_at (telling_in bare).paths (paths_differ bare) place path (omega (arith, one_longer, added.within))
      stands in
      let (gone, below, is) = value_gives_nodes bare new path v other place here in
      sym (is
      ∙ ap (λ (n : ℕ). with_value (telling_in bare) place n (totals_of bare) (totals_of new) (nodes_in_value v) kind)
      (nothing_gone gone below)
      ∙ ap (λ (t : NodeInfos). with_value t place 0 (totals_of bare) (totals_of new) (nodes_in_value v) kind)
      (sym added.facts))

-- ---- the insert

module _ (law : InsertAddsValue) (d : ProfiledText) (syntax : Syntax) (index : NodeInfos) (path : List Part)
    (s : Document) (v : Value) (given : Bor (List ℕ))
    (i : Insertion) (holds : Holds d syntax index) (read : IsTextOfTree d s) (value : IsTextOfValue given.now v)
    (there : IsInsertionOf d.profile path v s (Ok i)) (utf8 : AreUtf8 path) (header : Option ℕ)
    (after_body : i.spot ≡ AfterBody header)
    (text : Bor (List ℕ)) (step : slice_get path i.from ≡ Some (key text.now)) (few : length path - i.from ≡ 1)
    (parent : NodeId)
    (found : node_number index.paths (take i.from path) ≡ Some parent.0) (numbers : LineNumbers)
    (are : AreNumbersAfter (holder path (mentions_in s)) s numbers) (old : shift.Totals)
    (many : totals_in old ≡ totals_of s) where
  abbrev new : Document
  new = edited_document s (insert path v)

  pub line_value_added : IsIndexChange s new (change.AddedValue parent text numbers given old)
  line_value_added =
      let of_value : IsGivenValue Wide v = record { valid = value.reads.valid; obeys = value.obeys } in
      let one =
      whole d syntax index path s v given.now i holds read value there utf8 header after_body text step few parent found
      numbers are in
      let (bare, is_bare, other) =
      law d.profile limit s path text.now v are.line (editable d s read) of_value (keys_utf8 path utf8) there.0 one
      are.ends in
      let added : IsLineAdded s bare path (fact_kind (body_fact v.body)) parent text.now numbers =
      line_added d syntax index path s v given.now i holds read value there utf8 header after_body text step few parent
      found numbers are bare is_bare.line in
      let both : ℕ → ℕ → Totals = λ a b. record { values = a; keys = b } in
      let totals : one_more (totals_in old) ≡ totals_of bare =
      ap one_more many ∙ sym (ap₂ both is_bare.values is_bare.keys) in
      record {
        can = can_add added;
        facts = λ u is. is v value
            ∙ ap (λ (p : List Part).
            with_value (with_node (telling_in s) (place_in s numbers) (numbers_of numbers) p
            (fact_kind (body_fact v.body)))
            (place_in s numbers) 0 (one_more (totals_in old)) (totals_of new) (nodes_in_value v)
            (fact_kind (body_fact v.body))) added.path_is
            ∙ ap (λ (t : Totals).
            with_value (with_node (telling_in s) (place_in s numbers) (numbers_of numbers) path
            (fact_kind (body_fact v.body)))
            (place_in s numbers) 0 t (totals_of new) (nodes_in_value v) (fact_kind (body_fact v.body))) totals
            ∙ value_added s bare new path v parent text.now numbers added other;
        nested =
            value_is_nested bare new path v other is_bare.obeys
            (insert_lawful d.profile limit s path v (editable d s read) of_value (keys_utf8 path utf8) there.0).obeys
            added.nested;
      }
