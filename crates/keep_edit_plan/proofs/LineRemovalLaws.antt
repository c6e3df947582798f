-- A remove of a keyval's line, of one key part and with nothing below its value, takes one node from the index: that of
-- the line.
--
-- The law of the edit says that the old document has one line more, after the statements that are counted for its
-- numbers (`line_of_value`, `line_numbers`). So its node is the one that is met after those that they tell of, and a
-- path has one number (`line_less`). The nodes that are left are nested as the headers say, since none of them was
-- below the line's (`nested_less`).
--
-- Theorem: `line_removed`.
use Rattle.std.proofs.Common.{◌≡◌, ℕ, ◌<◌, ◌≤◌, false, List, [], length, get_or, map, sym, ap, subst, ◌∙◌, arith, None}
use Rattle.std.proofs.Common.{Some, slice_get}
use Rattle.std.specs.List.{filter_map, insert as put}
use Rattle.std.proofs.lemmas.List.Edits.{get_or-insert_at, length-insert}
use Rattle.keep_types.specs.declared.syntax.Owner.TheVariants as owner
use Rattle.keep_types.specs.declared.syntax.ValueInfo.{ValueInfo}
use Rattle.keep_syntax.specs.declared.syntax.Syntax.{Syntax}
use Rattle.keep_syntax.specs.Contract.{values_of}
use Rattle.keep_syntax.specs.Tree.{Document, Value}
use Rattle.keep_path.specs.NodeInfos.{NodeInfos, without_node}
use Rattle.keep_path.specs.Path.{Part}
use Rattle.keep_index_store.specs.declared.renumbering.LineNumbers.{LineNumbers}
use Rattle.keep_index_store.specs.Renumbering.{numbers_of}
use Rattle.keep_meaning.specs.Counts.{line_statement, statements_in}
use Rattle.keep_meaning.specs.LinesMore.{HasLineMore, nodes_after, numbers_after, path_after}
use Rattle.keep_meaning.specs.Marks.{reading_after, start}
use Rattle.keep_meaning.specs.Meaning.{body_fact, line_of, mentions_in}
use Rattle.keep_meaning.specs.Nodes.{children, is_node, node_number, node_paths}
use Rattle.keep_meaning.proofs.Shared.{few_before, line_adds_node, line_takes_node, paths-nodes_in}
use Rattle.keep_rules.specs.declared.index.NodeId.{NodeId}
use Rattle.keep_rules.specs.Lookup.{children_numbered}
use Rattle.keep_rules.specs.Nested.{AreNested}
use Rattle.keep_rules.proofs.Shared.{line_leaves_nested, number_is}
use Rattle.keep_edit_spec.specs.Edits.{edited_document, remove}
use Rattle.keep_edit_spec.specs.KeyvalLines.{HasLineAt}
use Rattle.keep_edit_spec.specs.Refusals.{refusal}
use Rattle.keep_edit_spec.proofs.Shared.{line_numbers, line_of_value, remove_takes_line}
use Rattle.keep_edit_plan.specs.Answers.{value_number_of}
use Rattle.keep_edit_plan.specs.IndexChanges.{IsIndexChange}
use Rattle.keep_edit_plan.specs.Plans.{IsNodeOf}
use Rattle.keep_edit_plan.specs.Reading.{limit, ProfiledText, Holds, IsTextOfTree, telling_in}
use Rattle.keep_edit_plan.specs.declared.plan.IndexChange.TheVariants as change
use Rattle.keep_edit_plan.proofs.AnswerLaws.{tree_is}
use Rattle.keep_edit_plan.proofs.KindLaws.{nothing_below}
use Rattle.keep_rules.proofs.Shared.{number_at, paths_differ}
use Rattle.keep_edit_plan.proofs.RemoveCut.{IsLineOfValue, line_arm, removal_law}

module _ (d : ProfiledText) (syntax : Syntax) (index : NodeInfos) (path : List Part) (s : Document)
    (holds : Holds d syntax index) (read : IsTextOfTree d s)
    (id : NodeId) (its_number : IsNodeOf path s id) (allowed : refusal d.profile limit s (remove path) ≡ None)
    (number : ℕ)
    (found : value_number_of path s ≡ Some number) (info : ValueInfo)
    (stored : slice_get (values_of syntax) number ≡ Some info)
    (line : ℕ) (owned : info.owner ≡ owner.Line line) where
  abbrev new : Document
  new = edited_document s (remove path)

  abbrev numbers : LineNumbers
  numbers = record { statement = line; value = number; key = info.first_key }

  pub of : IsLineOfValue d syntax index path s holds read allowed number info line
  of = (line_arm d syntax index path s holds read allowed number info line found stored owned).of

  abbrev pub held : Value
  held = of.found.its_line.held

  pub here : node_number (telling_in s).paths path ≡ Some id.0
  here = ap (λ (ps : List (List Part)). node_number ps path) (paths-nodes_in s) ∙ its_number

  pub nested : AreNested (mentions_in s) (reading_after start (statements_in s)).tables
  nested =
      subst (λ (u : Document). AreNested (mentions_in u) (reading_after start (statements_in u)).tables)
      (tree_is d syntax index s holds read) holds.nested

  pub numbers_are : numbers_after (filter_map line_statement (map line_of of.pre)) ≡ numbers_of numbers
  numbers_are =
      line_numbers path s of.pre of.rest of.was of.found
      ∙ ap (λ (n : ℕ). record { statement = n; value = of.found.value.number; key = of.found.own.first_key }) of.line_is
      ∙ ap (λ (n : ℕ). record { statement = line; value = n; key = of.found.own.first_key }) of.value_is
      ∙ ap (λ (i : ValueInfo). record { statement = line; value = number; key = i.first_key }) of.own_is

  -- a document that has the line more than the new one, with nothing below its node
  module _ (more : Document) (taken : HasLineAt new more path (body_fact held.body) (map line_of of.pre))
      (there : node_number (telling_in more).paths path ≡ Some id.0)
      (alone : children path (node_paths (mentions_in more)) ≡ []) where
    abbrev its_line : HasLineMore new more
    its_line = taken.line

    fresh : is_node (path_after its_line.before its_line.text) (mentions_in new) ≡ false
    fresh = ap (λ (p : List Part). is_node p (mentions_in new)) taken.place ∙ taken.fresh

    -- the line's node is the path's
    at : nodes_after its_line.before ≡ id.0
    at =
        let ps : List (List Part) = (telling_in more).paths in
        let k : ℕ = nodes_after its_line.before in
        let p : List Part = path_after its_line.before its_line.text in
        let low : k ≤ length (telling_in new).paths = few_before new its_line.before its_line.after its_line.old in
        let many : ps ≡ put (telling_in new).paths k p =
        ap (λ (t : NodeInfos). t.paths) (line_adds_node new more its_line fresh) in
        let stands : get_or ps k [] ≡ path =
        ap (λ (l : List (List Part)). get_or l k []) many ∙ get_or-insert_at (telling_in new).paths k p [] low
        ∙ taken.place in
        let within : k < length ps = omega (arith, low, ap length many, length-insert (telling_in new).paths k p low) in
        let both : Some k ≡ Some id.0 = sym (number_at ps (paths_differ more) k path within stands) ∙ there in
        cc

    pub line_less : without_node (telling_in more) id.0 (numbers_of numbers) ≡ telling_in new
    line_less = sym (line_takes_node new more its_line fresh
        ∙ ap (λ (n : ℕ). without_node (telling_in more) n (numbers_after its_line.before)) at
        ∙ ap (without_node (telling_in more) id.0) (ap numbers_after taken.after ∙ numbers_are))

    pub nested_less : AreNested (mentions_in more) (reading_after start (statements_in more)).tables
        → AreNested (mentions_in new) (reading_after start (statements_in new)).tables
    nested_less =
        line_leaves_nested new more its_line fresh (removal_law d path s read allowed).obeys
        (ap (λ (p : List Part). children p (node_paths (mentions_in more))) taken.place ∙ alone)

  -- the line has one key
  module _ (one : info.keys ≡ 1) where
    pub one_key : of.found.own.keys ≡ 1
    one_key = ap (λ (i : ValueInfo). i.keys) of.own_is ∙ one

    -- where no node is below the value, the old document is such a one
    pub line_removed : (count : ℕ) → count ≡ length (children_numbered index id.0) → count ≤ 0
        → IsIndexChange s new (change.RemovedLine id numbers)
    line_removed count counted few =
        let alone : children path (node_paths (mentions_in s)) ≡ [] =
        nothing_below d syntax index path s holds read id its_number count counted few in
        let taken : HasLineAt new s path (body_fact held.body) (map line_of of.pre) =
        remove_takes_line s path (map line_of of.pre) held read.obeys
        (line_of_value path s of.pre of.rest of.was of.found one_key alone) in
        record {
          can = (number_is (telling_in s).paths path id.0 here).0;
          facts = λ u is. is ∙ line_less s taken here alone;
          nested = nested_less s taken here alone nested;
        }
