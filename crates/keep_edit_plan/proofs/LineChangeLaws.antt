-- An insert of one key at the end of a body gives the index one node more: that of the line.
--
-- A document with one line more has it after the statements that are counted for its numbers. So its node comes where
-- the facts say that the first node is met after the line (`line_added`), and the nodes are nested as the headers say.
-- Where the line is the last statement, its node is the last (`last_told`). The law of the edit says that the new
-- document is such a one, if nothing is in the value (`its_line`).
--
-- Theorems: `line_changed`; `last_line_changed`.
use Rattle.std.proofs.Common.{◌≡◌, ℕ, zero, suc, ◌-◌, ◌<◌, ◌≤◌, Bor, false, List, [], ◌∷◌, ◌++◌, length, take, drop}
use Rattle.std.proofs.Common.{slice_get, sym, ap, subst, ◌∙◌, arith, Option, Some, None, Ok}
use Rattle.std.proofs.lemmas.List.{take-append-drop}
use Rattle.keep_types.specs.declared.node.Kind.{Kind}
use Rattle.keep_syntax.specs.declared.syntax.Syntax.{Syntax}
use Rattle.keep_syntax.specs.Contract.{IsSyntaxOf, statements_of}
use Rattle.keep_syntax.specs.Tree.{Value, Document, value_depth}
use Rattle.keep_path.specs.NodeInfos as node_infos
use Rattle.keep_path.specs.NodeInfos.{NodeInfos, line_info, with_last, with_node}
use Rattle.keep_path.specs.Path.{Part, AreUtf8, key}
use Rattle.keep_index_store.specs.declared.renumbering.LineNumbers.{LineNumbers}
use Rattle.keep_index_store.specs.Renumbering.{numbers_of}
use Rattle.keep_meaning.specs.Counts.{statements_in}
use Rattle.keep_meaning.specs.LinesMore.{HasLineMore, nodes_after, numbers_after, path_after}
use Rattle.keep_meaning.specs.Marks.{reading_after, start}
use Rattle.keep_meaning.specs.Meaning.{body_fact, lines, mentions_in}
use Rattle.keep_meaning.specs.Nodes.{fact_kind, infos_in, is_node, node_number}
use Rattle.keep_meaning.proofs.Shared.{few_before, line_adds_node, line_is_found, paths-nodes_in}
use Rattle.keep_rules.specs.declared.index.NodeId.{NodeId}
use Rattle.keep_rules.specs.LinePlaces.{IsPlaceOf, met_before}
use Rattle.keep_rules.specs.Lookup.{path_numbered}
use Rattle.keep_rules.specs.Nested.{AreNested}
use Rattle.keep_rules.proofs.Shared.{line_is_nested, number_is, place_is}
use Rattle.keep_edit_spec.specs.Edits.{edited_document, insert}
use Rattle.keep_edit_spec.specs.KeyvalLines.{HasLineAt}
use Rattle.keep_edit_spec.specs.Look.{holder, item_number}
use Rattle.keep_edit_spec.proofs.Shared.{holder_prefix, insert_adds_line}
use Rattle.keep_edit_plan.specs.IndexChanges.{IsIndexChange}
use Rattle.keep_edit_plan.specs.Inserting.{IsInsertionOf, IsKeyvalSpot}
use Rattle.keep_edit_plan.specs.LineNumbers.{AreNumbersAfter}
use Rattle.keep_edit_plan.specs.Reading.{limit, ProfiledText, Holds, IsTextOfTree, IsTextOfValue, telling_in}
use Rattle.keep_edit_plan.specs.declared.insert.Insertion.{Insertion}
use Rattle.keep_edit_plan.specs.declared.insert.Spot.TheVariants.{AfterBody}
use Rattle.keep_edit_plan.specs.declared.plan.IndexChange.TheVariants as change
use Rattle.keep_edit_plan.proofs.AnswerLaws.{stated_is, tree_is}
use Rattle.keep_edit_plan.proofs.InsertedLaws.{keyval_only}
use Rattle.keep_edit_plan.proofs.KeyLaws.{no_number}
use Rattle.keep_edit_plan.proofs.KeysLaws.{keys_utf8}
use Rattle.keep_edit_plan.proofs.KindLaws.{no_entries}
use Rattle.keep_edit_plan.proofs.LastLineLaws.{last_line_told}

-- where the facts say that the line's node comes
abbrev pub place_in : Document → LineNumbers → ℕ
place_in s numbers = met_before (numbers_of numbers) (infos_in s)

-- The second document has one line more, of this path, which is that of a key below a table: what is known of its
-- nodes.
pub record IsLineAdded (s more : Document) (path : List Part) (kind : Kind) (parent : NodeId) (text : List ℕ)
    (numbers : LineNumbers) : Type 0 where
  pub low : parent.0 < length (telling_in s).paths
  pub path_is : path_numbered (telling_in s) parent.0 ++ key text ∷ [] ≡ path
  pub fresh : node_number (telling_in s).paths path ≡ None
  pub within : place_in s numbers ≤ length (telling_in s).paths
  pub place : IsPlaceOf (numbers_of numbers) (infos_in s) (place_in s numbers)
  pub facts : with_node (telling_in s) (place_in s numbers) (numbers_of numbers) path kind ≡ telling_in more
  pub was : AreNested (mentions_in s) (reading_after start (statements_in s)).tables
  pub nested : AreNested (mentions_in more) (reading_after start (statements_in more)).tables

-- so the index can change, with the node and with more
abbrev pub CanAdd : Document → NodeId → List ℕ → LineNumbers → Type 0
CanAdd s parent text numbers =
    (parent.0 < length (telling_in s).paths)
    × (node_number (telling_in s).paths (path_numbered (telling_in s) parent.0 ++ key text ∷ []) ≡ None)
    × IsPlaceOf (numbers_of numbers) (infos_in s) (place_in s numbers)

pub can_add : {s more : Document} {path : List Part} {kind : Kind} {parent : NodeId} {text : List ℕ}
    {numbers : LineNumbers}
    → IsLineAdded s more path kind parent text numbers → CanAdd s parent text numbers
can_add {s} h = (h.low, ap (node_number (telling_in s).paths) h.path_is ∙ h.fresh, h.place)

-- the last step
one_left : (path : List Part) (n : ℕ) (p : Part) → slice_get path n ≡ Some p → length path - n ≡ 1
    → drop n path ≡ p ∷ []
one_left [] n p e few = absurd cc
one_left (x ∷ []) zero p e few = let same : x ≡ p = cc in ap (λ (q : Part). q ∷ []) same
one_left (x ∷ y ∷ path) zero p e few = absurd (omega (arith, few))
one_left (x ∷ path) (suc n) p e few = one_left path n p e (omega (arith, few))

module _ (d : ProfiledText) (syntax : Syntax) (index : NodeInfos) (path : List Part) (s : Document) (v : Value)
    (bytes : List ℕ) (i : Insertion)
    (holds : Holds d syntax index) (read : IsTextOfTree d s) (value : IsTextOfValue bytes v)
    (there : IsInsertionOf d.profile path v s (Ok i)) (utf8 : AreUtf8 path) (header : Option ℕ)
    (after_body : i.spot ≡ AfterBody header) where
  abbrev a : List Part
  a = holder path (mentions_in s)

  abbrev new : Document
  new = edited_document s (insert path v)

  abbrev old_index : NodeInfos
  old_index = telling_in s

  pub spot : (item_number path (mentions_in s) ≡ None) × IsKeyvalSpot a s i.from (AfterBody header)
  spot = keyval_only d syntax index path s v bytes i holds read value there utf8 (AfterBody header) after_body
      (λ n h. absurd h)

  pub body_spot : IsKeyvalSpot a s i.from (AfterBody header)
  body_spot = spot.1

  pub at_holder : i.from ≡ length a
  at_holder = by header body_spot
    where
      by : (o : Option ℕ) → IsKeyvalSpot a s i.from (AfterBody o) → i.from ≡ length a
      by None h = h.1 ∙ sym (ap (λ (p : List Part). length p) h.0)
      by (Some n) h = h.1

  pub prefix : take i.from path ≡ a
  prefix =
      ap (λ (n : ℕ). take n path) at_holder
      ∙ holder_prefix d.profile limit s path v read.reads.valid spot.0 there.0

  pub nested : AreNested (mentions_in s) (reading_after start (statements_in s)).tables
  nested =
      subst (λ (u : Document). AreNested (mentions_in u) (reading_after start (statements_in u)).tables)
      (tree_is d syntax index s holds read) holds.nested

  -- the step after the holder is the last, a key
  module _ (text : Bor (List ℕ)) (step : slice_get path i.from ≡ Some (key text.now)) (few : length path - i.from ≡ 1)
      (parent : NodeId)
      (found : node_number index.paths (take i.from path) ≡ Some parent.0) (numbers : LineNumbers)
      (are : AreNumbersAfter a s numbers) where
    pub whole : path ≡ a ++ key text.now ∷ []
    whole =
        sym (take-append-drop i.from path) ∙ ap (λ (p : List Part). p ++ drop i.from path) prefix
        ∙ ap (λ (p : List Part). a ++ p) (one_left path i.from (key text.now) step few)

    -- a document with one line more, at the end of the body
    module _ (more : Document) (added : HasLineAt s more path (body_fact v.body) (take are.line (lines s))) where
      abbrev line : HasLineMore s more
      line = added.line

      abbrev place : ℕ
      place = place_in s numbers

      fresh : is_node (path_after line.before line.text) (mentions_in s) ≡ false
      fresh = ap (λ (p : List Part). is_node p (mentions_in s)) added.place ∙ added.fresh

      numbers_are : numbers_after line.before ≡ numbers_of numbers
      numbers_are = ap numbers_after added.after ∙ sym are.counted

      is_place : IsPlaceOf (numbers_of numbers) (infos_in s) (nodes_after line.before)
      is_place =
          let (within, parts) = line_is_found s more line read.obeys in
          subst (λ (n : node_infos.LineNumbers). IsPlaceOf n (infos_in s) (nodes_after line.before)) numbers_are
          (record { within = within; parts = parts })

      at : nodes_after line.before ≡ place
      at = place_is (numbers_of numbers) (infos_in s) (nodes_after line.before) is_place

      facts : with_node old_index place (numbers_of numbers) path (fact_kind (body_fact v.body)) ≡ telling_in more
      facts = sym (line_adds_node s more line fresh
          ∙ ap (λ (n : ℕ).
          with_node old_index n (numbers_after line.before) (path_after line.before line.text) (fact_kind line.fact)) at
          ∙ ap (λ (n : node_infos.LineNumbers).
          with_node old_index place n (path_after line.before line.text) (fact_kind line.fact)) numbers_are
          ∙ ap (λ (p : List Part). with_node old_index place (numbers_of numbers) p (fact_kind line.fact)) added.place
          ∙ ap (with_node old_index place (numbers_of numbers) path) (ap fact_kind added.gives))

      pub line_added : IsLineAdded s more path (fact_kind (body_fact v.body)) parent text.now numbers
      line_added =
          let here : node_number old_index.paths (take i.from path) ≡ Some parent.0 =
          ap (λ (t : NodeInfos). node_number t.paths (take i.from path)) (sym (stated_is d syntax index s holds read))
          ∙ found in
          let (low, parent_is) = number_is old_index.paths (take i.from path) parent.0 here in
          record {
            low = low;
            path_is = ap (λ (p : List Part). p ++ key text.now ∷ []) (parent_is ∙ prefix) ∙ sym whole;
            fresh = ap (λ (ps : List (List Part)). node_number ps path) (paths-nodes_in s)
                ∙ no_number path (mentions_in s) added.fresh;
            within = subst (λ (n : ℕ). n ≤ length old_index.paths) at (few_before s line.before line.after line.old);
            place = subst (IsPlaceOf (numbers_of numbers) (infos_in s)) at is_place;
            facts = facts;
            was = nested;
            nested = line_is_nested s more line fresh read.obeys nested;
          }

      -- the line is the last statement
      last_told : numbers.statement ≡ length (statements_of syntax)
          → with_last old_index path (line_info (numbers_of numbers) (fact_kind (body_fact v.body))) ≡ telling_in more
      last_told last =
          let is : IsSyntaxOf syntax s = subst (IsSyntaxOf syntax) (tree_is d syntax index s holds read) holds.is in
          let counted : (numbers_after line.before).statement ≡ length (statements_of syntax) =
          ap (λ (n : node_infos.LineNumbers). n.statement) numbers_are ∙ last in
          sym (last_line_told s more line syntax is counted fresh
          ∙ ap (λ (n : node_infos.LineNumbers).
          with_last old_index (path_after line.before line.text) (line_info n (fact_kind line.fact))) numbers_are
          ∙ ap (λ (p : List Part). with_last old_index p (line_info (numbers_of numbers) (fact_kind line.fact)))
          added.place
          ∙ ap (λ (k : Kind). with_last old_index path (line_info (numbers_of numbers) k)) (ap fact_kind added.gives))

    -- where nothing is in the value, the new document is such a one
    its_line : value_depth v ≤ 0 → HasLineAt s new path (body_fact v.body) (take are.line (lines s))
    its_line flat =
        insert_adds_line d.profile limit s path text.now v are.line (keys_utf8 path utf8) there.0 whole are.ends
        (no_entries v.body v.nested value.reads.valid.nested (omega (arith, flat)))

    pub line_changed : value_depth v ≤ 0 → (kind : Kind) → kind ≡ fact_kind (body_fact v.body)
        → IsIndexChange s new (change.AddedLine parent text numbers kind)
    line_changed flat kind kind_is =
        let added : IsLineAdded s new path (fact_kind (body_fact v.body)) parent text.now numbers =
        line_added new (its_line flat) in
        record {
          can = can_add added;
          facts = λ u is. is
              ∙ ap (with_node old_index (place_in s numbers) (numbers_of numbers)
              (path_numbered old_index parent.0 ++ key text.now ∷ [])) kind_is
              ∙ ap (λ (p : List Part).
              with_node old_index (place_in s numbers) (numbers_of numbers) p (fact_kind (body_fact v.body)))
              added.path_is
              ∙ added.facts;
          nested = added.nested;
        }

    pub last_line_changed : value_depth v ≤ 0 → (kind : Kind) → kind ≡ fact_kind (body_fact v.body)
        → numbers.statement ≡ length (statements_of syntax)
        → IsIndexChange s new (change.AppendedLine parent text numbers kind)
    last_line_changed flat kind kind_is last =
        let added : IsLineAdded s new path (fact_kind (body_fact v.body)) parent text.now numbers =
        line_added new (its_line flat) in
        record {
          can = (added.low, ap (node_number old_index.paths) added.path_is ∙ added.fresh);
          facts = λ u is. is
              ∙ ap (λ (k : Kind).
              with_last old_index (path_numbered old_index parent.0 ++ key text.now ∷ [])
              (line_info (numbers_of numbers) k)) kind_is
              ∙ ap (λ (p : List Part).
              with_last old_index p (line_info (numbers_of numbers) (fact_kind (body_fact v.body)))) added.path_is
              ∙ last_told new (its_line flat) last;
          nested = added.nested;
        }
