-- A remove of a keyval's line of several keys, of which nothing else names the first, takes from the index the node of
-- that key, and all below it.
--
-- The law of the edit says that the old document has one line more than the new one, after the statements that are
-- counted for its numbers. The line's first key is that of the removed one (`path_is`), so its node is the one that was
-- found (`at`). What the nodes are without the line, and how they are nested, is said by the laws of such a line.
--
-- Theorems: `keys_removed`, `keys_gone`; `found_alone`: what the index tells of the first key; `keys_removal`.
use Rattle.std.proofs.Common.{◌≡◌, ℕ, suc, ◌+◌, ◌-◌, ◌<◌, ◌≤◌, List, [], ◌∷◌, ◌++◌, length, map, take, refl, sym}
use Rattle.std.proofs.Common.{ap, subst, ◌∙◌, arith, length-append, Some, None, slice_get}
use Rattle.std.proofs.lemmas.List.{length-map}
use Rattle.keep_types.specs.declared.node.Kind.TheVariants.{Table}
use Rattle.keep_types.specs.declared.node.NodeInfo.{NodeInfo}
use Rattle.keep_types.specs.declared.syntax.Owner.TheVariants as owner
use Rattle.keep_types.specs.declared.syntax.ValueInfo.{ValueInfo}
use Rattle.keep_syntax.specs.declared.syntax.Syntax.{Syntax}
use Rattle.keep_syntax.specs.Contract.{values_of}
use Rattle.keep_syntax.specs.Numbered.{key_count}
use Rattle.keep_syntax.specs.Tree.{Document, Value}
use Rattle.keep_path.specs.NodeInfos as node_infos
use Rattle.keep_path.specs.NodeInfos.{NodeInfos, root_infos, without_node}
use Rattle.keep_path.specs.NodesBelow.{AreBelow, Totals, one_more, with_value}
use Rattle.keep_path.specs.Path.{Part, key}
use Rattle.keep_index_store.specs.Below.{totals_in}
use Rattle.keep_index_store.specs.declared.renumbering.LineNumbers.{LineNumbers}
use Rattle.keep_index_store.specs.declared.shift.Totals as shift
use Rattle.keep_index_store.specs.Renumbering.{numbers_of}
use Rattle.keep_meaning.specs.KeysMore.{HasKeysMore, KeysTakeNodes}
use Rattle.keep_meaning.specs.LinesMore.{nodes_after, numbers_after, path_after}
use Rattle.keep_meaning.specs.Marks.{Reading, Statement, reading_after, start}
use Rattle.keep_meaning.specs.Meaning.{further_value, key_value, line_of, mentions_in, reading_after_lines}
use Rattle.keep_meaning.specs.Nodes.{mark_count, node_number}
use Rattle.keep_meaning.specs.OtherValues.{totals_of}
use Rattle.keep_meaning.proofs.Shared.{paths-nodes_in}
use Rattle.keep_rules.specs.declared.index.NodeId.{NodeId}
use Rattle.keep_rules.specs.LinesNested.{KeysLeaveNested}
use Rattle.keep_rules.proofs.Shared.{number_is}
use Rattle.keep_edit_spec.specs.Edits.{edited_document, remove}
use Rattle.keep_edit_spec.specs.KeyvalLines.{HasKeysAt, IsKeysLineOf, RemoveTakesKeys}
use Rattle.keep_edit_spec.specs.Refusals.{refusal}
use Rattle.keep_edit_spec.proofs.Shared.{keys_line_of_value, marks_stated, reading_statements}
use Rattle.keep_edit_plan.specs.Answers.{value_number_of}
use Rattle.keep_edit_plan.specs.IndexChanges.{IsIndexChange}
use Rattle.keep_edit_plan.specs.Plans.{IsNodeOf}
use Rattle.keep_edit_plan.specs.Reading.{limit, ProfiledText, Holds, IsTextOfTree, telling_in}
use Rattle.keep_edit_plan.specs.Removing.{IsFirstAlone, IsKeysRemoval}
use Rattle.keep_edit_plan.specs.declared.plan.IndexChange.TheVariants as change
use Rattle.keep_edit_plan.specs.declared.remove.change.FirstAlone.{FirstAlone}
use Rattle.keep_edit_plan.proofs.FoundLaws.{IsStated, number_found_at, one_found, values_are}
use Rattle.keep_edit_plan.proofs.KeysChangeLaws.{first_of_keys}
use Rattle.keep_edit_plan.proofs.LineRemovalLaws as removal
use Rattle.keep_edit_plan.proofs.RemoveCut.{IsLineOfValue, removal_law}

-- ---- the first key, as the index tells it

pub found_alone : (d : ProfiledText) (syntax : Syntax) (index : NodeInfos) (path : List Part) (s : Document)
    → Holds d syntax index → IsTextOfTree d s → (body before : ℕ) → body ≤ before → before < length path
    → (first : NodeId) → node_number index.paths (take (before + 1) path) ≡ Some first.0
    → (info : NodeInfo) → slice_get index.infos first.0 ≡ Some info → info.marks ≡ 1
    → IsFirstAlone path s body (record { node = first; before = before })
found_alone d syntax index path s holds read body before low within first found info there one =
    let front : List Part = take (suc before) path in
    let next : before + 1 ≡ suc before = omega arith in
    let at : Some first.0 ≡ node_number index.paths front =
    sym found ∙ ap (λ (n : ℕ). node_number index.paths (take n path)) next in
    let stated : IsStated front s info =
    one_found d syntax index front s holds read first info (Some first) refl at there in
    record {
      low = low;
      within = within;
      number = number_found_at d syntax index front s holds read first (Some first) refl at;
      once = sym (ap (λ (i : NodeInfo). i.marks) stated.is ∙ marks_stated front s) ∙ one;
    }

-- a path without the steps after one
one_step : (a : List Part) (p : Part) (b : List Part) → take (suc (length a)) (a ++ p ∷ b) ≡ a ++ p ∷ []
one_step [] p [] = refl
one_step [] p (q ∷ b) = refl
one_step (x ∷ a) p b = ap (λ (l : List Part). x ∷ l) (one_step a p b)

pub with_step : (path a : List Part) (p : Part) (b : List Part) (n : ℕ) → path ≡ a ++ p ∷ b → n ≡ length a
    → take (suc n) path ≡ a ++ p ∷ []
with_step path a p b n whole many =
    ap (λ (k : ℕ). take (suc k) path) many ∙ ap (take (suc (length a))) whole ∙ one_step a p b

-- ---- the remove

module _ (takes : RemoveTakesKeys) (take_nodes : KeysTakeNodes) (leave_nested : KeysLeaveNested) (d : ProfiledText)
    (syntax : Syntax) (index : NodeInfos) (path : List Part) (s : Document) (holds : Holds d syntax index)
    (read : IsTextOfTree d s) (id : NodeId) (its_number : IsNodeOf path s id)
    (allowed : refusal d.profile limit s (remove path) ≡ None) (number : ℕ)
    (found : value_number_of path s ≡ Some number) (info : ValueInfo)
    (stored : slice_get (values_of syntax) number ≡ Some info) (line : ℕ)
    (owned : info.owner ≡ owner.Line line) (several : info.keys ≡ 1 → ⊥)
    (low : ℕ) (at_body : low ≡ length path - info.keys) (first : FirstAlone)
    (alone : IsFirstAlone path s low first) (none_passed : first.before ≡ low) (old : shift.Totals)
    (many : totals_in old ≡ totals_of s) where
  abbrev new : Document
  new = edited_document s (remove path)

  abbrev numbers : LineNumbers
  numbers = record { statement = line; value = number; key = info.first_key }

  abbrev of : IsLineOfValue d syntax index path s holds read allowed number info line
  of = removal.of d syntax index path s holds read id its_number allowed number found info stored line owned

  abbrev held : Value
  held = of.found.its_line.held

  keys_are : of.found.own.keys ≡ info.keys
  keys_are = ap (λ (i : ValueInfo). i.keys) of.own_is

  removed : (l : IsKeysLineOf s path (map line_of of.pre) held) × (of.found.own.keys ≡ key_count l.name.key)
  removed =
      keys_line_of_value path s of.pre of.rest of.was of.found (λ one. several (sym keys_are ∙ one))

  abbrev body : List Part
  body = (reading_after_lines start (map line_of of.pre)).body

  abbrev own_first : List ℕ
  own_first = key_value removed.0.name.key.first

  abbrev others : List (List ℕ)
  others = map further_value removed.0.name.key.more

  whole : path ≡ body ++ map key (own_first ∷ others)
  whole = sym removed.0.place

  -- the first key's path
  front_is : take (suc first.before) path ≡ body ++ key own_first ∷ []
  front_is =
      with_step path body (key own_first) (map key others) first.before whole
      (omega (
        arith,
        none_passed,
        at_body,
        keys_are,
        removed.1,
        ap (λ (p : List Part). length p) whole,
        length-append body (map key (own_first ∷ others)),
        length-map others key,
        length-map removed.0.name.key.more further_value,
      ))

  -- ---- the line

  taken : HasKeysAt new s path held (map line_of of.pre)
  taken =
      takes s path (map line_of of.pre) held read.obeys removed.0
      (ap (λ (p : List Part). mark_count p (mentions_in s)) (sym front_is) ∙ alone.once)

  abbrev its_line : HasKeysMore new s
  its_line = taken.line

  body_is : (reading_after start its_line.before).body ≡ body
  body_is =
      ap (λ (ss : List Statement). (reading_after start ss).body) taken.after
      ∙ ap (λ (r : Reading). r.body) (reading_statements start (map line_of of.pre))

  path_is : path_after its_line.before its_line.first ≡ body ++ key own_first ∷ []
  path_is =
      let keys : List (List ℕ) = its_line.next ∷ its_line.further in
      let (one, more) =
      first_of_keys body its_line.first own_first keys others
      (ap (λ (p : List Part). (p ++ key its_line.first ∷ []) ++ map key keys) (sym body_is) ∙ taken.place ∙ whole) in
      ap (λ (p : List Part). p ++ key its_line.first ∷ []) body_is ∙ ap (λ (k : List ℕ). body ++ key k ∷ []) one

  numbers_are : numbers_after its_line.before ≡ numbers_of numbers
  numbers_are =
      ap numbers_after taken.after
      ∙ removal.numbers_are d syntax index path s holds read id its_number allowed number found info stored line owned

  here : node_number (telling_in s).paths (path_after its_line.before its_line.first) ≡ Some first.node.0
  here =
      ap (node_number (telling_in s).paths) (path_is ∙ sym front_is)
      ∙ ap (λ (ps : List (List Part)). node_number ps (take (suc first.before) path)) (paths-nodes_in s)
      ∙ alone.number

  -- ---- its nodes

  at : nodes_after its_line.before ≡ first.node.0
  at = let both : Some (nodes_after its_line.before) ≡ Some first.node.0 =
      sym (take_nodes new s its_line taken.unsaid).0 ∙ here in cc

  abbrev left : ℕ → ℕ → Totals → node_infos.LineNumbers → NodeInfos
  left gone n all own =
      without_node (with_value (telling_in s) n gone all (one_more (totals_of new)) root_infos Table) n own

  pub keys_removed : IsIndexChange s new (change.RemovedValue first.node numbers old)
  keys_removed =
      let (gone, below, is) = (take_nodes new s its_line taken.unsaid).1 in
      record {
        can = (number_is (telling_in s).paths (path_after its_line.before its_line.first) first.node.0 here).0;
        facts = λ u by.
            by gone Table (subst (λ (n : ℕ). AreBelow (telling_in s).paths n gone) at below)
            ∙ ap (λ (all : Totals). left gone first.node.0 all (numbers_of numbers)) many
            ∙ ap (λ (n : ℕ). left gone n (totals_of s) (numbers_of numbers)) (sym at)
            ∙ ap (left gone (nodes_after its_line.before) (totals_of s)) (sym numbers_are)
            ∙ sym is;
        nested =
            leave_nested new s its_line taken.unsaid (removal_law d path s read allowed).obeys
            (removal.nested d syntax index path s holds read id its_number allowed number found info stored line owned);
      }

-- ---- which line it is

module _ (d : ProfiledText) (syntax : Syntax) (index : NodeInfos) (path : List Part) (s : Document)
    (holds : Holds d syntax index) (read : IsTextOfTree d s) (id : NodeId) where
  pub keys_removal : IsNodeOf path s id → refusal d.profile limit s (remove path) ≡ None → (number : ℕ)
      → value_number_of path s ≡ Some number → (info : ValueInfo)
      → slice_get (values_of syntax) number ≡ Some info → (line : ℕ) → info.owner ≡ owner.Line line
      → (info.keys ≡ 1 → ⊥)
      → IsKeysRemoval d.profile path s (record { statement = line; value = number; key = info.first_key }) info.keys
  keys_removal here allowed number found info stored line owned several = record {
    node = id;
    allowed = allowed;
    number = here;
    value = found;
    info = info;
    stored =
        ap (λ (vs : List ValueInfo). slice_get vs number)
        (sym (values_are d syntax index path s number holds read found)) ∙ stored;
    owned = owned;
    first = refl;
    many = refl;
    several = several;
  }

-- as the code tells of the line
module _ (d : ProfiledText) (syntax : Syntax) (index : NodeInfos) (path : List Part) (s : Document)
    (holds : Holds d syntax index) (read : IsTextOfTree d s) (line : LineNumbers) (keys : ℕ)
    (r : IsKeysRemoval d.profile path s line keys) where
  pub its_value : slice_get (values_of syntax) line.value ≡ Some r.info
  its_value =
      ap (λ (vs : List ValueInfo). slice_get vs line.value)
      (values_are d syntax index path s line.value holds read r.value) ∙ r.stored

  pub its_numbers : record line { key = r.info.first_key } ≡ line
  its_numbers = ap (λ (k : ℕ). record line { key = k }) r.first

  pub keys_gone : RemoveTakesKeys → KeysTakeNodes → KeysLeaveNested
      → (low : ℕ) → low ≡ length path - keys → (first : FirstAlone) → IsFirstAlone path s low first
      → first.before ≡ low → (old : shift.Totals) → totals_in old ≡ totals_of s
      → IsIndexChange s (edited_document s (remove path)) (change.RemovedValue first.node line old)
  keys_gone takes take_nodes leave_nested low at_body first alone none_passed old many =
      subst (λ (l : LineNumbers).
      IsIndexChange s (edited_document s (remove path)) (change.RemovedValue first.node l old)) its_numbers
      (keys_removed takes take_nodes leave_nested d syntax index path s holds read r.node r.number r.allowed line.value
      r.value r.info its_value line.statement r.owned (λ one. r.several (sym r.many ∙ one)) low
      (at_body ∙ ap (λ (n : ℕ). length path - n) (sym r.many)) first alone none_passed old many)
