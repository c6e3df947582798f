-- An edit inside the value of a line changes of all that the index tells the nodes in that value, and the numbers of
-- what comes after it.
--
-- The law of such edits gives the document with another value at the path of the line's key, through which the edit's
-- path goes (`nested_value`). The code finds the first prefix of the path that has a value: the prefix that is the
-- key's path has one (`line_value_number`), and no shorter one has (`first_is_line_value`). What is known of the nodes
-- of the new document follows as where `set` puts another value (`value_gives_nodes`, `value_is_nested`).
--
-- Theorems: `none_yet`, `none_here` and `inside_changed`; `inside_by_law`: an edit that is such an act is one inside.
use Rattle.std.proofs.Common.{◌≡◌, ℕ, ◌+◌, ◌<◌, List, ◌++◌, length, take, drop, slice_get, refl, sym, ap, subst, ◌∙◌}
use Rattle.std.proofs.Common.{length-append, arith, Option, Some, None, inl, inr}
use Rattle.std.proofs.lemmas.Bool.{cases_lt}
use Rattle.std.proofs.lemmas.List.{take-append-drop, take-append-le}
use Rattle.std.proofs.Math.Seq.{take-append_seam}
use Rattle.keep_syntax.specs.declared.syntax.Syntax.{Syntax}
use Rattle.keep_syntax.specs.Tree.{Document, Value}
use Rattle.keep_types.specs.declared.node.NodeInfo.{NodeInfo}
use Rattle.keep_types.specs.declared.node.Origin.TheVariants as origin
use Rattle.keep_path.specs.NodeInfos.{NodeInfos}
use Rattle.keep_path.specs.NodesBelow.{Totals, with_value}
use Rattle.keep_path.specs.Path.{Part}
use Rattle.keep_index_store.specs.Below.{totals_in}
use Rattle.keep_index_store.specs.declared.shift.Totals as numbers
use Rattle.keep_meaning.specs.Counts.{numbered_in, statements_in}
use Rattle.keep_meaning.specs.Marks.{marks, start, reading_after}
use Rattle.keep_meaning.specs.Meaning.{body_fact, mentions_in, reading_after_lines, step}
use Rattle.keep_meaning.specs.Nodes.{fact_kind, node_number, node_paths, numbered_at}
use Rattle.keep_meaning.specs.OtherValues.{nodes_in_value, totals_of}
use Rattle.keep_meaning.proofs.Shared.{paths-nodes_in, value_gives_nodes}
use Rattle.keep_meaning.specs.Rules.{ObeysRules}
use Rattle.keep_rules.specs.declared.index.NodeId.{NodeId}
use Rattle.keep_rules.specs.Lookup.{number_of}
use Rattle.keep_rules.specs.Nested.{AreNested}
use Rattle.keep_rules.proofs.Shared.{number_is, value_is_nested}
use Rattle.keep_edit_spec.specs.Changed.{Changed}
use Rattle.keep_edit_spec.specs.Edits.{Edit, change as change_of, changed_or_same, edited_document, nested, set}
use Rattle.keep_edit_spec.specs.KeyvalLines.{IsLineValue}
use Rattle.keep_edit_spec.specs.Laws.{IsLawfulEdit}
use Rattle.keep_edit_spec.specs.Values.{Act, replacement}
use Rattle.keep_edit_spec.proofs.Shared.{IsLineValueChanged, first_is_line_value, line_value_number, nested_value}
use Rattle.keep_edit_spec.proofs.Shared.{rules_of_document, set_lawful}
use Rattle.keep_edit_plan.specs.Answers.{refusal_in, value_number_of}
use Rattle.keep_edit_plan.specs.IndexChanges.{IsIndexChange}
use Rattle.keep_edit_plan.specs.InsideValues.{IsInside}
use Rattle.keep_edit_plan.specs.declared.plan.IndexChange.TheVariants as change
use Rattle.keep_edit_plan.specs.Reading.{limit, ProfiledText, Holds, IsTextOfTree, IsTextOfValue, telling_in}
use Rattle.keep_edit_plan.proofs.AnswerLaws.{tree_is}
use Rattle.keep_edit_plan.proofs.EditedLaws.{editable}
use Rattle.keep_edit_plan.proofs.FoundLaws.{none_unless, number_found, number_found_at, one_found, value_of_origin}

-- ---- the prefixes so far

-- the first steps of the path lead to no value, for fewer steps than these
abbrev pub NoneYet : ProfiledText → List Part → ℕ → Type 0
NoneYet d path n = (s : Document) → IsTextOfTree d s → (k : ℕ) → 0 < k → k < n → value_number_of (take k path) s ≡ None

pub none_yet : (d : ProfiledText) (path : List Part) → NoneYet d path 1
none_yet d path s read k low high = absurd (omega (arith, low, high))

-- the node of so many steps has no value
pub none_here : (d : ProfiledText) (syntax : Syntax) (index : NodeInfos) (path : List Part) (n : ℕ)
    → Holds d syntax index → NoneYet d path n → (id : NodeId) (info : NodeInfo) (o : Option NodeId) → o ≡ Some id
    → number_of o ≡ node_number index.paths (take n path) → slice_get index.infos id.0 ≡ Some info
    → ((v : ℕ) → info.origin ≡ origin.Value v → ⊥) → NoneYet d path (n + 1)
none_here d syntax index path n holds yet id info o one found stored other s read k low high = elim (cases_lt k n) [
  | inl less ↦ yet s read k low less
  | inr more ↦
      (let last : k ≡ n = omega (arith, more, high) in
      let stated = one_found d syntax index (take n path) s holds read id info o one found stored in
      ap (λ (m : ℕ). value_number_of (take m path) s) last
      ∙ none_unless (value_number_of (take n path) s)
      (λ v e. other v (ap (λ (i : NodeInfo). i.origin) stated.is
      ∙ value_of_origin (numbered_at (take n path) (numbered_in s)) v e)))
]

-- ---- the first value on the way

-- the path of the line's key is that of the first value
module _ (d : ProfiledText) (path : List Part) (s to : Document) (read : IsTextOfTree d s)
    (h : IsLineValueChanged path s to) (n : ℕ) (yet : NoneYet d path n) (number : ℕ)
    (found : value_number_of (take n path) s ≡ Some number) where
  numbered : value_number_of h.at s ≡ Some h.other.count.values
  numbered = line_value_number path s to h (rules_of_document s read.obeys)

  some_steps : 0 < length h.at
  some_steps =
      omega (arith, ap length h.here, length-append (reading_after_lines start h.before).body (step 0 (Some h.name)))

  whole_key : take (length h.at) path ≡ h.at
  whole_key = ap (take (length h.at)) h.place ∙ take-append_seam h.at h.more

  -- it is not shorter, for then its value was met before
  not_shorter : length h.at < n → ⊥
  not_shorter less =
      let none : value_number_of h.at s ≡ None =
      ap (λ (p : List Part). value_number_of p s) (sym whole_key) ∙ yet s read (length h.at) some_steps less in
      let clash : None ≡ Some h.other.count.values = sym none ∙ numbered in
      absurd cc

  pub key_is : take n path ≡ h.at
  key_is = elim (cases_lt (length h.at) n) [
    | inl less ↦ absurd (not_shorter less)
    | inr more ↦
        (let part : take n path ≡ take n h.at = ap (take n) h.place ∙ take-append-le n h.at h.more more in
        first_is_line_value path s to h (rules_of_document s read.obeys) (take n path) (drop n h.at) number
        (sym (take-append-drop n h.at) ∙ ap (λ (p : List Part). p ++ drop n h.at) (sym part)) found)
  ]

  pub number_is_counted : number ≡ h.other.count.values
  number_is_counted =
      let one : Some number ≡ Some h.other.count.values =
      sym found ∙ ap (λ (p : List Part). value_number_of p s) key_is ∙ numbered in
      cc

-- ---- the change

pub inside_changed : (d : ProfiledText) (syntax : Syntax) (index : NodeInfos) (path : List Part) (s : Document)
    → Holds d syntax index → IsTextOfTree d s → (n : ℕ) → NoneYet d path n
    → (id : NodeId) (info : NodeInfo) (o : Option NodeId) → o ≡ Some id
    → number_of o ≡ node_number index.paths (take n path) → slice_get index.infos id.0 ≡ Some info
    → (number : ℕ) → info.origin ≡ origin.Value number → (old : numbers.Totals) → totals_in old ≡ totals_of s
    → (e : Edit) → IsInside path s e
    → IsIndexChange s (edited_document s e) (change.Inside id number old)
inside_changed d syntax index path s holds read n yet id info o one found stored number valued old many e i =
    let to : edited_document s e ≡ i.changed.to =
    ap (λ (c : Option (Changed Document)). (changed_or_same s c).to) i.is in
    subst (λ (u : Document). IsIndexChange s u (change.Inside id number old)) (sym to) its
  where
    new : Document
    new = i.changed.to

    h : IsLineValueChanged path s new
    h = nested_value i.act path s i.changed (rules_of_document s read.obeys) i.inside

    number_there : value_number_of (take n path) s ≡ Some number
    number_there =
        number_found (take n path) s info number
        (one_found d syntax index (take n path) s holds read id info o one found stored) valued

    here : node_number (telling_in s).paths h.at ≡ Some id.0
    here =
        ap (λ (ps : List (List Part)). node_number ps h.at) (paths-nodes_in s)
        ∙ ap (λ (p : List Part). node_number (node_paths (mentions_in s)) p)
        (sym (key_is d path s new read h n yet number number_there))
        ∙ number_found_at d syntax index (take n path) s holds read id o one found

    line_value : IsLineValue new number h.value
    line_value = record {
      before = h.before;
      line = h.line';
      after = h.after;
      name = h.name;
      here = h.is;
      content = h.content';
      counted = sym h.number ∙ sym (number_is_counted d path s new read h n yet number number_there);
    }

    nested : AreNested (mentions_in s) (reading_after start (statements_in s)).tables
    nested =
        subst (λ (u : Document). AreNested (mentions_in u) (reading_after start (statements_in u)).tables)
        (tree_is d syntax index s holds read) holds.nested

    its : IsIndexChange s new (change.Inside id number old)
    its =
        let v = h.value in
        let (gone, below, is) = value_gives_nodes s new h.at v h.other id.0 here in
        record {
          can = (number_is (telling_in s).paths h.at id.0 here).0;
          facts = λ u by. by v line_value gone below
              ∙ ap (λ (t : Totals).
              with_value (telling_in s) id.0 gone t (totals_of new) (nodes_in_value v) (fact_kind (body_fact v.body)))
              many ∙ sym is;
          nested = value_is_nested s new h.at v h.other read.obeys i.obeys nested;
        }

-- ---- such edits

-- by the law of the edit
pub inside_by_law : (d : ProfiledText) (path : List Part) (s : Document) (e : Edit) → IsLawfulEdit d.profile limit s e
    → (act : Act) → change_of s e ≡ nested act path s → IsInside path s e
inside_by_law d path s e law act same = record {
  act = act;
  changed = law.changed;
  inside = sym same ∙ law.is;
  is = law.is;
  obeys = subst (λ (c : Option (Changed Document)). ObeysRules (marks (mentions_in (changed_or_same s c).to))) law.is
      law.obeys;
}

-- a value in place of one
pub set_is_inside : (d : ProfiledText) (path : List Part) (s : Document) → IsTextOfTree d s
    → (given : List ℕ) (v : Value) → IsTextOfValue given v → refusal_in d s (set path v) ≡ None
    → IsInside path s (set path v)
set_is_inside d path s read given v value allowed =
    inside_by_law d path s (set path v)
    (set_lawful d.profile limit s path v (editable d s read) (record { valid = value.reads.valid; obeys = value.obeys })
    allowed)
    (replacement v) refl
