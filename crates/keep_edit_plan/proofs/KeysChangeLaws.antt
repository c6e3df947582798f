-- An insert of several keys at the end of a body gives the index the node of the first of them, and below it those of
-- the others; and below the last of these those in its value. It passes no table (`passes_none`).
--
-- The path goes on from its holder by keys (`keys`), of which the law of the edit says that the new document has a line
-- more by them. The line comes in the body of the holder (`body_is`), so its keys are those of the path (`same_keys`),
-- and its first key's node comes where the facts say that the first node is met after the line (`at`). So the nodes are
-- those that the law of such a line tells (`facts`).
--
-- Theorems: `keys_added`: with nothing in the value; `keys_value_added`; `first_of_keys`: two ways to go on by keys to
-- one path are the same.
use Rattle.std.proofs.Common.{◌≡◌, ℕ, ◌+◌, ◌-◌, ◌<◌, ◌≤◌, Bor, false, List, [], ◌∷◌, ◌++◌, length, map, take, drop}
use Rattle.std.proofs.Common.{refl, sym, ap, ap₂, subst, ◌∙◌, arith, append_assoc, length-drop, Option, Some, None, Ok}
use Rattle.std.proofs.Common.{inl, inr}
use Rattle.std.specs.Option.{option_map}
use Rattle.std.proofs.lemmas.Bool.{cases_lt}
use Rattle.std.proofs.lemmas.List.{append-nil, append_cancel_left}
use Rattle.keep_types.specs.declared.node.Kind.{Kind}
use Rattle.keep_types.specs.declared.node.Kind.TheVariants.{Table}
use Rattle.keep_types.specs.declared.node.NodeInfo.{NodeInfo}
use Rattle.keep_types.specs.declared.node.Origin.{Origin}
use Rattle.keep_types.specs.declared.node.Origin.TheVariants as origin
use Rattle.keep_syntax.specs.declared.syntax.Syntax.{Syntax}
use Rattle.keep_syntax.specs.Tree.{Value, Document, none, value_depth}
use Rattle.keep_path.specs.Dots.{after_parts, totals_after_parts, with_keys, with_parts_from}
use Rattle.keep_path.specs.KeysAlone.{keys_alone}
use Rattle.keep_path.specs.NodeInfos as node_infos
use Rattle.keep_path.specs.NodeInfos.{NodeInfos, renumbered_origin, with_table}
use Rattle.keep_path.specs.NodesBelow.{Totals, one_more, shifted, with_numbers, with_value}
use Rattle.keep_path.specs.Path.{Part, AreUtf8, key}
use Rattle.keep_index_store.specs.Below.{totals_in}
use Rattle.keep_index_store.specs.declared.renumbering.LineNumbers.{LineNumbers}
use Rattle.keep_index_store.specs.declared.shift.Totals as shift
use Rattle.keep_index_store.specs.Renumbering.{numbers_of}
use Rattle.keep_meaning.specs.Counts.{statements_in}
use Rattle.keep_meaning.specs.KeysMore.{HasKeysMore, KeysAddNodes, KeysAddValueNodes, KeysAreFound, keys_with_value}
use Rattle.keep_meaning.specs.LinesMore.{nodes_after, numbers_after, path_after}
use Rattle.keep_meaning.specs.Marks.{Reading, Statement, reading_after, start}
use Rattle.keep_meaning.specs.Meaning.{body_fact, lines, mentions_in}
use Rattle.keep_meaning.specs.Nodes.{fact_kind, infos_in, is_node, node_number}
use Rattle.keep_meaning.specs.OtherValues.{nodes_in_value, totals_of}
use Rattle.keep_meaning.proofs.RunLemmas.{high_shifts, low_stays}
use Rattle.keep_meaning.proofs.Shared.{paths-nodes_in}
use Rattle.keep_rules.specs.declared.index.NodeId.{NodeId}
use Rattle.keep_rules.specs.LinePlaces.{IsPlaceOf}
use Rattle.keep_rules.specs.LinesNested.{KeysAreNested}
use Rattle.keep_rules.specs.Lookup.{path_numbered}
use Rattle.keep_rules.specs.Nested.{AreNested}
use Rattle.keep_rules.proofs.Shared.{number_is, place_is}
use Rattle.keep_edit_spec.specs.Edits.{edited_document, insert}
use Rattle.keep_edit_spec.specs.KeyvalLines.{HasKeysAt, InsertAddsKeys}
use Rattle.keep_edit_spec.specs.Look.{holder}
use Rattle.keep_edit_spec.proofs.Shared.{IsNewPath, end_is, new_path, reading_statements}
use Rattle.keep_edit_plan.specs.IndexChanges.{IsIndexChange}
use Rattle.keep_edit_plan.specs.Inserting.{IsInsertionOf}
use Rattle.keep_edit_plan.specs.LineNumbers.{AreNumbersAfter}
use Rattle.keep_edit_plan.specs.Reading.{limit, ProfiledText, Holds, IsTextOfTree, IsTextOfValue, telling_in}
use Rattle.keep_edit_plan.specs.declared.insert.Insertion.{Insertion}
use Rattle.keep_edit_plan.specs.declared.insert.Spot.TheVariants.{AfterBody}
use Rattle.keep_edit_plan.specs.declared.plan.IndexChange.TheVariants as change
use Rattle.keep_edit_plan.proofs.AnswerLaws.{stated_is}
use Rattle.keep_edit_plan.proofs.KeyLaws.{no_number}
use Rattle.keep_edit_plan.proofs.KeysLaws.{keys_utf8}
use Rattle.keep_edit_plan.proofs.KindLaws.{no_entries}
use Rattle.keep_edit_plan.proofs.LineChangeLaws as line_change
use Rattle.keep_edit_plan.proofs.LineChangeLaws.{place_in}

-- ---- keys at the end of a path

keys_same : (ks ls : List (List ℕ)) → map key ks ≡ map key ls → ks ≡ ls
keys_same [] [] e = refl
keys_same [] (l ∷ ls) e = absurd cc
keys_same (k ∷ ks) [] e = absurd cc
keys_same (k ∷ ks) (l ∷ ls) e =
    let first : k ≡ l = cc in
    let rest : map key ks ≡ map key ls = cc in
    ap (λ (x : List ℕ). x ∷ ks) first ∙ ap (λ (xs : List (List ℕ)). l ∷ xs) (keys_same ks ls rest)

one_first : (k l : List ℕ) (ks ls : List (List ℕ)) → k ∷ ks ≡ l ∷ ls → (k ≡ l) × (ks ≡ ls)
one_first k l ks ls e = (let first : k ≡ l = cc in first, let rest : ks ≡ ls = cc in rest)

pub first_of_keys : (a : List Part) (k l : List ℕ) (ks ls : List (List ℕ))
    → (a ++ key k ∷ []) ++ map key ks ≡ a ++ map key (l ∷ ls) → (k ≡ l) × (ks ≡ ls)
first_of_keys a k l ks ls e =
    one_first k l ks ls
    (keys_same (k ∷ ks) (l ∷ ls) (append_cancel_left a (key k ∷ map key ks) (map key (l ∷ ls))
    (sym (append_assoc a (key k ∷ []) (map key ks)) ∙ e)))

-- ---- a line that passes no table

-- no number is another where no key part comes
same_number : (from n : ℕ) → shifted from 0 0 n ≡ n
same_number from n = elim (cases_lt n from) [
  | inl low ↦ low_stays from 0 0 n low
  | inr high ↦ let same : (n + 0) - 0 ≡ n = omega arith in high_shifts from 0 0 n high ∙ same
]

same_key : (from : ℕ) (o : Option ℕ) → option_map (shifted from 0 0) o ≡ o
same_key from None = refl
same_key from (Some n) = ap Some (same_number from n)

same_origin : (o : Origin) → renumbered_origin (λ s. s) (λ v. v) o ≡ o
same_origin origin.Root = refl
same_origin (origin.Value v) = refl
same_origin (origin.Header s) = refl
same_origin (origin.Element s) = refl
same_origin (origin.Dotted v) = refl
same_origin (origin.Through s) = refl
same_origin origin.Tables = refl

same_infos : (from : ℕ) (is : List NodeInfo) → map (with_numbers (λ v. v) (shifted from 0 0)) is ≡ is
same_infos from [] = refl
same_infos from (i ∷ is) =
    ap₂ (λ (x : NodeInfo) (xs : List NodeInfo). x ∷ xs)
    (ap₂ (λ (k : Option ℕ) (o : Origin). record i { key = k; origin = o }) (same_key from i.key) (same_origin i.origin))
    (same_infos from is)

passes_none : (t : NodeInfos) (at : ℕ) (line : node_infos.LineNumbers) (path : List Part) (ks : List (List ℕ))
    (k : Kind) (old new : Totals)
    → with_keys (with_parts_from line.key 0 t) at (after_parts 0 line) path ks k (totals_after_parts 0 old) new
    ≡ with_keys t at line path ks k old new
passes_none t at line path ks k old new =
    let key_is : line.key + 0 ≡ line.key = omega arith in
    let keys_are : old.keys + 0 ≡ old.keys = omega arith in
    ap (λ (is : List NodeInfo).
    with_keys (record t { infos = is }) at (after_parts 0 line) path ks k (totals_after_parts 0 old) new)
    (same_infos line.key t.infos)
    ∙ ap₂ (λ (own all : ℕ).
    with_keys t at (record line { key = own }) path ks k (record old { keys = all }) new) key_is keys_are

-- ---- the insert

module _ (adds : InsertAddsKeys) (are_found : KeysAreFound) (are_nested : KeysAreNested) (d : ProfiledText)
    (syntax : Syntax) (index : NodeInfos) (given : Bor (List Part)) (s : Document) (v : Value)
    (bytes : List ℕ) (i : Insertion)
    (holds : Holds d syntax index) (read : IsTextOfTree d s) (value : IsTextOfValue bytes v)
    (there : IsInsertionOf d.profile given.now v s (Ok i)) (utf8 : AreUtf8 given.now) (header : Option ℕ)
    (after_body : i.spot ≡ AfterBody header) (several : length given.now - i.from ≡ 1 → ⊥)
    (parent : NodeId) (found : node_number index.paths (take i.from given.now) ≡ Some parent.0)
    (numbers : LineNumbers) (are : AreNumbersAfter (holder given.now (mentions_in s)) s numbers) (old : shift.Totals)
    (many : totals_in old ≡ totals_of s) where
  abbrev path : List Part
  path = given.now

  abbrev a : List Part
  a = holder path (mentions_in s)

  abbrev new : Document
  new = edited_document s (insert path v)

  abbrev old_index : NodeInfos
  old_index = telling_in s

  abbrev place : ℕ
  place = place_in s numbers

  -- the new steps are keys: two at least
  record AreKeys : Type 0 where
    first : List ℕ
    next : List ℕ
    further : List (List ℕ)
    whole : path ≡ a ++ map key (first ∷ next ∷ further)
    left : drop i.from path ≡ map key (first ∷ next ∷ further)

  keys : AreKeys
  keys =
      let spot = line_change.spot d syntax index path s v bytes i holds read value there utf8 header after_body in
      let at_holder : i.from ≡ length a =
      line_change.at_holder d syntax index path s v bytes i holds read value there utf8 header after_body in
      let its : IsNewPath path (mentions_in s) = new_path d.profile limit (mentions_in s) path v spot.0 there.0 in
      by its.first its.more its.whole (ap (λ (n : ℕ). drop n path) at_holder ∙ its.rest)
    where
      by : (first : List ℕ) (more : List (List ℕ)) → path ≡ a ++ map key (first ∷ more)
          → drop i.from path ≡ map key (first ∷ more) → AreKeys
      by first [] whole left =
          absurd (several (sym (length-drop i.from path) ∙ ap (λ (p : List Part). length p) left))
      by first (next ∷ further) whole left =
          record { first = first; next = next; further = further; whole = whole; left = left }

  abbrev first_path : List Part
  first_path = a ++ key keys.first ∷ []

  -- ---- the line

  added : HasKeysAt s new path v (take are.line (lines s))
  added =
      adds d.profile limit s path keys.first keys.next keys.further v are.line (keys_utf8 path utf8) there.0 keys.whole
      are.ends

  abbrev line : HasKeysMore s new
  line = added.line

  body_is : (reading_after start line.before).body ≡ a
  body_is =
      ap (λ (ss : List Statement). (reading_after start ss).body) added.after
      ∙ ap (λ (r : Reading). r.body) (reading_statements start (take are.line (lines s)))
      ∙ (end_is s a are.line are.ends).body

  same_keys : (line.first ≡ keys.first) × (line.next ∷ line.further ≡ keys.next ∷ keys.further)
  same_keys =
      first_of_keys a line.first keys.first (line.next ∷ line.further) (keys.next ∷ keys.further)
      (ap (λ (p : List Part). (p ++ key line.first ∷ []) ++ map key (line.next ∷ line.further)) (sym body_is)
      ∙ added.place ∙ keys.whole)

  path_is : path_after line.before line.first ≡ first_path
  path_is =
      ap (λ (p : List Part). p ++ key line.first ∷ []) body_is
      ∙ ap (λ (k : List ℕ). a ++ key k ∷ []) same_keys.0

  numbers_are : numbers_after line.before ≡ numbers_of numbers
  numbers_are = ap numbers_after added.after ∙ sym are.counted

  is_place : IsPlaceOf (numbers_of numbers) (infos_in s) (nodes_after line.before)
  is_place =
      let (within, parts) = are_found s new line read.obeys in
      subst (λ (n : node_infos.LineNumbers). IsPlaceOf n (infos_in s) (nodes_after line.before)) numbers_are
      (record { within = within; parts = parts })

  at : nodes_after line.before ≡ place
  at = place_is (numbers_of numbers) (infos_in s) (nodes_after line.before) is_place

  -- ---- its nodes

  -- no node is at the path of the first key
  fresh : node_number old_index.paths first_path ≡ None
  fresh =
      let unsaid : is_node first_path (mentions_in s) ≡ false =
      ap (λ (p : List Part). is_node p (mentions_in s))
      (sym (append-nil (path_after line.before line.first) ∙ path_is)) ∙ added.unsaid [] in
      ap (λ (ps : List (List Part)). node_number ps first_path) (paths-nodes_in s)
      ∙ no_number first_path (mentions_in s) unsaid

  -- with these nodes below that of the first key
  abbrev told : NodeInfos → Totals → ℕ → node_infos.LineNumbers → List Part → NodeInfos
  told inside bare n own p = with_value (with_table old_index n own p) n 0 bare (totals_of new) inside Table

  told_there : (inside : NodeInfos)
      → told inside (one_more (totals_of s)) (nodes_after line.before) (numbers_after line.before)
      (path_after line.before line.first)
      ≡ told inside (one_more (totals_of s)) place (numbers_of numbers) first_path
  told_there inside =
      let bare : Totals = one_more (totals_of s) in
      ap (λ (n : ℕ). told inside bare n (numbers_after line.before) (path_after line.before line.first)) at
      ∙ ap (λ (own : node_infos.LineNumbers).
      told inside bare place own (path_after line.before line.first)) numbers_are
      ∙ ap (told inside bare place (numbers_of numbers)) path_is

  parent_there : (parent.0 < length old_index.paths) × (path_numbered old_index parent.0 ≡ a)
  parent_there =
      let here : node_number old_index.paths (take i.from path) ≡ Some parent.0 =
      ap (λ (t : NodeInfos). node_number t.paths (take i.from path)) (sym (stated_is d syntax index s holds read))
      ∙ found in
      let (low, its_path) = number_is old_index.paths (take i.from path) parent.0 here in (
        low,
        its_path
            ∙ line_change.prefix d syntax index path s v bytes i holds read value there utf8 header after_body,
      )

  new_there : (first : List ℕ) (further : List (List ℕ)) → drop i.from path ≡ map key (first ∷ further)
      → node_number old_index.paths (path_numbered old_index parent.0 ++ key first ∷ []) ≡ None
  new_there first further left =
      let same : map key (first ∷ further) ≡ map key (keys.first ∷ keys.next ∷ keys.further) = sym left ∙ keys.left in
      let one : first ≡ keys.first = cc in
      ap (λ (p : List Part). node_number old_index.paths (p ++ key first ∷ [])) parent_there.1
      ∙ ap (λ (k : List ℕ). node_number old_index.paths (a ++ key k ∷ [])) one ∙ fresh

  place_there : IsPlaceOf (numbers_of numbers) (infos_in s) place
  place_there = subst (IsPlaceOf (numbers_of numbers) (infos_in s)) at is_place

  nested : AreNested (mentions_in new) (reading_after start (statements_in new)).tables
  nested =
      are_nested s new line added.unsaid read.obeys
      (line_change.nested d syntax index path s v bytes i holds read value there utf8 header after_body)

  -- ---- with nothing in the value

  module _ (add_nodes : KeysAddNodes) (flat : value_depth v ≤ 0) (kind : Kind)
      (kind_is : kind ≡ fact_kind (body_fact v.body)) where
    empty : v.nested ≡ none
    empty = no_entries v.body v.nested value.reads.valid.nested (omega (arith, flat))

    abbrev its_nodes : Totals → List Part → NodeInfos
    its_nodes bare = told (keys_alone (keys.next ∷ keys.further) kind) bare place (numbers_of numbers)

    facts : telling_in new ≡ its_nodes (one_more (totals_of s)) first_path
    facts =
        add_nodes s new line added.unsaid (added.holds ∙ empty)
        ∙ told_there (keys_alone (line.next ∷ line.further) (fact_kind line.fact))
        ∙ ap₂ (λ (ks : List (List ℕ)) (k : Kind).
        told (keys_alone ks k) (one_more (totals_of s)) place (numbers_of numbers) first_path) same_keys.1
        (ap fact_kind added.gives ∙ sym kind_is)

    pub keys_added : IsIndexChange s new
        (change.AddedKeys parent (record { path = given; from = i.from; passed = 0 }) numbers kind old)
    keys_added = record {
      can = (parent_there.0, new_there, place_there);
      facts = λ u is.
          is keys.first (keys.next ∷ keys.further) keys.left a [] [] (parent_there.1 ∙ sym (append-nil a)) refl refl
          ∙ passes_none old_index place (numbers_of numbers) (path_numbered old_index parent.0 ++ key keys.first ∷ [])
          (keys.next ∷ keys.further) kind (totals_in old) (totals_of new)
          ∙ ap (λ (p : List Part). its_nodes (one_more (totals_in old)) (p ++ key keys.first ∷ [])) parent_there.1
          ∙ ap (λ (t : Totals). its_nodes (one_more t) first_path) many
          ∙ sym facts;
      nested = nested;
    }

  -- ---- with this in it

  module _ (add_nodes : KeysAddValueNodes) (held : Bor (List ℕ)) (text : IsTextOfValue held.now v) where
    abbrev its_inside : List (List ℕ) → Kind → NodeInfos
    its_inside ks k = keys_with_value ks k (nodes_in_value v)

    abbrev value_nodes : Totals → List Part → NodeInfos
    value_nodes bare =
        told (its_inside (keys.next ∷ keys.further) (fact_kind (body_fact v.body))) bare place (numbers_of numbers)

    value_facts : telling_in new ≡ value_nodes (one_more (totals_of s)) first_path
    value_facts =
        add_nodes s new line added.unsaid v added.holds
        ∙ told_there (its_inside (line.next ∷ line.further) (fact_kind line.fact))
        ∙ ap₂ (λ (ks : List (List ℕ)) (k : Kind).
        told (its_inside ks k) (one_more (totals_of s)) place (numbers_of numbers) first_path) same_keys.1
        (ap fact_kind added.gives)

    pub keys_value_added : IsIndexChange s new (change.AddedKeysValue parent given i.from numbers held old)
    keys_value_added = record {
      can = (parent_there.0, new_there, place_there);
      facts = λ u is.
          is keys.first (keys.next ∷ keys.further) keys.left v text
          ∙ ap (λ (p : List Part). value_nodes (one_more (totals_in old)) (p ++ key keys.first ∷ [])) parent_there.1
          ∙ ap (λ (t : Totals). value_nodes (one_more t) first_path) many
          ∙ sym value_facts;
      nested = nested;
    }
