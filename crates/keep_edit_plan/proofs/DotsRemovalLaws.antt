-- A remove of a keyval's line whose keys pass tables of dotted keys takes from the index the node of the first key that
-- is not passed, and all below it, and the tables have one keyval less.
--
-- The law of the edit says that the old document has one line more than the new one, after the statements that are
-- counted for its numbers. Some path one step below the last of the tables is named before the line (`named_before`),
-- and a keyval says something of it (`kept`). So each of the tables is named before the line and is one of dotted keys
-- without it, and has a node in the new document that is met before the line (`tables`). What the nodes are without the
-- line, and how they are nested, is said by the laws of such a line.
--
-- Theorems: `dots_removed`, `dots_gone`; `found_before`: what the index tells of the node below the last table.
use Rattle.std.proofs.Common.{◌≡◌, ℕ, suc, ◌+◌, ◌-◌, ◌<◌, ◌≤◌, Bool, true, false, List, [], ◌∷◌, ◌++◌, length, map}
use Rattle.std.proofs.Common.{take, refl, sym, ap, subst, ◌∙◌, append_assoc, length-append, arith, Option, Some, None}
use Rattle.std.proofs.Common.{slice_get, ◌⊎◌, inl, inr}
use Rattle.std.specs.Option.{option_and_then}
use Rattle.std.proofs.lemmas.Bool.{and_parts}
use Rattle.std.proofs.lemmas.List.{length-map, map-append}
use Rattle.std.proofs.Math.Seq.{take-append_seam}
use Rattle.keep_types.specs.declared.node.Kind.TheVariants.{Table}
use Rattle.keep_types.specs.declared.node.NodeInfo.{NodeInfo}
use Rattle.keep_types.specs.declared.node.Origin.{Origin}
use Rattle.keep_types.specs.declared.node.Origin.TheVariants as origin
use Rattle.keep_types.specs.declared.syntax.Owner.TheVariants as owner
use Rattle.keep_types.specs.declared.syntax.ValueInfo.{ValueInfo}
use Rattle.keep_syntax.specs.declared.syntax.Syntax.{Syntax}
use Rattle.keep_syntax.specs.Contract.{values_of}
use Rattle.keep_syntax.specs.Tree.{Document, Name, Value}
use Rattle.keep_path.specs.Dots.{without_keys}
use Rattle.keep_path.specs.NodeInfos as node_infos
use Rattle.keep_path.specs.NodeInfos.{NodeInfos}
use Rattle.keep_path.specs.NodesBelow.{AreBelow, Totals}
use Rattle.keep_path.specs.Path.{Part, key, same_part}
use Rattle.keep_path.proofs.Shared.{path_decides}
use Rattle.keep_index_store.specs.Below.{totals_in}
use Rattle.keep_index_store.specs.declared.renumbering.LineNumbers.{LineNumbers}
use Rattle.keep_index_store.specs.declared.shift.Totals as shift
use Rattle.keep_index_store.specs.Renumbering.{numbers_of}
use Rattle.keep_meaning.specs.Counts.{Count, Numbered, count_from, is_mark, is_value, no_count, numbered_in}
use Rattle.keep_meaning.specs.Counts.{statements_in}
use Rattle.keep_meaning.specs.DotsLess.{DotsTakeNodes, without_dots}
use Rattle.keep_meaning.specs.DotsMore.{AreDotted, HasDotsMore, new_path, passed_paths}
use Rattle.keep_meaning.specs.LinesMore.{nodes_after, numbers_after}
use Rattle.keep_meaning.specs.Marks.{Mention, Statement, marks, mentions, reading_after, start}
use Rattle.keep_meaning.specs.Meaning.{further_value, keys_of, line_of, lines_mentions, mentions_in}
use Rattle.keep_meaning.specs.Meaning.{reading_after_lines}
use Rattle.keep_meaning.specs.Nodes.{children, first_number, is_at, is_child, is_dotted, key_number, mark_count}
use Rattle.keep_meaning.specs.Nodes.{mention_of, node_number, numbered_at, value_number}
use Rattle.keep_meaning.specs.OtherValues.{totals_of}
use Rattle.keep_meaning.specs.Rules.{ObeysRules}
use Rattle.keep_meaning.proofs.CountLemmas.{mentions-numbered_from}
use Rattle.keep_meaning.proofs.LineLaws.{after_higher, after_line, before_line, numbered_old}
use Rattle.keep_meaning.proofs.LineNumberLemmas as by_number
use Rattle.keep_meaning.proofs.Shared.{lines_mentions-statements, paths-nodes_in}
use Rattle.keep_rules.specs.declared.index.NodeId.{NodeId}
use Rattle.keep_rules.specs.LinesNested.{DotsLeaveNested}
use Rattle.keep_rules.specs.Lookup.{nth_child, path_numbered}
use Rattle.keep_rules.proofs.Shared.{number_is}
use Rattle.keep_edit_spec.specs.Edits.{edited_document, remove}
use Rattle.keep_edit_spec.specs.KeyvalLines.{HasDotsAt, IsDotsLineOf, RemoveTakesDots, first_path}
use Rattle.keep_edit_spec.specs.Refusals.{refusal}
use Rattle.keep_edit_spec.proofs.Shared.{IsKept, IsMentioned, SomeOf, all_map, dots_kept, dots_line_of_value}
use Rattle.keep_edit_spec.proofs.Shared.{dotted_node, dotted_origin, kept_of, mention_with_number, new_key_is}
use Rattle.keep_edit_spec.proofs.Shared.{rules_of_document, same_part-sound, tables_dotted, tables_named, value_kept}
use Rattle.keep_edit_plan.specs.Answers.{value_number_of}
use Rattle.keep_edit_plan.specs.IndexChanges.{IsIndexChange}
use Rattle.keep_edit_plan.specs.Inserting.{origin_of}
use Rattle.keep_edit_plan.specs.Plans.{IsNodeOf}
use Rattle.keep_edit_plan.specs.Reading.{limit, ProfiledText, Holds, IsTextOfTree, telling_in}
use Rattle.keep_edit_plan.specs.Removing.{IsDottedBefore, IsFirstAlone, IsKeysRemoval, is_keyval_origin}
use Rattle.keep_edit_plan.specs.declared.plan.IndexChange.TheVariants as change
use Rattle.keep_edit_plan.specs.declared.remove.change.FirstAlone.{FirstAlone}
use Rattle.keep_edit_plan.proofs.DotsChangeLaws.{AreTables, HasDots, tables_of}
use Rattle.keep_edit_plan.proofs.FoundLaws.{IsStated, one_found, origin_of_value}
use Rattle.keep_edit_plan.proofs.KeysRemovalLaws.{its_numbers, its_value, with_step}
use Rattle.keep_edit_plan.proofs.LineRemovalLaws as removal
use Rattle.keep_edit_plan.proofs.RemoveCut.{IsLineOfValue, removal_law}

-- ---- a path that is named before a line

-- the number of the first key part that names the path
abbrev first_at : List Part → List Numbered → Option ℕ
first_at q ns = first_number is_mark key_number (numbered_at q ns)

module _ (q : List Part) (k : ℕ) where
  named_or_later : (xs ys : List Numbered) → first_at q (xs ++ ys) ≡ Some k
      → SomeOf (λ (m : Mention). m.path ≡ q) (map mention_of xs) ⊎ (first_at q ys ≡ Some k)
  named_or_later [] ys e = inr e
  named_or_later (n ∷ xs) ys e = by (is_at q n.mention) refl (λ f. named_or_later xs ys f)
    where
      by : (b : Bool) → is_at q n.mention ≡ b
          → (first_at q (xs ++ ys) ≡ Some k
          → SomeOf (λ (m : Mention). m.path ≡ q) (map mention_of xs) ⊎ (first_at q ys ≡ Some k))
          → SomeOf (λ (m : Mention). m.path ≡ q) (map mention_of (n ∷ xs)) ⊎ (first_at q ys ≡ Some k)
      by true at more = inl (inl ((path_decides n.mention.path q).0 at))
      by false at more =
          let past : first_at q (n ∷ (xs ++ ys)) ≡ first_at q (xs ++ ys) = rw at refl in
          elim (more (sym past ∙ e)) [ inl h ↦ inl (inr h) | inr h ↦ inr h ]

  later : (c : Count) (ys : List Numbered) → by_number.AllOf (by_number.IsHigher c) ys → first_at q ys ≡ Some k
      → c.keys ≤ k
  later c [] high e = absurd (let no : None ≡ Some k = e in cc)
  later c (n ∷ ys) high e =
      by (is_at q n.mention) refl (is_mark n.mention.kind) refl (λ f. later c ys high.1 f)
    where
      by : (b : Bool) → is_at q n.mention ≡ b → (m : Bool) → is_mark n.mention.kind ≡ m
          → (first_at q ys ≡ Some k → c.keys ≤ k) → c.keys ≤ k
      by false at m is more =
          let past : first_at q (n ∷ ys) ≡ first_at q ys = rw at refl in more (sym past ∙ e)
      by true at false is more =
          let past : first_at q (n ∷ ys) ≡ first_at q ys = rw (at, is) refl in more (sym past ∙ e)
      by true at true is more =
          let here : first_at q (n ∷ ys) ≡ Some n.before.keys = rw (at, is) refl in
          let same : Some n.before.keys ≡ Some k = sym here ∙ e in
          let one : n.before.keys ≡ k = cc in omega (arith, one, high.0.key)

named_before : (s : Document) (before after : List Statement) (whole : statements_in s ≡ before ++ after)
    (q : List Part) (k : ℕ) → first_at q (numbered_in s) ≡ Some k → k < (numbers_after before).key
    → SomeOf (λ (m : Mention). m.path ≡ q) (mentions before)
named_before s before after whole q k e low =
    elim (named_or_later q k (before_line s before after whole) (after_line s before after whole)
    (ap (first_at q) (sym (numbered_old s before after whole)) ∙ e)) [
      | inl h ↦
          subst (SomeOf (λ (m : Mention). m.path ≡ q)) (mentions-numbered_from no_count start before) h
      | inr h ↦
          absurd (omega (
            arith,
            low,
            later q k (count_from no_count start before) (after_line s before after whole)
                (after_higher s before after whole) h,
          ))
    ]

-- a keyval says something of a path with such an origin
kept : (q : List Part) (s : Document) (o : Origin) → origin_of q s ≡ o → is_keyval_origin o ≡ true
    → IsKept q (mentions_in s)
kept q s (origin.Value v) e is =
    kept_of is_value value_kept q (mentions_in s)
    (mention_with_number is_value value_number q s v (origin_of_value (numbered_at q (numbered_in s)) v e))
kept q s (origin.Dotted v) e is =
    kept_of is_dotted dots_kept q (mentions_in s)
    (mention_with_number is_dotted value_number q s v (dotted_node q s v e).number)
kept q s other e is = absurd cc

-- ---- the node below the last table, as the index tells it

step_of_child : (a p : List Part) → is_child a p ≡ true → (x : Part) × (p ≡ a ++ x ∷ [])
step_of_child [] [] e = absurd cc
step_of_child [] (q ∷ []) e = (q, refl)
step_of_child [] (q ∷ r ∷ p) e = absurd cc
step_of_child (b ∷ a) [] e = absurd cc
step_of_child (b ∷ a) (q ∷ p) e =
    let (same, below) = and_parts (same_part b q) (is_child a p) e in
    let (x, ends) = step_of_child a p below in
    let one : b ≡ q = same_part-sound b q same in
    (x, ap (λ (l : List Part). q ∷ l) ends ∙ ap (λ (y : Part). y ∷ (a ++ x ∷ [])) (sym one))

child_of : (a p : List Part) (ps qs : List (List Part)) → children a qs ≡ p ∷ ps → is_child a p ≡ true
child_of a p ps [] e = absurd (let no : [] ≡ p ∷ ps = e in cc)
child_of a p ps (q ∷ qs) e = by (is_child a q) refl (λ f. child_of a p ps qs f)
  where
    by : (b : Bool) → is_child a q ≡ b → (children a qs ≡ p ∷ ps → is_child a p ≡ true) → is_child a p ≡ true
    by false is more = let past : children a (q ∷ qs) ≡ children a qs = rw is refl in more (sym past ∙ e)
    by true is more =
        let here : children a (q ∷ qs) ≡ q ∷ children a qs = rw is refl in
        let both : q ∷ children a qs ≡ p ∷ ps = sym here ∙ e in
        let one : q ≡ p = cc in ap (is_child a) (sym one) ∙ is

module _ (d : ProfiledText) (syntax : Syntax) (index : NodeInfos) (s : Document) (holds : Holds d syntax index)
    (read : IsTextOfTree d s) where
  pub found_before : (q : List Part) (table : NodeId) → node_number index.paths q ≡ Some table.0
      → (child : NodeId) → Some child.0 ≡ nth_child index table.0 0
      → (info : NodeInfo) → slice_get index.infos child.0 ≡ Some info → (k end : ℕ) → info.key ≡ Some k → k < end
      → is_keyval_origin info.origin ≡ true → IsDottedBefore q s end
  found_before q table at child below info there k end named low is =
      by (children (path_numbered index table.0) index.paths) refl below
    where
      by : (ps : List (List Part)) → children (path_numbered index table.0) index.paths ≡ ps
          → Some child.0 ≡ option_and_then (node_number index.paths) (slice_get ps 0) → IsDottedBefore q s end
      by [] are e = absurd cc
      by (p ∷ ps) are e =
          let (x, ends) =
          step_of_child (path_numbered index table.0) p
          (child_of (path_numbered index table.0) p ps index.paths are) in
          let whole : p ≡ q ++ x ∷ [] =
          ends ∙ ap (λ (l : List Part). l ++ x ∷ []) (number_is index.paths q table.0 at).1 in
          let stated : IsStated (q ++ x ∷ []) s info =
          subst (λ (l : List Part). IsStated l s info) whole
          (one_found d syntax index p s holds read child info (Some child) refl e there) in
          record {
            last = x;
            first = k;
            named = sym (ap (λ (i : NodeInfo). i.key) stated.is) ∙ named;
            before = low;
            origin = ap is_keyval_origin (sym (ap (λ (i : NodeInfo). i.origin) stated.is)) ∙ is;
          }

-- ---- the remove

module _ (takes : RemoveTakesDots) (take_nodes : DotsTakeNodes) (leave_nested : DotsLeaveNested) (d : ProfiledText)
    (syntax : Syntax) (index : NodeInfos) (path : List Part) (s : Document) (holds : Holds d syntax index)
    (read : IsTextOfTree d s) (id : NodeId) (its_number : IsNodeOf path s id)
    (allowed : refusal d.profile limit s (remove path) ≡ None) (number : ℕ)
    (found : value_number_of path s ≡ Some number) (info : ValueInfo)
    (stored : slice_get (values_of syntax) number ≡ Some info) (line : ℕ)
    (owned : info.owner ≡ owner.Line line) (low : ℕ)
    (at_body : low ≡ length path - info.keys) (first : FirstAlone) (alone : IsFirstAlone path s low first)
    (dotted_before : IsDottedBefore (take first.before path) s info.first_key) (old : shift.Totals)
    (many : totals_in old ≡ totals_of s) where
  abbrev new : Document
  new = edited_document s (remove path)

  abbrev numbers : LineNumbers
  numbers = record { statement = line; value = number; key = info.first_key }

  abbrev of : IsLineOfValue d syntax index path s holds read allowed number info line
  of = removal.of d syntax index path s holds read id its_number allowed number found info stored line owned

  abbrev held : Value
  held = of.found.its_line.held

  keys_are : of.found.own.keys ≡ info.keys
  keys_are = ap (λ (i : ValueInfo). i.keys) of.own_is

  abbrev count : ℕ
  count = first.before - low

  abbrev body : List Part
  body = (reading_after_lines start (map line_of of.pre)).body

  size : length path ≡ length body + info.keys
  size =
      let name : Name = of.found.its_line.name in
      omega (
        arith,
        keys_are,
        of.found.keys,
        ap (λ (p : List Part). length p) of.found.its_line.named,
        length-append body (map key (keys_of name.key)),
        length-map (keys_of name.key) key,
        length-map name.key.more further_value,
      )

  -- the line, of whose keys so many are passed
  cut : (l : IsDotsLineOf s path (map line_of of.pre) held) × (length l.passed ≡ count)
      × (of.found.own.keys ≡ length (l.passed ++ l.first ∷ l.further))
  cut =
      dots_line_of_value path s of.pre of.rest of.was of.found count
      (omega (arith, keys_are, size, at_body, alone.low, alone.within))

  abbrev its : IsDotsLineOf s path (map line_of of.pre) held
  its = cut.0

  abbrev table : List Part
  table = body ++ map key its.passed

  whole : path ≡ table ++ key its.first ∷ map key its.further
  whole =
      sym its.place ∙ ap (λ (ks : List (List ℕ)). body ++ map key ks) its.parts
      ∙ ap (λ (p : List Part). body ++ p) (map-append key its.passed (its.first ∷ its.further))
      ∙ sym (append_assoc body (map key its.passed) (map key (its.first ∷ its.further)))

  at_table : first.before ≡ length table
  at_table = omega (
    arith,
    size,
    at_body,
    cut.1,
    alone.low,
    alone.within,
    length-append body (map key its.passed),
    length-map its.passed key,
  )

  front_is : take (suc first.before) path ≡ table ++ key its.first ∷ []
  front_is = with_step path table (key its.first) (map key its.further) first.before whole at_table

  table_is : take first.before path ≡ table
  table_is =
      ap (λ (n : ℕ). take n path) at_table ∙ ap (take (length table)) whole
      ∙ take-append_seam table (key its.first ∷ map key its.further)

  once : mark_count (first_path (map line_of of.pre) its.passed its.first) (mentions_in s) ≡ 1
  once = ap (λ (p : List Part). mark_count p (mentions_in s)) (sym front_is) ∙ alone.once

  taken : HasDotsAt new s path held (length its.passed) (map line_of of.pre)
  taken = takes s path (map line_of of.pre) held read.obeys its once

  abbrev its_line : HasDotsMore new s
  its_line = taken.line

  abbrev passed : List (List Part)
  passed = passed_paths its_line.before its_line.passed

  abbrev new_key : List Part
  new_key = new_path its_line.before its_line.passed its_line.first

  new_obeys : ObeysRules (marks (mentions_in new))
  new_obeys = (removal_law d path s read allowed).obeys

  so_many : length its_line.passed ≡ count
  so_many = taken.count ∙ cut.1

  numbers_are : numbers_after its_line.before ≡ numbers_of numbers
  numbers_are =
      ap numbers_after taken.after
      ∙ removal.numbers_are d syntax index path s holds read id its_number allowed number found info stored line owned

  -- ---- the tables that it passes

  below_is : take first.before path ++ dotted_before.last ∷ [] ≡ table ++ dotted_before.last ∷ []
  below_is = ap (λ (p : List Part). p ++ dotted_before.last ∷ []) table_is

  named : SomeOf (λ (m : Mention). m.path ≡ table ++ dotted_before.last ∷ [])
      (lines_mentions start (map line_of of.pre))
  named =
      let said : mentions its_line.before ≡ lines_mentions start (map line_of of.pre) =
      ap mentions taken.after ∙ sym (lines_mentions-statements start (map line_of of.pre)) in
      subst (SomeOf (λ (m : Mention). m.path ≡ table ++ dotted_before.last ∷ [])) said
      (subst (λ (q : List Part). SomeOf (λ (m : Mention). m.path ≡ q) (mentions its_line.before)) below_is
      (named_before s its_line.before _ its_line.new (take first.before path ++ dotted_before.last ∷ [])
      dotted_before.first dotted_before.named
      (omega (arith, dotted_before.before, ap (λ (n : node_infos.LineNumbers). n.key) numbers_are))))

  kept_below : IsKept (table ++ dotted_before.last ∷ []) (mentions_in s)
  kept_below =
      let q : List Part = take first.before path ++ dotted_before.last ∷ [] in
      subst (λ (p : List Part). IsKept p (mentions_in s)) below_is
      (kept q s (origin_of q s) refl dotted_before.origin)

  tables : AreTables new its_line.before its_line.after its_line.old passed
  tables =
      tables_of new its_line.before its_line.after its_line.old passed
      (tables_named s path (map line_of of.pre) held read.obeys its once dotted_before.last named kept_below taken)
      (all_map (λ (p : List Part). SomeOf (IsMentioned is_dotted p) (mentions_in new)) (HasDots new)
      (λ p h. dotted_origin p new (rules_of_document new new_obeys) h) passed
      (tables_dotted s path (map line_of of.pre) held read.obeys its once dotted_before.last named kept_below taken))

  dotted : AreDotted new (nodes_after its_line.before) passed tables.ids
  dotted = record { numbers = tables.numbers; dotted = tables.dotted }

  -- ---- its nodes

  here : node_number (telling_in s).paths new_key ≡ Some first.node.0
  here =
      ap (node_number (telling_in s).paths)
      (new_key_is s path (map line_of of.pre) held read.obeys its once taken ∙ sym front_is)
      ∙ ap (λ (ps : List (List Part)). node_number ps (take (suc first.before) path)) (paths-nodes_in s)
      ∙ alone.number

  at : nodes_after its_line.before ≡ first.node.0
  at = let both : Some (nodes_after its_line.before) ≡ Some first.node.0 =
      sym (take_nodes new s its_line tables.ids dotted taken.unsaid new_obeys).0 ∙ here in cc

  abbrev left : ℕ → ℕ → ℕ → Totals → node_infos.LineNumbers → NodeInfos
  left gone n passed all own =
      without_dots tables.ids (without_keys (telling_in s) n gone passed own all (totals_of new) Table)

  pub dots_removed : IsIndexChange s new (change.RemovedKeys first.node count numbers old)
  dots_removed =
      let told = take_nodes new s its_line tables.ids dotted taken.unsaid new_obeys in
      let (gone, below, is) = told.2 in
      let (within, its_path) = number_is (telling_in s).paths new_key first.node.0 here in
      let n : ℕ = nodes_after its_line.before in
      record {
        can = within;
        facts = λ u by.
            by (reading_after start its_line.before).body its_line.passed its_line.first tables.ids its_path so_many
            told.1 gone Table (subst (λ (n : ℕ). AreBelow (telling_in s).paths n gone) at below)
            ∙ ap (λ (all : Totals). left gone first.node.0 count all (numbers_of numbers)) many
            ∙ ap (λ (i : ℕ). left gone i count (totals_of s) (numbers_of numbers)) (sym at)
            ∙ ap (λ (c : ℕ). left gone n c (totals_of s) (numbers_of numbers)) (sym so_many)
            ∙ ap (left gone n (length its_line.passed) (totals_of s)) (sym numbers_are) ∙ sym is;
        nested =
            leave_nested new s its_line tables.ids dotted taken.unsaid new_obeys
            (removal.nested d syntax index path s holds read id its_number allowed number found info stored line owned);
      }

-- as the code tells of the line
pub dots_gone : RemoveTakesDots → DotsTakeNodes → DotsLeaveNested → (d : ProfiledText) (syntax : Syntax)
    (index : NodeInfos) (path : List Part) (s : Document) (holds : Holds d syntax index) (read : IsTextOfTree d s)
    (line : LineNumbers) (keys : ℕ) → IsKeysRemoval d.profile path s line keys → (low : ℕ) → low ≡ length path - keys
    → (first : FirstAlone) → IsFirstAlone path s low first
    → IsDottedBefore (take first.before path) s line.key → (old : shift.Totals) → totals_in old ≡ totals_of s
    → IsIndexChange s (edited_document s (remove path))
    (change.RemovedKeys first.node (first.before - low) line old)
dots_gone takes take_nodes leave_nested d syntax index path s holds read line keys r low at_body first alone
    dotted_before old many =
    subst (λ (l : LineNumbers).
    IsIndexChange s (edited_document s (remove path))
    (change.RemovedKeys first.node (first.before - low) l old)) (its_numbers d syntax index path s holds read line keys
    r)
    (dots_removed takes take_nodes leave_nested d syntax index path s holds read r.node r.number r.allowed line.value
    r.value r.info (its_value d syntax index path s holds read line keys r) line.statement r.owned low
    (at_body ∙ ap (λ (n : ℕ). length path - n) (sym r.many)) first alone
    (subst (IsDottedBefore (take first.before path) s) (sym r.first) dotted_before) old many)
