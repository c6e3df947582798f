-- An insert after the last line that leads through a table of dotted keys, with nothing in its value, gives the index
-- the nodes of its new keys, and the tables that its key passes one keyval more.
--
-- The law of the edit says that the new document has such a line more, after the statements that are counted for its
-- numbers (`on_line`). Its keys go from the body of the line before it to the holder of the path (`passing`). Each path
-- on that way has a dotted origin (`dots_on_way`) and is named before the line, so it has a node that is met before it
-- (`table_of`): the passed tables are those nodes (`dotted`). So the nodes are those that the law of such a line tells
-- (`facts`), and they are nested as the headers say.
--
-- Theorem: `dots_changed`; `on_line`, `few_passed`: what the code may ask; `tables_of`: the nodes of such paths.
use Rattle.std.proofs.Common.{◌≡◌, ℕ, suc, ◌+◌, ◌-◌, ◌<◌, ◌≤◌, Bor, true, false, List, [], ◌∷◌, ◌++◌, length, get_or}
use Rattle.std.proofs.Common.{map, take, drop, refl, sym, ap, ap₂, subst, ◌∙◌, append_assoc, length-append, arith}
use Rattle.std.proofs.Common.{Option, Some, None, Ok, inl, inr}
use Rattle.std.specs.Prelude.{All}
use Rattle.std.proofs.lemmas.List.{append-nil, length-take-le}
use Rattle.std.proofs.lemmas.List.Elements.{All-cons}
use Rattle.std.proofs.lemmas.Option.{get_or_from_slice_get, slice_get_within}
use Rattle.std.proofs.Math.Seq.{take-append_seam}
use Rattle.keep_types.specs.declared.node.Kind.{Kind}
use Rattle.keep_types.specs.declared.node.NodeInfo.{NodeInfo}
use Rattle.keep_types.specs.declared.node.Origin.TheVariants as origin
use Rattle.keep_syntax.specs.declared.syntax.Syntax.{Syntax}
use Rattle.keep_syntax.specs.Numbered as numbered
use Rattle.keep_syntax.specs.Tree.{Value, Document, none, value_depth}
use Rattle.keep_path.specs.Dots.{after_parts, totals_after_parts, with_dots, with_keys, with_parts_from}
use Rattle.keep_path.specs.KeysAlone.{paths_below}
use Rattle.keep_path.specs.NodeInfos as node_infos
use Rattle.keep_path.specs.NodeInfos.{NodeInfos, no_info}
use Rattle.keep_path.specs.NodesBelow.{Totals}
use Rattle.keep_path.specs.Path.{Part, AreUtf8, key}
use Rattle.keep_index_store.specs.Below.{totals_in}
use Rattle.keep_index_store.specs.declared.renumbering.LineNumbers.{LineNumbers}
use Rattle.keep_index_store.specs.declared.shift.Totals as shift
use Rattle.keep_index_store.specs.Renumbering.{numbers_of}
use Rattle.keep_meaning.specs.Counts.{no_count, statements_in}
use Rattle.keep_meaning.specs.DotsMore.{AreDotted, HasDotsMore, IsDotted, new_path as new_key_path, passed_paths}
use Rattle.keep_meaning.specs.LinesMore.{nodes_after, numbers_after}
use Rattle.keep_meaning.specs.Marks.{Mention, Statement, mentions, reading_after, start}
use Rattle.keep_meaning.specs.Meaning.{body_fact, lines, mentions_in}
use Rattle.keep_meaning.specs.Nodes.{fact_kind, infos_in, is_node, mention_of, node_number, node_paths}
use Rattle.keep_meaning.specs.OtherValues.{totals_of}
use Rattle.keep_meaning.proofs.CountLemmas.{mentions-numbered_from}
use Rattle.keep_meaning.proofs.LineLaws.{after_line, before_line, met_before_line, paths_old}
use Rattle.keep_meaning.proofs.LineNodeLemmas.{path_of}
use Rattle.keep_meaning.proofs.Shared.{dots_are_found, few_before, paths-nodes_in, same_node}
use Rattle.keep_rules.specs.LinePlaces.{IsPlaceOf}
use Rattle.keep_rules.specs.Lookup.{path_numbered}
use Rattle.keep_rules.proofs.Shared.{dots_add_nodes, dots_are_nested, met_or_unmet, number_at, number_is, paths_differ}
use Rattle.keep_rules.proofs.Shared.{place_is}
use Rattle.keep_edit_spec.specs.Edits.{edited_document, insert}
use Rattle.keep_edit_spec.specs.KeyvalLines.{HasDotsAt}
use Rattle.keep_edit_spec.specs.Lines.{reading_at}
use Rattle.keep_edit_spec.specs.Look.{holder, item_number}
use Rattle.keep_edit_spec.proofs.Shared.{AllOf, IsDottedPlaced, IsNamed, IsNewPath, PassesTo, insert_adds_dots}
use Rattle.keep_edit_spec.proofs.Shared.{new_path, passed_are_named, passed_to_holder}
use Rattle.keep_edit_plan.specs.Holding.{IsHolder}
use Rattle.keep_edit_plan.specs.IndexChanges.{IsIndexChange}
use Rattle.keep_edit_plan.specs.Inserting.{IsBase, IsInsertionOf, IsKeyvalSpot, is_dotted_origin, origin_of}
use Rattle.keep_edit_plan.specs.LineNumbers.{AreNumbersPast, IsOnLine}
use Rattle.keep_edit_plan.specs.Reading.{limit, ProfiledText, Holds, IsTextOfTree, IsTextOfValue, telling_in}
use Rattle.keep_edit_plan.specs.declared.holder.Holder.{Holder}
use Rattle.keep_edit_plan.specs.declared.insert.Insertion.{Insertion}
use Rattle.keep_edit_plan.specs.declared.insert.Spot.TheVariants.{AfterLine}
use Rattle.keep_edit_plan.specs.declared.plan.IndexChange.TheVariants as change
use Rattle.keep_edit_plan.proofs.AnswerLaws.{index_of}
use Rattle.keep_edit_plan.proofs.InsertedLaws.{keyval_only}
use Rattle.keep_edit_plan.proofs.KeyLaws.{no_number}
use Rattle.keep_edit_plan.proofs.KeysLaws.{dotted_of, keys_utf8}
use Rattle.keep_edit_plan.proofs.KindLaws.{no_entries}
use Rattle.keep_edit_plan.proofs.LineChangeLaws.{place_in}
use Rattle.keep_edit_plan.proofs.LineSpots.{dotted_there}
use Rattle.keep_edit_plan.proofs.NodeLaws.{info_at, info_of_number, no_node}

-- ---- the tables on the way to a path

-- dots lead to the path
abbrev pub HasDots : Document → List Part → Type 0
HasDots s q = (m : ℕ) × (origin_of q s ≡ origin.Dotted m)

-- The keys from a prefix on, where dots lead to each longer one.
dots_on_way : (s : Document) (a : List Part) (from : ℕ)
    → ((n : ℕ) → from < n → n ≤ length a → is_dotted_origin (origin_of (take n a) s) ≡ true)
    → (at : List Part) (ks : List (List ℕ)) → at ++ map key ks ≡ a → from ≤ length at
    → AllOf (HasDots s) (paths_below at ks)
dots_on_way s a from dots at [] whole long = tt
dots_on_way s a from dots at (k ∷ ks) whole long =
    let next : List Part = at ++ key k ∷ [] in
    let further : next ++ map key ks ≡ a = append_assoc at (key k ∷ []) (map key ks) ∙ whole in
    let size : length next ≡ length at + 1 = length-append at (key k ∷ []) in
    let few : length next ≤ length a =
    omega (arith, ap (λ (p : List Part). length p) further, length-append next (map key ks)) in
    let cut : take (length next) a ≡ next =
    ap (take (length next)) (sym further) ∙ take-append_seam next (map key ks) in (
      dotted_of (origin_of next s)
          (ap (λ (p : List Part). is_dotted_origin (origin_of p s)) (sym cut)
          ∙ dots (length next) (omega (arith, size, long)) few),
      dots_on_way s a from dots next ks further (omega (arith, size, long)),
    )

-- Paths that are named by the first statements, where dots lead to them, have nodes that are met by then.
module _ (s : Document) (before after : List Statement) (old : statements_in s ≡ before ++ after) where
  abbrev all : List (List Part)
  all = (telling_in s).paths

  abbrev said : List Mention
  said = map mention_of (before_line s before after old)

  said_are : said ≡ mentions before
  said_are = mentions-numbered_from no_count start before

  record IsTable (q : List Part) : Type 0 where
    id : ℕ
    number : node_number all q ≡ Some id
    dotted : IsDotted s (nodes_after before) id

  table_of : (q : List Part) → IsNamed (mentions before) q → HasDots s q → IsTable q
  table_of q named dots = elim (met_or_unmet (node_paths said) q) [
    | inl met ↦
        let n : ℕ = met.number in
        let few : n < nodes_after before = omega (arith, met.nested, met_before_line s before after old) in
        let within : n < length all = omega (arith, few, few_before s before after old) in
        let stands : get_or all n [] ≡ q =
        ap (λ (ps : List (List Part)). get_or ps n []) (paths_old s before after old)
        ∙ same_node (node_paths said) (map path_of (map mention_of (after_line s before after old))) n met.nested
        ∙ met.here in
        let number : node_number all q ≡ Some n = number_at all (paths_differ s) n q within stands in
        let info : get_or (infos_in s) n no_info ≡ info_at q s =
        get_or_from_slice_get (infos_in s) n (info_at q s) no_info
        (info_of_number q s n (ap (λ (ps : List (List Part)). node_number ps q) (sym (paths-nodes_in s)) ∙ number)) in
        record {
          id = n;
          number = number;
          dotted = (few, (dots.0, ap (λ (i : NodeInfo). i.origin) info ∙ dots.1));
        }
    | inr unmet ↦
        let none : is_node q (mentions before) ≡ false =
        ap (is_node q) (sym said_are) ∙ no_node q said unmet.is in
        let some : is_node q (mentions before) ≡ true = named in
        absurd cc
  ]

  pub record AreTables (qs : List (List Part)) : Type 0 where
    pub ids : List ℕ
    pub numbers : map (node_number all) qs ≡ map Some ids
    pub dotted : All (IsDotted s (nodes_after before)) ids

  pub tables_of : (qs : List (List Part)) → AllOf (IsNamed (mentions before)) qs → AllOf (HasDots s) qs → AreTables qs
  tables_of [] named dots = record { ids = []; numbers = refl; dotted = λ k d h. absurd (omega (arith, h)) }
  tables_of (q ∷ qs) named dots =
      let one : IsTable q = table_of q named.0 dots.0 in
      let more : AreTables qs = tables_of qs named.1 dots.1 in
      record {
        ids = one.id ∷ more.ids;
        numbers = ap₂ (λ (o : Option ℕ) (os : List (Option ℕ)). o ∷ os) one.number more.numbers;
        dotted = All-cons (IsDotted s (nodes_after before)) one.id more.ids one.dotted more.dotted;
      }

-- ---- the insert

module _ (d : ProfiledText) (syntax : Syntax) (index : NodeInfos) (given : Bor (List Part)) (s : Document) (v : Value)
    (bytes : List ℕ) (i : Insertion)
    (holds : Holds d syntax index) (read : IsTextOfTree d s) (value : IsTextOfValue bytes v)
    (there : IsInsertionOf d.profile given.now v s (Ok i)) (utf8 : AreUtf8 given.now) (last : ℕ)
    (after_keyval : i.spot ≡ AfterLine last) where
  abbrev path : List Part
  path = given.now

  abbrev a : List Part
  a = holder path (mentions_in s)

  abbrev new : Document
  new = edited_document s (insert path v)

  abbrev old_index : NodeInfos
  old_index = telling_in s

  spot : (item_number path (mentions_in s) ≡ None) × IsKeyvalSpot a s i.from (AfterLine last)
  spot = keyval_only d syntax index path s v bytes i holds read value there utf8 (AfterLine last) after_keyval
      (λ n h. absurd h)

  base : IsBase a s i.from
  base = spot.1.1

  -- after which line
  pub placed : IsDottedPlaced s path v i.from last
  placed = dotted_there d path v s read there.0 spot.0 i.from last spot.1

  abbrev pub line_before : ℕ
  line_before = placed.last

  pub on_line : IsOnLine s last line_before
  on_line = record {
    own = placed.own;
    here = placed.here;
    statement = placed.line;
    owned = placed.owned;
    within = slice_get_within (numbered.statements s) placed.line placed.statement placed.there;
    counted = placed.counted;
  }

  -- the keys after the holder
  keys : IsNewPath path (mentions_in s)
  keys = new_path d.profile limit (mentions_in s) path v spot.0 there.0

  module _ (held : Holder) (is_holder : IsHolder path s held) where
    size : held.len ≡ length a
    size = sym (ap (λ (p : List Part). length p) is_holder.prefix ∙ length-take-le held.len path is_holder.walk.within)

    pub few_passed : i.from ≤ held.len
    few_passed = omega (arith, size, base.within)

    left : drop held.len path ≡ map key (keys.first ∷ keys.more)
    left = ap (λ (n : ℕ). drop n path) size ∙ keys.rest

    module _ (flat : value_depth v ≤ 0) (numbers : LineNumbers) (are : AreNumbersPast line_before s numbers)
        (kind : Kind) (kind_is : kind ≡ fact_kind (body_fact v.body)) (old : shift.Totals)
        (many : totals_in old ≡ totals_of s) where
      abbrev count : ℕ
      count = held.len - i.from

      abbrev place : ℕ
      place = place_in s numbers

      abbrev body : List Part
      body = (reading_at placed.last (lines s)).body

      abbrev first_path : List Part
      first_path = a ++ key keys.first ∷ []

      -- ---- the line

      added : HasDotsAt s new path v (length a - length body) (take (suc placed.last) (lines s))
      added =
          insert_adds_dots d.profile limit s path keys.first keys.more v placed.last (keys_utf8 path utf8) there.0
          keys.whole placed.bare placed.found

      abbrev line : HasDotsMore s new
      line = added.line

      passing : PassesTo s new body a keys.first keys.more line
      passing =
          passed_to_holder s new path keys.first keys.more v placed.last keys.whole placed.found added

      empty : line.nested ≡ none
      empty = added.holds ∙ no_entries v.body v.nested value.reads.valid.nested (omega (arith, flat))

      abbrev its_body : List Part
      its_body = (reading_after start line.before).body

      so_many : length line.passed ≡ count
      so_many = omega (arith, added.count, size, placed.base)

      numbers_are : numbers_after line.before ≡ numbers_of numbers
      numbers_are = ap numbers_after added.after ∙ sym are

      is_place : IsPlaceOf (numbers_of numbers) (infos_in s) (nodes_after line.before)
      is_place =
          let (within, parts) = dots_are_found s new line read.obeys in
          subst (λ (n : node_infos.LineNumbers). IsPlaceOf n (infos_in s) (nodes_after line.before)) numbers_are
          (record { within = within; parts = parts })

      at : nodes_after line.before ≡ place
      at = place_is (numbers_of numbers) (infos_in s) (nodes_after line.before) is_place

      -- ---- the tables that it passes

      on_way : AllOf (HasDots s) (passed_paths line.before line.passed)
      on_way =
          dots_on_way s a i.from base.dots its_body line.passed
          (ap (λ (b : List Part). b ++ map key line.passed) passing.from ∙ passing.to)
          (omega (arith, ap (λ (p : List Part). length p) passing.from, placed.base))

      tables : AreTables s line.before line.after line.old (passed_paths line.before line.passed)
      tables =
          tables_of s line.before line.after line.old (passed_paths line.before line.passed)
          (passed_are_named s new a keys.first keys.more placed.last line placed.found added.after passing) on_way

      dotted : AreDotted s (nodes_after line.before) (passed_paths line.before line.passed) tables.ids
      dotted = record { numbers = tables.numbers; dotted = tables.dotted }

      -- ---- its nodes

      -- no node is at the path of the first new key
      fresh : node_number old_index.paths first_path ≡ None
      fresh =
          let unsaid : is_node first_path (mentions_in s) ≡ false =
          ap (λ (p : List Part). is_node p (mentions_in s))
          (sym (append-nil (new_key_path line.before line.passed line.first) ∙ passing.path_is)) ∙ added.unsaid [] in
          ap (λ (ps : List (List Part)). node_number ps first_path) (paths-nodes_in s)
          ∙ no_number first_path (mentions_in s) unsaid

      abbrev told : ℕ → node_infos.LineNumbers → ℕ → List Part → List (List ℕ) → Kind → Totals → NodeInfos
      told n own passed p ks k bare =
          with_dots own.value tables.ids (with_keys (with_parts_from own.key passed old_index) n
          (after_parts passed own) p ks k (totals_after_parts passed bare) (totals_of new))

      facts : telling_in new ≡ told place (numbers_of numbers) count first_path keys.more kind (totals_of s)
      facts =
          let own : node_infos.LineNumbers = numbers_after line.before in
          let m : ℕ = length line.passed in
          let p : List Part = new_key_path line.before line.passed line.first in
          let k : Kind = fact_kind line.fact in
          let bare : Totals = totals_of s in
          dots_add_nodes s new line tables.ids dotted added.unsaid empty
          ∙ ap (λ (n : ℕ). told n own m p line.further k bare) at
          ∙ ap (λ (o : node_infos.LineNumbers). told place o m p line.further k bare) numbers_are
          ∙ ap (λ (c : ℕ). told place (numbers_of numbers) c p line.further k bare) so_many
          ∙ ap (λ (q : List Part). told place (numbers_of numbers) count q line.further k bare) passing.path_is
          ∙ ap (λ (ks : List (List ℕ)). told place (numbers_of numbers) count first_path ks k bare) passing.further_is
          ∙ ap (λ (x : Kind). told place (numbers_of numbers) count first_path keys.more x bare)
          (ap fact_kind added.gives ∙ sym kind_is)

      pub dots_changed : IsIndexChange s new
          (change.AddedKeys held.id (record { path = given; from = held.len; passed = count }) numbers kind old)
      dots_changed =
          let here : node_number old_index.paths (take held.len path) ≡ Some held.id.0 =
          ap (λ (ps : List (List Part)). node_number ps (take held.len path)) (paths-nodes_in s)
          ∙ is_holder.walk.node in
          let (low, its_path) = number_is old_index.paths (take held.len path) held.id.0 here in
          let parent_is : path_numbered old_index held.id.0 ≡ a = its_path ∙ sym is_holder.prefix in
          let passes : path_numbered old_index held.id.0 ≡ its_body ++ map key line.passed =
          parent_is ∙ sym passing.to ∙ ap (λ (b : List Part). b ++ map key line.passed) (sym passing.from) in
          record {
            can = (
              low,
              λ first further rest.
                  (let same : map key (first ∷ further) ≡ map key (keys.first ∷ keys.more) = sym rest ∙ left in
                  let one : first ≡ keys.first = cc in
                  ap (λ (p : List Part). node_number old_index.paths (p ++ key first ∷ [])) parent_is
                  ∙ ap (λ (k : List ℕ). node_number old_index.paths (a ++ key k ∷ [])) one ∙ fresh),
              subst (IsPlaceOf (numbers_of numbers) (infos_in s)) at is_place,
            );
            facts = λ u is.
                is keys.first keys.more left its_body line.passed tables.ids passes so_many tables.numbers
                ∙ ap (λ (p : List Part).
                told place (numbers_of numbers) count (p ++ key keys.first ∷ []) keys.more kind (totals_in old))
                parent_is
                ∙ ap (told place (numbers_of numbers) count first_path keys.more kind) many
                ∙ sym facts;
            nested =
                dots_are_nested s new line tables.ids dotted added.unsaid read.obeys
                (index_of d syntax index s holds read).nested;
          }
