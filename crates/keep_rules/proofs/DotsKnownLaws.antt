-- A line more that passes tables of dotted keys gives the nodes of its new keys, and these tables one mention more.
--
-- Without what the passed keys say there are the nodes of the new keys (`dots_given`). A passed table is met before the
-- line, so among these nodes it has the number that it had (`number_kept`), and it is a table of dotted keys still
-- (`table_kept`). So each passed key gives it one mention more (`dots_added`).
--
-- Theorems: `dots_add_nodes`, `dots_add_value_nodes`; `dots_more`: the same, by the list of what is said.
use Rattle.std.proofs.Common.{◌≡◌, ℕ, suc, ◌+◌, ◌<◌, ◌≤◌, Bool, true}
use Rattle.std.proofs.Common.{false, cond, List, [], ◌∷◌, ◌++◌, get_or, length, map}
use Rattle.std.proofs.Common.{refl, sym, ap, ap₂, subst, ◌∙◌, arith, Some}
use Rattle.std.specs.Prelude.{All, slice_set, take}
use Rattle.std.specs.List.{insert, list_any}
use Rattle.std.proofs.lemmas.List.{get_or-map, get_or-set_other, get_or-take, get_or_append_left, length-map}
use Rattle.std.proofs.lemmas.List.{length-take-le}
use Rattle.std.proofs.lemmas.List.Edits.{get_or-insert_below, length-insert}
use Rattle.keep_types.specs.declared.node.Kind.{Kind}
use Rattle.keep_types.specs.declared.node.NodeInfo.{NodeInfo}
use Rattle.keep_types.specs.declared.node.Origin.TheVariants as origin
use Rattle.keep_syntax.specs.Tree.{Document, Value, none}
use Rattle.keep_path.specs.Dots.{after_parts, totals_after_parts, with_keys, with_parts_from}
use Rattle.keep_path.specs.KeysAlone.{paths_below}
use Rattle.keep_path.specs.NodeInfos.{LineNumbers, NodeInfos, later_number, no_info, renumbered, renumbered_origin}
use Rattle.keep_path.specs.NodesBelow.{Totals, with_numbers}
use Rattle.keep_path.specs.Path.{Part, key}
use Rattle.keep_meaning.specs.DotsMore.{AreDotted, DotsAddNodes, DotsAddValueNodes, HasDotsMore, IsDotted, new_path}
use Rattle.keep_meaning.specs.DotsMore.{passed_paths, with_valued_keys}
use Rattle.keep_meaning.specs.KeysMore.{IsUnsaid}
use Rattle.keep_meaning.specs.LinesMore.{node_infos, nodes_after, numbers_after}
use Rattle.keep_meaning.specs.Nodes.{fact_kind, node_number}
use Rattle.keep_meaning.specs.OtherValues.{nodes_in_value, totals_of}
use Rattle.std.proofs.Common.{◌≢◌}
use Rattle.std.specs.Prelude.{◌||◌, drop}
use Rattle.std.proofs.lemmas.Bool.{or_left}
use Rattle.std.proofs.lemmas.List.{length-set}
use Rattle.std.proofs.lemmas.List.Elements.{All-head, All-tail}
use Rattle.std.proofs.lemmas.List.Folds.{list_any_at}
use Rattle.keep_types.specs.declared.node.Kind.TheVariants as kind
use Rattle.keep_path.specs.NodesBelow.{info_beside, key_of, one_more, value_of, with_value}
use Rattle.keep_path.specs.Path.{same_path}
use Rattle.keep_path.proofs.Shared.{path_decides}
use Rattle.keep_meaning.specs.Counts.{Count, Numbered, is_mark, no_count}
use Rattle.keep_meaning.specs.Nodes.{is_at, is_node, mention_of, node_paths, numbered_at}
use Rattle.keep_meaning.specs.OtherValues.{IsSaidBefore}
use Rattle.keep_meaning.proofs.CountLemmas.{mentions-numbered_from, paths-nodes}
use Rattle.keep_meaning.proofs.DotsLaws.{c, c', dots_given, dots_nodes, dots_numbered, dots_valued, few_said}
use Rattle.keep_meaning.proofs.DotsLaws.{inside_first, late_rest, rest, xs as said_before}
use Rattle.keep_meaning.proofs.ElementLemmas.{IsSoundStatement, sound_from, sound_statements}
use Rattle.keep_meaning.proofs.FirstKeyLemmas.{first_node_kind, first_place}
use Rattle.keep_meaning.proofs.KeyRunLaws.{with_info}
use Rattle.keep_meaning.proofs.LineFoundLaws.{same_node}
use Rattle.keep_meaning.proofs.LineLaws.{after_line, few_before, met_before_line, paths_old}
use Rattle.keep_meaning.proofs.LineNodeLemmas.{infos_of, path_of}
use Rattle.keep_meaning.proofs.LineNumberLemmas.{AllOf, all_left, all_of}
use Rattle.keep_meaning.proofs.MetLemmas.{node_met}
use Rattle.keep_meaning.proofs.NamedLemmas.{Fits, ends, ends_below}
use Rattle.keep_meaning.proofs.RunLaws.{named as named_info}
use Rattle.keep_rules.proofs.AllInfoLemmas.{node_paths-distinct}
use Rattle.keep_rules.proofs.DotLemmas.{IsEarly, IsMarked}
use Rattle.keep_rules.proofs.LookupLemmas.{number_is}
use Rattle.keep_rules.proofs.PathNumberLaws.{number_at}
use Rattle.keep_rules.proofs.DotLemmas.{dots_added}
use Rattle.keep_meaning.specs.Marks.{reading_after}
use Rattle.keep_meaning.specs.Nodes.{nodes_in}
use Rattle.std.proofs.Common.{length-append}
use Rattle.std.proofs.Common.{Option}
use Rattle.keep_meaning.specs.Nodes.{is_root}
use Rattle.keep_rules.proofs.DotLemmas.{AreTables}
use Rattle.keep_path.specs.NodesBelow.{shifted}
use Rattle.std.proofs.Common.{AllPairs}
use Rattle.keep_path.specs.Dots.{with_dots}
use Rattle.keep_meaning.specs.Nodes.{node_info}
use Rattle.keep_meaning.specs.Marks.{start}
use Rattle.keep_meaning.specs.Nodes.{node_path}

-- ---- what new nodes leave as it was

-- a table of dotted keys, by its facts
abbrev IsDot : NodeInfo → Type 0
IsDot i = (w : ℕ) × (i.origin ≡ origin.Dotted w)

dot_numbered : (f g : ℕ → ℕ) (i : NodeInfo) → IsDot i → IsDot (with_numbers f g i)
dot_numbered f g i h = (f h.0, ap (renumbered_origin (λ (s : ℕ). s) f) h.1)

dot_later : (l : LineNumbers) (i : NodeInfo) → IsDot i → IsDot (renumbered later_number l i)
dot_later l i h =
    (later_number l.value h.0, ap (renumbered_origin (later_number l.statement) (later_number l.value)) h.1)

-- a node is put in, and a value at it
module _ (t : NodeInfos) (at : ℕ) (line : LineNumbers) (p : List Part) (x : NodeInfo) (k : Kind) (old new : Totals)
    (inside : NodeInfos) (few : at ≤ length t.paths) (as_many : length t.infos ≡ length t.paths) where
  abbrev with_new : NodeInfos
  with_new = with_value (with_info t at line p x) at 0 old new inside k

  longer : length (insert t.paths at p) ≡ length t.paths + 1
  longer = length-insert t.paths at p few

  taken : length (take (suc at) (insert t.paths at p)) ≡ suc at
  taken = length-take-le (suc at) (insert t.paths at p) (omega (arith, longer, few))

  -- the paths in the value, and those after them
  abbrev after_it : List (List Part)
  after_it =
      map (λ (q : List Part). get_or (insert t.paths at p) at [] ++ q) (drop 1 inside.paths)
      ++ drop (suc at + 0) (insert t.paths at p)

  table_kept : (i : ℕ) → i < at → (i < length with_new.paths) × (get_or with_new.paths i [] ≡ get_or t.paths i [])
  table_kept i low = (
    omega (arith, low, taken, length-append (take (suc at) (insert t.paths at p)) after_it),
    get_or_append_left (take (suc at) (insert t.paths at p)) after_it [] i (omega (arith, low, taken))
        ∙ get_or-take (suc at) (insert t.paths at p) i [] (omega (arith, low))
        ∙ get_or-insert_below t.paths at p [] i low few,
  )

  -- the facts about a node before the new ones
  renumbered_kept : (i : ℕ) → i < at
      → get_or (insert (map (renumbered later_number line) t.infos) at x) i no_info
      ≡ renumbered later_number line (get_or t.infos i no_info)
  renumbered_kept i low =
      let few_infos : at ≤ length (map (renumbered later_number line) t.infos) =
      omega (arith, few, as_many, length-map t.infos (renumbered later_number line)) in
      get_or-insert_below (map (renumbered later_number line) t.infos) at x no_info i low few_infos
      ∙ get_or-map (renumbered later_number line) t.infos i no_info no_info (omega (arith, few, as_many, low))

  dot_kept : (i : ℕ) → i < at → IsDot (get_or t.infos i no_info) → IsDot (get_or with_new.infos i no_info)
  dot_kept i low h =
      subst IsDot (sym is)
      (dot_numbered (shifted (suc (value_of own)) old.values new.values) (shifted (suc (key_of own)) old.keys new.keys)
      (renumbered later_number line (get_or t.infos i no_info))
      (dot_later line (get_or t.infos i no_info) h))
    where
      us : List NodeInfo
      us = (with_info t at line p x).infos

      own : NodeInfo
      own = get_or us at no_info

      set_us : List NodeInfo
      set_us = slice_set us at (record own { kind = k })

      beside : NodeInfo → NodeInfo
      beside = info_beside own old new

      many : length us ≡ length t.infos + 1
      many =
          length-insert (map (renumbered later_number line) t.infos) at x
          (omega (arith, few, as_many, length-map t.infos (renumbered later_number line)))
          ∙ ap (λ (n : ℕ). n + 1) (length-map t.infos (renumbered later_number line))

      front : length (take (suc at) (map beside set_us)) ≡ suc at
      front =
          length-take-le (suc at) (map beside set_us)
          (omega (arith, few, as_many, many, length-map set_us beside, length-set us at (record own { kind = k })))

      is : get_or with_new.infos i no_info ≡ beside (renumbered later_number line (get_or t.infos i no_info))
      is =
          get_or_append_left (take (suc at) (map beside set_us)) _ no_info i (omega (arith, low, front))
          ∙ get_or-take (suc at) (map beside set_us) i no_info (omega (arith, low))
          ∙ get_or-map beside set_us i no_info no_info
          (omega (arith, low, few, as_many, many, length-set us at (record own { kind = k })))
          ∙ ap beside (get_or-set_other us at i (record own { kind = k }) no_info (λ e. omega (arith, low, e))
          ∙ renumbered_kept i low)

-- ---- the document

-- of a path that ends in a key, what is said is said by key parts
some_marked : (c : Count) (q : List Part) → ends q ≡ Some true → (ns : List Numbered) → AllOf Fits (map mention_of ns)
    → list_any (is_at q) (map mention_of ns) ≡ true → IsMarked c ns q
some_marked c q keyed [] fits h = absurd cc
some_marked c q keyed (n ∷ ns) fits h = by (is_at q n.mention) refl h (some_marked c q keyed ns fits.1)
  where
    by : (b : Bool) → is_at q n.mention ≡ b → (b || list_any (is_at q) (map mention_of ns)) ≡ true
        → (list_any (is_at q) (map mention_of ns) ≡ true → IsMarked c ns q)
        → list_any (λ (m : Numbered). is_mark m.mention.kind) (cond b (n ∷ numbered_at q ns) (numbered_at q ns)) ≡ true
    by true e g more =
        let own : Some (is_mark n.mention.kind) ≡ Some true =
        sym fits.0 ∙ ap ends ((path_decides n.mention.path q).0 e) ∙ keyed in
        let marked : is_mark n.mention.kind ≡ true = cc in
        or_left (is_mark n.mention.kind) (list_any (λ (m : Numbered). is_mark m.mention.kind) (numbered_at q ns)) marked
    by false e g more = more g

module _ (d more : Document) (line : HasDotsMore d more) (ids : List ℕ)
    (passed : AreDotted d (nodes_after line.before) (passed_paths line.before line.passed) ids)
    (unsaid : IsUnsaid d (new_path line.before line.passed line.first)) where
  abbrev body : List Part
  body = (reading_after start line.before).body

  abbrev its_count : Count
  its_count = c d more line unsaid

  abbrev its_xs : List Numbered
  its_xs = said_before d more line unsaid

  abbrev its_rest : List Numbered
  its_rest = rest d more line unsaid

  abbrev at : ℕ
  at = nodes_after line.before

  abbrev was : NodeInfos
  was = node_infos d

  abbrev lifted : NodeInfos
  lifted = with_parts_from (numbers_after line.before).key (length line.passed) was

  abbrev now : NodeInfos
  now = infos_of (its_xs ++ its_rest)

  abbrev its_kind : Kind
  its_kind = first_node_kind line.further line.fact

  abbrev its_numbers : LineNumbers
  its_numbers = after_parts (length line.passed) (numbers_after line.before)

  abbrev its_path : List Part
  its_path = new_path line.before line.passed line.first

  -- the facts about the first new key's node, before its value is there
  abbrev its_info : NodeInfo
  its_info = named_info (c' d more line unsaid) (first_place line.further) its_kind

  abbrev inside : NodeInfos
  inside = inside_first d more line unsaid

  abbrev old_totals : Totals
  old_totals = one_more (totals_after_parts (length line.passed) (totals_of d))

  abbrev new_nodes : NodeInfos
  new_nodes = with_value (with_info lifted at its_numbers its_path its_info) at 0 old_totals (totals_of more) inside
      its_kind

  is : now ≡ new_nodes
  is = dots_given d more line unsaid

  few : at ≤ length was.paths
  few = few_before d line.before line.after line.old

  as_many : length was.infos ≡ length was.paths
  as_many = length-map (nodes_in d) node_info ∙ sym (length-map (nodes_in d) node_path)

  abbrev to_lifted : NodeInfo → NodeInfo
  to_lifted = with_numbers (λ v. v) (shifted (numbers_after line.before).key 0 (length line.passed))

  lifted_many : length lifted.infos ≡ length lifted.paths
  lifted_many = length-map was.infos to_lifted ∙ as_many

  distinct : AllPairs (λ p q. p ≢ q) now.paths
  distinct =
      subst (λ (ps : List (List Part)). AllPairs (λ p q. p ≢ q) ps)
      (sym (paths-nodes (its_xs ++ its_rest) (node_paths (map mention_of (its_xs ++ its_rest)))))
      (node_paths-distinct (its_xs ++ its_rest))

  number_kept : (q : List Part) (id : ℕ) → node_number was.paths q ≡ Some id → id < at
      → node_number now.paths q ≡ Some id
  number_kept q id number low =
      let kept =
      table_kept lifted at its_numbers its_path its_info its_kind old_totals (totals_of more) inside few lifted_many id
      low in
      number_at now.paths distinct id q (omega (arith, kept.0, ap (λ (t : NodeInfos). length t.paths) is))
      (ap (λ (t : NodeInfos). get_or t.paths id []) is ∙ kept.1 ∙ (number_is was.paths q id number).1)

  still_dotted : (id : ℕ) → IsDotted d at id → IsDot (get_or now.infos id no_info)
  still_dotted id h =
      subst (λ (t : NodeInfos). IsDot (get_or t.infos id no_info)) (sym is)
      (dot_kept lifted at its_numbers its_path its_info its_kind old_totals (totals_of more) inside few lifted_many id
      h.0
      (subst IsDot (sym (get_or-map to_lifted was.infos id no_info no_info (omega (arith, h.0, few, as_many))))
      (dot_numbered (λ v. v) (shifted (numbers_after line.before).key 0 (length line.passed))
      (get_or was.infos id no_info) h.1)))

  pub numbers_kept : (qs : List (List Part)) (is : List ℕ) → map (node_number was.paths) qs ≡ map Some is
      → All (IsDotted d at) is → map (node_number now.paths) qs ≡ map Some is
  numbers_kept [] [] same h = refl
  numbers_kept [] (i ∷ is) same h = absurd cc
  numbers_kept (q ∷ qs) [] same h = absurd cc
  numbers_kept (q ∷ qs) (i ∷ is) same h =
      let first : node_number was.paths q ≡ Some i = cc in
      let others : map (node_number was.paths) qs ≡ map Some is = cc in
      ap₂ (λ (o : Option ℕ) (l : List (Option ℕ)). o ∷ l)
      (number_kept q i first (All-head (IsDotted d at) i is h).0)
      (numbers_kept qs is others (All-tail (IsDotted d at) i is h))

  tables_kept : (is : List ℕ) → All (IsDotted d at) is → AreTables its_count now.infos is
  tables_kept [] h = tt
  tables_kept (i ∷ is) h =
      (still_dotted i (All-head (IsDotted d at) i is h), tables_kept is (All-tail (IsDotted d at) i is h))

  -- ---- they are named before the line

  fits : AllOf Fits (map mention_of its_xs)
  fits =
      subst (AllOf Fits) (sym (mentions-numbered_from no_count start line.before))
      (sound_from start line.before (all_left IsSoundStatement line.before line.after
      (subst (AllOf IsSoundStatement) line.old (sound_statements d)))).fits

  named : (q : List Part) (id : ℕ) → ends q ≡ Some true → is_root q ≡ false → node_number was.paths q ≡ Some id
      → id < at → IsMarked its_count its_xs q
  named q id keyed root number low =
      let front : List (List Part) = node_paths (map mention_of its_xs) in
      let ys : List (List Part) = map path_of (map mention_of (after_line d line.before line.after line.old)) in
      let within : id < length front =
      omega (arith, low, met_before_line d line.before line.after line.old) in
      let here : get_or front id [] ≡ q =
      sym (same_node front ys id within)
      ∙ ap (λ (l : List (List Part)). get_or l id []) (sym (paths_old d line.before line.after line.old))
      ∙ (number_is was.paths q id number).1 in
      let met : is_node q (map mention_of its_xs) ≡ true =
      sym (node_met q (map mention_of its_xs))
      ∙ list_any_at (same_path q) front id [] within ((path_decides q (get_or front id [])).1 (sym here)) in
      some_marked its_count q keyed its_xs fits
      (sym (ap (λ (b : Bool). b || list_any (is_at q) (map mention_of its_xs)) root) ∙ met)

  not_root : (above : List Part) (x : Part) → is_root (above ++ x ∷ []) ≡ false
  not_root [] x = refl
  not_root (y ∷ above) x = refl

  all_named : (above : List Part) (ks : List (List ℕ)) (is : List ℕ)
      → map (node_number was.paths) (paths_below above ks) ≡ map Some is → All (IsDotted d at) is
      → AllOf (IsMarked its_count its_xs) (paths_below above ks)
  all_named above [] is same h = tt
  all_named above (k ∷ ks) [] same h = absurd cc
  all_named above (k ∷ ks) (i ∷ is) same h =
      let q : List Part = above ++ key k ∷ [] in
      let first : node_number was.paths q ≡ Some i = cc in
      let others : map (node_number was.paths) (paths_below q ks) ≡ map Some is = cc in (
        named q i (ends_below above (key k ∷ []) true refl) (not_root above (key k)) first
            (All-head (IsDotted d at) i is h).0,
        all_named q ks is others (All-tail (IsDotted d at) i is h),
      )

  early : AllOf (IsEarly its_count) its_xs
  early = all_of (IsSaidBefore its_count) (IsEarly its_count) (λ n h. h.values) its_xs (few_said d more line unsaid)

  -- with the nodes of the new keys, and one mention more of each table
  pub dots_more : node_infos more ≡ with_dots (numbers_after line.before).value ids now
  dots_more =
      ap infos_of (dots_numbered d more line unsaid)
      ∙ dots_added its_count body line.passed its_count refl its_xs its_rest early (late_rest d more line unsaid)
      (all_named body line.passed ids passed.numbers passed.dotted) ids
      (numbers_kept (passed_paths line.before line.passed) ids passed.numbers passed.dotted)
      (tables_kept ids passed.dotted)

  nodes_more : line.nested ≡ none
      → node_infos more
      ≡ with_dots (numbers_after line.before).value ids
      (with_keys lifted at its_numbers its_path line.further (fact_kind line.fact)
      (totals_after_parts (length line.passed) (totals_of d)) (totals_of more))
  nodes_more empty = dots_more ∙ ap (with_dots its_count.values ids) (dots_nodes d more line unsaid empty)

  nodes_valued : (v : Value) → line.nested ≡ v.nested
      → node_infos more
      ≡ with_dots (numbers_after line.before).value ids
      (with_valued_keys lifted at its_numbers its_path line.further (fact_kind line.fact) (nodes_in_value v)
      (totals_after_parts (length line.passed) (totals_of d)) (totals_of more))
  nodes_valued v same = dots_more ∙ ap (with_dots its_count.values ids) (dots_valued d more line unsaid v same)

pub dots_add_nodes : DotsAddNodes
dots_add_nodes d more line ids passed unsaid empty = nodes_more d more line ids passed unsaid empty

pub dots_add_value_nodes : DotsAddValueNodes
dots_add_value_nodes d more line ids passed unsaid v same = nodes_valued d more line ids passed unsaid v same
