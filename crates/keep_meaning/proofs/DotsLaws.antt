-- A line more whose key goes on from tables of dotted keys: what it says (`dots_numbered`), and which nodes there are
-- without what its passed keys say (`dots_given`).
--
-- The line says one mention of each passed key, and then what a line of its new keys says, where so many key parts come
-- before it. So without those mentions the document says what a line of new keys adds to one in which the numbers of
-- key parts from the line on are greater by so many (`parts_nodes`).
--
-- Theorems: `dots_numbered`, `dots_given`; `dots_nodes`: with nothing in the value; `dots_taken`: the nodes without
-- those of the new keys; `dots_are_found`.
use Rattle.std.proofs.Common.{◌≡◌, ℕ, suc, ◌+◌, ◌-◌, ◌≤◌, false, List, [], ◌∷◌, ◌++◌, length, map, refl, sym, ap}
use Rattle.std.proofs.Common.{ap₂, ◌∙◌, arith, append_assoc, length-append}
use Rattle.std.proofs.lemmas.List.Sums.{fold-append}
use Rattle.keep_syntax.specs.Numbered.{part_count, value_count}
use Rattle.keep_syntax.specs.Tree.{Document, Entries, Value, none}
use Rattle.keep_path.specs.Dots.{after_parts, totals_after_parts, with_keys as with_key_nodes, with_parts_from}
use Rattle.keep_path.specs.NodeInfos.{NodeInfos}
use Rattle.keep_path.specs.NodesBelow.{Totals, shifted}
use Rattle.keep_path.specs.Path.{Part, key}
use Rattle.keep_meaning.specs.Counts.{Count, Numbered, count_after}
use Rattle.keep_meaning.specs.Counts.{count_from, count_with_mention, next_count, no_count}
use Rattle.keep_meaning.specs.Counts.{numbered_from, numbered_in, numbered_mentions}
use Rattle.keep_meaning.specs.DotsMore.{DotsAreFound, HasDotsMore, new_path, with_valued_keys}
use Rattle.keep_meaning.specs.KeysMore.{IsUnsaid, keys_with_value}
use Rattle.keep_meaning.specs.LinesMore.{node_infos, nodes_after, numbers_after}
use Rattle.keep_meaning.specs.Marks.{Mention, Reading, below, dotted, keyval, reading_after, start}
use Rattle.keep_meaning.specs.Marks.{value as mentions_value}
use Rattle.keep_meaning.specs.Meaning.{entries_mentions, keyed_mentions, valued_mentions}
use Rattle.keep_meaning.specs.Nodes.{fact_kind, is_node, mention_of, node_paths}
use Rattle.keep_meaning.specs.OtherValues.{IsSaidBefore, nodes_in_value, totals_of}
use Rattle.keep_meaning.proofs.CountLemmas.{numbered_mentions-append}
pub use Rattle.keep_meaning.proofs.DotMentionLemmas.{dot_mentions, parts_later}
use Rattle.keep_meaning.proofs.DotMentionLemmas.{count_dots, passed_first}
use Rattle.keep_meaning.proofs.KeyChainLemmas.{keys_are_alone}
use Rattle.keep_meaning.proofs.KeyRunLaws.{key_added, line_added, run_added, run_below, run_number, run_taken}
use Rattle.keep_meaning.proofs.KeyRunLaws.{with_info, with_more}
use Rattle.keep_meaning.proofs.FirstKeyLemmas.{deep_first, first_kind, first_nested, first_node_kind, first_place}
use Rattle.keep_meaning.proofs.FirstKeyLemmas.{first_said, is_first_place, says_first, says_table}
use Rattle.keep_meaning.proofs.KeyValueLemmas.{keys_hold_value}
use Rattle.keep_meaning.proofs.KeysLaws.{more_next, more_said}
use Rattle.keep_meaning.proofs.LineFoundLaws.{statement_is_found}
use Rattle.keep_meaning.proofs.LineLaws.{after_higher, after_line, before_line, before_lower, mentions_old}
use Rattle.keep_meaning.proofs.LineLaws.{met_before_line, numbered_old}
use Rattle.keep_meaning.proofs.LineNodeLemmas.{Renumbering, infos_of, line_of, mentions_later, path_of}
use Rattle.keep_meaning.proofs.LineNodeLemmas.{renumbered_nodes}
use Rattle.keep_meaning.proofs.LineNumberLemmas.{AllOf, IsHigher, IsLower, all_of, few_from, later, later_numbered}
use Rattle.keep_meaning.proofs.LineNumberLemmas.{numbered_other, with_count}
use Rattle.keep_meaning.proofs.NamedLemmas.{all_map}
use Rattle.keep_meaning.proofs.NumberLemmas.{numbered_from-append}
use Rattle.keep_meaning.proofs.NumberLemmas.{valued-entries}
use Rattle.keep_meaning.proofs.PlaceLemmas.{marked-entries}
use Rattle.keep_meaning.proofs.RunLaws.{named, shifted_past}
use Rattle.keep_meaning.proofs.RunLemmas.{IsDeeper, count_alone, deeper, deeper_inside, high_shifts, low_stays}
use Rattle.keep_meaning.proofs.RunLemmas.{said_by_run}
use Rattle.keep_meaning.proofs.LineNumberLemmas.{all_join}
use Rattle.keep_meaning.proofs.LineNumberLemmas.{higher_mentions}
use Rattle.std.proofs.Common.{subst, Some}
use Rattle.keep_types.specs.declared.node.Kind.{Kind}
use Rattle.keep_types.specs.declared.node.Kind.TheVariants as kind
use Rattle.keep_path.specs.NodeInfos.{LineNumbers, root_infos, with_node, with_table, without_node}
use Rattle.keep_path.specs.NodesBelow.{AreBelow, one_more, with_value}
use Rattle.keep_meaning.specs.Fact as fact
use Rattle.keep_meaning.specs.Nodes.{node_number}

-- ---- more key parts

parts_with : (m : ℕ) (c : Count) (n : Mention)
    → count_with_mention (parts_later m c) n ≡ parts_later m (count_with_mention c n)
parts_with m c n =
    let d : Count = count_with_mention (parts_later m c) n in
    let keys : d.keys ≡ (count_with_mention c n).keys + m = omega arith in
    ap (λ (k : ℕ). record { statements = c.statements; values = d.values; keys = k }) keys

-- the numbers of key parts from a count on are others
abbrev parts_from : (c : Count) (m : ℕ) → Renumbering c
parts_from c m = record {
  count = parts_later m;
  statement = λ s. s;
  value = λ v. v;
  key = shifted c.keys 0 m;
  statement_stays = λ n h. refl;
  value_stays = λ n h. refl;
  key_stays = λ n h. low_stays c.keys 0 m n h;
  statement_grows = λ d h. refl;
  value_grows = λ d h. refl;
  key_grows = λ d h. parts_grow d.keys h;
}
  where
    parts_grow : (n : ℕ) → c.keys ≤ n → n + m ≡ shifted c.keys 0 m n
    parts_grow n h = let same : n + m ≡ (n + m) - 0 = omega arith in same ∙ sym (high_shifts c.keys 0 m n h)

none_shifted : (ns : List Numbered) → map (shifted_past 0 0 0 0) ns ≡ ns
none_shifted [] = refl
none_shifted (m ∷ ns) =
    let values : (m.before.values + 0) - 0 ≡ m.before.values = omega arith in
    let keys : (m.before.keys + 0) - 0 ≡ m.before.keys = omega arith in
    ap₂ (λ (x : Numbered) (xs : List Numbered). x ∷ xs)
    (ap₂ (λ (v k : ℕ).
    record { mention = m.mention; before = record { statements = m.before.statements; values = v; keys = k } }) values
    keys)
    (none_shifted ns)

-- Among the nodes u the one of this path has the number `at`, and the nodes are `was` once it and those below it go.
pub record AreTaken (u was : NodeInfos) (path : List Part) (at : ℕ) (line : LineNumbers) (old new : Totals) : Type 0
  where
    pub number : node_number u.paths path ≡ Some at
    pub gone : ℕ
    pub below : AreBelow u.paths at gone
    pub back : was ≡ without_node (with_value u at gone old new root_infos kind.Table) at line

-- ---- the documents

module _ (d more : Document) (line : HasDotsMore d more)
    (unsaid : IsUnsaid d (new_path line.before line.passed line.first)) where
  abbrev pub c : Count
  c = count_from no_count start line.before

  abbrev r : Reading
  r = reading_after start line.before

  abbrev m : ℕ
  m = length line.passed

  -- what comes before the line's new keys
  abbrev pub c' : Count
  c' = parts_later m c

  abbrev at : List Part
  at = r.body ++ map key line.passed

  abbrev p : List Part
  p = new_path line.before line.passed line.first

  abbrev pub xs : List Numbered
  xs = before_line d line.before line.after line.old

  abbrev ws : List Numbered
  ws = after_line d line.before line.after line.old

  abbrev later_ws : List Numbered
  later_ws = map (with_count (parts_later m)) ws

  abbrev ys : List Numbered
  ys = map later_numbered later_ws

  -- what is in the value
  abbrev inner : List Mention
  inner = entries_mentions 0 line.nested

  abbrev stated : List Mention
  stated = valued_mentions (mentions_value line.fact) inner

  -- how many values and key parts come after the first new key, where so many keys do
  abbrev v : ℕ
  v = value_count line.nested

  abbrev parts_after : List (List ℕ) → ℕ
  parts_after further = length further + part_count line.nested

  -- what the passed keys say
  abbrev pub ds : List Numbered
  ds = numbered_mentions c (dot_mentions r.body line.passed)

  -- what the line's new keys say, and what comes after
  abbrev said_by : List (List ℕ) → List Numbered
  said_by further =
      said_by_run c' p (first_kind further line.fact) (first_nested further line.fact inner)
      ++ map (shifted_past 0 0 v (parts_after further)) ys

  abbrev pub rest : List Numbered
  rest = said_by line.further

  -- ---- what is said

  abbrev its_mentions : List Mention
  its_mentions = map (below r.body) (keyed_mentions (line.passed ++ line.first ∷ line.further) stated)

  abbrev its_last : List Mention
  its_last = map (below at) (keyed_mentions (line.first ∷ line.further) stated)

  its_are : its_mentions ≡ dot_mentions r.body line.passed ++ its_last
  its_are = passed_first r.body line.passed line.first line.further stated

  next_is : next_count c its_mentions ≡ with_more v (parts_after line.further) (later c')
  next_is =
      ap (next_count c) its_are
      ∙ ap (λ (e : Count). record { statements = e.statements + 1; values = e.values; keys = e.keys })
      (fold-append count_with_mention c (dot_mentions r.body line.passed) its_last
      ∙ ap (λ (e : Count). count_after e its_last) (count_dots c r.body line.passed))
      ∙ more_next c' at line.first line.further line.fact inner
      ∙ ap₂ (λ (a b : ℕ). with_more a (length line.further + b) (later c')) (valued-entries 0 line.nested)
      (marked-entries 0 line.nested)

  pub dots_numbered : numbered_in more ≡ xs ++ (ds ++ rest)
  dots_numbered =
      ap (numbered_from no_count start) line.new
      ∙ numbered_from-append no_count start line.before
      (keyval (keyed_mentions (line.passed ++ line.first ∷ line.further) stated) ∷ line.after)
      ∙ ap₂ (λ (us vs : List Numbered). xs ++ (us ++ vs))
      (ap (numbered_mentions c) its_are ∙ numbered_mentions-append c (dot_mentions r.body line.passed) its_last
      ∙ ap (λ (e : Count). ds ++ numbered_mentions e its_last) (count_dots c r.body line.passed))
      (ap (λ (e : Count). numbered_from e r line.after) next_is
      ∙ more_said c' r v (parts_after line.further) line.after
      ∙ ap (λ (l : List Numbered). map (shifted_past 0 0 v (parts_after line.further)) (map later_numbered l))
      (numbered_other (parts_later m) (parts_with m) (λ e. refl) c r line.after))
      ∙ ap (λ (l : List Numbered). xs ++ l)
      (append_assoc ds (numbered_mentions c' its_last) (map (shifted_past 0 0 v (parts_after line.further)) ys)
      ∙ ap (λ (ms : List Mention).
      ds ++ (numbered_mentions c' ms ++ map (shifted_past 0 0 v (parts_after line.further)) ys))
      (first_said at line.first line.further line.fact inner))

  -- ---- the nodes of the new keys

  lower : AllOf (IsLower c) xs
  lower = before_lower d line.before line.after line.old

  higher : AllOf (IsHigher c) ws
  higher = after_higher d line.before line.after line.old

  lower' : AllOf (IsLower c') xs
  lower' =
      all_of (IsLower c) (IsLower c')
      (λ n h. record { statement = h.statement; value = h.value; key = λ e. omega (arith, h.key e) }) xs lower

  higher' : AllOf (IsHigher c') later_ws
  higher' =
      all_map (IsHigher c) (IsHigher c') (with_count (parts_later m))
      (λ n h. record { statement = h.statement; value = h.value; key = omega (arith, h.key) }) ws higher

  pub few_said : AllOf (IsSaidBefore c) xs
  few_said = few_from no_count start line.before

  few' : AllOf (IsSaidBefore c') xs
  few' =
      all_of (IsSaidBefore c) (IsSaidBefore c') (λ n h. record { values = h.values; keys = omega (arith, h.keys) }) xs
      few_said

  none_there : (q : List Part) → is_node (p ++ q) (map mention_of xs ++ map mention_of later_ws) ≡ false
  none_there q =
      ap (λ (l : List Mention). is_node (p ++ q) (map mention_of xs ++ l)) (mentions_later (parts_later m) ws)
      ∙ ap (is_node (p ++ q)) (sym (mentions_old d line.before line.after line.old)) ∙ unsaid q

  parts_nodes : infos_of (xs ++ later_ws) ≡ with_parts_from c.keys m (node_infos d)
  parts_nodes =
      renumbered_nodes c (parts_from c m) xs ws lower higher
      ∙ ap (λ (t : NodeInfos). with_parts_from c.keys m t)
      (ap infos_of (sym (numbered_old d line.before line.after line.old)))

  met : length (node_paths (map mention_of xs)) ≡ nodes_after line.before
  met = met_before_line d line.before line.after line.old

  abbrev old_totals : Totals
  old_totals = totals_after_parts m (totals_of d)

  keys_are : (totals_of more).keys ≡ suc old_totals.keys + parts_after line.further
  keys_are = omega (arith, line.keys, length-append line.passed (line.first ∷ line.further))

  abbrev lifted : NodeInfos
  lifted = with_parts_from c.keys m (node_infos d)

  abbrev its_numbers : LineNumbers
  its_numbers = after_parts m (numbers_after line.before)

  its_deep : (further : List (List ℕ)) → AllOf IsDeeper (first_nested further line.fact inner)
  its_deep further = deep_first further line.fact inner (deeper_inside 0 line.nested)

  -- with the first new key alone
  abbrev pub with_first : NodeInfos → NodeInfos
  with_first t =
      with_info t (nodes_after line.before) its_numbers p
      (named c' (first_place line.further) (first_node_kind line.further line.fact))

  -- what is said below it, alone
  abbrev pub inside_first : NodeInfos
  inside_first =
      infos_of (numbered_mentions (count_alone (first_kind line.further line.fact))
      (first_nested line.further line.fact inner))

  pub dots_given : infos_of (xs ++ rest)
      ≡ with_value (with_first lifted) (nodes_after line.before) 0 (one_more old_totals) (totals_of more)
      inside_first (first_node_kind line.further line.fact)
  dots_given =
      run_added c' xs later_ws lower' higher' few' p none_there line.fact (first_place line.further)
      (is_first_place line.further) (first_kind line.further line.fact) (first_kind line.further line.fact)
      (first_node_kind line.further line.fact) (first_node_kind line.further line.fact)
      (says_first p c' line.further line.fact) (says_first p c' line.further line.fact)
      (first_nested line.further line.fact inner) (its_deep line.further) v (parts_after line.further) old_totals
      (totals_of more) line.values keys_are
      ∙ ap₂ (λ (t : NodeInfos) (n : ℕ).
      with_value (with_info t n (line_of c') p
      (named c' (first_place line.further) (first_node_kind line.further line.fact))) n 0
      (one_more old_totals) (totals_of more) inside_first (first_node_kind line.further line.fact)) parts_nodes met

  -- ---- with this in the value

  valued_by : (further : List (List ℕ)) (held : Value) → line.nested ≡ held.nested
      → with_value (with_info lifted (nodes_after line.before) its_numbers p
      (named c' (first_place further) (first_node_kind further line.fact))) (nodes_after line.before) 0
      (one_more old_totals) (totals_of more)
      (infos_of (numbered_mentions (count_alone (first_kind further line.fact)) (first_nested further line.fact inner)))
      (first_node_kind further line.fact)
      ≡ with_valued_keys lifted (nodes_after line.before) its_numbers p further (fact_kind line.fact)
      (nodes_in_value held) old_totals (totals_of more)
  valued_by [] held same =
      ap (λ (es : Entries).
      with_value (with_node lifted (nodes_after line.before) its_numbers p (fact_kind line.fact))
      (nodes_after line.before) 0 (one_more old_totals) (totals_of more)
      (infos_of (numbered_mentions (count_alone (mentions_value line.fact)) (entries_mentions 0 es)))
      (fact_kind line.fact)) same
  valued_by (k ∷ ks) held same =
      ap (λ (u : NodeInfos).
      with_value (with_table lifted (nodes_after line.before) its_numbers p) (nodes_after line.before) 0
      (one_more old_totals) (totals_of more) u kind.Table)
      (keys_hold_value line.fact inner (deeper_inside 0 line.nested) k ks
      ∙ ap (λ (es : Entries). keys_with_value (k ∷ ks) (fact_kind line.fact)
      (infos_of (numbered_mentions (count_alone (mentions_value line.fact)) (entries_mentions 0 es)))) same)

  pub dots_valued : (held : Value) → line.nested ≡ held.nested
      → infos_of (xs ++ rest)
      ≡ with_valued_keys (with_parts_from c.keys m (node_infos d)) (nodes_after line.before)
      (after_parts m (numbers_after line.before)) p line.further (fact_kind line.fact) (nodes_in_value held) old_totals
      (totals_of more)
  dots_valued held same = dots_given ∙ valued_by line.further held same

  -- ---- with nothing in the value

  abbrev said_alone : List (List ℕ) → List Numbered
  said_alone further =
      said_by_run c' p (first_kind further line.fact) (first_nested further line.fact [])
      ++ map (shifted_past 0 0 0 (length further + 0)) ys

  nodes_by : (further : List (List ℕ)) → (totals_of more).values ≡ suc old_totals.values
      → (totals_of more).keys ≡ suc old_totals.keys + length further
      → infos_of (xs ++ said_alone further)
      ≡ with_key_nodes lifted (nodes_after line.before) its_numbers p further (fact_kind line.fact) old_totals
      (totals_of more)
  nodes_by [] values keys =
      ap (λ (l : List Numbered).
      infos_of (xs ++ record { mention = record { path = p; kind = mentions_value line.fact }; before = c' } ∷ l))
      (none_shifted ys)
      ∙ key_added c' xs later_ws lower' higher' few' p none_there line.fact
      ∙ ap₂ (λ (t : NodeInfos) (n : ℕ).
      with_key_nodes t n (line_of c') p [] (fact_kind line.fact) old_totals (totals_of more)) parts_nodes met
  nodes_by (k ∷ ks) values keys =
      line_added c' xs later_ws lower' higher' few' p none_there line.fact k ks [] tt 0 (length (k ∷ ks) + 0) old_totals
      (totals_of more) (omega (arith, values)) (omega (arith, keys))
      ∙ ap₂ (λ (t : NodeInfos) (n : ℕ).
      with_value (with_table t n (line_of c') p) n 0 (one_more old_totals) (totals_of more)
      (infos_of (numbered_mentions (count_alone dotted) (keyed_mentions (k ∷ ks)
      (valued_mentions (mentions_value line.fact) [])))) kind.Table) parts_nodes met
      ∙ ap (λ (u : NodeInfos).
      with_value (with_table lifted (nodes_after line.before) its_numbers p) (nodes_after line.before) 0
      (one_more old_totals) (totals_of more) u kind.Table) (keys_are_alone line.fact k ks)

  said_by_none : line.nested ≡ none → rest ≡ said_alone line.further
  said_by_none empty =
      ap (λ (es : Entries).
      said_by_run c' p (first_kind line.further line.fact)
      (first_nested line.further line.fact (entries_mentions 0 es))
      ++ map (shifted_past 0 0 (value_count es) (length line.further + part_count es)) ys) empty

  pub dots_nodes : line.nested ≡ none
      → infos_of (xs ++ rest)
      ≡ with_key_nodes (with_parts_from c.keys m (node_infos d)) (nodes_after line.before)
      (after_parts m (numbers_after line.before)) p line.further (fact_kind line.fact) old_totals (totals_of more)
  dots_nodes empty =
      ap (λ (l : List Numbered). infos_of (xs ++ l)) (said_by_none empty)
      ∙ nodes_by line.further (omega (arith, line.values, ap value_count empty))
      (omega (arith, keys_are, ap part_count empty))

  -- ---- and back

  abbrev AreGone : NodeInfos → Type 0
  AreGone u =
      AreTaken u lifted p (nodes_after line.before) its_numbers (totals_of more) (one_more old_totals)

  abbrev its_gone : ℕ
  its_gone = length (deeper (map path_of (first_nested line.further line.fact inner)))

  pub dots_taken : AreGone (infos_of (xs ++ rest))
  dots_taken = record {
    number = run_number c' xs later_ws lower' higher' few' p none_there line.fact (first_place line.further)
        (is_first_place line.further) (first_kind line.further line.fact) (first_kind line.further fact.table)
        (first_node_kind line.further line.fact) kind.Table (says_first p c' line.further line.fact)
        (says_table p c' line.further) (first_nested line.further line.fact inner) (its_deep line.further) v
        (parts_after line.further) old_totals (totals_of more) line.values keys_are
        ∙ ap Some met;
    gone = its_gone;
    below = subst (λ (n : ℕ). AreBelow (infos_of (xs ++ rest)).paths n its_gone) met
        (run_below c' xs later_ws lower' higher' few' p none_there line.fact (first_place line.further)
        (is_first_place line.further) (first_kind line.further line.fact) (first_kind line.further fact.table)
        (first_node_kind line.further line.fact) kind.Table (says_first p c' line.further line.fact)
        (says_table p c' line.further) (first_nested line.further line.fact inner) (its_deep line.further) v
        (parts_after line.further) old_totals (totals_of more) line.values keys_are);
    back = sym parts_nodes
        ∙ run_taken c' xs later_ws lower' higher' few' p none_there line.fact (first_place line.further)
        (is_first_place line.further) (first_kind line.further line.fact) (first_kind line.further fact.table)
        (first_node_kind line.further line.fact) kind.Table (says_first p c' line.further line.fact)
        (says_table p c' line.further) (first_nested line.further line.fact inner) (its_deep line.further) v
        (parts_after line.further) old_totals (totals_of more) line.values keys_are
        ∙ ap (λ (n : ℕ).
        without_node (with_value (infos_of (xs ++ rest)) n its_gone (totals_of more) (one_more old_totals) root_infos
        kind.Table) n (line_of c')) met;
  }

  -- ---- what comes after the passed keys has no lower number of a value

  abbrev pub IsLate : Numbered → Type 0
  IsLate n = c.values ≤ n.before.values

  late_ys : AllOf IsLate ys
  late_ys =
      all_map (IsHigher c') IsLate later_numbered (λ n h. let low : c.values ≤ n.before.values = h.value in omega (
        arith,
        low,
      )) later_ws higher'

  pub late_rest : AllOf IsLate rest
  late_rest =
      let run : List Mention = record { path = p; kind = first_kind line.further line.fact }
      ∷ map (below p) (first_nested line.further line.fact inner) in
      let after : Numbered → Numbered = shifted_past 0 0 v (parts_after line.further) in
      all_join IsLate (numbered_mentions c' run) (map after ys)
      (all_of (IsHigher c') IsLate (λ n h. h.value) (numbered_mentions c' run)
      (higher_mentions c' c' run
      (record { statement = omega arith; value = omega arith; key = omega arith })))
      (all_map IsLate IsLate after (λ n h. omega (arith, h)) ys late_ys)

pub dots_are_found : DotsAreFound
dots_are_found d more line obeys = statement_is_found d line.before line.after line.old obeys
