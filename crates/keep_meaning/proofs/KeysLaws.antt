-- A line more whose key has several parts, of which the first is new, gives a table for its first key, and below it the
-- nodes of the others (`keys_add_nodes`); without it the nodes are those that were (`keys_take_nodes`).
--
-- The line says a run of mentions at its first key's path and below it (`numbered_more`), so the laws of such lists say
-- what its nodes are.
--
-- Theorems: `keys_add_nodes`, `keys_add_value_nodes`, `keys_take_nodes`, `keys_are_found`; `more_next`: the count after
-- a line of such keys.
use Rattle.std.proofs.Common.{◌≡◌, ℕ, ◌+◌, false, List, [], ◌∷◌, ◌++◌, length, map, refl}
use Rattle.std.proofs.Common.{sym, ap, ap₂, subst, ◌∙◌, arith, Some}
use Rattle.keep_types.specs.declared.node.Kind.TheVariants as kind
use Rattle.keep_syntax.specs.Numbered.{part_count, value_count}
use Rattle.keep_syntax.specs.Tree.{Document, Entries, Value, none}
use Rattle.keep_path.specs.KeysAlone.{keys_alone}
use Rattle.keep_path.specs.NodeInfos.{NodeInfos, root_infos}
use Rattle.keep_path.specs.NodeInfos.{with_table, without_node}
use Rattle.keep_path.specs.NodesBelow.{AreBelow, one_more, with_value}
use Rattle.keep_path.specs.Path.{Part, key}
use Rattle.keep_meaning.specs.Counts.{Count, Numbered, count_from, next_count, no_count, numbered_from, numbered_in}
use Rattle.keep_meaning.specs.Counts.{count_with_mention, numbered_mentions}
use Rattle.keep_meaning.specs.Fact.{Fact}
use Rattle.keep_meaning.specs.KeysMore.{HasKeysMore, IsUnsaid, KeysAddNodes, KeysAddValueNodes, KeysAreFound}
use Rattle.keep_meaning.specs.KeysMore.{KeysTakeNodes, keys_with_value}
use Rattle.keep_meaning.specs.LinesMore.{node_infos, nodes_after, numbers_after, path_after}
use Rattle.keep_meaning.specs.Marks.{Mention, Reading, Statement, below, dotted, keyval, reading_after, start}
use Rattle.keep_meaning.specs.Marks.{value as mentions_value}
use Rattle.keep_meaning.specs.Meaning.{entries_mentions, keyed_mentions, valued_mentions}
use Rattle.keep_meaning.specs.Nodes.{fact_kind, is_node, mention_of, node_number, node_paths}
use Rattle.keep_meaning.specs.OtherValues.{IsSaidBefore, nodes_in_value, totals_of}
use Rattle.keep_meaning.proofs.KeyRunLaws.{line_added, line_below, line_number, line_said, line_taken, more_with}
use Rattle.keep_meaning.proofs.KeyRunLaws.{same_count, with_more}
use Rattle.keep_meaning.proofs.KeyChainLemmas.{below_below, keys_are_alone}
use Rattle.keep_meaning.proofs.KeyValueLemmas.{keys_hold_value}
use Rattle.keep_meaning.proofs.LineFoundLaws.{statement_is_found}
use Rattle.keep_meaning.proofs.LineLaws.{after_higher, after_line, before_line, before_lower}
use Rattle.keep_meaning.proofs.LineLaws.{mentions_old, met_before_line, numbered_old}
use Rattle.keep_meaning.proofs.LineNodeLemmas.{infos_of, line_of, path_of}
use Rattle.keep_meaning.proofs.LineNumberLemmas.{AllOf, IsHigher, IsLower, all_of, few_from, later, later_numbered}
use Rattle.keep_meaning.proofs.LineNumberLemmas.{numbered_later, numbered_other}
use Rattle.keep_meaning.proofs.NumberLemmas.{count_after-keys, count_after-statements, count_after-values}
use Rattle.keep_meaning.proofs.NumberLemmas.{numbered_from-append, valued, valued-below, valued-entries, valued-keyed}
use Rattle.keep_meaning.proofs.PlaceLemmas.{marked, marked-below, marked-entries, marked-keyed}
use Rattle.keep_meaning.proofs.RunLaws.{shifted_past}
use Rattle.keep_meaning.proofs.RunLemmas.{IsDeeper, IsOfBody, count_alone, deeper, deeper_inside}
use Rattle.std.proofs.Common.{suc}

-- ---- a line of several keys

-- after a line of these keys, in any body, with this in its value
pub more_next : (c : Count) (body : List Part) (first : List ℕ) (ks : List (List ℕ)) (f : Fact) (inner : List Mention)
    → next_count c (map (below body) (keyed_mentions (first ∷ ks) (valued_mentions (mentions_value f) inner)))
    ≡ with_more (valued inner) (length ks + marked inner) (later c)
more_next c body first ks f inner =
    same_count (next_count c ms) (with_more (valued inner) (length ks + marked inner) (later c))
    (omega (arith, count_after-statements c ms))
    (omega (arith, count_after-values c ms, valued-below body all, valued-keyed first ks stated))
    (omega (arith, count_after-keys c ms, marked-below body all, marked-keyed first ks stated))
  where
    stated : List Mention
    stated = valued_mentions (mentions_value f) inner

    all : List Mention
    all = keyed_mentions (first ∷ ks) stated

    ms : List Mention
    ms = map (below body) all

-- what is said after a line
pub more_said : (c : Count) (r : Reading) (v n : ℕ) (ss : List Statement)
    → numbered_from (with_more v n (later c)) r ss
    ≡ map (shifted_past 0 0 v n) (map later_numbered (numbered_from c r ss))
more_said c r v n ss =
    numbered_other (with_more v n) (more_with v n) (λ e. refl) (later c) r ss
    ∙ ap (map (shifted_past 0 0 v n)) (numbered_later c r ss)

-- ---- the documents

module _ (d more : Document) (line : HasKeysMore d more) (unsaid : IsUnsaid d (path_after line.before line.first)) where
  abbrev c : Count
  c = count_from no_count start line.before

  abbrev r : Reading
  r = reading_after start line.before

  abbrev p : List Part
  p = path_after line.before line.first

  -- what is in the value, and what is said below the first key
  abbrev inner : List Mention
  inner = entries_mentions 0 line.nested

  abbrev its_nested : List Mention
  its_nested = keyed_mentions (line.next ∷ line.further) (valued_mentions (mentions_value line.fact) inner)

  inner_body : AllOf IsOfBody inner
  inner_body = all_of IsDeeper IsOfBody (λ m h. h.1) inner (deeper_inside 0 line.nested)

  abbrev xs : List Numbered
  xs = before_line d line.before line.after line.old

  abbrev ws : List Numbered
  ws = after_line d line.before line.after line.old

  none_there : (q : List Part) → is_node (p ++ q) (map mention_of xs ++ map mention_of ws) ≡ false
  none_there q = ap (is_node (p ++ q)) (sym (mentions_old d line.before line.after line.old)) ∙ unsaid q

  lower : AllOf (IsLower c) xs
  lower = before_lower d line.before line.after line.old

  higher : AllOf (IsHigher c) ws
  higher = after_higher d line.before line.after line.old

  low : AllOf (IsSaidBefore c) xs
  low = few_from no_count start line.before

  -- how many values and key parts come after the first key
  abbrev v : ℕ
  v = value_count line.nested

  abbrev n : ℕ
  n = length (line.next ∷ line.further) + part_count line.nested

  keys_more : (totals_of more).keys ≡ suc (totals_of d).keys + n
  keys_more = omega (arith, line.keys)

  abbrev said_with : List Numbered
  said_with =
      line_said c xs ws lower higher low p none_there line.fact line.next line.further inner inner_body v n
      (totals_of d) (totals_of more) line.values keys_more

  its_next : next_count c (map (below r.body) (keyed_mentions (line.first ∷ line.next ∷ line.further)
      (valued_mentions (mentions_value line.fact) inner)))
      ≡ with_more v n (later c)
  its_next =
      more_next c r.body line.first (line.next ∷ line.further) line.fact inner
      ∙ ap₂ (λ (a b : ℕ). with_more a (length (line.next ∷ line.further) + b) (later c))
      (valued-entries 0 line.nested) (marked-entries 0 line.nested)

  numbered_more : numbered_in more ≡ said_with
  numbered_more =
      let own : Mention = record { path = p; kind = dotted } in
      ap (numbered_from no_count start) line.new
      ∙ numbered_from-append no_count start line.before
      (keyval (keyed_mentions (line.first ∷ line.next ∷ line.further)
      (valued_mentions (mentions_value line.fact) inner)) ∷ line.after)
      ∙ ap₂ (λ (us vs : List Numbered). xs ++ ((record { mention = own; before = c } ∷ us) ++ vs))
      (ap (numbered_mentions (count_with_mention c own)) (below_below r.body (key line.first ∷ []) its_nested))
      (ap (λ (e : Count). numbered_from e r line.after) its_next ∙ more_said c r v n line.after)

  met : length (node_paths (map mention_of xs)) ≡ nodes_after line.before
  met = met_before_line d line.before line.after line.old

  old_nodes : infos_of (xs ++ ws) ≡ node_infos d
  old_nodes = ap infos_of (sym (numbered_old d line.before line.after line.old))

  -- what is said below the first key, alone
  abbrev said_alone : List Numbered
  said_alone = numbered_mentions (count_alone dotted) its_nested

  abbrev with_nodes : NodeInfos → NodeInfos
  with_nodes u =
      with_value (with_table (node_infos d) (nodes_after line.before) (numbers_after line.before) p)
      (nodes_after line.before) 0 (one_more (totals_of d)) (totals_of more) u kind.Table

  nodes_said : node_infos more ≡ with_nodes (infos_of said_alone)
  nodes_said =
      ap infos_of numbered_more
      ∙ line_added c xs ws lower higher low p none_there line.fact line.next line.further inner inner_body v n
      (totals_of d) (totals_of more) line.values keys_more
      ∙ ap₂ (λ (t : NodeInfos) (at : ℕ).
      with_value (with_table t at (line_of c) p) at 0 (one_more (totals_of d)) (totals_of more) (infos_of said_alone)
      kind.Table) old_nodes met

  nodes_more : line.nested ≡ none
      → node_infos more ≡ with_nodes (keys_alone (line.next ∷ line.further) (fact_kind line.fact))
  nodes_more empty =
      let keys : List (List ℕ) = line.next ∷ line.further in
      nodes_said
      ∙ ap with_nodes
      (ap (λ (es : Entries). infos_of (numbered_mentions (count_alone dotted)
      (keyed_mentions keys (valued_mentions (mentions_value line.fact) (entries_mentions 0 es))))) empty
      ∙ keys_are_alone line.fact line.next line.further)

  value_nodes : (held : Value) → line.nested ≡ held.nested
      → node_infos more
      ≡ with_nodes (keys_with_value (line.next ∷ line.further) (fact_kind line.fact) (nodes_in_value held))
  value_nodes held same =
      let alone : Count = count_alone (mentions_value line.fact) in
      nodes_said
      ∙ ap with_nodes
      (keys_hold_value line.fact inner (deeper_inside 0 line.nested) line.next line.further
      ∙ ap (λ (es : Entries). keys_with_value (line.next ∷ line.further) (fact_kind line.fact)
      (infos_of (numbered_mentions alone (entries_mentions 0 es)))) same)

  abbrev its_gone : ℕ
  its_gone = length (deeper (map path_of its_nested))

  number_more : node_number (node_infos more).paths p ≡ Some (nodes_after line.before)
  number_more =
      ap (λ (ns : List Numbered). node_number (infos_of ns).paths p) numbered_more
      ∙ line_number c xs ws lower higher low p none_there line.fact line.next line.further inner inner_body v n
      (totals_of d) (totals_of more) line.values keys_more
      ∙ ap Some met

  below_more : AreBelow (node_infos more).paths (nodes_after line.before) its_gone
  below_more =
      subst (λ (at : ℕ). AreBelow (node_infos more).paths at its_gone) met
      (subst (λ (ns : List Numbered).
      AreBelow (infos_of ns).paths (length (node_paths (map mention_of xs))) its_gone) (sym numbered_more)
      (line_below c xs ws lower higher low p none_there line.fact line.next line.further inner inner_body v n
      (totals_of d) (totals_of more) line.values keys_more))

  nodes_less : node_infos d
      ≡ without_node (with_value (node_infos more) (nodes_after line.before) its_gone (totals_of more)
      (one_more (totals_of d)) root_infos kind.Table)
      (nodes_after line.before) (numbers_after line.before)
  nodes_less =
      sym old_nodes
      ∙ line_taken c xs ws lower higher low p none_there line.fact line.next line.further inner inner_body v n
      (totals_of d) (totals_of more) line.values keys_more
      ∙ ap₂ (λ (ns : List Numbered) (at : ℕ).
      without_node (with_value (infos_of ns) at its_gone (totals_of more) (one_more (totals_of d)) root_infos
      kind.Table) at (line_of c))
      (sym numbered_more) met

pub keys_add_nodes : KeysAddNodes
keys_add_nodes d more line unsaid empty = nodes_more d more line unsaid empty

pub keys_add_value_nodes : KeysAddValueNodes
keys_add_value_nodes d more line unsaid held same = value_nodes d more line unsaid held same

pub keys_take_nodes : KeysTakeNodes
keys_take_nodes d more line unsaid = (
  number_more d more line unsaid,
  (its_gone d more line unsaid, below_more d more line unsaid, nodes_less d more line unsaid),
)

pub keys_are_found : KeysAreFound
keys_are_found d more line obeys = statement_is_found d line.before line.after line.old obeys
