-- The nodes of a line whose first key has a new path, by lists of what is said: of that key part, then of the others,
-- of which each is below the one before it, and of what is in the value (`run_added`); and without them (`run_taken`).
--
-- The line says a run of mentions at its first key's path and below it, of which nothing else is said. With the first
-- key part alone, as no document says it, there is one node more (`bare_nodes`), after those that are met before the
-- line. From there on there is another run in the place of one (`nodes_given`), and so there is back.
--
-- Theorems: `run_added`, `run_taken`, and where the nodes are: `run_number`, `run_below`. `line_added`, `line_taken`,
-- `line_number` and `line_below` say it of several keys, `key_added` of one with nothing in its value.
use Rattle.std.proofs.Common.{◌≡◌, ℕ, suc, ◌+◌, ◌-◌, ◌≤◌, true, false, List, [], ◌∷◌, ◌++◌, length, map, refl}
use Rattle.std.proofs.Common.{sym, ap, ap₂, subst, ◌∙◌, arith, append-nil, Option, None, Some}
use Rattle.std.specs.Prelude.{drop, fold, take}
use Rattle.std.specs.List.{insert, list_any}
use Rattle.std.proofs.lemmas.Bool.{or_parts}
use Rattle.std.proofs.lemmas.List.{length-map, length-take-le, map-append, take-append-drop}
use Rattle.std.proofs.lemmas.List.Sums.{fold-append}
use Rattle.std.proofs.lemmas.List.Folds.{list_any-append}
use Rattle.keep_types.specs.declared.node.Kind.{Kind}
use Rattle.keep_types.specs.declared.node.Kind.TheVariants as kind
use Rattle.keep_types.specs.declared.node.NodeInfo.{NodeInfo}
use Rattle.keep_types.specs.declared.node.Origin.{Origin}
use Rattle.keep_types.specs.declared.node.Origin.TheVariants as origin
use Rattle.keep_path.specs.NodeInfos.{LineNumbers, NodeInfos, later_number, renumbered, root_infos, with_node}
use Rattle.keep_path.specs.NodeInfos.{with_table, without_node}
use Rattle.keep_path.specs.NodesBelow.{AreBelow, Totals, one_more, with_value}
use Rattle.keep_path.specs.Path.{Part, same_path, strip}
use Rattle.keep_path.proofs.Shared.{path_decides, strip_is}
use Rattle.keep_meaning.specs.Counts.{Count, Numbered, count_with_mention, is_mark, numbered_mentions}
use Rattle.keep_meaning.specs.Fact.{Fact}
use Rattle.keep_meaning.specs.Marks.{Mention, MentionKind, dotted, value as mentions_value}
use Rattle.keep_meaning.specs.Meaning.{keyed_mentions}
use Rattle.keep_meaning.specs.Nodes.{fact_kind, is_at, is_node, is_root, mention_of, mentioned_node, node_info}
use Rattle.keep_meaning.specs.Nodes.{node_number, node_path, node_paths, nodes_of, paths_with}
use Rattle.keep_meaning.specs.OtherValues.{IsApart, IsSaidBefore, IsSaidPast}
use Rattle.keep_meaning.proofs.LineLaws.{node_back, paths_grow}
use Rattle.keep_meaning.proofs.LineNodeLemmas.{infos_of, line_of, node_more, none_in, path_of}
use Rattle.keep_meaning.proofs.LineNumberLemmas.{AllOf, IsHigher, IsLower, all_left, later_numbered}
use Rattle.keep_meaning.proofs.CountLemmas.{paths-nodes}
use Rattle.keep_meaning.proofs.MetLemmas.{node_met}
use Rattle.keep_meaning.proofs.NamedLemmas.{all_map}
use Rattle.keep_meaning.proofs.RunLaws.{IsPlace, Run, below_run, first_number, named, nodes_given, number_kept, past}
use Rattle.keep_meaning.proofs.RunLaws.{shifted_past}
use Rattle.keep_meaning.proofs.RunLemmas.{IsDeeper, IsOfBody, all_said, count_alone, deeper, deeper_keys, said_by_run}

-- ---- what a key part says first

-- A key part says this of its path, after so much: it is a node of this kind, and of this place.
pub record Says (path : List Part) (c : Count) (place : ℕ → Origin) (said : MentionKind) (k : Kind) : Type 0 where
  pub marked : is_mark said ≡ true
  pub stated : node_info (mentioned_node path (record { mention = record { path = path; kind = said }; before = c }
      ∷ [])) ≡ named c place k

pub of_dots : IsPlace origin.Dotted
of_dots = record { moves = λ f v. refl; number = λ i v. refl }

pub says_dots : (path : List Part) (c : Count) → Says path c origin.Dotted dotted kind.Table
says_dots path c = record { marked = refl; stated = refl }

-- with a node of this path, of which these are the facts
abbrev pub with_info : NodeInfos → ℕ → LineNumbers → List Part → NodeInfo → NodeInfos
with_info t at line path i = record {
  paths = insert t.paths at path;
  infos = insert (map (renumbered later_number line) t.infos) at i;
}

-- ---- numbers after more values and key parts

-- v values and n key parts more
abbrev pub with_more : ℕ → ℕ → Count → Count
with_more v n c = record { statements = c.statements; values = (c.values + v) - 0; keys = (c.keys + n) - 0 }

pub same_count : (c d : Count) → c.statements ≡ d.statements → c.values ≡ d.values → c.keys ≡ d.keys → c ≡ d
same_count c d s v k =
    ap (λ (n : ℕ). record { statements = n; values = c.values; keys = c.keys }) s
    ∙ ap₂ (λ (m n : ℕ). record { statements = d.statements; values = m; keys = n }) v k

pub more_with : (v n : ℕ) (c : Count) (m : Mention)
    → count_with_mention (with_more v n c) m ≡ with_more v n (count_with_mention c m)
more_with v n c m =
    same_count (count_with_mention (with_more v n c) m) (with_more v n (count_with_mention c m)) refl (omega arith)
    (omega arith)

taken_back : (v n : ℕ) (ns : List Numbered) → map (shifted_past v n 0 0) (map (shifted_past 0 0 v n) ns) ≡ ns
taken_back v n [] = refl
taken_back v n (m ∷ ns) =
    let values : (((m.before.values + v) - 0) + 0) - v ≡ m.before.values = omega arith in
    let keys : (((m.before.keys + n) - 0) + 0) - n ≡ m.before.keys = omega arith in
    ap₂ (λ (x : Numbered) (xs : List Numbered). x ∷ xs)
    (ap₂ (λ (v k : ℕ).
    record { mention = m.mention; before = record { statements = m.before.statements; values = v; keys = k } }) values
    keys)
    (taken_back v n ns)

-- ---- nothing else is said at the path or below it

apart : (p : List Part) (ns : List Numbered)
    → ((more : List Part) → list_any (is_at (p ++ more)) (map mention_of ns) ≡ false) → AllOf (IsApart p) ns
apart p [] none = tt
apart p (n ∷ ns) none = (
  by (strip p n.mention.path) refl,
  apart p ns (λ more.
      (or_parts (is_at (p ++ more) n.mention) (list_any (is_at (p ++ more)) (map mention_of ns)) (none more)).1),
)
  where
    by : (o : Option (List Part)) → strip p n.mention.path ≡ o → o ≡ None
    by None e = refl
    by (Some more) e =
        let here : is_at (p ++ more) n.mention ≡ true =
        (path_decides n.mention.path (p ++ more)).1 (strip_is p n.mention.path more e) in
        let not : is_at (p ++ more) n.mention ≡ false =
        (or_parts (is_at (p ++ more) n.mention) (list_any (is_at (p ++ more)) (map mention_of ns)) (none more)).0 in
        absurd (let clash : true ≡ false = sym here ∙ not in cc)

-- ---- the lists

-- What is said before a line with the count c, and after it where the line is not there; of the path p, and below it,
-- nothing is said.
module _ (c : Count) (xs ws : List Numbered) (lower : AllOf (IsLower c) xs) (higher : AllOf (IsHigher c) ws)
    (low : AllOf (IsSaidBefore c) xs) (p : List Part)
    (unsaid : (q : List Part) → is_node (p ++ q) (map mention_of xs ++ map mention_of ws) ≡ false) (f : Fact) where
  abbrev at : ℕ
  at = length (node_paths (map mention_of xs))

  abbrev before : NodeInfos
  before = infos_of (xs ++ ws)

  abbrev pub ys : List Numbered
  ys = map later_numbered ws

  fresh : is_node p (map mention_of xs ++ map mention_of ws) ≡ false
  fresh =
      ap (λ (q : List Part). is_node q (map mention_of xs ++ map mention_of ws)) (sym (append-nil p)) ∙ unsaid []

  -- a line of one key
  pub key_added : infos_of (xs ++ record { mention = record { path = p; kind = mentions_value f }; before = c } ∷ ys)
      ≡ with_node before at (line_of c) p (fact_kind f)
  key_added = node_more c xs ws lower higher p (mentions_value f) fresh

  none_of : (q : List Part)
      → (list_any (is_at (p ++ q)) (map mention_of xs) ≡ false)
      × (list_any (is_at (p ++ q)) (map mention_of ws) ≡ false)
  none_of q =
      or_parts (list_any (is_at (p ++ q)) (map mention_of xs)) (list_any (is_at (p ++ q)) (map mention_of ws))
      (sym (list_any-append (is_at (p ++ q)) (map mention_of xs) (map mention_of ws))
      ∙ (or_parts (is_root (p ++ q)) (list_any (is_at (p ++ q)) (map mention_of xs ++ map mention_of ws))
      (unsaid q)).1)

  off_xs : AllOf (IsApart p) xs
  off_xs = apart p xs (λ q. (none_of q).0)

  off_ys : AllOf (IsApart p) ys
  off_ys = all_map (IsApart p) (IsApart p) later_numbered (λ m h. h) ws (apart p ws (λ q. (none_of q).1))

  high : AllOf (IsSaidPast (past c 0 0)) ys
  high =
      all_map (IsHigher c) (IsSaidPast (past c 0 0)) later_numbered
      (λ m h. record { values = omega (arith, h.value); keys = omega (arith, h.key) }) ws higher

  paths_are : before.paths ≡ node_paths (map mention_of xs ++ map mention_of ws)
  paths_are =
      paths-nodes (xs ++ ws) (node_paths (map mention_of (xs ++ ws)))
      ∙ ap node_paths (map-append mention_of xs ws)

  few : at ≤ length before.paths
  few =
      omega (
        arith,
        ap length (paths_are
            ∙ ap (fold paths_with ([] ∷ [])) (map-append path_of (map mention_of xs) (map mention_of ws))
            ∙ fold-append paths_with ([] ∷ []) (map path_of (map mention_of xs)) (map path_of (map mention_of ws))),
        paths_grow (node_paths (map mention_of xs)) (map path_of (map mention_of ws)),
      )

  others : AllOf (λ (q : List Part). same_path p q ≡ false) (take at before.paths)
  others =
      let ps : List (List Part) = before.paths in
      let none : list_any (same_path p) ps ≡ false =
      ap (list_any (same_path p)) paths_are ∙ node_met p (map mention_of xs ++ map mention_of ws) ∙ fresh in
      all_left (λ (q : List Part). same_path p q ≡ false) (take at ps) (drop at ps)
      (subst (AllOf (λ (q : List Part). same_path p q ≡ false)) (sym (take-append-drop at ps)) (none_in p ps none))

  -- A run of the path, where v values and n key parts come after its first mention; and what a key part would say there
  -- alone, of the same place.
  module _ (place : ℕ → Origin) (is_place : IsPlace place) (said alone : MentionKind) (k j : Kind)
      (says : Says p c place said k) (says_alone : Says p c place alone j) (nested : List Mention)
      (deep : AllOf IsDeeper nested) (v n : ℕ) (old new : Totals) (values : new.values ≡ suc old.values + v)
      (keys : new.keys ≡ suc old.keys + n) where
    -- what is said after the line
    abbrev pub zs : List Numbered
    zs = map (shifted_past 0 0 v n) ys

    abbrev bare : Run p c place
    bare = record {
      said = alone;
      marked = says_alone.marked;
      nested = [];
      deep = tt;
      kind = j;
      stated = says_alone.stated;
    }

    abbrev whole : Run p c place
    whole = record {
      said = said;
      marked = says.marked;
      nested = nested;
      deep = deep;
      kind = k;
      stated = says.stated;
    }

    off_zs : AllOf (IsApart p) zs
    off_zs = all_map (IsApart p) (IsApart p) (shifted_past 0 0 v n) (λ m h. h) ys off_ys

    high_zs : AllOf (IsSaidPast (past c v n)) zs
    high_zs =
        all_map (IsSaidPast (past c 0 0)) (IsSaidPast (past c v n)) (shifted_past 0 0 v n)
        (λ m h. record { values = omega (arith, h.values); keys = omega (arith, h.keys) }) ys high

    -- ---- the nodes

    abbrev with_first : NodeInfos
    with_first = with_info before at (line_of c) p (named c place j)

    -- with the first key part alone
    bare_nodes : infos_of (all_said p c alone says_alone.marked [] tt xs ys off_xs off_ys) ≡ with_first
    bare_nodes =
        node_more c xs ws lower higher p alone fresh
        ∙ ap (λ (i : NodeInfo). with_info before at (line_of c) p i) says_alone.stated

    bare_number : node_number (infos_of (all_said p c alone says_alone.marked [] tt xs ys off_xs off_ys)).paths p
        ≡ Some at
    bare_number =
        let ps : List (List Part) = before.paths in
        ap (λ (t : NodeInfos). node_number t.paths p) bare_nodes ∙ first_number p (take at ps) (drop at ps) others
        ∙ ap Some (length-take-le at ps few)

    values_are : new.values + 0 ≡ (one_more old).values + v
    values_are = omega (arith, values)

    keys_are : new.keys + 0 ≡ (one_more old).keys + n
    keys_are = omega (arith, keys)

    -- all that is said with the line
    abbrev pub run_said : List Numbered
    run_said = xs ++ (said_by_run c p said nested ++ zs)

    pub run_added : infos_of run_said
        ≡ with_value with_first at 0 (one_more old) new (infos_of (numbered_mentions (count_alone said) nested)) k
    run_added =
        nodes_given p c place is_place bare whole 0 0 v n xs ys (one_more old) new low high off_xs off_ys values_are
        keys_are at bare_number
        ∙ ap (λ (t : NodeInfos).
        with_value t at 0 (one_more old) new (infos_of (numbered_mentions (count_alone said) nested)) k) bare_nodes

    -- ---- and back

    pub run_number : node_number (infos_of run_said).paths p ≡ Some at
    run_number =
        number_kept p c place is_place bare whole 0 0 v n xs ys (one_more old) new low high off_xs off_ys values_are
        keys_are at bare_number

    abbrev pub run_gone : ℕ
    run_gone = length (deeper (map path_of nested))

    pub run_below : AreBelow (infos_of run_said).paths at run_gone
    run_below =
        below_run p c place is_place whole bare v n 0 0 xs zs new (one_more old) low high_zs off_xs off_zs
        (sym values_are) (sym keys_are) at run_number

    first_left : with_first ≡ with_value (infos_of run_said) at run_gone new (one_more old) root_infos j
    first_left =
        sym bare_nodes
        ∙ ap (λ (ns : List Numbered). infos_of (xs ++ (said_by_run c p alone [] ++ ns))) (sym (taken_back v n ys))
        ∙ nodes_given p c place is_place whole bare v n 0 0 xs zs new (one_more old) low high_zs off_xs off_zs
        (sym values_are) (sym keys_are) at run_number

    pub run_taken : before
        ≡ without_node (with_value (infos_of run_said) at run_gone new (one_more old) root_infos j) at (line_of c)
    run_taken =
        sym (node_back before at (line_of c) p (named c place j) few
        (omega (arith, few, length-map (nodes_of (xs ++ ws)) node_info, length-map (nodes_of (xs ++ ws)) node_path)))
        ∙ ap (λ (t : NodeInfos). without_node t at (line_of c)) first_left

  -- ---- several keys

  -- v values and n key parts come after the first of them
  module _ (next : List ℕ) (further : List (List ℕ)) (inner : List Mention) (body : AllOf IsOfBody inner) (v n : ℕ)
      (old new : Totals) (values : new.values ≡ suc old.values + v) (keys : new.keys ≡ suc old.keys + n) where
    abbrev stated : List Mention
    stated = record { path = []; kind = mentions_value f } ∷ inner

    abbrev pub its_nested : List Mention
    its_nested = keyed_mentions (next ∷ further) stated

    pub its_deep : AllOf IsDeeper its_nested
    its_deep = deeper_keys next further stated (refl, body)

    abbrev pub line_said : List Numbered
    line_said =
        run_said origin.Dotted of_dots dotted dotted kind.Table kind.Table (says_dots p c) (says_dots p c) its_nested
        its_deep v n old new values keys

    pub line_added : infos_of line_said
        ≡ with_value (with_table before at (line_of c) p) at 0 (one_more old) new
        (infos_of (numbered_mentions (count_alone dotted) its_nested)) kind.Table
    line_added =
        run_added origin.Dotted of_dots dotted dotted kind.Table kind.Table (says_dots p c) (says_dots p c) its_nested
        its_deep v n old new values keys

    pub line_number : node_number (infos_of line_said).paths p ≡ Some at
    line_number =
        run_number origin.Dotted of_dots dotted dotted kind.Table kind.Table (says_dots p c) (says_dots p c) its_nested
        its_deep v n old new values keys

    abbrev pub line_gone : ℕ
    line_gone = length (deeper (map path_of its_nested))

    pub line_below : AreBelow (infos_of line_said).paths at line_gone
    line_below =
        run_below origin.Dotted of_dots dotted dotted kind.Table kind.Table (says_dots p c) (says_dots p c) its_nested
        its_deep v n old new values keys

    pub line_taken : before
        ≡ without_node (with_value (infos_of line_said) at line_gone new (one_more old) root_infos kind.Table) at
        (line_of c)
    line_taken =
        run_taken origin.Dotted of_dots dotted dotted kind.Table kind.Table (says_dots p c) (says_dots p c) its_nested
        its_deep v n old new values keys
