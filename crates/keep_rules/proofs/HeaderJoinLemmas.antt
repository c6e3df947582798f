-- A header after the end of a document goes through the nodes of the document's index.
--
-- Each key leads to a later node (`child_later`), so the joins are of ascending nodes. A join is what one more mention
-- of its node says (`one_joined`). The kind of a node tells whether a header goes on from the node itself
-- (`through_key`) or from its last element (`past_key`). That is its last child, as the nodes are nested
-- (`last_entered`).
--
-- Theorems: `no_keys_passed`, `through_key` and `past_key`: the keys that have nodes; `table_known` and
-- `element_known`: a whole header `[..]` whose table is there, and `[[..]]` whose array of tables is.
use Rattle.std.proofs.Common.{◌≡◌, ℕ, suc, ◌+◌, ◌-◌, ◌<◌, ◌≤◌, true, false, List, [], ◌∷◌, ◌++◌, length, get_or, map}
use Rattle.std.proofs.Common.{set, take, refl, sym, ap, subst, ◌∙◌, arith, length-append, inl, inr, Option, Some}
use Rattle.std.proofs.Common.{Result, Ok, Err}
use Rattle.std.specs.Global.{Global}
use Rattle.std.specs.Prelude.{OnErr, OnOk, String, slice_get, string_bytes}
use Rattle.std.specs.Result.{is_err}
use Rattle.std.specs.Option.{option_and_then}
use Rattle.std.proofs.lemmas.Bool.{cases_lt}
use Rattle.std.proofs.lemmas.List.{append-nil, length-map, length-take, map-append, take_more}
use Rattle.std.proofs.lemmas.Option.{slice_get-get_or}
use Rattle.keep_types.specs.declared.node.Kind.TheVariants as kind
use Rattle.keep_types.specs.declared.node.NodeInfo.{NodeInfo}
use Rattle.keep_types.specs.declared.node.Origin.TheVariants as origin
use Rattle.keep_types.specs.declared.role.Role.{Role}
use Rattle.keep_syntax.specs.Tree.{Document}
use Rattle.keep_path.specs.NodeInfos.{NodeInfos, no_info}
use Rattle.keep_path.specs.Path.{Part, key, index}
use Rattle.keep_meaning.specs.Counts.{Count, Numbered, count_after, count_with_mention, numbered_mentions}
use Rattle.keep_meaning.specs.Marks.{Mention, element_header, elements_of, entered_path}
use Rattle.keep_meaning.specs.Marks.{header, passed, passing_mentions, past, through}
use Rattle.keep_meaning.specs.Meaning.{mentions_in}
use Rattle.keep_meaning.specs.Nodes.{children, node_number, node_paths}
use Rattle.keep_meaning.specs.StatementsMore.{AreNumbersAtEnd, count_at_end, said_next}
use Rattle.keep_meaning.proofs.Shared.{paths-nodes_in}
use Rattle.keep_index_store.specs.declared.facts.NodeFacts.{NodeFacts}
use Rattle.keep_index_store.specs.declared.tree.joining.Join.{Join}
use Rattle.keep_index_store.specs.Facts.{info_of, joined_info, named_info, passed_info, unnamed_info}
use Rattle.keep_index_store.specs.Growth.{Grows}
use Rattle.keep_index_store.specs.Joined.{AreAscending, joined_all}
use Rattle.keep_index_store.specs.Tree.{TrieInfos, node_infos}
use Rattle.keep_index_store.specs.Trie.{Holding, IsTrie, TrieNode, children_of, link, path_at, paths_of}
use Rattle.keep_index_store.proofs.Shared.{child_at, first, length-paths_of, one_node, path_at-link, path_at-root}
use Rattle.keep_index_store.proofs.Shared.{push_same}
use Rattle.keep_rules.specs.Descents.{descent_mentions, descent_path}
use Rattle.keep_rules.specs.HeaderJoins.{AreUpTo, IsTablesOf, PassesKeys, tables_at_end, with_joins}
use Rattle.keep_rules.specs.MentionInfos.{mention_info, with_info, with_mentions}
use Rattle.keep_rules.specs.ReadDocuments.{IsIndexOf}
use Rattle.keep_rules.proofs.AddedInfoLemmas.{with_info_fresh, with_info_there}
use Rattle.keep_rules.proofs.ElementLemmas.{tables_none, tables_some}
use Rattle.keep_rules.proofs.KeyWalkInfoLemmas.{header_counts}
use Rattle.keep_rules.proofs.LastKeyLemmas.{HasGone, begin_known, define_known, mentions_then}
use Rattle.keep_rules.proofs.KeyWalkLemmas.{descent_mentions-append, descent_path-append}
use Rattle.keep_rules.proofs.LookupLemmas.{count_is, nth_is, number_is, number_some}
use Rattle.keep_rules.proofs.MentionInfoLemmas.{passed_is_info, past_info}
use Rattle.keep_rules.proofs.MentionInfoLemmas.{through_info}
use Rattle.keep_rules.proofs.PassLemmas.{entered-none, entered-some, passing-none, passing-some}

-- ---- ascending nodes

pub up_to_more : (low at next : ℕ) (joins : List Join) (facts : NodeFacts) → AreUpTo low at joins → at < next
    → AreUpTo low next (joins ++ record { id = next; facts = facts } ∷ [])
up_to_more low at next [] facts h later = (omega arith, omega arith)
up_to_more low at next (j ∷ js) facts h later = (h.0, up_to_more (suc j.id) at next js facts h.1 later)

up_to_low : (low at : ℕ) (joins : List Join) → AreUpTo low at joins → low ≤ suc at
up_to_low low at [] h = h
up_to_low low at (j ∷ js) h = omega (arith, h.0, up_to_low (suc j.id) at js h.1)

pub are_ascending : (low at count : ℕ) (joins : List Join) → AreUpTo low at joins → at < count
    → AreAscending low count joins
are_ascending low at count [] h within = tt
are_ascending low at count (j ∷ js) h within =
    (h.0, omega (arith, up_to_low (suc j.id) at js h.1), are_ascending (suc j.id) at count js h.1 within)

-- a child is a later node
pub child_later : (nodes : List TrieNode) → IsTrie nodes → (i j : ℕ) (p : Part) → i < length nodes → j < length nodes
    → path_at nodes j ≡ path_at nodes i ++ p ∷ [] → i < j
child_later nodes trie i j p h g is =
    let d : TrieNode = first nodes trie in
    elim (cases_lt 0 j) [
      | inr none ↦
          let top : j ≡ 0 = omega arith in
          let root : path_at nodes j ≡ [] = ap (path_at nodes) top ∙ path_at-root nodes in
          absurd (omega (arith, ap length (sym root ∙ is), length-append (path_at nodes i) (p ∷ [])))
      | inl low ↦
          let up : (get_or nodes j d).parent < j = trie.parents j d low g in
          let split = push_same _ _ _ _ (sym (path_at-link nodes trie j d low g) ∙ is) in
          let same : (get_or nodes j d).parent ≡ i =
          one_node nodes trie (get_or nodes j d).parent i (omega arith) h split.0 in
          omega (arith, up, same)
    ]

-- ---- what the kind of a node tells

module _ (t : TrieInfos) (trie : IsTrie t.trie) (i : ℕ) (within : i < length t.trie) (info : NodeInfo)
    (there : slice_get t.infos i ≡ Some info) where
  low : i < length (paths_of t.trie)
  low = omega (arith, within, length-paths_of t.trie trie.root)

  pub tables_node : info.kind ≡ kind.Tables → (d : Document) → IsIndexOf d (node_infos t)
      → 0 < elements_of (path_at t.trie i) (tables_at_end d)
  tables_node is d of = tables_some d (node_infos t) of.facts i (path_at t.trie i) info low refl there is

  pub other_node : (info.kind ≡ kind.Tables → ⊥) → (d : Document) → IsIndexOf d (node_infos t)
      → elements_of (path_at t.trie i) (tables_at_end d) ≡ 0
  other_node not d of = tables_none d (node_infos t) of.facts i (path_at t.trie i) info low refl there not

-- ---- one join

joined_all-append : (infos : List NodeInfo) (xs ys : List Join)
    → joined_all infos (xs ++ ys) ≡ joined_all (joined_all infos xs) ys
joined_all-append infos [] ys = refl
joined_all-append infos (x ∷ xs) ys =
    joined_all-append (set infos x.id (joined_info (get_or infos x.id no_info) (info_of x.facts))) xs ys

one_joined : (t : TrieInfos) → IsTrie t.trie → (joins : List Join) (id : ℕ) (facts : NodeFacts) → id < length t.trie
    → with_joins t (joins ++ record { id = id; facts = facts } ∷ [])
    ≡ with_info (with_joins t joins) (path_at t.trie id) (info_of facts)
one_joined t trie joins id facts h =
    ap (λ (is : List NodeInfo). let x : NodeInfos = record { paths = paths_of t.trie; infos = is } in x)
    (joined_all-append t.infos joins (record { id = id; facts = facts } ∷ []))
    ∙ sym (with_info_there (with_joins t joins) (path_at t.trie id) (info_of facts) id trie.distinct
    (omega (arith, h, length-paths_of t.trie trie.root)) refl)

descent_more : (tables : List (List Part)) (ks : List (List ℕ)) (x : List ℕ)
    → descent_mentions tables [] (ks ++ x ∷ []) ≡ descent_mentions tables [] ks
    ++ passing_mentions tables (descent_path tables [] ks ++ key x ∷ [])
descent_more tables ks x =
    descent_mentions-append tables [] ks (x ∷ [])
    ∙ ap (λ w. descent_mentions tables [] ks ++ w)
    (append-nil (passing_mentions tables (descent_path tables [] ks ++ key x ∷ [])))

pub no_keys_passed : (t : TrieInfos) (statement number : ℕ) → IsTrie t.trie → PassesKeys t [] statement number [] 0
no_keys_passed t statement number trie = record {
  within = trie.root;
  ascending = omega arith;
  leads = λ d of. path_at-root t.trie;
  joined = λ d of c keys statements. refl;
}

-- ---- the last element

-- the last child of a node
module _ (t : TrieInfos) (trie : IsTrie t.trie) (child : ℕ) (within : child < length t.trie) (last : ℕ)
    (any : 0 < length (children_of t.trie child))
    (is_last : last ≡ get_or (children_of t.trie child) (length (children_of t.trie child) - 1) 0) where
  child_is : (last < length t.trie) × (child < last)
  child_is =
      let d : TrieNode = first t.trie trie in
      let r = child_at t.trie trie child (length (children_of t.trie child) - 1) d within (omega arith) in
      let low : last < length t.trie = omega (arith, r.nested, is_last) in
      let below : path_at t.trie last ≡ path_at t.trie child
      ++ (link (get_or t.trie (get_or (children_of t.trie child) (length (children_of t.trie child) - 1) 0) d)).1 ∷ [] =
      ap (path_at t.trie) is_last ∙ r.path d in
      (low, child_later t.trie trie child last _ within low below)

  pub last_entered : (d : Document) → IsIndexOf d (node_infos t)
      → 0 < elements_of (path_at t.trie child) (tables_at_end d)
      → path_at t.trie last ≡ entered_path (tables_at_end d) (path_at t.trie child)
  last_entered d of some =
      let e : TrieNode = first t.trie trie in
      let ids : List ℕ = children_of t.trie child in
      let p : List Part = path_at t.trie child in
      let paths : paths_of t.trie ≡ node_paths (mentions_in d) =
      ap (λ (x : NodeInfos). x.paths) of.facts ∙ paths-nodes_in d in
      let found : option_and_then (node_number (paths_of t.trie))
      (slice_get (children p (paths_of t.trie)) (length (children p (paths_of t.trie)) - 1)) ≡ Some last =
      ap (λ (k : ℕ). option_and_then (node_number (paths_of t.trie)) (slice_get (children p (paths_of t.trie)) (k - 1)))
      (count_is t.trie trie child e within)
      ∙ nth_is t.trie trie child (length ids - 1) e within ∙ slice_get-get_or ids (length ids - 1) 0 (omega arith)
      ∙ ap Some (sym is_last) in
      let own : node_number (node_paths (mentions_in d)) p ≡ Some child =
      ap (λ (ps : List (List Part)). node_number ps p) (sym paths) ∙ number_some t.trie trie child within in
      let enters = of.nested.entered p child own some in
      let number_entered : node_number (paths_of t.trie) (entered_path (tables_at_end d) p) ≡ Some last =
      ap (λ (ps : List (List Part)). node_number ps (entered_path (tables_at_end d) p)) paths ∙ sym enters
      ∙ ap (λ (ps : List (List Part)).
      option_and_then (node_number ps) (slice_get (children p ps) (length (children p ps) - 1))) (sym paths) ∙ found in
      (number_is (paths_of t.trie) (entered_path (tables_at_end d) p) last number_entered).1

-- ---- one key more

module _ (t : TrieInfos) (trie : IsTrie t.trie) (joins : List Join) (statement number : ℕ) (keys : List (List ℕ))
    (at : ℕ) (before : PassesKeys t joins statement number keys at) (text : List ℕ) (part : ℕ)
    (numbered : part ≡ number + length keys) (child : ℕ) (within : child < length t.trie)
    (here : path_at t.trie child ≡ path_at t.trie at ++ key text ∷ []) where
  later : at < child
  later = child_later t.trie trie at child (key text) before.within within here

  -- the key's path
  full : (d : Document) → IsIndexOf d (node_infos t)
      → path_at t.trie child ≡ descent_path (tables_at_end d) [] keys ++ key text ∷ []
  full d of = here ∙ ap (λ (p : List Part). p ++ key text ∷ []) (before.leads d of)

  module _ (d : Document) (of : IsIndexOf d (node_infos t)) (c : Count) (first_is : c.keys ≡ number)
      (statement_is : c.statements ≡ statement) where
    abbrev count : Count
    count = count_after c (descent_mentions (tables_at_end d) [] keys)

    key_counted : count.keys ≡ part
    key_counted =
        (header_counts (tables_at_end d) [] keys c).keys ∙ ap (λ (k : ℕ). k + length keys) first_is ∙ sym numbered

    statement_counted : count.statements ≡ statement
    statement_counted = (header_counts (tables_at_end d) [] keys c).statements ∙ statement_is

    abbrev path : List Part
    path = descent_path (tables_at_end d) [] keys ++ key text ∷ []

    -- the facts of what is said of the key's path come after those of the other keys
    after_others : (new : NodeInfos)
        → new ≡ with_mentions (with_joins t joins) (numbered_mentions count (passing_mentions (tables_at_end d) path))
        → new ≡ with_mentions (node_infos t)
        (numbered_mentions c (descent_mentions (tables_at_end d) [] (keys ++ text ∷ [])))
    after_others new e =
        e ∙ ap (λ (s : NodeInfos). with_mentions s (numbered_mentions count (passing_mentions (tables_at_end d) path)))
        (before.joined d of c first_is statement_is)
        ∙ mentions_then (node_infos t) c (descent_mentions (tables_at_end d) [] keys)
        (passing_mentions (tables_at_end d) path)
        ∙ ap (λ (w : List Mention). with_mentions (node_infos t) (numbered_mentions c w))
        (sym (descent_more (tables_at_end d) keys text))

    -- the mention of a node that is no array of tables
    through_said : (facts : NodeFacts) → info_of facts ≡ named_info kind.Table part (origin.Through statement)
        → elements_of path (tables_at_end d) ≡ 0
        → with_joins t (joins ++ record { id = child; facts = facts } ∷ [])
        ≡ with_mentions (with_joins t joins) (numbered_mentions count (passing_mentions (tables_at_end d) path))
    through_said facts info none =
        let n : Numbered = record { mention = record { path = path; kind = through }; before = count } in
        one_joined t trie joins child facts within
        ∙ ap (λ (p : List Part). with_info (with_joins t joins) p (info_of facts)) (full d of)
        ∙ ap (λ (i : NodeInfo). with_info (with_joins t joins) path i)
        (info ∙ ap (λ (s : ℕ). named_info kind.Table part (origin.Through s)) (sym statement_counted)
        ∙ sym (through_info n part refl key_counted))
        ∙ ap (λ (w : List Mention). with_mentions (with_joins t joins) (numbered_mentions count w))
        (sym (passing-none (tables_at_end d) path none))

    -- those of an array of tables and its last element
    past_said : (last : ℕ) (facts more : NodeFacts) → last < length t.trie
        → path_at t.trie last ≡ entered_path (tables_at_end d) path
        → info_of facts ≡ named_info kind.Table part origin.Root → info_of more ≡ passed_info
        → 0 < elements_of path (tables_at_end d)
        → with_joins t ((joins ++ record { id = child; facts = facts } ∷ []) ++ record { id = last; facts = more } ∷ [])
        ≡ with_mentions (with_joins t joins) (numbered_mentions count (passing_mentions (tables_at_end d) path))
    past_said last facts more low entered info info' some =
        let m : Mention = record { path = path; kind = past } in
        let inner : List Part = entered_path (tables_at_end d) path in
        let m' : Mention = record { path = inner; kind = passed } in
        let n : Numbered = record { mention = m; before = count } in
        let n' : Numbered = record { mention = m'; before = count_with_mention count m } in
        one_joined t trie (joins ++ record { id = child; facts = facts } ∷ []) last more low
        ∙ ap (λ (s : NodeInfos). with_info s (path_at t.trie last) (info_of more))
        (one_joined t trie joins child facts within)
        ∙ ap (λ (p : List Part).
        with_info (with_info (with_joins t joins) p (info_of facts)) (path_at t.trie last) (info_of more)) (full d of)
        ∙ ap (λ (p : List Part). with_info (with_info (with_joins t joins) path (info_of facts)) p (info_of more))
        entered
        ∙ ap (λ (i : NodeInfo). with_info (with_info (with_joins t joins) path i) inner (info_of more))
        (info ∙ sym (past_info n part refl key_counted))
        ∙ ap (λ (i : NodeInfo). with_info (with_info (with_joins t joins) path (mention_info n)) inner i)
        (info' ∙ sym (passed_is_info n' refl))
        ∙ ap (λ (w : List Mention). with_mentions (with_joins t joins) (numbered_mentions count w))
        (sym (passing-some (tables_at_end d) path some))

  path_more : (d : Document)
      → entered_path (tables_at_end d) (descent_path (tables_at_end d) [] keys ++ key text ∷ [])
      ≡ descent_path (tables_at_end d) [] (keys ++ text ∷ [])
  path_more d = sym (descent_path-append (tables_at_end d) [] keys (text ∷ []))

  -- it goes on from a node that is no array of tables
  pub through_key : (facts : NodeFacts) → info_of facts ≡ named_info kind.Table part (origin.Through statement)
      → ((d : Document) → IsIndexOf d (node_infos t) → elements_of (path_at t.trie child) (tables_at_end d) ≡ 0)
      → PassesKeys t (joins ++ record { id = child; facts = facts } ∷ []) statement number (keys ++ text ∷ []) child
  through_key facts info none = record {
    within = within;
    ascending = up_to_more 0 at child joins facts before.ascending later;
    leads = λ d of. full d of
        ∙ sym (entered-none (tables_at_end d) (descent_path (tables_at_end d) [] keys ++ key text ∷ [])
        (ap (λ (p : List Part). elements_of p (tables_at_end d)) (sym (full d of)) ∙ none d of)) ∙ path_more d;
    joined = λ d of c k s.
        after_others d of c k s (with_joins t (joins ++ record { id = child; facts = facts } ∷ []))
        (through_said d of c k s facts info
        (ap (λ (p : List Part). elements_of p (tables_at_end d)) (sym (full d of)) ∙ none d of));
  }

  -- and from the last element of an array of tables
  module _ (last : ℕ) (any : 0 < length (children_of t.trie child))
      (is_last : last ≡ get_or (children_of t.trie child) (length (children_of t.trie child) - 1) 0) where
    pub past_key : (facts more : NodeFacts) → info_of facts ≡ named_info kind.Table part origin.Root
        → info_of more ≡ passed_info
        → ((d : Document) → IsIndexOf d (node_infos t) → 0 < elements_of (path_at t.trie child) (tables_at_end d))
        → PassesKeys t ((joins ++ record { id = child; facts = facts } ∷ []) ++ record { id = last; facts = more } ∷ [])
        statement number (keys ++ text ∷ []) last
    past_key facts more info info' some = record {
      within = (child_is t trie child within last any is_last).0;
      ascending =
          up_to_more 0 child last (joins ++ record { id = child; facts = facts } ∷ []) more
          (up_to_more 0 at child joins facts before.ascending later) (child_is t trie child within last any is_last).1;
      leads = λ d of. there d of ∙ path_more d;
      joined = λ d of c k s.
          after_others d of c k s (with_joins t
          ((joins ++ record { id = child; facts = facts } ∷ []) ++ record { id = last; facts = more } ∷ []))
          (past_said d of c k s last facts more (child_is t trie child within last any is_last).0 (there d of) info
          info' (subst (λ (p : List Part). 0 < elements_of p (tables_at_end d)) (full d of) (some d of)));
    }
      where
        there : (d : Document) → (of : IsIndexOf d (node_infos t))
            → path_at t.trie last ≡ entered_path (tables_at_end d) (descent_path (tables_at_end d) [] keys ++ key text
            ∷ [])
        there d of =
            last_entered t trie child within last any is_last d of (some d of)
            ∙ ap (entered_path (tables_at_end d)) (full d of)

-- ---- the keys of the code

pub key_more : (keys : List (String Global)) (i : ℕ) (x : String Global) (text : List ℕ) → i < length keys
    → x ≡ get_or keys i x → text ≡ string_bytes x
    → map string_bytes (take i keys) ++ text ∷ [] ≡ map string_bytes (take (i + 1) keys)
key_more keys i x text h is named =
    ap (λ (t : List ℕ). map string_bytes (take i keys) ++ t ∷ []) (named ∙ ap string_bytes is)
    ∙ sym (map-append string_bytes (take i keys) (get_or keys i x ∷ []))
    ∙ ap (map string_bytes) (sym (take_more keys i x h))

pub keys_so_far : (keys : List (String Global)) (i : ℕ) → i ≤ length keys → length (map string_bytes (take i keys)) ≡ i
keys_so_far keys i h = length-map (take i keys) string_bytes ∙ omega (arith, length-take i keys)

pub all_keys : (keys leading : List (String Global)) (last : String Global) (text : List ℕ)
    → keys ≡ leading ++ last ∷ [] → text ≡ string_bytes last
    → map string_bytes leading ++ text ∷ [] ≡ map string_bytes keys
all_keys keys leading last text whole named =
    ap (λ (t : List ℕ). map string_bytes leading ++ t ∷ []) named ∙ sym (map-append string_bytes leading (last ∷ []))
    ∙ ap (map string_bytes) (sym whole)

-- ---- the last key

pub on_ok : {T E : Type 0} (r : Result T E) (P : Type 0) → is_err r ≡ false → OnOk r P → P
on_ok (Ok x) P e h = h
on_ok (Err x) P e h = absurd cc

pub on_err : {T E : Type 0} (r : Result T E) (P : Type 0) → is_err r ≡ true → OnErr r P → P
on_err (Ok x) P e h = absurd cc
on_err (Err x) P e h = h

-- the new node is not there yet, and these facts are those of one more mention
pub key_added : (old new : TrieInfos) (joins : List Join) (at : ℕ) (p : List Part) (state : Option Role)
    (holds : Holding) (facts : NodeFacts) → Grows old.trie new.trie at p state holds
    → new.infos ≡ joined_all old.infos joins ++ info_of facts ∷ []
    → node_infos new ≡ with_info (with_joins old joins) p (info_of facts)
key_added old new joins at p state holds facts g infos =
    ap (λ (ps : List (List Part)). let x : NodeInfos = record { paths = ps; infos = new.infos } in x) g.paths
    ∙ ap (λ (is : List NodeInfo). let x : NodeInfos = record { paths = paths_of old.trie ++ p ∷ []; infos = is } in x)
    infos
    ∙ sym (with_info_fresh (with_joins old joins) p (info_of facts) g.fresh)

-- the keys but the last have nodes
pub keys_gone : (t : TrieInfos) (joins : List Join) (statement number : ℕ) (keys : List (List ℕ)) (at : ℕ)
    → PassesKeys t joins statement number keys at → (d : Document) → IsIndexOf d (node_infos t)
    → AreNumbersAtEnd d statement number → HasGone d (node_infos t) (with_joins t joins) (path_at t.trie at) keys
keys_gone t joins statement number keys at passes d of numbers = record {
  leads = passes.leads d of;
  said = passes.joined d of (count_at_end d) numbers.keys numbers.statements;
}

-- the whole header `[..]`, where its table is there
pub table_known : (t : TrieInfos) → IsTrie t.trie → (joins : List Join) (statement number : ℕ) (keys : List (List ℕ))
    (at : ℕ) → PassesKeys t joins statement number keys at → (text : List ℕ) (part : ℕ)
    → part ≡ number + length keys → (d : Document) → IsIndexOf d (node_infos t) → AreNumbersAtEnd d statement number
    → (child : ℕ) → child < length t.trie → path_at t.trie child ≡ path_at t.trie at ++ key text ∷ []
    → (facts : NodeFacts) → info_of facts ≡ named_info kind.Table part (origin.Header statement) → (new : NodeInfos)
    → new ≡ with_joins t (joins ++ record { id = child; facts = facts } ∷ [])
    → new ≡ with_mentions (node_infos t) (said_next d (header (keys ++ text ∷ [])))
table_known t trie joins statement number keys at passes text part numbered d of numbers child within here facts info
    new added =
    added ∙ one_joined t trie joins child facts within
    ∙ ap (λ (p : List Part). with_info (with_joins t joins) p (info_of facts)) here
    ∙ ap (λ (i : NodeInfo). with_info (with_joins t joins) (path_at t.trie at ++ key text ∷ []) i) info
    ∙ define_known d (node_infos t) (with_joins t joins) (path_at t.trie at) keys
    (keys_gone t joins statement number keys at passes d of numbers) statement number numbers text part numbered

-- its joins are of ascending nodes
pub table_ascends : (t : TrieInfos) → IsTrie t.trie → (joins : List Join) (statement number : ℕ) (keys : List (List ℕ))
    (at : ℕ) → PassesKeys t joins statement number keys at → (text : List ℕ) (child : ℕ) → child < length t.trie
    → path_at t.trie child ≡ path_at t.trie at ++ key text ∷ [] → (facts : NodeFacts)
    → AreUpTo 0 child (joins ++ record { id = child; facts = facts } ∷ [])
table_ascends t trie joins statement number keys at passes text child within here facts =
    up_to_more 0 at child joins facts passes.ascending
    (child_later t.trie trie at child (key text) passes.within within here)

-- the whole header `[[..]]`, where its array of tables is there
pub element_known : (t : TrieInfos) → IsTrie t.trie → (joins : List Join) (statement number : ℕ) (keys : List (List ℕ))
    (at : ℕ) → PassesKeys t joins statement number keys at → (text : List ℕ) (part : ℕ)
    → part ≡ number + length keys → (d : Document) → IsIndexOf d (node_infos t) → AreNumbersAtEnd d statement number
    → (array : ℕ) → IsTablesOf t (path_at t.trie at ++ key text ∷ []) array → (facts : NodeFacts)
    → info_of facts ≡ named_info kind.Tables part origin.Tables → (new : NodeInfos)
    → new ≡ with_info (with_joins t (joins ++ record { id = array; facts = facts } ∷ []))
    (path_at t.trie array ++ index (length (children_of t.trie array)) ∷ [])
    (unnamed_info kind.Table (origin.Element statement))
    → new ≡ with_mentions (node_infos t) (said_next d (element_header (keys ++ text ∷ [])))
element_known t trie joins statement number keys at passes text part numbered d of numbers array tables facts info new
    added =
    let path : List Part = path_at t.trie at ++ key text ∷ [] in
    let begins : NodeInfo = unnamed_info kind.Table (origin.Element statement) in
    let many : length (children_of t.trie array) ≡ elements_of path (tables_at_end d) =
    sym (tables.counted d of) ∙ ap (λ (p : List Part). elements_of p (tables_at_end d)) tables.here in
    added
    ∙ ap (λ (s : NodeInfos).
    with_info s (path_at t.trie array ++ index (length (children_of t.trie array)) ∷ []) begins)
    (one_joined t trie joins array facts tables.within)
    ∙ ap (λ (p : List Part).
    with_info (with_info (with_joins t joins) p (info_of facts))
    (p ++ index (length (children_of t.trie array)) ∷ []) begins) tables.here
    ∙ ap (λ (i : NodeInfo).
    with_info (with_info (with_joins t joins) path i) (path ++ index (length (children_of t.trie array)) ∷ []) begins)
    info
    ∙ begin_known d (node_infos t) (with_joins t joins) (path_at t.trie at) keys
    (keys_gone t joins statement number keys at passes d of numbers) statement number numbers text part numbered
    (length (children_of t.trie array)) many

-- ---- an array of tables

-- its elements are as many as the `[[..]]` lines with its path, if its last child has the last number
pub tables_are : (t : TrieInfos) → IsTrie t.trie → (array : ℕ) → array < length t.trie → (info : NodeInfo)
    → slice_get t.infos array ≡ Some info → info.kind ≡ kind.Tables
    → (last : ℕ) → 0 < length (children_of t.trie array)
    → last ≡ get_or (children_of t.trie array) (length (children_of t.trie array) - 1) 0
    → path_at t.trie last ≡ path_at t.trie array ++ index (length (children_of t.trie array) - 1) ∷ []
    → (d : Document) → IsIndexOf d (node_infos t)
    → elements_of (path_at t.trie array) (tables_at_end d) ≡ length (children_of t.trie array)
tables_are t trie array within info there is last any is_last here d of =
    let p : List Part = path_at t.trie array in
    let some : 0 < elements_of p (tables_at_end d) = tables_node t trie array within info there is d of in
    let entered : path_at t.trie last ≡ p ++ index (elements_of p (tables_at_end d) - 1) ∷ [] =
    last_entered t trie array within last any is_last d of some ∙ entered-some (tables_at_end d) p some in
    let same : index (elements_of p (tables_at_end d) - 1) ≡ index (length (children_of t.trie array) - 1) =
    (push_same p p (index (elements_of p (tables_at_end d) - 1)) (index (length (children_of t.trie array) - 1))
    (sym entered ∙ here)).1 in
    let numbers : elements_of p (tables_at_end d) - 1 ≡ length (children_of t.trie array) - 1 = cc in
    omega (arith, some, any, numbers)

-- it is a later node than those before it
pub tables_ascend : (t : TrieInfos) → IsTrie t.trie
    → (joins : List Join) (statement number : ℕ) (keys : List (List ℕ)) (at : ℕ)
    → PassesKeys t joins statement number keys at
    → (text : List ℕ) (array : ℕ) → IsTablesOf t (path_at t.trie at ++ key text ∷ []) array → (facts : NodeFacts)
    → AreUpTo 0 array (joins ++ record { id = array; facts = facts } ∷ [])
tables_ascend t trie joins statement number keys at passes text array tables facts =
    up_to_more 0 at array joins facts passes.ascending
    (child_later t.trie trie at array (key text) passes.within tables.within tables.here)
