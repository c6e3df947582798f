-- A header after the end of a document, of which the keys from one on have no node yet.
--
-- Below a path without a node there is none, so no `[[..]]` line has such a path (`none_below`), and the header goes
-- through each of its further keys as through a table. By induction over these keys, what their new nodes are known by
-- is what the header says of them (`through_said`), and is what the new nodes in the tree have (`through_are`). What
-- the last key says comes after that.
--
-- Theorems: `tables_known` and `array_known`: a whole header `[..]` and `[[..]]`.
use Rattle.std.proofs.Common.{◌≡◌, ◌≢◌, ℕ, suc, ◌+◌, List, [], ◌∷◌, ◌++◌, length, get_or, refl, sym, ap, subst, ◌∙◌}
use Rattle.std.proofs.Common.{arith, length-append, Option, None, Some}
use Rattle.std.specs.Prelude.{AllPairs, Contains, IfSome, IsSome}
use Rattle.std.proofs.lemmas.List.{append-nil, append_assoc, get_or_append_left}
use Rattle.keep_types.specs.declared.node.Kind.{Kind}
use Rattle.keep_types.specs.declared.node.Kind.TheVariants as kind
use Rattle.keep_types.specs.declared.node.NodeInfo.{NodeInfo}
use Rattle.keep_types.specs.declared.node.Origin.{Origin}
use Rattle.keep_types.specs.declared.node.Origin.TheVariants as origin
use Rattle.keep_syntax.specs.Tree.{Document}
use Rattle.keep_path.specs.NodeInfos.{NodeInfos}
use Rattle.keep_path.specs.Path.{Part, index, key}
use Rattle.keep_meaning.specs.Counts.{Count, Numbered, count_after, count_with_mention, numbered_mentions}
use Rattle.keep_meaning.specs.Marks.{Mention, element_header, elements_of, header, passing_mentions, through}
use Rattle.keep_meaning.specs.StatementsMore.{AreNumbersAtEnd, count_at_end, said_next}
use Rattle.keep_index_store.specs.declared.facts.NodeFacts.{NodeFacts}
use Rattle.keep_index_store.specs.declared.tree.joining.HeaderFacts.{HeaderFacts}
use Rattle.keep_index_store.specs.declared.tree.joining.Join.{Join}
use Rattle.keep_index_store.specs.Facts.{info_of, named_info, unnamed_info}
use Rattle.keep_index_store.specs.KeysBelow.{element_infos, element_paths, first_key, infos_below, next_facts}
use Rattle.keep_index_store.specs.KeysBelow.{path_below, paths_below}
use Rattle.keep_index_store.specs.Tree.{TrieInfos, node_infos}
use Rattle.keep_index_store.specs.Trie.{IsTrie, path_at, paths_of}
use Rattle.keep_index_store.proofs.Shared.{closed}
use Rattle.keep_rules.specs.Descents.{descent_mentions, descent_path}
use Rattle.keep_rules.specs.HeaderJoins.{AddsHeader, IsThrough, PassesKeys, tables_at_end, with_joins, with_through}
use Rattle.keep_rules.specs.MentionInfos.{mention_info, with_info, with_mentions}
use Rattle.keep_rules.specs.ReadDocuments.{IsIndexOf}
use Rattle.keep_rules.proofs.AddedInfoLemmas.{with_info_fresh}
use Rattle.keep_rules.proofs.ElementLemmas.{tables_unmet}
use Rattle.keep_rules.proofs.HeaderJoinLemmas.{keys_gone}
use Rattle.keep_rules.proofs.KeyWalkInfoLemmas.{header_counts}
use Rattle.keep_rules.proofs.KeyWalkLemmas.{descent_mentions-append, descent_path-append}
use Rattle.keep_rules.proofs.LastKeyLemmas.{HasGone, begin_known, define_known, mentions_then}
use Rattle.keep_rules.proofs.MentionInfoLemmas.{through_info}
use Rattle.keep_rules.proofs.PassLemmas.{entered-none, passing-none}

-- ---- what the header says of the new tables

-- no `[[..]]` line has a path at or below the first of these keys
abbrev HasNone : List (List Part) → List Part → List (List ℕ) → List ℕ → Type 0
HasNone tables path leading last =
    (more : List Part) → elements_of ((path ++ key (first_key leading last) ∷ []) ++ more) tables ≡ 0

none_further : (tables : List (List Part)) (path : List Part) (k : List ℕ) (ks : List (List ℕ)) (last : List ℕ)
    → HasNone tables path (k ∷ ks) last → HasNone tables (path ++ key k ∷ []) ks last
none_further tables path k ks last none = λ more.
    ap (λ (p : List Part). elements_of p tables)
    (append_assoc (path ++ key k ∷ []) (key (first_key ks last) ∷ []) more)
    ∙ none (key (first_key ks last) ∷ more)

none_here : (tables : List (List Part)) (path : List Part) (leading : List (List ℕ)) (last : List ℕ)
    → HasNone tables path leading last
    → elements_of (path ++ key (first_key leading last) ∷ []) tables ≡ 0
none_here tables path leading last none =
    ap (λ (p : List Part). elements_of p tables) (sym (append-nil (path ++ key (first_key leading last) ∷ [])))
    ∙ none []

-- so none has the header's own path
none_last : (tables : List (List Part)) (path : List Part) (leading : List (List ℕ)) (last : List ℕ)
    → HasNone tables path leading last → elements_of (path_below path leading ++ key last ∷ []) tables ≡ 0
none_last tables path [] last none = none_here tables path [] last none
none_last tables path (k ∷ ks) last none =
    none_last tables (path ++ key k ∷ []) ks last (none_further tables path k ks last none)

through_path : (tables : List (List Part)) (path : List Part) (leading : List (List ℕ)) (last : List ℕ)
    → HasNone tables path leading last → descent_path tables path leading ≡ path_below path leading
through_path tables path [] last none = refl
through_path tables path (k ∷ ks) last none =
    let q : List Part = path ++ key k ∷ [] in
    ap (λ (p : List Part). descent_path tables p ks)
    (entered-none tables q (none_here tables path (k ∷ ks) last none))
    ∙ through_path tables q ks last (none_further tables path k ks last none)

through_said : (s : NodeInfos) (tables : List (List Part)) (path : List Part) (part statement : ℕ)
    (leading : List (List ℕ)) (last : List ℕ) (c : Count) → HasNone tables path leading last → c.keys ≡ part
    → c.statements ≡ statement
    → with_through s path part statement leading
    ≡ with_mentions s (numbered_mentions c (descent_mentions tables path leading))
through_said s tables path part statement [] last c none keys statements = refl
through_said s tables path part statement (k ∷ ks) last c none keys statements =
    let q : List Part = path ++ key k ∷ [] in
    let m : Mention = record { path = q; kind = through } in
    let n : Numbered = record { mention = m; before = c } in
    let zero : elements_of q tables ≡ 0 = none_here tables path (k ∷ ks) last none in
    let here : NodeInfo = named_info kind.Table part (origin.Through statement) in
    let here_is : here ≡ mention_info n =
    ap (λ (x : ℕ). named_info kind.Table part (origin.Through x)) (sym statements)
    ∙ sym (through_info n part refl keys) in
    let next : Count = count_with_mention c m in
    let counted : next.keys ≡ suc part = omega (arith, keys) in
    through_said (with_info s q here) tables q (suc part) statement ks last next
    (none_further tables path k ks last none) counted statements
    ∙ ap (λ (i : NodeInfo). with_mentions (with_info s q i) (numbered_mentions next (descent_mentions tables q ks)))
    here_is
    ∙ ap (λ (ms : List Mention). with_mentions s (numbered_mentions c (ms ++ descent_mentions tables q ks)))
    (sym (passing-none tables q zero))
    ∙ ap (λ (p : List Part).
    with_mentions s (numbered_mentions c (passing_mentions tables q ++ descent_mentions tables p ks)))
    (sym (entered-none tables q zero))

-- ---- the nodes that come

next_info : (f : NodeFacts) (k : Kind) (n : ℕ) (o : Origin) → info_of f ≡ named_info k n o → f.key ≡ n
    → info_of (next_facts f) ≡ named_info k (suc n) o
next_info f k n o is key_is =
    let marks : f.marks ≡ 1 = ap (λ (i : NodeInfo). i.marks) is in
    ap (λ (i : NodeInfo). record (info_of (next_facts f)) { kind = i.kind; passed = i.passed; origin = i.origin }) is
    ∙ rw (marks, key_is)

not_before : (xs ys : List (List Part)) (y : List Part) → AllPairs (λ p q. p ≢ q) (xs ++ y ∷ ys)
    → Contains xs y → ⊥
not_before xs ys y distinct there =
    distinct there.0 (length xs) y there.1 (omega (arith, length-append xs (y ∷ ys)))
    (get_or_append_left xs (y ∷ ys) y there.0 there.1 ∙ there.2 ∙ sym (at_seam xs ys y))
  where
    at_seam : (xs ys : List (List Part)) (y : List Part) → get_or (xs ++ y ∷ ys) (length xs) y ≡ y
    at_seam [] ys y = refl
    at_seam (x ∷ xs) ys y = at_seam xs ys y

-- one node more, of which no other has the path
one_more : (s : NodeInfos) (p : List Part) (more : NodeInfo) (further : List (List Part))
    → AllPairs (λ p q. p ≢ q) (s.paths ++ (p ∷ further))
    → record { paths = s.paths ++ p ∷ []; infos = s.infos ++ more ∷ [] } ≡ with_info s p more
one_more s p more further distinct = sym (with_info_fresh s p more (not_before s.paths further p distinct))

-- such paths before others, and facts
abbrev with_tables : NodeInfos → List Part → NodeFacts → List (List ℕ) → NodeInfos
with_tables s path f leading =
    record { paths = s.paths ++ paths_below path leading; infos = s.infos ++ infos_below f leading }

through_are : (s : NodeInfos) (path : List Part) (part statement : ℕ) (f : NodeFacts) (leading : List (List ℕ))
    (further : List (List Part)) → info_of f ≡ named_info kind.Table part (origin.Through statement) → f.key ≡ part
    → AllPairs (λ p q. p ≢ q) ((s.paths ++ paths_below path leading) ++ further)
    → with_tables s path f leading ≡ with_through s path part statement leading
through_are s path part statement f [] further is key_is distinct =
    ap (λ (ps : List (List Part)). let t : NodeInfos = record { paths = ps; infos = s.infos ++ [] } in t)
    (append-nil s.paths)
    ∙ ap (λ (is : List NodeInfo). let t : NodeInfos = record { paths = s.paths; infos = is } in t) (append-nil s.infos)
through_are s path part statement f (k ∷ ks) further is key_is distinct =
    let q : List Part = path ++ key k ∷ [] in
    let next : NodeInfos = record { paths = s.paths ++ q ∷ []; infos = s.infos ++ info_of f ∷ [] } in
    let paths_are : s.paths ++ (q ∷ paths_below q ks) ≡ next.paths ++ paths_below q ks =
    sym (append_assoc s.paths (q ∷ []) (paths_below q ks)) in
    let front : AllPairs (λ p q. p ≢ q) (s.paths ++ (q ∷ (paths_below q ks ++ further))) =
    subst (AllPairs (λ p q. p ≢ q)) (append_assoc s.paths (q ∷ paths_below q ks) further) distinct in
    let suc_key : suc f.key ≡ suc part = omega (arith, key_is) in
    ap (λ (ps : List (List Part)).
    let t : NodeInfos = record { paths = ps; infos = s.infos ++ (info_of f ∷ infos_below (next_facts f) ks) } in t)
    paths_are
    ∙ ap (λ (is : List NodeInfo).
    let t : NodeInfos = record { paths = next.paths ++ paths_below q ks; infos = is } in t)
    (sym (append_assoc s.infos (info_of f ∷ []) (infos_below (next_facts f) ks)))
    ∙ through_are next q (suc part) statement (next_facts f) ks further
    (next_info f kind.Table part (origin.Through statement) is key_is) suc_key
    (subst (λ (ps : List (List Part)). AllPairs (λ p q. p ≢ q) (ps ++ further)) paths_are distinct)
    ∙ ap (λ (t : NodeInfos). with_through t q (suc part) statement ks)
    (one_more s q (info_of f) (paths_below q ks ++ further) front
    ∙ ap (λ (i : NodeInfo). with_info s q i) is)

-- ---- the whole header

module _ (t new : TrieInfos) (trie : IsTrie t.trie) (joins : List Join) (statement number : ℕ) (passed : List (List ℕ))
    (at : ℕ) (passes : PassesKeys t joins statement number passed at) (leading : List (List ℕ)) (last : List ℕ)
    (part : ℕ) (numbered : part ≡ number + length passed) (facts : HeaderFacts)
    (adds : AddsHeader t new joins at leading last facts) (goes : IsThrough facts part statement) (d : Document)
    (of : IsIndexOf d (node_infos t)) (numbers : AreNumbersAtEnd d statement number) where
  abbrev ts : List (List Part)
  ts = tables_at_end d

  abbrev path : List Part
  path = path_at t.trie at

  abbrev own : List Part
  own = path_below path leading ++ key last ∷ []

  abbrev after : NodeInfos
  after = with_through (with_joins t joins) path part statement leading

  none_below : HasNone ts path leading last
  none_below = λ more.
      tables_unmet d (node_infos t) of ((path ++ key (first_key leading last) ∷ []) ++ more)
      (λ there. adds.fresh (closed t.trie trie more (path ++ key (first_key leading last) ∷ []) there))

  all_gone : HasGone d (node_infos t) after (path_below path leading) (passed ++ leading)
  all_gone =
      let gone = keys_gone t joins statement number passed at passes d of numbers in
      let c : Count = count_at_end d in
      let ms : List Mention = descent_mentions ts [] passed in
      let here : path ≡ descent_path ts [] passed = gone.leads in
      let key_counted : (count_after c ms).keys ≡ part =
      (header_counts ts [] passed c).keys ∙ ap (λ (k : ℕ). k + length passed) numbers.keys ∙ sym numbered in
      let counted : (count_after c ms).statements ≡ statement =
      (header_counts ts [] passed c).statements ∙ numbers.statements in
      record {
        leads =
            sym (through_path ts path leading last none_below)
            ∙ ap (λ (p : List Part). descent_path ts p leading) here
            ∙ sym (descent_path-append ts [] passed leading);
        said =
            through_said (with_joins t joins) ts path part statement leading last (count_after c ms) none_below
            key_counted counted
            ∙ ap (λ (s : NodeInfos).
            with_mentions s (numbered_mentions (count_after c ms) (descent_mentions ts path leading)))
            gone.said
            ∙ mentions_then (node_infos t) c ms (descent_mentions ts path leading)
            ∙ ap (λ (p : List Part).
            with_mentions (node_infos t) (numbered_mentions c (ms ++ descent_mentions ts p leading))) here
            ∙ ap (λ (w : List Mention). with_mentions (node_infos t) (numbered_mentions c w))
            (sym (descent_mentions-append ts [] passed leading));
      }

  -- the paths of the nodes that come are others than those that are there
  all_distinct : AllPairs (λ p q. p ≢ q)
      ((paths_of t.trie ++ paths_below path leading) ++ (own ∷ element_paths own facts.element))
  all_distinct = subst (AllPairs (λ p q. p ≢ q)) adds.adds.paths adds.adds.trie.distinct

  tables_are : with_tables (with_joins t joins) path facts.through leading ≡ after
  tables_are =
      through_are (with_joins t joins) path part statement facts.through leading
      (own ∷ element_paths own facts.element) goes.info goes.first all_distinct

  nodes_are : node_infos new ≡ record {
    paths = (paths_of t.trie ++ paths_below path leading) ++ (own ∷ element_paths own facts.element);
    infos = ((with_joins t joins).infos ++ infos_below facts.through leading)
        ++ (info_of facts.own ∷ element_infos facts.element);
  }
  nodes_are =
      ap (λ (ps : List (List Part)). let s : NodeInfos = record { paths = ps; infos = new.infos } in s) adds.adds.paths
      ∙ ap (λ (is : List NodeInfo).
      let s : NodeInfos = record {
        paths = (paths_of t.trie ++ paths_below path leading) ++ (own ∷ element_paths own facts.element);
        infos = is;
      } in s) adds.adds.infos

  own_counted : part + length leading ≡ number + length (passed ++ leading)
  own_counted = omega (arith, numbered, length-append passed leading)

  pub tables_known : facts.element ≡ None
      → info_of facts.own ≡ named_info kind.Table (part + length leading) (origin.Header statement)
      → node_infos new ≡ with_mentions (node_infos t) (said_next d (header ((passed ++ leading) ++ last ∷ [])))
  tables_known bare own_is =
      let before : NodeInfos = with_tables (with_joins t joins) path facts.through leading in
      nodes_are
      ∙ ap (λ (o : Option NodeFacts). let s : NodeInfos = record {
        paths = before.paths ++ (own ∷ element_paths own o);
        infos = before.infos ++ (info_of facts.own ∷ element_infos o);
      } in s) bare
      ∙ one_more before own (info_of facts.own) (element_paths own facts.element) all_distinct
      ∙ ap (λ (s : NodeInfos). with_info s own (info_of facts.own)) tables_are
      ∙ ap (λ (i : NodeInfo). with_info after own i) own_is
      ∙ define_known d (node_infos t) after (path_below path leading) (passed ++ leading) all_gone statement number
      numbers last (part + length leading) own_counted

  pub array_known : (f : NodeFacts) → facts.element ≡ Some f
      → info_of facts.own ≡ named_info kind.Tables (part + length leading) origin.Tables
      → info_of f ≡ unnamed_info kind.Table (origin.Element statement)
      → node_infos new ≡ with_mentions (node_infos t) (said_next d (element_header ((passed ++ leading) ++ last ∷ [])))
  array_known f some own_is element_is =
      let before : NodeInfos = with_tables (with_joins t joins) path facts.through leading in
      let place : List Part = own ++ index 0 ∷ [] in
      let mid : NodeInfos =
      record { paths = before.paths ++ own ∷ []; infos = before.infos ++ info_of facts.own ∷ [] } in
      let distinct : AllPairs (λ p q. p ≢ q) (before.paths ++ (own ∷ place ∷ [])) =
      subst (λ (o : Option NodeFacts). AllPairs (λ p q. p ≢ q) (before.paths ++ (own ∷ element_paths own o))) some
      all_distinct in
      nodes_are
      ∙ ap (λ (o : Option NodeFacts). let s : NodeInfos = record {
        paths = before.paths ++ (own ∷ element_paths own o);
        infos = before.infos ++ (info_of facts.own ∷ element_infos o);
      } in s) some
      ∙ ap (λ (ps : List (List Part)).
      let s : NodeInfos = record { paths = ps; infos = before.infos ++ (info_of facts.own ∷ info_of f ∷ []) } in s)
      (sym (append_assoc before.paths (own ∷ []) (place ∷ [])))
      ∙ ap (λ (is : List NodeInfo). let s : NodeInfos = record { paths = mid.paths ++ place ∷ []; infos = is } in s)
      (sym (append_assoc before.infos (info_of facts.own ∷ []) (info_of f ∷ [])))
      ∙ one_more mid place (info_of f) []
      (subst (AllPairs (λ p q. p ≢ q)) (sym (append_assoc before.paths (own ∷ []) (place ∷ []))) distinct)
      ∙ ap (λ (i : NodeInfo). with_info mid place i) element_is
      ∙ ap (λ (s : NodeInfos). with_info s place (unnamed_info kind.Table (origin.Element statement)))
      (one_more before own (info_of facts.own) (place ∷ []) distinct
      ∙ ap (λ (s : NodeInfos). with_info s own (info_of facts.own)) tables_are
      ∙ ap (λ (i : NodeInfo). with_info after own i) own_is)
      ∙ begin_known d (node_infos t) after (path_below path leading) (passed ++ leading) all_gone statement number
      numbers last (part + length leading) own_counted 0 (sym (none_last ts path leading last none_below))

-- ---- the element of the code

pub given : {X : Type 0} (o : Option X) (P : X → Type 0) → IsSome o → IfSome o P → (x : X) × (o ≡ Some x) × P x
given (Some x) P some h = (x, refl, h)
given None P some h = cc
