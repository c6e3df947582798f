-- With a line more whose key goes on from tables of dotted keys, to a key that is new, the nodes are nested as before
-- (`dots_are_nested`), and so they are without it (`dots_leave_nested`).
--
-- The line says first that it passes these tables, and then what a run of its first new key's path says. The tables are
-- met before the line: the nodes stay as they are where they are named once more (`again_paths`), and a `[[..]]` may
-- name no key that it might not name before (`again_nested`). What comes then is a run of an unsaid path, one step
-- below the last of the tables, or below the table that the line is in. That is a node and no array of tables
-- (`IsPlainNode`): what is said of a node that dotted keys make is no `[[..]]`. Nor may a `[[..]]` name one of these
-- tables without the line (`left_nested`).
--
-- Theorems: `dots_are_nested` and `dots_leave_nested`.
use Rattle.std.proofs.Common.{◌≡◌, ℕ, ◌<◌, Bool, true, false, cond, List, [], ◌∷◌, ◌++◌, length, get_or, map, refl, sym}
use Rattle.std.proofs.Common.{ap, subst, ◌∙◌, arith, append_assoc, append-nil, All, Some, fold}
use Rattle.std.specs.Prelude.{filter}
use Rattle.std.specs.List.{AllByRecursion, cons_option, filter_map, list_any}
use Rattle.std.proofs.lemmas.List.{length-map, map-append}
use Rattle.std.proofs.lemmas.List.Elements.{All-head, All-tail}
use Rattle.std.proofs.lemmas.List.Folds.{list_any_at}
use Rattle.std.proofs.lemmas.List.Sums.{fold-append}
use Rattle.std.proofs.lemmas.Option.{slice_get-get_or}
use Rattle.keep_syntax.specs.Tree.{Document, Entries}
use Rattle.keep_path.specs.KeysAlone.{paths_below}
use Rattle.keep_path.specs.NodeInfos.{no_info}
use Rattle.keep_path.specs.Path.{Part, key, same_path}
use Rattle.keep_path.proofs.Shared.{path_decides}
use Rattle.keep_meaning.specs.Counts.{statements_in}
use Rattle.keep_meaning.specs.DotsMore.{AreDotted, HasDotsMore, IsDotted, new_path, passed_paths}
use Rattle.keep_meaning.specs.Fact.{Fact}
use Rattle.keep_meaning.specs.KeysMore.{IsUnsaid}
use Rattle.keep_meaning.specs.LinesMore.{node_infos, nodes_after}
use Rattle.keep_meaning.specs.Marks.{Mention, MentionKind, elements_of, entered_path, marks}
use Rattle.keep_meaning.specs.Marks.{mentions_from, reading_after, role_of, start, value}
use Rattle.keep_meaning.specs.Meaning.{entries_mentions, keyed_mentions, mentions_in, valued_mentions}
use Rattle.keep_meaning.specs.Nodes.{infos_in, is_at, is_element, is_node, node_info, node_number, node_path}
use Rattle.keep_meaning.specs.Nodes.{node_paths, nodes_in, paths_with}
use Rattle.keep_meaning.specs.Rules.{ObeysRules}
use Rattle.keep_meaning.proofs.FirstKeyLemmas.{first_kind, first_nested, first_said}
use Rattle.keep_meaning.proofs.Shared.{body_has_no_element, body_is_node, node_met, paths-nodes_in, same_node}
use Rattle.keep_rules.specs.Descents.{dotted_mentions}
use Rattle.keep_rules.specs.LinesNested.{DotsAreNested, DotsLeaveNested, NodesAreNested}
use Rattle.keep_rules.specs.Nested.{AreNested}
use Rattle.keep_rules.specs.RoleStates.{mention_roles}
use Rattle.keep_rules.proofs.DottedRoleLemmas.{dotted_is_barred}
use Rattle.keep_rules.proofs.ElementLemmas.{tables_dotted}
use Rattle.keep_rules.proofs.InsideValueLemmas.{AreClosed, IsInside, closed_keys, inside_closed, inside_keys}
use Rattle.keep_rules.proofs.InsideValueLemmas.{inside_known}
use Rattle.keep_rules.proofs.KeyWalkLemmas.{keyed-past}
use Rattle.keep_rules.proofs.LineNestedLaws.{may_follow}
use Rattle.keep_rules.proofs.LookupLemmas.{number_is}
use Rattle.keep_rules.proofs.NestedGrowthLemmas.{AreEntered, IsClosed, IsThere, there_number}
use Rattle.keep_rules.proofs.RunLemmas.{may_follow_rest, may_follow_with, run}
use Rattle.keep_rules.proofs.RunNestedLemmas.{child_of_none, elements_named, nested_less, nested_more, said_new}
use Rattle.keep_rules.proofs.RunNestedLemmas.{said_old as said_without, tables_named, tables_same}

-- ---- nodes that are named once more

abbrev path_of : Mention → List Part
path_of m = m.path

paths_stay : (ps : List (List Part)) (ms : List Mention) → AllByRecursion (λ m. IsThere ps m.path) ms
    → fold paths_with ps (map path_of ms) ≡ ps
paths_stay ps [] there = refl
paths_stay ps (m ∷ ms) there =
    ap (λ (b : Bool). fold paths_with (cond b ps (ps ++ m.path ∷ [])) (map path_of ms)) there.0
    ∙ paths_stay ps ms there.1

module _ (before again after : List Mention)
    (there : AllByRecursion (λ m. IsThere (node_paths before) m.path) again) where
  abbrev was : List Mention
  was = before ++ after

  abbrev is : List Mention
  is = before ++ (again ++ after)

  again_paths : node_paths is ≡ node_paths was
  again_paths =
      joined before (again ++ after)
      ∙ ap (fold paths_with (node_paths before)) (map-append path_of again after)
      ∙ fold-append paths_with (node_paths before) (map path_of again) (map path_of after)
      ∙ ap (λ (ps : List (List Part)). fold paths_with ps (map path_of after))
      (paths_stay (node_paths before) again there)
      ∙ sym (joined before after)
    where
      joined : (xs ys : List Mention) → node_paths (xs ++ ys) ≡ fold paths_with (node_paths xs) (map path_of ys)
      joined xs ys =
          ap (fold paths_with ([] ∷ [])) (map-append path_of xs ys)
          ∙ fold-append paths_with ([] ∷ []) (map path_of xs) (map path_of ys)

  again_node : (q : List Part) → is_node q is ≡ is_node q was
  again_node q = sym (node_met q is) ∙ ap (list_any (same_path q)) again_paths ∙ node_met q was

  again_nested : (tables : List (List Part)) → AreNested was tables → AreNested is tables
  again_nested tables nested = record {
    closed = subst IsClosed (sym again_paths) nested.closed;
    listed = λ path k i number open_to.
        let q : List Part = path ++ key k ∷ [] in
        nested.listed path k i (ap (λ (ps : List (List Part)). node_number ps q) (sym again_paths) ∙ number)
        (may_follow_rest q before again after open_to);
    entered = subst (λ (ps : List (List Part)). AreEntered ps tables) (sym again_paths) nested.entered;
  }

  -- a `[[..]]` may name none of them
  abbrev IsBarred : Mention → Type 0
  IsBarred m = may_follow (mention_roles m.path was) ≡ false

  open_to_them : (q : List Part) → may_follow (mention_roles q was) ≡ true → (ms : List Mention)
      → AllByRecursion IsBarred ms → may_follow (mention_roles q ms) ≡ true
  open_to_them q open_to [] barred = refl
  open_to_them q open_to (m ∷ ms) barred = by (is_at q m) refl (open_to_them q open_to ms barred.1)
    where
      by : (b : Bool) → is_at q m ≡ b → may_follow (mention_roles q ms) ≡ true
          → may_follow (filter_map role_of (map (λ (n : Mention). n.kind)
          (cond b (m ∷ filter (is_at q) ms) (filter (is_at q) ms))))
          ≡ true
      by true e more = absurd (
          let clash : true ≡ false =
          sym open_to ∙ ap (λ (p : List Part). may_follow (mention_roles p was)) (sym ((path_decides m.path q).0 e))
          ∙ barred.0 in
          cc
          )
      by false e more = more

  left_nested : (tables : List (List Part)) → AllByRecursion IsBarred again → AreNested is tables
      → AreNested was tables
  left_nested tables barred nested = record {
    closed = subst IsClosed again_paths nested.closed;
    listed = λ path k i number open_to.
        let q : List Part = path ++ key k ∷ [] in
        nested.listed path k i (ap (λ (ps : List (List Part)). node_number ps q) again_paths ∙ number)
        (may_follow_with q before again after open_to (open_to_them q open_to again barred));
    entered = subst (λ (ps : List (List Part)). AreEntered ps tables) again_paths nested.entered;
  }

-- ---- the run of the first new key

run_plain : (ks : List (List ℕ)) (f : Fact) → is_element (first_kind ks f) ≡ false
run_plain [] f = refl
run_plain (k ∷ ks) f = refl

run_bare : (ks : List (List ℕ)) (f : Fact) → may_follow (cons_option (role_of (first_kind ks f)) []) ≡ false
run_bare [] f = refl
run_bare (k ∷ ks) f = refl

run_known : (ks : List (List ℕ)) (f : Fact) (es : Entries)
    → AllByRecursion IsInside (first_nested ks f (entries_mentions 0 es))
run_known [] f es = inside_known 0 es
run_known (k ∷ ks) f es = inside_keys k ks f (entries_mentions 0 es) (inside_known 0 es)

run_above : (ks : List (List ℕ)) (f : Fact) (es : Entries) → AreClosed (first_nested ks f (entries_mentions 0 es))
run_above [] f es = inside_closed 0 es
run_above (k ∷ ks) f es = closed_keys k ks f (entries_mentions 0 es) (inside_closed 0 es)

-- ---- the paths that keys pass

-- what holds of the first path and of each further one holds of the last
at_last : (P : List Part → Type 0) (at : List Part) (ks : List (List ℕ)) → P at → AllByRecursion P (paths_below at ks)
    → P (at ++ map key ks)
at_last P at [] h hs = subst P (sym (append-nil at)) h
at_last P at (k ∷ ks) h hs =
    subst P (append_assoc at (key k ∷ []) (map key ks)) (at_last P (at ++ key k ∷ []) ks hs.0 hs.1)

all_said : (P : List Part → Type 0) (at : List Part) (ks : List (List ℕ)) → AllByRecursion P (paths_below at ks)
    → AllByRecursion (λ m. P m.path) (dotted_mentions at ks)
all_said P at [] hs = tt
all_said P at (k ∷ ks) hs = (hs.0, all_said P (at ++ key k ∷ []) ks hs.1)

all_weaker : {A : Type 0} (P Q : A → Type 0) → ((x : A) → P x → Q x) → (xs : List A) → AllByRecursion P xs
    → AllByRecursion Q xs
all_weaker P Q f [] h = tt
all_weaker P Q f (x ∷ xs) h = (f x h.0, all_weaker P Q f xs h.1)

-- each of these paths is that of a node with one of these numbers
each_numbered : (paths : List (List Part)) (P : ℕ → Type 0) (qs : List (List Part)) (ids : List ℕ)
    → map (node_number paths) qs ≡ map Some ids → All P ids
    → AllByRecursion (λ q. (id : ℕ) × (node_number paths q ≡ Some id) × P id) qs
each_numbered paths P [] ids same h = tt
each_numbered paths P (q ∷ qs) [] same h = absurd cc
each_numbered paths P (q ∷ qs) (id ∷ ids) same h =
    let first : node_number paths q ≡ Some id = cc in
    let rest : map (node_number paths) qs ≡ map Some ids = cc in
    ((id, first, All-head P id ids h), each_numbered paths P qs ids rest (All-tail P id ids h))

-- ---- the documents

module _ (d more : Document) (line : HasDotsMore d more) (ids : List ℕ) (obeys : ObeysRules (marks (mentions_in d)))
    (passed : AreDotted d (nodes_after line.before) (passed_paths line.before line.passed) ids)
    (unsaid : IsUnsaid d (new_path line.before line.passed line.first)) where
  abbrev body : List Part
  body = (reading_after start line.before).body

  -- the table that the first new key is in
  abbrev holder : List Part
  holder = body ++ map key line.passed

  abbrev path : List Part
  path = new_path line.before line.passed line.first

  abbrev tables : List (List Part)
  tables = (reading_after start (statements_in d)).tables

  abbrev mx : List Mention
  mx = mentions_from start line.before

  abbrev my : List Mention
  my = mentions_from (reading_after start line.before) line.after

  abbrev dots : List Mention
  dots = dotted_mentions body line.passed

  -- what is in the value
  abbrev inner : List Mention
  inner = entries_mentions 0 line.nested

  abbrev valued : List Mention
  valued = valued_mentions (value line.fact) inner

  abbrev said : List Mention
  said = keyed_mentions (line.passed ++ line.first ∷ line.further) valued

  -- what the line says of its first new key, and what it says below it
  abbrev its_kind : MentionKind
  its_kind = first_kind line.further line.fact

  abbrev its_nested : List Mention
  its_nested = first_nested line.further line.fact inner

  abbrev new_run : List Mention
  new_run = run path its_kind its_nested

  said_old : mentions_in d ≡ mx ++ my
  said_old = said_without d line.before line.after line.old

  said_more : mentions_in more ≡ (mx ++ dots) ++ (new_run ++ my)
  said_more =
      said_new d line.before line.after line.old more said line.new
      ∙ ap (λ (ms : List Mention). mx ++ (ms ++ my))
      (keyed-past body line.passed line.first line.further valued
      ∙ ap (λ (ms : List Mention). dots ++ ms) (first_said holder line.first line.further line.fact inner))
      ∙ ap (λ (ms : List Mention). mx ++ ms) (append_assoc dots new_run my)
      ∙ sym (append_assoc mx dots (new_run ++ my))

  -- ---- the tables that are passed

  abbrev IsNumbered : List Part → Type 0
  IsNumbered q = (id : ℕ) × (node_number (node_infos d).paths q ≡ Some id) × IsDotted d (nodes_after line.before) id

  numbered : AllByRecursion IsNumbered (passed_paths line.before line.passed)
  numbered =
      each_numbered (node_infos d).paths (IsDotted d (nodes_after line.before)) (passed_paths line.before line.passed)
      ids passed.numbers passed.dotted

  has_info : (q : List Part) (h : IsNumbered q) → h.0 < length (infos_in d)
  has_info q h = omega (
    arith,
    (number_is (node_infos d).paths q h.0 h.1).0,
    length-map (nodes_in d) node_path,
    length-map (nodes_in d) node_info,
  )

  -- they are met before the line
  met_before : (q : List Part) → IsNumbered q → IsThere (node_paths mx) q
  met_before q h =
      let at : get_or (node_paths mx) h.0 [] ≡ q =
      sym (same_node (node_paths mx) (map path_of my) h.0 h.2.0)
      ∙ ap (λ (ps : List (List Part)). get_or ps h.0 []) paths
      ∙ (number_is (node_infos d).paths q h.0 h.1).1 in
      list_any_at (same_path q) (node_paths mx) h.0 [] h.2.0
      ((path_decides q (get_or (node_paths mx) h.0 [])).1 (sym at))
    where
      paths : fold paths_with (node_paths mx) (map path_of my) ≡ (node_infos d).paths
      paths =
          sym (fold-append paths_with ([] ∷ []) (map path_of mx) (map path_of my))
          ∙ ap (fold paths_with ([] ∷ [])) (sym (map-append path_of mx my)) ∙ ap node_paths (sym said_old)
          ∙ sym (paths-nodes_in d)

  again : AllByRecursion (λ m. IsThere (node_paths mx) m.path) dots
  again =
      all_said (IsThere (node_paths mx)) body line.passed
      (all_weaker IsNumbered (IsThere (node_paths mx)) met_before (passed_paths line.before line.passed) numbered)

  -- a node that is no array of tables
  abbrev IsPlainNode : List Part → Type 0
  IsPlainNode q = (is_node q (mentions_in d) ≡ true) × (0 < elements_of q tables → ⊥)

  plain_node : (q : List Part) → IsNumbered q → IsPlainNode q
  plain_node q h = (there, λ some. absurd (omega (arith, some, none)))
    where
      at : (h.0 < length (node_infos d).paths) × (get_or (node_infos d).paths h.0 [] ≡ q)
      at = number_is (node_infos d).paths q h.0 h.1

      there : is_node q (mentions_in d) ≡ true
      there =
          sym (node_met q (mentions_in d)) ∙ ap (list_any (same_path q)) (sym (paths-nodes_in d))
          ∙ there_number (node_infos d).paths q h.0 h.1

      none : elements_of q tables ≡ 0
      none =
          tables_dotted d (node_infos d) refl h.0 q (get_or (infos_in d) h.0 no_info) at.0 at.1
          (slice_get-get_or (infos_in d) h.0 no_info (has_info q h)) h.2.1.0 h.2.1.1

  plain_holder : IsPlainNode holder
  plain_holder =
      at_last IsPlainNode body line.passed
      (body_is_node d line.before line.after line.old, body_has_no_element d line.before line.after line.old obeys)
      (all_weaker IsNumbered IsPlainNode plain_node (passed_paths line.before line.passed) numbered)

  -- ---- with them named once more

  abbrev mid : List Mention
  mid = (mx ++ dots) ++ my

  mid_is : mid ≡ mx ++ (dots ++ my)
  mid_is = append_assoc mx dots my

  mid_node : (q : List Part) → is_node q mid ≡ is_node q (mentions_in d)
  mid_node q =
      ap (is_node q) mid_is ∙ again_node mx dots my again q ∙ ap (is_node q) (sym said_old)

  mid_nested : NodesAreNested d → AreNested mid tables
  mid_nested nested =
      subst (λ (ms : List Mention). AreNested ms tables) (sym mid_is)
      (again_nested mx dots my again tables (subst (λ (ms : List Mention). AreNested ms tables) said_old nested))

  nested_with : NodesAreNested d → NodesAreNested more
  nested_with nested =
      subst (AreNested (mentions_in more)) (sym (tables_same d line.before line.after line.old more said line.new))
      (subst (λ (ms : List Mention). AreNested ms tables) (sym said_more)
      (nested_more path (mx ++ dots) my its_kind its_nested (run_known line.further line.fact line.nested)
      (run_above line.further line.fact line.nested) (run_plain line.further line.fact)
      (run_bare line.further line.fact) (λ r. mid_node (path ++ r) ∙ unsaid r) holder (key line.first) refl
      (mid_node holder ∙ plain_holder.0) tables (λ t some. mid_node t ∙ tables_named d t some)
      (λ t some. mid_node (entered_path tables t) ∙ elements_named d t some)
      (child_of_none tables holder line.first plain_holder.1) (mid_nested nested)))

  -- ---- and back

  abbrev IsBarredNow : List Part → Type 0
  IsBarredNow q = may_follow (mention_roles q (mx ++ my)) ≡ false

  barred_node : (q : List Part) → IsNumbered q → IsBarredNow q
  barred_node q h =
      let at : (h.0 < length (node_infos d).paths) × (get_or (node_infos d).paths h.0 [] ≡ q) =
      number_is (node_infos d).paths q h.0 h.1 in
      ap (λ (ms : List Mention). may_follow (mention_roles q ms)) (sym said_old)
      ∙ dotted_is_barred d h.0 h.2.1.0 q at.0 at.1 (has_info q h) h.2.1.1

  barred : AllByRecursion (λ m. IsBarredNow m.path) dots
  barred =
      all_said IsBarredNow body line.passed
      (all_weaker IsNumbered IsBarredNow barred_node (passed_paths line.before line.passed) numbered)

  mid_left : NodesAreNested more → AreNested mid tables
  mid_left nested =
      nested_less path (mx ++ dots) my its_kind its_nested (run_known line.further line.fact line.nested)
      (run_above line.further line.fact line.nested) (run_plain line.further line.fact)
      (run_bare line.further line.fact) (λ r. mid_node (path ++ r) ∙ unsaid r) holder (key line.first) refl
      (mid_node holder ∙ plain_holder.0) tables (λ t some. mid_node t ∙ tables_named d t some)
      (λ t some. mid_node (entered_path tables t) ∙ elements_named d t some)
      (child_of_none tables holder line.first plain_holder.1)
      (subst (λ (ms : List Mention). AreNested ms tables) said_more
      (subst (AreNested (mentions_in more))
      (tables_same d line.before line.after line.old more said line.new) nested))

  nested_without : NodesAreNested more → NodesAreNested d
  nested_without nested =
      subst (λ (ms : List Mention). AreNested ms tables) (sym said_old)
      (left_nested mx dots my again tables barred
      (subst (λ (ms : List Mention). AreNested ms tables) mid_is (mid_left nested)))

pub dots_are_nested : DotsAreNested
dots_are_nested d more line ids passed unsaid obeys nested = nested_with d more line ids obeys passed unsaid nested

pub dots_leave_nested : DotsLeaveNested
dots_leave_nested d more line ids passed unsaid obeys nested =
    nested_without d more line ids obeys passed unsaid nested
