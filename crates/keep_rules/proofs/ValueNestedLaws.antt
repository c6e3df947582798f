-- With another value in the place of one the nodes are nested as before (`value_is_nested`).
--
-- What a document says is a list of mentions. Those of the value and of what is in it are one run of it, and no other
-- mention is at the value's path or below it. So of any other path the same is said with both values (`met_beside`,
-- `roles_beside`), and the nodes one step below such a path are the same (`children_same`); of a path below the value's
-- only the run says anything. What is said inside a value is closed, and lets no `[[..]]` name a key there
-- (`inside_closed`, `inside_known`), so the same holds of the run (`above_within`, `open_beside`). As the run has no
-- mention of a `[[..]]`, no array of tables is at the value's path or below it (`table_beside`). The rules are not
-- needed for this.
--
-- Where nothing is in the new value, the run is one mention, of the value's own path, so no node is one step below it.
--
-- Theorems: `value_is_nested`, and `empty_has_no_child`.
use Rattle.std.proofs.Common.{◌≡◌, ℕ, ◌-◌, ◌<◌, Bool, true, false, cond, ◌&&◌, List, [], ◌∷◌, ◌++◌, map, refl, sym, ap}
use Rattle.std.proofs.Common.{ap₂, subst, ◌∙◌, ◌⊎◌, inl, inr, arith, append_assoc, append-nil, Some}
use Rattle.std.specs.Prelude.{fold}
use Rattle.std.specs.List.{AllByRecursion, list_any}
use Rattle.std.proofs.lemmas.Bool.{and_left, and_right, false_from_ne_true, or_left, or_right}
use Rattle.std.proofs.lemmas.List.{map-append}
use Rattle.std.proofs.lemmas.List.Folds.{list_any-append}
use Rattle.keep_syntax.specs.Tree as tree
use Rattle.keep_syntax.specs.Tree.{Document, Entries, Value}
use Rattle.keep_path.specs.Path.{Part, index, key, same_path}
use Rattle.keep_path.proofs.Shared.{path_decides}
use Rattle.keep_meaning.specs.Counts.{Count, Numbered, numbered_mentions, statements_in}
use Rattle.keep_meaning.specs.Fact.{Fact}
use Rattle.keep_meaning.specs.Marks.{Mention, Reading, Statement, begun, element, element_header, elements_of}
use Rattle.keep_meaning.specs.Marks.{entered_path, header, header_path, header_prefixes, keyval, mentions_from}
use Rattle.keep_meaning.specs.Marks.{next_reading, reading_after, start, statement_mentions, value}
use Rattle.keep_meaning.specs.Meaning.{body_fact, entries_mentions, mentions_in}
use Rattle.keep_meaning.specs.Nodes.{children, is_at, is_child, is_element, is_node, is_root, mention_of, node_number}
use Rattle.keep_meaning.specs.Nodes.{node_paths, paths_with}
use Rattle.keep_meaning.specs.OtherValues.{HasOtherValue, IsApart, said_past}
use Rattle.keep_meaning.proofs.Shared.{element_is_node, mentions-numbered_in, mentions-numbered_mentions}
use Rattle.keep_meaning.proofs.Shared.{mentions_in-statements, node_met, table_is_node}
use Rattle.keep_rules.specs.Nested.{AreNested}
use Rattle.keep_rules.specs.RoleStates.{mention_roles}
use Rattle.keep_rules.specs.ValuesNested.{ValueIsNested}
use Rattle.keep_rules.proofs.InsideValueLemmas.{all_mapped, inside_closed, inside_known}
use Rattle.keep_rules.proofs.LineNestedLaws.{differ, may_follow, snoc_view}
use Rattle.keep_rules.proofs.LookupLemmas.{child_push, no_child_root}
use Rattle.keep_rules.proofs.NestedGrowthLemmas.{number_there, there_number}
use Rattle.keep_rules.proofs.NestedLemmas.{enters}
use Rattle.keep_rules.proofs.RunLemmas.{AreNodesAbove, IsBeside, IsClosedTo, IsSaidBeside, above_within, any_own}
use Rattle.keep_rules.proofs.RunLemmas.{any_within, children_in, children_join, children_off, children_said}
use Rattle.keep_rules.proofs.RunLemmas.{entered_from, met_off, met_within, nodes_above, none_any, none_below}
use Rattle.keep_rules.proofs.RunLemmas.{not_beside, one_above, open_beside, roles_off, run, run_closed, same_self}
use Rattle.keep_rules.proofs.RunLemmas.{stripped_beside, within_or_beside}
use Rattle.keep_rules.proofs.TablesLemmas.{elements_other}

-- a `[[..]]` names the path
abbrev names : List Part → Mention → Bool
names t m = is_element m.kind && is_at t m

-- ---- the run of a value, with nothing else at or below its path

module _ (path : List Part) where
  abbrev value_run : Fact → Entries → List Mention
  value_run f es = run path (value f) (entries_mentions 0 es)

  abbrev whole : List Mention → List Mention → Fact → Entries → List Mention
  whole before after f es = before ++ (value_run f es ++ after)

  value_closed : (f : Fact) (es : Entries) → AllByRecursion IsClosedTo (value_run f es)
  value_closed f es = run_closed path (value f) (entries_mentions 0 es) refl refl (inside_known 0 es)

  -- nothing that is said beside the value's path is one step below it, nor is that path itself
  none_child : (ms : List Mention) → AllByRecursion (IsSaidBeside path) ms → children_in path ms ≡ []
  none_child [] h = refl
  none_child (m ∷ ms) h =
      let rest : List (List Part) = children_in path ms in
      ap (λ (b : Bool). cond b (m.path ∷ rest) rest) (by (snoc_view m.path)) ∙ none_child ms h.1
    where
      by : (m.path ≡ []) ⊎ ((q : List Part) × (x : Part) × (m.path ≡ q ++ x ∷ [])) → is_child path m.path ≡ false
      by (inl e) = ap (is_child path) e ∙ no_child_root path
      by (inr (q, x, e)) =
          ap (is_child path) e ∙ child_push path q x
          ∙ false_from_ne_true (same_path path q)
          (λ same. h.0 (x ∷ []) (e ∙ ap (λ (l : List Part). l ++ x ∷ []) (sym ((path_decides path q).0 same))))

  not_own_child : (p : List Part) → is_child p p ≡ false
  not_own_child [] = refl
  not_own_child (a ∷ p) = ap₂ (λ (b c : Bool). b && c) (same_self a) (not_own_child p)

  module _ (before after : List Mention) (apart_before : AllByRecursion (IsSaidBeside path) before)
      (apart_after : AllByRecursion (IsSaidBeside path) after) where
    -- all that is said
    abbrev said_with : Fact → Entries → List Mention
    said_with f es = whole before after f es

    -- where nothing is in the value
    no_child : (f : Fact) → children path (node_paths (said_with f tree.none)) ≡ []
    no_child f =
        let rest : List (List Part) = children_in path after in
        let own : children_in path (value_run f tree.none ++ after) ≡ [] =
        ap (λ (b : Bool). cond b (path ∷ rest) rest) (not_own_child path) ∙ none_child after apart_after in
        children_said path (said_with f tree.none)
        ∙ ap (fold paths_with [])
        (children_join path before (value_run f tree.none ++ after)
        ∙ ap₂ (λ (xs ys : List (List Part)). xs ++ ys) (none_child before apart_before) own)

    none_before : (r : List Part) → list_any (is_at (path ++ r)) before ≡ false
    none_before r = none_any (IsSaidBeside path) (is_at (path ++ r)) (not_beside path r) before apart_before

    none_after : (r : List Part) → list_any (is_at (path ++ r)) after ≡ false
    none_after r = none_any (IsSaidBeside path) (is_at (path ++ r)) (not_beside path r) after apart_after

    -- the value's own path is a node's
    own_is_node : (f : Fact) (es : Entries) → is_node path (said_with f es) ≡ true
    own_is_node f es =
        or_right (is_root path) (list_any (is_at path) (said_with f es))
        (subst (λ (q : List Part). list_any (is_at q) (said_with f es) ≡ true) (append-nil path)
        (met_within path before after (value f) (entries_mentions 0 es) none_before none_after []
        ∙ any_own path (value f) (entries_mentions 0 es)))

    module _ (f g : Fact) (es new : Entries) where
      abbrev was : List Mention
      was = said_with f es

      abbrev is : List Mention
      is = said_with g new

      met_beside : (q : List Part) → IsBeside path q → is_node q was ≡ is_node q is
      met_beside q beside =
          met_off path before after (value f) (entries_mentions 0 es) q beside
          ∙ sym (met_off path before after (value g) (entries_mentions 0 new) q beside)

      roles_beside : (q : List Part) → IsBeside path q → mention_roles q was ≡ mention_roles q is
      roles_beside q beside =
          roles_off path before after (value f) (entries_mentions 0 es) q beside
          ∙ sym (roles_off path before after (value g) (entries_mentions 0 new) q beside)

      children_same : (t : List Part) → IsBeside path t → children t (node_paths was) ≡ children t (node_paths is)
      children_same t beside =
          children_said t was
          ∙ ap (fold paths_with [])
          (children_off path before after (value f) (entries_mentions 0 es) t beside (inside_known 0 es)
          ∙ sym (children_off path before after (value g) (entries_mentions 0 new) t beside (inside_known 0 new)))
          ∙ sym (children_said t is)

      above_again : AreNodesAbove was → AreNodesAbove is
      above_again above [] more there = refl
      above_again above (a ∷ p) more there = by (within_or_beside path (a ∷ p))
        where
          beside : IsBeside path (a ∷ p)
              → ((r : List Part) × (a ∷ p ++ more ≡ path ++ r)) ⊎ IsBeside path (a ∷ p ++ more)
              → is_node (a ∷ p) is ≡ true
          beside off (inr further) =
              sym (met_beside (a ∷ p) off) ∙ above (a ∷ p) more (met_beside (a ∷ p ++ more) further ∙ there)
          beside off (inl h) = which (one_above (a ∷ p) more path h.0 h.1)
            where
              which : ((s : List Part) × (path ≡ a ∷ p ++ s)) ⊎ ((s : List Part) × (a ∷ p ≡ path ++ s))
                  → is_node (a ∷ p) is ≡ true
              which (inl s) =
                  sym (met_beside (a ∷ p) off)
                  ∙ above (a ∷ p) s.0 (subst (λ (q : List Part). is_node q was ≡ true) s.1 (own_is_node f es))
              which (inr s) = absurd (off s.0 s.1)

          by : ((r : List Part) × (a ∷ p ≡ path ++ r)) ⊎ IsBeside path (a ∷ p) → is_node (a ∷ p) is ≡ true
          by (inl h) =
              let longer : a ∷ p ++ more ≡ path ++ (h.0 ++ more) =
              ap (λ (l : List Part). l ++ more) h.1 ∙ append_assoc path h.0 more in
              ap (λ (q : List Part). list_any (is_at q) is) h.1
              ∙ above_within path before after (value g) (entries_mentions 0 new) none_before none_after
              (inside_closed 0 new) h.0 more (ap (λ (q : List Part). list_any (is_at q) is) (sym longer) ∙ there)
          by (inr off) = beside off (within_or_beside path (a ∷ p ++ more))

      -- no `[[..]]` names a path at or below the value's
      names_none : (r : List Part) → list_any (names (path ++ r)) was ≡ false
      names_none r =
          any_within (names (path ++ r)) before (value_run f es) after
          (none_any (IsSaidBeside path) (names (path ++ r)) not_named before apart_before)
          (none_any (IsSaidBeside path) (names (path ++ r)) not_named after apart_after)
          ∙ none_any IsClosedTo (names (path ++ r)) (λ m h. and_left (is_element m.kind) (is_at (path ++ r) m) h.0)
          (value_run f es) (value_closed f es)
        where
          not_named : (m : Mention) → IsSaidBeside path m → names (path ++ r) m ≡ false
          not_named m h = and_right (is_element m.kind) (is_at (path ++ r) m) (not_beside path r m h)

      -- where the arrays of tables are beside it, and they and their last elements are nodes
      module _ (tables : List (List Part)) (named : (t : List Part) → 0 < elements_of t tables → IsBeside path t)
          (there : (t : List Part) → 0 < elements_of t tables → is_node t was ≡ true)
          (last_there : (t : List Part) → 0 < elements_of t tables → is_node (entered_path tables t) was ≡ true) where
        listed_again : AreNested was tables → (p : List Part) (k : List ℕ) (i : ℕ)
            → node_number (node_paths is) (p ++ key k ∷ []) ≡ Some i
            → may_follow (mention_roles (p ++ key k ∷ []) is) ≡ true → 0 < elements_of (p ++ key k ∷ []) tables
        listed_again nested p k i number open_to =
            let q : List Part = p ++ key k ∷ [] in
            let met : is_node q is ≡ true = sym (node_met q is) ∙ there_number (node_paths is) q i number in
            let off : IsBeside path q =
            open_beside path before after (value g) (entries_mentions 0 new) none_before none_after
            (value_closed g new) p k met open_to in
            let old = number_there (node_paths was) q (node_met q was ∙ met_beside q off ∙ met) in
            nested.listed p k old.0 old.1 (ap may_follow (roles_beside q off) ∙ open_to)

        nested_again : AreNested was tables → AreNested is tables
        nested_again nested = record {
          closed = none_below is (above_again (nodes_above was nested.closed));
          listed = listed_again nested;
          entered = λ t i number some.
              entered_from was is tables nested t some (there t some) (last_there t some)
              (children_same t (named t some));
        }

-- ---- the documents

-- the paths of the `[[..]]` lines are named
tables_named : (r : Reading) (ss : List Statement) (t : List Part) → 0 < elements_of t (reading_after r ss).tables
    → (0 < elements_of t r.tables) ⊎ (list_any (names t) (mentions_from r ss) ≡ true)
tables_named r [] t some = inl some
tables_named r (s ∷ ss) t some = by s (tables_named (next_reading r s) ss t some)
  where
    later : (s : Statement) → list_any (names t) (mentions_from (next_reading r s) ss) ≡ true
        → list_any (names t) (mentions_from r (s ∷ ss)) ≡ true
    later s h =
        list_any-append (names t) (statement_mentions r s) (mentions_from (next_reading r s) ss)
        ∙ or_right (list_any (names t) (statement_mentions r s))
        (list_any (names t) (mentions_from (next_reading r s) ss)) h

    own : (keys : List (List ℕ)) → header_path r.tables [] keys ≡ t
        → list_any (names t) (mentions_from r (element_header keys ∷ ss)) ≡ true
    own keys e =
        let s : Statement = element_header keys in
        let top : List Part = header_path r.tables [] keys in
        let way : List Mention = header_prefixes r.tables [] keys in
        let rest : List Mention =
        record { path = top ++ index (elements_of top r.tables) ∷ []; kind = begun } ∷ [] in
        let last : List Mention = record { path = top; kind = element } ∷ rest in
        list_any-append (names t) (way ++ last) (mentions_from (next_reading r s) ss)
        ∙ or_left (list_any (names t) (way ++ last)) (list_any (names t) (mentions_from (next_reading r s) ss))
        (list_any-append (names t) way last ∙ or_right (list_any (names t) way) (list_any (names t) last)
        (or_left (same_path top t) (list_any (names t) rest) ((path_decides top t).1 e)))

    which : (keys : List (List ℕ)) → 0 < elements_of t (r.tables ++ header_path r.tables [] keys ∷ [])
        → (b : Bool) → same_path (header_path r.tables [] keys) t ≡ b
        → (0 < elements_of t r.tables) ⊎ (list_any (names t) (mentions_from r (element_header keys ∷ ss)) ≡ true)
    which keys h true e = inr (own keys ((path_decides (header_path r.tables [] keys) t).0 e))
    which keys h false e =
        let top : List Part = header_path r.tables [] keys in
        inl (omega (
          arith,
          h,
          elements_other t top r.tables (λ s. differ (same_path top t) ((path_decides top t).1 s) e),
        ))

    by : (s : Statement)
        → (0 < elements_of t (next_reading r s).tables)
        ⊎ (list_any (names t) (mentions_from (next_reading r s) ss) ≡ true)
        → (0 < elements_of t r.tables) ⊎ (list_any (names t) (mentions_from r (s ∷ ss)) ≡ true)
    by (header keys) (inl h) = inl h
    by (keyval inner) (inl h) = inl h
    by (element_header keys) (inl h) = which keys h (same_path (header_path r.tables [] keys) t) refl
    by s (inr h) = inr (later s h)

past_said : (c : Count) (es new : Entries) (ns : List Numbered)
    → map mention_of (map (said_past c es new) ns) ≡ map mention_of ns
past_said c es new [] = refl
past_said c es new (n ∷ ns) = ap (λ (l : List Mention). n.mention ∷ l) (past_said c es new ns)

apart_said : (path : List Part) (ns : List Numbered) → AllByRecursion (IsApart path) ns
    → AllByRecursion (IsSaidBeside path) (map mention_of ns)
apart_said path ns h =
    all_mapped (IsApart path) (IsSaidBeside path) mention_of (λ n none. stripped_beside path n.mention.path none) ns h

module _ (d other : Document) (path : List Part) (v : Value) (h : HasOtherValue d other path v) where
  abbrev before : List Mention
  before = map mention_of h.before

  abbrev after : List Mention
  after = map mention_of h.after

  apart_before : AllByRecursion (IsSaidBeside path) before
  apart_before = apart_said path h.before h.apart_before

  apart_after : AllByRecursion (IsSaidBeside path) after
  apart_after = apart_said path h.after h.apart_after

  abbrev tables : List (List Part)
  tables = (reading_after start (statements_in d)).tables

  said : (f : Fact) (es : Entries) (ns : List Numbered)
      → map mention_of (h.before ++ (numbered_mentions h.count (value_run path f es) ++ ns))
      ≡ before ++ (value_run path f es ++ map mention_of ns)
  said f es ns =
      map-append mention_of h.before (numbered_mentions h.count (value_run path f es) ++ ns)
      ∙ ap (λ (l : List Mention). before ++ l)
      (map-append mention_of (numbered_mentions h.count (value_run path f es)) ns
      ∙ ap (λ (l : List Mention). l ++ map mention_of ns) (mentions-numbered_mentions h.count (value_run path f es)))

  said_old : mentions_in d ≡ whole path before after h.fact h.entries
  said_old = sym (mentions-numbered_in d) ∙ ap (map mention_of) h.old ∙ said h.fact h.entries h.after

  said_new : mentions_in other ≡ whole path before after (body_fact v.body) v.nested
  said_new =
      sym (mentions-numbered_in other) ∙ ap (map mention_of) h.new
      ∙ said (body_fact v.body) v.nested (map (said_past h.count h.entries v.nested) h.after)
      ∙ ap (λ (l : List Mention). before ++ (value_run path (body_fact v.body) v.nested ++ l))
      (past_said h.count h.entries v.nested h.after)

  table_beside : (t : List Part) → 0 < elements_of t tables → IsBeside path t
  table_beside t some r e = by (tables_named start (statements_in d) t some)
    where
      by : (0 < elements_of t []) ⊎ (list_any (names t) (mentions_from start (statements_in d)) ≡ true) → ⊥
      by (inl none) = absurd (omega (arith, none))
      by (inr named) = differ (list_any (names t) (mentions_in d))
          (ap (list_any (names t)) (mentions_in-statements d) ∙ named)
          (ap (list_any (names t)) said_old
          ∙ ap (λ (q : List Part). list_any (names q) (whole path before after h.fact h.entries)) e
          ∙ names_none path before after apart_before apart_after h.fact (body_fact v.body) h.entries v.nested r)

  table_there : (t : List Part) → 0 < elements_of t tables
      → is_node t (whole path before after h.fact h.entries) ≡ true
  table_there t some = ap (is_node t) (sym said_old) ∙ table_is_node d t some

  last_there : (t : List Part) → 0 < elements_of t tables
      → is_node (entered_path tables t) (whole path before after h.fact h.entries) ≡ true
  last_there t some =
      ap (is_node (entered_path tables t)) (sym said_old)
      ∙ ap (λ (q : List Part). is_node q (mentions_in d)) (enters tables t (elements_of t tables) refl some)
      ∙ element_is_node d t (elements_of t tables - 1) (omega (arith, some))

  pub nested_there : AreNested (mentions_in d) tables
      → AreNested (mentions_in other) (reading_after start (statements_in other)).tables
  nested_there nested =
      subst (AreNested (mentions_in other)) (sym h.tables)
      (subst (λ (ms : List Mention). AreNested ms tables) (sym said_new)
      (nested_again path before after apart_before apart_after h.fact (body_fact v.body) h.entries v.nested tables
      table_beside table_there last_there
      (subst (λ (ms : List Mention). AreNested ms tables) said_old nested)))

  pub empty_has_no_child : v.nested ≡ tree.none → children path (node_paths (mentions_in other)) ≡ []
  empty_has_no_child empty =
      ap (λ (ms : List Mention). children path (node_paths ms))
      (said_new ∙ ap (whole path before after (body_fact v.body)) empty)
      ∙ no_child path before after apart_before apart_after (body_fact v.body)

pub value_is_nested : ValueIsNested
value_is_nested d other path v h obeys obeys_then nested = nested_there d other path v h nested
