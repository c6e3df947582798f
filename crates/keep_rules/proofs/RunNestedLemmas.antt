-- A run of mentions comes among others, of a path of which nothing is said, nor of a path below it: the nodes are
-- nested as before, and so they are without it (`nested_more`, `nested_less`).
--
-- Each node of before is beside that path (`old_beside`), and of such a path the same is said with the run and without
-- it. The run's path is one step below a node that is no array of tables. So the paths above it are nodes
-- (`above_more`), and no array of tables has another child (`children_same`). No `[[..]]` may name a key of the run.
--
-- Theorems: `nested_more` and `nested_less`; and of a document with a keyval more: `said_old`, `said_new`, what is said
-- without it and with it; `tables_same`: the arrays of tables; `tables_named` and `elements_named`: they and their last
-- elements are nodes.
use Rattle.std.proofs.Common.{◌≡◌, ℕ, ◌<◌, Bool, true, false, cond, List, [], ◌∷◌, ◌++◌, refl, sym, ap, ◌∙◌, ◌⊎◌}
use Rattle.std.proofs.Common.{◌-◌, inl, inr, arith, append_assoc, append-nil, map, subst, Some}
use Rattle.std.specs.Prelude.{fold}
use Rattle.std.specs.List.{AllByRecursion, cons_option, list_any}
use Rattle.std.proofs.lemmas.Bool.{false_from_ne_true, or_parts}
use Rattle.std.proofs.lemmas.List.Folds.{list_any-append}
use Rattle.keep_syntax.specs.Tree.{Document}
use Rattle.keep_path.specs.Path.{Part, key, same_path}
use Rattle.keep_path.proofs.Shared.{path_decides}
use Rattle.keep_meaning.specs.Counts.{statements_in}
use Rattle.keep_meaning.specs.Marks.{Mention, MentionKind, Statement, below, elements_of, entered_path, keyval}
use Rattle.keep_meaning.specs.Marks.{mentions_from, reading_after, role_of, start}
use Rattle.keep_meaning.specs.Meaning.{mentions_in}
use Rattle.keep_meaning.specs.Nodes.{children, is_at, is_child, is_element, is_node, is_root, node_number, node_paths}
use Rattle.keep_meaning.specs.Nodes.{paths_with}
use Rattle.keep_meaning.proofs.Shared.{element_is_node, mentions_in-statements, node_met, table_is_node}
use Rattle.keep_index_store.proofs.Shared.{push_same}
use Rattle.keep_rules.specs.Nested.{AreNested}
use Rattle.keep_rules.specs.RoleStates.{mention_roles}
use Rattle.keep_rules.proofs.InsideValueLemmas.{AreClosed, IsInside}
use Rattle.keep_rules.proofs.LineNestedLaws.{differ, may_follow, snoc_view, tables_past}
use Rattle.keep_rules.proofs.LookupLemmas.{child_push}
use Rattle.keep_rules.proofs.NestedGrowthLemmas.{number_there, there_number}
use Rattle.keep_rules.proofs.NestedLemmas.{enters}
use Rattle.keep_rules.proofs.ReadLemmas.{mentions_from-append}
use Rattle.keep_rules.proofs.RunLemmas.{AreNodesAbove, IsBeside, above_within, children_in, children_join, children_off}
use Rattle.keep_rules.proofs.RunLemmas.{children_said, entered_from, met_off, nodes_above, none_below, one_above}
use Rattle.keep_rules.proofs.RunLemmas.{open_beside, roles_off, run, run_closed, within_or_beside}

-- a path above one that is beside another is beside it
beside_above : (p q more : List Part) → IsBeside p (q ++ more) → IsBeside p q
beside_above p q more off r e = off (r ++ more) (ap (λ (l : List Part). l ++ more) e ∙ append_assoc p r more)

-- ---- a run of a path that is unsaid

module _ (p : List Part) (before after : List Mention) (kind : MentionKind) (inner : List Mention)
    (known : AllByRecursion IsInside inner) (closed : AreClosed inner) (plain : is_element kind ≡ false)
    (bare : may_follow (cons_option (role_of kind) []) ≡ false)
    (unsaid : (r : List Part) → is_node (p ++ r) (before ++ after) ≡ false) where
  abbrev was : List Mention
  was = before ++ after

  abbrev is : List Mention
  is = before ++ (run p kind inner ++ after)

  none : (r : List Part) → (list_any (is_at (p ++ r)) before ≡ false) × (list_any (is_at (p ++ r)) after ≡ false)
  none r =
      let at : Mention → Bool = is_at (p ++ r) in
      or_parts (list_any at before) (list_any at after)
      (sym (list_any-append at before after) ∙ (or_parts (is_root (p ++ r)) (list_any at was) (unsaid r)).1)

  none_before : (r : List Part) → list_any (is_at (p ++ r)) before ≡ false
  none_before r = (none r).0

  none_after : (r : List Part) → list_any (is_at (p ++ r)) after ≡ false
  none_after r = (none r).1

  -- a node of before is beside the run's path
  old_beside : (q : List Part) → is_node q was ≡ true → IsBeside p q
  old_beside q there r e = differ (is_node q was) there (ap (λ (l : List Part). is_node l was) e ∙ unsaid r)

  same_node : (q : List Part) → IsBeside p q → is_node q is ≡ is_node q was
  same_node q off = met_off p before after kind inner q off

  same_roles : (q : List Part) → IsBeside p q → mention_roles q is ≡ mention_roles q was
  same_roles q off = roles_off p before after kind inner q off

  -- ---- the paths above a node's

  above_less : AreNodesAbove is → AreNodesAbove was
  above_less above q more there =
      let off : IsBeside p (q ++ more) = old_beside (q ++ more) there in
      sym (same_node q (beside_above p q more off)) ∙ above q more (same_node (q ++ more) off ∙ there)

  -- the run's path is one step below a node
  module _ (at : List Part) (x : Part) (own : p ≡ at ++ x ∷ []) (holder : is_node at was ≡ true) where
    above_more : AreNodesAbove was → AreNodesAbove is
    above_more above [] more there = refl
    above_more above (a ∷ q) more there = by (within_or_beside p (a ∷ q))
      where
        -- above the run's path
        shorter : IsBeside p (a ∷ q) → (s : List Part) → p ≡ a ∷ q ++ s → is_node (a ∷ q) was ≡ true
        shorter off s e = by (snoc_view s)
          where
            by : (s ≡ []) ⊎ ((m : List Part) × (y : Part) × (s ≡ m ++ y ∷ [])) → is_node (a ∷ q) was ≡ true
            by (inl ends) =
                let same : a ∷ q ≡ p =
                sym (append-nil (a ∷ q)) ∙ ap (λ (l : List Part). (a ∷ q) ++ l) (sym ends) ∙ sym e in
                absurd (off [] (same ∙ sym (append-nil p)))
            by (inr h) =
                let longer : ((a ∷ q) ++ h.0) ++ h.1 ∷ [] ≡ at ++ x ∷ [] =
                append_assoc (a ∷ q) h.0 (h.1 ∷ []) ∙ ap (λ (l : List Part). (a ∷ q) ++ l) (sym h.2) ∙ sym e ∙ own in
                let same : (a ∷ q) ++ h.0 ≡ at = (push_same _ _ _ _ longer).0 in
                above (a ∷ q) h.0 (ap (λ (l : List Part). is_node l was) same ∙ holder)

        beside : IsBeside p (a ∷ q) → ((r : List Part) × (a ∷ q ++ more ≡ p ++ r)) ⊎ IsBeside p (a ∷ q ++ more)
            → is_node (a ∷ q) is ≡ true
        beside off (inr further) =
            same_node (a ∷ q) off ∙ above (a ∷ q) more (sym (same_node (a ∷ q ++ more) further) ∙ there)
        beside off (inl h) = same_node (a ∷ q) off ∙ which (one_above (a ∷ q) more p h.0 h.1)
          where
            which : ((s : List Part) × (p ≡ a ∷ q ++ s)) ⊎ ((s : List Part) × (a ∷ q ≡ p ++ s))
                → is_node (a ∷ q) was ≡ true
            which (inl s) = shorter off s.0 s.1
            which (inr s) = absurd (off s.0 s.1)

        by : ((r : List Part) × (a ∷ q ≡ p ++ r)) ⊎ IsBeside p (a ∷ q) → is_node (a ∷ q) is ≡ true
        by (inl h) =
            let longer : a ∷ q ++ more ≡ p ++ (h.0 ++ more) =
            ap (λ (l : List Part). l ++ more) h.1 ∙ append_assoc p h.0 more in
            ap (λ (l : List Part). list_any (is_at l) is) h.1
            ∙ above_within p before after kind inner none_before none_after closed h.0 more
            (ap (λ (l : List Part). list_any (is_at l) is) (sym longer) ∙ there)
        by (inr off) = beside off (within_or_beside p (a ∷ q ++ more))

    -- ---- where the arrays of tables and their last elements are nodes, and the run's path is no child of an array

    module _ (tables : List (List Part)) (named : (t : List Part) → 0 < elements_of t tables → is_node t was ≡ true)
        (last_named : (t : List Part) → 0 < elements_of t tables → is_node (entered_path tables t) was ≡ true)
        (not_child : (t : List Part) → 0 < elements_of t tables → is_child t p ≡ false) where
      children_same : (t : List Part) → 0 < elements_of t tables
          → children t (node_paths is) ≡ children t (node_paths was)
      children_same t some =
          children_said t is
          ∙ ap (fold paths_with [])
          (children_off p before after kind inner t (old_beside t (named t some)) known
          ∙ ap (λ (b : Bool). children_in t before ++ (cond b (p ∷ []) [] ++ children_in t after)) (not_child t some)
          ∙ sym (children_join t before after))
          ∙ sym (children_said t was)

      pub nested_more : AreNested was tables → AreNested is tables
      nested_more nested = record {
        closed = none_below is (above_more (nodes_above was nested.closed));
        listed = listed;
        entered = λ t i number some.
            entered_from was is tables nested t some (named t some) (last_named t some) (sym (children_same t some));
      }
        where
          listed : (path : List Part) (k : List ℕ) (i : ℕ) → node_number (node_paths is) (path ++ key k ∷ []) ≡ Some i
              → may_follow (mention_roles (path ++ key k ∷ []) is) ≡ true → 0 < elements_of (path ++ key k ∷ []) tables
          listed path k i number open_to =
              let q : List Part = path ++ key k ∷ [] in
              let met : is_node q is ≡ true = sym (node_met q is) ∙ there_number (node_paths is) q i number in
              let off : IsBeside p q =
              open_beside p before after kind inner none_before none_after (run_closed p kind inner plain bare known)
              path k met open_to in
              let old = number_there (node_paths was) q (node_met q was ∙ sym (same_node q off) ∙ met) in
              nested.listed path k old.0 old.1 (ap may_follow (sym (same_roles q off)) ∙ open_to)

      pub nested_less : AreNested is tables → AreNested was tables
      nested_less nested = record {
        closed = none_below was (above_less (nodes_above is nested.closed));
        listed = listed;
        entered = λ t i number some.
            let e : List Part = entered_path tables t in
            entered_from is was tables nested t some
            (same_node t (old_beside t (named t some)) ∙ named t some)
            (same_node e (old_beside e (last_named t some)) ∙ last_named t some) (children_same t some);
      }
        where
          listed : (path : List Part) (k : List ℕ) (i : ℕ) → node_number (node_paths was) (path ++ key k ∷ []) ≡ Some i
              → may_follow (mention_roles (path ++ key k ∷ []) was) ≡ true → 0 < elements_of (path ++ key k ∷ []) tables
          listed path k i number open_to =
              let q : List Part = path ++ key k ∷ [] in
              let met : is_node q was ≡ true = sym (node_met q was) ∙ there_number (node_paths was) q i number in
              let off : IsBeside p q = old_beside q met in
              let new = number_there (node_paths is) q (node_met q is ∙ same_node q off ∙ met) in
              nested.listed path k new.0 new.1 (ap may_follow (same_roles q off) ∙ open_to)

-- ---- a key below a table that is no array

pub child_of_none : (tables : List (List Part)) (at : List Part) (k : List ℕ) → (0 < elements_of at tables → ⊥)
    → (t : List Part) → 0 < elements_of t tables → is_child t (at ++ key k ∷ []) ≡ false
child_of_none tables at k none t some =
    child_push t at (key k)
    ∙ false_from_ne_true (same_path t at)
    (λ e. none (subst (λ (q : List Part). 0 < elements_of q tables) ((path_decides t at).0 e) some))

-- ---- a document, and one with a keyval more

module _ (d : Document) where
  abbrev tables : List (List Part)
  tables = (reading_after start (statements_in d)).tables

  pub elements_named : (t : List Part) → 0 < elements_of t tables
      → is_node (entered_path tables t) (mentions_in d) ≡ true
  elements_named t some =
      ap (λ (q : List Part). is_node q (mentions_in d)) (enters tables t (elements_of t tables) refl some)
      ∙ element_is_node d t (elements_of t tables - 1) (omega (arith, some))

  pub tables_named : (t : List Part) → 0 < elements_of t tables → is_node t (mentions_in d) ≡ true
  tables_named t some = table_is_node d t some

  module _ (before after : List Statement) (old : statements_in d ≡ before ++ after) where
    abbrev mx : List Mention
    mx = mentions_from start before

    abbrev my : List Mention
    my = mentions_from (reading_after start before) after

    pub said_old : mentions_in d ≡ mx ++ my
    said_old =
        mentions_in-statements d ∙ ap (mentions_from start) old ∙ mentions_from-append start before after

    module _ (more : Document) (nested : List Mention)
        (new : statements_in more ≡ before ++ keyval nested ∷ after) where
      pub said_new : mentions_in more ≡ mx ++ (map (below (reading_after start before).body) nested ++ my)
      said_new =
          mentions_in-statements more ∙ ap (mentions_from start) new
          ∙ mentions_from-append start before (keyval nested ∷ after)

      pub tables_same : (reading_after start (statements_in more)).tables ≡ tables
      tables_same =
          ap (λ (ss : List Statement). (reading_after start ss).tables) new ∙ tables_past before after nested
          ∙ ap (λ (ss : List Statement). (reading_after start ss).tables) (sym old)
