-- What the index tells of a node tells what a header meets there.
--
-- The origin of a node says which things are said of its path (`origin_states`), and those say what its marks refuse: a
-- value refuses all, an array of tables all but its elements, any other node elements (`refused_last`). Headers
-- continue from a node that is no value: into the last element of an array of tables, as `AreNested` says, else at the
-- node itself. Where there is no node, there is none below, so nothing more is refused (`free_from`).
--
-- Theorems: `enters_none`, `enters_refused`, `enters_tables`, `enters_other` for a key on the way, `last_free`,
-- `last_met` for the last one.
use Rattle.std.proofs.Common.{◌≡◌, ℕ, zero, suc, ◌+◌, ◌-◌, ◌<◌, ◌≤◌, Bool, true, false, cond, not, ◌&&◌, ◌||◌, ◌==◌}
use Rattle.std.proofs.Common.{List, [], ◌∷◌, ◌++◌, length, map, drop, slice_get, refl, sym, ap, subst, ◌∙◌, arith}
use Rattle.std.proofs.Common.{Option, Some, None, Ok, Err}
use Rattle.std.specs.List.{list_any, filter_map, cons_option}
use Rattle.std.specs.Option.{option_map, option_and_then}
use Rattle.std.specs.Prelude.{fold, slice_index_or, String, string_bytes}
use Rattle.std.specs.Global.{Global}
use Rattle.std.proofs.lemmas.List.{map-append, drop_more, at_drop_all}
use Rattle.std.proofs.lemmas.Bool.Decides.{nat_tests}
use Rattle.keep_syntax.specs.Tree.{Line, Document}
use Rattle.keep_syntax.specs.declared.fault.Why.{Why}
use Rattle.keep_types.specs.declared.node.NodeInfo.{NodeInfo}
use Rattle.keep_types.specs.declared.node.Origin.{Origin}
use Rattle.keep_types.specs.declared.node.Origin.TheVariants as origin
use Rattle.keep_types.specs.declared.role.Role.{Role}
use Rattle.keep_types.specs.declared.role.Role.TheVariants as role
use Rattle.keep_meaning.specs.Counts.{Numbered, is_value, line_statement, statements_in, numbered_in}
use Rattle.keep_meaning.specs.Marks.{Mention, Reading, Statement, start, reading_after, next_reading, marks}
use Rattle.keep_meaning.specs.Marks.{elements_of}
use Rattle.keep_meaning.specs.Meaning.{statement_of, reading_after_lines, lines, mentions_in}
use Rattle.keep_meaning.specs.Nodes.{is_at, is_root, has, is_through, is_define, is_element, is_dotted, is_begun}
use Rattle.keep_meaning.specs.Nodes.{paths_with, node_paths, node_number, children, numbered_at, last_number}
use Rattle.keep_meaning.specs.Nodes.{value_number, statement_number, first_that_fits}
use Rattle.keep_meaning.specs.Rules.{why_of, Allows}
use Rattle.keep_meaning.proofs.Shared.{paths-nodes_in}
use Rattle.keep_path.specs.NodeInfos.{NodeInfos}
use Rattle.keep_path.specs.Path.{Part, key, index, same_path}
use Rattle.keep_rules.specs.declared.index.NodeId.{NodeId}
use Rattle.keep_rules.specs.Lookup.{number_of, path_numbered, children_numbered, nth_child}
use Rattle.keep_rules.specs.Nested.{AreNested}
use Rattle.keep_rules.specs.ReadDocuments.{IsIndexOf}
use Rattle.keep_rules.proofs.Shared.{number_is}
use Rattle.keep_edit_spec.specs.Headers.{is_refused}
use Rattle.keep_edit_spec.specs.Refusals.{tables_in}
use Rattle.keep_edit_spec.proofs.Shared.{Pairs, EndsInKey, tables_stated, formed_lines, define_continues, define_twice}
use Rattle.keep_edit_spec.proofs.Shared.{define_unlisted, dotted_continues, dotted_undefines, dotted_unlisted}
use Rattle.keep_edit_spec.proofs.Shared.{element_again, element_undefines, marks_let, no_elements, none_counted}
use Rattle.keep_edit_spec.proofs.Shared.{none_refuses, past_listed, all_element, through_defines, through_continues}
use Rattle.keep_edit_spec.proofs.Shared.{through_unlisted, value_refuses, value_unlisted}
use Rattle.keep_edit_plan.specs.Headers.{role_of, key_texts, may_follow, conflict_from, is_stopped, entered_in}
use Rattle.keep_edit_plan.specs.Headers.{EntersAt}
use Rattle.keep_edit_plan.specs.declared.header.Header.{Header}
use Rattle.keep_edit_plan.specs.declared.header.Header.TheVariants.{Table, Element}
use Rattle.keep_edit_plan.proofs.FoundLaws.{IsStated}
use Rattle.keep_edit_plan.proofs.NodeLaws.{info_of_number, no_node, a_node}
use Rattle.keep_edit_plan.proofs.RemoveNode.{has_of, none_of, ends_never_begun}

-- ---- where a node comes from

-- what the origin of a node tells of the last mentions of each kind
abbrev OriginStates : Origin → Option ℕ → Option ℕ → Option ℕ → Option ℕ → Option ℕ → Option ℕ → Type 0
OriginStates (origin.Value n) v t b d k g = v ≡ Some n
OriginStates origin.Tables v t b d k g = (v ≡ None) × ((i : ℕ) × (t ≡ Some i))
OriginStates (origin.Element n) v t b d k g = b ≡ Some n
OriginStates (origin.Header n) v t b d k g = (v ≡ None) × (t ≡ None) × (d ≡ Some n)
OriginStates (origin.Dotted n) v t b d k g = (v ≡ None) × (t ≡ None) × (d ≡ None) × (k ≡ Some n)
OriginStates (origin.Through n) v t b d k g = (v ≡ None) × (t ≡ None) × (d ≡ None) × (k ≡ None) × (g ≡ Some n)
OriginStates origin.Root v t b d k g = (v ≡ None) × (t ≡ None) × (d ≡ None) × (k ≡ None) × (g ≡ None)

fits : (v t b d k g : Option ℕ)
    → OriginStates (first_that_fits
    (option_map origin.Value v ∷ option_map (λ i. origin.Tables) t ∷ option_map origin.Element b
    ∷ option_map origin.Header d ∷ option_map origin.Dotted k ∷ option_map origin.Through g ∷ [])) v t b d k g
fits (Some i) t b d k g = refl
fits None (Some i) b d k g = (refl, (i, refl))
fits None None (Some i) d k g = refl
fits None None None (Some i) k g = (refl, refl, refl)
fits None None None None (Some i) g = (refl, refl, refl, refl)
fits None None None None None (Some i) = (refl, refl, refl, refl, refl)
fits None None None None None None = (refl, refl, refl, refl, refl)

abbrev OriginOf : Origin → List Part → Document → Type 0
OriginOf p path s =
    let ns : List Numbered = numbered_at path (numbered_in s) in
    OriginStates p (last_number is_value value_number ns) (last_number is_element statement_number ns)
    (last_number is_begun statement_number ns)
    (last_number is_define statement_number ns) (last_number is_dotted value_number ns)
    (last_number is_through statement_number ns)

origin_states : (path : List Part) (s : Document) (info : NodeInfo) → IsStated path s info → OriginOf info.origin path s
origin_states path s info stated =
    let ns : List Numbered = numbered_at path (numbered_in s) in
    subst (λ (p : Origin). OriginOf p path s) (sym (ap (λ (i : NodeInfo). i.origin) stated.is))
    (fits (last_number is_value value_number ns) (last_number is_element statement_number ns)
    (last_number is_begun statement_number ns)
    (last_number is_define statement_number ns) (last_number is_dotted value_number ns)
    (last_number is_through statement_number ns))

-- ---- the `[[..]]` lines

after_lines : (r : Reading) (ls : List Line) → reading_after r (filter_map line_statement ls) ≡ reading_after_lines r ls
after_lines r [] = refl
after_lines r (l ∷ ls) = by (statement_of l.content) refl (λ x. after_lines x ls)
  where
    by : (o : Option Statement) → statement_of l.content ≡ o
        → ((x : Reading) → reading_after x (filter_map line_statement ls) ≡ reading_after_lines x ls)
        → reading_after r (cons_option (statement_of l.content) (filter_map line_statement ls))
        ≡ reading_after_lines (elim (statement_of l.content) [ None ↦ r | Some s ↦ next_reading r s ]) ls
    by None e more = rw e (more r)
    by (Some st) e more = rw e (more (next_reading r st))

tables_are : (s : Document) → (reading_after start (statements_in s)).tables ≡ tables_in (mentions_in s)
tables_are s = ap (λ (r : Reading). r.tables) (after_lines start (lines s)) ∙ tables_stated start (lines s)

-- ---- the index of a document

-- the root is the first node
root_preserved : (rest ps : List (List Part)) → (more : List (List Part)) × (fold paths_with ([] ∷ rest) ps ≡ [] ∷ more)
root_preserved rest [] = (rest, refl)
root_preserved rest (p ∷ ps) =
    by (list_any (same_path p) ([] ∷ rest)) (root_preserved rest ps) (root_preserved (rest ++ p ∷ []) ps)
  where
    by : (b : Bool) → (more : List (List Part)) × (fold paths_with ([] ∷ rest) ps ≡ [] ∷ more)
        → (more : List (List Part)) × (fold paths_with ([] ∷ rest ++ p ∷ []) ps ≡ [] ∷ more)
        → (more : List (List Part)) × (fold paths_with (cond b ([] ∷ rest) (([] ∷ rest) ++ p ∷ [])) ps ≡ [] ∷ more)
    by true old new = old
    by false old new = new

or_right : (a b : Bool) → (a || b) ≡ false → b ≡ false
or_right true b h = absurd cc
or_right false b h = h

module _ (s : Document) (t : NodeInfos) (h : IsIndexOf s t) where
  paths_are : t.paths ≡ node_paths (mentions_in s)
  paths_are = ap (λ (x : NodeInfos). x.paths) h.facts ∙ paths-nodes_in s

  nested : AreNested (mentions_in s) (tables_in (mentions_in s))
  nested = subst (AreNested (mentions_in s)) (tables_are s) h.nested

  pub number_there : (path : List Part) (o : Option ℕ) → o ≡ node_number t.paths path
      → node_number (node_paths (mentions_in s)) path ≡ o
  number_there path o e = ap (λ (ps : List (List Part)). node_number ps path) (sym paths_are) ∙ sym e

  -- no node is there, nor below
  pub none_below : (path more : List Part) → node_number t.paths path ≡ None → node_number t.paths (path ++ more) ≡ None
  none_below path more none =
      ap (λ (ps : List (List Part)). node_number ps (path ++ more)) paths_are
      ∙ nested.closed path more (number_there path None (sym none))

  pub none_mentioned : (path : List Part) → node_number t.paths path ≡ None
      → list_any (is_at path) (mentions_in s) ≡ false
  none_mentioned path none =
      or_right (is_root path) (list_any (is_at path) (mentions_in s))
      (no_node path (mentions_in s) (number_there path None (sym none)))

  pub stated_there : (path : List Part) (i : ℕ) (info : NodeInfo)
      → node_number (node_paths (mentions_in s)) path ≡ Some i → slice_get t.infos i ≡ Some info → IsStated path s info
  stated_there path i info number there =
      let same : Some info ≡ Some _ =
      sym there ∙ ap (λ (x : NodeInfos). slice_get x.infos i) h.facts ∙ info_of_number path s i number in
      record { node = a_node path (mentions_in s) i number; is = cc }

  -- ---- a key's node

  module _ (at : List Part) (k : List ℕ) (i : ℕ) (info : NodeInfo)
      (number : node_number (node_paths (mentions_in s)) (at ++ key k ∷ []) ≡ Some i)
      (there : slice_get t.infos i ≡ Some info) where
    tells : OriginOf info.origin (at ++ key k ∷ []) s
    tells = origin_states (at ++ key k ∷ []) s info (stated_there (at ++ key k ∷ []) i info number there)

    lets : Pairs Allows (marks (mentions_in s))
    lets = marks_let (mentions_in s) h.obeys

    ends : EndsInKey (at ++ key k ∷ [])
    ends = (at, k, refl)

    -- a value
    value_there : (n : ℕ) → info.origin ≡ origin.Value n → has is_value (at ++ key k ∷ []) (mentions_in s) ≡ true
    value_there n e =
        has_of (at ++ key k ∷ []) s h.obeys is_value value_number n
        (subst (λ (p : Origin). OriginOf p (at ++ key k ∷ []) s) e tells)

    value_meets : (r : Role) (n : ℕ) → info.origin ≡ origin.Value n
        → is_refused (marks (mentions_in s)) r (at ++ key k ∷ []) ≡ true
    value_meets r n e =
        value_refuses (at ++ key k ∷ []) (mentions_in s) lets r ends (formed_lines start (lines s)) (value_there n e)

    value_counts : (n : ℕ) → info.origin ≡ origin.Value n
        → elements_of (at ++ key k ∷ []) (tables_in (mentions_in s)) ≡ 0
    value_counts n e =
        no_elements (at ++ key k ∷ []) (mentions_in s)
        (value_unlisted (at ++ key k ∷ []) (mentions_in s) lets ends (formed_lines start (lines s)) (value_there n e))

    -- an array of tables
    element_there : info.origin ≡ origin.Tables → has is_element (at ++ key k ∷ []) (mentions_in s) ≡ true
    element_there e =
        let p : OriginOf origin.Tables (at ++ key k ∷ []) s =
        subst (λ (p : Origin). OriginOf p (at ++ key k ∷ []) s) e tells in
        has_of (at ++ key k ∷ []) s h.obeys is_element statement_number p.1.0 p.1.1

    tables_count : info.origin ≡ origin.Tables → 0 < elements_of (at ++ key k ∷ []) (tables_in (mentions_in s))
    tables_count e = nested.listed at k i number (all_element (at ++ key k ∷ []) (mentions_in s) lets (element_there e))

    -- neither of the two
    pub record IsOpenAt : Type 0 where
      pub none : elements_of (at ++ key k ∷ []) (tables_in (mentions_in s)) ≡ 0
      pub continues : is_refused (marks (mentions_in s)) role.Through (at ++ key k ∷ []) ≡ false
      pub unlisted : is_refused (marks (mentions_in s)) role.Element (at ++ key k ∷ []) ≡ true
      pub defines : is_refused (marks (mentions_in s)) role.Define (at ++ key k ∷ [])
          ≡ not (may_follow Table info.origin)

    abbrev no_element : last_number is_element statement_number (numbered_at (at ++ key k ∷ []) (numbered_in s)) ≡ None
        → elements_of (at ++ key k ∷ []) (tables_in (mentions_in s)) ≡ 0
    no_element e =
        no_elements (at ++ key k ∷ []) (mentions_in s)
        (none_of (at ++ key k ∷ []) s h.obeys is_element statement_number e)

    open_there : (p : Origin) → info.origin ≡ p → OriginOf p (at ++ key k ∷ []) s → ((n : ℕ) → p ≡ origin.Value n → ⊥)
        → (p ≡ origin.Tables → ⊥) → IsOpenAt
    open_there (origin.Value n) e f v g = absurd (v n refl)
    open_there origin.Tables e f v g = absurd (g refl)
    open_there (origin.Element n) e f v g =
        absurd (ends_never_begun (at ++ key k ∷ []) s h.obeys ends
        (has_of (at ++ key k ∷ []) s h.obeys is_begun statement_number n f))
    open_there (origin.Header n) e f v g =
        let some = has_of (at ++ key k ∷ []) s h.obeys is_define statement_number n f.2 in
        record {
          none = no_element f.1;
          continues = define_continues (at ++ key k ∷ []) (mentions_in s) lets some;
          unlisted = define_unlisted (at ++ key k ∷ []) (mentions_in s) lets some;
          defines =
              define_twice (at ++ key k ∷ []) (mentions_in s) lets some
              ∙ sym (ap (λ (p : Origin). not (may_follow Table p)) e);
        }
    open_there (origin.Dotted n) e f v g =
        let some = has_of (at ++ key k ∷ []) s h.obeys is_dotted value_number n f.3 in
        record {
          none = no_element f.1;
          continues = dotted_continues (at ++ key k ∷ []) (mentions_in s) lets some;
          unlisted = dotted_unlisted (at ++ key k ∷ []) (mentions_in s) lets some;
          defines =
              dotted_undefines (at ++ key k ∷ []) (mentions_in s) lets some
              ∙ sym (ap (λ (p : Origin). not (may_follow Table p)) e);
        }
    open_there (origin.Through n) e f v g =
        let some = has_of (at ++ key k ∷ []) s h.obeys is_through statement_number n f.4 in
        record {
          none = no_element f.1;
          continues = through_continues (at ++ key k ∷ []) (mentions_in s) lets some;
          unlisted = through_unlisted (at ++ key k ∷ []) (mentions_in s) lets some;
          defines =
              through_defines (at ++ key k ∷ []) (mentions_in s) lets some
              (none_of (at ++ key k ∷ []) s h.obeys is_define statement_number f.2)
              (none_of (at ++ key k ∷ []) s h.obeys is_dotted value_number f.3)
              ∙ sym (ap (λ (p : Origin). not (may_follow Table p)) e);
        }
    open_there origin.Root e f v g =
        let some : 0 < elements_of (at ++ key k ∷ []) (tables_in (mentions_in s)) =
        nested.listed at k i number
        (past_listed (at ++ key k ∷ []) (mentions_in s) lets
        (none_of (at ++ key k ∷ []) s h.obeys is_value value_number f.0)
        (none_of (at ++ key k ∷ []) s h.obeys is_define statement_number f.2)
        (none_of (at ++ key k ∷ []) s h.obeys is_dotted value_number f.3)
        (none_of (at ++ key k ∷ []) s h.obeys is_through statement_number f.4)) in
        absurd (omega (arith, some, no_element f.1))

    pub is_open : ((n : ℕ) → info.origin ≡ origin.Value n → ⊥) → (info.origin ≡ origin.Tables → ⊥) → IsOpenAt
    is_open v g = open_there info.origin refl tells v g

    -- the last key is refused exactly where it may not follow
    refused_last : (head : Header)
        → is_refused (marks (mentions_in s)) (role_of head) (at ++ key k ∷ []) ≡ not (may_follow head info.origin)
    refused_last head = by head info.origin refl
      where
        open_by : (p : Origin) → info.origin ≡ p → ((n : ℕ) → p ≡ origin.Value n → ⊥) → (p ≡ origin.Tables → ⊥)
            → IsOpenAt
        open_by p e v g = is_open (λ n f. v n (sym e ∙ f)) (λ f. g (sym e ∙ f))

        by : (head : Header) (p : Origin) → info.origin ≡ p
            → is_refused (marks (mentions_in s)) (role_of head) (at ++ key k ∷ []) ≡ not (may_follow head info.origin)
        by Table (origin.Value n) e =
            value_meets role.Define n e ∙ sym (ap (λ (p : Origin). not (may_follow Table p)) e)
        by Table origin.Tables e =
            element_undefines (at ++ key k ∷ []) (mentions_in s) lets (element_there e)
            ∙ sym (ap (λ (p : Origin). not (may_follow Table p)) e)
        by Table (origin.Header n) e = (open_by (origin.Header n) e (λ m f. cc) (λ f. cc)).defines
        by Table (origin.Element n) e = (open_by (origin.Element n) e (λ m f. cc) (λ f. cc)).defines
        by Table (origin.Dotted n) e = (open_by (origin.Dotted n) e (λ m f. cc) (λ f. cc)).defines
        by Table (origin.Through n) e = (open_by (origin.Through n) e (λ m f. cc) (λ f. cc)).defines
        by Table origin.Root e = (open_by origin.Root e (λ m f. cc) (λ f. cc)).defines
        by Element (origin.Value n) e =
            value_meets role.Element n e ∙ sym (ap (λ (p : Origin). not (may_follow Element p)) e)
        by Element origin.Tables e =
            element_again (at ++ key k ∷ []) (mentions_in s) lets (element_there e)
            ∙ sym (ap (λ (p : Origin). not (may_follow Element p)) e)
        by Element (origin.Header n) e =
            (open_by (origin.Header n) e (λ m f. cc) (λ f. cc)).unlisted
            ∙ sym (ap (λ (p : Origin). not (may_follow Element p)) e)
        by Element (origin.Element n) e =
            (open_by (origin.Element n) e (λ m f. cc) (λ f. cc)).unlisted
            ∙ sym (ap (λ (p : Origin). not (may_follow Element p)) e)
        by Element (origin.Dotted n) e =
            (open_by (origin.Dotted n) e (λ m f. cc) (λ f. cc)).unlisted
            ∙ sym (ap (λ (p : Origin). not (may_follow Element p)) e)
        by Element (origin.Through n) e =
            (open_by (origin.Through n) e (λ m f. cc) (λ f. cc)).unlisted
            ∙ sym (ap (λ (p : Origin). not (may_follow Element p)) e)
        by Element origin.Root e =
            (open_by origin.Root e (λ m f. cc) (λ f. cc)).unlisted
            ∙ sym (ap (λ (p : Origin). not (may_follow Element p)) e)

  -- ---- the last key

  pub last_free : (at : List Part) (k : List ℕ) (r : Role) → node_number t.paths (at ++ key k ∷ []) ≡ None
      → conflict_from s at (k ∷ []) r ≡ None
  last_free at k r none =
      ap (λ (b : Bool). cond {A = Option Why} b (Some (why_of r)) None)
      (none_refuses r (at ++ key k ∷ []) (mentions_in s) (none_mentioned (at ++ key k ∷ []) none))

  pub last_met : (at : List Part) (k : List ℕ) (id : NodeId) (info : NodeInfo) (head : Header) (b : Bool)
      (o : Option NodeId) → o ≡ Some id → number_of o ≡ node_number t.paths (at ++ key k ∷ [])
      → slice_get t.infos id.0 ≡ Some info
      → may_follow head info.origin ≡ b
      → conflict_from s at (k ∷ []) (role_of head) ≡ cond b None (Some (why_of (role_of head)))
  last_met at k id info head b o one found there follows =
      ap (λ (x : Bool). cond {A = Option Why} x (Some (why_of (role_of head))) None)
      (refused_last at k id.0 info (number_there (at ++ key k ∷ []) (Some id.0) (sym (ap number_of one) ∙ found)) there
      head ∙ ap (λ (x : Bool). not x) follows)
      ∙ turned b
    where
      turned : (b : Bool)
          → cond {A = Option Why} (not b) (Some (why_of (role_of head))) None
          ≡ cond b None (Some (why_of (role_of head)))
      turned true = refl
      turned false = refl

  -- ---- a key on the way

  and_false : (b : Bool) → (b && false) ≡ false
  and_false true = refl
  and_false false = refl

  unstopped : (path : List Part) → is_refused (marks (mentions_in s)) role.Through path ≡ false
      → is_stopped s path ≡ false
  unstopped path e =
      ap (λ (b : Bool). 0 == elements_of path (tables_in (mentions_in s)) && b) e
      ∙ and_false (0 == elements_of path (tables_in (mentions_in s)))

  stays : (path : List Part) → elements_of path (tables_in (mentions_in s)) ≡ 0 → entered_in s path ≡ path
  stays path e = ap (λ (n : ℕ). cond (0 == n) path (path ++ index (n - 1) ∷ [])) e

  some_elements : (n : ℕ) → 0 < n → (0 == n) ≡ false
  some_elements zero h = absurd (omega arith)
  some_elements (suc n) h = let k : (0 == suc n) ≡ false = grind (arith, nat_tests) in k

  pub enters_none : (path : List Part) → node_number t.paths path ≡ None → EntersAt s t path (Ok None)
  enters_none path none =
      let unsaid = none_mentioned path none in
      let here : entered_in s path ≡ path = stays path (none_counted path (mentions_in s) unsaid) in (
        unstopped path (none_refuses role.Through path (mentions_in s) unsaid),
        λ more. ap (λ (p : List Part). node_number t.paths (p ++ more)) here ∙ none_below path more none,
      )

  module _ (at : List Part) (k : List ℕ) (id : NodeId) (info : NodeInfo) (o : Option NodeId) (one : o ≡ Some id)
      (found : number_of o ≡ node_number t.paths (at ++ key k ∷ [])) (there : slice_get t.infos id.0 ≡ Some info) where
    number : node_number (node_paths (mentions_in s)) (at ++ key k ∷ []) ≡ Some id.0
    number = number_there (at ++ key k ∷ []) (Some id.0) (sym (ap number_of one) ∙ found)

    own : node_number t.paths (at ++ key k ∷ []) ≡ Some id.0
    own = sym found ∙ ap number_of one

    pub enters_refused : (n : ℕ) → info.origin ≡ origin.Value n
        → EntersAt s t (at ++ key k ∷ []) (Err (why_of role.Through))
    enters_refused n e = (
      ap (λ (m : ℕ). 0 == m && is_refused (marks (mentions_in s)) role.Through (at ++ key k ∷ []))
          (value_counts at k id.0 info number there n e) ∙ value_meets at k id.0 info number there role.Through n e,
      refl,
    )

    pub enters_other : ((n : ℕ) → info.origin ≡ origin.Value n → ⊥) → (info.origin ≡ origin.Tables → ⊥)
        → EntersAt s t (at ++ key k ∷ []) (Ok (Some id))
    enters_other v g =
        let open_here = is_open at k id.0 info number there v g in
        let r = number_is t.paths (at ++ key k ∷ []) id.0 own in
        (unstopped (at ++ key k ∷ []) open_here.continues, r.0, r.1 ∙ sym (stays (at ++ key k ∷ []) open_here.none))

    pub enters_tables : (e : info.origin ≡ origin.Tables) (last : Option NodeId)
        → number_of last ≡ nth_child t id.0 (length (children_numbered t id.0) - 1)
        → EntersAt s t (at ++ key k ∷ []) (Ok last)
    enters_tables e last is =
        let some = tables_count at k id.0 info number there e in
        let r = number_is t.paths (at ++ key k ∷ []) id.0 own in
        let free : is_stopped s (at ++ key k ∷ []) ≡ false =
        ap (λ (b : Bool). b && is_refused (marks (mentions_in s)) role.Through (at ++ key k ∷ []))
        (some_elements (elements_of (at ++ key k ∷ []) (tables_in (mentions_in s))) some) in
        let entered : number_of last ≡ node_number t.paths (entered_in s (at ++ key k ∷ [])) =
        is
        ∙ ap (λ (p : List Part).
        option_and_then (node_number t.paths) (slice_get (children p t.paths) (length (children p t.paths) - 1))) r.1
        ∙ ap (λ (ps : List (List Part)).
        option_and_then (node_number ps)
        (slice_get (children (at ++ key k ∷ []) ps) (length (children (at ++ key k ∷ []) ps) - 1))) paths_are
        ∙ nested.entered (at ++ key k ∷ []) id.0 number some
        ∙ ap (λ (ps : List (List Part)). node_number ps (entered_in s (at ++ key k ∷ []))) (sym paths_are) in
        by last entered free
      where
        by : (last : Option NodeId) → number_of last ≡ node_number t.paths (entered_in s (at ++ key k ∷ []))
            → is_stopped s (at ++ key k ∷ []) ≡ false → EntersAt s t (at ++ key k ∷ []) (Ok last)
        by None e free = (free, λ more. none_below (entered_in s (at ++ key k ∷ [])) more (sym e))
        by (Some next) e free =
            let r = number_is t.paths (entered_in s (at ++ key k ∷ [])) next.0 (sym e) in (free, r.0, r.1)

  -- ---- key by key

  free_from : (at : List Part) (keys : List (List ℕ)) (r : Role)
      → ((more : List Part) → node_number t.paths (at ++ more) ≡ None) → conflict_from s at keys r ≡ None
  free_from at [] r none = refl
  free_from at (k ∷ []) r none = last_free at k r (none (key k ∷ []))
  free_from at (k ∷ l ∷ ks) r none =
      let free = enters_none (at ++ key k ∷ []) (none (key k ∷ [])) in
      ap (λ (b : Bool).
      cond b (Some (why_of role.Through)) (conflict_from s (entered_in s (at ++ key k ∷ [])) (l ∷ ks) r)) free.0
      ∙ free_from (entered_in s (at ++ key k ∷ [])) (l ∷ ks) r free.1

  pub walk_free : (at : List Part) (k : List ℕ) (more : List (List ℕ)) (last : List ℕ) (r : Role)
      → EntersAt s t (at ++ key k ∷ []) (Ok None) → conflict_from s at (k ∷ (more ++ last ∷ [])) r ≡ None
  walk_free at k [] last r free =
      ap (λ (b : Bool).
      cond b (Some (why_of role.Through)) (conflict_from s (entered_in s (at ++ key k ∷ [])) (last ∷ []) r)) free.0
      ∙ free_from (entered_in s (at ++ key k ∷ [])) (last ∷ []) r free.1
  walk_free at k (l ∷ more) last r free =
      ap (λ (b : Bool).
      cond b (Some (why_of role.Through))
      (conflict_from s (entered_in s (at ++ key k ∷ [])) (l ∷ (more ++ last ∷ [])) r)) free.0
      ∙ free_from (entered_in s (at ++ key k ∷ [])) (l ∷ (more ++ last ∷ [])) r free.1

  pub walk_refused : (at : List Part) (k : List ℕ) (more : List (List ℕ)) (last : List ℕ) (r : Role) (why : Why)
      → EntersAt s t (at ++ key k ∷ []) (Err why) → conflict_from s at (k ∷ (more ++ last ∷ [])) r ≡ Some why
  walk_refused at k [] last r why stopped =
      ap (λ (b : Bool).
      cond b (Some (why_of role.Through)) (conflict_from s (entered_in s (at ++ key k ∷ [])) (last ∷ []) r)) stopped.0
      ∙ ap Some (sym stopped.1)
  walk_refused at k (l ∷ more) last r why stopped =
      ap (λ (b : Bool).
      cond b (Some (why_of role.Through))
      (conflict_from s (entered_in s (at ++ key k ∷ [])) (l ∷ (more ++ last ∷ [])) r)) stopped.0
      ∙ ap Some (sym stopped.1)

  pub walk_on : (at : List Part) (k : List ℕ) (more : List (List ℕ)) (last : List ℕ) (r : Role) (id : NodeId)
      → EntersAt s t (at ++ key k ∷ []) (Ok (Some id))
      → conflict_from s at (k ∷ (more ++ last ∷ [])) r ≡ conflict_from s (path_numbered t id.0) (more ++ last ∷ []) r
  walk_on at k [] last r id on =
      ap (λ (b : Bool).
      cond b (Some (why_of role.Through)) (conflict_from s (entered_in s (at ++ key k ∷ [])) (last ∷ []) r)) on.0
      ∙ ap (λ (p : List Part). conflict_from s p (last ∷ []) r) (sym on.2)
  walk_on at k (l ∷ more) last r id on =
      ap (λ (b : Bool).
      cond b (Some (why_of role.Through))
      (conflict_from s (entered_in s (at ++ key k ∷ [])) (l ∷ (more ++ last ∷ [])) r)) on.0
      ∙ ap (λ (p : List Part). conflict_from s p (l ∷ (more ++ last ∷ [])) r) (sym on.2)

  -- ---- the root

  pub root_number : (0 < length t.paths) × (path_numbered t 0 ≡ [])
  root_number =
      let r = root_preserved [] (map (λ (m : Mention). m.path) (mentions_in s)) in
      let whole : t.paths ≡ [] ∷ r.0 = paths_are ∙ r.1 in (
        omega (arith, ap (λ (ps : List (List Part)). length ps) whole),
        ap (λ (ps : List (List Part)). slice_index_or ps 0 []) whole,
      )

-- ---- the keys of the code

pub all_keys : (keys prefix : List (String Global)) (last : String Global) → keys ≡ prefix ++ last ∷ []
    → key_texts keys ≡ key_texts (drop 0 prefix) ++ string_bytes last ∷ []
all_keys keys prefix last e = ap key_texts e ∙ map-append string_bytes prefix (last ∷ [])

pub next_keys : (prefix : List (String Global)) (i : ℕ) (x last : String Global) → i < length prefix
    → x ≡ slice_index_or prefix i x
    → key_texts (drop i prefix) ++ string_bytes last ∷ [] ≡ string_bytes x
    ∷ (key_texts (drop (i + 1) prefix) ++ string_bytes last ∷ [])
next_keys prefix i x last less is =
    ap (λ (keys : List (String Global)). key_texts keys ++ string_bytes last ∷ []) (drop_more prefix i x less)
    ∙ ap (λ (y : String Global). string_bytes y ∷ (key_texts (drop (i + 1) prefix) ++ string_bytes last ∷ [])) (sym is)

pub no_keys : (prefix : List (String Global)) (i : ℕ) (last : String Global) → length prefix ≤ i
    → key_texts (drop i prefix) ++ string_bytes last ∷ [] ≡ string_bytes last ∷ []
no_keys prefix i last past =
    at_drop_all (λ (keys : List (String Global)). key_texts keys ++ string_bytes last ∷ []) prefix i past

-- one key more
pub met_next : (s : Document) (at : List Part) (r : Role) (found : Option Why) (prefix : List (String Global)) (i : ℕ)
    (x last : String Global) (name : List ℕ) → i < length prefix → x ≡ slice_index_or prefix i x → name ≡ string_bytes x
    → found ≡ conflict_from s at (key_texts (drop i prefix) ++ string_bytes last ∷ []) r
    → found ≡ conflict_from s at (name ∷ (key_texts (drop (i + 1) prefix) ++ string_bytes last ∷ [])) r
met_next s at r found prefix i x last name less is named e =
    e ∙ ap (λ (keys : List (List ℕ)). conflict_from s at keys r)
    (next_keys prefix i x last less is
    ∙ ap (λ (n : List ℕ). n ∷ (key_texts (drop (i + 1) prefix) ++ string_bytes last ∷ [])) (sym named))
