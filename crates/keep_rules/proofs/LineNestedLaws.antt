-- With one line more the nodes are nested as before, and so they are without it (`line_is_nested`,
-- `line_leaves_nested`).
--
-- The paths are those of before, and the line's path in one place, so a node's number is that of before, or greater by
-- one (`number_more`). What is said of any other path is the same, and so are the `[[..]]` lines. The line's node is in
-- the table that its header opens, which is a node and no array of tables; so it is below a node, and is not the last
-- element that a header may enter.
--
-- Theorems: `line_is_nested` and `line_leaves_nested`.
use Rattle.std.proofs.Common.{◌≡◌, ℕ, ◌-◌, ◌<◌, Bool, true, false, cond, List, [], ◌∷◌, ◌++◌, length, get_or, map, refl}
use Rattle.std.proofs.Common.{sym, ap, subst, ◌∙◌, ◌⊎◌, inl, inr, arith, append_assoc, append-nil, length-append}
use Rattle.std.proofs.Common.{Option, Some, None}
use Rattle.std.specs.Prelude.{filter, slice_get, take, drop}
use Rattle.std.specs.List.{cons_option, filter_map, list_all, insert}
use Rattle.std.specs.Option.{option_map, option_and_then}
use Rattle.std.proofs.lemmas.Bool.{and_parts, false_from_ne_true}
use Rattle.std.proofs.lemmas.List.{get_or_at, take-append-drop}
use Rattle.std.proofs.lemmas.List.Folds.{list_any_at}
use Rattle.std.proofs.lemmas.Map.Views.{Contains-from_any}
use Rattle.keep_types.specs.declared.role.Role.{Role}
use Rattle.keep_types.specs.declared.role.Role.TheVariants.{Element}
use Rattle.keep_syntax.specs.Tree.{Document}
use Rattle.keep_path.specs.NodeInfos.{NodeInfos, earlier_number, later_number}
use Rattle.keep_path.specs.Path.{Part, key, index, last_part, same_path}
use Rattle.keep_path.proofs.Shared.{key_back, last_pushed, path_decides}
use Rattle.keep_meaning.specs.Counts.{statements_in}
use Rattle.keep_meaning.specs.Fact.{Fact}
use Rattle.keep_meaning.specs.LinesMore.{HasLineMore, nodes_after, path_after}
use Rattle.keep_meaning.specs.Marks.{MentionKind, Mention, Reading, Statement, elements_of, entered_path, keyval, marks}
use Rattle.keep_meaning.specs.Marks.{mentions_from, next_reading, reading_after, role_of, start, value}
use Rattle.keep_meaning.specs.Meaning.{mentions_in}
use Rattle.keep_meaning.specs.Nodes.{children, is_at, is_child, is_node, node_number, node_paths}
use Rattle.keep_meaning.specs.Rules.{ObeysRules, allows}
use Rattle.keep_meaning.proofs.Shared.{body_has_no_element, body_is_node, line_adds_node, mentions_in-statements}
use Rattle.keep_meaning.proofs.Shared.{node_met, paths-nodes_in, tables_are_nodes}
use Rattle.keep_rules.specs.LinesNested.{LineIsNested, LineLeavesNested}
use Rattle.keep_rules.specs.Nested.{AreNested}
use Rattle.keep_rules.specs.RoleStates.{mention_roles}
use Rattle.keep_rules.proofs.LookupLemmas.{child_push, none_there, number_is, number_none}
use Rattle.keep_rules.proofs.NestedLemmas.{enters}
use Rattle.keep_rules.proofs.PutLemmas.{filter_get, filter_put, filter_some, number_put}
use Rattle.keep_rules.proofs.ReadLemmas.{mentions_from-append}

pub differ : (b : Bool) → b ≡ true → b ≡ false → ⊥
differ true h g = cc
differ false h g = cc

pub reading_after-append : (r : Reading) (ss ts : List Statement)
    → reading_after r (ss ++ ts) ≡ reading_after (reading_after r ss) ts
reading_after-append r [] ts = refl
reading_after-append r (s ∷ ss) ts = reading_after-append (next_reading r s) ss ts

-- a keyval is no `[[..]]` line
pub tables_past : (before after : List Statement) (nested : List Mention)
    → (reading_after start (before ++ keyval nested ∷ after)).tables ≡ (reading_after start (before ++ after)).tables
tables_past before after nested =
    ap (λ (r : Reading). r.tables) (reading_after-append start before (keyval nested ∷ after))
    ∙ sym (ap (λ (r : Reading). r.tables) (reading_after-append start before after))

-- what the last step of a longer path is
pub snoc_view : (xs : List Part) → (xs ≡ []) ⊎ ((m : List Part) × (x : Part) × (xs ≡ m ++ x ∷ []))
snoc_view [] = inl refl
snoc_view (a ∷ xs) = inr (by (snoc_view xs))
  where
    by : (xs ≡ []) ⊎ ((m : List Part) × (x : Part) × (xs ≡ m ++ x ∷ []))
        → (m : List Part) × (x : Part) × (a ∷ xs ≡ m ++ x ∷ [])
    by (inl e) = ([], a, ap (λ (l : List Part). a ∷ l) e)
    by (inr h) = (a ∷ h.0, h.1, ap (λ (l : List Part). a ∷ l) h.2)

map_none : (f : ℕ → ℕ) (o : Option ℕ) → option_map f o ≡ None → o ≡ None
map_none f None h = refl
map_none f (Some n) h = absurd cc

map_some : (f : ℕ → ℕ) (o : Option ℕ) (i : ℕ) → option_map f o ≡ Some i → (j : ℕ) × (o ≡ Some j)
map_some f None i h = absurd cc
map_some f (Some n) i h = (n, refl)

-- of a path with a value, no `[[..]]` line may follow
abbrev pub kind_of : Mention → MentionKind
kind_of m = m.kind

abbrev pub may_follow : List Role → Bool
may_follow roles = list_all (λ role. allows role Element) roles

not_open : (p : List Part) (f : Fact) (before after : List Mention)
    → may_follow (mention_roles p (before ++ record { path = p; kind = value f } ∷ after)) ≡ true → ⊥
not_open p f [] after h =
    let here : may_follow (mention_roles p (record { path = p; kind = value f } ∷ after)) ≡ false =
    ap (λ (b : Bool).
    may_follow (filter_map role_of
    (map kind_of (cond b (record { path = p; kind = value f } ∷ filter (is_at p) after) (filter (is_at p) after)))))
    ((path_decides p p).1 refl) in
    differ (may_follow (mention_roles p (record { path = p; kind = value f } ∷ after))) h here
not_open p f (m ∷ before) after h = by (is_at p m) h (not_open p f before after)
  where
    said : (o : Option Role)
        → may_follow (cons_option o (mention_roles p (before ++ record { path = p; kind = value f } ∷ after))) ≡ true
        → (may_follow (mention_roles p (before ++ record { path = p; kind = value f } ∷ after)) ≡ true → ⊥) → ⊥
    said None h more = more h
    said (Some s) h more =
        more (and_parts (allows s Element)
        (may_follow (mention_roles p (before ++ record { path = p; kind = value f } ∷ after))) h).1

    by : (b : Bool)
        → may_follow (filter_map role_of
        (map kind_of (cond b (m ∷ filter (is_at p) (before ++ record { path = p; kind = value f } ∷ after))
        (filter (is_at p) (before ++ record { path = p; kind = value f } ∷ after))))) ≡ true
        → (may_follow (mention_roles p (before ++ record { path = p; kind = value f } ∷ after)) ≡ true → ⊥) → ⊥
    by true h more = said (role_of m.kind) h more
    by false h more = more h

module _ (d more : Document) (line : HasLineMore d more)
    (fresh : is_node (path_after line.before line.text) (mentions_in d) ≡ false)
    (obeys : ObeysRules (marks (mentions_in d))) where
  abbrev p : List Part
  p = path_after line.before line.text

  abbrev body : List Part
  body = (reading_after start line.before).body

  abbrev tables : List (List Part)
  tables = (reading_after start (statements_in d)).tables

  abbrev ps : List (List Part)
  ps = node_paths (mentions_in d)

  abbrev qs : List (List Part)
  qs = node_paths (mentions_in more)

  abbrev low : List (List Part)
  low = take (nodes_after line.before) ps

  abbrev high : List (List Part)
  high = drop (nodes_after line.before) ps

  -- ---- what is said, and the paths

  abbrev mx : List Mention
  mx = mentions_from start line.before

  abbrev my : List Mention
  my = mentions_from (reading_after start line.before) line.after

  abbrev own : Mention
  own = record { path = p; kind = value line.fact }

  said_old : mentions_in d ≡ mx ++ my
  said_old =
      mentions_in-statements d ∙ ap (mentions_from start) line.old ∙ mentions_from-append start line.before line.after

  said_new : mentions_in more ≡ mx ++ own ∷ my
  said_new =
      mentions_in-statements more ∙ ap (mentions_from start) line.new
      ∙ mentions_from-append start line.before
      (keyval (record { path = key line.text ∷ []; kind = value line.fact } ∷ []) ∷ line.after)

  tables_same : (reading_after start (statements_in more)).tables ≡ tables
  tables_same =
      ap (λ (ss : List Statement). (reading_after start ss).tables) line.new
      ∙ tables_past line.before line.after (record { path = key line.text ∷ []; kind = value line.fact } ∷ [])
      ∙ ap (λ (ss : List Statement). (reading_after start ss).tables) (sym line.old)

  paths_old : ps ≡ low ++ high
  paths_old = sym (take-append-drop (nodes_after line.before) ps)

  paths_new : qs ≡ low ++ p ∷ high
  paths_new =
      sym (paths-nodes_in more) ∙ ap (λ (t : NodeInfos). t.paths) (line_adds_node d more line fresh)
      ∙ ap (λ (l : List (List Part)). insert l (nodes_after line.before) p) (paths-nodes_in d)

  -- ---- the numbers

  number_more : (q : List Part) → same_path q p ≡ false
      → node_number qs q ≡ option_map (later_number (length low)) (node_number ps q)
  number_more q e =
      ap (λ (l : List (List Part)). node_number l q) paths_new ∙ number_put (same_path q) low high p e
      ∙ ap (λ (l : List (List Part)). option_map (later_number (length low)) (node_number l q)) (sym paths_old)

  not_old : node_number ps p ≡ None
  not_old = number_none ps p (λ there. differ (is_node p (mentions_in d))
      (sym (node_met p (mentions_in d))
      ∙ list_any_at (same_path p) ps there.0 p there.1 ((path_decides p (get_or ps there.0 p)).1 (sym there.2))) fresh)

  is_new : node_number qs p ≡ None → ⊥
  is_new none =
      none_there (low ++ p ∷ high) p (ap (λ (l : List (List Part)). node_number l p) (sym paths_new) ∙ none)
      (length low, omega (arith, length-append low (p ∷ high)), get_or_at low p high p (length low) refl)

  -- a node of before has another path
  old_other : (q : List Part) (j : ℕ) → node_number ps q ≡ Some j → same_path q p ≡ false
  old_other q j is = false_from_ne_true (same_path q p) (λ e.
      let clash : Some j ≡ None = sym is ∙ ap (node_number ps) ((path_decides q p).0 e) ∙ not_old in cc)

  none_other : (q : List Part) → node_number qs q ≡ None → same_path q p ≡ false
  none_other q none =
      false_from_ne_true (same_path q p) (λ e. is_new (ap (node_number qs) (sym ((path_decides q p).0 e)) ∙ none))

  none_old : (q : List Part) → node_number qs q ≡ None → node_number ps q ≡ None
  none_old q none =
      map_none (later_number (length low)) (node_number ps q) (sym (number_more q (none_other q none)) ∙ none)

  none_new : (q : List Part) → same_path q p ≡ false → node_number ps q ≡ None → node_number qs q ≡ None
  none_new q other none = number_more q other ∙ ap (option_map (later_number (length low))) none

  -- ---- what is said of another path

  roles_same : (q : List Part) → same_path q p ≡ false
      → mention_roles q (mentions_in more) ≡ mention_roles q (mentions_in d)
  roles_same q e =
      let other : is_at q own ≡ false =
      false_from_ne_true (is_at q own)
      (λ is. differ (same_path q p) ((path_decides q p).1 (sym ((path_decides p q).0 is))) e) in
      ap (mention_roles q) said_new
      ∙ ap (λ (ms : List Mention). filter_map role_of (map kind_of ms)) (filter_put (is_at q) mx my own other)
      ∙ ap (mention_roles q) (sym said_old)

  -- ---- below other nodes

  not_below : (path : List Part) → 0 < elements_of path tables → is_child path p ≡ false
  not_below path some = false_from_ne_true (is_child path p) (λ is.
      let same : path ≡ body = (path_decides path body).0 (sym (child_push path body (key line.text)) ∙ is) in
      body_has_no_element d line.before line.after line.old obeys
      (subst (λ (q : List Part). 0 < elements_of q tables) same some))

  children_same : (path : List Part) → 0 < elements_of path tables → children path qs ≡ children path ps
  children_same path some =
      ap (children path) paths_new ∙ filter_put (is_child path) low high p (not_below path some)
      ∙ ap (children path) (sym paths_old)

  entered_other : (path : List Part) → 0 < elements_of path tables → same_path (entered_path tables path) p ≡ false
  entered_other path some = false_from_ne_true (same_path (entered_path tables path) p) (λ is.
      let n : ℕ = elements_of path tables - 1 in
      let same : path ++ index n ∷ [] ≡ body ++ key line.text ∷ [] =
      sym (enters tables path (elements_of path tables) refl some) ∙ (path_decides (entered_path tables path) p).0 is in
      let clash : Some (index n) ≡ Some (key line.text) =
      sym (last_pushed path (index n)) ∙ ap last_part same ∙ last_pushed body (key line.text) in
      cc)

  -- the number of the last node below
  last_number : (path : List Part) → 0 < elements_of path tables → (i : ℕ)
      → option_and_then (node_number qs) (slice_get (children path ps) i)
      ≡ option_map (later_number (length low)) (option_and_then (node_number ps) (slice_get (children path ps) i))
  last_number path some i = by (slice_get (children path ps) i) refl
    where
      by : (o : Option (List Part)) → slice_get (children path ps) i ≡ o
          → option_and_then (node_number qs) o
          ≡ option_map (later_number (length low)) (option_and_then (node_number ps) o)
      by None is = refl
      by (Some q) is = number_more q (false_from_ne_true (same_path q p) (λ e.
          differ (is_child path p) (ap (is_child path) (sym ((path_decides q p).0 e))
          ∙ filter_get (is_child path) ps i q is) (not_below path some)))

  last_entered : (path : List Part) → 0 < elements_of path tables
      → option_and_then (node_number qs) (slice_get (children path qs) (length (children path qs) - 1))
      ≡ option_map (later_number (length low))
      (option_and_then (node_number ps) (slice_get (children path ps) (length (children path ps) - 1)))
  last_entered path some =
      ap (λ (l : List (List Part)). option_and_then (node_number qs) (slice_get l (length l - 1)))
      (children_same path some) ∙ last_number path some (length (children path ps) - 1)

  last_same : (path : List Part) → 0 < elements_of path tables
      → option_map (later_number (length low)) (node_number ps (entered_path tables path))
      ≡ node_number qs (entered_path tables path)
  last_same path some = sym (number_more (entered_path tables path) (entered_other path some))

  -- ---- with the line

  body_there : node_number ps body ≡ None → ⊥
  body_there none =
      none_there ps body none (Contains-from_any (λ x y e. (path_decides x y).0 e) body ps
      (node_met body (mentions_in d) ∙ body_is_node d line.before line.after line.old))

  -- a path above the line's is that of a node
  not_above : AreNested (mentions_in d) tables → (path rest : List Part) → node_number qs path ≡ None → path ++ rest ≡ p
      → ⊥
  not_above nested path rest none is = by (snoc_view rest)
    where
      by : (rest ≡ []) ⊎ ((m : List Part) × (x : Part) × (rest ≡ m ++ x ∷ [])) → ⊥
      by (inl e) = is_new (ap (node_number qs) (sym is ∙ ap (λ (l : List Part). path ++ l) e ∙ append-nil path) ∙ none)
      by (inr h) =
          let longer : (path ++ h.0) ++ h.1 ∷ [] ≡ p =
          append_assoc path h.0 (h.1 ∷ []) ∙ ap (λ (l : List Part). path ++ l) (sym h.2) ∙ is in
          let child : is_child (path ++ h.0) p ≡ true =
          ap (is_child (path ++ h.0)) (sym longer) ∙ child_push (path ++ h.0) (path ++ h.0) h.1
          ∙ (path_decides (path ++ h.0) (path ++ h.0)).1 refl in
          let same : path ++ h.0 ≡ body =
          (path_decides (path ++ h.0) body).0 (sym (child_push (path ++ h.0) body (key line.text)) ∙ child) in
          body_there (ap (node_number ps) (sym same) ∙ nested.closed path h.0 (none_old path none))

  pub nested_more : AreNested (mentions_in d) tables → AreNested (mentions_in more) tables
  nested_more nested = record { closed = closed; listed = listed; entered = entered }
    where
      closed : (path rest : List Part) → node_number qs path ≡ None → node_number qs (path ++ rest) ≡ None
      closed path rest none =
          none_new (path ++ rest) (false_from_ne_true (same_path (path ++ rest) p) (λ e.
          not_above nested path rest none ((path_decides (path ++ rest) p).0 e)))
          (nested.closed path rest (none_old path none))

      listed : (path : List Part) (k : List ℕ) (i : ℕ) → node_number qs (path ++ key k ∷ []) ≡ Some i
          → list_all (λ role. allows role Element) (mention_roles (path ++ key k ∷ []) (mentions_in more)) ≡ true
          → 0 < elements_of (path ++ key k ∷ []) tables
      listed path k i is open_to =
          let q : List Part = path ++ key k ∷ [] in
          let other : same_path q p ≡ false = false_from_ne_true (same_path q p) (λ e.
          not_open p line.fact mx my (ap may_follow (sym (ap (mention_roles p) said_new))
          ∙ ap (λ (l : List Part). may_follow (mention_roles l (mentions_in more))) (sym ((path_decides q p).0 e))
          ∙ open_to)) in
          let old = map_some (later_number (length low)) (node_number ps q) i (sym (number_more q other) ∙ is) in
          nested.listed path k old.0 old.1 (ap may_follow (sym (roles_same q other)) ∙ open_to)

      entered : (path : List Part) (i : ℕ) → node_number qs path ≡ Some i → 0 < elements_of path tables
          → option_and_then (node_number qs) (slice_get (children path qs) (length (children path qs) - 1))
          ≡ node_number qs (entered_path tables path)
      entered path i is some =
          let other : same_path path p ≡ false = false_from_ne_true (same_path path p) (λ e.
          differ (is_node p (mentions_in d))
          (ap (λ (l : List Part). is_node l (mentions_in d)) (sym ((path_decides path p).0 e))
          ∙ tables_are_nodes d line.before line.after line.old path some) fresh) in
          let old = map_some (later_number (length low)) (node_number ps path) i (sym (number_more path other) ∙ is) in
          last_entered path some ∙ ap (option_map (later_number (length low))) (nested.entered path old.0 old.1 some)
          ∙ last_same path some

  -- ---- without it

  one_number : (o u : Option ℕ) → option_map (later_number (length low)) o ≡ option_map (later_number (length low)) u
      → o ≡ u
  one_number o u e =
      sym (key_back (length low) o) ∙ ap (option_map (earlier_number (length low))) e ∙ key_back (length low) u

  pub nested_less : children p qs ≡ [] → AreNested (mentions_in more) tables → AreNested (mentions_in d) tables
  nested_less alone nested = record { closed = closed; listed = listed; entered = entered }
    where
      none_less : (q : List Part) → same_path q p ≡ false → node_number qs q ≡ None → node_number ps q ≡ None
      none_less q other none =
          map_none (later_number (length low)) (node_number ps q) (sym (number_more q other) ∙ none)

      no_child : (x : Part) → node_number qs (p ++ x ∷ []) ≡ None
      no_child x = by (node_number qs (p ++ x ∷ [])) refl
        where
          by : (o : Option ℕ) → node_number qs (p ++ x ∷ []) ≡ o → o ≡ None
          by None e = refl
          by (Some i) e =
              let there = number_is qs (p ++ x ∷ []) i e in
              absurd (filter_some (is_child p) qs i [] there.0
              (ap (is_child p) there.1 ∙ child_push p p x ∙ (path_decides p p).1 refl) alone)

      below_none : (rest : List Part) → node_number ps (p ++ rest) ≡ None
      below_none [] = ap (node_number ps) (append-nil p) ∙ not_old
      below_none (x ∷ rest) =
          let whole : (p ++ x ∷ []) ++ rest ≡ p ++ x ∷ rest = append_assoc p (x ∷ []) rest in
          let none : node_number qs (p ++ x ∷ rest) ≡ None =
          ap (node_number qs) (sym whole) ∙ nested.closed (p ++ x ∷ []) rest (no_child x) in
          none_less (p ++ x ∷ rest) (none_other (p ++ x ∷ rest) none) none

      closed : (path rest : List Part) → node_number ps path ≡ None → node_number ps (path ++ rest) ≡ None
      closed path rest none = by (same_path path p) refl
        where
          longer : (b : Bool) → same_path (path ++ rest) p ≡ b → same_path path p ≡ false
              → node_number ps (path ++ rest) ≡ None
          longer true e other = ap (node_number ps) ((path_decides (path ++ rest) p).0 e) ∙ not_old
          longer false e other = none_less (path ++ rest) e (nested.closed path rest (none_new path other none))

          by : (b : Bool) → same_path path p ≡ b → node_number ps (path ++ rest) ≡ None
          by true e = ap (λ (l : List Part). node_number ps (l ++ rest)) ((path_decides path p).0 e) ∙ below_none rest
          by false e = longer (same_path (path ++ rest) p) refl e

      now : (q : List Part) (j : ℕ) → node_number ps q ≡ Some j → node_number qs q ≡ Some (later_number (length low) j)
      now q j is = number_more q (old_other q j is) ∙ ap (option_map (later_number (length low))) is

      listed : (path : List Part) (k : List ℕ) (i : ℕ) → node_number ps (path ++ key k ∷ []) ≡ Some i
          → list_all (λ role. allows role Element) (mention_roles (path ++ key k ∷ []) (mentions_in d)) ≡ true
          → 0 < elements_of (path ++ key k ∷ []) tables
      listed path k i is open_to =
          let q : List Part = path ++ key k ∷ [] in
          nested.listed path k (later_number (length low) i) (now q i is)
          (ap may_follow (roles_same q (old_other q i is)) ∙ open_to)

      entered : (path : List Part) (i : ℕ) → node_number ps path ≡ Some i → 0 < elements_of path tables
          → option_and_then (node_number ps) (slice_get (children path ps) (length (children path ps) - 1))
          ≡ node_number ps (entered_path tables path)
      entered path i is some =
          one_number (option_and_then (node_number ps) (slice_get (children path ps) (length (children path ps) - 1)))
          (node_number ps (entered_path tables path))
          (sym (last_entered path some) ∙ nested.entered path (later_number (length low) i) (now path i is) some
          ∙ sym (last_same path some))

pub line_is_nested : LineIsNested
line_is_nested d more line fresh obeys nested =
    subst (AreNested (mentions_in more)) (sym (tables_same d more line fresh obeys))
    (nested_more d more line fresh obeys nested)

pub line_leaves_nested : LineLeavesNested
line_leaves_nested d more line fresh obeys alone nested =
    nested_less d more line fresh obeys alone
    (subst (AreNested (mentions_in more)) (tables_same d more line fresh obeys) nested)
