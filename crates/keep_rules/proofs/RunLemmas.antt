-- A run of mentions, of one path and of paths below it, among others.
--
-- A path that is not at or below the run's is beside it (`within_or_beside`), and of it the run says nothing. So the
-- same is said of it with the run and without it (`met_off`, `roles_off`), and the nodes one step below it are the
-- same, but for the run's own path (`children_off`). Of its own path, and of those below, the run alone says anything
-- (`met_within`); it says something of each such path above another (`above_within`), and lets no `[[..]]` name a key
-- there (`open_beside`).
--
-- Theorems: `met_off`, `roles_off`, `children_off`, `met_within`, `above_within`, `open_beside`, and `entered_from`: a
-- header enters the last element of an array of tables with other mentions too, where the nodes below it are the same.
use Rattle.std.proofs.Common.{◌≡◌, ℕ, ◌-◌, ◌<◌, Bool, true, false, cond, ◌&&◌, ◌||◌, List, [], ◌∷◌, ◌++◌, length, map}
use Rattle.std.proofs.Common.{refl, sym, ap, ap₂, ◌∙◌, ◌⊎◌, inl, inr, append_assoc, append-nil, Option, Some, None}
use Rattle.std.specs.Prelude.{filter, fold, slice_get}
use Rattle.std.specs.List.{AllByRecursion, cons_option, filter_map, list_any}
use Rattle.std.specs.Option.{option_and_then}
use Rattle.std.proofs.lemmas.Bool.{and_parts, false_from_ne_true, or_from, or_left}
use Rattle.std.proofs.lemmas.List.{map-append}
use Rattle.std.proofs.lemmas.List.Elements.{filter-append, filter_map-append}
use Rattle.std.proofs.lemmas.List.Folds.{list_all-append, list_any-append}
use Rattle.keep_types.specs.declared.role.Role.{Role}
use Rattle.keep_types.specs.declared.role.Role.TheVariants.{Element}
use Rattle.keep_path.specs.Path.{Part, key, last_part, same_part, same_path, strip}
use Rattle.keep_path.proofs.Shared.{last_pushed, path_decides}
use Rattle.keep_meaning.specs.Marks.{Mention, MentionKind, below, elements_of, entered_path, role_of}
use Rattle.keep_meaning.specs.Nodes.{children, is_at, is_child, is_element, is_node, is_root, node_number, node_paths}
use Rattle.keep_meaning.specs.Nodes.{paths_with}
use Rattle.keep_meaning.specs.Rules.{allows}
use Rattle.keep_meaning.proofs.Shared.{node_met}
use Rattle.keep_rules.specs.Nested.{AreNested}
use Rattle.keep_rules.specs.RoleStates.{mention_roles}
use Rattle.keep_rules.proofs.AllInfoLemmas.{IsMet, IsUnmet, met_or_unmet}
use Rattle.keep_rules.proofs.InsideValueLemmas.{AreClosed, IsBare, IsInside, all_mapped, last_below}
use Rattle.keep_rules.proofs.LineNestedLaws.{differ, kind_of, may_follow, snoc_view}
use Rattle.keep_rules.proofs.LookupLemmas.{child_push, no_child_root, number_is}
use Rattle.keep_rules.proofs.NestedGrowthLemmas.{not_none, number_there}

-- ---- lists with a run in the middle

pub none_any : {A : Type 0} (P : A → Type 0) (test : A → Bool) → ((x : A) → P x → test x ≡ false) → (xs : List A)
    → AllByRecursion P xs → list_any test xs ≡ false
none_any P test none [] h = refl
none_any P test none (x ∷ xs) h = or_from (test x) (list_any test xs) (none x h.0) (none_any P test none xs h.1)

none_filter : {A : Type 0} (P : A → Type 0) (test : A → Bool) → ((x : A) → P x → test x ≡ false) → (xs : List A)
    → AllByRecursion P xs → filter test xs ≡ []
none_filter P test none [] h = refl
none_filter P test none (x ∷ xs) h =
    ap (λ (b : Bool). cond b (x ∷ filter test xs) (filter test xs)) (none x h.0) ∙ none_filter P test none xs h.1

any_beside : {A : Type 0} (test : A → Bool) (xs ys zs : List A) → list_any test ys ≡ false
    → list_any test (xs ++ (ys ++ zs)) ≡ (list_any test xs || list_any test zs)
any_beside test xs ys zs none =
    list_any-append test xs (ys ++ zs)
    ∙ ap (λ (b : Bool). list_any test xs || b)
    (list_any-append test ys zs ∙ ap (λ (b : Bool). b || list_any test zs) none)

pub any_within : {A : Type 0} (test : A → Bool) (xs ys zs : List A) → list_any test xs ≡ false
    → list_any test zs ≡ false → list_any test (xs ++ (ys ++ zs)) ≡ list_any test ys
any_within test xs ys zs left right =
    list_any-append test xs (ys ++ zs)
    ∙ ap₂ (λ (a b : Bool). a || b) left
    (list_any-append test ys zs ∙ ap (λ (b : Bool). list_any test ys || b) right ∙ or_false (list_any test ys))
  where
    or_false : (b : Bool) → (b || false) ≡ b
    or_false true = refl
    or_false false = refl

-- ---- paths at, below and beside another

-- it is not at or below the path
abbrev pub IsBeside : List Part → List Part → Type 0
IsBeside path q = (r : List Part) → q ≡ path ++ r → ⊥

pub same_self : (a : Part) → same_part a a ≡ true
same_self a = (and_parts (same_part a a) true ((path_decides (a ∷ []) (a ∷ [])).1 refl)).0

strip_whole : (path r : List Part) → strip path (path ++ r) ≡ Some r
strip_whole [] r = refl
strip_whole (a ∷ path) r = rw (strip, same_self a) (strip_whole path r)

pub stripped_beside : (path q : List Part) → strip path q ≡ None → IsBeside path q
stripped_beside path q none r e =
    let clash : Some r ≡ None = sym (strip_whole path r) ∙ ap (strip path) (sym e) ∙ none in cc

-- it is at or below the path, or beside it
pub within_or_beside : (path q : List Part) → ((r : List Part) × (q ≡ path ++ r)) ⊎ IsBeside path q
within_or_beside [] q = inl (q, refl)
within_or_beside (a ∷ path) [] = inr (λ r e. cc)
within_or_beside (a ∷ path) (b ∷ q) = by (same_path (a ∷ []) (b ∷ [])) refl (within_or_beside path q)
  where
    by : (t : Bool) → same_path (a ∷ []) (b ∷ []) ≡ t → ((r : List Part) × (q ≡ path ++ r)) ⊎ IsBeside path q
        → ((r : List Part) × (b ∷ q ≡ a ∷ path ++ r)) ⊎ IsBeside (a ∷ path) (b ∷ q)
    by true e (inl h) =
        let one : a ∷ [] ≡ b ∷ [] = (path_decides (a ∷ []) (b ∷ [])).0 e in
        let first : b ≡ a = cc in
        inl (h.0, ap₂ (λ (x : Part) (l : List Part). x ∷ l) first h.1)
    by true e (inr h) = inr (λ r is. let rest : q ≡ path ++ r = cc in h r rest)
    by false e h = inr (λ r is.
        let first : a ≡ b = cc in
        differ (same_path (a ∷ []) (b ∷ [])) ((path_decides (a ∷ []) (b ∷ [])).1 (ap (λ (x : Part). x ∷ []) first)) e)

-- of two prefixes of a path one is a prefix of the other
pub one_above : (p more path r : List Part) → p ++ more ≡ path ++ r
    → ((s : List Part) × (path ≡ p ++ s)) ⊎ ((s : List Part) × (p ≡ path ++ s))
one_above [] more path r e = inl (path, refl)
one_above (a ∷ p) more [] r e = inr (a ∷ p, refl)
one_above (a ∷ p) more (b ∷ path) r e =
    let first : a ≡ b = cc in
    let rest : p ++ more ≡ path ++ r = cc in
    by first (one_above p more path r rest)
  where
    by : a ≡ b → ((s : List Part) × (path ≡ p ++ s)) ⊎ ((s : List Part) × (p ≡ path ++ s))
        → ((s : List Part) × (b ∷ path ≡ a ∷ p ++ s)) ⊎ ((s : List Part) × (a ∷ p ≡ b ∷ path ++ s))
    by first (inl h) = inl (h.0, ap₂ (λ (x : Part) (l : List Part). x ∷ l) (sym first) h.1)
    by first (inr h) = inr (h.0, ap₂ (λ (x : Part) (l : List Part). x ∷ l) first h.1)

same_further : (path p q : List Part) → same_path (path ++ p) (path ++ q) ≡ same_path p q
same_further [] p q = refl
same_further (a ∷ path) p q =
    ap (λ (b : Bool). b && same_path (path ++ p) (path ++ q)) (same_self a) ∙ same_further path p q

-- ---- the nodes one step below a path, by what is mentioned

any_filter : (test : List Part → Bool) (p : List Part) → test p ≡ true → (ps : List (List Part))
    → list_any (same_path p) (filter test ps) ≡ list_any (same_path p) ps
any_filter test p passes [] = refl
any_filter test p passes (x ∷ ps) = by (test x) refl (any_filter test p passes ps)
  where
    by : (b : Bool) → test x ≡ b → list_any (same_path p) (filter test ps) ≡ list_any (same_path p) ps
        → list_any (same_path p) (cond b (x ∷ filter test ps) (filter test ps))
        ≡ (same_path p x || list_any (same_path p) ps)
    by true e more = ap (λ (b : Bool). same_path p x || b) more
    by false e more =
        let other : same_path p x ≡ false =
        false_from_ne_true (same_path p x)
        (λ is. differ (test x) (ap test (sym ((path_decides p x).0 is)) ∙ passes) e) in
        more ∙ ap (λ (b : Bool). b || list_any (same_path p) ps) (sym other)

filter_with : (test : List Part → Bool) (ps : List (List Part)) (p : List Part)
    → filter test (paths_with ps p) ≡ cond (test p) (paths_with (filter test ps) p) (filter test ps)
filter_with test ps p = by (test p) refl (list_any (same_path p) ps) refl
  where
    by : (b : Bool) → test p ≡ b → (t : Bool) → list_any (same_path p) ps ≡ t
        → filter test (cond t ps (ps ++ p ∷ [])) ≡ cond b (paths_with (filter test ps) p) (filter test ps)
    by true e true met =
        sym (ap (λ (b : Bool). cond b (filter test ps) (filter test ps ++ p ∷ [])) (any_filter test p e ps ∙ met))
    by true e false unmet =
        filter-append test ps (p ∷ []) ∙ ap (λ (b : Bool). filter test ps ++ cond b (p ∷ []) []) e
        ∙ sym (ap (λ (b : Bool). cond b (filter test ps) (filter test ps ++ p ∷ [])) (any_filter test p e ps ∙ unmet))
    by false e true met = refl
    by false e false unmet =
        filter-append test ps (p ∷ []) ∙ ap (λ (b : Bool). filter test ps ++ cond b (p ∷ []) []) e
        ∙ append-nil (filter test ps)

filter_fold : (test : List Part → Bool) (ps qs : List (List Part))
    → filter test (fold paths_with ps qs) ≡ fold paths_with (filter test ps) (filter test qs)
filter_fold test ps [] = refl
filter_fold test ps (q ∷ qs) =
    filter_fold test (paths_with ps q) qs
    ∙ ap (λ (l : List (List Part)). fold paths_with l (filter test qs)) (filter_with test ps q) ∙ by (test q)
  where
    by : (b : Bool) → fold paths_with (cond b (paths_with (filter test ps) q) (filter test ps)) (filter test qs)
        ≡ fold paths_with (filter test ps) (cond b (q ∷ filter test qs) (filter test qs))
    by true = refl
    by false = refl

abbrev path_of : Mention → List Part
path_of m = m.path

abbrev pub children_in : List Part → List Mention → List (List Part)
children_in t ms = filter (is_child t) (map path_of ms)

pub children_said : (t : List Part) (ms : List Mention)
    → children t (node_paths ms) ≡ fold paths_with [] (children_in t ms)
children_said t ms =
    filter_fold (is_child t) ([] ∷ []) (map path_of ms)
    ∙ ap (λ (b : Bool). fold paths_with (cond b ([] ∷ []) []) (children_in t ms)) (no_child_root t)

pub children_join : (t : List Part) (xs ys : List Mention)
    → children_in t (xs ++ ys) ≡ children_in t xs ++ children_in t ys
children_join t xs ys =
    ap (filter (is_child t)) (map-append path_of xs ys)
    ∙ filter-append (is_child t) (map path_of xs) (map path_of ys)

-- ---- nodes, and what is mentioned

number_none_of : (q : List Part) (ms : List Mention) → is_node q ms ≡ false → node_number (node_paths ms) q ≡ None
number_none_of q ms unmet = by (met_or_unmet (node_paths ms) q)
  where
    by : IsMet (node_paths ms) q ⊎ IsUnmet (node_paths ms) q → node_number (node_paths ms) q ≡ None
    by (inl m) = absurd (differ (list_any (same_path q) (node_paths ms)) m.met (node_met q ms ∙ unmet))
    by (inr u) = u.is

node_none_of : (q : List Part) (ms : List Mention) → node_number (node_paths ms) q ≡ None → is_node q ms ≡ false
node_none_of q ms none = false_from_ne_true (is_node q ms) (λ e. not_none (node_paths ms) q none (node_met q ms ∙ e))

-- each path above a node's is that of a node
abbrev pub AreNodesAbove : List Mention → Type 0
AreNodesAbove ms = (p more : List Part) → is_node (p ++ more) ms ≡ true → is_node p ms ≡ true

pub nodes_above : (ms : List Mention) → ((path more : List Part) → node_number (node_paths ms) path ≡ None
    → node_number (node_paths ms) (path ++ more) ≡ None) → AreNodesAbove ms
nodes_above ms closed p more there = by (is_node p ms) refl
  where
    by : (b : Bool) → is_node p ms ≡ b → b ≡ true
    by true e = refl
    by false e = absurd
        (differ (is_node (p ++ more) ms) there (node_none_of (p ++ more) ms (closed p more (number_none_of p ms e))))

pub none_below : (ms : List Mention) → AreNodesAbove ms → (path more : List Part)
    → node_number (node_paths ms) path ≡ None
    → node_number (node_paths ms) (path ++ more) ≡ None
none_below ms above path more none =
    number_none_of (path ++ more) ms (false_from_ne_true (is_node (path ++ more) ms)
    (λ there. differ (is_node path ms) (above path more there) (node_none_of path ms none)))

abbrev roles_in : List Mention → List Role
roles_in ms = filter_map role_of (map kind_of ms)

-- ---- where a header enters

-- the last child of an array of tables is the element that a header enters, with other mentions too, if they have the
-- same children there
pub entered_from : (ms ns : List Mention) (tables : List (List Part)) → AreNested ms tables → (t : List Part)
    → 0 < elements_of t tables → is_node t ms ≡ true → is_node (entered_path tables t) ms ≡ true
    → children t (node_paths ms) ≡ children t (node_paths ns)
    → option_and_then (node_number (node_paths ns))
    (slice_get (children t (node_paths ns)) (length (children t (node_paths ns)) - 1))
    ≡ node_number (node_paths ns) (entered_path tables t)
entered_from ms ns tables nested t some there last_there same =
    let e : List Part = entered_path tables t in
    let here = number_there (node_paths ms) t (node_met t ms ∙ there) in
    let last = number_there (node_paths ms) e (node_met e ms ∙ last_there) in
    ap (λ (l : List (List Part)). option_and_then (node_number (node_paths ns)) (slice_get l (length l - 1))) (sym same)
    ∙ ap (option_and_then (node_number (node_paths ns)))
    (by (slice_get (children t (node_paths ms)) (length (children t (node_paths ms)) - 1)) last.0 last.1
    (nested.entered t here.0 here.1 some ∙ last.1))
  where
    by : (o : Option (List Part)) (j : ℕ) → node_number (node_paths ms) (entered_path tables t) ≡ Some j
        → option_and_then (node_number (node_paths ms)) o ≡ Some j → o ≡ Some (entered_path tables t)
    by None j last h = absurd cc
    by (Some c) j last h =
        let one = number_is (node_paths ms) c j h in
        let other = number_is (node_paths ms) (entered_path tables t) j last in
        ap Some (sym one.1 ∙ other.1)

-- ---- which keys a `[[..]]` may name

-- it is no `[[..]]`, and if it is of a key, none may name that
abbrev pub IsClosedTo : Mention → Type 0
IsClosedTo m = (is_element m.kind ≡ false) × IsBare m

-- a key of which only such things are said may not be named by a further `[[..]]`
closed_to : (q : List Part) (k : List ℕ) → last_part q ≡ Some (key k) → (ms : List Mention)
    → AllByRecursion IsClosedTo ms → list_any (is_at q) ms ≡ true → may_follow (mention_roles q ms) ≡ true → ⊥
closed_to q k last [] closed said open_to = cc
closed_to q k last (m ∷ ms) closed said open_to = by (is_at q m) refl said open_to (closed_to q k last ms closed.1)
  where
    here : (o : Option Role) → may_follow (cons_option o []) ≡ false
        → may_follow (cons_option o (mention_roles q ms)) ≡ true → ⊥
    here None bare h = cc
    here (Some r) bare h =
        let first = (and_parts (allows r Element) (may_follow (mention_roles q ms)) h).0 in
        differ (may_follow (r ∷ [])) (ap (λ (b : Bool). b && true) first) bare

    by : (b : Bool) → is_at q m ≡ b → (b || list_any (is_at q) ms) ≡ true
        → may_follow (roles_in (cond b (m ∷ filter (is_at q) ms) (filter (is_at q) ms))) ≡ true
        → (list_any (is_at q) ms ≡ true → may_follow (mention_roles q ms) ≡ true → ⊥) → ⊥
    by true e said open_to more =
        here (role_of m.kind) (closed.0.1 k (ap last_part ((path_decides m.path q).0 e) ∙ last)) open_to
    by false e said open_to more = more said open_to

may_join : (q : List Part) (xs ys : List Mention)
    → may_follow (mention_roles q (xs ++ ys)) ≡ (may_follow (mention_roles q xs) && may_follow (mention_roles q ys))
may_join q xs ys =
    let left : List Mention = filter (is_at q) xs in
    let right : List Mention = filter (is_at q) ys in
    ap (λ (ms : List Mention). may_follow (roles_in ms)) (filter-append (is_at q) xs ys)
    ∙ ap (λ (ks : List MentionKind). may_follow (filter_map role_of ks)) (map-append kind_of left right)
    ∙ ap may_follow (filter_map-append role_of (map kind_of left) (map kind_of right))
    ∙ list_all-append (λ role. allows role Element) (mention_roles q xs) (mention_roles q ys)

-- what may follow all that is said may follow each part of it
may_follow_parts : (q : List Part) (before run after : List Mention)
    → may_follow (mention_roles q (before ++ (run ++ after))) ≡ true
    → (may_follow (mention_roles q before) ≡ true) × (may_follow (mention_roles q run) ≡ true)
    × (may_follow (mention_roles q after) ≡ true)
may_follow_parts q before run after open_to =
    let first = and_parts (may_follow (mention_roles q before)) (may_follow (mention_roles q (run ++ after)))
    (sym (may_join q before (run ++ after)) ∙ open_to) in
    let second = and_parts (may_follow (mention_roles q run)) (may_follow (mention_roles q after))
    (sym (may_join q run after) ∙ first.1) in (first.0, second.0, second.1)

may_follow_run : (q : List Part) (before run after : List Mention)
    → may_follow (mention_roles q (before ++ (run ++ after))) ≡ true → may_follow (mention_roles q run) ≡ true
may_follow_run q before run after open_to = (may_follow_parts q before run after open_to).1

-- and what is left without one
pub may_follow_rest : (q : List Part) (before run after : List Mention)
    → may_follow (mention_roles q (before ++ (run ++ after))) ≡ true
    → may_follow (mention_roles q (before ++ after)) ≡ true
may_follow_rest q before run after open_to =
    let parts = may_follow_parts q before run after open_to in
    may_join q before after ∙ ap₂ (λ (a b : Bool). a && b) parts.0 parts.2

-- and what is said with one that it may follow
pub may_follow_with : (q : List Part) (before run after : List Mention)
    → may_follow (mention_roles q (before ++ after)) ≡ true → may_follow (mention_roles q run) ≡ true
    → may_follow (mention_roles q (before ++ (run ++ after))) ≡ true
may_follow_with q before run after open_to its =
    let parts = and_parts (may_follow (mention_roles q before)) (may_follow (mention_roles q after))
    (sym (may_join q before after) ∙ open_to) in
    may_join q before (run ++ after)
    ∙ ap₂ (λ (a b : Bool). a && b) parts.0 (may_join q run after ∙ ap₂ (λ (a b : Bool). a && b) its parts.1)

-- a key's path is not the root's, so something is said of it if it is a node's
key_said : (p : List Part) (k : List ℕ) (ms : List Mention) → is_node (p ++ key k ∷ []) ms ≡ true
    → list_any (is_at (p ++ key k ∷ [])) ms ≡ true
key_said [] k ms h = h
key_said (a ∷ p) k ms h = h

-- ---- the run

module _ (path : List Part) where
  -- said of a path beside the run's
  abbrev pub IsSaidBeside : Mention → Type 0
  IsSaidBeside m = IsBeside path m.path

  -- said of it, or of a path below
  abbrev IsSaidWithin : Mention → Type 0
  IsSaidWithin m = (r : List Part) × (m.path ≡ path ++ r)

  -- its own mention, and what is said inside
  abbrev pub run : MentionKind → List Mention → List Mention
  run k inner = record { path = path; kind = k } ∷ map (below path) inner

  run_within : (k : MentionKind) (inner : List Mention) → AllByRecursion IsSaidWithin (run k inner)
  run_within k inner = (([], sym (append-nil path)), by inner)
    where
      by : (ms : List Mention) → AllByRecursion IsSaidWithin (map (below path) ms)
      by [] = tt
      by (m ∷ ms) = ((m.path, refl), by ms)

  -- at another path nothing is said
  not_within : (q : List Part) → IsBeside path q → (m : Mention) → IsSaidWithin m → is_at q m ≡ false
  not_within q beside m h =
      false_from_ne_true (is_at q m) (λ e. beside h.0 (sym ((path_decides m.path q).0 e) ∙ h.1))

  pub not_beside : (r : List Part) (m : Mention) → IsSaidBeside m → is_at (path ++ r) m ≡ false
  not_beside r m h = false_from_ne_true (is_at (path ++ r) m) (λ e. h r ((path_decides m.path (path ++ r)).0 e))

  -- no `[[..]]` is among it, and none may name a key of it
  pub run_closed : (k : MentionKind) (inner : List Mention) → is_element k ≡ false
      → may_follow (cons_option (role_of k) []) ≡ false → AllByRecursion IsInside inner
      → AllByRecursion IsClosedTo (run k inner)
  run_closed k inner plain bare known = (
    (plain, λ l e. bare),
    all_mapped IsInside IsClosedTo (below path)
        (λ m h. (h.plain, λ l e. h.bare l (sym (last_below path m.path h.some) ∙ e))) inner known,
  )

  -- what is said below the run's path is said inside
  any_further : (x : Part) (r : List Part) (k : MentionKind) (inner : List Mention)
      → list_any (is_at (path ++ x ∷ r)) (run k inner) ≡ list_any (is_at (x ∷ r)) inner
  any_further x r k inner =
      ap₂ (λ (a b : Bool). a || b)
      (ap (λ (p : List Part). same_path p (path ++ x ∷ r)) (sym (append-nil path)) ∙ same_further path [] (x ∷ r))
      (by inner)
    where
      by : (ms : List Mention)
          → list_any (is_at (path ++ x ∷ r)) (map (below path) ms) ≡ list_any (is_at (x ∷ r)) ms
      by [] = refl
      by (m ∷ ms) = ap₂ (λ (a b : Bool). a || b) (same_further path m.path (x ∷ r)) (by ms)

  -- of its own path the run says something
  pub any_own : (k : MentionKind) (inner : List Mention) → list_any (is_at (path ++ [])) (run k inner) ≡ true
  any_own k inner =
      or_left (same_path path (path ++ [])) (list_any (is_at (path ++ [])) (map (below path) inner))
      ((path_decides path (path ++ [])).1 (sym (append-nil path)))

  -- and of each path between that and one of which it does
  any_above : (r more : List Part) (k : MentionKind) (inner : List Mention) → AreClosed inner
      → list_any (is_at (path ++ (r ++ more))) (run k inner) ≡ true → list_any (is_at (path ++ r)) (run k inner) ≡ true
  any_above [] more k inner closed said = any_own k inner
  any_above (x ∷ r) more k inner closed said =
      any_further x r k inner ∙ closed x r more (sym (any_further x (r ++ more) k inner) ∙ said)

  -- of what it says its own path alone can be one step below a path beside
  children_of_run : (t : List Part) → IsBeside path t → (k : MentionKind) (inner : List Mention)
      → AllByRecursion IsInside inner → children_in t (run k inner) ≡ filter (is_child t) (path ∷ [])
  children_of_run t beside k inner known =
      ap (λ (l : List (List Part)). cond (is_child t path) (path ∷ l) l) (by inner known)
    where
      deeper : (p : List Part) → (p ≡ [] → ⊥) → is_child t (path ++ p) ≡ false
      deeper p some = last (snoc_view p)
        where
          last : (p ≡ []) ⊎ ((m : List Part) × (x : Part) × (p ≡ m ++ x ∷ [])) → is_child t (path ++ p) ≡ false
          last (inl e) = absurd (some e)
          last (inr h) =
              ap (is_child t) (ap (λ (l : List Part). path ++ l) h.2 ∙ sym (append_assoc path h.0 (h.1 ∷ [])))
              ∙ child_push t (path ++ h.0) h.1
              ∙ false_from_ne_true (same_path t (path ++ h.0)) (λ e. beside h.0 ((path_decides t (path ++ h.0)).0 e))

      by : (ms : List Mention) → AllByRecursion IsInside ms → children_in t (map (below path) ms) ≡ []
      by [] h = refl
      by (m ∷ ms) h =
          let rest : List (List Part) = children_in t (map (below path) ms) in
          ap (λ (b : Bool). cond b ((path ++ m.path) ∷ rest) rest) (deeper m.path h.0.some) ∙ by ms h.1

  -- ---- among other mentions

  module _ (before after : List Mention) (k : MentionKind) (inner : List Mention) where
    -- of a path beside, the same is said without the run
    pub met_off : (q : List Part) → IsBeside path q
        → is_node q (before ++ (run k inner ++ after)) ≡ is_node q (before ++ after)
    met_off q beside =
        ap (λ (b : Bool). is_root q || b)
        (any_beside (is_at q) before (run k inner) after
        (none_any IsSaidWithin (is_at q) (not_within q beside) (run k inner) (run_within k inner))
        ∙ sym (list_any-append (is_at q) before after))

    pub roles_off : (q : List Part) → IsBeside path q
        → mention_roles q (before ++ (run k inner ++ after)) ≡ mention_roles q (before ++ after)
    roles_off q beside =
        ap roles_in
        (filter-append (is_at q) before (run k inner ++ after)
        ∙ ap (λ (l : List Mention). filter (is_at q) before ++ l)
        (filter-append (is_at q) (run k inner) after
        ∙ ap (λ (l : List Mention). l ++ filter (is_at q) after)
        (none_filter IsSaidWithin (is_at q) (not_within q beside) (run k inner) (run_within k inner)))
        ∙ sym (filter-append (is_at q) before after))

    pub children_off : (t : List Part) → IsBeside path t → AllByRecursion IsInside inner
        → children_in t (before ++ (run k inner ++ after))
        ≡ children_in t before ++ (filter (is_child t) (path ∷ []) ++ children_in t after)
    children_off t beside known =
        children_join t before (run k inner ++ after)
        ∙ ap (λ (l : List (List Part)). children_in t before ++ l)
        (children_join t (run k inner) after
        ∙ ap (λ (l : List (List Part)). l ++ children_in t after) (children_of_run t beside k inner known))

    -- where the others say nothing of its own path, nor of any below
    module _ (left : (r : List Part) → list_any (is_at (path ++ r)) before ≡ false)
        (right : (r : List Part) → list_any (is_at (path ++ r)) after ≡ false) where
      -- of such a path only the run says anything
      pub met_within : (r : List Part)
          → list_any (is_at (path ++ r)) (before ++ (run k inner ++ after))
          ≡ list_any (is_at (path ++ r)) (run k inner)
      met_within r = any_within (is_at (path ++ r)) before (run k inner) after (left r) (right r)

      -- and of each path between its own and one of which something is said
      pub above_within : AreClosed inner → (r more : List Part)
          → list_any (is_at (path ++ (r ++ more))) (before ++ (run k inner ++ after)) ≡ true
          → list_any (is_at (path ++ r)) (before ++ (run k inner ++ after)) ≡ true
      above_within closed r more there =
          met_within r ∙ any_above r more k inner closed (sym (met_within (r ++ more)) ∙ there)

      -- a key that a further `[[..]]` may name is beside it
      pub open_beside : AllByRecursion IsClosedTo (run k inner) → (p : List Part) (l : List ℕ)
          → is_node (p ++ key l ∷ []) (before ++ (run k inner ++ after)) ≡ true
          → may_follow (mention_roles (p ++ key l ∷ []) (before ++ (run k inner ++ after))) ≡ true
          → IsBeside path (p ++ key l ∷ [])
      open_beside closed p l there open_to r e =
          let q : List Part = p ++ key l ∷ [] in
          let all : List Mention = before ++ (run k inner ++ after) in
          let said : list_any (is_at (path ++ r)) (run k inner) ≡ true =
          sym (met_within r) ∙ ap (λ (s : List Part). list_any (is_at s) all) (sym e) ∙ key_said p l all there in
          closed_to q l (last_pushed p (key l)) (run k inner) closed
          (ap (λ (s : List Part). list_any (is_at s) (run k inner)) e ∙ said)
          (may_follow_run q before (run k inner) after open_to)
