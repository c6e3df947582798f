-- One mention more, after all others: how its path joins the nodes that are nested as the headers say.
--
-- A new path comes last (`paths_push`), so the numbers of all others stay (`number_other`). If it is one step below a
-- node, there is still no node below a path without one (`closed_push`). If that node is no array of tables, the last
-- elements stay (`entered_push`); the element that a `[[..]]` begins is the last one of its array (`entered_begun`).
-- The roles at another path stay, and at its own there is one more (`listed_push`).
--
-- Theorems: `closed_push`, `entered_push`, `entered_begun` and `listed_push`.
use Rattle.std.proofs.Common.{◌≡◌, ℕ, ◌-◌, ◌<◌, Bool, true, false, cond, ◌||◌, List, [], ◌∷◌, ◌++◌, length, get_or, map}
use Rattle.std.proofs.Common.{refl, sym, ap, ap₂, subst, ◌∙◌, ◌⊎◌, inl, inr, arith, append_assoc, append-nil}
use Rattle.std.proofs.Common.{length-append, Option, Some, None}
use Rattle.std.specs.Prelude.{◌==◌, filter, fold, slice_get}
use Rattle.std.specs.List.{cons_option, filter_map, list_any}
use Rattle.std.specs.Option.{option_map, option_and_then}
use Rattle.std.proofs.Math.Seq.{get_or-append_seam}
use Rattle.std.proofs.lemmas.Bool.{and_parts, false_from_ne_true}
use Rattle.std.proofs.lemmas.List.{map-append}
use Rattle.std.proofs.lemmas.List.Elements.{filter-append, filter_map-append}
use Rattle.std.proofs.lemmas.List.Folds.{list_all-append, list_any-append, list_any_at}
use Rattle.std.proofs.lemmas.Map.Views.{Contains-from_any}
use Rattle.std.proofs.lemmas.Option.{slice_get-get_or}
use Rattle.keep_types.specs.declared.role.Role.{Role}
use Rattle.keep_path.specs.NodeInfos.{later_number}
use Rattle.keep_path.specs.Path.{Part, key, index, same_path}
use Rattle.keep_path.proofs.Shared.{path_decides}
use Rattle.keep_meaning.specs.Marks.{Mention, elements_of, entered_path, role_of}
use Rattle.keep_meaning.specs.Nodes.{children, is_at, is_child, node_number, node_paths, paths_with}
use Rattle.keep_index_store.proofs.Shared.{push_same}
use Rattle.keep_rules.specs.RoleStates.{mention_roles}
use Rattle.keep_rules.proofs.AllInfoLemmas.{IsMet, IsUnmet, met_or_unmet}
use Rattle.keep_rules.proofs.LineNestedLaws.{differ, kind_of, may_follow, snoc_view}
use Rattle.keep_rules.proofs.LookupLemmas.{child_push, none_there, number_is}
use Rattle.keep_rules.proofs.NestedLemmas.{enters}
use Rattle.keep_rules.proofs.PutLemmas.{filter_get, filter_put, low_stays, number_put}
use Rattle.keep_rules.proofs.TablesLemmas.{elements_here, elements_other}

-- ---- the paths that are there

abbrev pub IsThere : List (List Part) → List Part → Type 0
IsThere ps q = list_any (same_path q) ps ≡ true

pub there_other : (ps : List (List Part)) (x y : List Part) → IsThere ps y → list_any (same_path x) ps ≡ false
    → same_path y x ≡ false
there_other ps x y h none = false_from_ne_true (same_path y x) (λ e.
    differ (list_any (same_path x) ps)
    (subst (λ (q : List Part). list_any (same_path q) ps ≡ true) ((path_decides y x).0 e) h) none)

there_last : (ps : List (List Part)) (x : List Part) → IsThere (ps ++ x ∷ []) x
there_last ps x =
    list_any-append (same_path x) ps (x ∷ [])
    ∙ ap (λ (b : Bool). list_any (same_path x) ps || (b || false)) ((path_decides x x).1 refl)
    ∙ or_true (list_any (same_path x) ps)
  where
    or_true : (b : Bool) → (b || true) ≡ true
    or_true true = refl
    or_true false = refl

-- another path than the new one was there before
pub there_before : (ps : List (List Part)) (x q : List Part) → same_path q x ≡ false → IsThere (paths_with ps x) q
    → IsThere ps q
there_before ps x q other = by (list_any (same_path x) ps)
  where
    or_false : (b : Bool) → (b || (false || false)) ≡ true → b ≡ true
    or_false true h = refl
    or_false false h = absurd cc

    by : (b : Bool) → list_any (same_path q) (cond b ps (ps ++ x ∷ [])) ≡ true → list_any (same_path q) ps ≡ true
    by true h = h
    by false h = or_false (list_any (same_path q) ps)
        (sym (list_any-append (same_path q) ps (x ∷ [])
        ∙ ap (λ (b : Bool). list_any (same_path q) ps || (b || false)) other) ∙ h)

-- ---- their numbers

pub number_there : (ps : List (List Part)) (q : List Part) → IsThere ps q → (j : ℕ) × (node_number ps q ≡ Some j)
number_there ps q h = by (met_or_unmet ps q)
  where
    by : IsMet ps q ⊎ IsUnmet ps q → (j : ℕ) × (node_number ps q ≡ Some j)
    by (inl m) = (m.number, m.is)
    by (inr u) = absurd (differ (list_any (same_path q) ps) h u.unmet)

pub there_number : (ps : List (List Part)) (q : List Part) (i : ℕ) → node_number ps q ≡ Some i → IsThere ps q
there_number ps q i is =
    let r = number_is ps q i is in
    list_any_at (same_path q) ps i [] r.0 ((path_decides q (get_or ps i [])).1 (sym r.1))

pub not_none : (ps : List (List Part)) (q : List Part) → node_number ps q ≡ None → IsThere ps q → ⊥
not_none ps q none h = none_there ps q none (Contains-from_any (λ x y e. (path_decides x y).0 e) q ps h)

number_other : (ps : List (List Part)) (x q : List Part) → same_path q x ≡ false
    → node_number (ps ++ x ∷ []) q ≡ node_number ps q
number_other ps x q e =
    number_put (same_path q) ps [] x e
    ∙ ap (λ (l : List (List Part)). option_map (later_number (length ps)) (node_number l q)) (append-nil ps)
    ∙ stays (node_number ps q) refl
  where
    stays : (o : Option ℕ) → node_number ps q ≡ o → option_map (later_number (length ps)) o ≡ o
    stays None is = refl
    stays (Some i) is = ap Some (low_stays (length ps) i (number_is ps q i is).0)

-- ---- below a path without a node there is none

abbrev pub IsClosed : List (List Part) → Type 0
IsClosed ps = (path more : List Part) → node_number ps path ≡ None → node_number ps (path ++ more) ≡ None

not_above : (ps : List (List Part)) (at : List Part) (x : Part) (path rest : List Part) → IsClosed ps → IsThere ps at
    → node_number ps path ≡ None → same_path path (at ++ x ∷ []) ≡ false → path ++ rest ≡ at ++ x ∷ [] → ⊥
not_above ps at x path rest closed there none other is = by (snoc_view rest)
  where
    by : (rest ≡ []) ⊎ ((m : List Part) × (y : Part) × (rest ≡ m ++ y ∷ [])) → ⊥
    by (inl e) =
        let same : path ≡ at ++ x ∷ [] = sym (append-nil path) ∙ ap (λ (l : List Part). path ++ l) (sym e) ∙ is in
        differ (same_path path (at ++ x ∷ [])) ((path_decides path (at ++ x ∷ [])).1 same) other
    by (inr h) =
        let longer : (path ++ h.0) ++ h.1 ∷ [] ≡ at ++ x ∷ [] =
        append_assoc path h.0 (h.1 ∷ []) ∙ ap (λ (l : List Part). path ++ l) (sym h.2) ∙ is in
        let same : path ++ h.0 ≡ at = (push_same _ _ _ _ longer).0 in
        not_none ps at (ap (node_number ps) (sym same) ∙ closed path h.0 none) there

pub closed_push : (ps : List (List Part)) (at : List Part) (x : Part) → IsClosed ps → IsThere ps at
    → IsClosed (ps ++ (at ++ x ∷ []) ∷ [])
closed_push ps at x closed there path rest none =
    let new : List Part = at ++ x ∷ [] in
    let other : same_path path new ≡ false = false_from_ne_true (same_path path new) (λ e.
    not_none (ps ++ new ∷ []) new (ap (node_number (ps ++ new ∷ [])) (sym ((path_decides path new).0 e)) ∙ none)
    (there_last ps new)) in
    let before : node_number ps path ≡ None = sym (number_other ps new path other) ∙ none in
    number_other ps new (path ++ rest)
    (false_from_ne_true (same_path (path ++ rest) new)
    (λ e. not_above ps at x path rest closed there before other ((path_decides (path ++ rest) new).0 e)))
    ∙ closed path rest before

-- ---- the last node below a path

abbrev pub last_child : List (List Part) → List Part → Option ℕ
last_child ps path = option_and_then (node_number ps) (slice_get (children path ps) (length (children path ps) - 1))

-- it is that of before, if the new one is not below the path
last_other : (ps : List (List Part)) (new path : List Part) → is_child path new ≡ false
    → last_child (ps ++ new ∷ []) path ≡ last_child ps path
last_other ps new path beside =
    let same : children path (ps ++ new ∷ []) ≡ children path ps =
    filter_put (is_child path) ps [] new beside ∙ ap (children path) (append-nil ps) in
    ap (λ (l : List (List Part)). option_and_then (node_number (ps ++ new ∷ [])) (slice_get l (length l - 1))) same
    ∙ by (slice_get (children path ps) (length (children path ps) - 1)) refl
  where
    by : (o : Option (List Part)) → slice_get (children path ps) (length (children path ps) - 1) ≡ o
        → option_and_then (node_number (ps ++ new ∷ [])) o ≡ option_and_then (node_number ps) o
    by None is = refl
    by (Some q) is = number_other ps new q (false_from_ne_true (same_path q new) (λ e.
        differ (is_child path new)
        (ap (is_child path) (sym ((path_decides q new).0 e))
        ∙ filter_get (is_child path) ps (length (children path ps) - 1) q is) beside))

slice_last : (xs : List (List Part)) (x : List Part) → slice_get (xs ++ x ∷ []) (length (xs ++ x ∷ []) - 1) ≡ Some x
slice_last xs x =
    let last : length (xs ++ x ∷ []) - 1 ≡ length xs = omega (arith, length-append xs (x ∷ [])) in
    ap (slice_get (xs ++ x ∷ [])) last
    ∙ slice_get-get_or (xs ++ x ∷ []) (length xs) x (omega (arith, length-append xs (x ∷ [])))
    ∙ ap Some (get_or-append_seam xs x [] x)

-- and else it is the new one
last_new : (ps : List (List Part)) (new path : List Part) → is_child path new ≡ true
    → last_child (ps ++ new ∷ []) path ≡ node_number (ps ++ new ∷ []) new
last_new ps new path below =
    let longer : children path (ps ++ new ∷ []) ≡ children path ps ++ new ∷ [] =
    filter-append (is_child path) ps (new ∷ []) ∙ ap (λ (b : Bool). children path ps ++ cond b (new ∷ []) []) below in
    ap (λ (l : List (List Part)). option_and_then (node_number (ps ++ new ∷ [])) (slice_get l (length l - 1))) longer
    ∙ ap (option_and_then (node_number (ps ++ new ∷ []))) (slice_last (children path ps) new)

-- ---- the last element of an array of tables

abbrev pub AreEntered : List (List Part) → List (List Part) → Type 0
AreEntered ps tables =
    (path : List Part) (i : ℕ) → node_number ps path ≡ Some i → 0 < elements_of path tables
    → last_child ps path ≡ node_number ps (entered_path tables path)

-- the arrays of tables are nodes, and so are their last elements
pub record AreMet (ps tables : List (List Part)) : Type 0 where
  pub named : (t : List Part) → 0 < elements_of t tables → IsThere ps t
  pub begun : (t : List Part) → 0 < elements_of t tables → IsThere ps (entered_path tables t)

-- as before
entered_same : (ps tables : List (List Part)) (new path : List Part) → AreEntered ps tables → AreMet ps tables
    → list_any (same_path new) ps ≡ false → is_child path new ≡ false → 0 < elements_of path tables
    → last_child (ps ++ new ∷ []) path ≡ node_number (ps ++ new ∷ []) (entered_path tables path)
entered_same ps tables new path entered met fresh beside some =
    let was = number_there ps path (met.named path some) in
    last_other ps new path beside ∙ entered path was.0 was.1 some
    ∙ sym (number_other ps new (entered_path tables path)
    (there_other ps new (entered_path tables path) (met.begun path some) fresh))

pub entered_push : (ps tables : List (List Part)) (at : List Part) (x : Part) → AreEntered ps tables → AreMet ps tables
    → list_any (same_path (at ++ x ∷ [])) ps ≡ false
    → (0 < elements_of at tables → ⊥) → AreEntered (ps ++ (at ++ x ∷ []) ∷ []) tables
entered_push ps tables at x entered met fresh bare path i is some =
    entered_same ps tables (at ++ x ∷ []) path entered met fresh
    (child_push path at x ∙ false_from_ne_true (same_path path at)
    (λ e. bare (subst (λ (q : List Part). 0 < elements_of q tables) ((path_decides path at).0 e) some))) some

-- a `[[..]]` begins an element
pub entered_begun : (ps tables : List (List Part)) (p : List Part) → AreEntered ps tables → AreMet ps tables
    → list_any (same_path (p ++ index (elements_of p tables) ∷ [])) ps ≡ false
    → AreEntered (ps ++ (p ++ index (elements_of p tables) ∷ []) ∷ []) (tables ++ p ∷ [])
entered_begun ps tables p entered met fresh path i is some = by (same_path path p) refl
  where
    by : (b : Bool) → same_path path p ≡ b
        → last_child (ps ++ (p ++ index (elements_of p tables) ∷ []) ∷ []) path
        ≡ node_number (ps ++ (p ++ index (elements_of p tables) ∷ []) ∷ []) (entered_path (tables ++ p ∷ []) path)
    by true e =
        let new : List Part = p ++ index (elements_of p tables) ∷ [] in
        let more : List (List Part) = tables ++ p ∷ [] in
        let same : path ≡ p = (path_decides path p).0 e in
        let last : elements_of path more - 1 ≡ elements_of p tables =
        omega (arith, ap (λ (q : List Part). elements_of q more) same, elements_here p tables) in
        let there : entered_path more path ≡ new =
        enters more path (elements_of path more) refl some
        ∙ ap₂ (λ (q : List Part) (n : ℕ). q ++ index n ∷ []) same last in
        last_new ps new path (child_push path p (index (elements_of p tables)) ∙ e)
        ∙ ap (node_number (ps ++ new ∷ [])) (sym there)
    by false e =
        let new : List Part = p ++ index (elements_of p tables) ∷ [] in
        let count : elements_of path (tables ++ p ∷ []) ≡ elements_of path tables =
        elements_other path p tables (λ s. differ (same_path path p) ((path_decides path p).1 (sym s)) e) in
        let there : entered_path (tables ++ p ∷ []) path ≡ entered_path tables path =
        ap (λ (n : ℕ). cond (0 == n) path (path ++ index (n - 1) ∷ [])) count in
        entered_same ps tables new path entered met fresh (child_push path p (index (elements_of p tables)) ∙ e)
        (omega (arith, some, count))
        ∙ ap (node_number (ps ++ new ∷ [])) (sym there)

-- ---- what is said of a path

pub paths_push : (ms : List Mention) (m : Mention) → node_paths (ms ++ m ∷ []) ≡ paths_with (node_paths ms) m.path
paths_push ms m = by ([] ∷ []) ms
  where
    by : (ps : List (List Part)) (ms : List Mention)
        → fold paths_with ps (map (λ m. m.path) (ms ++ m ∷ []))
        ≡ paths_with (fold paths_with ps (map (λ m. m.path) ms)) m.path
    by ps [] = refl
    by ps (x ∷ ms) = by (paths_with ps x.path) ms

roles_push : (ms : List Mention) (m : Mention) (q : List Part) (b : Bool) → is_at q m ≡ b
    → mention_roles q (ms ++ m ∷ []) ≡ mention_roles q ms ++ cond b (cons_option (role_of m.kind) []) []
roles_push ms m q b e =
    ap (λ (l : List Mention). filter_map role_of (map kind_of l))
    (filter-append (is_at q) ms (m ∷ []) ∙ ap (λ (b : Bool). filter (is_at q) ms ++ cond b (m ∷ []) []) e)
    ∙ ap (filter_map role_of) (map-append kind_of (filter (is_at q) ms) (cond b (m ∷ []) []))
    ∙ filter_map-append role_of (map kind_of (filter (is_at q) ms)) (map kind_of (cond b (m ∷ []) []))
    ∙ ap (λ (l : List Role). mention_roles q ms ++ l) (own b)
  where
    own : (b : Bool)
        → filter_map role_of (map kind_of (cond b (m ∷ []) [])) ≡ cond b (cons_option (role_of m.kind) []) []
    own true = refl
    own false = refl

-- a key's node that a further `[[..]]` line may name is an array of tables
abbrev pub AreListed : List Mention → List (List Part) → Type 0
AreListed ms tables =
    (path : List Part) (k : List ℕ) (i : ℕ) → node_number (node_paths ms) (path ++ key k ∷ []) ≡ Some i
    → may_follow (mention_roles (path ++ key k ∷ []) ms) ≡ true
    → 0 < elements_of (path ++ key k ∷ []) tables

-- the same of one mention, if its path ends in a key
abbrev pub IsListed : Mention → List (List Part) → Type 0
IsListed m tables =
    (path : List Part) (k : List ℕ) → m.path ≡ path ++ key k ∷ [] → may_follow (cons_option (role_of m.kind) []) ≡ true
    → 0 < elements_of m.path tables

pub listed_push : (ms : List Mention) (m : Mention) (tables later : List (List Part)) → AreListed ms tables
    → ((t : List Part) → 0 < elements_of t tables → 0 < elements_of t later)
    → IsListed m later → AreListed (ms ++ m ∷ []) later
listed_push ms m tables later listed grows own path k i is open_to = by (is_at (path ++ key k ∷ []) m) refl
  where
    by : (b : Bool) → is_at (path ++ key k ∷ []) m ≡ b → 0 < elements_of (path ++ key k ∷ []) later
    by true e =
        let q : List Part = path ++ key k ∷ [] in
        let same : m.path ≡ q = (path_decides m.path q).0 e in
        let one : List Role = cons_option (role_of m.kind) [] in
        let all : may_follow (mention_roles q ms ++ one) ≡ true =
        ap may_follow (sym (roles_push ms m q true e)) ∙ open_to in
        let last = and_parts (may_follow (mention_roles q ms)) (may_follow one)
        (sym (list_all-append _ (mention_roles q ms) one) ∙ all) in
        subst (λ (p : List Part). 0 < elements_of p later) same (own path k same last.1)
    by false e =
        let q : List Part = path ++ key k ∷ [] in
        let other : same_path q m.path ≡ false =
        false_from_ne_true (same_path q m.path)
        (λ s. differ (is_at q m) ((path_decides m.path q).1 (sym ((path_decides q m.path).0 s))) e) in
        let here : IsThere (paths_with (node_paths ms) m.path) q =
        subst (λ (ps : List (List Part)). IsThere ps q) (paths_push ms m)
        (there_number (node_paths (ms ++ m ∷ [])) q i is) in
        let old = number_there (node_paths ms) q (there_before (node_paths ms) m.path q other here) in
        grows q (listed path k old.0 old.1
        (ap may_follow (sym (append-nil (mention_roles q ms)) ∙ sym (roles_push ms m q false e)) ∙ open_to))
