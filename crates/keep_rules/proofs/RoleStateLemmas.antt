-- One more mark.
--
-- The state of a node stands for the roles of all marks at its path. One mention more changes the roles at its own path
-- and at no other (`kinds_at-push`, `roles-here`, `roles-other`). Whether it obeys the rules depends on these roles
-- alone: the marks that could forbid it are those at the path (`lets_all`). If all of them allow its role the marks
-- still obey the rules (`obeys_push`), and if one does not, the mark is refused (`refused`). So states that represent
-- the mentions represent one more: at a new path with a state of its own, at a known path with the state after it.
--
-- Theorems: `represented_new`, `represented_existing`, `represented_same`; `refused`.
use Rattle.std.proofs.Common.{◌≡◌, ◌≢◌, ℕ, suc, zero, ◌<◌, Bool, true, false, cond, not, ◌&&◌, ◌||◌, List, [], ◌∷◌}
use Rattle.std.proofs.Common.{◌++◌, length, get_or, set, map, filter, refl, sym, ◌∙◌, ap, subst, arith, length-append}
use Rattle.std.proofs.Common.{inl, inr, Option, Some, None}
use Rattle.std.specs.Prelude.{fold, Contains, AllPairs}
use Rattle.std.specs.List.{list_all, list_any, filter_map, cons_option}
use Rattle.std.proofs.lemmas.Map.Views.{Contains-from_any}
use Rattle.std.proofs.lemmas.List.{get_or_append_left, map-append, append-nil, get_or_push, get_or-set_same}
use Rattle.std.proofs.lemmas.List.{get_or-set_other, length-set, set-get_or}
use Rattle.std.proofs.lemmas.List.Elements.{Contains-get_or, Contains-push, Contains-append_left, filter-append}
use Rattle.std.proofs.lemmas.List.Elements.{filter_map-append}
use Rattle.std.proofs.lemmas.List.Sums.{fold-append}
use Rattle.std.proofs.lemmas.List.Folds.{list_all_at}
use Rattle.std.proofs.lemmas.List.Quantifiers.{all_pairs_push}
use Rattle.std.proofs.lemmas.Bool.{cases_lt, cases_eq, cases_Bool}
use Rattle.keep_types.specs.declared.role.Role.{Role}
use Rattle.keep_path.specs.Path.{Part, same_path}
use Rattle.keep_meaning.specs.Rules.{Mark, allows, Allows, ObeysRules, IsRefused}
use Rattle.keep_meaning.specs.Marks.{Mention, marks, mark_of, with_path, role_of}
use Rattle.keep_meaning.specs.Nodes.{paths_with, node_paths, kinds_at}
use Rattle.keep_rules.specs.RoleStates.{mention_roles, StatesRepresent}
use Rattle.keep_meaning.specs.State.{IsState}
use Rattle.keep_path.proofs.Shared.{path_decides}

pub one_place : (paths : List (List Part)) → AllPairs (λ p q. p ≢ q) paths → (i j : ℕ) → i < length paths
    → j < length paths → get_or paths i [] ≡ get_or paths j [] → i ≡ j
one_place paths distinct i j h g same =
    elim (cases_lt i j) [
      | inl below ↦ absurd (distinct i j [] below g same)
      | inr above ↦
          elim (cases_lt j i) [ inl below ↦ absurd (distinct j i [] below h (sym same)) | inr above' ↦ omega arith ]
    ]

pub false_ne : (b : Bool) → (b ≡ true → ⊥) → b ≡ false
false_ne true h = absurd (h refl)
false_ne false h = refl

-- one more mention
kinds_at-push : (p : List Part) (ms : List Mention) (m : Mention)
    → kinds_at p (ms ++ m ∷ []) ≡ kinds_at p ms ++ map (λ m. m.kind) (cond (same_path m.path p) (m ∷ []) [])
kinds_at-push p ms m =
    ap (map (λ m. m.kind)) (filter-append (λ m. same_path m.path p) ms (m ∷ []))
    ∙ map-append (λ m. m.kind) (filter (λ m. same_path m.path p) ms) (cond (same_path m.path p) (m ∷ []) [])

pub kinds_at-here : (p : List Part) (ms : List Mention) (m : Mention) → m.path ≡ p
    → kinds_at p (ms ++ m ∷ []) ≡ kinds_at p ms ++ m.kind ∷ []
kinds_at-here p ms m h =
    kinds_at-push p ms m
    ∙ ap (λ b. kinds_at p ms ++ map (λ m. m.kind) (cond b (m ∷ []) [])) ((path_decides m.path p).1 h)

pub kinds_at-other : (p : List Part) (ms : List Mention) (m : Mention) → (m.path ≡ p → ⊥)
    → kinds_at p (ms ++ m ∷ []) ≡ kinds_at p ms
kinds_at-other p ms m h =
    kinds_at-push p ms m
    ∙ ap (λ b. kinds_at p ms ++ map (λ m. m.kind) (cond b (m ∷ []) []))
    (false_ne _ (λ t. h ((path_decides m.path p).0 t))) ∙ append-nil (kinds_at p ms)

node_paths-push : (ms : List Mention) (m : Mention) → node_paths (ms ++ m ∷ []) ≡ paths_with (node_paths ms) m.path
node_paths-push ms m =
    ap (fold paths_with ([] ∷ [])) (map-append (λ m. m.path) ms (m ∷ []))
    ∙ fold-append paths_with ([] ∷ []) (map (λ m. m.path) ms) (m.path ∷ [])

found : (p : List Part) (paths : List (List Part)) (k : ℕ) (d : List Part) → k < length paths → get_or paths k d ≡ p
    → list_any (same_path p) paths ≡ true
found p [] k d h is = absurd (omega arith)
found p (q ∷ qs) zero d h is = rw ((path_decides p q).1 (sym is)) refl
found p (q ∷ qs) (suc k) d h is =
    let more = found p qs k d (omega arith) is in
    elim (same_path p q) as (λ b. (b || list_any (same_path p) qs) ≡ true) [ true ↦ refl | false ↦ more ]

pub unfound : (p : List Part) (paths : List (List Part)) → (Contains paths p → ⊥) → list_any (same_path p) paths ≡ false
unfound p paths none = false_ne _ (λ h. none (Contains-from_any (λ x y t. (path_decides x y).0 t) p paths h))

-- a mark lets one of the role r follow at the path
lets : List Part → Role → Mark → Bool
lets path r m = not (same_path m.path path) || allows m.role r

lets_more : (path : List Part) (r : Role) (m : Mention) (ms : List Mention)
    → list_all (lets path r) (marks ms) ≡ list_all (λ e. allows e r) (mention_roles path ms)
    → list_all (lets path r) (marks (m ∷ ms)) ≡ list_all (λ e. allows e r) (mention_roles path (m ∷ ms))
unfolding lets
lets_more path r m ms more =
    (elim (role_of m.kind) as (λ o. (t : Bool) → same_path m.path path ≡ t
    → list_all (lets path r) (cons_option (with_path m.path o) (marks ms))
    ≡ list_all (λ e. allows e r) (cond t (cons_option o (mention_roles path ms)) (mention_roles path ms))) [
      | None ↦
          λ t is. elim t as (λ t.
          list_all (lets path r) (marks ms)
          ≡ list_all (λ e. allows e r) (cond t (mention_roles path ms) (mention_roles path ms))) [
            | true ↦ more
            | false ↦
                more
          ]
      | Some s ↦
          λ t is. rw is (elim t as (λ t.
          ((not t || allows s r) && list_all (lets path r) (marks ms))
          ≡ list_all (λ e. allows e r) (cond t (s ∷ mention_roles path ms) (mention_roles path ms))) [
            | true ↦ ap (λ b. allows s r && b) more
            | false ↦ more
          ])
    ]) (same_path m.path path) refl
    ∙ elim (same_path m.path path) as
    (λ t. list_all (λ e. allows e r)
    (cond t (cons_option (role_of m.kind) (mention_roles path ms)) (mention_roles path ms))
    ≡ list_all (λ e.
    allows e r) (filter_map role_of
    (map (λ (x : Mention). x.kind)
    (cond t (m ∷ filter (λ x. same_path x.path path) ms) (filter (λ x. same_path x.path path) ms))))) [
      | true ↦ refl
      | false ↦ refl
    ]

lets_all : (path : List Part) (r : Role) (ms : List Mention)
    → list_all (lets path r) (marks ms) ≡ list_all (λ e. allows e r) (mention_roles path ms)
lets_all path r [] = refl
lets_all path r (m ∷ ms) = lets_more path r m ms (lets_all path r ms)

-- the marks after one more mention
marks-push : (ms : List Mention) (m : Mention) → marks (ms ++ m ∷ []) ≡ marks ms ++ cons_option (mark_of m) []
marks-push ms m = filter_map-append mark_of ms (m ∷ [])

roles-here : (p : List Part) (ms : List Mention) (m : Mention) → m.path ≡ p
    → mention_roles p (ms ++ m ∷ []) ≡ mention_roles p ms ++ cons_option (role_of m.kind) []
roles-here p ms m h =
    ap (filter_map role_of) (kinds_at-here p ms m h) ∙ filter_map-append role_of (kinds_at p ms) (m.kind ∷ [])

roles-other : (p : List Part) (ms : List Mention) (m : Mention) → (m.path ≡ p → ⊥)
    → mention_roles p (ms ++ m ∷ []) ≡ mention_roles p ms
roles-other p ms m h = ap (filter_map role_of) (kinds_at-other p ms m h)

-- a role that all at its path allow obeys the rules
or_true : (a b : Bool) → (not a || b) ≡ true → a ≡ true → b ≡ true
or_true true b h t = h
or_true false b h t = cc

pub obeys_push : (ms : List Mention) (m : Mention) (r : Role) → role_of m.kind ≡ Some r
    → list_all (λ e. allows e r) (mention_roles m.path ms) ≡ true → ObeysRules (marks ms)
    → ObeysRules (marks (ms ++ m ∷ []))
unfolding lets
obeys_push ms m r is pass obeys =
    let new : Mark = record { role = r; path = m.path } in
    let all : marks (ms ++ m ∷ []) ≡ marks ms ++ new ∷ [] =
    marks-push ms m ∙ ap (λ o. marks ms ++ cons_option (with_path m.path o) []) is in
    rw all (all_pairs_push Allows (marks ms) new obeys (λ k d h same.
    let test : lets m.path r (get_or (marks ms) k d) ≡ true =
    elim (cases_Bool (lets m.path r (get_or (marks ms) k d))) [
      | inl t ↦ t
      | inr f ↦ let no : list_all (lets m.path r) (marks ms) ≡ false = list_all_at (lets m.path r) (marks ms) k d h f in
          let yes : list_all (lets m.path r) (marks ms) ≡ true = lets_all m.path r ms ∙ pass in cc
    ] in
    or_true (same_path (get_or (marks ms) k d).path m.path) _ test ((path_decides _ _).1 same)))

pub obeys_bare : (ms : List Mention) (m : Mention) → role_of m.kind ≡ None → ObeysRules (marks ms)
    → ObeysRules (marks (ms ++ m ∷ []))
obeys_bare ms m is obeys =
    let all : marks (ms ++ m ∷ []) ≡ marks ms =
    marks-push ms m ∙ ap (λ o. marks ms ++ cons_option (with_path m.path o) []) is ∙ append-nil (marks ms) in
    rw all obeys

-- where some role does not allow r, a mark of it is refused
some_fails : {X : Type 0} (p : X → Bool) (xs : List X) → list_all p xs ≡ false
    → (k : ℕ) × (x : X) × (k < length xs) × (get_or xs k x ≡ x) × (p x ≡ false)
some_fails p [] h = cc
some_fails p (x ∷ xs) h =
    elim (cases_Bool (p x)) [
      | inr f ↦ (0, x, omega arith, refl, f)
      | inl t ↦ let tail : list_all p xs ≡ false = ap (λ b. b && list_all p xs) (sym t) ∙ h in
          let r = some_fails p xs tail in (suc r.0, r.1, omega (arith, r.2), r.3, r.4)
    ]

or_false : (a b : Bool) → (not a || b) ≡ false → (a ≡ true) × (b ≡ false)
or_false true b h = (refl, h)
or_false false b h = cc

pub refused : (ms : List Mention) (path : List Part) (r : Role)
    → list_all (λ e. allows e r) (mention_roles path ms) ≡ false
    → IsRefused (marks ms) (record { role = r; path = path })
unfolding lets
refused ms path r fails =
    let found = some_fails (lets path r) (marks ms) (lets_all path r ms ∙ fails) in
    let both = or_false _ _ found.4 in
    (found.0, found.1, found.2, found.3, ((path_decides found.1.path path).0 both.0, both.1))

state_along : (s t : Option Role) (rs qs : List Role) → s ≡ t → rs ≡ qs → IsState t qs → IsState s rs
state_along s t rs qs e f h =
    subst (λ (x : Option Role). IsState x rs) (sym e) (subst (λ (x : List Role). IsState t x) (sym f) h)

obeys_new : (ms : List Mention) (m : Mention) (o : Option Role) → role_of m.kind ≡ o → kinds_at m.path ms ≡ []
    → ObeysRules (marks ms) → ObeysRules (marks (ms ++ m ∷ []))
obeys_new ms m None is nothing obeys = obeys_bare ms m is obeys
obeys_new ms m (Some r) is nothing obeys =
    obeys_push ms m r is (ap (λ ws. list_all (λ e. allows e r) (filter_map role_of ws)) nothing) obeys

-- a mention at a new path
pub represented_new : (paths : List (List Part)) (states : List (Option Role)) (ms : List Mention) (m : Mention)
    (state : Option Role) → StatesRepresent paths states ms
    → (Contains paths m.path → ⊥) → IsState state (cons_option (role_of m.kind) [])
    → StatesRepresent (paths ++ m.path ∷ []) (states ++ state ∷ []) (ms ++ m ∷ [])
represented_new paths states ms m state states_represent new is = record {
  paths_are =
      ap (λ b. cond b paths (paths ++ m.path ∷ [])) (sym (unfound m.path paths new))
      ∙ ap (λ ps. paths_with ps m.path) states_represent.paths_are ∙ sym (node_paths-push ms m);
  many = omega (arith, states_represent.many, length-append paths (m.path ∷ []), length-append states (state ∷ []));
  states_are = λ i h.
      elim (cases_lt i (length paths)) [
        | inl below ↦
            let own : get_or (paths ++ m.path ∷ []) i [] ≡ get_or paths i [] =
            get_or_append_left paths (m.path ∷ []) [] i below in
            let differ : m.path ≡ get_or (paths ++ m.path ∷ []) i [] → ⊥ =
            λ e. new (subst (Contains paths) (sym (e ∙ own)) (Contains-get_or paths i [] below)) in
            state_along _ _ _ _ (get_or_append_left states (state ∷ []) None i (omega (arith, states_represent.many)))
            (roles-other _ ms m differ ∙ ap (λ q. mention_roles q ms) own) (states_represent.states_are i below)
        | inr above ↦
            let last : length paths ≡ i = omega (arith, length-append paths (m.path ∷ [])) in
            let own : get_or (paths ++ m.path ∷ []) i [] ≡ m.path = get_or_push paths m.path [] i last in
            state_along _ _ _ _ (get_or_push states state None i (states_represent.many ∙ last))
            (roles-here _ ms m (sym own)
            ∙ ap (λ ws. filter_map role_of ws ++ cons_option (role_of m.kind) [])
            (ap (λ q. kinds_at q ms) own ∙ states_represent.silent m.path new)) is
      ];
  silent = λ q none.
      kinds_at-other q ms m (λ e. none (subst (Contains (paths ++ m.path ∷ [])) e (Contains-push paths m.path)))
      ∙ states_represent.silent q (λ there. none (Contains-append_left paths (m.path ∷ []) q there));
  obeys = obeys_new ms m (role_of m.kind) refl (states_represent.silent m.path new) states_represent.obeys;
}

-- a mention at a path that was met before
pub represented_existing : (paths : List (List Part)) (states : List (Option Role)) (ms : List Mention) (m : Mention)
    (i : ℕ) (state : Option Role) → StatesRepresent paths states ms → AllPairs (λ p q. p ≢ q) paths
    → i < length paths → m.path ≡ get_or paths i []
    → IsState state (mention_roles m.path ms ++ cons_option (role_of m.kind) []) → ObeysRules (marks (ms ++ m ∷ []))
    → StatesRepresent paths (set states i state) (ms ++ m ∷ [])
represented_existing paths states ms m i state states_represent distinct h is new obeys = record {
  paths_are =
      ap (λ b. cond b paths (paths ++ m.path ∷ [])) (sym (found m.path paths i [] h (sym is)))
      ∙ ap (λ ps. paths_with ps m.path) states_represent.paths_are ∙ sym (node_paths-push ms m);
  many = length-set states i state ∙ states_represent.many;
  states_are = λ j g.
      elim (cases_eq j i) [
        | inl here ↦
            let own : m.path ≡ get_or paths j [] = is ∙ ap (λ k. get_or paths k []) (sym here) in
            state_along _ _ _ _ (ap (λ k. get_or (set states i state) k None) here
            ∙ get_or-set_same states i state None (omega (arith, states_represent.many)))
            (roles-here _ ms m own ∙ ap (λ q. mention_roles q ms ++ cons_option (role_of m.kind) []) (sym own)) new
        | inr other ↦
            let differ : m.path ≡ get_or paths j [] → ⊥ = λ e. other (one_place paths distinct j i g h (sym e ∙ is)) in
            state_along _ _ _ _ (get_or-set_other states i j state None other) (roles-other _ ms m differ)
            (states_represent.states_are j g)
      ];
  silent = λ q none.
      kinds_at-other q ms m (λ e. none (subst (Contains paths) (sym is ∙ e) (Contains-get_or paths i [] h)))
      ∙ states_represent.silent q none;
  obeys = obeys;
}

-- a mention that leaves the state as it is
pub represented_same : (paths : List (List Part)) (states : List (Option Role)) (ms : List Mention) (m : Mention)
    (i : ℕ) → StatesRepresent paths states ms → AllPairs (λ p q. p ≢ q) paths
    → i < length paths → m.path ≡ get_or paths i []
    → IsState (get_or states i None) (mention_roles m.path ms ++ cons_option (role_of m.kind) [])
    → ObeysRules (marks (ms ++ m ∷ []))
    → StatesRepresent paths states (ms ++ m ∷ [])
represented_same paths states ms m i states_represent distinct h is new obeys =
    subst (λ (x : List (Option Role)). StatesRepresent paths x (ms ++ m ∷ [])) (set-get_or states i None)
    (represented_existing paths states ms m i (get_or states i None) states_represent distinct h is new obeys)
