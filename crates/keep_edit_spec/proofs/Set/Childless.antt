-- A value with entries has nodes below it: where a path has no nodes below it, the value there has no entries.
--
-- Theorem: `childless`.
use Rattle.std.proofs.Common.{◌≡◌, ℕ, ◌+◌, Bool, true, false, cond, ◌&&◌, ◌||◌, List, [], ◌∷◌, ◌++◌, map, refl, ap}
use Rattle.std.proofs.Common.{subst, ◌∙◌, Option, Some, None, inl, inr}
use Rattle.std.specs.Prelude.{filter, fold}
use Rattle.std.specs.List.{list_any}
use Rattle.std.proofs.lemmas.List.Folds.{list_any-append}
use Rattle.keep_syntax.specs.Tree.{Name, Entries, none, entry}
use Rattle.keep_path.specs.Path.{Part, key, index, same_path}
use Rattle.keep_meaning.specs.Fact.{Fact}
use Rattle.keep_meaning.specs.Marks.{MentionKind, value, Mention, below}
use Rattle.keep_meaning.specs.Meaning.{key_value, further_value, body_fact, keyed_mentions, entry_mentions}
use Rattle.keep_meaning.specs.Meaning.{entries_mentions}
use Rattle.keep_meaning.specs.Nodes.{paths_with, node_paths, is_child, children}
use Rattle.keep_edit_spec.proofs.Common.Runs.{SomeOf, some_left, some_right, same_part-refl, same_path-sound}
use Rattle.keep_edit_spec.proofs.Common.SetLaw.{run}

-- ---- a path that is mentioned joins the nodes

or_true : (b : Bool) → (b || true) ≡ true
or_true true = refl
or_true false = refl

-- what holds of a path holds of one in each list that has it
any_met : (test : List Part → Bool) (p : List Part) (paths : List (List Part)) → test p ≡ true
    → list_any (same_path p) paths ≡ true → list_any test paths ≡ true
any_met test p [] h met = absurd cc
any_met test p (q ∷ paths) h met = by (same_path p q) refl met (any_met test p paths h)
  where
    by : (b : Bool) → same_path p q ≡ b → (b || list_any (same_path p) paths) ≡ true
        → (list_any (same_path p) paths ≡ true → list_any test paths ≡ true) → list_any test (q ∷ paths) ≡ true
    by true e met more =
        ap (λ c. c || list_any test paths) (subst (λ (x : List Part). test x ≡ true) (same_path-sound p q e) h)
    by false e met more = ap (λ c. test q || c) (more met) ∙ or_true (test q)

any_own : (test : List Part → Bool) (p : List Part) (paths : List (List Part)) → test p ≡ true
    → list_any test (paths_with paths p) ≡ true
any_own test p paths h = by (list_any (same_path p) paths) refl
  where
    by : (b : Bool) → list_any (same_path p) paths ≡ b → list_any test (cond b paths (paths ++ p ∷ [])) ≡ true
    by true e = any_met test p paths h e
    by false e =
        list_any-append test paths (p ∷ []) ∙ ap (λ c. list_any test paths || (c || false)) h
        ∙ or_true (list_any test paths)

any_with : (test : List Part → Bool) (p : List Part) (paths : List (List Part)) → list_any test paths ≡ true
    → list_any test (paths_with paths p) ≡ true
any_with test p paths h = by (list_any (same_path p) paths)
  where
    by : (b : Bool) → list_any test (cond b paths (paths ++ p ∷ [])) ≡ true
    by true = h
    by false = list_any-append test paths (p ∷ []) ∙ ap (λ c. c || list_any test (p ∷ [])) h

abbrev nodes_after : List (List Part) → List Mention → List (List Part)
nodes_after paths ms = fold paths_with paths (map (λ (m : Mention). m.path) ms)

any_after : (test : List Part → Bool) (paths : List (List Part)) (ms : List Mention) → list_any test paths ≡ true
    → list_any test (nodes_after paths ms) ≡ true
any_after test paths [] h = h
any_after test paths (m ∷ ms) h = any_after test (paths_with paths m.path) ms (any_with test m.path paths h)

any_mentioned : (test : List Part → Bool) (paths : List (List Part)) (ms : List Mention)
    → SomeOf (λ m. test m.path ≡ true) ms → list_any test (nodes_after paths ms) ≡ true
any_mentioned test paths [] h = absurd h
any_mentioned test paths (m ∷ ms) (inl h) = any_after test (paths_with paths m.path) ms (any_own test m.path paths h)
any_mentioned test paths (m ∷ ms) (inr h) = any_mentioned test (paths_with paths m.path) ms h

some_passes : {A : Type 0} (test : A → Bool) (xs : List A) → list_any test xs ≡ true → filter test xs ≡ [] → ⊥
some_passes test [] h e = absurd cc
some_passes test (x ∷ xs) h e = by (test x) (some_passes test xs) h e
  where
    by : (b : Bool) → (list_any test xs ≡ true → filter test xs ≡ [] → ⊥) → (b || list_any test xs) ≡ true
        → cond b (x ∷ filter test xs) (filter test xs) ≡ [] → ⊥
    by true more h e = absurd cc
    by false more h e = more h e

-- ---- an entry is mentioned one step below its value

abbrev IsStep : Mention → Type 0
IsStep m = (q : Part) × (m.path ≡ q ∷ [])

some_step : (n : ℕ) (name : Option Name) (f : Fact) (nested : List Mention)
    → SomeOf IsStep (entry_mentions n name f nested)
some_step n None f nested = inl (index n, refl)
some_step n (Some name) f nested = by (key_value name.key.first) (map further_value name.key.more)
  where
    by : (k : List ℕ) (ks : List (List ℕ))
        → SomeOf IsStep (keyed_mentions (k ∷ ks) (record { path = []; kind = value f } ∷ nested))
    by k [] = inl (key k, refl)
    by k (l ∷ ks) = inl (key k, refl)

child_of : (p : List Part) (q : Part) → is_child p (p ++ q ∷ []) ≡ true
child_of [] q = refl
child_of (a ∷ p) q = ap (λ b. b && is_child p (p ++ q ∷ [])) (same_part-refl a) ∙ child_of p q

some_child : (p : List Part) (ms : List Mention) → SomeOf IsStep ms
    → SomeOf (λ m. is_child p m.path ≡ true) (map (below p) ms)
some_child p [] h = absurd h
some_child p (m ∷ ms) (inl h) = inl (ap (λ (x : List Part). is_child p (p ++ x)) h.1 ∙ child_of p h.0)
some_child p (m ∷ ms) (inr h) = inr (some_child p ms h)

-- Where no node is below a path, the value that is mentioned there has no entries.
pub childless : (p : List Part) (mention_kind : MentionKind) (entries : Entries) (before after : List Mention)
    → children p (node_paths (before ++ (run p mention_kind (entries_mentions 0 entries) ++ after))) ≡ []
    → entries_mentions 0 entries ≡ []
childless p mention_kind none before after h = refl
childless p mention_kind (entry name body nested after comma rest) before suffix h =
    let Below : Mention → Type 0 = λ m. is_child p m.path ≡ true in
    let first : List Mention = entry_mentions 0 name (body_fact body) (entries_mentions 0 nested) in
    let ms : List Mention = entries_mentions 0 (entry name body nested after comma rest) in
    let below_it : SomeOf Below (map (below p) ms) =
    some_child p ms (some_left IsStep first (entries_mentions (0 + 1) rest)
    (some_step 0 name (body_fact body) (entries_mentions 0 nested))) in
    let all_mentions : List Mention = before ++ (run p mention_kind ms ++ suffix) in
    let has_below : SomeOf Below all_mentions =
    some_right Below before (run p mention_kind ms ++ suffix)
    (some_left Below (run p mention_kind ms) suffix (inr below_it)) in
    absurd (some_passes (is_child p) (node_paths all_mentions)
    (any_mentioned (is_child p) ([] ∷ []) all_mentions has_below) h)
