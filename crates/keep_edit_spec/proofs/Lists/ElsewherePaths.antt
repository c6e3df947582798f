-- Edits that are elsewhere than an element's array, and than what the remove of another path changes, are elsewhere
-- than what that one would have changed before the element was removed.
--
-- Before it, the other path had at most a higher number in the array (`raised`). If it is the path of an element of
-- that array, what its remove changes is the array in both cases; else it is a path below, with the number that the
-- other path has (`changed_below`). A path below the array is apart from what the array is apart from, and has the same
-- keys whatever the number is (`elsewhere_below`).
--
-- Theorem: `elsewhere_before`.
use Rattle.std.proofs.Common.{◌≡◌, ◌+◌, ℕ, zero, suc, Bool, true, false, cond, List, [], ◌∷◌, ◌++◌, refl, sym, ap}
use Rattle.std.proofs.Common.{subst, ◌∙◌, All, Option, Some, None, map}
use Rattle.std.specs.Prelude.{nat_lt}
use Rattle.std.proofs.lemmas.List.{append-nil}
use Rattle.std.proofs.lemmas.List.Elements.{All-cons, All-head, All-nil, All-tail, filter_map-append}
use Rattle.keep_path.specs.Path.{Part, key, index, last_part, strip, without_last}
use Rattle.keep_edit_spec.specs.Edits.{Edit, append_element, append_table, insert, remove, rename, set}
use Rattle.keep_edit_spec.specs.ElementRuns.{IsElsewhere, changed_path}
use Rattle.keep_edit_spec.specs.Look.{key_text, keys_in}
use Rattle.keep_edit_spec.specs.RemovedHeaders.{path_before, raised}
use Rattle.keep_edit_spec.specs.Runs.{IsNoStep, PassesBy}
use Rattle.keep_edit_spec.proofs.Common.Runs.{strip-sound}
use Rattle.keep_edit_spec.proofs.Lists.NewHolder.{apart_under}
use Rattle.keep_edit_spec.proofs.Lists.PathsBefore.{before_by, raised_by}

-- ---- what a remove changes, below other steps

last_past : (a : List Part) (p : Part) (more : List Part) → last_part (a ++ p ∷ more) ≡ last_part (p ∷ more)
last_past [] p more = refl
last_past (x ∷ []) p more = refl
last_past (x ∷ y ∷ a) p more = last_past (y ∷ a) p more

without_past : (a : List Part) (p : Part) (more : List Part)
    → without_last (a ++ p ∷ more) ≡ a ++ without_last (p ∷ more)
without_past [] p more = refl
without_past (x ∷ []) p more = refl
without_past (x ∷ y ∷ a) p more = ap (λ (l : List Part). x ∷ l) (without_past (y ∷ a) p more)

abbrev changed_by : Option Part → List Part → List Part
changed_by o path = elim o [
  | None ↦ path
  | Some part ↦ elim part [ key text ↦ path | index n ↦ without_last path ]
]

changed_past : (a : List Part) (p : Part) (more : List Part)
    → changed_path (a ++ p ∷ more) ≡ a ++ changed_path (p ∷ more)
changed_past a p more =
    ap (λ (o : Option Part). changed_by o (a ++ p ∷ more)) (last_past a p more) ∙ by (last_part (p ∷ more))
  where
    by : (o : Option Part) → changed_by o (a ++ p ∷ more) ≡ a ++ changed_by o (p ∷ more)
    by None = refl
    by (Some (key text)) = refl
    by (Some (index n)) = without_past a p more

-- below an element of an array
changed_below : (array : List Part) (n : ℕ) (p : Part) (more : List Part)
    → changed_path (array ++ index n ∷ p ∷ more) ≡ array ++ index n ∷ changed_path (p ∷ more)
changed_below array n p more =
    changed_past array (index n) (p ∷ more)
    ∙ ap (λ (l : List Part). array ++ l) (changed_past (index n ∷ []) p more)

-- ---- another number in the array

no_step : (name : List ℕ) (array : List Part) (m n : ℕ) (more : List Part) → IsNoStep name (array ++ index m ∷ more)
    → IsNoStep name (array ++ index n ∷ more)
no_step name [] m n more h zero = λ same. absurd cc
no_step name [] m n more h (suc i) = h (suc i)
no_step name (p ∷ array) m n more h zero = h 0
no_step name (p ∷ array) m n more h (suc i) = no_step name array m n more (λ j. h (suc j)) i

elsewhere_below : (array : List Part) (m n : ℕ) (more : List Part) (e : Edit) → IsElsewhere array e
    → IsElsewhere (array ++ index m ∷ more) e → IsElsewhere (array ++ index n ∷ more) e
elsewhere_below array m n more e h k = by e h k
  where
    same_keys : keys_in (array ++ index m ∷ more) ≡ keys_in (array ++ index n ∷ more)
    same_keys =
        filter_map-append key_text array (index m ∷ more) ∙ sym (filter_map-append key_text array (index n ∷ more))

    passes : (keys : List (List ℕ)) → PassesBy keys (array ++ index m ∷ more)
        → PassesBy keys (array ++ index n ∷ more)
    passes keys = subst (λ (l : List (List ℕ)). strip (map key l) (map key keys) ≡ None) same_keys

    by : (e : Edit) → IsElsewhere array e → IsElsewhere (array ++ index m ∷ more) e
        → IsElsewhere (array ++ index n ∷ more) e
    by (set path value) h k = apart_under array (index n ∷ more) path h
    by (insert path value) h k = apart_under array (index n ∷ more) path h
    by (remove path) h k = apart_under array (index n ∷ more) path h
    by (rename path name) h k =
        (apart_under array (index n ∷ more) path h.0, no_step name array m n more k.1)
    by (append_table keys) h k = passes keys k
    by (append_element keys) h k = passes keys k

-- so of what the remove of a path changes that has another number there
module _ (array : List Part) (m n : ℕ) (e : Edit) (h : IsElsewhere array e) where
  of_number : (rest : List Part) → IsElsewhere (changed_path (array ++ index m ∷ rest)) e
      → IsElsewhere (changed_path (array ++ index n ∷ rest)) e
  of_number [] k =
      subst (λ (p : List Part). IsElsewhere p e)
      (sym (changed_past array (index n) [] ∙ append-nil array)) h
  of_number (p ∷ rest) k =
      subst (λ (q : List Part). IsElsewhere q e) (sym (changed_below array n p rest))
      (elsewhere_below array m n (changed_path (p ∷ rest)) e h
      (subst (λ (q : List Part). IsElsewhere q e) (changed_below array m p rest) k))

-- ---- before a remove

module _ (array : List Part) (n : ℕ) (q : List Part) (e : Edit) (h : IsElsewhere array e)
    (k : IsElsewhere (changed_path q) e) where
  by_number : (m : ℕ) (rest : List Part) → strip array q ≡ Some (index m ∷ rest) → (b : Bool)
      → IsElsewhere (changed_path (cond b q (array ++ index (m + 1) ∷ rest))) e
  by_number m rest is true = k
  by_number m rest is false =
      of_number array m (m + 1) e h rest
      (subst (λ (p : List Part). IsElsewhere (changed_path p) e) (strip-sound array q (index m ∷ rest) is) k)

  by : (o : Option (List Part)) → strip array q ≡ o → IsElsewhere (changed_path (raised_by array n q o)) e
  by None is = k
  by (Some []) is = k
  by (Some (key text ∷ rest)) is = k
  by (Some (index m ∷ rest)) is = by_number m rest is (nat_lt m n)

  raised_elsewhere : IsElsewhere (changed_path (raised array n q)) e
  raised_elsewhere = by (strip array q) refl

one_before : (path q : List Part) (e : Edit) → IsElsewhere (changed_path path) e → IsElsewhere (changed_path q) e
    → IsElsewhere (changed_path (path_before path q)) e
one_before path q e h k = by (last_part path) h
  where
    by : (o : Option Part) → IsElsewhere (changed_by o path) e
        → IsElsewhere (changed_path (before_by o (without_last path) q)) e
    by None h = k
    by (Some (key text)) h = k
    by (Some (index n)) h = raised_elsewhere (without_last path) n q e h k

pub elsewhere_before : (path q : List Part) (edits : List Edit) → All (IsElsewhere (changed_path path)) edits
    → All (IsElsewhere (changed_path q)) edits → All (IsElsewhere (changed_path (path_before path q))) edits
elsewhere_before path q [] h k = All-nil (IsElsewhere (changed_path (path_before path q)))
elsewhere_before path q (e ∷ edits) h k =
    All-cons (IsElsewhere (changed_path (path_before path q))) e edits
    (one_before path q e (All-head (IsElsewhere (changed_path path)) e edits h)
    (All-head (IsElsewhere (changed_path q)) e edits k))
    (elsewhere_before path q edits (All-tail (IsElsewhere (changed_path path)) e edits h)
    (All-tail (IsElsewhere (changed_path q)) e edits k))
