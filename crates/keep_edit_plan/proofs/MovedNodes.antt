-- A change of the nodes' paths where steps stay steps: the nodes are in the same order (`paths_moved`).
--
-- The change `f` gives each path a new one. What is asked of it is `KeepsSteps`: of the paths that fit `P`, different
-- ones stay different; a path one step longer becomes one that is again one step longer, and an index at the end stays.
-- So two paths that fit are the same exactly if their new ones are (`same_moved`). Nodes, their numbers and their
-- children are found by such comparisons alone, and these answer as before: by induction over the mentions the nodes
-- have the same order, and by induction over the nodes each has the same number, and the same nodes are one step below
-- it (`child_moved`). As many elements are at a path as before (`elements_moved`), so a header enters the same node
-- (`entered_moved`).
--
-- Theorems: `paths_moved`: the new nodes are the old ones, each moved; `number_moved`: a node has the same number;
-- `children_moved`: the nodes one step below a node are the old ones, each moved.
use Rattle.std.proofs.Common.{◌≡◌, ℕ, zero, suc, ◌+◌, ◌-◌, ◌<◌, Bool, true, false, cond, not, ◌||◌, List, [], ◌∷◌, ◌++◌}
use Rattle.std.proofs.Common.{length, get_or, map, filter, refl, sym, ap, ap₂, subst, ◌∙◌, arith, Option, Some, None}
use Rattle.std.proofs.Common.{slice_get}
use Rattle.std.specs.Prelude.{⊤, ◌==◌, fold, nat_lt}
use Rattle.std.specs.List.{list_any, position_or_len}
use Rattle.std.specs.Option.{option_and_then, option_map}
use Rattle.std.proofs.lemmas.List.{map-append, length-map}
use Rattle.std.proofs.lemmas.List.Sums.{sum_by-cons}
use Rattle.keep_path.specs.Path.{Part, index, same_path}
use Rattle.keep_path.proofs.Shared.{path_decides}
use Rattle.keep_meaning.specs.Marks.{Mention, elements_of, entered_path}
use Rattle.keep_meaning.specs.Nodes.{children, is_child, node_number, node_paths, paths_with}
use Rattle.keep_rules.proofs.Shared.{child_push, no_child_root}
use Rattle.keep_edit_spec.proofs.Shared.{AllOf, all_join, KeepsSteps, moved, snoc_of}

-- ---- lists of what fits

pub all_at : {A : Type 0} (P : A → Type 0) (xs : List A) (i : ℕ) (d : A) → i < length xs → AllOf P xs
    → P (get_or xs i d)
all_at P [] i d low h = absurd (omega (arith, low))
all_at P (x ∷ xs) zero d low h = h.0
all_at P (x ∷ xs) (suc i) d low h = all_at P xs i d (omega (arith, low)) h.1

pub all_filter : {A : Type 0} (P : A → Type 0) (test : A → Bool) (xs : List A) → AllOf P xs → AllOf P (filter test xs)
all_filter P test [] h = tt
all_filter P test (x ∷ xs) h = by (test x) (all_filter P test xs h.1)
  where
    by : (b : Bool) → AllOf P (filter test xs) → AllOf P (cond b (x ∷ filter test xs) (filter test xs))
    by true more = (h.0, more)
    by false more = more

-- what is found fits
abbrev pub Fits : {A : Type 0} → (A → Type 0) → Option A → Type 0
Fits P None = ⊤
Fits P (Some x) = P x

pub all_get : {A : Type 0} (P : A → Type 0) (xs : List A) (i : ℕ) → AllOf P xs → Fits P (slice_get xs i)
all_get P [] i h = tt
all_get P (x ∷ xs) zero h = h.0
all_get P (x ∷ xs) (suc i) h = all_get P xs i h.1

module _ (P : List Part → Type 0) (f : List Part → List Part) (keeps : KeepsSteps P f) where
  pub same_moved : (p q : List Part) → P p → P q → same_path (f p) (f q) ≡ same_path p q
  same_moved p q hp hq = by (same_path p q) (same_path (f p) (f q)) refl refl
    where
      by : (b c : Bool) → same_path p q ≡ b → same_path (f p) (f q) ≡ c → c ≡ b
      by true true e k = refl
      by false false e k = refl
      by true false e k =
          let y : same_path (f p) (f q) ≡ true = (path_decides (f p) (f q)).1 (ap f ((path_decides p q).0 e)) in
          absurd cc
      by false true e k =
          let y : same_path p q ≡ true =
          (path_decides p q).1 (keeps.different p q hp hq ((path_decides (f p) (f q)).0 k)) in absurd cc

  -- ---- the nodes, in the order of first meeting

  any_moved : (p : List Part) (ps : List (List Part)) → P p → AllOf P ps
      → list_any (same_path (f p)) (map f ps) ≡ list_any (same_path p) ps
  any_moved p [] hp h = refl
  any_moved p (q ∷ ps) hp h = ap₂ (λ (a b : Bool). a || b) (same_moved p q hp h.0) (any_moved p ps hp h.1)

  with_moved : (ps : List (List Part)) (p : List Part) → P p → AllOf P ps
      → paths_with (map f ps) (f p) ≡ map f (paths_with ps p)
  with_moved ps p hp h =
      ap (λ (b : Bool). cond b (map f ps) (map f ps ++ f p ∷ [])) (any_moved p ps hp h) ∙ by (list_any (same_path p) ps)
    where
      by : (b : Bool) → cond b (map f ps) (map f ps ++ f p ∷ []) ≡ map f (cond b ps (ps ++ p ∷ []))
      by true = refl
      by false = sym (map-append f ps (p ∷ []))

  all_with : (ps : List (List Part)) (p : List Part) → P p → AllOf P ps → AllOf P (paths_with ps p)
  all_with ps p hp h = by (list_any (same_path p) ps)
    where
      by : (b : Bool) → AllOf P (cond b ps (ps ++ p ∷ []))
      by true = h
      by false = all_join P ps (p ∷ []) h (hp, tt)

  all_paths_from : (ms : List Mention) (ps : List (List Part)) → AllOf P ps → AllOf (λ (m : Mention). P m.path) ms
      → AllOf P (fold paths_with ps (map (λ (m : Mention). m.path) ms))
  all_paths_from [] ps h all = h
  all_paths_from (m ∷ ms) ps h all = all_paths_from ms (paths_with ps m.path) (all_with ps m.path all.0 h) all.1

  paths_moved_from : (ms : List Mention) (ps : List (List Part)) → AllOf P ps → AllOf (λ (m : Mention). P m.path) ms
      → fold paths_with (map f ps) (map (λ (m : Mention). m.path) (map (moved f) ms))
      ≡ map f (fold paths_with ps (map (λ (m : Mention). m.path) ms))
  paths_moved_from [] ps h all = refl
  paths_moved_from (m ∷ ms) ps h all =
      ap (λ (qs : List (List Part)). fold paths_with qs (map (λ (m : Mention). m.path) (map (moved f) ms)))
      (with_moved ps m.path all.0 h)
      ∙ paths_moved_from ms (paths_with ps m.path) (all_with ps m.path all.0 h) all.1

  pub all_paths : (ms : List Mention) → AllOf (λ (m : Mention). P m.path) ms → AllOf P (node_paths ms)
  all_paths ms all = all_paths_from ms ([] ∷ []) (keeps.root_fits, tt) all

  pub paths_moved : (ms : List Mention) → AllOf (λ (m : Mention). P m.path) ms
      → node_paths (map (moved f) ms) ≡ map f (node_paths ms)
  paths_moved ms all =
      ap (λ (q : List Part). fold paths_with (q ∷ []) (map (λ (m : Mention). m.path) (map (moved f) ms)))
      (sym keeps.root)
      ∙ paths_moved_from ms ([] ∷ []) (keeps.root_fits, tt) all

  -- ---- the number of a node, and how many elements it has

  position_moved : (p : List Part) (ps : List (List Part)) → P p → AllOf P ps
      → position_or_len (same_path (f p)) (map f ps) ≡ position_or_len (same_path p) ps
  position_moved p [] hp h = refl
  position_moved p (q ∷ ps) hp h =
      ap₂ (λ (b : Bool) (n : ℕ). cond (not b) (1 + n) 0) (same_moved p q hp h.0) (position_moved p ps hp h.1)

  pub number_moved : (p : List Part) (ps : List (List Part)) → P p → AllOf P ps
      → node_number (map f ps) (f p) ≡ node_number ps p
  number_moved p ps hp h =
      ap₂ (λ (k n : ℕ). cond (nat_lt k n) (Some k) None) (position_moved p ps hp h) (length-map ps f)

  pub elements_moved : (q : List Part) (tables : List (List Part)) → P q → AllOf P tables
      → elements_of (f q) (map f tables) ≡ elements_of q tables
  elements_moved q [] hq h = refl
  elements_moved q (t ∷ tables) hq h =
      sum_by-cons (λ (u : List Part). cond (same_path u (f q)) 1 0) (f t) (map f tables)
      ∙ ap₂ (λ (b : Bool) (n : ℕ). cond b 1 0 + n) (same_moved t q h.0 hq) (elements_moved q tables hq h.1)
      ∙ sym (sum_by-cons (λ (u : List Part). cond (same_path u q) 1 0) t tables)

  pub entered_moved : (z : List Part) (tables : List (List Part)) → P z → AllOf P tables
      → entered_path (map f tables) (f z) ≡ f (entered_path tables z)
  entered_moved z tables hz h =
      ap (λ (n : ℕ). cond (0 == n) (f z) (f z ++ index (n - 1) ∷ [])) (elements_moved z tables hz h)
      ∙ by (0 == elements_of z tables)
    where
      by : (b : Bool)
          → cond b (f z) (f z ++ index (elements_of z tables - 1) ∷ [])
          ≡ f (cond b z (z ++ index (elements_of z tables - 1) ∷ []))
      by true = refl
      by false = sym (keeps.numbered z (elements_of z tables - 1))

  pub entered_fits : (z : List Part) (tables : List (List Part)) → P z → P (entered_path tables z)
  entered_fits z tables hz = by (0 == elements_of z tables)
    where
      by : (b : Bool) → P (cond b z (z ++ index (elements_of z tables - 1) ∷ []))
      by true = hz
      by false = keeps.fits_numbered z (elements_of z tables - 1) hz

  -- ---- the nodes one step below

  child_moved : (z q : List Part) → P z → P q → is_child (f z) (f q) ≡ is_child z q
  child_moved z [] hz hq = ap (is_child (f z)) keeps.root ∙ no_child_root (f z) ∙ sym (no_child_root z)
  child_moved z (c ∷ cs) hz hq =
      let (above, last, e) = snoc_of c cs in
      let (now, step) = keeps.step above last in
      ap (λ (w : List Part). is_child (f z) (f w)) e ∙ ap (is_child (f z)) step ∙ child_push (f z) (f above) now
      ∙ same_moved z above hz (keeps.fits_before above last (subst P e hq)) ∙ sym (child_push z above last)
      ∙ ap (is_child z) (sym e)

  pub children_moved : (z : List Part) (ps : List (List Part)) → P z → AllOf P ps
      → children (f z) (map f ps) ≡ map f (children z ps)
  children_moved z [] hz h = refl
  children_moved z (q ∷ ps) hz h =
      ap₂ (λ (b : Bool) (l : List (List Part)). cond b (f q ∷ l) l) (child_moved z q hz h.0)
      (children_moved z ps hz h.1) ∙ by (is_child z q)
    where
      by : (b : Bool)
          → cond b (f q ∷ map f (children z ps)) (map f (children z ps))
          ≡ map f (cond b (q ∷ children z ps) (children z ps))
      by true = refl
      by false = refl

  pub found_moved : (ps : List (List Part)) (o : Option (List Part)) → AllOf P ps → Fits P o
      → option_and_then (node_number (map f ps)) (option_map f o) ≡ option_and_then (node_number ps) o
  found_moved ps None h hq = refl
  found_moved ps (Some q) h hq = number_moved q ps hq h
