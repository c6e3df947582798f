-- A tree of steps with another step at one node: the paths at and below it are moved, and all else stays.
--
-- Theorems: `paths_moved`: the paths are moved; `children_stay`: each node has the same children; `trie_renamed`: where
-- no node has the new path yet, the nodes are a tree of steps again.
use Rattle.std.proofs.Common.{◌≡◌, ◌≢◌, ℕ, zero, suc, ◌<◌, List, [], ◌∷◌, ◌++◌, length, get_or, map, sym, ◌∙◌, ap}
use Rattle.std.proofs.Common.{subst, arith, inl, inr}
use Rattle.std.specs.Prelude.{Contains, AllPairs}
use Rattle.std.proofs.lemmas.List.{ext_get_or, get_or-map, get_or_default, length-map}
use Rattle.std.proofs.lemmas.Bool.{cases_lt, cases_eq}
use Rattle.keep_path.specs.Path.{Part, key, beside, moved_path}
use Rattle.keep_path.proofs.Shared.{beside_pushed, moved_above, moved_one, moved_pushed, moved_root, moved_self}
use Rattle.keep_index_store.specs.Trie.{TrieNode, paths_of, path_at, children_of, IsTrie}
use Rattle.keep_index_store.proofs.TrieLemmas.{children_of-alike, closed, length-paths_of, one_node, path_at-below}
use Rattle.keep_index_store.proofs.TrieLemmas.{path_at-link, path_at-root, path_met}

-- two trees that agree but for the step of one node, and that of the root, which means nothing
pub record IsRenamed (old new : List TrieNode) (id : ℕ) (part : Part) : Type 0 where
  pub trie : IsTrie old
  pub later : 0 < id
  pub within : id < length old
  pub many : length new ≡ length old
  pub parents : (i : ℕ) (d : TrieNode) → 0 < i → i < length old → (get_or new i d).parent ≡ (get_or old i d).parent
  pub parts : (i : ℕ) (d : TrieNode) → 0 < i → i < length old → (i ≡ id → ⊥)
      → (get_or new i d).part ≡ (get_or old i d).part
  pub own : (d : TrieNode) → (get_or new id d).part ≡ part

module _ (old new : List TrieNode) (id : ℕ) (part : Part) (d : TrieNode) (r : IsRenamed old new id part) where
  -- the path above the node, and its own path before and after
  above : List Part
  above = path_at old (get_or old id d).parent

  step : Part
  step = (get_or old id d).part

  pub from : List Part
  from = above ++ step ∷ []

  pub to : List Part
  to = above ++ part ∷ []

  pub own_path : path_at old id ≡ from
  unfolding from above step
  own_path = path_at-link old r.trie id d r.later r.within

  pub beside_is : (text : List ℕ) → part ≡ key text → to ≡ beside (path_at old id) text
  unfolding to from above step
  beside_is text is =
      ap (λ x. above ++ x ∷ []) is ∙ sym (beside_pushed above step text) ∙ ap (λ p. beside p text) (sym own_path)

  -- the node of that number has its path moved
  Moved : ℕ → Type 0
  Moved i = path_at new i ≡ moved_path from to (path_at old i)

  new_path : (i : ℕ) → 0 < i → i < length old
      → path_at new i ≡ path_at new (get_or old i d).parent ++ (get_or new i d).part ∷ []
  new_path i low h =
      path_at-below new i d low (omega (arith, h, r.many))
      (omega (arith, r.parents i d low h, r.trie.parents i d low h))
      ∙ ap (λ k. path_at new k ++ (get_or new i d).part ∷ []) (r.parents i d low h)

  moved_own : Moved (get_or old id d).parent → Moved id
  unfolding Moved from to above step
  moved_own up =
      new_path id r.later r.within ∙ ap (λ x. path_at new (get_or old id d).parent ++ x ∷ []) (r.own d)
      ∙ ap (λ q. q ++ part ∷ []) (up ∙ moved_above above to step) ∙ sym (moved_self from to)
      ∙ ap (moved_path from to) (sym own_path)

  moved_other : (i : ℕ) → 0 < i → i < length old → (i ≡ id → ⊥) → Moved (get_or old i d).parent → Moved i
  unfolding Moved
  moved_other i low h other up =
      let p : ℕ = (get_or old i d).parent in
      let x : Part = (get_or old i d).part in
      let whole : path_at old i ≡ path_at old p ++ x ∷ [] = path_at-link old r.trie i d low h in
      new_path i low h ∙ ap (λ y. path_at new p ++ y ∷ []) (r.parts i d low h other) ∙ ap (λ q. q ++ x ∷ []) up
      ∙ sym (moved_pushed from to (path_at old p) x
      (λ same. other (one_node old r.trie i id h r.within (whole ∙ same ∙ sym own_path))))
      ∙ ap (moved_path from to) (sym whole)

  moved_first : Moved 0
  unfolding Moved from to above step
  moved_first = path_at-root new ∙ sym (moved_root above to step) ∙ ap (moved_path from to) (sym (path_at-root old))

  moved_each : (n i : ℕ) → i < n → i < length old → Moved i
  moved_each zero i few h = absurd (omega arith)
  moved_each (suc n) i few h = elim (cases_lt 0 i) [
    | inr none ↦ (let root : 0 ≡ i = omega arith in subst Moved root moved_first)
    | inl low ↦
        let earlier : (get_or old i d).parent < i = r.trie.parents i d low h in
        let up = moved_each n (get_or old i d).parent (omega (arith, earlier)) (omega (arith, earlier)) in
        elim (cases_eq i id) [
          | inl at ↦ subst Moved (sym at) (moved_own (subst (λ k. Moved (get_or old k d).parent) at up))
          | inr other ↦ moved_other i low h other up
        ]
  ]

  root : 0 < length new
  root = omega (arith, r.many, r.trie.root)

  pub paths_moved : paths_of new ≡ map (moved_path from to) (paths_of old)
  unfolding Moved
  paths_moved =
      let many : length (paths_of new) ≡ length new = length-paths_of new root in
      let many' : length (paths_of old) ≡ length old = length-paths_of old r.trie.root in
      ext_get_or [] (paths_of new) (map (moved_path from to) (paths_of old))
      (omega (arith, many, many', r.many, length-map (paths_of old) (moved_path from to)))
      (λ i h. moved_each (suc i) i (omega arith) (omega (arith, h, many, r.many))
      ∙ sym (get_or-map (moved_path from to) (paths_of old) i [] [] (omega (arith, h, many, many', r.many))))

  pub children_stay : (i : ℕ) → children_of new i ≡ children_of old i
  children_stay = children_of-alike new old d r.many (λ i e low h. r.parents i e low (omega (arith, h, r.many)))

  -- where no node has the new path yet
  module _ (fresh : Contains (paths_of old) to → ⊥) where
    not_below : (i : ℕ) → i < length old → (more : List Part) → path_at old i ≡ to ++ more → ⊥
    not_below i h more is =
        fresh (closed old r.trie more to (subst (Contains (paths_of old)) is (path_met old r.trie i h)))

    distinct : AllPairs (λ p q. p ≢ q) (paths_of new)
    unfolding Moved
    distinct i j e below h same =
        let many : length (paths_of new) ≡ length old = length-paths_of new root ∙ r.many in
        let many' : length (paths_of old) ≡ length old = length-paths_of old r.trie.root in
        let i_low : i < length old = omega (arith, below, h, many) in
        let j_low : j < length old = omega (arith, h, many) in
        let both : path_at new i ≡ path_at new j =
        get_or_default (paths_of new) i [] e (omega (arith, below, h)) ∙ same
        ∙ sym (get_or_default (paths_of new) j [] e h) in
        r.trie.distinct i j [] below (omega (arith, j_low, many'))
        (moved_one from to (path_at old i) (path_at old j) (not_below i i_low) (not_below j j_low)
        (sym (moved_each (suc i) i (omega arith) i_low) ∙ both ∙ moved_each (suc j) j (omega arith) j_low))

    pub trie_renamed : IsTrie new
    trie_renamed = record {
      root = root;
      parents =
          λ i e low h.
          omega (
            arith,
            r.parents i e low (omega (arith, h, r.many)),
            r.trie.parents i e low (omega (arith, h, r.many)),
          );
      distinct = distinct;
    }
