-- The nodes from one up to the root, and the last step of each one's path.
--
-- Theorems: `ancestors_left`: without the last of them, the others are the nodes up to that one; `step_last`: the path
-- of a node is that of its parent and its own step; `root_alone`: the root's path alone is empty.
use Rattle.std.proofs.Common.{◌≡◌, ◌≢◌, ℕ, ◌<◌, List, [], ◌∷◌, ◌++◌, length, get_or, refl, sym, ◌∙◌, ap, subst, arith}
use Rattle.std.proofs.lemmas.List.{get_or-map}
use Rattle.keep_path.specs.Path.{Part, index}
use Rattle.keep_rules.specs.Lookup.{AreAncestors}
use Rattle.keep_index_store.specs.Trie.{TrieNode, IsTrie, parent_at, part_at, path_at, holds_at, by_key}
use Rattle.keep_index_store.proofs.Shared.{path_at-link, path_at-root, one_node, first}

-- ---- the nodes up to the root

pub ancestors_pushed : (nodes : List TrieNode) (id : ℕ) (ancestors : List ℕ) (n : ℕ) → AreAncestors nodes id ancestors n
    → 0 < n → n < length nodes → AreAncestors nodes id (ancestors ++ n ∷ []) (parent_at nodes n)
ancestors_pushed nodes id [] n is later h = (is, later, h, refl)
ancestors_pushed nodes id (m ∷ ancestors) n is later h =
    (is.0, is.1, is.2, ancestors_pushed nodes (parent_at nodes m) ancestors n is.3 later h)

pub record IsLeft (nodes : List TrieNode) (id : ℕ) (ancestors : List ℕ) (n top : ℕ) : Type 0 where
  pub later : 0 < n
  pub nested : n < length nodes
  pub above : parent_at nodes n ≡ top
  pub rest : AreAncestors nodes id ancestors n

ancestors_popped : (nodes : List TrieNode) (id : ℕ) (ancestors : List ℕ) (n top : ℕ)
    → AreAncestors nodes id (ancestors ++ n ∷ []) top → IsLeft nodes id ancestors n top
ancestors_popped nodes id [] n top is = record { later = is.1; nested = is.2; above = is.3; rest = is.0 }
ancestors_popped nodes id (m ∷ ancestors) n top is =
    let r = ancestors_popped nodes (parent_at nodes m) ancestors n top is.3 in
    record { later = r.later; nested = r.nested; above = r.above; rest = (is.0, is.1, is.2, r.rest) }

pub ancestors_left : (nodes : List TrieNode) (id : ℕ) (ancestors rest : List ℕ) (n top : ℕ) → ancestors ≡ rest ++ n ∷ []
    → AreAncestors nodes id ancestors top → IsLeft nodes id rest n top
ancestors_left nodes id ancestors rest n top is h =
    ancestors_popped nodes id rest n top (subst (λ (w : List ℕ). AreAncestors nodes id w top) is h)

-- ---- the last step

module _ (nodes : List TrieNode) (trie : IsTrie nodes) (id : ℕ) (later : 0 < id) (within : id < length nodes) where
  parent_is : (d : TrieNode) → parent_at nodes id ≡ (get_or nodes id d).parent
  parent_is d = get_or-map (λ (x : TrieNode). x.parent) nodes id d 0 within

  pub earlier : parent_at nodes id < id
  earlier = let d : TrieNode = first nodes trie in omega (arith, parent_is d, trie.parents id d later within)

  -- the path of a node is that of its parent, and its step there
  pub path_linked : path_at nodes id ≡ path_at nodes (parent_at nodes id) ++ part_at nodes id ∷ []
  path_linked =
      let d : TrieNode = first nodes trie in
      path_at-link nodes trie id d later within
      ∙ ap (λ u. path_at nodes u ++ (get_or nodes id d).part ∷ []) (sym (parent_is d))
      ∙ ap (λ x. path_at nodes (parent_at nodes id) ++ x ∷ [])
      (sym (get_or-map (λ (x : TrieNode). x.part) nodes id d (index 0) within))

  pub step_last : (path : List Part) (part : Part) → part_at nodes id ≡ part → path ≡ path_at nodes (parent_at nodes id)
      → path ++ part ∷ [] ≡ path_at nodes id
  step_last path part is at =
      ap (λ p. p ++ part ∷ []) at ∙ ap (λ x. path_at nodes (parent_at nodes id) ++ x ∷ []) (sym is) ∙ sym path_linked

  -- the root's path alone is empty
  pub root_alone : path_at nodes (parent_at nodes id) ≡ [] → parent_at nodes id ≡ 0
  root_alone bare =
      one_node nodes trie (parent_at nodes id) 0 (omega (arith, earlier, within)) trie.root
      (bare ∙ sym (path_at-root nodes))

  -- a step that is no key follows another step
  pub index_below : (path : List Part) → holds_at nodes (parent_at nodes id) ≢ by_key
      → path ≡ path_at nodes (parent_at nodes id) → holds_at nodes 0 ≡ by_key → path ≢ []
  index_below path other at rooted bare = other (ap (holds_at nodes) (root_alone (sym at ∙ bare)) ∙ rooted)
