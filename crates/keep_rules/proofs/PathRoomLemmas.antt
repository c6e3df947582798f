-- How much room the text of a node's path takes: a path has one step more than that of the node's parent, and the text
-- of an ancestor's path is no longer.
--
-- Theorems: `step_more`: the steps of a path; `ancestor_text`: the text of an ancestor's path.
use Rattle.std.proofs.Common.{◌≡◌, ◌∙◌, ℕ, ◌+◌, ◌<◌, ◌≤◌, List, [], ◌∷◌, ◌++◌, length, length-append, ap, arith}
use Rattle.std.specs.Prelude.{Result, Ok, Err, OnErr}
use Rattle.keep_path.specs.PathText.{encoded_path}
use Rattle.keep_rules.specs.Lookup.{AreAncestors}
use Rattle.keep_index_store.specs.Trie.{TrieNode, IsTrie, parent_at, part_at, path_at}
use Rattle.keep_index_store.proofs.Shared.{path_at-root}
use Rattle.keep_rules.proofs.ClimbLemmas.{path_linked}
use Rattle.keep_rules.proofs.PathStepLemmas.{encoded_more, step_text}

module _ (nodes : List TrieNode) (trie : IsTrie nodes) where
  -- a path has a step more than that of its node's parent
  pub step_more : (node : ℕ) → 0 < node → node < length nodes
      → length (path_at nodes node) ≡ length (path_at nodes (parent_at nodes node)) + 1
  step_more node later within =
      ap length (path_linked nodes trie node later within)
      ∙ length-append (path_at nodes (parent_at nodes node)) (part_at nodes node ∷ [])

  -- and its text is no shorter
  text_more : (node : ℕ) → 0 < node → node < length nodes
      → length (encoded_path (path_at nodes (parent_at nodes node))) ≤ length (encoded_path (path_at nodes node))
  text_more node later within =
      let above = path_at nodes (parent_at nodes node) in
      let text : encoded_path (path_at nodes node) ≡ encoded_path above ++ step_text above (part_at nodes node) =
      ap encoded_path (path_linked nodes trie node later within) ∙ encoded_more above (part_at nodes node) in
      omega (arith, ap length text, length-append (encoded_path above) (step_text above (part_at nodes node)))

  pub ancestor_text : (id : ℕ) (ancestors : List ℕ) (top : ℕ) → AreAncestors nodes id ancestors top
      → length (encoded_path (path_at nodes top)) ≤ length (encoded_path (path_at nodes id))
  ancestor_text id [] top is =
      let same : length (encoded_path (path_at nodes id)) ≡ length (encoded_path (path_at nodes top)) =
      ap (λ i. length (encoded_path (path_at nodes i))) is in omega (arith, same)
  ancestor_text id (n ∷ ancestors) top is =
      let same : length (encoded_path (path_at nodes id)) ≡ length (encoded_path (path_at nodes n)) =
      ap (λ i. length (encoded_path (path_at nodes i))) is.0 in
      omega (arith, same, text_more n is.1 is.2, ancestor_text (parent_at nodes n) ancestors top is.3)

-- the root's path has no step
pub no_steps : (nodes : List TrieNode) → length (path_at nodes 0) ≡ 0
no_steps nodes = ap length (path_at-root nodes)

-- what holds anyway holds where there is an error
pub on_err : {T E P : Type 0} (r : Result T E) → P → OnErr r P
on_err (Ok x) p = tt
on_err (Err e) p = p
