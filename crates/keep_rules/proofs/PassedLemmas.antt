-- The tables of dotted keys that a line goes on from, by their numbers and by their paths.
--
-- Theorems: `same_numbers`: nodes of these paths have these numbers; `passed_known`: the tables that were found are the
-- ones that are passed; `passed_takers`: each can take a mention.
use Rattle.std.proofs.Common.{◌≡◌, ℕ, suc, ◌<◌, ◌≤◌, List, [], ◌∷◌, length, map, refl, sym, ◌∙◌, ap, ap₂, arith, get_or}
use Rattle.std.proofs.Common.{Option, Some, subst}
use Rattle.std.specs.Prelude.{All}
use Rattle.keep_types.specs.declared.node.NodeInfo.{NodeInfo}
use Rattle.keep_index_store.specs.Dots.{AreTakers, CanTake, IsPassed, IsTaker}
use Rattle.keep_index_store.specs.Tree.{TrieInfos, node_infos}
use Rattle.keep_index_store.specs.Trie.{IsTrie, TrieNode, path_at, paths_of}
use Rattle.keep_meaning.specs.Nodes.{node_number}
use Rattle.keep_path.specs.NodeInfos.{NodeInfos, no_info}
use Rattle.keep_path.specs.Path.{Part}
use Rattle.keep_rules.specs.PassedTables.{ArePassed}
use Rattle.keep_rules.proofs.LookupLemmas.{number_some}

some_same : (a b : ℕ) → Some a ≡ Some b → a ≡ b
some_same a b e = cc

first_same : {X : Type 0} (x y : X) (xs ys : List X) → x ∷ xs ≡ y ∷ ys → x ≡ y
first_same x y xs ys e = cc

rest_same : {X : Type 0} (x y : X) (xs ys : List X) → x ∷ xs ≡ y ∷ ys → xs ≡ ys
rest_same x y xs ys e = cc

all_same : (ks ls : List ℕ) → map Some ks ≡ map Some ls → ks ≡ ls
all_same [] [] e = refl
all_same [] (l ∷ ls) e = absurd cc
all_same (k ∷ ks) [] e = absurd cc
all_same (k ∷ ks) (l ∷ ls) e =
    ap₂ (λ x xs. x ∷ xs) (some_same k l (first_same (Some k) (Some l) (map Some ks) (map Some ls) e))
    (all_same ks ls (rest_same (Some k) (Some l) (map Some ks) (map Some ls) e))

pub taker_of : (many id : ℕ) (t u : NodeInfos) → t ≡ u → IsTaker many u.infos id → IsTaker many t.infos id
taker_of many id t u is taker = subst (λ (x : NodeInfos). IsTaker many x.infos id) (sym is) taker

module _ (nodes : List TrieNode) (trie : IsTrie nodes) where
  numbers_of_paths : (ids : List ℕ) → All (λ id. id < length nodes) ids
      → map (node_number (paths_of nodes)) (map (path_at nodes) ids) ≡ map Some ids
  numbers_of_paths [] all = refl
  numbers_of_paths (id ∷ ids) all =
      ap₂ (λ (o : Option ℕ) (os : List (Option ℕ)). o ∷ os) (number_some nodes trie id (all 0 0 (omega arith)))
      (numbers_of_paths ids (λ k d h. all (suc k) d (omega (arith, h))))

  module _ (ids : List ℕ) (within : All (λ id. id < length nodes) ids) (paths : List (List Part))
      (are : map (path_at nodes) ids ≡ paths) where
    pub numbers_found : map (node_number (paths_of nodes)) paths ≡ map Some ids
    numbers_found = ap (map (node_number (paths_of nodes))) (sym are) ∙ numbers_of_paths ids within

    pub same_numbers : (others : List ℕ) → map (node_number (paths_of nodes)) paths ≡ map Some others → ids ≡ others
    same_numbers others is = all_same ids others (sym numbers_found ∙ is)

module _ (t : TrieInfos) (last at : ℕ) (ids : List ℕ) (many : ℕ) (all : All (IsPassed many t.infos last) ids)
    (before : last < at) where
  pub passed_within : last < length t.trie → All (λ id. id < length t.trie) ids
  passed_within low k d h = omega (arith, (all k d h).up_to, low)

  pub passed_known : last < length t.trie → IsTrie t.trie → (paths : List (List Part))
      → map (path_at t.trie) ids ≡ paths → ArePassed (node_infos t) at paths ids
  passed_known low trie paths are = record {
    numbers = numbers_found t.trie trie ids (passed_within low) paths are;
    dotted = λ k d h. (omega (arith, (all k d h).up_to, before), (all k d h).takes.dotted);
  }

  -- they can take a mention each, also where other nodes have come after them
  pub passed_takers : at ≤ length t.infos → length ids ≡ many → (after : List NodeInfo)
      → ((n id : ℕ) → id < at → IsTaker n t.infos id → IsTaker n after id) → AreTakers after ids
  passed_takers within count after stay k d h =
      let id : ℕ = get_or ids k d in
      let low : id < at = omega (arith, (all k d h).up_to, before) in
      stay (length ids) id low (
        omega (arith, low, within),
        subst (λ (n : ℕ). CanTake n (get_or t.infos id no_info)) (sym count) (all k d h).takes,
      )
