-- The facts that one operation adds: to a new node, and to one that is there.
--
-- Theorems: `added_at_new`: the facts of a new node come last; `added_at_existing`: facts join those of a node that is
-- there; `with_mentions-paths`: the paths after some mentions.
use Rattle.std.proofs.Common.{◌≡◌, ◌≢◌, ℕ, suc, ◌+◌, ◌<◌, Bool, true, false, cond, not, ◌||◌, List, [], ◌∷◌, ◌++◌}
use Rattle.std.proofs.Common.{length, get_or, set, refl, sym, ◌∙◌, ap, subst, arith, Option, Some, None}
use Rattle.std.specs.Prelude.{Contains, AllPairs, nat_lt}
use Rattle.std.specs.List.{list_any, position_or_len}
use Rattle.std.proofs.lemmas.List.Elements.{Contains-get_or}
use Rattle.std.proofs.lemmas.List.Sums.{position_or_len_is}
use Rattle.std.proofs.lemmas.Bool.Decides.{nat_tests}
use Rattle.keep_types.specs.declared.node.NodeInfo.{NodeInfo}
use Rattle.keep_types.specs.declared.role.Role.{Role}
use Rattle.keep_path.specs.Path.{Part, same_path}
use Rattle.keep_meaning.specs.Counts.{Numbered}
use Rattle.keep_meaning.specs.Nodes.{node_number, paths_with}
use Rattle.keep_path.specs.NodeInfos.{no_info, NodeInfos}
use Rattle.keep_index_store.specs.Facts.{joined_info}
use Rattle.keep_rules.specs.MentionInfos.{with_info, with_info_at, with_mentions, mention_info, paths_after}
use Rattle.keep_index_store.specs.Trie.{Holding, IsTrie, paths_of, path_at}
use Rattle.keep_index_store.specs.Growth.{Grows}
use Rattle.keep_index_store.specs.Tree.{TrieInfos, info_at, node_infos}
use Rattle.keep_rules.specs.AddedInfos.{AddsInfo}
use Rattle.keep_path.proofs.Shared.{path_decides}
use Rattle.keep_rules.proofs.RoleStateLemmas.{false_ne}
use Rattle.keep_index_store.proofs.Shared.{length-paths_of}

-- ---- the number of a path

first_passes : (n m : ℕ) → n ≡ m → nat_lt n m ≡ false
first_passes n m e = grind (arith, nat_tests)

low_passes : (n m : ℕ) → n < m → nat_lt n m ≡ true
low_passes n m e = grind (arith, nat_tests)

pub unmet_number : (paths : List (List Part)) (p : List Part) → (Contains paths p → ⊥) → node_number paths p ≡ None
unmet_number paths p none =
    let end : position_or_len (same_path p) paths ≡ length paths =
    position_or_len_is (same_path p) paths (length paths) [] (omega arith)
    (λ k h. false_ne (same_path p (get_or paths k []))
    (λ t. none (subst (Contains paths) (sym ((path_decides p (get_or paths k [])).0 t))
    (Contains-get_or paths k [] h)))) (λ low. absurd (omega (arith, low))) in
    ap (λ b. cond b (Some (position_or_len (same_path p) paths)) None) (first_passes _ _ end)

pub met_number : (paths : List (List Part)) (p : List Part) (i : ℕ) → AllPairs (λ p q. p ≢ q) paths → i < length paths
    → get_or paths i [] ≡ p → node_number paths p ≡ Some i
met_number paths p i distinct h is =
    let here : position_or_len (same_path p) paths ≡ i =
    position_or_len_is (same_path p) paths i [] (omega (arith, h))
    (λ k low.
    false_ne (same_path p (get_or paths k []))
    (λ t. distinct k i [] low h (sym ((path_decides p (get_or paths k [])).0 t) ∙ sym is)))
    (λ low. (path_decides p (get_or paths i [])).1 (sym is)) in
    ap (λ b. cond b (Some (position_or_len (same_path p) paths)) None)
    (low_passes (position_or_len (same_path p) paths) (length paths) (omega (arith, here, h))) ∙ ap Some here

-- ---- the facts from one more mention

pub with_info_fresh : (t : NodeInfos) (p : List Part) (more : NodeInfo) → (Contains t.paths p → ⊥)
    → with_info t p more ≡ record { paths = t.paths ++ p ∷ []; infos = t.infos ++ more ∷ [] }
with_info_fresh t p more fresh = ap (λ o. with_info_at t o p more) (unmet_number t.paths p fresh)

pub with_info_there : (t : NodeInfos) (p : List Part) (more : NodeInfo) (i : ℕ) → AllPairs (λ p q. p ≢ q) t.paths
    → i < length t.paths → get_or t.paths i [] ≡ p
    → with_info t p more ≡ record t { infos = set t.infos i (joined_info (get_or t.infos i no_info) more) }
with_info_there t p more i distinct h is = ap (λ o. with_info_at t o p more) (met_number t.paths p i distinct h is)

-- of a new node
pub added_at_new : (old new : TrieInfos) (parent : ℕ) (p : List Part) (state : Option Role) (holds : Holding)
    (more : NodeInfo) → Grows old.trie new.trie parent p state holds
    → new.infos ≡ old.infos ++ more ∷ [] → AddsInfo old new p more
added_at_new old new parent p state holds more g infos =
    ap (λ ps. record { paths = ps; infos = new.infos }) g.paths
    ∙ ap (λ is. record { paths = paths_of old.trie ++ p ∷ []; infos = is }) infos
    ∙ sym (with_info_fresh (node_infos old) p more g.fresh)

-- of one that is there
pub added_at_existing : (old new : TrieInfos) (id : ℕ) (p : List Part) (more : NodeInfo) → IsTrie old.trie
    → id < length old.trie → path_at old.trie id ≡ p → paths_of new.trie ≡ paths_of old.trie
    → new.infos ≡ set old.infos id (joined_info (info_at old id) more) → AddsInfo old new p more
added_at_existing old new id p more trie h here paths infos =
    ap (λ ps. record { paths = ps; infos = new.infos }) paths
    ∙ ap (λ is. record { paths = paths_of old.trie; infos = is }) infos
    ∙ sym (with_info_there (node_infos old) p more id trie.distinct
    (omega (arith, h, length-paths_of old.trie trie.root)) here)

-- ---- the paths after it

some_lower : {X : Type 0} (f : X → Bool) (xs : List X) → nat_lt (position_or_len f xs) (length xs) ≡ list_any f xs
some_lower f [] = refl
some_lower f (x ∷ xs) =
    elim (f x) as (λ b. nat_lt (cond (not b) (1 + position_or_len f xs) 0) (suc (length xs)) ≡ (b || list_any f xs)) [
      | true ↦ low_passes 0 (suc (length xs)) (omega arith)
      | false ↦ one_more (position_or_len f xs) (length xs) ∙ some_lower f xs
    ]
  where
    one_more : (n m : ℕ) → nat_lt (1 + n) (suc m) ≡ nat_lt n m
    one_more n m = grind (arith, nat_tests)

pub with_info-paths : (t : NodeInfos) (p : List Part) (more : NodeInfo)
    → (with_info t p more).paths ≡ paths_with t.paths p
with_info-paths t p more =
    (elim (nat_lt (position_or_len (same_path p) t.paths) (length t.paths)) as
    (λ b. (with_info_at t (cond b (Some (position_or_len (same_path p) t.paths)) None) p more).paths
    ≡ cond b t.paths (t.paths ++ p ∷ [])) [
      | true ↦ refl
      | false ↦ refl
    ])
    ∙ ap (λ b. cond b t.paths (t.paths ++ p ∷ [])) (some_lower (same_path p) t.paths)

pub with_mentions-paths : (t : NodeInfos) (ns : List Numbered) → (with_mentions t ns).paths ≡ paths_after t.paths ns
with_mentions-paths t [] = refl
with_mentions-paths t (n ∷ ns) =
    with_mentions-paths (with_info t n.mention.path (mention_info n)) ns
    ∙ ap (λ ps. paths_after ps ns) (with_info-paths t n.mention.path (mention_info n))
