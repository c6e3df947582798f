-- One more node, and another state of a node.
--
-- Paths and children are read of the links after the root's (`link`: a parent and a step). A node that is pushed has
-- its parent's path with its own step (`paths_pushed`), and is a child of its parent alone (`children_pushed`). That
-- path is new and the parent an earlier node, so the list is a tree again (`trie_pushed`). A node that takes another
-- state has the link that it had, so all links (`links_preserved`), all paths (`paths_preserved`) and the tree
-- (`trie_preserved`) stay. Two lists that agree but for the link of the root (`IsAlike`) have the same paths
-- (`paths_alike`); where the one is a tree, so is the other (`trie_alike`), and where the one has a node more than
-- before, so has the other (`grows_alike`).
--
-- Theorems: `grows_pushed`: one more node; `restates_set`: another state; `trie_alike`: another link of the root.
use Rattle.std.proofs.Common.{◌≡◌, ◌≢◌, ℕ, suc, ◌+◌, ◌-◌, ◌<◌, List, [], ◌∷◌, ◌++◌, length, get_or, set, drop, map}
use Rattle.std.proofs.Common.{refl, sym, ◌∙◌, ap, subst, arith, length-append, cond, inl, inr, Option, Some}
use Rattle.std.specs.Prelude.{fold, ◌==◌, Contains, AllPairs}
use Rattle.std.proofs.lemmas.List.{get_or_append_left, length-map, length-drop, map-append, drop-append-le, drop-map}
use Rattle.std.proofs.lemmas.List.{ext_get_or, get_or-drop, get_or_push, get_or-set_same, get_or-set_other, length-set}
use Rattle.std.proofs.lemmas.List.{map-set}
use Rattle.std.proofs.lemmas.List.Elements.{Contains-get_or}
use Rattle.std.proofs.lemmas.Bool.{cases_lt, cases_eq}
use Rattle.std.proofs.Math.Seq.{map-set_same}
use Rattle.std.proofs.lemmas.List.Sums.{fold-append}
use Rattle.std.proofs.lemmas.List.Quantifiers.{all_pairs_push}
use Rattle.keep_types.specs.declared.role.Role.{Role}
use Rattle.keep_path.specs.Path.{Part}
use Rattle.keep_index_store.specs.Trie.{TrieNode, Holding, link, path_after, paths_of, path_at, states_of, holdings_of}
use Rattle.keep_index_store.specs.Trie.{children_from, children_of, IsTrie}
use Rattle.keep_index_store.specs.Growth.{Grows, Restates}
use Rattle.keep_index_store.proofs.TrieLemmas.{children-push}

drop_pushed : (old : List TrieNode) (t : TrieNode) → 0 < length old
    → drop 1 (map link (old ++ t ∷ [])) ≡ drop 1 (map link old) ++ link t ∷ []
drop_pushed old t root =
    ap (drop 1) (map-append link old (t ∷ []))
    ∙ drop-append-le 1 (map link old) (link t ∷ []) (omega (arith, length-map old link))

pub paths_pushed : (old : List TrieNode) (t : TrieNode) → 0 < length old
    → paths_of (old ++ t ∷ []) ≡ paths_of old ++ (path_at old t.parent ++ t.part ∷ []) ∷ []
paths_pushed old t root =
    ap (fold path_after ([] ∷ [])) (drop_pushed old t root)
    ∙ fold-append path_after ([] ∷ []) (drop 1 (map link old)) (link t ∷ [])

children_pushed : (old : List TrieNode) (t : TrieNode) → 0 < length old → (i : ℕ)
    → children_of (old ++ t ∷ []) i ≡ children_of old i ++ cond (t.parent == i) (length old ∷ []) []
children_pushed old t root i =
    let ls : List (ℕ × Part) = drop 1 (map link old) in
    let many : 1 + length ls ≡ length old = omega (arith, root, length-drop 1 (map link old), length-map old link) in
    ap (children_from 1 i) (drop_pushed old t root) ∙ children-push 1 i ls (link t) (length old) many

parents_pushed : (old : List TrieNode) (t : TrieNode) → IsTrie old → t.parent < length old → (i : ℕ) (e : TrieNode)
    → 0 < i → i < length (old ++ t ∷ []) → (get_or (old ++ t ∷ []) i e).parent < i
parents_pushed old t trie within i e low h =
    elim (cases_lt i (length old)) [
      | inl below ↦
          omega (
            arith,
            ap (λ (n : TrieNode). n.parent) (get_or_append_left old (t ∷ []) e i below),
            trie.parents i e low below,
          )
      | inr above ↦
          let last : length old ≡ i = omega (arith, length-append old (t ∷ [])) in
          omega (arith, ap (λ (n : TrieNode). n.parent) (get_or_push old t e i last))
    ]

trie_pushed : (old : List TrieNode) (t : TrieNode) → IsTrie old → t.parent < length old
    → (Contains (paths_of old) (path_at old t.parent ++ t.part ∷ []) → ⊥) → IsTrie (old ++ t ∷ [])
trie_pushed old t trie within fresh = record {
  root = omega (arith, length-append old (t ∷ []));
  parents = parents_pushed old t trie within;
  distinct =
      let P : List (List Part) → Type 0 = AllPairs (λ p q. p ≢ q) in
      subst P (sym (paths_pushed old t trie.root))
      (all_pairs_push (λ p q. p ≢ q) (paths_of old) (path_at old t.parent ++ t.part ∷ []) trie.distinct
      (λ k e h is. fresh (subst (Contains (paths_of old)) is (Contains-get_or (paths_of old) k e h))));
}

-- a node that is pushed is a child of its parent
pub grows_pushed : (old : List TrieNode) (t : TrieNode) → IsTrie old → t.parent < length old
    → (Contains (paths_of old) (path_at old t.parent ++ t.part ∷ []) → ⊥)
    → Grows old (old ++ t ∷ []) t.parent (path_at old t.parent ++ t.part ∷ []) t.state t.holds
grows_pushed old t trie within fresh = record {
  trie = trie;
  trie' = trie_pushed old t trie within fresh;
  within = within;
  fresh = fresh;
  paths = paths_pushed old t trie.root;
  states = map-append (λ (n : TrieNode). n.state) old (t ∷ []);
  holdings = map-append (λ (n : TrieNode). n.holds) old (t ∷ []);
  children = children_pushed old t trie.root;
}

-- two tries that agree but for the step of the root, which means nothing
pub record IsAlike (us ts : List TrieNode) : Type 0 where
  pub many : length us ≡ length ts
  pub rest : drop 1 us ≡ drop 1 ts
  pub states : states_of us ≡ states_of ts
  pub holdings : holdings_of us ≡ holdings_of ts

pub rest_same : (us ts : List TrieNode) → length us ≡ length ts
    → ((i : ℕ) (u : TrieNode) → 0 < i → i < length us → get_or us i u ≡ get_or ts i u) → drop 1 us ≡ drop 1 ts
rest_same [] [] many same = refl
rest_same [] (t ∷ ts) many same = absurd (omega arith)
rest_same (u ∷ us) [] many same = absurd (omega arith)
rest_same (u ∷ us) (t ∷ ts) many same =
    ext_get_or u us ts (omega arith) (λ i h. same (suc i) u (omega arith) (omega arith))

pub links_alike : {us ts : List TrieNode} → IsAlike us ts → drop 1 (map link us) ≡ drop 1 (map link ts)
links_alike {us = us} {ts = ts} alike = drop-map link 1 us ∙ ap (map link) alike.rest ∙ sym (drop-map link 1 ts)

pub paths_alike : {us ts : List TrieNode} → IsAlike us ts → paths_of us ≡ paths_of ts
paths_alike alike = ap (fold path_after ([] ∷ [])) (links_alike alike)

after_root : (us : List TrieNode) (i : ℕ) (u : TrieNode) → 0 < i → get_or us i u ≡ get_or (drop 1 us) (i - 1) u
after_root us i u low =
    sym (get_or-drop 1 us (i - 1) u ∙ ap (λ k. get_or us k u) (let k : 1 + (i - 1) ≡ i = omega arith in k))

pub trie_alike : {us ts : List TrieNode} → IsAlike us ts → IsTrie ts → IsTrie us
trie_alike {us = us} {ts = ts} alike trie = record {
  root = omega (arith, alike.many, trie.root);
  parents = λ i u low h.
      let same : get_or us i u ≡ get_or ts i u =
      after_root us i u low ∙ ap (λ r. get_or r (i - 1) u) alike.rest ∙ sym (after_root ts i u low) in
      omega (arith, ap (λ (t : TrieNode). t.parent) same, trie.parents i u low (omega (arith, alike.many)));
  distinct =
      let P : List (List Part) → Type 0 = AllPairs (λ p q. p ≢ q) in subst P (sym (paths_alike alike)) trie.distinct;
}

pub grows_alike : {old us ts : List TrieNode} {parent : ℕ} {path : List Part} {state : Option Role} {holds : Holding}
    → Grows old ts parent path state holds → IsAlike us ts → Grows old us parent path state holds
grows_alike g alike = record {
  trie = g.trie;
  trie' = trie_alike alike g.trie';
  within = g.within;
  fresh = g.fresh;
  paths = paths_alike alike ∙ g.paths;
  states = alike.states ∙ g.states;
  holdings = alike.holdings ∙ g.holdings;
  children = λ i. ap (children_from 1 i) (links_alike alike) ∙ g.children i;
}

-- a node that only takes another state
pub record IsRestated (old : List TrieNode) (id : ℕ) (d changed : TrieNode) (next : Role) : Type 0 where
  pub trie : IsTrie old
  pub within : id < length old
  pub same : link changed ≡ link (get_or old id d)
  pub state : changed.state ≡ Some next
  pub holds : changed.holds ≡ (get_or old id d).holds

links_preserved : (old : List TrieNode) (id : ℕ) (d changed : TrieNode) (next : Role) → IsRestated old id d changed next
    → map link (set old id changed) ≡ map link old
links_preserved old id d changed next is = map-set_same link old id changed d is.same

paths_preserved : (old : List TrieNode) (id : ℕ) (d changed : TrieNode) (next : Role) → IsRestated old id d changed next
    → paths_of (set old id changed) ≡ paths_of old
paths_preserved old id d changed next is =
    ap (λ ls. fold path_after ([] ∷ []) (drop 1 ls)) (links_preserved old id d changed next is)

trie_preserved : (old : List TrieNode) (id : ℕ) (d changed : TrieNode) (next : Role) → IsRestated old id d changed next
    → IsTrie (set old id changed)
trie_preserved old id d changed next is = record {
  root = omega (arith, is.trie.root, length-set old id changed);
  parents = λ j e low h. elim (cases_eq j id) [
    | inl here ↦
        let own : get_or (set old id changed) j e ≡ changed =
        ap (λ k. get_or (set old id changed) k e) here ∙ get_or-set_same old id changed e is.within in
        omega (
          arith,
          ap (λ (n : TrieNode). n.parent) own,
          ap (λ (l : ℕ × Part). l.0) is.same,
          is.trie.parents id d (omega arith) is.within,
          here,
        )
    | inr other ↦
        omega (
          arith,
          ap (λ (n : TrieNode). n.parent) (get_or-set_other old id j changed e other),
          is.trie.parents j e low (omega (arith, length-set old id changed)),
        )
  ];
  distinct =
      let P : List (List Part) → Type 0 = AllPairs (λ p q. p ≢ q) in
      subst P (sym (paths_preserved old id d changed next is)) is.trie.distinct;
}

pub restates_set : (old : List TrieNode) (id : ℕ) (d changed : TrieNode) (next : Role)
    → IsRestated old id d changed next → Restates old (set old id changed) id next
restates_set old id d changed next is = record {
  trie = is.trie;
  trie' = trie_preserved old id d changed next is;
  within = is.within;
  paths = paths_preserved old id d changed next is;
  states =
      map-set (λ (n : TrieNode). n.state) old id changed
      ∙ ap (λ s. set (map (λ (n : TrieNode). n.state) old) id s) is.state;
  holdings = map-set_same (λ (n : TrieNode). n.holds) old id changed d is.holds;
  children = λ i. ap (λ ls. children_from 1 i (drop 1 ls)) (links_preserved old id d changed next is);
  many = length-set old id changed;
}
