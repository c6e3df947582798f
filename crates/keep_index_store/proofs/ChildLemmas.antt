-- The child of a node by a step is the node whose path is longer by the step; the step to a child is its key, or else
-- its number among the children.
--
-- Theorems: `child_met`: the child by a step is the node of the longer path, or no node has that path; `child_only`:
-- the node of the longer path is the child by the step; `key_step`: the step to a child that has a key is the key.
use Rattle.std.proofs.Common.{◌≡◌, ◌≢◌, ℕ, suc, zero, ◌<◌, List, [], ◌∷◌, ◌++◌, length, get_or, refl, sym, ◌∙◌, ap}
use Rattle.std.proofs.Common.{subst, arith, Option, Some, None}
use Rattle.std.specs.Prelude.{Contains, slice_get}
use Rattle.std.specs.Option.{option_map}
use Rattle.std.proofs.lemmas.Option.{slice_get-get_or, slice_get_within, get_or_from_slice_get}
use Rattle.keep_index_store.specs.AllNodes.{Node}
use Rattle.keep_path.specs.Path.{Part, key, index}
use Rattle.keep_index_store.specs.Children.{ChildList, Bare, Keyed, Listed, holds_of, named, child_ids, child_named}
use Rattle.keep_index_store.specs.Children.{child_numbered}
use Rattle.keep_index_store.specs.Trie.{TrieNode, paths_of, path_at, children_of, by_key}
use Rattle.keep_index_store.specs.Stored.{step_at, trie_node_in, trie_of, IsStored}
use Rattle.keep_index_store.specs.Tree.{IsChild}
use Rattle.keep_index_store.proofs.TrieLemmas.{no_child, one_node, path_met}
use Rattle.keep_index_store.proofs.StoredLemmas.{length_trie_of, keyed_step, count_named, key_found, key_missing}
use Rattle.keep_index_store.proofs.StoredLemmas.{IsStoredChild, stored_child}

-- ---- the children of one node

abbrev pub child_by : ChildList → Part → Option ℕ
child_by c (key text) = child_named c text
child_by c (index n) = child_numbered c n

same_key : (a b : List ℕ) → key a ≡ key b → a ≡ b
same_key a b e = cc

-- the child by a step
record IsStepTo (c : ChildList) (p : Part) (id : ℕ) : Type 0 where
  pub place : ℕ
  pub nested : place < length (child_ids c)
  pub number : get_or (child_ids c) place 0 ≡ id
  pub step : step_at (named c) (holds_of c) place ≡ p

found_by_key : (c : ChildList) (text : List ℕ) (id : ℕ) → holds_of c ≡ by_key → child_named c text ≡ Some id
    → IsStepTo c (key text) id
found_by_key c text id keyed h =
    let r = key_found c text id keyed h in
    record {
      place = r.place;
      nested = r.nested;
      number = r.number;
      step = keyed_step (named c) (holds_of c) r.place keyed ∙ ap key r.name;
    }

step_found : (c : ChildList) (p : Part) (id : ℕ) → child_by c p ≡ Some id → IsStepTo c p id
step_found Bare (key text) id h = absurd cc
step_found Bare (index n) id h = absurd cc
step_found (Keyed pairs) (key text) id h = found_by_key (Keyed pairs) text id refl h
step_found (Keyed pairs) (index n) id h = absurd cc
step_found (Listed ids) (key text) id h = absurd cc
step_found (Listed ids) (index n) id h =
    record { place = n; nested = slice_get_within ids n id h; number = get_or_from_slice_get ids n id 0 h; step = refl }

missing_by_key : (c : ChildList) (text : List ℕ) (k : ℕ) → holds_of c ≡ by_key → child_named c text ≡ None
    → k < length (child_ids c) → step_at (named c) (holds_of c) k ≡ key text → ⊥
missing_by_key c text k keyed h low same =
    key_missing c text k keyed h low (same_key _ text (sym (keyed_step (named c) (holds_of c) k keyed) ∙ same))

step_missing : (c : ChildList) (p : Part) (k : ℕ) → child_by c p ≡ None → k < length (child_ids c)
    → step_at (named c) (holds_of c) k ≡ p → ⊥
step_missing Bare p k h low same = absurd (omega arith)
step_missing (Keyed pairs) (key text) k h low same = missing_by_key (Keyed pairs) text k refl h low same
step_missing (Keyed pairs) (index n) k h low same = absurd cc
step_missing (Listed ids) (key text) k h low same = absurd cc
step_missing (Listed ids) (index n) k h low same =
    let at : k ≡ n = cc in
    let there : slice_get ids n ≡ Some (get_or ids n 0) = slice_get-get_or ids n 0 (omega arith) in
    absurd cc

-- by an index it is the child at that place
pub index_is_place : (c : ChildList) (n k : ℕ) → child_by c (index n) ≡ Some k → slice_get (child_ids c) n ≡ Some k
index_is_place Bare n k h = absurd cc
index_is_place (Keyed pairs) n k h = absurd cc
index_is_place (Listed ids) n k h = h

-- its key, if it has one
by_entry : (ps : List (List ℕ × ℕ)) (n : ℕ) (text : List ℕ) → option_map (λ e. e.0) (slice_get ps n) ≡ Some text
    → (get_or ps n ([], 0)).0 ≡ text
by_entry [] n text h = absurd cc
by_entry (p ∷ ps) zero text h = cc
by_entry (p ∷ ps) (suc n) text h = by_entry ps n text h

pub key_step : (c : ChildList) (n : ℕ) (text : List ℕ) → option_map (λ e. e.0) (slice_get (named c) n) ≡ Some text
    → step_at (named c) (holds_of c) n ≡ key text
key_step Bare n text h = absurd cc
key_step (Keyed pairs) n text h = ap key (by_entry (named (Keyed pairs)) n text h)
key_step (Listed ids) n text h = absurd cc

entry_there : (ps : List (List ℕ × ℕ)) (n : ℕ) → n < length ps → option_map (λ e. e.0) (slice_get ps n) ≡ None → ⊥
entry_there [] n low h = absurd (omega arith)
entry_there (p ∷ ps) zero low h = absurd cc
entry_there (p ∷ ps) (suc n) low h = entry_there ps n (omega arith) h

all_named : (c : ChildList) (n : ℕ) → holds_of c ≡ by_key → n < length (child_ids c)
    → option_map (λ e. e.0) (slice_get (named c) n) ≡ None → ⊥
all_named c n keyed low h = entry_there (named c) n (omega (arith, low, count_named c keyed)) h

pub no_key_step : (c : ChildList) (n : ℕ) → n < length (child_ids c)
    → option_map (λ e. e.0) (slice_get (named c) n) ≡ None
    → (holds_of c ≢ by_key) × (step_at (named c) (holds_of c) n ≡ index n)
no_key_step Bare n low h = absurd (omega arith)
no_key_step (Keyed pairs) n low h = absurd (all_named (Keyed pairs) n refl low h)
no_key_step (Listed ids) n low h = (λ e. cc, refl)

-- ---- among the nodes

-- a step leads to the node of the longer path, or to none
pub child_met : (nodes : List Node) → IsStored nodes → (i : ℕ) (d : Node) (p : Part) (o : Option ℕ) → i < length nodes
    → o ≡ child_by (get_or nodes i d).children p → IsChild (trie_of nodes) i p o
child_met nodes stored i d p None h is =
    let c : ChildList = (get_or nodes i d).children in
    let ts : List TrieNode = trie_of nodes in
    let u : TrieNode = trie_node_in nodes d in
    let kids : child_ids c ≡ children_of ts i = stored.kids i d h in
    no_child ts stored.trie i p u (omega (arith, h, length_trie_of nodes)) (λ k low same.
    let nested : k < length (child_ids c) = omega (arith, low, ap length kids) in
    step_missing c p k (sym is) nested
    (sym ((stored_child nodes stored i k d h nested).part u) ∙ ap (λ ks. (get_or ts (get_or ks k 0) u).part) kids
    ∙ same))
child_met nodes stored i d p (Some id) h is =
    let c : ChildList = (get_or nodes i d).children in
    let r = step_found c p id (sym is) in
    let own : IsStoredChild nodes i r.place id d =
    subst (λ (n : ℕ). IsStoredChild nodes i r.place n d) r.number (stored_child nodes stored i r.place d h r.nested) in
    (omega (arith, own.nested, length_trie_of nodes), own.path ∙ ap (λ x. path_at (trie_of nodes) i ++ x ∷ []) r.step)

-- the only node of that path is the child by the step
pub child_only : (nodes : List Node) → IsStored nodes → (i : ℕ) (d : Node) (p : Part) (k : ℕ) → i < length nodes
    → IsChild (trie_of nodes) i p (Some k) → child_by (get_or nodes i d).children p ≡ Some k
child_only nodes stored i d p k h there = by_case (child_by (get_or nodes i d).children p) refl
  where
    by_case : (o : Option ℕ) → o ≡ child_by (get_or nodes i d).children p → o ≡ Some k
    by_case None is =
        absurd (child_met nodes stored i d p None h is
        (subst (Contains (paths_of (trie_of nodes))) there.1 (path_met (trie_of nodes) stored.trie k there.0)))
    by_case (Some id) is =
        let met = child_met nodes stored i d p (Some id) h is in
        ap Some (one_node (trie_of nodes) stored.trie id k met.0 there.0 (met.1 ∙ sym there.1))
