-- The answers of the stored nodes, by the paths of the nodes and the facts about them.
--
-- What is stored answers by its tree of steps; what is asked is about the paths of all nodes and the facts about them.
-- Both are the same by `node_infos` (`IsNode`, `IsSeen`), and with `LookupLemmas` each answer is the one asked for: the
-- child by a step is the node of the path with this step more (`child_answer`), and the children are as many and in the
-- same order (`count_answer`, `nth_answer`). A search along a path goes from the root (`at_root`) to the node of the
-- steps so far (`at_next`); where a step leads to no node, no longer path has one (`at_none`), and after all steps the
-- node is that of the path (`at_end`). Setting a kind changes the one as the other (`kind_set`), and what setting a key
-- asks of the one holds of the other (`ends_seen`, `fresh_seen`).
--
-- Theorems: `count_paths`: there are as many paths as stored nodes; `child_answer`: the child by a step; `at_end`: the
-- node to which all steps lead.
use Rattle.std.proofs.Common.{◌≡◌, ℕ, suc, ◌+◌, ◌<◌, ◌≤◌, true, false, if◌then◌else◌, List, [], ◌∷◌, ◌++◌, length, set}
use Rattle.std.proofs.Common.{take, drop, take-take, refl, sym, ◌∙◌, ap, arith, Option, Some, None}
use Rattle.std.specs.Prelude.{Contains, IfSome, IsNone, slice_get, nat_lt, min}
use Rattle.std.proofs.lemmas.Bool.Decides.{Decides-ltb}
use Rattle.std.proofs.lemmas.List.{take-append-drop, take_min}
use Rattle.std.proofs.lemmas.Option.{slice_get-get_or, slice_get_within, get_or_from_slice_get, option_and_then_some}
use Rattle.std.proofs.Math.Seq.{take-suc}
use Rattle.keep_rules.specs.declared.index.NodeId.{NodeId}
use Rattle.keep_types.specs.declared.node.Kind.{Kind}
use Rattle.keep_types.specs.declared.node.NodeInfo.{NodeInfo}
use Rattle.keep_path.specs.Path.{EndsInKey, Part, beside, index, last_part}
use Rattle.keep_meaning.specs.Nodes.{node_number}
use Rattle.keep_rules.specs.Lookup.{FindsNode, number_of, path_numbered, children_numbered, nth_child}
use Rattle.keep_index_store.specs.Tree.{TrieInfos, IsChild, info_at, node_infos}
use Rattle.keep_path.specs.NodeInfos.{NodeInfos, with_kind}
use Rattle.keep_index_store.specs.Trie.{TrieNode, IsTrie, children_of, path_at, paths_of}
use Rattle.keep_index_store.proofs.Shared.{first, length-paths_of, path_at-root}
use Rattle.keep_rules.proofs.LookupLemmas.{number_is, number_none, number_some, none_longer, none_there, nth_is}
use Rattle.keep_rules.proofs.LookupLemmas.{count_is}

-- a node, and the facts about all
pub record IsNode (nodes : TrieInfos) (t : NodeInfos) (i : ℕ) : Type 0 where
  pub trie : IsTrie nodes.trie
  pub view : node_infos nodes ≡ t
  pub nested : i < length t.paths

pub count_paths : (nodes : TrieInfos) (t : NodeInfos) → IsTrie nodes.trie → node_infos nodes ≡ t
    → length t.paths ≡ length nodes.trie
count_paths nodes t trie view = ap (λ (x : NodeInfos). length x.paths) (sym view) ∙ length-paths_of nodes.trie trie.root

pub low_node : (nodes : TrieInfos) (t : NodeInfos) (i : ℕ) → IsNode nodes t i → i < length nodes.trie
low_node nodes t i r = omega (arith, r.nested, count_paths nodes t r.trie r.view)

-- the child by a step has the number of the longer path
child_number : (ts : List TrieNode) → IsTrie ts → (i : ℕ) (p : Part) (o : Option ℕ) → IsChild ts i p o
    → o ≡ node_number (paths_of ts) (path_at ts i ++ p ∷ [])
child_number ts trie i p None none = sym (number_none (paths_of ts) (path_at ts i ++ p ∷ []) none)
child_number ts trie i p (Some id) there = sym (number_some ts trie id there.0) ∙ ap (node_number (paths_of ts)) there.1

pub child_answer : (nodes : TrieInfos) (t : NodeInfos) (i : ℕ) (p : Part) (o : Option ℕ) → IsNode nodes t i
    → IsChild nodes.trie i p o → o ≡ node_number t.paths (path_numbered t i ++ p ∷ [])
child_answer nodes t i p o r is =
    child_number nodes.trie r.trie i p o is
    ∙ ap (λ (x : NodeInfos). node_number x.paths (path_numbered x i ++ p ∷ [])) r.view

pub count_answer : (nodes : TrieInfos) (t : NodeInfos) (i : ℕ) → IsNode nodes t i
    → length (children_of nodes.trie i) ≡ length (children_numbered t i)
count_answer nodes t i r =
    sym (count_is nodes.trie r.trie i (first nodes.trie r.trie) (low_node nodes t i r))
    ∙ ap (λ (x : NodeInfos). length (children_numbered x i)) r.view

pub nth_answer : (nodes : TrieInfos) (t : NodeInfos) (i k : ℕ) → IsNode nodes t i
    → slice_get (children_of nodes.trie i) k ≡ nth_child t i k
nth_answer nodes t i k r =
    sym (nth_is nodes.trie r.trie i k (first nodes.trie r.trie) (low_node nodes t i r))
    ∙ ap (λ (x : NodeInfos). nth_child x i k) r.view

pub indexed_answer : (nodes : TrieInfos) (t : NodeInfos) (i k id : ℕ) → IsNode nodes t i
    → node_number t.paths (path_numbered t i ++ index k ∷ []) ≡ Some id → IsChild nodes.trie i (index k) (Some id)
indexed_answer nodes t i k id r is =
    let n = number_is (paths_of nodes.trie) (path_at nodes.trie i ++ index k ∷ []) id
    (ap (λ (x : NodeInfos). node_number x.paths (path_numbered x i ++ index k ∷ [])) r.view ∙ is) in
    (omega (arith, n.0, length-paths_of nodes.trie r.trie.root), n.1)

pub info_answer : (nodes : TrieInfos) (t : NodeInfos) (i : ℕ) (info : NodeInfo) → node_infos nodes ≡ t
    → slice_get nodes.infos i ≡ Some info → slice_get t.infos i ≡ Some info
info_answer nodes t i info view is = ap (λ (x : NodeInfos). slice_get x.infos i) (sym view) ∙ is

-- ---- a number that was found is a node's

pub number_within : (t : NodeInfos) (path : List Part) (o : Option NodeId) → number_of o ≡ node_number t.paths path
    → IfSome o (λ id. id.0 < length t.paths)
number_within t path None is = tt
number_within t path (Some id) is = (number_is t.paths path id.0 (sym is)).0

pub finds : (t : NodeInfos) (path : List Part) (o : Option NodeId) → number_of o ≡ node_number t.paths path
    → FindsNode t (node_number t.paths path) o
finds t path o is = record { found = is; within = number_within t path o is }

pub none_number : (o : Option NodeId) → IsNone o → number_of o ≡ None
none_number None h = refl
none_number (Some id) h = absurd cc

pub nth_within : (t : NodeInfos) (i n : ℕ) (o : Option NodeId) → number_of o ≡ nth_child t i n
    → IfSome o (λ id. id.0 < length t.paths)
nth_within t i n None is = tt
nth_within t i n (Some id) is =
    option_and_then_some (node_number t.paths) (slice_get (children_numbered t i) n) id.0 (sym is)
    (λ path _ found. (number_is t.paths path id.0 found).0)

-- ---- the node of a number

pub node_there : (n m : ℕ) → n < m → Some n ≡ (if nat_lt n m then Some n else None)
node_there n m h = ap (λ b. if b then Some n else None) (sym ((Decides-ltb n m).1 h))

pub node_past : (n m : ℕ) → m ≤ n → None ≡ (if nat_lt n m then Some n else None)
node_past n m h = (elim (nat_lt n m) as (λ b. nat_lt n m ≡ b → None ≡ (if b then Some n else None)) [
  | true ↦ λ is. absurd (omega (arith, (Decides-ltb n m).0 is))
  | false ↦ λ is. refl
]) refl

-- ---- step by step

-- all nodes, and the facts about them
pub record IsSeen (nodes : TrieInfos) (t : NodeInfos) : Type 0 where
  pub trie : IsTrie nodes.trie
  pub view : node_infos nodes ≡ t

seen_root : (nodes : TrieInfos) (t : NodeInfos) → IsSeen nodes t → (0 < length t.paths) × (path_numbered t 0 ≡ [])
seen_root nodes t s = (
  omega (arith, count_paths nodes t s.trie s.view, s.trie.root),
  ap (λ (x : NodeInfos). path_numbered x 0) (sym s.view) ∙ path_at-root nodes.trie,
)

seen_number : (nodes : TrieInfos) (t : NodeInfos) → IsSeen nodes t → (i : ℕ) → i < length t.paths
    → node_number t.paths (path_numbered t i) ≡ Some i
seen_number nodes t s i h =
    ap (λ (x : NodeInfos). node_number x.paths (path_numbered x i)) (sym s.view)
    ∙ number_some nodes.trie s.trie i (omega (arith, h, count_paths nodes t s.trie s.view))

pub seen_longer : (nodes : TrieInfos) (t : NodeInfos) → IsSeen nodes t → (path more : List Part)
    → node_number t.paths path ≡ None → node_number t.paths (path ++ more) ≡ None
seen_longer nodes t s path more is =
    ap (λ (x : NodeInfos). node_number x.paths (path ++ more)) (sym s.view)
    ∙ none_longer nodes.trie s.trie path more (ap (λ (x : NodeInfos). node_number x.paths path) s.view ∙ is)

-- after some steps: the node to which they lead
pub record IsAt (t : NodeInfos) (path : List Part) (done id : ℕ) : Type 0 where
  pub nested : id < length t.paths
  pub led : path_numbered t id ≡ take done path

pub at_root : (nodes : TrieInfos) (t : NodeInfos) → IsSeen nodes t → (path : List Part) → IsAt t path 0 0
at_root nodes t s path = record { nested = (seen_root nodes t s).0; led = (seen_root nodes t s).1 }

step_taken : (path : List Part) (done : ℕ) (p : Part) → slice_get path done ≡ Some p
    → take (done + 1) path ≡ take done path ++ p ∷ []
step_taken path done p is =
    ap (λ k. take k path) (let k : done + 1 ≡ suc done = omega arith in k)
    ∙ take-suc path done p (slice_get_within path done p is)
    ∙ ap (λ q. take done path ++ q ∷ []) (get_or_from_slice_get path done p p is)

-- the next step leads on
pub at_next : (t : NodeInfos) (path : List Part) (done id next : ℕ) (p : Part) → IsAt t path done id
    → slice_get path done ≡ Some p
    → Some next ≡ node_number t.paths (path_numbered t id ++ p ∷ []) → IsAt t path (done + 1) next
at_next t path done id next p at step is =
    let r = number_is t.paths (path_numbered t id ++ p ∷ []) next (sym is) in
    record { nested = r.0; led = r.1 ∙ ap (λ q. q ++ p ∷ []) at.led ∙ sym (step_taken path done p step) }

-- or to no node, and so do all steps
pub at_none : (nodes : TrieInfos) (t : NodeInfos) → IsSeen nodes t → (path : List Part) (done id n : ℕ) (p : Part)
    → IsAt t path done id → slice_get path done ≡ Some p → done < n
    → None ≡ node_number t.paths (path_numbered t id ++ p ∷ []) → None ≡ node_number t.paths (take n path)
at_none nodes t s path done id n p at step more is =
    let prefix : take n path ≡ (path_numbered t id ++ p ∷ []) ++ drop (done + 1) (take n path) =
    sym (take-append-drop (done + 1) (take n path))
    ∙ ap (λ q. q ++ drop (done + 1) (take n path))
    (take-take (done + 1) n path (omega arith) ∙ step_taken path done p step ∙ ap (λ q. q ++ p ∷ []) (sym at.led)) in
    sym (ap (node_number t.paths) prefix
    ∙ seen_longer nodes t s (path_numbered t id ++ p ∷ []) (drop (done + 1) (take n path)) (sym is))

-- no step is missing
pub step_there : (path : List Part) (done : ℕ) → done < length path → slice_get path done ≡ None → ⊥
step_there path done h is = let there = slice_get-get_or path done (index 0) h in absurd cc

-- all steps are done
pub at_end : (nodes : TrieInfos) (t : NodeInfos) → IsSeen nodes t → (path : List Part) (done n id : ℕ)
    → IsAt t path done id → done ≡ min n (length path) → Some id ≡ node_number t.paths (take n path)
at_end nodes t s path done n id at is =
    sym (seen_number nodes t s id at.nested)
    ∙ ap (node_number t.paths) (at.led ∙ ap (λ k. take k path) is ∙ take_min n path)

-- ---- another kind

pub kind_set : (old new : TrieInfos) (t : NodeInfos) (i : ℕ) (k : Kind) → node_infos old ≡ t → new.trie ≡ old.trie
    → new.infos ≡ set old.infos i (record (info_at old i) { kind = k }) → node_infos new ≡ with_kind t i k
kind_set old new t i k view same infos =
    ap (λ (ts : List TrieNode). let changed : NodeInfos = record { paths = paths_of ts; infos = new.infos } in changed)
    same
    ∙ ap (λ is. let changed : NodeInfos = record { paths = paths_of old.trie; infos = is } in changed) infos
    ∙ ap (λ (x : NodeInfos). with_kind x i k) view

-- ---- another key

pub ends_seen : (nodes : TrieInfos) (t : NodeInfos) (i : ℕ) → node_infos nodes ≡ t → EndsInKey (path_numbered t i)
    → EndsInKey (path_at nodes.trie i)
ends_seen nodes t i view ends = (ends.0, ap (λ (x : NodeInfos). last_part (path_numbered x i)) view ∙ ends.1)

pub fresh_seen : (nodes : TrieInfos) (t : NodeInfos) (i : ℕ) (text : List ℕ) → node_infos nodes ≡ t
    → node_number t.paths (beside (path_numbered t i) text) ≡ None
    → Contains (paths_of nodes.trie) (beside (path_at nodes.trie i) text) → ⊥
fresh_seen nodes t i text view is =
    none_there (paths_of nodes.trie) (beside (path_at nodes.trie i) text)
    (ap (λ (x : NodeInfos). node_number x.paths (beside (path_numbered x i) text)) view ∙ is)
