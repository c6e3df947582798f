-- One node more in the tree of steps is the last child of its parent and has no children, and all else stays.
--
-- Theorems: `children_here`: it is the last child of its parent; `children_other`: other nodes have the children that
-- they had; `path_last`: it has the path that it is to have.
use Rattle.std.proofs.Common.{◌≡◌, ℕ, ◌+◌, ◌<◌, true, false, cond, List, [], ◌∷◌, ◌++◌, length, get_or, refl, sym, ◌∙◌}
use Rattle.std.proofs.Common.{ap, arith, length-append, Option, None}
use Rattle.std.specs.Prelude.{◌==◌}
use Rattle.std.proofs.lemmas.List.{get_or_append_left, get_or_push, append-nil, length-map}
use Rattle.std.proofs.lemmas.Bool.Decides.{Decides-eqb}
use Rattle.keep_types.specs.declared.role.Role.{Role}
use Rattle.keep_path.specs.Path.{Part}
use Rattle.keep_index_store.specs.Trie.{TrieNode, Holding, nothing, IsTrie, paths_of, path_at, states_of, state_at}
use Rattle.keep_index_store.specs.Trie.{holdings_of, holds_at, children_of}
use Rattle.keep_index_store.specs.Growth.{Grows}
use Rattle.keep_index_store.proofs.TrieLemmas.{length-paths_of, no_children_past_end}

pub many : (nodes : List TrieNode) → IsTrie nodes → length (paths_of nodes) ≡ length nodes
many nodes trie = length-paths_of nodes trie.root

pub first : (nodes : List TrieNode) → IsTrie nodes → TrieNode
first [] trie = absurd (omega (arith, trie.root))
first (n ∷ ns) trie = n

-- ---- the parent and the path of one node more

pub longer : {old new : List TrieNode} {parent : ℕ} {path : List Part} {state : Option Role} {holds : Holding}
    → (g : Grows old new parent path state holds) → length new ≡ length old + 1
longer {old = old} {new = new} {path = path} g =
    omega (arith, many old g.trie, many new g.trie', ap length g.paths, length-append (paths_of old) (path ∷ []))

pub path_below : {old new : List TrieNode} {parent : ℕ} {path : List Part} {state : Option Role} {holds : Holding}
    → (g : Grows old new parent path state holds) → (i : ℕ) → i < length old → path_at new i ≡ path_at old i
path_below {old = old} {path = path} g i h =
    ap (λ ps. get_or ps i []) g.paths
    ∙ get_or_append_left (paths_of old) (path ∷ []) [] i (omega (arith, many old g.trie))

pub path_last : {old new : List TrieNode} {parent : ℕ} {path : List Part} {state : Option Role} {holds : Holding}
    → (g : Grows old new parent path state holds) → path_at new (length old) ≡ path
path_last {old = old} {path = path} g =
    ap (λ ps. get_or ps (length old) []) g.paths ∙ get_or_push (paths_of old) path [] (length old) (many old g.trie)

pub state_below : {old new : List TrieNode} {parent : ℕ} {path : List Part} {state : Option Role} {holds : Holding}
    → (g : Grows old new parent path state holds) → (i : ℕ) → i < length old → state_at new i ≡ state_at old i
state_below {old = old} {state = state} g i h =
    ap (λ ss. get_or ss i None) g.states
    ∙ get_or_append_left (states_of old) (state ∷ []) None i (omega (arith, length-map old (λ (n : TrieNode). n.state)))

pub state_last : {old new : List TrieNode} {parent : ℕ} {path : List Part} {state : Option Role} {holds : Holding}
    → (g : Grows old new parent path state holds) → state_at new (length old) ≡ state
state_last {old = old} {state = state} g =
    ap (λ ss. get_or ss (length old) None) g.states
    ∙ get_or_push (states_of old) state None (length old) (length-map old (λ (n : TrieNode). n.state))

pub holds_below : {old new : List TrieNode} {parent : ℕ} {path : List Part} {state : Option Role} {holds : Holding}
    → (g : Grows old new parent path state holds) → (i : ℕ) → i < length old → holds_at new i ≡ holds_at old i
holds_below {old = old} {holds = holds} g i h =
    ap (λ ss. get_or ss i nothing) g.holdings
    ∙ get_or_append_left (holdings_of old) (holds ∷ []) nothing i
    (omega (arith, length-map old (λ (n : TrieNode). n.holds)))

pub holds_last : {old new : List TrieNode} {parent : ℕ} {path : List Part} {state : Option Role} {holds : Holding}
    → (g : Grows old new parent path state holds) → holds_at new (length old) ≡ holds
holds_last {old = old} {holds = holds} g =
    ap (λ ss. get_or ss (length old) nothing) g.holdings
    ∙ get_or_push (holdings_of old) holds nothing (length old) (length-map old (λ (n : TrieNode). n.holds))

pub not_equal : (a b : ℕ) (xs : List ℕ) → (a ≡ b → ⊥) → cond (a == b) xs [] ≡ []
not_equal a b xs ne =
    (elim (a == b) as (λ t. (t ≡ true → ⊥) → cond t xs [] ≡ []) [ true ↦ λ no. absurd (no refl) | false ↦ λ no. refl ])
    (λ h. ne ((Decides-eqb a b).0 h))

pub children_other : {old new : List TrieNode} {parent : ℕ} {path : List Part} {state : Option Role} {holds : Holding}
    → (g : Grows old new parent path state holds) → (i : ℕ) → (i ≡ parent → ⊥) → children_of new i ≡ children_of old i
children_other {old = old} {parent = parent} g i ne =
    g.children i ∙ ap (λ ks. children_of old i ++ ks) (not_equal parent i (length old ∷ []) (λ e. ne (sym e)))
    ∙ append-nil (children_of old i)

pub children_here : {old new : List TrieNode} {parent : ℕ} {path : List Part} {state : Option Role} {holds : Holding}
    → (g : Grows old new parent path state holds) → (i : ℕ) → i ≡ parent
    → children_of new i ≡ children_of old i ++ length old ∷ []
children_here {old = old} {parent = parent} g i e =
    g.children i ∙ ap (λ b. children_of old i ++ cond b (length old ∷ []) []) ((Decides-eqb parent i).1 (sym e))

pub children_last : {old new : List TrieNode} {parent : ℕ} {path : List Part} {state : Option Role} {holds : Holding}
    → (g : Grows old new parent path state holds) → children_of new (length old) ≡ []
children_last {old = old} g =
    children_other g (length old) (λ e. absurd (omega (arith, g.within, e)))
    ∙ no_children_past_end old g.trie (first old g.trie) (length old) (omega arith)
