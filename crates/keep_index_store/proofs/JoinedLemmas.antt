-- Where the facts of some nodes are joined with more, first made and then stored, the tree of steps stays, and the
-- facts are those that joining one after another gives.
--
-- They are stored from the last on, and each was made of the facts that were there before any changed. Since the nodes
-- ascend, no node comes twice: so what is stored at one changes neither what was made for a later one (`others_same`)
-- nor what is stored there (`set_between`). Each has the role of its node, so the tree of steps stays.
--
-- Theorems: `facts_stored`, `roles_same` and `are_joined`, and `seen_..`, which say it of the tree that contracts see.
use Rattle.std.proofs.Common.{◌≡◌, ◌≢◌, ℕ, zero, suc, ◌+◌, ◌<◌, List, [], ◌∷◌, ◌++◌, length, get_or, set, take, Option}
use Rattle.std.proofs.Common.{refl, sym, ◌∙◌, ap, subst, arith, None}
use Rattle.std.proofs.lemmas.List.{get_or-map, get_or-set_other, get_or_append_left, length-append, length-map}
use Rattle.std.proofs.lemmas.List.{length-set, map_more, map-set, set-append_left, set_comm}
use Rattle.std.specs.List.{AllByRecursion}
use Rattle.keep_types.specs.declared.node.NodeInfo.{NodeInfo}
use Rattle.keep_types.specs.declared.role.Role.{Role}
use Rattle.keep_path.specs.NodeInfos.{no_info}
use Rattle.keep_index_store.specs.declared.facts.NodeFacts.{NodeFacts}
use Rattle.keep_index_store.specs.declared.tree.joining.Join.{Join}
use Rattle.keep_index_store.specs.AllNodes.{Node, no_node, node_at, with_facts}
use Rattle.keep_index_store.specs.Facts.{info_of, joined_facts, joined_info}
use Rattle.keep_index_store.specs.Joined.{joined_all, AreAscending, each_joined, with_all_facts, with_all_infos}
use Rattle.keep_index_store.specs.Joined.{AreJoined, HasRole}
use Rattle.keep_index_store.specs.Stored.{IsStored, trie_of, infos_of}
use Rattle.keep_index_store.specs.Tree.{TrieInfos, tree_of}
use Rattle.keep_index_store.specs.Trie.{TrieNode, state_at, states_of}
use Rattle.keep_index_store.proofs.PackedLemmas.{info_joined}
use Rattle.keep_index_store.proofs.StoredLemmas.{IsChanged, length_trie_of, role_read, stored_preserved}
use Rattle.keep_index_store.proofs.StoredLemmas.{trie_of_preserved}
use Rattle.keep_index_store.proofs.TreeLemmas.{count}

-- ---- one node after another, as the loops go

pub id_within : (low count : ℕ) (js : List Join) → AreAscending low count js → (i : ℕ) (d : Join) → i < length js
    → (get_or js i d).id < count
id_within low count [] are i d h = absurd (omega (arith, h))
id_within low count (j ∷ js) are zero d h = are.1
id_within low count (j ∷ js) are (suc i) d h = id_within (suc j.id) count js are.2 i d (omega (arith, h))

-- the joined facts of one more
pub one_joined : (nodes : List Node) (js : List Join) (i : ℕ) (d : Join) (es : List (ℕ × NodeFacts)) (t : NodeFacts)
    → i < length js → es ≡ each_joined nodes (take i js)
    → t ≡ joined_facts (node_at nodes (get_or js i d).id).facts (get_or js i d).facts
    → es ++ ((get_or js i d).id, t) ∷ [] ≡ each_joined nodes (take (i + 1) js)
one_joined nodes js i d es t h before is =
    let joined : Join → ℕ × NodeFacts = λ j. (j.id, joined_facts (node_at nodes j.id).facts j.facts) in
    ap (λ (x : NodeFacts). es ++ ((get_or js i d).id, x) ∷ []) is
    ∙ ap (λ (xs : List (ℕ × NodeFacts)). xs ++ joined (get_or js i d) ∷ []) before
    ∙ sym (map_more joined js i d h)

-- the last of those that are left is stored
stored_last : (nodes : List Node) (left : List (ℕ × NodeFacts)) (e : ℕ × NodeFacts)
    → with_all_facts (with_facts nodes e.0 e.1) left ≡ with_all_facts nodes (left ++ e ∷ [])
stored_last nodes [] e = refl
stored_last nodes (d ∷ left) e = ap (λ (ns : List Node). with_facts ns d.0 d.1) (stored_last nodes left e)

all_but_last : {X : Type 0} (P : X → Type 0) (xs : List X) (x : X) → AllByRecursion P (xs ++ x ∷ [])
    → AllByRecursion P xs × P x
all_but_last P [] x all = (tt, all.0)
all_but_last P (y ∷ ys) x all = let rest = all_but_last P ys x all.1 in ((all.0, rest.0), rest.1)

module _ (nodes : List Node) (es left : List (ℕ × NodeFacts)) (e : ℕ × NodeFacts) (is : es ≡ left ++ e ∷ []) where
  pub last_within : AllByRecursion (λ e. e.0 < length nodes) es → e.0 < length nodes
  last_within all =
      let Within : ℕ × NodeFacts → Type 0 = λ e. e.0 < length nodes in
      (all_but_last Within left e (subst (AllByRecursion Within) is all)).1

  module _ (after : List Node) (set_is : after ≡ with_facts nodes e.0 e.1) where
    pub left_within : AllByRecursion (λ e. e.0 < length nodes) es → AllByRecursion (λ e. e.0 < length after) left
    left_within all =
        let Within : ℕ → ℕ × NodeFacts → Type 0 = λ n e. e.0 < n in
        let many : length after ≡ length nodes = ap (λ (ns : List Node). length ns) set_is ∙ length-set nodes e.0 _ in
        subst (λ (n : ℕ). AllByRecursion (Within n) left) (sym many)
        (all_but_last (Within (length nodes)) left e (subst (AllByRecursion (Within (length nodes))) is all)).0

    pub left_stored : with_all_facts after left ≡ with_all_facts nodes es
    left_stored =
        ap (λ (ns : List Node). with_all_facts ns left) set_is ∙ stored_last nodes left e
        ∙ ap (with_all_facts nodes) (sym is)

-- ---- the tree of steps

pub all_within : (nodes : List Node) (es : List (ℕ × NodeFacts)) → AllByRecursion (HasRole (trie_of nodes)) es
    → AllByRecursion (λ e. e.0 < length nodes) es
all_within nodes [] have = tt
all_within nodes (e ∷ es) have = (omega (arith, have.0.0, length_trie_of nodes), all_within nodes es have.1)

-- the nodes with other facts are stored as those were, and have their tree
pub record IsStoredAs (nodes after : List Node) : Type 0 where
  pub stored : IsStored after
  pub trie : trie_of after ≡ trie_of nodes

pub facts_stored : (nodes : List Node) → IsStored nodes → (es : List (ℕ × NodeFacts))
    → AllByRecursion (HasRole (trie_of nodes)) es → IsStoredAs nodes (with_all_facts nodes es)
facts_stored nodes stored [] have = record { stored = stored; trie = refl }
facts_stored nodes stored (e ∷ es) have =
    let later : List Node = with_all_facts nodes es in
    let rest : IsStoredAs nodes later = facts_stored nodes stored es have.1 in
    let low : e.0 < length later = omega (arith, have.0.0, ap length rest.trie, length_trie_of later) in
    let changed : Node = record (node_at later e.0) { facts = e.1 } in
    let is : IsChanged later e.0 no_node changed =
    record { stored = rest.stored; within = low; parent = refl; number = refl; children = refl } in
    let role : e.1.role ≡ (node_at later e.0).facts.role =
    have.0.1 ∙ ap (λ (ts : List TrieNode). state_at ts e.0) (sym rest.trie) ∙ role_read later e.0 no_node low in
    record {
      stored = stored_preserved later e.0 no_node changed is role;
      trie = trie_of_preserved later e.0 no_node changed is role ∙ rest.trie;
    }

pub infos_stored : (nodes : List Node) (es : List (ℕ × NodeFacts))
    → infos_of (with_all_facts nodes es) ≡ with_all_infos (infos_of nodes) es
infos_stored nodes [] = refl
infos_stored nodes (e ∷ es) =
    let later : List Node = with_all_facts nodes es in
    let changed : Node = record (node_at later e.0) { facts = e.1 } in
    map-set (λ (n : Node). info_of n.facts) later e.0 changed
    ∙ ap (λ (is : List NodeInfo). set is e.0 (info_of e.1)) (infos_stored nodes es)

-- nodes that come after have roles of their own
pub roles_same : (old new : List TrieNode) (more : List (Option Role)) → states_of new ≡ states_of old ++ more
    → (es : List (ℕ × NodeFacts)) → AllByRecursion (HasRole old) es → AllByRecursion (HasRole new) es
roles_same old new more is [] have = tt
roles_same old new more is (e ∷ es) have =
    let states : List (Option Role) = states_of old in
    let count : length states ≡ length old = length-map old (λ (n : TrieNode). n.state) in
    let count' : length (states_of new) ≡ length new = length-map new (λ (n : TrieNode). n.state) in
    let all : length (states_of new) ≡ length states + length more = ap length is ∙ length-append states more in
    let low : e.0 < length states = omega (arith, have.0.0, count) in
    let stays : state_at new e.0 ≡ state_at old e.0 =
    ap (λ (s : List (Option Role)). get_or s e.0 None) is ∙ get_or_append_left states more None e.0 low in
    ((omega (arith, have.0.0, count, count', all), have.0.1 ∙ sym stays), roles_same old new more is es have.1)

-- ---- what was made

pub joined_roles : (nodes : List Node) (low : ℕ) (js : List Join) → AreAscending low (length nodes) js
    → AllByRecursion (HasRole (trie_of nodes)) (each_joined nodes js)
joined_roles nodes low [] are = tt
joined_roles nodes low (j ∷ js) are = (
  (omega (arith, are.1, length_trie_of nodes), sym (role_read nodes j.id no_node are.1)),
  joined_roles nodes (suc j.id) js are.2,
)

-- the joined facts of a node as callers see them
abbrev joined_at : List NodeInfo → Join → NodeInfo
joined_at infos j = joined_info (get_or infos j.id no_info) (info_of j.facts)

-- those of each stored, from the last on
abbrev stored_infos : List NodeInfo → List NodeInfo → List Join → List NodeInfo
stored_infos infos before [] = infos
stored_infos infos before (j ∷ js) = set (stored_infos infos before js) j.id (joined_at before j)

made_stored : (nodes : List Node) (infos : List NodeInfo) (low : ℕ) (js : List Join)
    → AreAscending low (length nodes) js
    → with_all_infos infos (each_joined nodes js) ≡ stored_infos infos (infos_of nodes) js
made_stored nodes infos low [] are = refl
made_stored nodes infos low (j ∷ js) are =
    let own : NodeFacts = (node_at nodes j.id).facts in
    let is : info_of (joined_facts own j.facts) ≡ joined_at (infos_of nodes) j =
    info_joined own j.facts
    ∙ ap (λ (i : NodeInfo). joined_info i (info_of j.facts))
    (sym (get_or-map (λ (n : Node). info_of n.facts) nodes j.id no_node no_info are.1)) in
    ap (λ (is : List NodeInfo). set is j.id (info_of (joined_facts own j.facts)))
    (made_stored nodes infos (suc j.id) js are.2)
    ∙ ap (λ (i : NodeInfo). set (stored_infos infos (infos_of nodes) js) j.id i) is

module _ (count at : ℕ) (x : NodeInfo) where
  set_between : (infos before : List NodeInfo) (low : ℕ) (js : List Join) → at < low → AreAscending low count js
      → stored_infos (set infos at x) before js ≡ set (stored_infos infos before js) at x
  set_between infos before low [] h are = refl
  set_between infos before low (j ∷ js) h are =
      let other : at ≢ j.id = λ same. omega (arith, h, are.0, same) in
      ap (λ (is : List NodeInfo). set is j.id (joined_at before j))
      (set_between infos before (suc j.id) js (omega (arith, h, are.0)) are.2)
      ∙ set_comm (stored_infos infos before js) at j.id x (joined_at before j) other

  others_same : (infos before : List NodeInfo) (low : ℕ) (js : List Join) → at < low → AreAscending low count js
      → stored_infos infos (set before at x) js ≡ stored_infos infos before js
  others_same infos before low [] h are = refl
  others_same infos before low (j ∷ js) h are =
      let other : j.id ≢ at = λ same. omega (arith, h, are.0, same) in
      ap (λ (is : List NodeInfo). set is j.id (joined_at (set before at x) j))
      (others_same infos before (suc j.id) js (omega (arith, h, are.0)) are.2)
      ∙ ap (λ (i : NodeInfo). set (stored_infos infos before js) j.id (joined_info i (info_of j.facts)))
      (get_or-set_other before at j.id x no_info other)

joined_stored : (infos more : List NodeInfo) (low : ℕ) (js : List Join) → AreAscending low (length infos) js
    → stored_infos (infos ++ more) infos js ≡ joined_all infos js ++ more
joined_stored infos more low [] are = refl
joined_stored infos more low (j ∷ js) are =
    let x : NodeInfo = joined_at infos j in
    let next : List NodeInfo = set infos j.id x in
    let later : AreAscending (suc j.id) (length infos) js = are.2 in
    sym (set_between (length infos) j.id x (infos ++ more) infos (suc j.id) js (omega arith) later)
    ∙ ap (λ (is : List NodeInfo). stored_infos is infos js) (set-append_left infos more j.id x are.1)
    ∙ sym (others_same (length infos) j.id x (next ++ more) infos (suc j.id) js (omega arith) later)
    ∙ joined_stored next more (suc j.id) js
    (subst (λ (n : ℕ). AreAscending (suc j.id) n js) (sym (length-set infos j.id x)) later)

pub are_joined : (nodes : List Node) (js : List Join) → AreAscending 0 (length nodes) js
    → AreJoined (infos_of nodes) js (each_joined nodes js)
are_joined nodes js are = λ more.
    let count : length (infos_of nodes) ≡ length nodes = length-map nodes (λ (n : Node). info_of n.facts) in
    made_stored nodes (infos_of nodes ++ more) 0 js are
    ∙ joined_stored (infos_of nodes) more 0 js (subst (λ (n : ℕ). AreAscending 0 n js) (sym count) are)

-- ---- as the tree is seen

module _ (nodes : List Node) (t : TrieInfos) (view : tree_of nodes ≡ t) (stored : IsStored nodes) where
  module _ (js : List Join) (are : AreAscending 0 (length t.trie) js) where
    pub seen_ascending : AreAscending 0 (length nodes) js
    seen_ascending = subst (λ (n : ℕ). AreAscending 0 n js) (count nodes t view stored) are

    module _ (es : List (ℕ × NodeFacts)) (is : es ≡ each_joined nodes js) where
      pub seen_roles : AllByRecursion (HasRole t.trie) es
      seen_roles =
          subst (λ (x : TrieInfos). AllByRecursion (HasRole x.trie) es) view
          (subst (AllByRecursion (HasRole (trie_of nodes))) (sym is) (joined_roles nodes 0 js seen_ascending))

      pub seen_joined : AreJoined t.infos js es
      seen_joined =
          subst (λ (x : TrieInfos). AreJoined x.infos js es) view
          (subst (AreJoined (infos_of nodes) js) (sym is) (are_joined nodes js seen_ascending))

  module _ (es : List (ℕ × NodeFacts)) (have : AllByRecursion (HasRole t.trie) es) where
    own_roles : AllByRecursion (HasRole (trie_of nodes)) es
    own_roles = subst (λ (x : TrieInfos). AllByRecursion (HasRole x.trie) es) (sym view) have

    pub seen_within : AllByRecursion (λ e. e.0 < length nodes) es
    seen_within = all_within nodes es own_roles

    module _ (after : List Node) (is : after ≡ with_all_facts nodes es) where
      pub seen_stored : IsStored after
      seen_stored = subst IsStored (sym is) (facts_stored nodes stored es own_roles).stored

      pub seen_trie : trie_of after ≡ t.trie
      seen_trie = ap trie_of is ∙ (facts_stored nodes stored es own_roles).trie ∙ ap (λ (x : TrieInfos). x.trie) view

      pub seen_infos : infos_of after ≡ with_all_infos t.infos es
      seen_infos =
          ap infos_of is ∙ infos_stored nodes es ∙ ap (λ (x : TrieInfos). with_all_infos x.infos es) view
