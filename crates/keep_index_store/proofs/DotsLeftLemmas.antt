-- Tables of dotted keys that a line less goes on from are as they were, where its node goes with those below it, and
-- where key parts are moved.
--
-- The node comes after them, so they have the numbers and the paths that they had (`path_left`), and so the parents
-- (`parents_left`). Numbers in the facts about them may be others, but none of a value is greater (`lower_value`), and
-- they have the marks that they had (`gives_left`).
--
-- Theorems: `count_infos` and `below_run`; `parts_givers` and `parts_small`; `nodes_left`, `givers_left`, `above_left`
-- and `small_left`; `up_all`.
use Rattle.std.proofs.Common.{◌≡◌, ℕ, zero, suc, ◌+◌, ◌-◌, ◌<◌, ◌≤◌, Bool, true, false, cond, List, [], ◌∷◌, ◌++◌}
use Rattle.std.proofs.Common.{length, get_or, set, take, drop, map, refl, sym, ◌∙◌, ap, subst, arith, inl, inr}
use Rattle.std.specs.Prelude.{All, nat_lt}
use Rattle.std.specs.List.{remove}
use Rattle.std.proofs.lemmas.Bool.{cases_lt}
use Rattle.std.proofs.lemmas.List.{append-nil, get_or-map, get_or-set_other, get_or-take, get_or_append_left}
use Rattle.std.proofs.lemmas.List.{length-append, length-map, length-set, length-take-le}
use Rattle.std.proofs.lemmas.List.Edits.{get_or-remove_below}
use Rattle.std.proofs.lemmas.List.Elements.{All-append, All-cons, All-drop, All-map, All-set, All-take}
use Rattle.std.proofs.Math.ListN.{get_or-eq_default}
use Rattle.keep_types.specs.declared.node.Kind.{Kind}
use Rattle.keep_types.specs.declared.node.NodeInfo.{NodeInfo}
use Rattle.keep_types.specs.declared.node.Origin.{Origin}
use Rattle.keep_types.specs.declared.node.Origin.TheVariants as origin
use Rattle.keep_path.specs.NodeInfos.{LineNumbers, NodeInfos, earlier_number, no_info, renumbered, renumbered_origin}
use Rattle.keep_path.specs.NodeInfos.{root_infos, without_node}
use Rattle.keep_path.specs.NodesBelow.{AreBelow, Totals, info_beside, key_of, shifted, value_of}
use Rattle.keep_path.specs.NodesBelow.{with_numbers, with_value}
use Rattle.keep_path.specs.Path.{Part}
use Rattle.keep_index_store.specs.AllNodes.{Node}
use Rattle.keep_index_store.specs.Below.{IsRunBelow}
use Rattle.keep_index_store.specs.Dots.{up_from}
use Rattle.keep_index_store.specs.DotsLess.{AreGivers, CanGive, HasSmallValue}
use Rattle.keep_index_store.specs.Facts.{info_of}
use Rattle.keep_index_store.specs.Stored.{trie_of}
use Rattle.keep_index_store.specs.Tree.{TrieInfos, info_at, node_infos, tree_of}
use Rattle.keep_index_store.specs.Trie.{IsTrie, TrieNode, link, parent_at, path_at, paths_of}
use Rattle.keep_index_store.proofs.BelowPathLemmas.{is_below, path_below}
use Rattle.keep_index_store.proofs.DotsLessLemmas.{givers_stay, parent_low}
use Rattle.keep_index_store.proofs.NewNodeLemmas.{first}
use Rattle.keep_index_store.proofs.RemovedListLemmas.{length-removed}
use Rattle.keep_index_store.proofs.StoredLemmas.{length_trie_of}
use Rattle.keep_index_store.proofs.TrieLemmas.{length-paths_of, one_node, path_at-link, push_same}

-- ---- the nodes, as they are seen

pub count_infos : (nodes : List Node) (t : TrieInfos) → tree_of nodes ≡ t → length t.infos ≡ length t.trie
count_infos nodes t view =
    omega (
      arith,
      ap (λ (x : TrieInfos). length x.infos) view,
      ap (λ (x : TrieInfos). length x.trie) view,
      length-map nodes (λ (n : Node). info_of n.facts),
      length_trie_of nodes,
    )

-- the paths tell which nodes are below

pub below_run : (nodes : List Node) (id gone : ℕ) → IsRunBelow nodes id gone
    → AreBelow (paths_of (trie_of nodes)) id gone
below_run nodes id gone run = record {
  within = omega (arith, run.within, count);
  below = λ j after up_to.
      let e = path_below nodes id gone run j (omega (arith, after)) up_to in (
        e.more,
        λ none. omega (
          arith,
          after,
          one j id (omega (arith, up_to, run.within)) (omega (arith, run.within))
              (e.is ∙ ap (λ ps. path_at trie id ++ ps) none ∙ append-nil (path_at trie id)),
        ),
        e.is,
      );
  others = λ j far h more is. by j far (omega (arith, h, count)) more is;
}
  where
    trie : List TrieNode
    trie = trie_of nodes

    count : length (paths_of (trie_of nodes)) ≡ length nodes
    count =
        omega (
          arith,
          run.within,
          length_trie_of nodes,
          length-paths_of (trie_of nodes) (omega (arith, run.within, length_trie_of nodes)),
        )

    one : (i j : ℕ) → i < length nodes → j < length nodes → path_at (trie_of nodes) i ≡ path_at (trie_of nodes) j
        → i ≡ j
    one i j h g same =
        one_node (trie_of nodes) run.stored.trie i j (omega (arith, h, length_trie_of nodes))
        (omega (arith, g, length_trie_of nodes)) same

    by : (j : ℕ) → id + gone < j → j < length nodes → (more : List Part)
        → path_at (trie_of nodes) j ≡ path_at (trie_of nodes) id ++ more → ⊥
    by j far h [] is =
        omega (
          arith,
          far,
          one j id h (omega (arith, run.within)) (is ∙ append-nil (path_at (trie_of nodes) id)),
        )
    by j far h (p ∷ ps) is =
        let w = is_below nodes id gone run j h (p ∷ ps) (omega arith) is in omega (arith, far, w.up_to)

-- ---- numbers of values

earlier_less : (at n : ℕ) → earlier_number at n ≤ n
earlier_less at n = (elim (nat_lt at n) as (λ (b : Bool). cond b (n - 1) n ≤ n) [
  | true ↦ omega arith
  | false ↦ omega arith
])

shifted_less : (from old new n : ℕ) → new ≤ old → shifted from old new n ≤ n
shifted_less from old new n less = (elim (nat_lt n from) as (λ (b : Bool). cond b n ((n + new) - old) ≤ n) [
  | true ↦ omega arith
  | false ↦ omega (arith, less)
])

lower_value : (statement value : ℕ → ℕ) → ((n : ℕ) → value n ≤ n) → (i : NodeInfo) (o : Origin)
    → value_of (record i { origin = renumbered_origin statement value o }) ≤ value_of (record i { origin = o })
lower_value statement value less i origin.Root = omega arith
lower_value statement value less i (origin.Value v) = less v
lower_value statement value less i (origin.Header s) = omega arith
lower_value statement value less i (origin.Element s) = omega arith
lower_value statement value less i (origin.Dotted v) = less v
lower_value statement value less i (origin.Through s) = omega arith
lower_value statement value less i origin.Tables = omega arith

small_mapped : (f : NodeInfo → NodeInfo) → ((i : NodeInfo) → value_of (f i) ≤ value_of i) → (is : List NodeInfo)
    → All HasSmallValue is → All HasSmallValue (map f is)
small_mapped f less is small =
    All-map HasSmallValue f is (λ k d h. omega (arith, less (get_or is k d), small k d h))

-- ---- key parts that are moved

-- a table is there
table_low : (is : List NodeInfo) (j : ℕ) → CanGive (get_or is j no_info) → j < length is
table_low is j gives = elim (cases_lt j (length is)) [
  | inl low ↦ low
  | inr past ↦
      let marks : (get_or is j no_info).marks ≡ 0 =
      ap (λ (i : NodeInfo). i.marks) (get_or-eq_default is no_info past) in
      absurd (omega (arith, gives.more, marks))
]

gives_mapped : (f : NodeInfo → NodeInfo) → ((i : NodeInfo) → CanGive i → CanGive (f i)) → (is : List NodeInfo) (j : ℕ)
    → CanGive (get_or is j no_info) → CanGive (get_or (map f is) j no_info)
gives_mapped f stays is j gives =
    subst CanGive (sym (get_or-map f is j no_info no_info (table_low is j gives)))
    (stays (get_or is j no_info) gives)

numbered_gives : (value key : ℕ → ℕ) (i : NodeInfo) → CanGive i → CanGive (with_numbers value key i)
numbered_gives value key i gives =
    record {
      more = gives.more;
      dotted = (value gives.dotted.0, ap (renumbered_origin (λ s. s) value) gives.dotted.1);
    }

module _ (key : ℕ → ℕ) (t u : TrieInfos) (same : u.trie ≡ t.trie)
    (is : u.infos ≡ map (with_numbers (λ v. v) key) t.infos) where
  pub parts_givers : (id n : ℕ) → AreGivers t id n → AreGivers u id n
  parts_givers id zero all = tt
  parts_givers id (suc n) all = (
    record {
      later = all.0.later;
      gives =
          subst (λ (xs : List NodeInfo). CanGive (get_or xs id no_info)) (sym is)
          (gives_mapped (with_numbers (λ v. v) key) (numbered_gives (λ v. v) key) t.infos id all.0.gives);
    },
    subst (λ (ts : List TrieNode). AreGivers u (parent_at ts id) n) (sym same)
        (parts_givers (parent_at t.trie id) n all.1),
  )

  pub parts_small : All HasSmallValue t.infos → All HasSmallValue u.infos
  parts_small small =
      subst (All HasSmallValue) (sym is)
      (small_mapped (with_numbers (λ v. v) key)
      (λ i. lower_value (λ s. s) (λ v. v) (λ n. omega arith) i i.origin) t.infos small)

-- ---- a list where what comes after some elements is another, and the last of these goes

module _ {X : Type 0} (xs more : List X) (at : ℕ) (within : at < length xs) where
  abbrev left : List X
  left = take (suc at) xs ++ more

  length_first : length (take (suc at) xs) ≡ suc at
  length_first = length-take-le (suc at) xs (omega (arith, within))

  length_left : at < length left
  length_left = omega (arith, length_first, length-append (take (suc at) xs) more)

  count_left : at ≤ length (remove left at)
  count_left = omega (arith, length_left, length-removed left at length_left)

  row_left : (j : ℕ) (d : X) → j < at → get_or (remove left at) j d ≡ get_or xs j d
  row_left j d before =
      get_or-remove_below left at d j before length_left
      ∙ get_or_append_left (take (suc at) xs) more d j (omega (arith, before, length_first))
      ∙ get_or-take (suc at) xs j d (omega (arith, before))

all_left : (P : NodeInfo → Type 0) (xs : List NodeInfo) (at gone : ℕ) → All P xs
    → All P (remove (take (suc at) xs ++ drop (suc at + gone) xs) at)
all_left P xs at gone all =
    let ys : List NodeInfo = take (suc at) xs ++ drop (suc at + gone) xs in
    let some : All P ys =
    All-append P (take (suc at) xs) (drop (suc at + gone) xs) (All-take P (suc at) xs all)
    (All-drop P (suc at + gone) xs all) in
    All-append P (take at ys) (drop (suc at) ys) (All-take P at ys some) (All-drop P (suc at) ys some)

-- ---- the nodes below go, and the node

module _ (t u : TrieInfos) (at gone : ℕ) (old bare : Totals) (k : Kind) (line : LineNumbers) (trie : IsTrie t.trie)
    (then : IsTrie u.trie) (count : length t.infos ≡ length t.trie) (low : at < length t.trie)
    (is : node_infos u ≡ without_node (with_value (node_infos t) at gone old bare root_infos k) at line) where
  abbrev own : NodeInfo
  own = get_or t.infos at no_info

  abbrev beside : NodeInfo → NodeInfo
  beside i = info_beside own old bare i

  abbrev earlier : NodeInfo → NodeInfo
  earlier i = renumbered earlier_number line i

  abbrev set_infos : List NodeInfo
  set_infos = set t.infos at (record own { kind = k })

  abbrev kept : List NodeInfo
  kept = take (suc at) (map beside set_infos) ++ drop (suc at + gone) (map beside set_infos)

  paths_then : paths_of u.trie
      ≡ remove (take (suc at) (paths_of t.trie) ++ drop (suc at + gone) (paths_of t.trie)) at
  paths_then = ap (λ (x : NodeInfos). x.paths) is

  infos_then : u.infos ≡ map earlier (remove kept at)
  infos_then = ap (λ (x : NodeInfos). x.infos) is

  paths_count : length (paths_of t.trie) ≡ length t.trie
  paths_count = length-paths_of t.trie trie.root

  after_paths : List (List Part)
  after_paths = drop (suc at + gone) (paths_of t.trie)

  paths_low : at < length (paths_of t.trie)
  paths_low = omega (arith, low, paths_count)

  pub nodes_left : at ≤ length u.trie
  nodes_left =
      omega (
        arith,
        count_left (paths_of t.trie) (drop (suc at + gone) (paths_of t.trie)) at paths_low,
        ap length paths_then,
        length-paths_of u.trie then.root,
      )

  path_left : (j : ℕ) → j < at → path_at u.trie j ≡ path_at t.trie j
  path_left j before =
      ap (λ (ps : List (List Part)). get_or ps j []) paths_then
      ∙ row_left (paths_of t.trie) (drop (suc at + gone) (paths_of t.trie)) at paths_low j [] before

  parents_left : (j : ℕ) → 0 < j → j < at → parent_at u.trie j ≡ parent_at t.trie j
  parents_left j later before =
      let d : TrieNode = first t.trie trie in
      let h : j < length t.trie = omega (arith, before, low) in
      let g : j < length u.trie = omega (arith, before, nodes_left) in
      let p : ℕ = parent_at t.trie j in
      let q : ℕ = parent_at u.trie j in
      let up : p < j = parent_low t.trie trie j later h in
      let up' : q < j = parent_low u.trie then j later g in
      let p_is : p ≡ (get_or t.trie j d).parent = get_or-map (λ (x : TrieNode). x.parent) t.trie j d 0 h in
      let q_is : q ≡ (get_or u.trie j d).parent = get_or-map (λ (x : TrieNode). x.parent) u.trie j d 0 g in
      let was : path_at t.trie j ≡ path_at t.trie p ++ (link (get_or t.trie j d)).1 ∷ [] =
      path_at-link t.trie trie j d later h
      ∙ ap (λ (n : ℕ). path_at t.trie n ++ (link (get_or t.trie j d)).1 ∷ []) (sym p_is) in
      let now : path_at u.trie j ≡ path_at u.trie q ++ (link (get_or u.trie j d)).1 ∷ [] =
      path_at-link u.trie then j d later g
      ∙ ap (λ (n : ℕ). path_at u.trie n ++ (link (get_or u.trie j d)).1 ∷ []) (sym q_is) in
      let above = push_same (path_at u.trie q) (path_at t.trie p) (link (get_or u.trie j d)).1
      (link (get_or t.trie j d)).1 (sym now ∙ path_left j before ∙ was) in
      one_node u.trie then q p (omega (arith, up', g)) (omega (arith, up, g))
      (above.0 ∙ sym (path_left p (omega (arith, up, before))))

  earlier_gives : (i : NodeInfo) → CanGive i → CanGive (earlier i)
  earlier_gives i gives =
      record {
        more = gives.more;
        dotted = (
          earlier_number line.value gives.dotted.0,
          ap (renumbered_origin (earlier_number line.statement) (earlier_number line.value)) gives.dotted.1,
        );
      }

  beside_gives : (i : NodeInfo) → CanGive i → CanGive (beside i)
  beside_gives =
      numbered_gives (shifted (suc (value_of own)) old.values bare.values)
      (shifted (suc (key_of own)) old.keys bare.keys)

  set_low : at < length (map beside set_infos)
  set_low = omega (arith, low, count, length-map set_infos beside, length-set t.infos at (record own { kind = k }))

  gives_left : (j : ℕ) → j < at → CanGive (info_at t j) → CanGive (info_at u j)
  gives_left j before gives =
      let own' : NodeInfo = record own { kind = k } in
      let first : CanGive (get_or set_infos j no_info) =
      subst CanGive (sym (get_or-set_other t.infos at j own' no_info (λ same. omega (arith, before, same)))) gives in
      let moved : CanGive (get_or (map beside set_infos) j no_info) =
      gives_mapped beside beside_gives set_infos j first in
      let still : CanGive (get_or (remove kept at) j no_info) =
      subst CanGive
      (sym (row_left (map beside set_infos) (drop (suc at + gone) (map beside set_infos)) at set_low j no_info before))
      moved in
      subst (λ (xs : List NodeInfo). CanGive (get_or xs j no_info)) (sym infos_then)
      (gives_mapped earlier earlier_gives (remove kept at) j still)

  pub givers_left : (id n : ℕ) → id < at → AreGivers t id n → AreGivers u id n
  givers_left id n before =
      givers_stay t u at trie (omega (arith, low)) parents_left gives_left n id before

  pub above_left : (id n : ℕ) → id < at → AreGivers t id n → up_from u.trie id n ≡ up_from t.trie id n
  above_left id zero before all = refl
  above_left id (suc n) before all =
      let up : parent_at t.trie id < id =
      parent_low t.trie trie id all.0.later (omega (arith, before, low)) in
      ap (λ (xs : List ℕ). xs ++ id ∷ [])
      (ap (λ (p : ℕ). up_from u.trie p n) (parents_left id all.0.later before)
      ∙ above_left (parent_at t.trie id) n (omega (arith, up, before)) all.1)

  pub small_left : bare.values ≤ old.values → All HasSmallValue t.infos → All HasSmallValue u.infos
  small_left less small =
      let value : ℕ → ℕ = shifted (suc (value_of own)) old.values bare.values in
      let own_small : HasSmallValue (record own { kind = k }) = small at no_info (omega (arith, low, count)) in
      let moved : All HasSmallValue (map beside set_infos) =
      small_mapped beside (λ i. lower_value (λ s. s) value
      (λ n. shifted_less (suc (value_of own)) old.values bare.values n less) i i.origin) set_infos
      (All-set HasSmallValue t.infos at (record own { kind = k }) own_small small) in
      subst (All HasSmallValue) (sym infos_then)
      (small_mapped earlier (λ i. lower_value (earlier_number line.statement) (earlier_number line.value)
      (earlier_less line.value) i i.origin) (remove kept at)
      (all_left HasSmallValue (map beside set_infos) at gone moved))

-- ---- the tables from the highest on

pub up_all : (t : TrieInfos) → IsTrie t.trie → (n id : ℕ) → id < length t.trie → AreGivers t id n
    → All (λ j. (0 < j) × (j < length t.trie)) (up_from t.trie id n)
up_all t trie zero id low all = λ k d h. absurd (omega (arith, h))
up_all t trie (suc n) id low all =
    let P : ℕ → Type 0 = λ j. (0 < j) × (j < length t.trie) in
    let up : ℕ = parent_at t.trie id in
    let above : up < id = parent_low t.trie trie id all.0.later low in
    All-append P (up_from t.trie up n) (id ∷ []) (up_all t trie n up (omega (arith, above, low)) all.1)
    (All-cons P id [] (all.0.later, low) (λ k d h. absurd (omega (arith, h))))
