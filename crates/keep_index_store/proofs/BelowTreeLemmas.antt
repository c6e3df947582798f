-- The tree where a value gives place to another, as contracts see it.
--
-- The nodes have their numbers of values and of key parts moved first, beside the value and in the new one, which
-- leaves the tree of steps as it is; then the ones give place to the others. The kind of a node is no number, and the
-- node is none of those that go: so it is one whether it has its kind before that or after it (`kind_spliced`).
--
-- Theorems: `ready`; `stored_there`, `low_there`, `root_there` and `value_there`.
use Rattle.std.proofs.Common.{◌≡◌, ℕ, suc, ◌+◌, ◌<◌, ◌≤◌, ◌^◌, List, ◌++◌, length, get_or, set, take, drop, map}
use Rattle.std.proofs.Common.{refl, sym, ◌∙◌, ap, ap₂, subst, arith, Some}
use Rattle.std.specs.Prelude.{All, slice_get}
use Rattle.std.proofs.lemmas.List.{drop-map, drop-set-lt, get_or-map, length-map, length-take-le, map-set}
use Rattle.std.proofs.lemmas.List.{set-append_left}
use Rattle.std.proofs.lemmas.Option.{get_or_from_slice_get}
use Rattle.std.proofs.Math.Seq.{take-set-lt}
use Rattle.keep_types.specs.declared.node.Kind.{Kind}
use Rattle.keep_types.specs.declared.node.NodeInfo.{NodeInfo}
use Rattle.keep_path.specs.NodeInfos.{NodeInfos, no_info}
use Rattle.keep_path.specs.NodesBelow.{AreBelow, spliced, with_numbers, with_value}
use Rattle.keep_index_store.specs.declared.shift.NumberShifts.{NumberShifts}
use Rattle.keep_index_store.specs.declared.shift.Totals.{Totals}
use Rattle.keep_index_store.specs.AllNodes.{Node, node_at}
use Rattle.keep_index_store.specs.Below.{CanReplaceBelow, IsRunBelow, replaced_below, shifted_by, totals_in}
use Rattle.keep_index_store.specs.Below.{with_shifted_facts}
use Rattle.keep_index_store.specs.Facts.{info_of}
use Rattle.keep_index_store.specs.Removed.{HasStoredLink}
use Rattle.keep_index_store.specs.Stored.{IsStored, infos_of, trie_of}
use Rattle.keep_index_store.specs.Tree.{TrieInfos, info_at, node_infos, tree_of}
use Rattle.keep_index_store.specs.Trie.{TrieNode, IsTrie, holds_at, path_at, paths_of}
use Rattle.keep_index_store.specs.ValueShifts.{shifts_beside, shifts_inside}
use Rattle.keep_index_store.proofs.BelowFactsLemmas.{infos_shifted, length_moved, run_below_shifted, stored_shifted}
use Rattle.keep_index_store.proofs.BelowFactsLemmas.{trie_unmoved}
use Rattle.keep_index_store.proofs.BelowPathLemmas.{run_is_below}
use Rattle.keep_index_store.proofs.BelowReadyLemmas.{can_replace}
use Rattle.keep_index_store.proofs.BelowStoredLemmas.{replaced_stored}
use Rattle.keep_index_store.proofs.BelowTrieLemmas.{replaced_holdings, replaced_infos, replaced_paths, replaced_trie}
use Rattle.keep_index_store.proofs.ReplacedRowLemmas.{read_before, replaced_count}
use Rattle.keep_index_store.proofs.StoredLemmas.{length_trie_of}

-- ---- the kind of the node before those that go

set_spliced : {X : Type 0} (at gone : ℕ) (new xs : List X) (x : X) → at < length xs
    → set (spliced (suc at) gone new xs) at x ≡ spliced (suc at) gone new (set xs at x)
set_spliced at gone new xs x h =
    let front : length (take (suc at) xs) ≡ suc at = length-take-le (suc at) xs (omega (arith, h)) in
    set-append_left (take (suc at) xs) (new ++ drop (suc at + gone) xs) at x (omega (arith, front))
    ∙ ap (λ ys. ys ++ (new ++ drop (suc at + gone) xs)) (sym (take-set-lt (suc at) xs at x (omega arith)))
    ∙ ap (λ ys. take (suc at) (set xs at x) ++ (new ++ ys))
    (sym (drop-set-lt (suc at + gone) xs at x (omega arith)))

module _ (f : NodeInfo → NodeInfo) (k : Kind)
    (same : (i : NodeInfo) → record (f i) { kind = k } ≡ f (record i { kind = k })) where
  kind_spliced : (at gone : ℕ) (new xs : List NodeInfo) → at + gone < length xs
      → set (spliced (suc at) gone new (map f xs)) at
      (record (get_or (spliced (suc at) gone new (map f xs)) at no_info) { kind = k })
      ≡ spliced (suc at) gone new (map f (set xs at (record (get_or xs at no_info) { kind = k })))
  kind_spliced at gone new xs h =
      let ys : List NodeInfo = spliced (suc at) gone new (map f xs) in
      let own : NodeInfo = get_or xs at no_info in
      let few : suc at + gone ≤ length (map f xs) = omega (arith, h, length-map xs f) in
      let read : get_or ys at no_info ≡ f own =
      read_before (suc at) gone new (map f xs) few at no_info (omega arith)
      ∙ get_or-map f xs at no_info no_info (omega (arith, h)) in
      ap (λ (i : NodeInfo). set ys at (record i { kind = k })) read
      ∙ ap (λ (i : NodeInfo). set ys at i) (same own)
      ∙ set_spliced at gone new (map f xs) (f (record own { kind = k })) (omega (arith, few))
      ∙ ap (spliced (suc at) gone new) (sym (map-set f xs at (record own { kind = k })))

-- ---- the nodes, with their numbers moved

module _ (nodes : List Node) (id gone : ℕ) (inside : List Node) (run : IsRunBelow nodes id gone)
    (inner : IsStored inside) (by_beside by_inside : NumberShifts) where
  abbrev beside : List Node
  beside = map (with_shifted_facts by_beside) nodes

  abbrev among : List Node
  among = map (with_shifted_facts by_inside) inside

  abbrev all : List Node
  all = replaced_below beside id gone among

  run_then : IsRunBelow beside id gone
  run_then = run_below_shifted by_beside nodes id gone run

  inner_then : IsStored among
  inner_then = stored_shifted by_inside inside inner

  -- what is asked of the nodes before some give place to others
  pub ready : (items : List Node) → items ≡ among → length nodes + length items < 2 ^ 32 → All HasStoredLink nodes
      → All HasStoredLink items → (node_at nodes 0).parent ≡ 0 → (node_at items 0).parent ≡ 0
      → CanReplaceBelow nodes id gone items
  ready items is = can_replace nodes id gone items run (subst IsStored (sym is) inner_then)

  trie_all : IsTrie (trie_of all)
  trie_all = replaced_trie beside id gone among run_then inner_then

  stored_all : IsStored all
  stored_all = replaced_stored beside id gone among run_then inner_then trie_all

  paths_all : paths_of (trie_of all)
      ≡ spliced (suc id) gone (map (λ p. path_at (trie_of nodes) id ++ p) (drop 1 (paths_of (trie_of inside))))
      (paths_of (trie_of nodes))
  paths_all =
      replaced_paths beside id gone among run_then inner_then
      ∙ ap₂ (λ (ts us : List TrieNode). spliced (suc id) gone
      (map (λ p. path_at ts id ++ p) (drop 1 (paths_of us))) (paths_of ts))
      (trie_unmoved by_beside nodes) (trie_unmoved by_inside inside)

  root_all : holds_at (trie_of all) 0 ≡ holds_at (trie_of nodes) 0
  root_all =
      replaced_holdings beside id gone among run_then inner_then
      ∙ ap (λ (ts : List TrieNode). holds_at ts 0) (trie_unmoved by_beside nodes)

  abbrev renumbered : NumberShifts → NodeInfo → NodeInfo
  renumbered by i = with_numbers (shifted_by by.values) (shifted_by by.keys) i

  infos_all : infos_of all
      ≡ spliced (suc id) gone (map (renumbered by_inside) (drop 1 (infos_of inside)))
      (map (renumbered by_beside) (infos_of nodes))
  infos_all =
      replaced_infos beside id gone among run_then inner_then
      ∙ ap₂ (λ (is js : List NodeInfo). spliced (suc id) gone is js)
      (ap (drop 1) (infos_shifted by_inside inside) ∙ drop-map (renumbered by_inside) 1 (infos_of inside))
      (infos_shifted by_beside nodes)

  low_all : id < length (trie_of all)
  low_all =
      omega (
        arith,
        run.within,
        length_moved by_beside nodes,
        length_moved by_inside inside,
        inner.trie.root,
        length_trie_of inside,
        length_trie_of all,
        replaced_count beside id gone among (omega (arith, run.within, length_moved by_beside nodes))
            (omega (arith, inner.trie.root, length_trie_of inside, length_moved by_inside inside)),
      )

  -- the nodes once it was done
  module _ (items : List Node) (is : items ≡ all) where
    pub stored_there : IsStored items
    stored_there = subst IsStored (sym is) stored_all

    pub low_there : id < length (trie_of items)
    low_there = subst (λ (ns : List Node). id < length (trie_of ns)) (sym is) low_all

    -- as the tree was seen before
    module _ (was inner_was : TrieInfos) (view : tree_of nodes ≡ was) (inner_view : tree_of inside ≡ inner_was) where
      pub root_there : holds_at (trie_of items) 0 ≡ holds_at was.trie 0
      root_there =
          ap (λ (ns : List Node). holds_at (trie_of ns) 0) is ∙ root_all
          ∙ ap (λ (x : TrieInfos). holds_at x.trie 0) view

      -- with another kind of that node
      module _ (own : NodeInfo) (old new : Totals) (k : Kind) (t : TrieInfos) (same : t.trie ≡ trie_of items)
          (kind : t.infos ≡ set (infos_of items) id (record (info_at (tree_of items) id) { kind = k }))
          (own_is : slice_get was.infos id ≡ Some own) (out_is : by_beside ≡ shifts_beside own old new)
          (in_is : by_inside ≡ shifts_inside own) where
        count : length (infos_of nodes) ≡ length nodes
        count = length-map nodes (λ (n : Node). info_of n.facts)

        infos_there : t.infos
            ≡ (with_value (node_infos (tree_of nodes)) id gone (totals_in old) (totals_in new)
            (node_infos (tree_of inside)) k).infos
        infos_there =
            let o : NodeInfo = info_at (tree_of nodes) id in
            let found : slice_get (infos_of nodes) id ≡ Some own =
            ap (λ (x : TrieInfos). slice_get x.infos id) view ∙ own_is in
            let read : own ≡ o = sym (get_or_from_slice_get (infos_of nodes) id own no_info found) in
            let new_infos : List NodeInfo = map (renumbered by_inside) (drop 1 (infos_of inside)) in
            let kinds : List NodeInfo = set (infos_of nodes) id (record o { kind = k }) in
            kind
            ∙ ap (λ (ns : List Node). set (infos_of ns) id (record (info_at (tree_of ns) id) { kind = k })) is
            ∙ ap (λ (is : List NodeInfo). set is id (record (get_or is id no_info) { kind = k })) infos_all
            ∙ kind_spliced (renumbered by_beside) k (λ i. refl) id gone new_infos (infos_of nodes)
            (omega (arith, run.within, count))
            ∙ ap₂ (λ (b i : NumberShifts). spliced (suc id) gone (map (renumbered i) (drop 1 (infos_of inside)))
            (map (renumbered b) kinds)) (out_is ∙ ap (λ (i : NodeInfo). shifts_beside i old new) read)
            (in_is ∙ ap shifts_inside read)

        pub value_there : (many : ℕ) → AreBelow (paths_of was.trie) id many
            → node_infos t
            ≡ with_value (node_infos was) id many (totals_in old) (totals_in new) (node_infos inner_was) k
        value_there many known =
            let seen : AreBelow (paths_of (trie_of nodes)) id many =
            subst (λ (x : TrieInfos). AreBelow (paths_of x.trie) id many) (sym view) known in
            ap₂ (λ ps is. let x : NodeInfos = record { paths = ps; infos = is } in x)
            (ap paths_of same ∙ ap (λ (ns : List Node). paths_of (trie_of ns)) is ∙ paths_all) infos_there
            ∙ ap (λ n. with_value (node_infos (tree_of nodes)) id n (totals_in old) (totals_in new)
            (node_infos (tree_of inside)) k) (run_is_below nodes id gone many run seen)
            ∙ ap₂ (λ (x y : TrieInfos). with_value (node_infos x) id many (totals_in old) (totals_in new)
            (node_infos y) k) view inner_view
