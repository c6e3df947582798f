-- A node goes with all that is below it: those below it give place to none, and then the node itself goes.
--
-- A tree of the root alone takes the place of the nodes below, so the node has no children then (`bare_then`); and it
-- is a child by key as before (`keyed_then`). The kind that it would have goes with it (`removed_set`).
--
-- Theorems: `alone_there`; `leaf_there`; `stored_there`, `root_there` and `value_gone`.
use Rattle.std.proofs.Common.{◌≡◌, ℕ, suc, ◌<◌, List, [], ◌∷◌, ◌++◌, length, get_or, set, take, drop, map}
use Rattle.std.proofs.Common.{refl, sym, ◌∙◌, ap, ap₂, subst, arith, Some}
use Rattle.std.specs.Prelude.{slice_get}
use Rattle.std.specs.List.{remove}
use Rattle.std.proofs.lemmas.List.{drop-set-lt, length-map, take-set}
use Rattle.std.proofs.lemmas.List.Edits.{get_or-remove_below}
use Rattle.keep_types.specs.declared.node.Kind.{Kind}
use Rattle.keep_types.specs.declared.node.NodeInfo.{NodeInfo}
use Rattle.keep_path.specs.NodeInfos.{NodeInfos, earlier_number, renumbered, root_infos, without_node}
use Rattle.keep_path.specs.NodesBelow.{AreBelow, with_value}
use Rattle.keep_index_store.specs.declared.renumbering.LineNumbers.{LineNumbers}
use Rattle.keep_index_store.specs.declared.shift.NumberShifts.{NumberShifts}
use Rattle.keep_index_store.specs.declared.shift.Shift.{Shift}
use Rattle.keep_index_store.specs.declared.shift.Totals.{Totals}
use Rattle.keep_index_store.specs.AllNodes.{Node, no_node, node_at}
use Rattle.keep_index_store.specs.Below.{IsRunBelow, replaced_below, shift_beside, shift_inside, shifted_by, totals_in}
use Rattle.keep_index_store.specs.Below.{with_shifted_facts}
use Rattle.keep_index_store.specs.Children.{child_ids, holds_of}
use Rattle.keep_index_store.specs.Removed.{IsLeaf, removed_nodes}
use Rattle.keep_index_store.specs.Renumbering.{numbers_of, renumbered_node}
use Rattle.keep_index_store.specs.Stored.{IsStored, infos_of, trie_of}
use Rattle.keep_index_store.specs.Tree.{IsRoot, TrieInfos, info_at, node_infos, tree_of}
use Rattle.keep_index_store.specs.Trie.{Holding, TrieNode, by_key, holdings_of, holds_at, nothing, paths_of}
use Rattle.keep_index_store.specs.ValueShifts.{shifts_beside, shifts_inside}
use Rattle.keep_index_store.proofs.BelowFactsLemmas.{length_moved, run_below_shifted, stored_shifted}
use Rattle.keep_index_store.proofs.BelowStoredLemmas.{ids_shifted, replaced_stored}
use Rattle.keep_index_store.proofs.BelowTreeLemmas as below
use Rattle.keep_index_store.proofs.BelowTrieLemmas.{replaced_trie}
use Rattle.keep_index_store.proofs.RemovedNodeLemmas.{holdings_all, infos_all, paths_all}
use Rattle.keep_index_store.proofs.RemovedTreeLemmas.{stored_all}
use Rattle.keep_index_store.proofs.RenumberingLemmas.{infos_renumbered, stored_renumbered, trie_stays}
use Rattle.keep_index_store.proofs.ReplacedRowLemmas.{holds_shifted, replaced_count, replaced_row_before}
use Rattle.keep_index_store.proofs.ReplacedRowLemmas.{replaced_row_own, shift_low}
use Rattle.keep_index_store.proofs.StoredLemmas.{length_trie_of, node_placed}

-- ---- a list without an element that was changed

removed_set : {X : Type 0} (xs : List X) (at : ℕ) (x : X) → remove (set xs at x) at ≡ remove xs at
removed_set xs at x =
    ap (λ ys. ys ++ drop (suc at) (set xs at x)) (take-set xs at x)
    ∙ ap (λ ys. take at xs ++ ys) (drop-set-lt (suc at) xs at x (omega arith))

-- ---- the node without those below it

pub alone_there : (inside : List Node) (t : TrieInfos) (h : Holding) → tree_of inside ≡ t → IsRoot h t
    → length inside ≡ 1
alone_there inside t h view root =
    omega (arith, length_trie_of inside, ap (λ (x : TrieInfos). length x.trie) view, ap length root.alone)

-- a root alone has no children
bare_root : (inside : List Node) → IsStored inside → length inside ≡ 1 → child_ids (node_at inside 0).children ≡ []
bare_root [] stored alone = absurd (omega (arith, alone))
bare_root (n ∷ []) stored alone = stored.kids 0 no_node (omega arith)
bare_root (n ∷ m ∷ more) stored alone = absurd (omega (arith, alone))

module _ (nodes : List Node) (id gone : ℕ) (inside : List Node) (run : IsRunBelow nodes id gone)
    (inner : IsStored inside) (alone : length inside ≡ 1) where
  some : 0 < length inside
  some = omega (arith, alone)

  abbrev all : List Node
  all = replaced_below nodes id gone inside

  abbrev beside : Shift
  beside = shift_beside nodes id gone inside

  abbrev up : ℕ
  up = (node_at nodes id).parent

  up_low : up < id
  up_low = (node_placed nodes run.stored id no_node run.later (omega (arith, run.within))).earlier

  parent_then : (node_at all id).parent ≡ up
  parent_then =
      ap (λ (n : Node). n.parent) (replaced_row_own nodes id gone inside run.within some no_node)
      ∙ shift_low beside up (omega (arith, up_low))

  bare_then : child_ids (node_at all id).children ≡ []
  bare_then =
      ap (λ (n : Node). child_ids n.children) (replaced_row_own nodes id gone inside run.within some no_node)
      ∙ ids_shifted (shift_inside id) (node_at inside 0).children
      ∙ ap (map (shifted_by (shift_inside id))) (bare_root inside inner alone)

  keyed_then : holds_of (node_at all (node_at all id).parent).children ≡ by_key
  keyed_then =
      ap (λ k. holds_of (node_at all k).children) parent_then
      ∙ ap (λ (n : Node). holds_of n.children)
      (replaced_row_before nodes id gone inside run.within some up no_node up_low)
      ∙ holds_shifted beside (node_at nodes up).children ∙ run.keyed

  leaf_then : IsLeaf all id
  leaf_then = record {
    stored = replaced_stored nodes id gone inside run inner (replaced_trie nodes id gone inside run inner);
    later = run.later;
    within = omega (arith, run.within, replaced_count nodes id gone inside run.within some);
    bare = bare_then;
    keyed = keyed_then;
  }

-- ---- the tree that contracts see

module _ (nodes : List Node) (id gone : ℕ) (inside : List Node) (run : IsRunBelow nodes id gone)
    (inner : IsStored inside) (alone : length inside ≡ 1) (by_beside by_inside : NumberShifts) where
  -- the nodes with their numbers moved, where none are below the node
  abbrev bared : List Node
  bared = replaced_below (map (with_shifted_facts by_beside) nodes) id gone (map (with_shifted_facts by_inside) inside)

  leaf : IsLeaf bared id
  leaf =
      leaf_then (map (with_shifted_facts by_beside) nodes) id gone (map (with_shifted_facts by_inside) inside)
      (run_below_shifted by_beside nodes id gone run) (stored_shifted by_inside inside inner)
      (length_moved by_inside inside ∙ alone)

  pub leaf_there : (items : List Node) → items ≡ bared → IsLeaf items id
  leaf_there items is = subst (λ (ns : List Node). IsLeaf ns id) (sym is) leaf

  -- the nodes without it, with the numbers in their facts once the line is gone
  module _ (line : LineNumbers) (items : List Node)
      (is : items ≡ map (renumbered_node earlier_number line) (removed_nodes bared id)) where
    abbrev others : List Node
    others = removed_nodes bared id

    abbrev earlier : NodeInfo → NodeInfo
    earlier i = renumbered earlier_number (numbers_of line) i

    trie_then : trie_of items ≡ trie_of others
    trie_then = ap trie_of is ∙ trie_stays earlier_number line others

    infos_then : infos_of items ≡ map earlier (infos_of others)
    infos_then = ap infos_of is ∙ infos_renumbered earlier_number line others

    pub stored_there : IsStored items
    stored_there =
        subst IsStored (sym is) (stored_renumbered earlier_number line others (stored_all bared id leaf))

    -- as the tree was seen before
    module _ (was inner_was : TrieInfos) (view : tree_of nodes ≡ was) (inner_view : tree_of inside ≡ inner_was) where
      pub root_there : holds_at (trie_of items) 0 ≡ holds_at was.trie 0
      root_there =
          ap (λ (ts : List TrieNode). holds_at ts 0) trie_then
          ∙ ap (λ (hs : List Holding). get_or hs 0 nothing) (holdings_all bared id leaf)
          ∙ get_or-remove_below (holdings_of (trie_of bared)) id nothing 0 run.later
          (omega (arith, leaf.within, length_trie_of bared, length-map (trie_of bared) (λ (x : TrieNode). x.holds)))
          ∙ below.root_there nodes id gone inside run inner by_beside by_inside bared refl was inner_was view inner_view

      module _ (own : NodeInfo) (old bare : Totals) (own_is : slice_get was.infos id ≡ Some own)
          (out_is : by_beside ≡ shifts_beside own old bare) (in_is : by_inside ≡ shifts_inside own)
          (root : node_infos inner_was ≡ root_infos) where
        pub value_gone : (many : ℕ) (k : Kind) → AreBelow (paths_of was.trie) id many
            → node_infos (tree_of items) ≡ without_node
            (with_value (node_infos was) id many (totals_in old) (totals_in bare) root_infos k) id (numbers_of line)
        value_gone many k known =
            let info : NodeInfo = record (info_at (tree_of bared) id) { kind = k } in
            let between : TrieInfos = record { trie = trie_of bared; infos = set (infos_of bared) id info } in
            ap₂ (λ ps is. let x : NodeInfos = record { paths = ps; infos = is } in x)
            (ap paths_of trie_then ∙ paths_all bared id leaf)
            (infos_then ∙ ap (map earlier) (infos_all bared id leaf ∙ sym (removed_set (infos_of bared) id info)))
            ∙ ap (λ (x : NodeInfos). without_node x id (numbers_of line))
            (below.value_there nodes id gone inside run inner by_beside by_inside bared refl was inner_was view
            inner_view own old bare k between refl refl own_is out_is in_is many known)
            ∙ ap (λ (x : NodeInfos). without_node
            (with_value (node_infos was) id many (totals_in old) (totals_in bare) x k) id (numbers_of line)) root
