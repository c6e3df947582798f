-- Tables of dotted keys can take as many mentions as before, where the numbers of nodes change, and where other nodes
-- come after them.
--
-- Theorems: `moved_taker`: where key parts are moved; `node_taker` and `table_taker`: where the nodes of a line come.
use Rattle.std.proofs.Common.{◌≡◌, ◌≢◌, ℕ, suc, ◌+◌, ◌<◌, ◌≤◌, List, ◌++◌, length, get_or, map, set, take, sym}
use Rattle.std.proofs.Common.{◌∙◌, ap, subst, arith}
use Rattle.std.specs.List.{insert}
use Rattle.std.proofs.lemmas.List.{get_or-map, get_or-set_other, get_or-take, get_or_append_left, length-append}
use Rattle.std.proofs.lemmas.List.{length-map, length-set, length-take-le}
use Rattle.std.proofs.lemmas.List.Edits.{get_or-insert_below, length-insert}
use Rattle.keep_types.specs.declared.node.Kind.{Kind}
use Rattle.keep_types.specs.declared.node.NodeInfo.{NodeInfo}
use Rattle.keep_path.specs.Dots.{with_parts_from}
use Rattle.keep_path.specs.NodeInfos.{LineNumbers, NodeInfos, dotted_info, later_number, line_info, no_info, renumbered}
use Rattle.keep_path.specs.NodeInfos.{renumbered_origin, with_kind, with_node, with_table}
use Rattle.keep_path.specs.NodesBelow.{Totals, info_beside, key_of, shifted, value_of, with_numbers, with_value}
use Rattle.keep_path.specs.Path.{Part}
use Rattle.keep_index_store.specs.Dots.{CanTake, IsTaker}

-- ---- one node, and lists of them

numbered : (value key : ℕ → ℕ) (many : ℕ) (i : NodeInfo) → CanTake many i → CanTake many (with_numbers value key i)
numbered value key many i takes = record {
  named = takes.named;
  room = takes.room;
  dotted = (value takes.dotted.0, ap (renumbered_origin (λ s. s) value) takes.dotted.1);
}

later : (line : LineNumbers) (many : ℕ) (i : NodeInfo) → CanTake many i → CanTake many (renumbered later_number line i)
later line many i takes = record {
  named = takes.named;
  room = takes.room;
  dotted = (
    later_number line.value takes.dotted.0,
    ap (renumbered_origin (later_number line.statement) (later_number line.value)) takes.dotted.1,
  );
}

module _ (many id : ℕ) where
  taker_mapped : (f : NodeInfo → NodeInfo) → ((i : NodeInfo) → CanTake many i → CanTake many (f i))
      → (is : List NodeInfo) → IsTaker many is id → IsTaker many (map f is) id
  taker_mapped f stays is taker = (
    omega (arith, taker.0, length-map is f),
    subst (CanTake many) (sym (get_or-map f is id no_info no_info taker.0)) (stays (get_or is id no_info) taker.1),
  )

  taker_inserted : (is : List NodeInfo) (at : ℕ) (x : NodeInfo) → id < at → at ≤ length is → IsTaker many is id
      → IsTaker many (insert is at x) id
  taker_inserted is at x before within taker = (
    omega (arith, taker.0, length-insert is at x within),
    subst (CanTake many) (sym (get_or-insert_below is at x no_info id before within)) taker.1,
  )

  taker_set : (is : List NodeInfo) (at : ℕ) (x : NodeInfo) → id ≢ at → IsTaker many is id
      → IsTaker many (set is at x) id
  taker_set is at x other taker = (
    omega (arith, taker.0, length-set is at x),
    subst (CanTake many) (sym (get_or-set_other is at id x no_info other)) taker.1,
  )

  taker_first : (is more : List NodeInfo) (n : ℕ) → id < n → n ≤ length is → IsTaker many is id
      → IsTaker many (take n is ++ more) id
  taker_first is more n before within taker =
      let count : length (take n is) ≡ n = length-take-le n is within in
      let low : id < length (take n is) = omega (arith, before, count) in (
        omega (arith, low, length-append (take n is) more),
        subst (CanTake many)
            (sym (get_or_append_left (take n is) more no_info id low ∙ get_or-take n is id no_info before)) taker.1,
      )

-- ---- all nodes

pub moved_taker : (from more many id : ℕ) (t : NodeInfos) → IsTaker many t.infos id
    → IsTaker many (with_parts_from from more t).infos id
moved_taker from more many id t taker =
    taker_mapped many id (with_numbers (λ v. v) (shifted from 0 more)) (numbered (λ v. v) (shifted from 0 more) many)
    t.infos taker

module _ (t : NodeInfos) (at : ℕ) (line : LineNumbers) (path : List Part) (within : at ≤ length t.infos) (many id : ℕ)
    (before : id < at) (taker : IsTaker many t.infos id) where
  renumbered_taker : (own : NodeInfo)
      → IsTaker many (insert (map (renumbered later_number line) t.infos) at own) id
  renumbered_taker own =
      let is : List NodeInfo = map (renumbered later_number line) t.infos in
      taker_inserted many id is at own before
      (omega (arith, within, length-map t.infos (renumbered later_number line)))
      (taker_mapped many id (renumbered later_number line) (later line many) t.infos taker)

  pub node_taker : (k : Kind) → IsTaker many (with_node t at line path k).infos id
  node_taker k = renumbered_taker (line_info line k)

  pub table_taker : (old new : Totals) (inside : NodeInfos) (k : Kind)
      → IsTaker many (with_value (with_table t at line path) at 0 old new inside k).infos id
  table_taker old new inside k =
      let mid : NodeInfos = with_table t at line path in
      let own : NodeInfo = get_or mid.infos at no_info in
      let values : ℕ → ℕ = shifted (suc (value_of own)) old.values new.values in
      let keys : ℕ → ℕ = shifted (suc (key_of own)) old.keys new.keys in
      let is : List NodeInfo = (with_kind mid at k).infos in
      let count : length mid.infos ≡ length t.infos + 1 =
      length-insert (map (renumbered later_number line) t.infos) at (dotted_info line)
      (omega (arith, within, length-map t.infos (renumbered later_number line)))
      ∙ ap (λ (n : ℕ). n + 1) (length-map t.infos (renumbered later_number line)) in
      let count' : length is ≡ length mid.infos = length-set mid.infos at _ in
      taker_first many id (map (info_beside own old new) is) _ (suc at) (omega (arith, before))
      (omega (arith, within, count, count', length-map is (info_beside own old new)))
      (taker_mapped many id (info_beside own old new) (numbered values keys many) is
      (taker_set many id mid.infos at _ (λ same. omega (arith, same, before)) (renumbered_taker (dotted_info line))))
