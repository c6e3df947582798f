-- All nodes with their numbers of values and of key parts moved: the tree of steps stays, and so do the nodes below
-- one.
--
-- A node is stored without its parent link, and seen with it: so the first lemmas go from the one list to the other.
-- The others are of the nodes that are seen, each with its numbers moved (`moved`): its parent link, its children and
-- its role stay, and these are all that the tree tells.
--
-- Theorems: `all_shifted`, `infos_shifted`, `trie_unmoved`, `stored_shifted` and `run_below_shifted`.
use Rattle.std.proofs.Common.{◌≡◌, ℕ, zero, suc, ◌+◌, ◌<◌, ◌⊎◌, Bool, true, false, cond, ◌==◌, List, [], ◌∷◌, length}
use Rattle.std.proofs.Common.{refl, sym, ◌∙◌, ap, subst, arith, get_or, map, Option, Some, None}
use Rattle.std.specs.Prelude.{option_map, slice_get}
use Rattle.std.proofs.lemmas.List.{length-map}
use Rattle.std.proofs.lemmas.Option.{slice_get-map}
use Rattle.keep_types.specs.declared.node.NodeInfo.{NodeInfo}
use Rattle.keep_types.specs.declared.node.Origin.{Origin}
use Rattle.keep_path.specs.NodeInfos.{renumbered_origin}
use Rattle.keep_path.specs.NodesBelow.{with_numbers}
use Rattle.keep_path.specs.Path.{Part}
use Rattle.keep_index_store.specs.declared.facts.NodeFacts.{NodeFacts}
use Rattle.keep_index_store.specs.declared.facts.OriginKind.{OriginKind}
use Rattle.keep_index_store.specs.declared.facts.OriginKind.TheVariants as origin_kind
use Rattle.keep_index_store.specs.declared.links.ParentLink.{ParentLink}
use Rattle.keep_index_store.specs.declared.nodes.Node.{Node as StoredNode}
use Rattle.keep_index_store.specs.declared.shift.NumberShifts.{NumberShifts}
use Rattle.keep_index_store.specs.declared.shift.Shift.{Shift}
use Rattle.keep_index_store.specs.AllNodes.{Node, AllNodes, no_node, node_at}
use Rattle.keep_index_store.specs.Below.{IsRunBelow, moved_by, shifted_by, shifted_facts, value_shift}
use Rattle.keep_index_store.specs.Below.{with_shifted_facts, with_shifted_stored}
use Rattle.keep_index_store.specs.Children.{child_ids, holds_of}
use Rattle.keep_index_store.specs.Facts.{info_of, origin_of}
use Rattle.keep_index_store.specs.NodeRows.{node_row, node_rows, all_nodes}
use Rattle.keep_index_store.specs.Stored.{step_in, trie_node_in, trie_of, IsStored, infos_of}
use Rattle.keep_index_store.specs.Trie.{TrieNode, IsTrie, children_of}

module _ (by : NumberShifts) where
  abbrev moved : List Node → List Node
  moved nodes = map (with_shifted_facts by) nodes

  -- ---- the nodes, each with its parent link

  rows_shifted : (ns : List StoredNode) (hs : List ParentLink)
      → node_rows (map (with_shifted_stored by) ns) hs ≡ moved (node_rows ns hs)
  rows_shifted [] hs = refl
  rows_shifted (n ∷ ns) [] = refl
  rows_shifted (n ∷ ns) (h ∷ hs) =
      let first : Node = with_shifted_facts by (node_row n h) in
      ap (λ (rest : List Node). first ∷ rest) (rows_shifted ns hs)

  pub all_shifted : (nodes : List StoredNode) (links : List ParentLink) (all : AllNodes)
      → all_nodes nodes links ≡ all → node_rows (map (with_shifted_stored by) nodes) links ≡ moved all.items
  all_shifted nodes links all view =
      rows_shifted nodes links ∙ ap (λ (x : AllNodes). moved x.items) view

  -- ---- the facts as the callers of the library see them

  key_shifted : (s : Shift) (none : Bool) (n : ℕ)
      → cond none None (Some (cond none n (shifted_by s n))) ≡ option_map (shifted_by s) (cond none None (Some n))
  key_shifted s true n = refl
  key_shifted s false n = refl

  origin_shifted : (o : OriginKind) (n : ℕ) → origin_of o (moved_by (value_shift by o) n)
      ≡ renumbered_origin (λ s. s) (shifted_by by.values) (origin_of o n)
  origin_shifted origin_kind.Root n = refl
  origin_shifted origin_kind.Through n = refl
  origin_shifted origin_kind.Dotted n = refl
  origin_shifted origin_kind.Header n = refl
  origin_shifted origin_kind.Element n = refl
  origin_shifted origin_kind.Tables n = refl
  origin_shifted origin_kind.Value n = refl

  abbrev with_moved_numbers : NodeInfo → NodeInfo
  with_moved_numbers i = with_numbers (shifted_by by.values) (shifted_by by.keys) i

  info_shifted : (t : NodeFacts) → info_of (shifted_facts by t) ≡ with_moved_numbers (info_of t)
  info_shifted t =
      let new : NodeInfo = info_of (shifted_facts by t) in
      ap (λ (o : Origin). record new { origin = o }) (origin_shifted t.origin t.number)
      ∙ ap (λ (k : Option ℕ). record (with_moved_numbers (info_of t)) { key = k })
      (key_shifted by.keys (t.marks == 0) t.key)

  pub infos_shifted : (nodes : List Node) → infos_of (moved nodes)
      ≡ map (with_numbers (shifted_by by.values) (shifted_by by.keys)) (infos_of nodes)
  infos_shifted [] = refl
  infos_shifted (n ∷ ns) =
      ap (λ (i : NodeInfo). i ∷ infos_of (moved ns)) (info_shifted n.facts)
      ∙ ap (λ (is : List NodeInfo). with_moved_numbers (info_of n.facts) ∷ is) (infos_shifted ns)

  -- ---- the tree

  step_same : (o : Option Node) (k : ℕ) → step_in (option_map (with_shifted_facts by) o) k ≡ step_in o k
  step_same None k = refl
  step_same (Some n) k = refl

  step_unmoved : (nodes : List Node) (p k : ℕ)
      → step_in (slice_get (moved nodes) p) k ≡ step_in (slice_get nodes p) k
  step_unmoved nodes p k =
      ap (λ (o : Option Node). step_in o k) (slice_get-map (with_shifted_facts by) nodes p)
      ∙ step_same (slice_get nodes p) k

  trie_nodes_unmoved : (nodes ns : List Node) → map (trie_node_in (moved nodes)) (moved ns)
      ≡ map (trie_node_in nodes) ns
  trie_nodes_unmoved nodes [] = refl
  trie_nodes_unmoved nodes (n ∷ ns) =
      let rest : List TrieNode = map (trie_node_in (moved nodes)) (moved ns) in
      ap (λ (p : Part). record (trie_node_in nodes n) { part = p } ∷ rest) (step_unmoved nodes n.parent n.number)
      ∙ ap (λ (ts : List TrieNode). trie_node_in nodes n ∷ ts) (trie_nodes_unmoved nodes ns)

  pub trie_unmoved : (nodes : List Node) → trie_of (moved nodes) ≡ trie_of nodes
  trie_unmoved nodes = trie_nodes_unmoved nodes nodes

  pub children_unmoved : (nodes : List Node) (i : ℕ) (d : Node)
      → (get_or (moved nodes) i d).children ≡ (get_or nodes i d).children
  children_unmoved [] i d = refl
  children_unmoved (n ∷ ns) zero d = refl
  children_unmoved (n ∷ ns) (suc i) d = children_unmoved ns i d

  pub number_unmoved : (nodes : List Node) (i : ℕ) (d : Node)
      → (get_or (moved nodes) i d).number ≡ (get_or nodes i d).number
  number_unmoved [] i d = refl
  number_unmoved (n ∷ ns) zero d = refl
  number_unmoved (n ∷ ns) (suc i) d = number_unmoved ns i d

  pub parent_unmoved : (nodes : List Node) (i : ℕ) (d : Node)
      → (get_or (moved nodes) i d).parent ≡ (get_or nodes i d).parent
  parent_unmoved [] i d = refl
  parent_unmoved (n ∷ ns) zero d = refl
  parent_unmoved (n ∷ ns) (suc i) d = parent_unmoved ns i d

  pub length_moved : (nodes : List Node) → length (moved nodes) ≡ length nodes
  length_moved nodes = length-map nodes (with_shifted_facts by)

  pub stored_shifted : (nodes : List Node) → IsStored nodes → IsStored (moved nodes)
  stored_shifted nodes stored =
      let many : length (moved nodes) ≡ length nodes = length_moved nodes in
      record {
        trie = subst IsTrie (sym (trie_unmoved nodes)) stored.trie;
        kids = λ i d h.
            ap child_ids (children_unmoved nodes i d) ∙ stored.kids i d (omega (arith, h, many))
            ∙ ap (λ (ts : List TrieNode). children_of ts i) (sym (trie_unmoved nodes));
        numbers = λ i d h k e low.
            let ids : List ℕ = child_ids (get_or nodes i d).children in
            let same : child_ids (get_or (moved nodes) i d).children ≡ ids =
            ap child_ids (children_unmoved nodes i d) in
            ap (λ (js : List ℕ). (get_or (moved nodes) (get_or js k 0) e).number) same
            ∙ number_unmoved nodes (get_or ids k 0) e
            ∙ stored.numbers i d (omega (arith, h, many)) k e (omega (arith, low, ap length same));
      }

  pub run_below_shifted : (nodes : List Node) (id gone : ℕ) → IsRunBelow nodes id gone
      → IsRunBelow (moved nodes) id gone
  run_below_shifted nodes id gone run =
      let many : length (moved nodes) ≡ length nodes = length_moved nodes in
      record {
        stored = stored_shifted nodes run.stored;
        later = run.later;
        within = omega (arith, run.within, many);
        keyed =
            ap (λ (p : ℕ). holds_of (node_at (moved nodes) p).children) (parent_unmoved nodes id no_node)
            ∙ ap holds_of (children_unmoved nodes (node_at nodes id).parent no_node) ∙ run.keyed;
        below = λ j after to. omega (arith, parent_unmoved nodes j no_node, run.below j after to);
        others = λ j after h.
            subst (λ (p : ℕ). (p < id) ⊎ (id + gone < p)) (sym (parent_unmoved nodes j no_node))
            (run.others j after (omega (arith, h, many)));
      }
