-- All nodes with other numbers in their facts: the tree of steps stays, and what is known of each changes by them.
--
-- A node is stored without its parent link, and seen with it: so the first lemmas go from the one list to the other.
-- The others are of the nodes that are seen, each with its numbers changed in one way (`after`).
--
-- Theorems: `infos_renumbered`, `trie_stays` and `stored_renumbered`.
use Rattle.std.proofs.Common.{◌≡◌, ℕ, zero, suc, Bool, true, false, cond, ◌==◌, List, [], ◌∷◌, length, get_or, map}
use Rattle.std.proofs.Common.{refl, sym, ◌∙◌, ap, subst, arith, Option, Some, None}
use Rattle.std.specs.Prelude.{option_map, slice_get}
use Rattle.std.specs.List.{AllByRecursion}
use Rattle.std.proofs.lemmas.List.{length-map}
use Rattle.std.proofs.lemmas.Option.{slice_get-map}
use Rattle.keep_types.specs.declared.node.NodeInfo.{NodeInfo}
use Rattle.keep_types.specs.declared.node.Origin.{Origin}
use Rattle.keep_path.specs.NodeInfos.{renumbered, renumbered_origin}
use Rattle.keep_path.specs.Path.{Part}
use Rattle.keep_index_store.specs.declared.facts.NodeFacts.{NodeFacts}
use Rattle.keep_index_store.specs.declared.facts.OriginKind.{OriginKind}
use Rattle.keep_index_store.specs.declared.facts.OriginKind.TheVariants as origin_kind
use Rattle.keep_index_store.specs.declared.links.ParentLink.{ParentLink}
use Rattle.keep_index_store.specs.declared.nodes.Node.{Node as StoredNode}
use Rattle.keep_index_store.specs.declared.renumbering.LineNumbers.{LineNumbers}
use Rattle.keep_index_store.specs.AllNodes.{Node, AllNodes}
use Rattle.keep_index_store.specs.Children.{child_ids}
use Rattle.keep_index_store.specs.Facts.{info_of, origin_of}
use Rattle.keep_index_store.specs.NodeRows.{node_row, node_rows, all_nodes}
use Rattle.keep_index_store.specs.Renumbering.{numbers_of, number_for, renumbered_by, renumbered_facts}
use Rattle.keep_index_store.specs.Renumbering.{renumbered_node, renumbered_stored}
use Rattle.keep_index_store.specs.Renumbering.{InfoCanGrow, NodesCanGrow, StoredCanGrow}
use Rattle.keep_index_store.specs.Stored.{step_in, trie_node_in, trie_of, IsStored, infos_of}
use Rattle.keep_index_store.specs.Trie.{TrieNode, IsTrie, children_of}

-- ---- the nodes, each with its parent link

rows_could_grow : (ns : List StoredNode) (hs : List ParentLink) → length hs ≡ length ns
    → NodesCanGrow (node_rows ns hs) → StoredCanGrow ns
rows_could_grow [] hs paired can = tt
rows_could_grow (n ∷ ns) [] paired can = absurd (omega (arith, paired))
rows_could_grow (n ∷ ns) (h ∷ hs) paired can = (can.0, rows_could_grow ns hs (omega (arith, paired)) can.1)

rows_renumbered : (by : ℕ → ℕ → ℕ) (line : LineNumbers) (ns : List StoredNode) (hs : List ParentLink)
    → node_rows (map (renumbered_stored by line) ns) hs ≡ map (renumbered_node by line) (node_rows ns hs)
rows_renumbered by line [] hs = refl
rows_renumbered by line (n ∷ ns) [] = refl
rows_renumbered by line (n ∷ ns) (h ∷ hs) =
    let first : Node = renumbered_node by line (node_row n h) in
    ap (λ (rest : List Node). first ∷ rest) (rows_renumbered by line ns hs)

module _ (nodes : List StoredNode) (links : List ParentLink) (all : AllNodes) (view : all_nodes nodes links ≡ all) where
  pub all_could_grow : length links ≡ length nodes → NodesCanGrow all.items → StoredCanGrow nodes
  all_could_grow paired can =
      rows_could_grow nodes links paired (subst (λ (x : AllNodes). NodesCanGrow x.items) (sym view) can)

  pub all_renumbered : (by : ℕ → ℕ → ℕ) (line : LineNumbers)
      → node_rows (map (renumbered_stored by line) nodes) links ≡ map (renumbered_node by line) all.items
  all_renumbered by line =
      rows_renumbered by line nodes links ∙ ap (λ (x : AllNodes). map (renumbered_node by line) x.items) view

-- ---- the facts as the callers of the library see them

module _ (by : ℕ → ℕ → ℕ) (line : LineNumbers) where
  key_renumbered : (none : Bool) (n : ℕ) → cond none None (Some (renumbered_by by (cond none None (Some line.key)) n))
      ≡ option_map (by line.key) (cond none None (Some n))
  key_renumbered true n = refl
  key_renumbered false n = refl

  origin_renumbered : (o : OriginKind) (n : ℕ) → origin_of o (renumbered_by by (number_for line o) n)
      ≡ renumbered_origin (by line.statement) (by line.value) (origin_of o n)
  origin_renumbered origin_kind.Root n = refl
  origin_renumbered origin_kind.Through n = refl
  origin_renumbered origin_kind.Dotted n = refl
  origin_renumbered origin_kind.Header n = refl
  origin_renumbered origin_kind.Element n = refl
  origin_renumbered origin_kind.Tables n = refl
  origin_renumbered origin_kind.Value n = refl

  info_renumbered : (t : NodeFacts)
      → info_of (renumbered_facts by line t) ≡ renumbered by (numbers_of line) (info_of t)
  info_renumbered t =
      let new : NodeInfo = info_of (renumbered_facts by line t) in
      ap (λ (o : Origin). record new { origin = o }) (origin_renumbered t.origin t.number)
      ∙ ap (λ (k : Option ℕ). record (renumbered by (numbers_of line) (info_of t)) { key = k })
      (key_renumbered (t.marks == 0) t.key)

  -- ---- the tree

  abbrev after : List Node → List Node
  after nodes = map (renumbered_node by line) nodes

  pub infos_renumbered : (nodes : List Node)
      → infos_of (after nodes) ≡ map (renumbered by (numbers_of line)) (infos_of nodes)
  infos_renumbered [] = refl
  infos_renumbered (n ∷ ns) =
      ap (λ (i : NodeInfo). i ∷ infos_of (after ns)) (info_renumbered n.facts)
      ∙ ap (λ (is : List NodeInfo). renumbered by (numbers_of line) (info_of n.facts) ∷ is) (infos_renumbered ns)

  step_same : (o : Option Node) (k : ℕ) → step_in (option_map (renumbered_node by line) o) k ≡ step_in o k
  step_same None k = refl
  step_same (Some n) k = refl

  step_stays : (nodes : List Node) (p k : ℕ) → step_in (slice_get (after nodes) p) k ≡ step_in (slice_get nodes p) k
  step_stays nodes p k =
      ap (λ (o : Option Node). step_in o k) (slice_get-map (renumbered_node by line) nodes p)
      ∙ step_same (slice_get nodes p) k

  trie_nodes_stay : (nodes ns : List Node)
      → map (trie_node_in (after nodes)) (after ns) ≡ map (trie_node_in nodes) ns
  trie_nodes_stay nodes [] = refl
  trie_nodes_stay nodes (n ∷ ns) =
      let rest : List TrieNode = map (trie_node_in (after nodes)) (after ns) in
      ap (λ (p : Part). record (trie_node_in nodes n) { part = p } ∷ rest) (step_stays nodes n.parent n.number)
      ∙ ap (λ (ts : List TrieNode). trie_node_in nodes n ∷ ts) (trie_nodes_stay nodes ns)

  pub trie_stays : (nodes : List Node) → trie_of (after nodes) ≡ trie_of nodes
  trie_stays nodes = trie_nodes_stay nodes nodes

  children_stay : (nodes : List Node) (i : ℕ) (d : Node)
      → (get_or (after nodes) i d).children ≡ (get_or nodes i d).children
  children_stay [] i d = refl
  children_stay (n ∷ ns) zero d = refl
  children_stay (n ∷ ns) (suc i) d = children_stay ns i d

  number_stays : (nodes : List Node) (i : ℕ) (d : Node)
      → (get_or (after nodes) i d).number ≡ (get_or nodes i d).number
  number_stays [] i d = refl
  number_stays (n ∷ ns) zero d = refl
  number_stays (n ∷ ns) (suc i) d = number_stays ns i d

  pub stored_renumbered : (nodes : List Node) → IsStored nodes → IsStored (after nodes)
  stored_renumbered nodes stored =
      let many : length (after nodes) ≡ length nodes = length-map nodes (renumbered_node by line) in
      record {
        trie = subst IsTrie (sym (trie_stays nodes)) stored.trie;
        kids = λ i d h.
            ap child_ids (children_stay nodes i d) ∙ stored.kids i d (omega (arith, h, many))
            ∙ ap (λ (ts : List TrieNode). children_of ts i) (sym (trie_stays nodes));
        numbers = λ i d h k e low.
            let ids : List ℕ = child_ids (get_or nodes i d).children in
            let same : child_ids (get_or (after nodes) i d).children ≡ ids = ap child_ids (children_stay nodes i d) in
            ap (λ (js : List ℕ). (get_or (after nodes) (get_or js k 0) e).number) same
            ∙ number_stays nodes (get_or ids k 0) e
            ∙ stored.numbers i d (omega (arith, h, many)) k e (omega (arith, low, ap length same));
      }

-- ---- which of them can grow

pub infos_could_grow : (nodes : List Node) → AllByRecursion InfoCanGrow (infos_of nodes) → NodesCanGrow nodes
infos_could_grow [] can = tt
infos_could_grow (n ∷ ns) can = (can.0, infos_could_grow ns can.1)
