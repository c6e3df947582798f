-- Reading and changing nodes whose parent links are stored in a separate vector.
--
-- Theorems: `count_seen`: there are as many nodes as are stored; `children_read`: a stored node has the children of the
-- node; `children_set`: once it is stored with other children, the node has those.
use Rattle.std.proofs.Common.{◌≡◌, ℕ, zero, suc, ◌<◌, List, [], ◌∷◌, ◌++◌, length, get_or, set, take, refl, sym, ◌∙◌}
use Rattle.std.proofs.Common.{ap, arith, Some}
use Rattle.std.specs.Prelude.{slice_get}
use Rattle.std.proofs.lemmas.Option.{get_or_from_slice_get}
use Rattle.keep_index_store.specs.declared.links.ParentLink.{ParentLink}
use Rattle.keep_index_store.specs.declared.nodes.Node.{Node as StoredNode}
use Rattle.keep_index_store.specs.declared.facts.NodeFacts.{NodeFacts}
use Rattle.keep_index_store.specs.Children.{ChildList, Bare}
use Rattle.keep_index_store.specs.AllNodes.{Node, AllNodes, no_node, node_at, with_children, with_facts}
use Rattle.keep_index_store.specs.NodeRows.{node_row, node_rows, all_nodes}

-- ---- two lists of one length

pub rows_count : (nodes : List StoredNode) (links : List ParentLink) → length links ≡ length nodes
    → length (node_rows nodes links) ≡ length nodes
rows_count [] links paired = refl
rows_count (n ∷ nodes) [] paired = absurd (omega (arith, paired))
rows_count (n ∷ nodes) (h ∷ links) paired = ap suc (rows_count nodes links (omega (arith, paired)))

pub rows_at : (nodes : List StoredNode) (links : List ParentLink) (i : ℕ) (d : StoredNode) (e : ParentLink)
    → length links ≡ length nodes → i < length nodes
    → node_at (node_rows nodes links) i ≡ node_row (get_or nodes i d) (get_or links i e)
rows_at [] links i d e paired within = absurd (omega (arith, within))
rows_at (n ∷ nodes) [] i d e paired within = absurd (omega (arith, paired))
rows_at (n ∷ nodes) (h ∷ links) zero d e paired within = refl
rows_at (n ∷ nodes) (h ∷ links) (suc i) d e paired within =
    rows_at nodes links i d e (omega (arith, paired)) (omega (arith, within))

rows_push : (nodes : List StoredNode) (links : List ParentLink) (n : StoredNode) (h : ParentLink)
    → length links ≡ length nodes
    → node_rows (nodes ++ n ∷ []) (links ++ h ∷ []) ≡ node_rows nodes links ++ node_row n h ∷ []
rows_push [] [] n h paired = refl
rows_push [] (g ∷ links) n h paired = absurd (omega (arith, paired))
rows_push (m ∷ nodes) [] n h paired = absurd (omega (arith, paired))
rows_push (m ∷ nodes) (g ∷ links) n h paired =
    ap (λ (xs : List Node). node_row m g ∷ xs) (rows_push nodes links n h (omega (arith, paired)))

pub rows_set : (nodes : List StoredNode) (links : List ParentLink) (i : ℕ) (n : StoredNode) (e : ParentLink)
    → length links ≡ length nodes
    → node_rows (set nodes i n) links ≡ set (node_rows nodes links) i (node_row n (get_or links i e))
rows_set [] links i n e paired = refl
rows_set (m ∷ nodes) [] i n e paired = absurd (omega (arith, paired))
rows_set (m ∷ nodes) (h ∷ links) zero n e paired = refl
rows_set (m ∷ nodes) (h ∷ links) (suc i) n e paired =
    ap (λ (xs : List Node). node_row m h ∷ xs) (rows_set nodes links i n e (omega (arith, paired)))

pub rows_take : (nodes : List StoredNode) (links : List ParentLink) (n : ℕ)
    → node_rows (take n nodes) (take n links) ≡ take n (node_rows nodes links)
rows_take nodes links zero = refl
rows_take [] links (suc n) = refl
rows_take (m ∷ nodes) [] (suc n) = refl
rows_take (m ∷ nodes) (h ∷ links) (suc n) = ap (λ (xs : List Node). node_row m h ∷ xs) (rows_take nodes links n)

-- in place of a node or a link that is not there
abbrev pub nowhere : ParentLink
nowhere = record { parent = 0; number = 0 }

abbrev pub nothing : StoredNode
nothing = record { children = Bare; facts = no_node.facts }

-- ---- the nodes that are read

module _ (nodes : List StoredNode) (links : List ParentLink) (all : AllNodes) (view : all_nodes nodes links ≡ all)
    (paired : length links ≡ length nodes) where
  pub count_seen : length all.items ≡ length nodes
  count_seen = ap (λ (x : AllNodes). length x.items) (sym view) ∙ rows_count nodes links paired

  pub links_seen : length all.items ≡ length links
  links_seen = count_seen ∙ sym paired

  module _ (i : ℕ) (within : i < length all.items) where
    node_seen : (d : StoredNode) → node_at all.items i ≡ node_row (get_or nodes i d) (get_or links i nowhere)
    node_seen d =
        ap (λ (x : AllNodes). node_at x.items i) (sym view)
        ∙ rows_at nodes links i d nowhere paired (omega (arith, within, count_seen))

    -- a node that was read
    node_read : (n : StoredNode) → n ≡ get_or nodes i n → node_row n (get_or links i nowhere) ≡ node_at all.items i
    node_read n is = ap (λ (k : StoredNode). node_row k (get_or links i nowhere)) is ∙ sym (node_seen n)

    pub children_read : (n : StoredNode) → n ≡ get_or nodes i n → n.children ≡ (node_at all.items i).children
    children_read n is = ap (λ (x : Node). x.children) (node_read n is)

    pub facts_read : (n : StoredNode) → n ≡ get_or nodes i n → n.facts ≡ (node_at all.items i).facts
    facts_read n is = ap (λ (x : Node). x.facts) (node_read n is)

    -- its parent link
    link_read : (h : ParentLink) → slice_get links i ≡ Some h
        → node_row (get_or nodes i nothing) h ≡ node_at all.items i
    link_read h is =
        ap (node_row (get_or nodes i nothing)) (sym (get_or_from_slice_get links i h nowhere is))
        ∙ sym (node_seen nothing)

    pub parent_read : (h : ParentLink) → slice_get links i ≡ Some h → h.parent ≡ (node_at all.items i).parent
    parent_read h is = ap (λ (x : Node). x.parent) (link_read h is)

    pub number_read : (h : ParentLink) → slice_get links i ≡ Some h → h.number ≡ (node_at all.items i).number
    number_read h is = ap (λ (x : Node). x.number) (link_read h is)

    -- a node that changes: other children, or other facts
    pub children_set : (n : StoredNode) (c : ChildList) → n ≡ get_or nodes i n
        → node_rows (set nodes i (record n { children = c })) links ≡ with_children all.items i c
    children_set n c own =
        rows_set nodes links i (record n { children = c }) nowhere paired
        ∙ ap (λ (x : AllNodes). set x.items i (node_row (record n { children = c }) (get_or links i nowhere))) view
        ∙ ap (λ (x : Node). let r : Node = record x { children = c } in set all.items i r) (node_read n own)

    pub facts_set : (n : StoredNode) (facts : NodeFacts) → n ≡ get_or nodes i n
        → node_rows (set nodes i (record n { facts = facts })) links ≡ with_facts all.items i facts
    facts_set n facts own =
        rows_set nodes links i (record n { facts = facts }) nowhere paired
        ∙ ap (λ (x : AllNodes). set x.items i (node_row (record n { facts = facts }) (get_or links i nowhere))) view
        ∙ ap (λ (x : Node). let r : Node = record x { facts = facts } in set all.items i r) (node_read n own)

  -- the first of them
  pub nodes_cut : (n : ℕ) → node_rows (take n nodes) (take n links) ≡ take n all.items
  nodes_cut n = rows_take nodes links n ∙ ap (λ (x : AllNodes). take n x.items) view

  -- one more
  pub node_pushed : (n : StoredNode) (h : ParentLink)
      → node_rows (nodes ++ n ∷ []) (links ++ h ∷ []) ≡ all.items ++ node_row n h ∷ []
  node_pushed n h = rows_push nodes links n h paired ∙ ap (λ (x : AllNodes). x.items ++ node_row n h ∷ []) view
