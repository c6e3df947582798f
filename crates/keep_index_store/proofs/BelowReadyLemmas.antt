-- Where nodes are stored as they have to be, those below one can give place to those of another tree.
--
-- The children of a node are nodes that are there, and so is the parent of each node but the root, which a parent link
-- of the root itself has to say. The last of the nodes that go and the node after them are no items of one array: the
-- one is below the node that stays, or is that node, which is a child by key.
--
-- Theorem: `can_replace`.
use Rattle.std.proofs.Common.{◌≡◌, ℕ, suc, ◌+◌, ◌<◌, ◌≤◌, ◌^◌, List, length, get_or, sym, ◌∙◌, ap, arith}
use Rattle.std.proofs.Common.{◌⊎◌, inl, inr}
use Rattle.std.specs.Prelude.{All}
use Rattle.std.proofs.lemmas.List.{get_or_default}
use Rattle.std.proofs.lemmas.Bool.{cases_eq, cases_lt}
use Rattle.keep_index_store.specs.AllNodes.{Node, no_node, node_at}
use Rattle.keep_index_store.specs.Below.{CanReplaceBelow, HasNumbersBelow, IsOnOneSide, IsRunBelow}
use Rattle.keep_index_store.specs.Children.{child_ids, holds_of}
use Rattle.keep_index_store.specs.Removed.{HasStoredLink}
use Rattle.keep_index_store.specs.Stored.{IsStored}
use Rattle.keep_index_store.specs.Trie.{by_index, by_key}
use Rattle.keep_index_store.proofs.AscendingLemmas.{ascending_ends, stored_ascend}
use Rattle.keep_index_store.proofs.StoredLemmas.{length_trie_of, node_placed, stored_child}

-- ---- the numbers

parent_below : (nodes : List Node) → IsStored nodes → (node_at nodes 0).parent ≡ 0 → (k : ℕ) → k < length nodes
    → (node_at nodes k).parent < length nodes
parent_below nodes stored root k h = elim (cases_lt 0 k) [
  | inl later ↦ omega (arith, (node_placed nodes stored k no_node later h).earlier, h)
  | inr none ↦
      let top : k ≡ 0 = omega (arith, none) in
      omega (arith, ap (λ i. (node_at nodes i).parent) top, root, h)
]

numbers_below : (nodes : List Node) → IsStored nodes → (node_at nodes 0).parent ≡ 0
    → All (HasNumbersBelow (length nodes)) nodes
numbers_below nodes stored root k d h =
    let up : (get_or nodes k d).parent ≡ (node_at nodes k).parent =
    ap (λ (x : Node). x.parent) (get_or_default nodes k d no_node h) in (
      omega (arith, up, parent_below nodes stored root k h),
      λ n e few.
          omega (
            arith,
            get_or_default (child_ids (get_or nodes k d).children) n e 0 few,
            (stored_child nodes stored k n d h few).nested,
          ),
    )

-- ---- the items

module _ (nodes : List Node) (id gone : ℕ) (r : IsRunBelow nodes id gone) where
  -- the last of the nodes that go is no child of a node beside them, unless by key
  last_below : (j : ℕ) → (j < id) ⊎ (id + gone < j) → (node_at nodes (id + gone)).parent ≡ j
      → holds_of (node_at nodes j).children ≡ by_key
  last_below j side up = elim (cases_eq gone 0) [
    | inl none ↦
        let same : id + gone ≡ id = omega (arith, none) in
        let above : (node_at nodes id).parent ≡ j = sym (ap (λ i. (node_at nodes i).parent) same) ∙ up in
        ap (λ i. holds_of (node_at nodes i).children) (sym above) ∙ r.keyed
    | inr some ↦
        let from : id ≤ (node_at nodes (id + gone)).parent = r.below (id + gone) (omega (arith, some)) (omega arith) in
        let to : (node_at nodes (id + gone)).parent < id + gone =
        (node_placed nodes r.stored (id + gone) no_node (omega (arith, r.later)) r.within).earlier in
        absurd (outside j side (omega (arith, from, up)) (omega (arith, to, up)))
  ]
    where
      outside : (j : ℕ) → (j < id) ⊎ (id + gone < j) → id ≤ j → j < id + gone → ⊥
      outside j (inl one) from to = absurd (omega (arith, one, from))
      outside j (inr one) from to = absurd (omega (arith, one, to))

  sides_apart : (j : ℕ) → j < length nodes → (j < id) ⊎ (id + gone < j)
      → IsOnOneSide (suc id + gone) (node_at nodes j).children
  sides_apart j h side indexed k low one next =
      let at : get_or (child_ids (node_at nodes j).children) k 0 ≡ id + gone = omega (arith, one) in
      let up : (node_at nodes (id + gone)).parent ≡ j =
      ap (λ i. (node_at nodes i).parent) (sym at)
      ∙ (stored_child nodes r.stored j k no_node h (omega (arith, low))).parent in
      let e : by_index ≡ by_key = sym indexed ∙ last_below j side up in
      cc

-- ---- all of it

pub can_replace : (nodes : List Node) (id gone : ℕ) (inside : List Node) → IsRunBelow nodes id gone → IsStored inside
    → length nodes + length inside < 2 ^ 32 → All HasStoredLink nodes → All HasStoredLink inside
    → (node_at nodes 0).parent ≡ 0 → (node_at inside 0).parent ≡ 0 → CanReplaceBelow nodes id gone inside
can_replace nodes id gone inside r s few links inside_links root inside_root = record {
  within = r.within;
  some = omega (arith, s.trie.root, length_trie_of inside);
  few = few;
  links = links;
  inside_links = inside_links;
  numbers = numbers_below nodes r.stored root;
  inside_numbers = numbers_below inside s inside_root;
  sides = sides_apart nodes id gone r;
  ends = λ j h.
      ascending_ends (child_ids (node_at nodes j).children) (stored_ascend nodes r.stored j h) (suc id + gone);
}
