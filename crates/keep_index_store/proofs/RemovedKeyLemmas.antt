-- The children of a node, under the numbers that they have once a node is gone.
--
-- Theorems: `keys_earlier`: of children by key; `items_earlier`: of items and elements; `rest_ascend`: children by key
-- ascend, also without one of them.
use Rattle.std.proofs.Common.{◌≡◌, ◌<◌, ℕ, List, length, map, sym, ◌∙◌, ap, arith, subst}
use Rattle.std.specs.List.{remove}
use Rattle.std.proofs.lemmas.List.{length-map}
use Rattle.std.proofs.lemmas.List.Quantifiers.{all_pairs_remove}
use Rattle.keep_path.specs.NodeInfos.{earlier_number}
use Rattle.keep_index_store.specs.Children.{ChildList, Keyed, Listed, child_ids, holds_of, named}
use Rattle.keep_index_store.specs.Removed.{earlier_children}
use Rattle.keep_index_store.specs.Trie.{by_key}
use Rattle.keep_index_store.proofs.AscendingLemmas.{Ascends}
use Rattle.keep_index_store.proofs.MovedKeyLemmas.{with_value}
use Rattle.keep_index_store.proofs.RemovedListLemmas.{map-removed}
use Rattle.keep_index_store.proofs.StoredLemmas.{ids_named}

-- what the children of a node are next, by their form
pub keys_earlier : (at : ℕ) (c : ChildList) (pairs next : List (List ℕ × ℕ)) → c ≡ Keyed pairs
    → next ≡ map (with_value (earlier_number at)) pairs → Keyed next ≡ earlier_children at c
keys_earlier at c pairs next is by = ap Keyed by ∙ ap (earlier_children at) (sym is)

pub items_earlier : (at : ℕ) (c : ChildList) (ids next : List ℕ) → c ≡ Listed ids
    → next ≡ map (earlier_number at) ids → Listed next ≡ earlier_children at c
items_earlier at c ids next is by = ap Listed by ∙ ap (earlier_children at) (sym is)

-- children by key ascend, also without one of them
pub rest_ascend : (c : ChildList) → holds_of c ≡ by_key → Ascends (child_ids c) → (n : ℕ) → n < length (named c)
    → Ascends (child_ids (Keyed (remove (named c) n)))
rest_ascend c keyed ascend n low =
    let ids : List ℕ = map (λ (e : List ℕ × ℕ). e.1) (named c) in
    subst Ascends (sym (map-removed (λ (e : List ℕ × ℕ). e.1) (named c) n))
    (all_pairs_remove (λ a b. a < b) ids n (omega (arith, low, length-map (named c) (λ (e : List ℕ × ℕ). e.1)))
    (subst Ascends (ids_named c keyed) ascend))
