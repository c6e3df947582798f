-- The stored nodes where one has another kind: the steps stay, and of the facts that kind alone is another.
--
-- Theorems: `info_read`, `trie_kind`, `stored_kind` and `infos_kind`.
use Rattle.std.proofs.Common.{◌≡◌, ℕ, zero, suc, ◌<◌, List, [], ◌∷◌, arith, length, set, refl, Some}
use Rattle.std.specs.Prelude.{slice_get}
use Rattle.keep_types.specs.declared.node.Kind.{Kind}
use Rattle.keep_types.specs.declared.node.NodeInfo.{NodeInfo}
use Rattle.keep_index_store.specs.AllNodes.{Node, no_node, node_at, with_facts}
use Rattle.keep_index_store.specs.Facts.{info_of}
use Rattle.keep_index_store.specs.Stored.{IsStored, infos_of, trie_of}
use Rattle.keep_index_store.specs.Tree.{info_at, tree_of}
use Rattle.keep_index_store.proofs.StoredLemmas.{IsChanged, infos_changed, stored_preserved, trie_of_preserved}

pub info_read : (nodes : List Node) (id : ℕ) → id < length nodes
    → slice_get (infos_of nodes) id ≡ Some (info_of (node_at nodes id).facts)
info_read [] id h = absurd (omega (arith, h))
info_read (n ∷ ns) zero h = refl
info_read (n ∷ ns) (suc id) h = info_read ns id (omega (arith, h))

module _ (nodes : List Node) (stored : IsStored nodes) (id : ℕ) (within : id < length nodes) (k : Kind) where
  abbrev changed : Node
  changed = record (node_at nodes id) { facts = record (node_at nodes id).facts { kind = k } }

  abbrev all : List Node
  all = with_facts nodes id (record (node_at nodes id).facts { kind = k })

  is_changed : IsChanged nodes id no_node changed
  is_changed = record { stored = stored; within = within; parent = refl; number = refl; children = refl }

  pub trie_kind : trie_of all ≡ trie_of nodes
  trie_kind = trie_of_preserved nodes id no_node changed is_changed refl

  pub stored_kind : IsStored all
  stored_kind = stored_preserved nodes id no_node changed is_changed refl

  pub infos_kind : infos_of all ≡ set (infos_of nodes) id (record (info_at (tree_of nodes) id) { kind = k })
  infos_kind = infos_changed (λ (i : NodeInfo). record i { kind = k }) nodes id no_node changed within refl
