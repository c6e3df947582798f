-- Where the facts of two nodes are joined with more, the tree of steps stays, and so does all but the facts of the two.
--
-- Theorems: `both_trie`: the tree of steps stays; `both_infos`: the facts of the two are joined, and all others stay;
-- `both_stored`: the nodes still store their children.
use Rattle.std.proofs.Common.{◌≡◌, ℕ, ◌<◌, List, length, set, refl, sym, ◌∙◌, ap, arith}
use Rattle.std.proofs.lemmas.List.{get_or-map, length-set}
use Rattle.keep_types.specs.declared.node.NodeInfo.{NodeInfo}
use Rattle.keep_path.specs.NodeInfos.{no_info}
use Rattle.keep_index_store.specs.declared.facts.NodeFacts.{NodeFacts}
use Rattle.keep_index_store.specs.AllNodes.{Node, no_node, node_at}
use Rattle.keep_index_store.specs.Facts.{joined_facts, joined_info, info_of}
use Rattle.keep_index_store.specs.Stored.{IsStored, trie_of, infos_of}
use Rattle.keep_index_store.specs.Tree.{tree_of, info_at}
use Rattle.keep_index_store.proofs.PackedLemmas.{info_joined}
use Rattle.keep_index_store.proofs.StoredLemmas.{IsChanged, preserved_changed, trie_of_preserved, stored_preserved}
use Rattle.keep_index_store.proofs.StoredLemmas.{infos_changed}

module _ (nodes : List Node) (stored : IsStored nodes) (first second : ℕ) (more further : NodeFacts)
    (h : first < length nodes) (k : second < length nodes) where
  abbrev one : Node
  one = record (node_at nodes first) { facts = joined_facts (node_at nodes first).facts more }

  abbrev mid : List Node
  mid = set nodes first one

  abbrev two : Node
  two = record (node_at mid second) { facts = joined_facts (node_at nodes second).facts further }

  abbrev pub after_both : List Node
  after_both = set mid second two

  first_changed : IsChanged nodes first no_node one
  first_changed = record { stored = stored; within = h; parent = refl; number = refl; children = refl }

  mid_stored : IsStored mid
  mid_stored = stored_preserved nodes first no_node one first_changed refl

  second_changed : IsChanged mid second no_node two
  second_changed =
      record {
        stored = mid_stored;
        within = omega (arith, k, length-set nodes first one);
        parent = refl;
        number = refl;
        children = refl;
      }

  role_same : two.facts.role ≡ (node_at mid second).facts.role
  role_same = sym (preserved_changed (λ (n : Node). n.facts.role) nodes first no_node one h refl second no_node)

  pub both_stored : IsStored after_both
  both_stored = stored_preserved mid second no_node two second_changed role_same

  pub both_trie : trie_of after_both ≡ trie_of nodes
  both_trie =
      trie_of_preserved mid second no_node two second_changed role_same
      ∙ trie_of_preserved nodes first no_node one first_changed refl

  -- the facts of the second are those that it had before the first's changed
  abbrev further_info : NodeInfo
  further_info = joined_info (info_at (tree_of nodes) second) (info_of further)

  two_info : info_of two.facts ≡ further_info
  two_info =
      info_joined (node_at nodes second).facts further
      ∙ ap (λ i. joined_info i (info_of further))
      (sym (get_or-map (λ (n : Node). info_of n.facts) nodes second no_node no_info k))

  pub both_infos : infos_of after_both
      ≡ set (set (infos_of nodes) first (joined_info (info_at (tree_of nodes) first) (info_of more))) second
      (joined_info (info_at (tree_of nodes) second) (info_of further))
  both_infos =
      infos_changed (λ i. further_info) mid second no_node two (omega (arith, k, length-set nodes first one)) two_info
      ∙ ap (λ is. set is second further_info)
      (infos_changed (λ (i : NodeInfo). joined_info i (info_of more)) nodes first no_node one h
      (info_joined (node_at nodes first).facts more))
