-- The key among the children of the parent.
use Rattle.std.proofs.Common.{◌≡◌, ◌≢◌, ◌∙◌, ℕ, List, ap, arith, None, Option, Some, subst}
use Rattle.std.specs.Prelude.{IfNone, IfSome, option_copied, option_map, slice_get}
use Rattle.keep_path.specs.Path.{key, index}
use Rattle.keep_index_store.specs.AllNodes.{Node, node_at}
use Rattle.keep_index_store.specs.Children.{named}
use Rattle.keep_index_store.specs.Trie.{by_key, holds_at, parent_at, part_at, IsTrie}
use Rattle.keep_index_store.specs.Tree.{TrieInfos}
use Rattle.keep_index_store.proofs.TreeLemmas.{own_key, own_number, not_keyed, parent_low}
use Rattle.keep_index_store.proofs.tree.Tree.key.Goals as goal

-- the key of a number below a node
key_of : List Node → ℕ → ℕ → Option (List ℕ)
key_of nodes up number = option_map (λ e. e.0) (slice_get (named (node_at nodes up).children) number)

pub key_at-requires : goal.key_at-requires
key_at-requires c =
    omega (
      arith,
      c.parent.ensures,
      parent_low c.self.inside.nodes.items c.args.self.now c.self.view_is c.self.invariant c.args.id c.requires.within
          c.requires.later,
    )

found : (c : goal.After-key_at)
    → option_copied c.key_at.result
    ≡ key_of c.self.inside.nodes.items (node_at c.self.inside.nodes.items c.args.id).parent
    (node_at c.self.inside.nodes.items c.args.id).number
unfolding key_of
found c =
    let nodes = c.self.inside.nodes.items in
    c.key_at.ensures ∙ ap (λ up. key_of nodes up c.number.result) c.parent.ensures
    ∙ ap (key_of nodes (node_at nodes c.args.id).parent) c.number.ensures

pub returns-clause-some : goal.returns-clause-some
unfolding key_of
returns-clause-some c =
    let nodes = c.self.inside.nodes.items in
    let node = node_at nodes c.args.id in
    (elim c.key_at.result as (λ o. option_copied o ≡ key_of nodes node.parent node.number
    → IfSome o (λ text. part_at c.args.self.now.trie c.args.id ≡ key text.now)) [
      | None ↦ λ is. tt
      | Some text ↦
          λ is. own_key c.self.inside.nodes.items c.args.self.now c.self.view_is c.self.invariant c.args.id
          c.requires.within c.requires.later text.now is
    ]) (found c)

pub returns-clause-none : goal.returns-clause-none
unfolding key_of
returns-clause-none c =
    let nodes = c.self.inside.nodes.items in
    let node = node_at nodes c.args.id in
    (elim c.key_at.result as (λ o. option_copied o ≡ key_of nodes node.parent node.number
    → IfNone o ((n : ℕ) × (part_at c.args.self.now.trie c.args.id ≡ index n))) [
      | None ↦
          λ is. own_number c.self.inside.nodes.items c.args.self.now c.self.view_is c.self.invariant c.args.id
          c.requires.within c.requires.later is
      | Some text ↦ λ is. tt
    ]) (found c)

pub returns-clause-above : goal.returns-clause-above
unfolding key_of
returns-clause-above c =
    let nodes = c.self.inside.nodes.items in
    let node = node_at nodes c.args.id in
    (elim c.key_at.result as (λ o. option_copied o ≡ key_of nodes node.parent node.number
    → IfNone o (holds_at c.args.self.now.trie (parent_at c.args.self.now.trie c.args.id) ≢ by_key)) [
      | None ↦
          λ is. not_keyed c.self.inside.nodes.items c.args.self.now c.self.view_is c.self.invariant c.args.id
          c.requires.within c.requires.later is
      | Some text ↦ λ is. tt
    ]) (found c)

pub returns-clause-trie : goal.returns-clause-trie
returns-clause-trie c = subst (λ (t : TrieInfos). IsTrie t.trie) c.self.view_is c.self.invariant.trie
