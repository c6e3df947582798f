use Rattle.std.proofs.Common.{◌≡◌, ◌<◌, ◌-◌, slice_index_or, ◌∙◌, ap, length, subst, sym, None, Some}
use Rattle.std.specs.Prelude.{IfNone, IfSome}
use Rattle.keep_index_store.specs.AllNodes.{node_at}
use Rattle.keep_index_store.specs.Children.{holds_of, child_ids}
use Rattle.keep_index_store.specs.Trie.{Holding, by_index, children_of, holds_at}
use Rattle.keep_index_store.proofs.TreeLemmas.{holds_seen, kids_seen, last_low}
use Rattle.keep_index_store.proofs.tree.Tree.last_item.Goals as goal

pub returns-clause-none : goal.returns-clause-none
returns-clause-none c =
    let node = node_at c.self.inside.nodes.items c.args.id in
    let tree = c.args.self.now.trie in
    (elim c.last_item.result as (λ o.
    IfNone o (holds_of node.children ≡ by_index → length (child_ids node.children) ≡ 0)
    → IfNone o (holds_at tree c.args.id ≡ by_index → length (children_of tree c.args.id) ≡ 0)) [
      | None ↦
          λ none listed.
          ap length (sym (kids_seen c.self.inside.nodes.items c.args.self.now c.self.view_is c.self.invariant c.args.id
          c.requires))
          ∙ none (holds_seen c.self.inside.nodes.items c.args.self.now c.self.view_is c.self.invariant c.args.id
          c.requires ∙ listed)
      | Some last ↦ λ none. tt
    ]) c.last_item.ensures.none

pub returns-clause-within : goal.returns-clause-within
returns-clause-within c =
    let kids = child_ids (node_at c.self.inside.nodes.items c.args.id).children in
    (elim c.last_item.result as (λ o.
    IfSome o (λ last. (0 < length kids) × (last ≡ slice_index_or kids (length kids - 1) 0))
    → IfSome o (λ last. last < length c.args.self.now.trie)) [
      | None ↦ λ none. tt
      | Some last ↦
          λ was. last_low c.self.inside.nodes.items c.args.self.now c.self.view_is c.self.invariant c.args.id c.requires
          last was
    ]) c.last_item.ensures.some

pub returns-clause-listed : goal.returns-clause-listed
returns-clause-listed c =
    subst (λ (h : Holding). IfSome c.last_item.result (λ last. h ≡ by_index))
    (holds_seen c.self.inside.nodes.items c.args.self.now c.self.view_is c.self.invariant c.args.id c.requires)
    c.last_item.ensures.listed
