use Rattle.std.proofs.Common.{◌≡◌, ◌<◌, ◌-◌, length, IfSome, IfNone, arith, subst}
use Rattle.std.specs.Prelude.{slice_index_or}
use Rattle.keep_index_store.specs.Children.{ChildList, holds_of, child_ids}
use Rattle.keep_index_store.specs.Trie.{by_index}
use Rattle.keep_index_store.proofs.NodeRowLemmas.{count_seen, children_read}
use Rattle.keep_index_store.proofs.nodes.Nodes.last_item.Goals as goal

pub index-requires : goal.index-requires
index-requires c = omega (arith, c.requires, count_seen _ _ _ c.self.view_is c.self.invariant, c.self.inside.list.ok.0)

pub returns-clause-some : goal.returns-clause-some
returns-clause-some c =
    subst (λ (x : ChildList).
    IfSome c.last_item.result (λ last.
    (0 < length (child_ids x)) × (last ≡ slice_index_or (child_ids x) (length (child_ids x) - 1) 0)))
    (children_read _ _ _ c.self.view_is c.self.invariant c.args.id c.requires c.index.result.now c.index.ensures)
    c.last_item.ensures.some

pub returns-clause-none : goal.returns-clause-none
returns-clause-none c =
    subst (λ (x : ChildList). IfNone c.last_item.result (holds_of x ≡ by_index → length (child_ids x) ≡ 0))
    (children_read _ _ _ c.self.view_is c.self.invariant c.args.id c.requires c.index.result.now c.index.ensures)
    c.last_item.ensures.none

pub returns-clause-listed : goal.returns-clause-listed
returns-clause-listed c =
    subst (λ (x : ChildList). IfSome c.last_item.result (λ last. holds_of x ≡ by_index))
    (children_read _ _ _ c.self.view_is c.self.invariant c.args.id c.requires c.index.result.now c.index.ensures)
    c.last_item.ensures.listed
