-- The last node is that of the last key, and no node is below it before those of the value come.
use Rattle.std.proofs.Common.{◌≡◌, ℕ, ◌∙◌, ap, arith}
use Rattle.keep_path.specs.KeysAlone.{keys_alone}
use Rattle.keep_path.specs.NodeInfos.{NodeInfos}
use Rattle.keep_path.specs.NodesBelow.{Totals, with_value}
use Rattle.keep_types.specs.declared.node.Kind.{Kind}
use Rattle.keep_index_store.specs.Tree.{node_infos}
use Rattle.keep_meaning.specs.KeysMore.{keys_with_value}
use Rattle.keep_meaning.specs.OtherValues.{nodes_in_value}
use Rattle.keep_rules.proofs.KeysAloneLemmas.{last_alone}
use Rattle.keep_rules.proofs.index.new_keys.nodes_with_value.Goals as goal

pub returns : goal.returns
returns c = λ keys left v text.
    let t : NodeInfos = node_infos c.in_ok-nodes.nodes in
    let none : Totals = record { values = 0; keys = 0 } in
    let was : t ≡ keys_alone keys c.kind-kind.result = c.in_ok-nodes.ensures keys left in
    let end = last_alone t keys c.kind-kind.result was c.in-Some.last (omega arith) in
    let after : NodeInfos → ℕ → NodeInfos → Kind → NodeInfos = λ u n inside k.
    with_value u n 0 none none inside k in
    c.in_ok-replace_below.ensures.replaced 0 end.1
    ∙ ap (λ (u : NodeInfos). after u c.in-Some.last (node_infos c.in_ok-inside.inside) c.kind-kind.result) was
    ∙ ap (λ (n : ℕ). after (keys_alone keys c.kind-kind.result) n (node_infos c.in_ok-inside.inside) c.kind-kind.result)
    end.0
    ∙ ap (λ (u : NodeInfos). keys_with_value keys c.kind-kind.result u) (c.in_ok-inside.ensures v text)
    ∙ ap (λ (k : Kind). keys_with_value keys k (nodes_in_value v)) (c.kind-kind.ensures v text)
