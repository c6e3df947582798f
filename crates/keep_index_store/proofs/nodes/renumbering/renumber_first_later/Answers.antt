use Rattle.std.proofs.Common.{◌≡◌, ◌<◌, ◌∙◌, ap, arith, get_or, length, set, rules}
use Rattle.std.proofs.lemmas.List.{get_or_default}
use Rattle.std.proofs.lemmas.List.Edits.{map_over_more}
use Rattle.keep_path.specs.NodeInfos.{later_number}
use Rattle.keep_index_store.specs.declared.facts.NodeFacts.{NodeFacts}
use Rattle.keep_index_store.specs.declared.nodes.Node.{Node as StoredNode}
use Rattle.keep_index_store.specs.Renumbering.{renumbered_facts, renumbered_stored}
use Rattle.keep_index_store.proofs.nodes.renumbering.renumber_first_later.Goals as goal

pub nodes-preserved : goal.nodes-preserved
nodes-preserved c =
    let f = renumbered_stored later_number c.args.line in
    let low : c.nodes.id < length c.args.nodes.now = omega (arith, c.nodes-test.true) in
    let many : length c.nodes.nodes ≡ length c.args.nodes.now = omega (arith, c.nodes.auto.nodes) in
    let x : StoredNode = get_or c.nodes.nodes c.nodes.id c.index-nodes-id.result in
    let by : c.renumber_later.new.self ≡ renumbered_facts later_number c.args.line x.facts = search rules in
    ap (λ (t : NodeFacts).
    let n : StoredNode = record { children = x.children; facts = t } in
    set c.nodes.nodes c.nodes.id n) by
    ∙ map_over_more f c.args.nodes.now c.nodes.nodes c.nodes.id x low c.nodes.invariant
    (get_or_default c.nodes.nodes c.nodes.id c.index-nodes-id.result x (omega (arith, low, many)))
