use Rattle.std.proofs.Common.{◌≡◌, ◌-◌, ◌∙◌, ap, arith, length, sym, take, vec_len}
use Rattle.keep_index_store.specs.NodeRows.{node_rows}
use Rattle.keep_index_store.proofs.NodeRowLemmas.{count_seen, nodes_cut}
use Rattle.keep_index_store.proofs.nodes.Nodes.pop.Goals as goal

pub returns : goal.returns
returns c =
    let nodes = c.self.inside.list.items in
    let links = c.self.inside.links in
    let count : vec_len c.self.inside.list ≡ length nodes = omega (arith, c.self.inside.list.ok.0) in
    ap (λ ns. node_rows ns c.pop-4.new.self) c.pop.ensures.rest
    ∙ ap (λ n. node_rows (take (n - 1) nodes) c.pop-4.new.self) count
    ∙ ap (node_rows (take (length nodes - 1) nodes)) (c.pop-4.ensures ∙ ap (λ n. take (n - 1) links) c.self.invariant)
    ∙ nodes_cut nodes links c.args.self.now c.self.view_is c.self.invariant (length nodes - 1)
    ∙ ap (λ n. take (n - 1) c.args.self.now.items)
    (sym (count_seen nodes links c.args.self.now c.self.view_is c.self.invariant))
