use Rattle.std.proofs.Common.{◌≡◌, ◌∙◌, ap, arith, length, map}
use Rattle.std.proofs.lemmas.List.{with_items_is}
use Rattle.keep_index_store.specs.Below.{with_shifted_stored}
use Rattle.keep_index_store.specs.NodeRows.{node_rows}
use Rattle.keep_index_store.proofs.BelowFactsLemmas.{all_shifted}
use Rattle.keep_index_store.proofs.nodes.Nodes.lower_numbers.Goals as goal

pub returns : goal.returns
returns c =
    let many : length c.lower_each.new.nodes ≡ c.self.inside.list.len =
    omega (arith, c.lower_each.auto.nodes, ap length c.as_mut_slice.ensures.value, c.self.inside.list.ok.0) in
    ap (λ ns. node_rows ns c.self.inside.links)
    (with_items_is c.self.inside.list c.lower_each.new.nodes many ∙ c.lower_each.ensures
    ∙ ap (map (with_shifted_stored c.args.by)) c.as_mut_slice.ensures.value)
    ∙ all_shifted c.args.by _ _ _ c.self.view_is
