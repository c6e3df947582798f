use Rattle.std.proofs.Common.{◌≡◌, ◌∙◌, ap, arith, length, map}
use Rattle.std.proofs.lemmas.List.{with_items_is}
use Rattle.keep_path.specs.NodeInfos.{earlier_number}
use Rattle.keep_index_store.specs.NodeRows.{node_rows}
use Rattle.keep_index_store.specs.Renumbering.{renumbered_stored}
use Rattle.keep_index_store.proofs.RenumberingLemmas.{all_renumbered}
use Rattle.keep_index_store.proofs.nodes.Nodes.renumber_earlier.Goals as goal

pub returns : goal.returns
returns c =
    let many : length c.renumber_all_earlier.new.nodes ≡ c.self.inside.list.len =
    omega (
      arith,
      c.renumber_all_earlier.auto.nodes,
      ap length c.as_mut_slice.ensures.value,
      c.self.inside.list.ok.0,
    ) in
    ap (λ ns. node_rows ns c.self.inside.links)
    (with_items_is c.self.inside.list c.renumber_all_earlier.new.nodes many ∙ c.renumber_all_earlier.ensures
    ∙ ap (map (renumbered_stored earlier_number c.args.line)) c.as_mut_slice.ensures.value)
    ∙ all_renumbered _ _ _ c.self.view_is earlier_number c.args.line
