use Rattle.std.proofs.Common.{◌≡◌, ◌∙◌, ap, arith, length, map, subst, sym}
use Rattle.std.proofs.lemmas.List.{with_items_is}
use Rattle.std.proofs.lemmas.Option.{IfSome_then}
use Rattle.keep_path.specs.NodeInfos.{later_number}
use Rattle.keep_index_store.specs.NodeRows.{node_rows}
use Rattle.keep_index_store.specs.Renumbering.{StoredCanGrow, renumbered_stored}
use Rattle.keep_index_store.proofs.RenumberedBackLemmas.{if_none_then}
use Rattle.keep_index_store.proofs.RenumberingLemmas.{all_could_grow, all_renumbered}
use Rattle.keep_index_store.proofs.nodes.Nodes.renumber_later.Goals as goal

pub returns-clause-later : goal.returns-clause-later
returns-clause-later c =
    let many : length c.renumber_all_later.new.nodes ≡ c.self.inside.list.len =
    omega (
      arith,
      c.renumber_all_later.auto.nodes,
      ap length c.as_mut_slice.ensures.value,
      c.self.inside.list.ok.0,
    ) in
    IfSome_then c.renumber_all_later.result c.renumber_all_later.ensures.later (λ _ is.
    ap (λ ns. node_rows ns c.self.inside.links)
    (with_items_is c.self.inside.list c.renumber_all_later.new.nodes many ∙ is
    ∙ ap (map (renumbered_stored later_number c.args.line)) c.as_mut_slice.ensures.value)
    ∙ all_renumbered _ _ _ c.self.view_is later_number c.args.line)

pub returns-clause-full : goal.returns-clause-full
returns-clause-full c =
    if_none_then c.renumber_all_later.result c.renumber_all_later.ensures.full (λ full can.
    full (subst StoredCanGrow (sym c.as_mut_slice.ensures.value)
    (all_could_grow _ _ _ c.self.view_is c.self.invariant can)))
