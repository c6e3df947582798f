-- None are below the node once the others took their place, so it can go.
use Rattle.std.proofs.Common.{List, refl, ◌∙◌, ap}
use Rattle.keep_index_store.specs.AllNodes.{Node}
use Rattle.keep_index_store.specs.Removed.{removed_nodes}
use Rattle.keep_index_store.proofs.RemovedValueLemmas.{leaf_there}
use Rattle.keep_index_store.proofs.tree.removing.take_out.Goals as goal

pub remove-requires-clause-leaf : goal.remove-requires-clause-leaf
remove-requires-clause-leaf c =
    leaf_there _ _ _ _ c.requires.run c.requires.stored c.requires.alone c.args.by.beside c.args.by.inside _
    (c.if-not-take_in.ensures.taken refl)

pub returns-clause-removed : goal.returns-clause-removed
returns-clause-removed c _ =
    c.remove.ensures
    ∙ ap (λ (ns : List Node). removed_nodes ns c.args.id) (c.if-not-take_in.ensures.taken refl)
