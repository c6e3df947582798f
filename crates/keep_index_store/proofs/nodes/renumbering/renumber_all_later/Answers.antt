use Rattle.std.proofs.Common.{◌∙◌, ◌++◌, ap, drop}
use Rattle.keep_index_store.proofs.RenumberedBackLemmas.{first_back}
use Rattle.keep_index_store.proofs.nodes.renumbering.renumber_all_later.Goals as goal

pub returns-then-changed-nodes-clause-unchanged : goal.returns-then-changed-nodes-clause-unchanged
returns-then-changed-nodes-clause-unchanged c =
    let first = c.renumber_first_later-changed in
    ap (λ ns. ns ++ drop first.result first.new.nodes) c.renumber_all_earlier.ensures
    ∙ first_back c.args.line c.args.nodes.now first.new.nodes first.result first.ensures.within first.ensures.changed
