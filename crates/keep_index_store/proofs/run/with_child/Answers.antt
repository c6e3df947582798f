use Rattle.std.proofs.Common.{◌+◌, ◌∷◌, ◌++◌, [], ◌∙◌, ap, refl, sym}
use Rattle.keep_index_store.proofs.RunLemmas.{consecutive-push}
use Rattle.keep_index_store.proofs.run.with_child.Goals as goal

pub loop-number-preserved : goal.loop-number-preserved
loop-number-preserved c =
    let node = c.args.first + c.loop-number.number in
    c.in_ok-push.ensures.items ∙ ap (λ xs. xs ++ node ∷ []) c.loop-number.invariant
    ∙ sym (consecutive-push c.args.first c.loop-number.number (c.loop-number.number + 1) node refl refl)
