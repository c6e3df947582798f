use Rattle.std.proofs.Common.{sym, subst, ap, arith}
use Rattle.keep_syntax_store.specs.Unfit.{CountsBefore}
use Rattle.keep_syntax_store.proofs.UnfitLaws.{not_found, same_read}
use Rattle.keep_syntax_store.proofs.unfit.Unfit.place_of.Goals.{else-place-len-via-then-place-len+else-index-number-2}
use Rattle.keep_syntax_store.proofs.unfit.Unfit.place_of.Goals.{else-place-len-via-else-place-len}
use Rattle.keep_syntax_store.proofs.unfit.Unfit.place_of.Goals as goal

pub returns-else-place-len-clause-none : goal.returns-else-place-len-clause-none
returns-else-place-len-clause-none g c = λ none.
    let us = c.self.inside.items.items in
    let n = c.args.number in
    let i = c.count_before-place.result in
    let end = c.self.inside.end in
    not_found us c.args.self.now end c.self.view_is c.self.invariant n i
    (subst (λ xs. CountsBefore n xs i) (sym c.self.view_is) c.count_before-place.ensures)
    (λ d w e. elim c.else-place-len.branch [
      | else-place-len-via-then-place-len+else-index-number-2 b ↦
          omega (
            arith,
            b.if-index-number-2.false,
            e,
            ap (λ u.
                u.number) (same_read us c.args.self.now end c.self.view_is c.self.invariant us i d
                b.index-then-place-len.result.now w b.index-then-place-len.ensures),
          )
      | else-place-len-via-else-place-len b ↦
          omega (arith, b.if-place-len.false, c.len.ensures, c.self.inside.items.ok.0, w)
    ])
