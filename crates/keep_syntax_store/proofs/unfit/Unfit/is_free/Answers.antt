use Rattle.std.proofs.Common.{◌≤◌, sym, subst, ap, arith, leb-true}
use Rattle.keep_syntax_store.specs.Unfit.{CountsBefore}
use Rattle.keep_syntax_store.proofs.UnfitLaws.{none_between, same_read}
use Rattle.keep_syntax_store.proofs.unfit.Unfit.is_free.Goals as goal

pub returns-then-place-len : goal.returns-then-place-len
returns-then-place-len g c = λ t.
    let i = c.count_before-place.result in
    let point = subst (λ xs. CountsBefore c.args.from xs i) (sym c.self.view_is) c.count_before-place.ensures in
    none_between c.self.inside.items.items c.args.self.now c.self.inside.end c.self.view_is c.self.invariant c.args.from
    c.args.to i point
    (λ d w. absurd (omega (arith, c.if-place-len.true, c.len.ensures, c.self.inside.items.ok.0, w)))

pub returns-else-place-len : goal.returns-else-place-len
returns-else-place-len g c = λ t.
    let us = c.self.inside.items.items in
    let end = c.self.inside.end in
    let i = c.count_before-place.result in
    let u = c.index.result.now in
    let point = subst (λ xs. CountsBefore c.args.from xs i) (sym c.self.view_is) c.count_before-place.ensures in
    let high : c.args.to ≤ u.number = leb-true _ _ t in
    none_between us c.args.self.now end c.self.view_is c.self.invariant c.args.from c.args.to i point
    (λ d w. omega (
      arith,
      high,
      ap (λ x. x.number) (same_read us c.args.self.now end c.self.view_is c.self.invariant us i d u w c.index.ensures),
    ))
