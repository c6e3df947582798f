use Rattle.std.proofs.Common.{◌≡◌, ◌++◌, ◌∷◌, [], ℕ, suc, subst, arith}
use Rattle.keep_syntax_store.specs.Unfit.{Ascend, numbered}
use Rattle.keep_syntax_store.proofs.UnfitLaws.{all_before, ascend_more}
use Rattle.keep_syntax_store.proofs.unfit.Unfit.push.Goals as goal

pub invariant_of-self-2 : goal.invariant_of-self-2
invariant_of-self-2 g c =
    let us = c.self.inside.items.items in
    rw c.in_ok-push.ensures.items
    (subst (λ (n : ℕ). Ascend 0 (us ++ numbered c.args.number c.args.entry ∷ []) n)
    (let e : suc c.args.number ≡ c.in-Some.end = omega (arith, c.in-Some.ensures) in e)
    (ascend_more 0 c.args.number c.args.entry us c.self.inside.end c.self.invariant
    (omega (arith, c.if-number-self.false))))

pub returns-clause-before : goal.returns-clause-before
returns-clause-before g c =
    all_before c.self.inside.items.items c.args.self.now c.self.inside.end c.self.view_is c.self.invariant c.args.number
    (omega (arith, c.if-number-self.false))
