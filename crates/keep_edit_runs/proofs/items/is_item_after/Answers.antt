use Rattle.std.proofs.Common.{◌+◌, ◌-◌, ◌∙◌, List, ap, sym, take, arith, eqb-true, eq-eqb}
use Rattle.std.proofs.lemmas.Bool.{leb-true}
use Rattle.keep_path.specs.Path.{Part}
use Rattle.keep_edit_runs.proofs.ItemSteps.{item_after, number_there}
use Rattle.keep_edit_runs.proofs.items.is_item_after.Goals as goal

pub returns-in_default : goal.returns-in_default
returns-in_default c = λ array n is. (
  λ no. absurd cc,
  λ after.
      let there =
      (c.index_at-2.ensures n).1
      (number_there c.args.item.now array n c.len-len.result is c.len-len.ensures.count) in
      absurd cc,
)

pub returns-in_default-2 : goal.returns-in_default-2
returns-in_default-2 c = λ array n is. (
  λ no. absurd cc,
  λ after.
      let there =
      (c.index_at.ensures (n + c.args.before)).1
      (number_there c.args.path.now array (n + c.args.before) c.len-len.result after
      (sym c.if-len.false ∙ c.len.ensures.count)) in
      absurd cc,
)

pub returns-then-own-number : goal.returns-then-own-number
returns-then-own-number c = λ array n is.
    let first = λ (path : List Part). take (c.len-len.result - 1) path in
    let same = ap first (sym c.of.ensures) ∙ c.agree.ensures.0 c.if-not-agree.false ∙ ap first c.of-2.ensures in
    let own = c.in-Some-Some.own in
    let number = c.in-Some-Some.number in
    let before = c.args.before in
    let (after, sum) =
    item_after c.args.path.now c.args.item.now array n number own before c.len-len.result is
    (sym c.if-len.false ∙ c.len.ensures.count) c.len-len.ensures.count same
    ((c.index_at-2.ensures number).0 c.in-Some-Some.is-1) ((c.index_at.ensures own).0 c.in-Some-Some.is-0) in (
      λ yes. after (omega (arith, eqb-true (own - number) before yes, c.if-own-number.true)),
      λ is_after. eq-eqb (own - number) before (omega (arith, sum is_after)),
    )

pub returns-else-own-number : goal.returns-else-own-number
returns-else-own-number c = λ array n is.
    let first = λ (path : List Part). take (c.len-len.result - 1) path in
    let same = ap first (sym c.of.ensures) ∙ c.agree.ensures.0 c.if-not-agree.false ∙ ap first c.of-2.ensures in
    let own = c.in-Some-Some.own in
    let number = c.in-Some-Some.number in
    let (after, sum) =
    item_after c.args.path.now c.args.item.now array n number own c.args.before c.len-len.result is
    (sym c.if-len.false ∙ c.len.ensures.count) c.len-len.ensures.count same
    ((c.index_at-2.ensures number).0 c.in-Some-Some.is-1) ((c.index_at.ensures own).0 c.in-Some-Some.is-0) in (
      λ yes. absurd (omega (arith, leb-true number own yes, c.if-own-number.false)),
      λ is_after. absurd (omega (arith, sum is_after, c.if-own-number.false)),
    )
