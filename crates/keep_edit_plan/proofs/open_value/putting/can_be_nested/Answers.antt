use Rattle.std.proofs.Common.{arith, refl}
use Rattle.std.proofs.lemmas.Bool.{ltb-true}
use Rattle.keep_types.specs.declared.leaf.Profile.TheVariants.{Strict}
use Rattle.keep_edit_plan.specs.Reading.{IsAcceptedValue}
use Rattle.keep_rules.proofs.Shared.{in_wide}
use Rattle.keep_edit_plan.proofs.open_value.putting.can_be_nested.Goals as goal

pub returns : goal.returns
returns c = λ low.
    let read : IsAcceptedValue Strict c.args.item.now = c.in-Strict.ensures.strict.0 refl in
    let deep = c.depth.ensures read.0 (in_wide Strict c.args.item.now read.0 read.1) in
    (read.0, read.1, omega (arith, deep, ltb-true _ _ low))
