use Rattle.std.proofs.Common.{rules}
use Rattle.keep_edit_plan.proofs.CutPlaces.{removed_between, removed_last}
use Rattle.keep_edit_plan.proofs.open_value.taking.without_place.Goals as goal

pub returns-then-number-len : goal.returns-then-number-len
returns-then-number-len c =
    removed_last c.args.places.items c.remove-gone.new.self.items c.args.number c.args.cut c.remove-gone.ensures.items
    c.requires (search rules)

pub returns : goal.returns
returns c =
    removed_between c.args.places.items c.remove-gone.new.self.items c.args.number c.in_ok-size.size c.in_ok-gap.gap
    c.args.cut c.remove-gone.result c.index-next.result.now c.remove-gone.ensures.items c.requires
    c.remove-gone.ensures.value (search rules) c.index-next.ensures (search rules) (search rules)
