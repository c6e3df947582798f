use Rattle.std.proofs.Common.{◌≡◌, ◌-◌, ◌∙◌, ap, arith}
use Rattle.keep_path.specs.Path.{without_last}
use Rattle.keep_edit_runs.proofs.AlikeLaws.{take_parent}
use Rattle.keep_edit_runs.proofs.outline.Steps.parent.Goals as goal

pub returns : goal.returns
returns c =
    let is : c.saturating_sub.result ≡ c.self.inside.count - 1 = omega (arith, c.saturating_sub.ensures) in
    take_parent c.self.inside.count c.saturating_sub.result c.self.inside.path.now is c.self.invariant
    ∙ ap without_last c.self.view_is
