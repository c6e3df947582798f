use Rattle.keep_rules.proofs.ValueLaws.{depth_is}
use Rattle.keep_rules.proofs.value.ValueText.depth.Goals as goal

pub returns : goal.returns
returns c = λ v read. depth_is _ _ _ _ c.self.invariant v (rw c.self.view_is read)
