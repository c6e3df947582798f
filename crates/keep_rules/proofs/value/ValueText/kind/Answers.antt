use Rattle.keep_rules.proofs.ValueLaws.{kind_is}
use Rattle.keep_rules.proofs.value.ValueText.kind.Goals as goal

pub returns : goal.returns
returns c = λ v read. kind_is _ _ _ _ c.self.invariant v (rw c.self.view_is read)
