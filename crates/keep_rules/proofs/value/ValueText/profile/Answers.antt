use Rattle.keep_rules.proofs.ValueLaws.{value_seen, in_strict, strict_of}
use Rattle.keep_rules.proofs.value.ValueText.profile.Goals as goal

pub returns-clause-strict : goal.returns-clause-strict
returns-clause-strict c =
    let h = value_seen c.self.view_is c.self.invariant in (in_strict _ _ _ _ h, strict_of _ _ _ _ h)
