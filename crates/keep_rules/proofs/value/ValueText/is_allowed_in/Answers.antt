use Rattle.std.proofs.Common.{sym}
use Rattle.keep_rules.proofs.ValueLaws.{value_seen, taken, not_taken}
use Rattle.keep_rules.proofs.value.ValueText.is_allowed_in.Goals as goal

pub returns-in-Strict-matches : goal.returns-in-Strict-matches
returns-in-Strict-matches c = λ v read.
    rw c.in-Strict.is (sym (taken _ _ _ _ (value_seen c.self.view_is c.self.invariant) v read c.in-Strict-matches.is))

pub returns-in_default : goal.returns-in_default
returns-in_default c =
    λ v read.
    rw c.in-Strict.is (sym (not_taken _ _ _ _ (value_seen c.self.view_is c.self.invariant) v read
    c.in_default.not-Strict))
