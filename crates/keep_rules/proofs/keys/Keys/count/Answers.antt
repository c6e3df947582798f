use Rattle.std.proofs.Common.{◌∙◌, ap, sym, length}
use Rattle.keep_rules.specs.Keys.{Key}
use Rattle.keep_rules.proofs.KeyLemmas.{length-keys_in}
use Rattle.keep_rules.proofs.keys.Keys.count.Goals as goal

pub returns-clause-many : goal.returns-clause-many
returns-clause-many c =
    sym (length-keys_in _ _ _ _ c.self.invariant.within) ∙ ap (λ (k : Key). length k.texts) c.self.view_is

pub returns-clause-some : goal.returns-clause-some
returns-clause-some c = c.self.invariant.some
