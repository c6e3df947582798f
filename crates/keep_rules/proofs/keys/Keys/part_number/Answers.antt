use Rattle.std.proofs.Common.{◌+◌, ap, length, arith}
use Rattle.keep_rules.specs.Keys.{Key}
use Rattle.keep_rules.proofs.KeyLemmas.{length-keys_in}
use Rattle.keep_rules.proofs.PartLemmas.{few_keys}
use Rattle.keep_rules.proofs.keys.Keys.part_number.Goals as goal

pub overflow_add-result : goal.overflow_add-result
overflow_add-result c =
    omega (
      arith,
      c.requires,
      ap (λ (k : Key). length k.texts) c.self.view_is,
      length-keys_in c.self.inside.text.now _ _ _ c.self.invariant.within,
      c.self.invariant.within,
      few_keys c.self.inside.parts.now,
    )

pub returns : goal.returns
returns c = ap (λ (k : Key). k.first + c.args.number) c.self.view_is
