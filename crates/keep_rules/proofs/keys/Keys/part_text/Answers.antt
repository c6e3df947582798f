use Rattle.std.proofs.Common.{◌<◌, ◌∙◌, ap, length, arith}
use Rattle.std.proofs.lemmas.Result.{IfOk-weaker}
use Rattle.keep_syntax_store.specs.Flat.{flat}
use Rattle.keep_rules.specs.Keys.{Key, key_text_at}
use Rattle.keep_rules.proofs.KeyLemmas.{keys_at, length-keys_in}
use Rattle.keep_rules.proofs.PartLemmas.{few_keys}
use Rattle.keep_rules.proofs.keys.Keys.part_text.Goals as goal

pub key_text-requires : goal.key_text-requires
key_text-requires c = c.self.invariant.each _ _ c.key_part.ensures

pub overflow_add-self-inside : goal.overflow_add-self-inside
overflow_add-self-inside c =
    omega (
      arith,
      c.requires,
      ap (λ (k : Key). length k.texts) c.self.view_is,
      length-keys_in c.self.inside.text.now _ _ _ c.self.invariant.within,
      c.self.invariant.within,
      few_keys c.self.inside.parts.now,
    )

pub returns : goal.returns
returns c =
    let low : c.args.number < c.self.inside.count =
    omega (
      arith,
      c.requires,
      ap (λ (k : Key). length k.texts) c.self.view_is,
      length-keys_in c.self.inside.text.now _ _ _ c.self.invariant.within,
    ) in
    IfOk-weaker c.key_text.result _ _
    (λ text is. is
    ∙ keys_at c.self.inside.text.now (flat c.self.inside.parts.now).keys c.self.inside.first c.self.inside.count
    c.args.number c.key_part.result low c.key_part.ensures
    ∙ ap (λ (k : Key). key_text_at k c.args.number) c.self.view_is) c.key_text.ensures
