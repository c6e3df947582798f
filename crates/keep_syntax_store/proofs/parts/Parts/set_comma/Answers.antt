use Rattle.std.proofs.Common.{ap, List}
use Rattle.keep_types.specs.declared.syntax.ValueInfo.{ValueInfo}
use Rattle.keep_syntax_store.specs.Flat.{flat}
use Rattle.keep_syntax_store.proofs.parts.Parts.set_comma.Goals as goal

pub returns : goal.returns
returns c = record {
  change =
      λ prefix info back len is.
      ap (λ (x : List ValueInfo). record (flat c.args.self.now) { values = x })
      (c.set_comma.ensures.change prefix info back len is);
}
