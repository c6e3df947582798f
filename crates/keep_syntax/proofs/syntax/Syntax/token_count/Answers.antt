use Rattle.std.proofs.Common.{arith, [], ◌∷◌}
use Rattle.std.proofs.lemmas.List.{length-append}
use Rattle.keep_types.specs.declared.leaf.Leaf.TheVariants as leaf
use Rattle.keep_syntax_store.specs.Flat.{flat}
use Rattle.keep_syntax.specs.Cut.{all_kinds}
use Rattle.keep_syntax.proofs.CutLaws.{cut_count}
use Rattle.keep_syntax.proofs.ReadLaws.{read_few}
use Rattle.keep_syntax.proofs.syntax.Syntax.token_count.Goals as goal

pub returns-clause-counted : goal.returns-clause-counted
returns-clause-counted c = λ bytes.
    let f = flat c.args.self.now.parts in
    omega (
      arith,
      c.stored_token_count.ensures,
      length-append f.kinds (leaf.End ∷ []),
      cut_count bytes (all_kinds f) f.starts,
    )

pub returns-clause-few : goal.returns-clause-few
returns-clause-few c = λ profile limit bytes read.
    let f = flat c.args.self.now.parts in
    omega (
      arith,
      c.stored_token_count.ensures,
      length-append f.kinds (leaf.End ∷ []),
      cut_count bytes (all_kinds f) f.starts,
      read_few profile limit bytes c.args.self.now read,
    )
