use Rattle.std.proofs.Common.{◌++◌, ◌∷◌, [], sym, ap, ◌∙◌, arith}
use Rattle.keep_syntax_store.specs.Blocks.{raise_by}
use Rattle.keep_syntax_store.proofs.EntryLaws.{pushed_unfit}
use Rattle.keep_syntax_store.proofs.packed_vec.PackedVec+T+T+Packed.push_unfit.Goals as goal

pub returns : goal.returns
returns g c =
    let v = c.args.self.now in
    let x = c.lowered-stored.result in
    pushed_unfit g.T.Entry.unpacked g.T.Entry.raise v c.push_reserved.new.self.items c.push.new.self c.stand_in.result
    c.len-number.result c.args.entry x (omega (arith, c.len-number.ensures, v.packed.ok.0))
    (ap (λ m. raise_by g.T.Entry.raise m x) (sym c.block_move.ensures) ∙ c.lowered-stored.ensures)
    c.in_ok-push.ensures.before c.in_ok-push.ensures.more
    (c.push_reserved.ensures.items ∙ ap (λ xs. xs ++ c.stand_in.result ∷ []) c.in_ok-reserve.ensures.items)
