use Rattle.std.proofs.Common.{◌++◌, ◌∷◌, [], map, slice_range, ap, ◌∙◌, arith}
use Rattle.keep_syntax_store.specs.PackedVec.{entries}
use Rattle.keep_syntax_store.proofs.MoveLaws.{moved_next}
use Rattle.keep_syntax_store.proofs.packed_vec.PackedVec+T+T+Packed.append_moved.Goals as goal

pub entries-preserved : goal.entries-preserved
entries-preserved g c =
    let f = g.T.Entry.moved c.args.old.now c.args.new.now in
    let out = entries g.T.Entry.unpacked g.T.Entry.raise c.args.self.now in
    let xs = entries g.T.Entry.unpacked g.T.Entry.raise c.args.other.now in
    c.in_ok-push.ensures
    ∙ ap (λ ys. ys ++ c.in-Some.entry ∷ []) c.entries.invariant
    ∙ ap (λ y. (out ++ map f (slice_range xs c.args.from c.entries.number)) ++ y ∷ []) c.in-Some.ensures.1
    ∙ moved_next f out xs c.args.from c.entries.number c.get.result (omega arith) c.get.ensures
