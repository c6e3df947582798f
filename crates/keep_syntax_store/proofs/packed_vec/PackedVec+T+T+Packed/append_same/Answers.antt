use Rattle.std.proofs.Common.{◌+◌, ◌++◌, slice_range, ap, ◌∙◌, arith}
use Rattle.keep_syntax_store.specs.PackedVec.{entries}
use Rattle.keep_syntax_store.proofs.MoveLaws.{range_grown}
use Rattle.keep_syntax_store.proofs.packed_vec.PackedVec+T+T+Packed.append_same.Goals as goal

pub entries-preserved : goal.entries-preserved
entries-preserved g c =
    let out = entries g.T.Entry.unpacked g.T.Entry.raise c.args.self.now in
    let xs = entries g.T.Entry.unpacked g.T.Entry.raise c.args.other.now in
    let n = c.entries.number in
    c.in_ok-push_same.ensures
    ∙ ap (λ ys. ys ++ slice_range xs n (n + 1)) c.entries.invariant
    ∙ range_grown out xs c.args.from n (omega arith) (omega arith)
