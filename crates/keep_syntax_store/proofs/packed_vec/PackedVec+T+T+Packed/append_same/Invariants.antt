use Rattle.std.proofs.Common.{◌≡◌, ◌++◌, slice_range}
use Rattle.keep_syntax_store.specs.PackedVec.{entries}
use Rattle.keep_syntax_store.proofs.packed_vec.PackedVec+T+T+Packed.append_same.Given as goal

abbrev pub invariant-entries : goal.invariant-entries
invariant-entries g l =
    entries g.T.Entry.unpacked g.T.Entry.raise l.self ≡ entries g.T.Entry.unpacked g.T.Entry.raise l.fn.self
    ++ slice_range (entries g.T.Entry.unpacked g.T.Entry.raise l.other) l.from l.number
