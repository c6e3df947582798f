use Rattle.std.proofs.Common.{◌≡◌, ◌++◌, map, slice_range}
use Rattle.keep_syntax_store.specs.PackedVec.{entries}
use Rattle.keep_syntax_store.proofs.packed_vec.PackedVec+T+T+Packed.append_moved.Given as goal

abbrev pub invariant-entries : goal.invariant-entries
invariant-entries g l =
    entries g.T.Entry.unpacked g.T.Entry.raise l.self ≡ entries g.T.Entry.unpacked g.T.Entry.raise l.fn.self
    ++ map (g.T.Entry.moved l.old l.new)
    (slice_range (entries g.T.Entry.unpacked g.T.Entry.raise l.other) l.from l.number)
