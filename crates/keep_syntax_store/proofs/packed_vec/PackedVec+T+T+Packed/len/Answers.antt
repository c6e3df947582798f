use Rattle.std.proofs.Common.{arith}
use Rattle.keep_syntax_store.proofs.EntryLaws.{entries_length}
use Rattle.keep_syntax_store.proofs.packed_vec.PackedVec+T+T+Packed.len.Goals as goal

pub returns : goal.returns
returns g c =
    omega (
      arith,
      entries_length g.T.Entry.unpacked g.T.Entry.raise c.args.self.now,
      c.len.ensures,
      c.args.self.now.packed.ok.0,
    )
