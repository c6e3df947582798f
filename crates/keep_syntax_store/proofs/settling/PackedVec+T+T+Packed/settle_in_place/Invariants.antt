use Rattle.std.proofs.Common.{◌≡◌, []}
use Rattle.std.specs.Prelude.{vec_len}
use Rattle.keep_syntax_store.specs.PackedVec.{entries}
use Rattle.keep_syntax_store.proofs.settling.PackedVec+T+T+Packed.settle_in_place.Given as goal

-- the entries are as they were, and all are packed
abbrev pub invariant-blocks-2 : goal.invariant-blocks-2
invariant-blocks-2 g l =
    (entries g.T.Entry.unpacked g.T.Entry.raise l.self ≡ entries g.T.Entry.unpacked g.T.Entry.raise l.fn.self)
    × (l.self.unfit ≡ []) × (vec_len l.self.moves ≡ vec_len l.fn.self.moves)
