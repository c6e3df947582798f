use Rattle.std.proofs.Common.{◌++◌, slice_range, not, sym, ap, ◌∙◌, arith}
use Rattle.keep_syntax_store.proofs.CopiedEntryLemmas.{copied, none_is}
use Rattle.keep_syntax_store.proofs.EntryLaws.{entries_length}
use Rattle.keep_syntax_store.proofs.patch.PackedVec+T+T+Packed.append_as_stored.Goals as goal

pub returns-then-is_none : goal.returns-then-is_none
returns-then-is_none g c = λ right.
    copied g.T.Entry.unpacked g.T.Entry.raise c.args.self.now c.args.other.now c.extend_from_slice.new.self.items
    c.args.from c.args.to (c.is_packed.ensures.0 c.if-is_packed.true) c.requires
    (sym c.block_move.ensures ∙ none_is c.block_move.result (c.is_none.ensures ∙ ap not c.if-is_none.true))
    (c.in_ok-extend_from_slice.ensures.items
    ∙ ap (λ xs. c.args.self.now.packed.items ++ slice_range xs c.args.from c.args.to) c.deref.ensures.value)

pub append_same-requires-clause-within : goal.append_same-requires-clause-within
append_same-requires-clause-within g c =
    omega (arith, c.requires.within, entries_length g.T.Entry.unpacked g.T.Entry.raise c.args.other.now)
