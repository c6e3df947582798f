use Rattle.std.proofs.Common.{◌≡◌, ◌<◌, length, Some, sym, ap, ◌∙◌, arith, slice_get}
use Rattle.keep_syntax_store.specs.Blocks.{raise_by}
use Rattle.keep_syntax_store.specs.PackedVec.{entries}
use Rattle.keep_syntax_store.proofs.BlockLaws.{move_of}
use Rattle.keep_syntax_store.proofs.EntryLaws.{entries_length, packed_at, unfit_at}
use Rattle.keep_syntax_store.proofs.packed_vec.PackedVec+T+T+Packed.get_among_unfit.Goals.{in-Some, in-None}
use Rattle.keep_syntax_store.proofs.packed_vec.PackedVec+T+T+Packed.get_among_unfit.Goals as goal

pub index-requires : goal.index-requires
index-requires g c =
    omega (
      arith,
      c.requires,
      entries_length g.T.Entry.unpacked g.T.Entry.raise c.args.self.now,
      c.args.self.now.packed.ok.0,
    )

pub returns-in-Some-block_move : goal.returns-in-Some-block_move
returns-in-Some-block_move g c =
    let vs = c.args.self.now in
    let un = g.T.Entry.unpacked in
    let raise = g.T.Entry.raise in
    let below : c.args.number < length vs.packed.items = omega (arith, c.requires, entries_length un raise vs) in
    let stored : slice_get (entries un raise vs) c.args.number
    ≡ Some (raise_by raise (move_of vs.moves.items c.args.number) c.match-find.entry) =
    elim c.match-find.branch [
      | in-Some w ↦
          unfit_at un raise vs c.args.number w.in-Some.entry below (sym c.find.ensures ∙ w.in-Some.is)
          ∙ ap (λ e. Some (raise_by raise (move_of vs.moves.items c.args.number) e)) (sym w.entry-is)
      | in-None w ↦
          packed_at un raise vs c.args.number w.index.result.now below (sym c.find.ensures ∙ w.in-None.is)
          w.index.ensures
          ∙ ap (λ e. Some (raise_by raise (move_of vs.moves.items c.args.number) e))
          (sym (w.entry-is ∙ w.unpacked-entry.ensures))
    ] in
    stored
    ∙ ap (λ m. Some (raise_by raise m c.match-find.entry)) (sym c.block_move.ensures ∙ c.in-Some-block_move.is)
    ∙ ap Some (sym c.raised.ensures)

pub returns-in-None-block_move : goal.returns-in-None-block_move
returns-in-None-block_move g c =
    let vs = c.args.self.now in
    let un = g.T.Entry.unpacked in
    let raise = g.T.Entry.raise in
    let below : c.args.number < length vs.packed.items = omega (arith, c.requires, entries_length un raise vs) in
    let stored : slice_get (entries un raise vs) c.args.number
    ≡ Some (raise_by raise (move_of vs.moves.items c.args.number) c.match-find.entry) =
    elim c.match-find.branch [
      | in-Some w ↦
          unfit_at un raise vs c.args.number w.in-Some.entry below (sym c.find.ensures ∙ w.in-Some.is)
          ∙ ap (λ e. Some (raise_by raise (move_of vs.moves.items c.args.number) e)) (sym w.entry-is)
      | in-None w ↦
          packed_at un raise vs c.args.number w.index.result.now below (sym c.find.ensures ∙ w.in-None.is)
          w.index.ensures
          ∙ ap (λ e. Some (raise_by raise (move_of vs.moves.items c.args.number) e))
          (sym (w.entry-is ∙ w.unpacked-entry.ensures))
    ] in
    stored
    ∙ ap (λ m. Some (raise_by raise m c.match-find.entry)) (sym c.block_move.ensures ∙ c.in-None-block_move.is)
