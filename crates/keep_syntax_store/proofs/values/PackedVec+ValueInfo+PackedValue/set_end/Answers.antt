use Rattle.std.proofs.Common.{◌≡◌, sym, ap, ◌∙◌, ◌<◌, ◌++◌, ◌∷◌, length, arith, None}
use Rattle.keep_types.specs.declared.syntax.ValueInfo.{ValueInfo}
use Rattle.keep_syntax_store.specs.Blocks.{raise_by, raise_place, raise_value}
use Rattle.keep_syntax_store.specs.Flat.{unpacked_value, with_end}
use Rattle.keep_syntax_store.specs.Unfit.{found}
use Rattle.keep_syntax_store.proofs.BlockLaws.{move_of}
use Rattle.keep_syntax_store.proofs.EntryLaws.{entries_length, packed_at, unfit_at, set_packed, set_unfit}
use Rattle.keep_syntax_store.proofs.FlatLaws.{value_seam, set_seam}
use Rattle.keep_syntax_store.proofs.RaiseLaws.{end_written, end_raised}
use Rattle.keep_syntax_store.proofs.values.PackedVec+ValueInfo+PackedValue.set_end.Goals as goal

pub index_mut-requires : goal.index_mut-requires
index_mut-requires c =
    omega (arith, c.requires, entries_length unpacked_value raise_value c.args.self.now, c.args.self.now.packed.ok.0)

pub returns-in-Some : goal.returns-in-Some
returns-in-Some c = record {
  change = λ prefix info back len is.
      let vs = c.args.self.now in
      let v = c.in-Some.value in
      let n = c.args.number in
      let m = move_of vs.moves.items n in
      let below : n < length vs.packed.items =
      omega (arith, c.requires, entries_length unpacked_value raise_value vs) in
      let placed : raise_by raise_place m c.lowered-end.result ≡ c.args.end =
      ap (λ k. raise_by raise_place k c.lowered-end.result) (sym c.block_move.ensures) ∙ c.lowered-end.ensures in
      set_unfit unpacked_value raise_value vs c.set.new.self n (with_end c.lowered-end.result v) c.set.ensures
      ∙ set_seam vs prefix info back n len is _
      ∙ ap (λ (w : ValueInfo). prefix ++ (w ∷ back)) (end_raised m v c.lowered-end.result c.args.end placed)
      ∙ ap (λ (w : ValueInfo). prefix ++ (with_end c.args.end w ∷ back))
      (value_seam vs prefix info back n len is _
      (unfit_at unpacked_value raise_value vs n v below (sym c.find.ensures ∙ c.in-Some.is)));
}

pub returns-in_default : goal.returns-in_default
returns-in_default c = record {
  change = λ prefix info back len is.
      let vs = c.args.self.now in
      let s = c.index_mut.result.now in
      let n = c.args.number in
      let m = move_of vs.moves.items n in
      let below : n < length vs.packed.items =
      omega (arith, c.requires, entries_length unpacked_value raise_value vs) in
      let none : found n vs.unfit ≡ None = sym c.find.ensures ∙ c.in_default.is in
      let placed : raise_by raise_place m c.lowered-end.result ≡ c.args.end =
      ap (λ k. raise_by raise_place k c.lowered-end.result) (sym c.block_move.ensures) ∙ c.lowered-end.ensures in
      set_packed unpacked_value raise_value vs n _ none
      ∙ set_seam vs prefix info back n len is _
      ∙ ap (λ (v : ValueInfo). prefix ++ (v ∷ back)) (end_written m s c.lowered-end.result c.args.end placed)
      ∙ ap (λ (v : ValueInfo). prefix ++ (with_end c.args.end v ∷ back))
      (value_seam vs prefix info back n len is _
      (packed_at unpacked_value raise_value vs n s below none c.index_mut.ensures.value));
}
