-- Packed entries of one block, none of it moved, are copied as they are stored.
--
-- Theorem: `copied`.
use Rattle.std.proofs.Common.{◌≡◌, ℕ, ◌+◌, ◌-◌, ◌*◌, ◌/◌, ◌<◌, ◌≤◌, List, ◌++◌, length, map, take, drop, get_or, refl}
use Rattle.std.proofs.Common.{sym, ap, ◌∙◌, arith, true, false, Option, Some, None}
use Rattle.std.specs.Prelude.{slice_range, is_some}
use Rattle.std.proofs.Math.Nat.{div-mul-le_self, lt-div-mul-add}
use Rattle.std.proofs.lemmas.List.{length-map, map-append}
use Rattle.keep_syntax_store.specs.declared.packed_vec.PackedVec.{PackedVec}
use Rattle.keep_syntax_store.specs.Blocks.{in_blocks}
use Rattle.keep_syntax_store.specs.PackedVec.{entries, IsAllPacked, IsPackedRun}
use Rattle.keep_syntax_store.specs.Unfit.{IsFree, with_unfit}
use Rattle.keep_syntax_store.proofs.BlockLaws.{move_of, blocks_drop, blocks_still, blocks_take, no_blocks}
use Rattle.keep_syntax_store.proofs.EntryLaws.{all_packed}
use Rattle.keep_syntax_store.proofs.ExchangeLaws.{range_length}
use Rattle.keep_syntax_store.proofs.ExchangedLaws.{map_take, map_drop}
use Rattle.keep_syntax_store.proofs.UnfitLaws.{no_unfit, unfit_drop, unfit_free, unfit_take}

pub none_is : {A : Type 0} (o : Option A) → is_some o ≡ false → o ≡ None
none_is None e = refl
none_is (Some x) e = absurd (let k : true ≡ false = e in cc)

-- the number of a place's block, which is that of another place's block
block_is : (from to i : ℕ) → to ≤ (from / 16 + 1) * 16 → from ≤ i → i < to → i / 16 ≡ from / 16
block_is from to i block low high =
    omega (
      arith,
      block,
      low,
      high,
      div-mul-le_self i 16,
      div-mul-le_self from 16,
      (let a : i < i / 16 * 16 + 16 = lt-div-mul-add (omega arith) in a),
    )

-- those of a run's block before the run, where all up to `end` are packed
pub packed_before : {E P : Type 0} (from to end : ℕ) (v : PackedVec E P) → from ≤ to → to ≤ end
    → to ≤ length v.packed.items → IsFree (from / 16 * 16) end v.unfit → IsPackedRun (from / 16 * 16) from v
packed_before from to end v order more within free =
    let start = from / 16 * 16 in
    let high : from < from / 16 * 16 + 16 = lt-div-mul-add (omega arith) in
    let next : start < start / 16 * 16 + 16 = lt-div-mul-add (omega arith) in
    record {
      order = div-mul-le_self from 16;
      within = omega (arith, order, within);
      block = omega (arith, high, next);
      free = λ i low below. free i low (omega (arith, below, order, more));
    }

module _ {E P : Type 0} (unpack : P → E) (raise : ℕ → E → E) where
  -- entries of a block that is not moved are the packed ones
  stored_range : (v : PackedVec E P) (from to : ℕ) → IsPackedRun from to v → move_of v.moves.items from ≡ None
      → slice_range (entries unpack raise v) from to ≡ map unpack (slice_range v.packed.items from to)
  stored_range v from to run still =
      ap (take k) (blocks_drop raise ms 0 from ys ∙ ap (λ i. in_blocks raise ms i (drop from ys)) zero_more)
      ∙ blocks_take raise ms from k (drop from ys)
      ∙ ap (in_blocks raise ms from)
      (ap (take k) (unfit_drop v.unfit 0 from xs ∙ ap (λ i. with_unfit v.unfit i (drop from xs)) zero_more)
      ∙ unfit_take v.unfit from k (drop from xs)
      ∙ unfit_free v.unfit from zs (λ i low high. run.free i low (omega (arith, high, size, run.order))))
      ∙ blocks_still raise ms from zs
      (λ i low high.
      ap (λ b. get_or ms b None) (block_is from to i run.block low (omega (arith, high, size, run.order))) ∙ still)
      ∙ sym (map_take unpack k (drop from v.packed.items) ∙ ap (take k) (map_drop unpack from v.packed.items))
    where
      k : ℕ
      k = to - from

      ms : List (Option ℕ)
      ms = v.moves.items

      xs : List E
      xs = map unpack v.packed.items

      ys : List E
      ys = with_unfit v.unfit 0 xs

      zs : List E
      zs = slice_range xs from to

      zero_more : 0 + from ≡ from
      zero_more = omega arith

      size : length zs ≡ to - from
      size = range_length xs from to run.order (omega (arith, run.within, length-map v.packed.items unpack))

  -- what a list has once packed entries of another are copied to its end
  pub copied : (w v : PackedVec E P) (ps : List P) (from to : ℕ) → IsAllPacked w → IsPackedRun from to v
      → move_of v.moves.items from ≡ None → ps ≡ w.packed.items ++ slice_range v.packed.items from to
      → in_blocks raise w.moves.items 0 (with_unfit w.unfit 0 (map unpack ps)) ≡ entries unpack raise w
      ++ slice_range (entries unpack raise v) from to
  copied w v ps from to h run still is =
      ap (λ ms. in_blocks raise ms 0 (with_unfit w.unfit 0 (map unpack ps))) h.still
      ∙ no_blocks raise 0 (with_unfit w.unfit 0 (map unpack ps))
      ∙ ap (λ us. with_unfit us 0 (map unpack ps)) h.packed
      ∙ no_unfit 0 (map unpack ps)
      ∙ ap (map unpack) is
      ∙ map-append unpack w.packed.items (slice_range v.packed.items from to)
      ∙ ap (λ xs. xs ++ map unpack (slice_range v.packed.items from to)) (sym (all_packed unpack raise w h))
      ∙ ap (λ xs. entries unpack raise w ++ xs) (sym (stored_range v from to run still))
