use Rattle.std.proofs.Common.{◌≡◌, ◌+◌, ◌-◌, ◌/◌, ◌*◌, ◌%◌, min, ◌++◌, length, map, slice_range, refl, sym, ap, ◌∙◌}
use Rattle.std.proofs.Common.{arith}
use Rattle.keep_syntax_store.specs.declared.moves.Counts.{Counts}
use Rattle.keep_syntax_store.specs.Rereading.{nothing}
use Rattle.keep_syntax_store.specs.PackedVec.{entries}
use Rattle.keep_syntax_store.proofs.CopiedEntryLemmas.{packed_before}
use Rattle.keep_syntax_store.proofs.EntryLaws.{all_packed, entries_length}
use Rattle.keep_syntax_store.proofs.PatchLaws.{block_end, patch_made}
use Rattle.keep_syntax_store.proofs.ReplacingLaws.{range_whole}
use Rattle.keep_syntax_store.proofs.StayLaws.{map_same}
use Rattle.keep_syntax_store.proofs.patch.PackedVec+T+T+Packed.patch.Goals as goal

pub append_as_stored-requires : goal.append_as_stored-requires
append_as_stored-requires g c =
    let a = c.args.run.0 in
    let b = c.args.run.1 in
    packed_before a b (b + c.min.result) c.args.self.now (omega (arith, c.requires.run.size)) (omega arith)
    c.requires.run.within (c.if-not-is_free.ensures refl)

pub append_moved-requires-2-clause-within : goal.append_moved-requires-2-clause-within
append_moved-requires-2-clause-within g c =
    omega (
      arith,
      c.requires.run.within,
      c.min.ensures,
      c.len-count.ensures,
      c.args.self.now.packed.ok.0,
      entries_length g.T.Entry.unpacked g.T.Entry.raise c.args.self.now,
    )

pub returns : goal.returns
returns g c = λ right.
    let un = g.T.Entry.unpacked in
    let raise = g.T.Entry.raise in
    let moved = g.T.Entry.moved in
    let v = c.args.self.now in
    let a = c.args.run.0 in
    let b = c.args.run.1 in
    let k = c.args.counts.now in
    let es = entries un raise v in
    let fresh = entries un raise c.args.fresh.now in
    let count : c.len-count.result ≡ length v.packed.items = omega (arith, c.len-count.ensures, v.packed.ok.0) in
    let end = b + c.min.result in
    let run_is =
    sym (all_packed un raise c.append_moved-2.new.self (c.if-not-is_packed.ensures.0 refl))
    ∙ c.in_ok-append_moved-2.ensures
    ∙ ap (λ xs. xs ++ map (moved k.to k.until) (slice_range es b end)) (c.in_ok-append_moved.ensures
    ∙ ap (λ xs. xs ++ map (moved c.nothing-zero.result k.from) (slice_range fresh 0 c.len.result))
    (c.in_ok-append_as_stored.ensures right
    ∙ ap (λ xs. xs ++ slice_range es (a / 16 * 16) a) c.in_ok-all.ensures
    ∙ sym (map_same (moved nothing nothing) right.stays (slice_range es (a / 16 * 16) a)))
    ∙ ap (λ (z : Counts).
    map (moved nothing nothing) (slice_range es (a / 16 * 16) a)
    ++ map (moved z k.from) (slice_range fresh 0 c.len.result)) c.nothing-zero.ensures
    ∙ ap (λ xs. map (moved nothing nothing) (slice_range es (a / 16 * 16) a) ++ map (moved nothing k.from) xs)
    (ap (λ n. slice_range fresh 0 n) c.len.ensures ∙ range_whole fresh)) in
    patch_made un raise g.T.Entry.IsAfter moved right v fresh k.len k.from k.to k.until a b end
    (record { from = a / 16 * 16; run = c.append_moved-2.new.self.packed; moves = c.in_ok-moves.moves }) refl
    (c.if-not-is_free.ensures refl)
    c.requires.run c.requires.places c.requires.after
    (block_end b (length v.packed.items) c.min.result c.requires.run.within
    (c.min.ensures ∙ ap (λ n. min (n - b) (16 - b % 16)) count)) run_is
    (λ block h. c.in_ok-moves.ensures block (omega (arith, h, ap (λ n. n / 16) count)))
