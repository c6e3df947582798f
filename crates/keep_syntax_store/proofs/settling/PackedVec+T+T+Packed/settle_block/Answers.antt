use Rattle.std.proofs.Common.{◌≡◌, ◌+◌, ◌-◌, ◌++◌, take, drop, map, length, [], None, sym, ap, ◌∙◌, arith}
use Rattle.std.specs.Prelude.{slice_range}
use Rattle.std.specs.Vec.{with_items}
use Rattle.std.proofs.Math.ListN.{set}
use Rattle.std.proofs.lemmas.List.{with_items_is}
use borrow.Rule.Slice.PartMut.{post_of, same_len_mid, Post-is}
use Rattle.keep_syntax_store.specs.Blocks.{in_blocks}
use Rattle.keep_syntax_store.specs.Unfit.{with_unfit}
use Rattle.keep_syntax_store.proofs.SettleLaws.{block_settled}
use Rattle.keep_syntax_store.proofs.settling.PackedVec+T+T+Packed.settle_block.Goals as goal

pub returns-then-try_raise_all-clause-entries : goal.returns-then-try_raise_all-clause-entries
returns-then-try_raise_all-clause-entries g c =
    let un = g.T.Entry.unpacked in
    let raise = g.T.Entry.raise in
    let by = c.in-Some.by in
    let v = c.args.self.now in
    let ps = v.packed.items in
    let xs = c.as_mut_slice.result.now in
    let run = c.try_raise_all.new.items in
    let start = c.min-start.result in
    let end = start + c.min.result in
    let all = take start xs ++ (run ++ post_of start (end - start) xs) in
    let moves = set v.moves.items c.args.block None in
    let is : (with_items v.packed all).items ≡ take start ps ++ (run ++ drop end ps) =
    with_items_is v.packed all
    (same_len_mid start (end - start) xs run c.try_raise_all.ensures.len
    ∙ ap length c.as_mut_slice.ensures.value
    ∙ sym v.packed.ok.0)
    ∙ ap (λ qs. take start qs ++ (run ++ post_of start (end - start) qs)) c.as_mut_slice.ensures.value
    ∙ ap (λ qs. take start ps ++ (run ++ qs)) (Post-is start end ps (omega arith)) in
    ap (λ us. in_blocks raise moves 0 (with_unfit us 0 (map un (with_items v.packed all).items))) c.requires.packed
    ∙ ap (λ qs. in_blocks raise moves 0 (with_unfit [] 0 (map un qs))) is
    ∙ block_settled un raise v.moves.items ps run c.args.block start end by
    (omega (arith, c.requires.there, v.moves.ok.0))
    (sym c.block_move.ensures ∙ c.in-Some.is)
    (omega (arith, c.min-start.ensures, c.saturating_mul.ensures, c.len-len.ensures, v.packed.ok.0, v.packed.small))
    (omega (arith, c.min.ensures, c.len-len.ensures, v.packed.ok.0))
    (c.try_raise_all.ensures.raised c.if-try_raise_all.true
    ∙ ap (λ qs. map (raise by) (map un (slice_range qs start end))) c.as_mut_slice.ensures.value)
    ∙ ap (λ us. in_blocks raise v.moves.items 0 (with_unfit us 0 (map un ps))) (sym c.requires.packed)
