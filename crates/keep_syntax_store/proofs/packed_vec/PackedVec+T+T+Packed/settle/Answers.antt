use Rattle.std.proofs.Common.{◌++◌, slice_range, ap, ◌∙◌}
use Rattle.keep_syntax_store.specs.PackedVec.{entries}
use Rattle.keep_syntax_store.proofs.ReplacingLaws.{range_whole}
use Rattle.keep_syntax_store.proofs.packed_vec.PackedVec+T+T+Packed.settle.Goals as goal

pub returns-in_ok-append_same : goal.returns-in_ok-append_same
returns-in_ok-append_same g c = λ right.
    let es = entries g.T.Entry.unpacked g.T.Entry.raise c.settle_in_place.new.self in
    c.in_ok-append_same.ensures
    ∙ ap (λ xs. xs ++ slice_range es 0 c.len-count.result) c.in_ok-all.ensures
    ∙ ap (λ n. slice_range es 0 n) c.len-count.ensures
    ∙ range_whole es
    ∙ c.settle_in_place.ensures
