use Rattle.std.proofs.Common.{◌≡◌, ◌+◌, ◌-◌, ◌++◌, length, take, drop, ap, sym, ◌∙◌, arith, vec_len, append_assoc}
use Rattle.std.proofs.lemmas.List.{length-append, length-drop, with_items_is}
use Rattle.keep_index_store.proofs.SplicedLemmas.{run_count, take_count, take_prefix, three_runs}
use Rattle.keep_index_store.proofs.splicing.remove_run.Goals as goal

pub returns : goal.returns
returns g c =
    let xs = c.args.items.now.items in
    let at = c.args.at in
    let count = c.args.count in
    let l : length xs ≡ vec_len c.args.items.now = omega (arith, c.args.items.now.ok.0) in
    let front = take at xs in
    let out = take count (drop at xs) in
    let back = drop (at + count) xs in
    let a = take_count xs at (omega (arith, c.requires, l)) in
    let b = run_count xs at count (omega (arith, c.requires, l)) in
    let now : c.as_mut_slice.result.now ≡ front ++ (out ++ back) =
    c.as_mut_slice.ensures.value ∙ three_runs xs at count in
    let turned : c.to_end.new.items ≡ (front ++ back) ++ out =
    c.to_end.ensures front out back now a b ∙ sym (append_assoc front back out) in
    let many : length c.to_end.new.items ≡ c.args.items.now.len =
    omega (arith, c.to_end.auto.items, ap length c.as_mut_slice.ensures.value, c.args.items.now.ok.0) in
    c.truncate.ensures.items
    ∙ ap (take (c.len.result - count)) (with_items_is c.args.items.now c.to_end.new.items many ∙ turned)
    ∙ take_prefix (front ++ back) out (c.len.result - count)
    (omega (arith, length-append front back, a, length-drop (at + count) xs, l, c.len.ensures, c.requires))
