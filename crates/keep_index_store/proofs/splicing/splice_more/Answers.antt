use Rattle.std.proofs.Common.{◌≡◌, ◌+◌, ◌-◌, ◌++◌, length, take, drop, ap, ◌∙◌, arith}
use Rattle.std.proofs.lemmas.List.{length-append, length-drop, take-append-drop, with_items_is}
use Rattle.keep_path.specs.NodesBelow.{spliced}
use Rattle.keep_index_store.proofs.SplicedLemmas.{four_runs, old_at_end, run_count, take_count, take_prefix}
use Rattle.keep_index_store.proofs.splicing.splice_more.Goals as goal

pub returns : goal.returns
returns g c =
    let xs = c.args.items.now.items in
    let ns = c.args.new.items in
    let at = c.args.at in
    let gone = c.args.gone in
    let l : length xs ≡ c.args.items.now.len = omega (arith, c.args.items.now.ok.0) in
    let m : length ns ≡ c.args.new.len = omega (arith, c.args.new.ok.0) in
    let front = take at xs in
    let out = take gone (drop at xs) in
    let back = drop (at + gone) xs in
    let first = take gone ns in
    let more = drop gone ns in
    let a = take_count xs at (omega (arith, c.requires.within, l)) in
    let b = run_count xs at gone (omega (arith, c.requires.within, l)) in
    let f = take_count ns gone (omega (arith, c.requires.more, m)) in
    let s = length-drop gone ns in
    let rest = length-drop (at + gone) xs in
    let same = c.as_mut_slice.ensures.value in
    let same' = c.as_mut_slice-2.ensures.value in
    let exchanged : c.exchange.new.items ≡ front ++ (first ++ back) =
    c.exchange.ensures.items ∙ ap (spliced at gone (take gone c.as_mut_slice-2.result.now)) same
    ∙ ap (λ zs. spliced at gone (take gone zs) xs) same' in
    let others : c.exchange.new.others ≡ out ++ more =
    c.exchange.ensures.others ∙ ap (λ zs. take gone (drop at zs) ++ drop gone c.as_mut_slice-2.result.now) same
    ∙ ap (λ zs. out ++ drop gone zs) same' in
    let many : length c.exchange.new.items ≡ c.args.items.now.len =
    omega (arith, c.exchange.auto.items, ap length same, l) in
    let many' : length c.exchange.new.others ≡ c.args.new.len =
    omega (arith, c.exchange.auto.others, ap length same', m) in
    let kept = take c.args.new.len (c.exchange.new.others ++ drop (length c.exchange.new.others) ns) in
    let now : c.as_mut_slice-3.result.now ≡ (front ++ first) ++ ((back ++ out) ++ more) =
    c.as_mut_slice-3.ensures.value ∙ c.in-Ok.ensures.items
    ∙ ap (λ zs. zs ++ kept) (with_items_is c.args.items.now c.exchange.new.items many ∙ exchanged)
    ∙ ap (λ zs. (front ++ (first ++ back)) ++ zs) (with_items_is c.args.new c.exchange.new.others many' ∙ others)
    ∙ four_runs front first back out more in
    let turned : c.to_end.new.items ≡ (front ++ ((first ++ more) ++ back)) ++ out =
    c.to_end.ensures (front ++ first) (back ++ out) more now
    (omega (arith, length-append front first, a, f))
    (omega (arith, length-append back out, rest, b, l, c.requires.within, c.len-before.ensures))
    ∙ old_at_end front first back out more in
    let all : length c.to_end.new.items ≡ c.append.new.self.len =
    omega (arith, c.to_end.auto.items, ap length c.as_mut_slice-3.ensures.value, c.append.new.self.ok.0) in
    c.truncate.ensures.items
    ∙ ap (take (c.len-before.result + (c.len-2.result - gone)))
    (with_items_is c.append.new.self c.to_end.new.items all ∙ turned)
    ∙ take_prefix (front ++ ((first ++ more) ++ back)) out (c.len-before.result + (c.len-2.result - gone))
    (omega (
      arith,
      length-append front ((first ++ more) ++ back),
      length-append (first ++ more) back,
      length-append first more,
      a,
      f,
      s,
      rest,
      l,
      m,
      c.len-before.ensures,
      c.len-2.ensures,
      c.requires.within,
      c.requires.more,
    ))
    ∙ ap (λ zs. front ++ (zs ++ back)) (take-append-drop gone ns)
