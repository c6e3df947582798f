use Rattle.std.proofs.Common.{◌≡◌, ◌+◌, ◌-◌, [], length, take, ap, ◌∙◌, arith}
use Rattle.std.proofs.lemmas.List.{take_all, with_items_is}
use Rattle.keep_path.specs.NodesBelow.{spliced}
use Rattle.keep_index_store.proofs.SplicedLemmas.{spliced_then_removed}
use Rattle.keep_index_store.proofs.splicing.splice_in.Goals as goal

pub returns : goal.returns
returns g c =
    let xs = c.args.items.now.items in
    let ns = c.args.new.items in
    let at = c.args.at in
    let gone = c.args.gone in
    let count = c.len-count.result in
    let some : length ns ≡ count = omega (arith, c.args.new.ok.0, c.len-count.ensures) in
    let exchanged : c.exchange.new.items ≡ spliced at count ns xs =
    c.exchange.ensures.items
    ∙ ap (spliced at count (take count c.as_mut_slice-2.result.now)) c.as_mut_slice.ensures.value
    ∙ ap (λ zs. spliced at count zs xs)
    (ap (take count) c.as_mut_slice-2.ensures.value ∙ take_all count ns (omega (arith, some))) in
    let many : length c.exchange.new.items ≡ c.args.items.now.len =
    omega (arith, c.exchange.auto.items, ap length c.as_mut_slice.ensures.value, c.args.items.now.ok.0) in
    c.remove_run.ensures
    ∙ ap (spliced (at + count) (gone - count) [])
    (with_items_is c.args.items.now c.exchange.new.items many ∙ exchanged)
    ∙ spliced_then_removed xs ns at count some (omega (arith, c.requires.within, c.args.items.now.ok.0)) (gone - count)
    gone (omega (arith, c.if-gone-count.false))
