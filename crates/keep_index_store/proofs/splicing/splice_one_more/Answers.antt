use Rattle.std.proofs.Common.{◌≡◌, ◌+◌, ◌++◌, ◌∷◌, [], length, take, ap, sym, ◌∙◌, arith}
use Rattle.std.specs.List.{insert}
use Rattle.std.proofs.lemmas.List.{take_all, with_items_is}
use Rattle.keep_path.specs.NodesBelow.{spliced}
use Rattle.keep_index_store.proofs.SplicedLemmas.{spliced_then_inserted}
use Rattle.keep_index_store.proofs.splicing.splice_one_more.Goals as goal

pub returns : goal.returns
returns g c =
    let xs = c.args.items.now.items in
    let ns = c.args.new.items in
    let ms = c.pop.new.self.items in
    let at = c.args.at in
    let gone = c.args.gone in
    let last = c.in-Some.last in
    let whole : ns ≡ ms ++ last ∷ [] = c.in-Some.ensures.items in
    let some : length ms ≡ gone =
    omega (arith, c.in-Some.ensures.len, c.requires.one_more, c.pop.new.self.ok.0) in
    let exchanged : c.exchange.new.items ≡ spliced at gone ms xs =
    c.exchange.ensures.items ∙ ap (spliced at gone (take gone c.as_mut_slice-2.result.now)) c.as_mut_slice.ensures.value
    ∙ ap (λ zs. spliced at gone zs xs)
    (ap (take gone) c.as_mut_slice-2.ensures.value ∙ take_all gone ms (omega (arith, some))) in
    let many : length c.exchange.new.items ≡ c.args.items.now.len =
    omega (arith, c.exchange.auto.items, ap length c.as_mut_slice.ensures.value, c.args.items.now.ok.0) in
    c.in-Ok.ensures.items
    ∙ ap (λ ys. insert ys (at + gone) last) (with_items_is c.args.items.now c.exchange.new.items many ∙ exchanged)
    ∙ spliced_then_inserted xs ms at gone some (omega (arith, c.requires.within, c.args.items.now.ok.0)) last
    ∙ ap (λ zs. spliced at gone zs xs) (sym whole)
