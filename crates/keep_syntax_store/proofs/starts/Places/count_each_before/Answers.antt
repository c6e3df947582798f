use Rattle.std.proofs.Common.{◌≡◌, length, ap, arith}
use Rattle.keep_syntax_store.specs.Left.{places_left}
use Rattle.keep_syntax_store.specs.Rereading.{places_before}
use Rattle.keep_syntax_store.proofs.CountLaws.{places_within}
use Rattle.keep_syntax_store.proofs.starts.Places.count_each_before.Goals as goal

pub places-init : goal.places-init
places-init c =
    let p = c.args.self.now in
    let left : places_left c.into_iter-at-iterator.result ≡ places_left p =
    ap places_left c.into_iter-at-iterator.ensures.into_iter_gives in
    record {
      counted = omega (arith, ap (places_before c.args.place) left);
      bounded = omega (arith, ap length left, places_within p.at p.steps.now p.far.now);
    }
