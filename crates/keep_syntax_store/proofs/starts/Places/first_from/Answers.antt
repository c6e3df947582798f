use Rattle.std.proofs.Common.{sym, ap}
use Rattle.keep_syntax_store.specs.declared.starts.Places.{Places}
use Rattle.keep_syntax_store.specs.Left.{places_left}
use Rattle.keep_syntax_store.specs.Starts.{first_from}
use Rattle.keep_syntax_store.proofs.starts.Places.first_from.Goals as goal

pub places-init : goal.places-init
places-init c =
    ap (λ (p : Places). first_from c.args.place c.args.high (places_left p))
    (sym c.into_iter-at-iterator.ensures.into_iter_gives)
