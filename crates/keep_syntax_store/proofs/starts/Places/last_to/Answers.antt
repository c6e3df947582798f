use Rattle.std.proofs.Common.{sym, ap}
use Rattle.keep_syntax_store.specs.declared.starts.Places.{Places}
use Rattle.keep_syntax_store.specs.Left.{places_left}
use Rattle.keep_syntax_store.specs.Starts.{last_to}
use Rattle.keep_syntax_store.proofs.starts.Places.last_to.Goals as goal

pub places-init : goal.places-init
places-init c =
    ap (λ (p : Places). last_to c.args.place c.args.low (places_left p))
    (sym c.into_iter-at-iterator.ensures.into_iter_gives)
