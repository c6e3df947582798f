use Rattle.std.proofs.Common.{◌++◌, length, ap, ◌∙◌, arith, append_assoc}
use Rattle.std.proofs.lemmas.List.{length-append}
use Rattle.keep_syntax_store.proofs.ExchangeLaws.{first_to_end}
use Rattle.keep_syntax_store.proofs.exchange.swap_runs.Goals as goal

pub returns : goal.returns
returns g c = λ prefix mid back new is a b before.
    c.to_end.ensures (prefix ++ new) mid back
    (c.to_start.ensures (prefix ++ (mid ++ back)) new is
    (omega (arith, before, length-append prefix (mid ++ back), length-append mid back))
    ∙ first_to_end prefix mid back new c.args.from a)
    (omega (
      arith,
      a,
      before,
      length-append prefix new,
      ap length is,
      length-append (prefix ++ (mid ++ back)) new,
      length-append prefix (mid ++ back),
      length-append mid back,
    )) b
    ∙ append_assoc prefix new (back ++ mid)
