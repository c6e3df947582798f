use Rattle.std.proofs.Common.{length, ap, arith}
use Rattle.keep_syntax_store.proofs.StartLaws.{places_all}
use Rattle.keep_syntax_store.proofs.starts.Starts.len.Goals as goal

pub returns : goal.returns
returns c =
    let s = c.self.inside in
    omega (
      arith,
      c.len.ensures,
      places_all 0 s.steps.items s.far.items c.self.invariant.stored.matched,
      ap length c.self.view_is,
    )
