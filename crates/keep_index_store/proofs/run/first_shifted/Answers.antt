use Rattle.std.proofs.Common.{◌<◌, ◌∙◌, ap, arith}
use Rattle.keep_index_store.specs.Runs.{consecutive}
use Rattle.keep_index_store.proofs.ShiftedLemmas.{first_can, run_fits, run_shifted}
use Rattle.keep_index_store.proofs.run.first_shifted.Goals as goal

pub shifted-requires : goal.shifted-requires
shifted-requires c =
    let some : 0 < c.args.len = omega (arith, c.if-len-eq0.false) in
    first_can c.args.by c.args.first c.args.len c.requires.can c.requires.sides some

pub returns-clause-run : goal.returns-clause-run
returns-clause-run c =
    let some : 0 < c.args.len = omega (arith, c.if-len-eq0.false) in
    ap (λ first. consecutive first c.args.len) c.shifted.ensures
    ∙ run_shifted c.args.by c.args.first c.args.len c.requires.can c.requires.sides some

pub returns-clause-fits : goal.returns-clause-fits
returns-clause-fits c =
    let some : 0 < c.args.len = omega (arith, c.if-len-eq0.false) in
    omega (
      arith,
      c.shifted.ensures,
      run_fits c.args.by c.args.first c.args.len c.requires.can c.requires.sides some c.requires.fits,
    )
