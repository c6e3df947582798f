use Rattle.std.proofs.Common.{◌∙◌, ap, arith}
use Rattle.keep_index_store.specs.Runs.{consecutive}
use Rattle.keep_index_store.proofs.RemovedListLemmas.{earlier_most}
use Rattle.keep_index_store.proofs.RemovedRunLemmas.{run_earlier}
use Rattle.keep_index_store.proofs.run.first_earlier.Goals as goal

pub returns-clause-run : goal.returns-clause-run
returns-clause-run c =
    ap (λ first. consecutive first c.args.len) c.earlier_number.ensures
    ∙ run_earlier c.args.at c.args.first c.args.len c.requires.apart

pub returns-clause-fits : goal.returns-clause-fits
returns-clause-fits c = omega (arith, c.requires.fits, c.earlier_number.ensures, earlier_most c.args.at c.args.first)
