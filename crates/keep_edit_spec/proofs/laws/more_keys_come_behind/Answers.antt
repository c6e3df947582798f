use Rattle.keep_edit_spec.proofs.Lists.MoreKeyRuns.{run_goes_on_inside, run_is_open}
use Rattle.keep_edit_spec.proofs.Lists.MoreKeys.{adds_more_key}
use Rattle.keep_edit_spec.proofs.laws.more_keys_come_behind.Goals as goal

pub returns-clause-line : goal.returns-clause-line
returns-clause-line c = adds_more_key

pub returns-clause-opens : goal.returns-clause-opens
returns-clause-opens c = run_is_open

pub returns-clause-inside : goal.returns-clause-inside
returns-clause-inside c = run_goes_on_inside
