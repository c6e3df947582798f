use Rattle.keep_edit_spec.proofs.Lists.ItemRunLaws.{item_run_goes_on}
use Rattle.keep_edit_spec.proofs.laws.inserts_add_items.Goals as goal

pub returns : goal.returns
returns c = item_run_goes_on
