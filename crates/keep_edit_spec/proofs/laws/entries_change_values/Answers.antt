use Rattle.keep_edit_spec.proofs.Insert.PutIsValue.{put_item_is_value, put_keyval_is_value}
use Rattle.keep_edit_spec.proofs.Lists.EntryChanges.{entry_change_is_set}
use Rattle.keep_edit_spec.proofs.Remove.TakenIsValue.{taken_entry_is_value}
use Rattle.keep_edit_spec.proofs.laws.entries_change_values.Goals as goal

pub returns-clause-item : goal.returns-clause-item
returns-clause-item c = put_item_is_value

pub returns-clause-keyval : goal.returns-clause-keyval
returns-clause-keyval c = put_keyval_is_value

pub returns-clause-taken : goal.returns-clause-taken
returns-clause-taken c = taken_entry_is_value

pub returns-clause-set : goal.returns-clause-set
returns-clause-set c = entry_change_is_set
