use Rattle.std.proofs.Common.{arith, length}
use Rattle.keep_edit_runs.proofs.AlikeLaws.{keys_before_last}
use Rattle.keep_edit_runs.proofs.filled_tables.is_key_of.Goals as goal

pub returns-then-len-keys : goal.returns-then-len-keys
returns-then-len-keys c = λ yes.
    keys_before_last c.args.path.now c.args.keys.now (length c.args.keys.now)
    (omega (arith, c.if-len-keys.true, c.len.ensures.count)) (omega arith) (c.begins_with_keys.ensures yes)
